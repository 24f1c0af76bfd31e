-- The symbols that the readers of selections read, and what they ask of their tokens.
use Rattle.std.specs.Prelude.{Bool, ◌&&◌, not, List, [], ◌∷◌, ℕ, ◌<◌, eqb, Result, Ok, Err}
use Rattle.paper.specs.Grammar.{nt, act}
use Rattle.paper.specs.Numbers.{most_rows, kind_field}
use Rattle.paper.specs.Language.{end, SelectionSet, SelectionSet?, Selection, Field, AliasRest, SpreadRest, Arguments?, Directives?, n_other}
use Rattle.paper.specs.declared.Refusal.{Refusal}
use Rattle.paper.proofs.Going.{Stack}
use Rattle.text_scan.specs.Head.{word_of, kind_of}
use Rattle.text_cursor.specs.declared.Cursor.{Cursor}
use Rattle.text_cursor.specs.Reader.{Halts}
use Rattle.text_cursor.proofs.Cells.{put}
use Rattle.text_arguments.specs.Arguments.{bytes_at}
use Rattle.text_arguments.specs.Passed.{Passed, Passes, opened, shut}

-- the token looked at is a name, and is not `on`
abbrev pub names_fragment : List ℕ → Cursor → Bool
names_fragment s c = eqb c.kind (kind_of n_other) && not (eqb (word_of (bytes_at s c)) 5)

abbrev pub selection_set_stack : Stack
selection_set_stack = nt SelectionSet ∷ []

abbrev pub selection_stack : Stack
selection_stack = nt Selection ∷ []

-- what ends a row with a selection set
abbrev pub body_stack : Stack
body_stack = nt SelectionSet ∷ act end ∷ []

-- a field; what of it stands behind its first name, behind its names, and behind its head
abbrev pub field_stack : Stack
field_stack = nt Field ∷ []

abbrev pub alias_stack : Stack
alias_stack = nt AliasRest ∷ nt Arguments? ∷ nt Directives? ∷ []

abbrev pub field_rest_stack : Stack
field_rest_stack = nt Arguments? ∷ nt Directives? ∷ []

abbrev pub field_end_stack : Stack
field_end_stack = nt SelectionSet? ∷ act end ∷ []

-- a spread or an inline fragment, behind its dots
abbrev pub spread_stack : Stack
spread_stack = nt SpreadRest ∷ []

-- row n of a field with an alias, before its name is told; of a spread, before its kind is
abbrev pub field_begun : List ℕ → ℕ → ℕ → ℕ → ℕ → ℕ → List ℕ
field_begun rows n start parent m z = put rows n kind_field start 0 parent m z 0

abbrev pub spread_begun : List ℕ → ℕ → ℕ → ℕ → List ℕ
spread_begun rows n start parent = put rows n 0 start 0 parent 0 0 0

-- a field is read from the colon of its alias on, whatever its first name was
abbrev pub AliasSaid : List ℕ → List ℕ → List ℕ → Cursor → ℕ → ℕ → ℕ → ℕ → Result Cursor Refusal → Type 0
AliasSaid s rows rows' c parent left n start r = (m z : ℕ) → Passes 1 s (field_begun rows n start parent m z) rows' c n left (opened n) (opened n) alias_stack [] r

-- a field's head is read: its row is open
abbrev pub HeadSaid : List ℕ → List ℕ → List ℕ → Cursor → ℕ → ℕ → Result Cursor Refusal → Type 0
HeadSaid s rows rows' c parent left (Ok d) = (c.rows < most_rows) × Passed 1 s rows rows' c d parent left left shut (opened c.rows) field_stack field_end_stack
HeadSaid s rows rows' c parent left (Err x) = Halts s rows c parent left field_stack x
