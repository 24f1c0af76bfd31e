-- The words that definitions begin with, and the symbols that end them.
use Rattle.std.specs.Prelude.{◌≡◌, cond, List, [], ◌∷◌, ℕ, ◌+◌, ◌≤◌, eqb}
use Rattle.paper.specs.Grammar.{nt, act}
use Rattle.paper.specs.Language.{end, Directives?, SelectionSet, n_other}
use Rattle.paper.proofs.Going.{Stack}
use Rattle.text_scan.specs.Head.{word_of, kind_of}
use Rattle.text_cursor.specs.declared.Cursor.{Cursor}
use Rattle.text_arguments.specs.Arguments.{bytes_at}

-- the last symbols of an operation or a fragment, without its directives and with them
abbrev pub set_stack : Stack
set_stack = nt SelectionSet ∷ act end ∷ []

abbrev pub body_stack : Stack
body_stack = nt Directives? ∷ set_stack

-- which word the token looked at is; of no name it is 0
abbrev pub word_at : List ℕ → Cursor → ℕ
word_at s c = cond (eqb c.kind (kind_of n_other)) (word_of (bytes_at s c)) 0

-- the fragments after a definition that begins at c
abbrev pub fragments_after : List ℕ → Cursor → ℕ → ℕ
fragments_after s c before = cond (eqb (word_at s c) 4) (before + 1) before

-- the token looked at is the operation type with that extra
abbrev pub AtType : List ℕ → Cursor → ℕ → Type 0
AtType s c extra = (c.kind ≡ kind_of n_other) × (word_of (bytes_at s c) ≡ extra + 1) × (extra ≤ 2)

-- the token looked at is the name `fragment`
abbrev pub AtFragment : List ℕ → Cursor → Type 0
AtFragment s c = (c.kind ≡ kind_of n_other) × (word_of (bytes_at s c) ≡ 4)
