-- What the readers of one token do: they write a row or its end, and the cursor goes past the token.
use Rattle.std.specs.Prelude.{◌≡◌, Bool, false, ◌≢◌, List, [], ◌∷◌, ◌++◌, ℕ, ◌+◌, ◌*◌, ◌≤◌, ◌<◌, length, set, Result, Ok, Err}
use Rattle.std.proofs.lemmas.List.Edits.{sets}
use Rattle.paper.specs.Grammar.{nt, act}
use Rattle.paper.specs.Numbers.{most_rows, rows_size}
use Rattle.paper.specs.Language.{end}
use Rattle.paper.specs.Rows.{top}
use Rattle.paper.specs.Sizes.{Counts, over_counts}
use Rattle.paper.specs.declared.Refusal.TheVariants.{TooDeep, TooManyRows}
use Rattle.paper.specs.declared.Refusal.{Refusal}
use Rattle.paper.proofs.Lexing.{from}
use Rattle.paper.proofs.Going.{Stack}
use Rattle.text_scan.specs.Head.{head_of}
use Rattle.text_cursor.specs.declared.Cursor.{Cursor}
use Rattle.text_cursor.specs.Reader.{Looks, moved_to, at, Halts, Said}
use Rattle.text_leaves.specs.Stacks.{value_part, value_stack, entry_stack}

-- the cursor past c's token, with n rows
abbrev pub past : List ℕ → Cursor → ℕ → Result Cursor Refusal
past s c n = moved_to c.end n (head_of (from s c.end))

-- a row of one token: its kind k, name m, size z and extra x; there is room for it or not
pub data Leaf (s rows rows' : List ℕ) (c : Cursor) (parent k m z x : ℕ) (r : Result Cursor Refusal) : Type 0 where
  full : c.rows ≡ most_rows → r ≡ Err (TooManyRows c.start) → Leaf s rows rows' c parent k m z x r
  wrote : c.rows < most_rows → rows' ≡ sets rows (7 * c.rows) (k ∷ c.start ∷ c.end ∷ parent ∷ m ∷ z ∷ x ∷ []) → r ≡ past s c (c.rows + 1) → Leaf s rows rows' c parent k m z x r

-- c's token opens a level, and a row of kind k that is not ended yet; there is a level left and room for the row, or not
pub data Open (s rows rows' : List ℕ) (c : Cursor) (parent left k : ℕ) (r : Result Cursor Refusal) : Type 0 where
  deep : left ≡ 0 → r ≡ Err (TooDeep c.start) → Open s rows rows' c parent left k r
  crowded : left ≢ 0 → c.rows ≡ most_rows → r ≡ Err (TooManyRows c.start) → Open s rows rows' c parent left k r
  entered : left ≢ 0 → c.rows < most_rows → rows' ≡ sets rows (7 * c.rows) (k ∷ c.start ∷ 0 ∷ parent ∷ 0 ∷ 0 ∷ 0 ∷ []) → r ≡ past s c (c.rows + 1) → Open s rows rows' c parent left k r

-- row n ends with c's token
pub record Close (s rows rows' : List ℕ) (c : Cursor) (n : ℕ) (r : Result Cursor Refusal) : Type 0 where
  pub ended : rows' ≡ set rows (7 * n + 2) c.end
  pub moved : r ≡ past s c c.rows

-- a value without a level of its own reads alike at every level: a scalar, constant or not; a variable
abbrev pub SaidScalar : List ℕ → List ℕ → List ℕ → Cursor → ℕ → Result Cursor Refusal → Type 0
SaidScalar s rows rows' c parent r = (left : ℕ) (constant : Bool) → Said 1 s rows rows' c parent left (value_stack constant) r

abbrev pub SaidVariable : List ℕ → List ℕ → List ℕ → Cursor → ℕ → Result Cursor Refusal → Type 0
SaidVariable s rows rows' c parent r = (left : ℕ) → Said 1 s rows rows' c parent left (value_stack false) r

-- Name : of an entry was read, and its row of kind k is open: the machine expects the value, and then the row's end
pub record Named (s rows rows' : List ℕ) (c d : Cursor) (parent k : ℕ) : Type 0 where
  pub room : c.rows < most_rows
  pub size : length rows' ≡ rows_size
  pub within : d.stop ≤ length s
  pub few : d.rows ≤ most_rows
  pub looks : Looks s d
  pub on : c.stop ≤ d.stop
  pub goes : (left : ℕ) (constant : Bool) (σ : Stack) (o : List ℕ) (q : Counts) → top o ≡ parent → over_counts q ≡ false →
      at s rows c o left q (entry_stack k constant ++ σ) ≡ at s rows' d (c.rows ∷ o) left q (nt (value_part constant) ∷ act end ∷ σ)

abbrev pub SaidNamed : List ℕ → List ℕ → List ℕ → Cursor → ℕ → ℕ → Result Cursor Refusal → Type 0
SaidNamed s rows rows' c parent k (Ok d) = Named s rows rows' c d parent k
SaidNamed s rows rows' c parent k (Err x) = (left : ℕ) (constant : Bool) → Halts s rows c parent left (entry_stack k constant) x
