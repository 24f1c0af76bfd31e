-- What the readers of a type reference ask and answer: equations of the machine, which writes the row while its marks are read.
use Rattle.std.specs.Prelude.{◌≡◌, false, List, [], ◌∷◌, ◌++◌, ℕ, zero, suc, ◌+◌, ◌-◌, ◌*◌, ◌≤◌, ◌<◌, length, Result, Ok, Err}
use Rattle.paper.specs.Grammar.{nt, tm, act}
use Rattle.paper.specs.Numbers.{most_text, most_rows, most_wrappers, rows_size, kind_type_reference, wrap_list}
use Rattle.paper.specs.Language.{the, bracket_r, row, kind, wrap, end, TypeRef, Bang?, bracket_l}
use Rattle.paper.specs.Rows.{top}
use Rattle.paper.specs.Sizes.{Counts, over_counts}
use Rattle.paper.specs.declared.Refusal.{Refusal}
use Rattle.paper.proofs.Lexing.{from}
use Rattle.paper.proofs.Going.{Stack, st, Out, halt, go}
use Rattle.text_scan.specs.Head.{kind_of}
use Rattle.text_cursor.specs.Reader.{Looks, at}
use Rattle.text_cursor.specs.declared.Cursor.{Cursor}
use Rattle.text_cursor.proofs.Cells.{put}
use Rattle.text_references.specs.declared.Wrapped.{Wrapped}

-- the counts with k wrappers
abbrev pub wrapped_by : ℕ → Counts → Counts
wrapped_by k q = record { fragments = q.fragments; variables = q.variables; wrappers = k }

-- what closes k brackets
abbrev pub closers : ℕ → Stack
closers zero = []
closers (suc k) = tm (the bracket_r) ∷ act (wrap wrap_list) ∷ nt Bang? ∷ closers k

abbrev pub bang_stack : Stack
bang_stack = nt Bang? ∷ []

-- a type reference, with its row
abbrev pub type_stack : Stack
type_stack = act row ∷ act (kind kind_type_reference 0) ∷ nt TypeRef ∷ act end ∷ []

-- an extra of k wrappers is less
unfoldable pub four : ℕ → ℕ
four zero = 1
four (suc k) = four k * 4

-- an extra before a bracket is closed, and before the ! behind it: the next ones fit 32 bits
abbrev pub most_before : ℕ
most_before = 268435456

abbrev pub most_inside : ℕ
most_inside = 1073741824

-- a text, and a cursor that looks at its token
pub record Seen (s : List ℕ) (c : Cursor) : Type 0 where
  pub short : length s ≤ most_text
  pub within : c.stop ≤ length s
  pub few : c.rows ≤ most_rows
  pub looks : Looks s c

-- the same in a type reference, with not too many marks, and an extra below `most`
pub record Marked (s : List ℕ) (w : Wrapped) (most : ℕ) : Type 0 where
  pub seen : Seen s w.at
  pub marks : w.marks ≤ most_wrappers
  pub small : w.extra < most

-- the machine in the type reference of row n, which begins at a, has the parent p, and the name m of z bytes
abbrev pub inside : List ℕ → Wrapped → List ℕ → ℕ → ℕ → ℕ → ℕ → ℕ → List ℕ → ℕ → Counts → Stack → Out
inside s w cells n a p m z o left q σ =
    go (st (put cells n kind_type_reference a 0 p m z w.extra) w.at.rows (n ∷ o) w.at.stop left (wrapped_by w.marks q)) σ (from s w.at.stop)

-- a reader of the symbols α, which close so many brackets: it was at w, and is at v
pub record Wraps (s : List ℕ) (w v : Wrapped) (α : Stack) (closed : ℕ) : Type 0 where
  pub seen : Seen s v.at
  pub rows : v.at.rows ≡ w.at.rows
  pub on : w.at.stop ≤ v.at.stop
  pub marks : v.marks ≤ most_wrappers
  pub small : (j : ℕ) → w.extra < four (j + w.marks) → v.extra < four (closed + j + v.marks)
  pub goes : (cells : List ℕ) (n a p m z : ℕ) (o : List ℕ) (left : ℕ) (q : Counts) (σ : Stack) → 7 * n + 7 ≤ length cells → over_counts q ≡ false →
      inside s w cells n a p m z o left q (α ++ σ) ≡ inside s v cells n a p m z o (closed + left) q σ

abbrev pub WrapHalts : List ℕ → Wrapped → Stack → Refusal → Type 0
WrapHalts s w α r = (cells : List ℕ) (n a p m z : ℕ) (o : List ℕ) (left : ℕ) (q : Counts) (σ : Stack) → 7 * n + 7 ≤ length cells → over_counts q ≡ false →
    inside s w cells n a p m z o left q (α ++ σ) ≡ halt r

abbrev pub Says : List ℕ → Wrapped → Stack → ℕ → Result Wrapped Refusal → Type 0
Says s w α closed (Ok v) = Wraps s w v α closed
Says s w α closed (Err r) = WrapHalts s w α r

-- the brackets are open, and the cursor looks at what is no other
pub record Opened (s : List ℕ) (c : Cursor) (left : ℕ) (w : Wrapped) : Type 0 where
  pub seen : Seen s w.at
  pub rows : w.at.rows ≡ c.rows
  pub on : c.stop ≤ w.at.stop
  pub marks : w.marks ≤ most_wrappers
  pub levels : w.marks ≤ left
  pub bare : w.at.kind ≡ kind_of bracket_l → ⊥
  pub goes : (cells o : List ℕ) (q : Counts) (σ : Stack) → over_counts q ≡ false →
      at s cells c o left (wrapped_by 0 q) (nt TypeRef ∷ σ) ≡ at s cells w.at o (left - w.marks) (wrapped_by w.marks q) (nt TypeRef ∷ (closers w.marks ++ σ))

abbrev pub Opens : List ℕ → Cursor → ℕ → Result Wrapped Refusal → Type 0
Opens s c left (Ok w) = Opened s c left w
Opens s c left (Err r) = (cells o : List ℕ) (q : Counts) (σ : Stack) → over_counts q ≡ false → at s cells c o left (wrapped_by 0 q) (nt TypeRef ∷ σ) ≡ halt r

-- the machine at the name of a type reference, whose row has none yet
abbrev pub unnamed : List ℕ → Cursor → ℕ → List ℕ → ℕ → ℕ → ℕ → List ℕ → ℕ → Counts → Stack → Out
unnamed s c marks cells n a p o left q σ = at s (put cells n kind_type_reference a 0 p 0 0 0) c (n ∷ o) left (wrapped_by marks q) (nt TypeRef ∷ (closers marks ++ σ))

-- name and closing brackets are read, up to v
pub record Based (s : List ℕ) (c : Cursor) (marks : ℕ) (v : Wrapped) : Type 0 where
  pub seen : Seen s v.at
  pub rows : v.at.rows ≡ c.rows
  pub on : c.stop < v.at.stop
  pub marked : v.marks ≤ most_wrappers
  pub goes : (cells : List ℕ) (n a p : ℕ) (o : List ℕ) (left : ℕ) (q : Counts) (σ : Stack) → 7 * n + 7 ≤ length cells → over_counts q ≡ false →
      unnamed s c marks cells n a p o left q σ ≡ inside s v cells n a p c.start (c.end - c.start) o (marks + left) q σ

abbrev pub Named : List ℕ → Cursor → ℕ → Result Wrapped Refusal → Type 0
Named s c marks (Ok v) = Based s c marks v
Named s c marks (Err r) = (cells : List ℕ) (n a p : ℕ) (o : List ℕ) (left : ℕ) (q : Counts) (σ : Stack) → 7 * n + 7 ≤ length cells → over_counts q ≡ false →
    unnamed s c marks cells n a p o left q σ ≡ halt r

-- the rest of a type reference behind its opening brackets asks
pub record TypedReady (s rows : List ℕ) (w : Wrapped) (n : ℕ) : Type 0 where
  pub seen : Seen s w.at
  pub size : length rows ≡ rows_size
  pub marks : w.marks ≤ most_wrappers
  pub bare : w.at.kind ≡ kind_of bracket_l → ⊥
  pub room : n < most_rows

-- it is read, up to d, and row n stands
pub record Rested (s rows rows' : List ℕ) (w : Wrapped) (parent n start : ℕ) (d : Cursor) : Type 0 where
  pub size : length rows' ≡ rows_size
  pub seen : Seen s d
  pub on : w.at.stop < d.stop
  pub wrappers : ℕ
  pub wrapped : wrappers ≤ most_wrappers
  pub goes : (o : List ℕ) (left : ℕ) (q : Counts) (σ : Stack) → over_counts q ≡ false →
      unnamed s w.at w.marks rows n start parent o left q (act end ∷ σ) ≡ at s rows' d o (w.marks + left) (wrapped_by wrappers q) σ

abbrev pub RestSaid : List ℕ → List ℕ → List ℕ → Wrapped → ℕ → ℕ → ℕ → Result Cursor Refusal → Type 0
RestSaid s rows rows' w parent n start (Ok d) = Rested s rows rows' w parent n start d
RestSaid s rows rows' w parent n start (Err r) = (o : List ℕ) (left : ℕ) (q : Counts) (σ : Stack) → over_counts q ≡ false → unnamed s w.at w.marks rows n start parent o left q (act end ∷ σ) ≡ halt r

-- a whole type reference, where no wrapper is counted yet
pub record TypeWent (s rows rows' : List ℕ) (c d : Cursor) (parent left : ℕ) : Type 0 where
  pub size : length rows' ≡ rows_size
  pub within : d.stop ≤ length s
  pub few : d.rows ≤ most_rows
  pub looks : Looks s d
  pub on : c.stop < d.stop
  pub wrappers : ℕ
  pub wrapped : wrappers ≤ most_wrappers
  pub goes : (σ : Stack) (o : List ℕ) (q : Counts) → top o ≡ parent → over_counts q ≡ false → at s rows c o left (wrapped_by 0 q) (type_stack ++ σ) ≡ at s rows' d o left (wrapped_by wrappers q) σ

abbrev pub TypeSaid : List ℕ → List ℕ → List ℕ → Cursor → ℕ → ℕ → Result Cursor Refusal → Type 0
TypeSaid s rows rows' c parent left (Ok d) = TypeWent s rows rows' c d parent left
TypeSaid s rows rows' c parent left (Err r) = (σ : Stack) (o : List ℕ) (q : Counts) → top o ≡ parent → over_counts q ≡ false → at s rows c o left (wrapped_by 0 q) (type_stack ++ σ) ≡ halt r
