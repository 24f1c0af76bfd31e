-- A reader that begins or stops in the middle of a production: an equation of the machine `go`, for every stack behind.
use Rattle.std.specs.Prelude.{◌≡◌, false, List, ◌∷◌, ◌++◌, ℕ, ◌+◌, ◌≤◌, length, Result, Ok, Err}
use Rattle.paper.specs.Numbers.{most_rows, rows_size}
use Rattle.paper.specs.Rows.{top}
use Rattle.paper.specs.Sizes.{Counts, over_counts}
use Rattle.paper.specs.declared.Refusal.{Refusal}
use Rattle.paper.proofs.Going.{Stack, halt}
use Rattle.text_cursor.specs.declared.Cursor.{Cursor}
use Rattle.text_cursor.specs.Reader.{Looks, at}

-- the open rows, of which row n is the innermost, or not open
abbrev pub opened : ℕ → List ℕ → List ℕ
opened n o = n ∷ o

abbrev pub shut : List ℕ → List ℕ
shut o = o

-- it was at c, with the rows `f o` open, `left` levels and the symbols α to read; it is at d, with `g o`, `left'` and β
pub record Passed (gain : ℕ) (s rows rows' : List ℕ) (c d : Cursor) (parent left left' : ℕ) (f g : List ℕ → List ℕ) (α β : Stack) : Type 0 where
  pub size : length rows' ≡ rows_size
  pub within : d.stop ≤ length s
  pub few : d.rows ≤ most_rows
  pub looks : Looks s d
  pub on : gain + c.stop ≤ d.stop
  pub goes : (σ : Stack) (o : List ℕ) (q : Counts) → top (f o) ≡ parent → over_counts q ≡ false → at s rows c (f o) left q (α ++ σ) ≡ at s rows' d (g o) left' q (β ++ σ)

abbrev pub Passes : ℕ → List ℕ → List ℕ → List ℕ → Cursor → ℕ → ℕ → (List ℕ → List ℕ) → (List ℕ → List ℕ) → Stack → Stack → Result Cursor Refusal → Type 0
Passes gain s rows rows' c parent left f g α β (Ok d) = Passed gain s rows rows' c d parent left left f g α β
Passes gain s rows rows' c parent left f g α β (Err r) = (σ : Stack) (o : List ℕ) (q : Counts) → top (f o) ≡ parent → over_counts q ≡ false → at s rows c (f o) left q (α ++ σ) ≡ halt r
