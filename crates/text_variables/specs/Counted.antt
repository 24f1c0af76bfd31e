-- What the readers of definitions answer. Unlike the readers below them they change the counts, and some begin or end in the middle of a row.
use Rattle.std.specs.Prelude.{◌≡◌, false, List, ◌∷◌, ◌++◌, ℕ, ◌+◌, ◌≤◌, length, Result, Ok, Err}
use Rattle.paper.specs.Numbers.{most_rows, rows_size}
use Rattle.paper.specs.Rows.{top}
use Rattle.paper.specs.Sizes.{Counts, over_counts}
use Rattle.paper.specs.declared.Refusal.{Refusal}
use Rattle.paper.proofs.Going.{Stack, halt}
use Rattle.text_cursor.specs.Reader.{Looks, at}
use Rattle.text_cursor.specs.declared.Cursor.{Cursor}

-- a reader of the symbols α, which takes `gain` bytes at least: it was at c with `rows` and counts of which `asked` holds; it is at d with
-- `rows'`, the open rows that `after` gives, and counts to which `told` holds of those before
pub record Counted (gain : ℕ) (s rows rows' : List ℕ) (c d : Cursor) (parent left : ℕ) (α : Stack) (after : List ℕ → List ℕ) (asked : Counts → Type 0) (told : Counts → Counts → Type 0) : Type 0 where
  pub size : length rows' ≡ rows_size
  pub within : d.stop ≤ length s
  pub few : d.rows ≤ most_rows
  pub looks : Looks s d
  pub on : gain + c.stop ≤ d.stop
  pub goes : (σ : Stack) (o : List ℕ) (q : Counts) → top o ≡ parent → over_counts q ≡ false → asked q →
      (q' : Counts) × (over_counts q' ≡ false) × told q q' × (at s rows c o left q (α ++ σ) ≡ at s rows' d (after o) left q' σ)

abbrev pub CountedHalts : List ℕ → List ℕ → Cursor → ℕ → ℕ → Stack → (Counts → Type 0) → Refusal → Type 0
CountedHalts s rows c parent left α asked r = (σ : Stack) (o : List ℕ) (q : Counts) → top o ≡ parent → over_counts q ≡ false → asked q → at s rows c o left q (α ++ σ) ≡ halt r

abbrev pub CountedSaid : ℕ → List ℕ → List ℕ → List ℕ → Cursor → ℕ → ℕ → Stack → (List ℕ → List ℕ) → (Counts → Type 0) → (Counts → Counts → Type 0) → Result Cursor Refusal → Type 0
CountedSaid gain s rows rows' c parent left α after asked told (Ok d) = Counted gain s rows rows' c d parent left α after asked told
CountedSaid gain s rows rows' c parent left α after asked told (Err r) = CountedHalts s rows c parent left α asked r

-- the open rows afterwards
abbrev pub stays : List ℕ → List ℕ
stays o = o

abbrev pub opens : ℕ → List ℕ → List ℕ
opens n o = n ∷ o

-- what is asked and told of counts
abbrev pub any_counts : Counts → Type 0
any_counts q = Unit {0}

abbrev pub fragments_are : ℕ → Counts → Type 0
fragments_are k q = q.fragments ≡ k

abbrev pub variables_are : ℕ → Counts → Type 0
variables_are k q = q.variables ≡ k

abbrev pub same_counts : Counts → Counts → Type 0
same_counts q q' = q' ≡ q

abbrev pub same_fragments : Counts → Counts → Type 0
same_fragments q q' = q'.fragments ≡ q.fragments

abbrev pub fragments_become : ℕ → Counts → Counts → Type 0
fragments_become k q q' = q'.fragments ≡ k
