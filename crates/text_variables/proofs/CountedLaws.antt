-- What the readers' answers tell, by their case; and the counts when a row of a counted kind begins.
use mathlib.Core.Path.{◌≡◌, subst}
use mathlib.Core.Bool.{true, false}
use mathlib.Core.List.{List}
use Prim.Native.Nat.{ℕ, ◌≤◌, ◌<◌}
use native.Mathlib.Omega.{arith}
use lib.ListN.{length}
use Rattle.std.specs.Prelude.{Result, Ok, Err}
use Rattle.paper.specs.Numbers.{most_text, most_rows, most_fragments, most_variables, rows_size, kind_operation, kind_fragment, kind_variable_definition}
use Rattle.paper.specs.Sizes.{Counts, kinded, over_counts}
use Rattle.paper.specs.declared.Refusal.{Refusal}
use Rattle.paper.proofs.Going.{Stack}
use Rattle.text_cursor.specs.Reader.{Ready, Went, Halts, Said}
use Rattle.text_cursor.specs.declared.Cursor.{Cursor}
use Rattle.text_references.proofs.CountsLaws.{fine_parts, parts_fine, over_fragments, over_variables}
use Rattle.text_references.proofs.MovedLaws.{Next}
use Rattle.text_variables.specs.Counted.{Counted, CountedHalts, CountedSaid}

module _ (gain : ℕ) (s rows rows' : List ℕ) (c : Cursor) (parent left : ℕ) (α : Stack) (r : Result Cursor Refusal) where
  pub said_went : Said gain s rows rows' c parent left α r → (d : Cursor) → r ≡ Ok d → Went gain s rows rows' c d parent left α
  said_went g d e = subst (λ (r : Result Cursor Refusal). Said gain s rows rows' c parent left α r) e g

  pub said_halts : Said gain s rows rows' c parent left α r → (x : Refusal) → r ≡ Err x → Halts s rows c parent left α x
  said_halts g x e = subst (λ (r : Result Cursor Refusal). Said gain s rows rows' c parent left α r) e g

  module _ (after : List ℕ → List ℕ) (asked : Counts → Type 0) (told : Counts → Counts → Type 0) where
    pub counted_went : CountedSaid gain s rows rows' c parent left α after asked told r → (d : Cursor) → r ≡ Ok d → Counted gain s rows rows' c d parent left α after asked told
    counted_went g d e = subst (λ (r : Result Cursor Refusal). CountedSaid gain s rows rows' c parent left α after asked told r) e g

    pub counted_halts : CountedSaid gain s rows rows' c parent left α after asked told r → (x : Refusal) → r ≡ Err x → CountedHalts s rows c parent left α asked x
    counted_halts g x e = subst (λ (r : Result Cursor Refusal). CountedSaid gain s rows rows' c parent left α after asked told r) e g

-- what the next reader asks
pub went_ready : (gain : ℕ) (s rows rows' : List ℕ) (c d : Cursor) (parent left : ℕ) (α : Stack) → length s ≤ most_text → Went gain s rows rows' c d parent left α → (n : ℕ) → n ≤ most_rows → Ready s rows' d n
went_ready gain s rows rows' c d parent left α h g n b = record { short = h; size = g.size; within = g.within; few = g.few; looks = g.looks; below = b }

pub counted_ready : (gain : ℕ) (s rows rows' : List ℕ) (c d : Cursor) (parent left : ℕ) (α : Stack) (after : List ℕ → List ℕ) (asked : Counts → Type 0) (told : Counts → Counts → Type 0) →
    length s ≤ most_text → Counted gain s rows rows' c d parent left α after asked told → (n : ℕ) → n ≤ most_rows → Ready s rows' d n
counted_ready gain s rows rows' c d parent left α after asked told h g n b = record { short = h; size = g.size; within = g.within; few = g.few; looks = g.looks; below = b }

pub next_ready : (s rows : List ℕ) (e m : ℕ) (d : Cursor) → length s ≤ most_text → length rows ≡ rows_size → e ≤ length s → m ≤ most_rows → Next s e m d → (n : ℕ) → n ≤ most_rows → Ready s rows d n
next_ready s rows e m d h i j k g n b = record { short = h; size = i; within = omega (arith, g.stop); few = omega (arith, g.rows); looks = g.looks; below = b }

-- an operation begins
pub operation_fine : (q : Counts) → over_counts q ≡ false → over_counts (kinded kind_operation q) ≡ false
operation_fine q f = let p = fine_parts q f in parts_fine (kinded kind_operation q) p.0 (omega arith) p.2

-- a fragment, which may be one too many
pub fragment_fine : (q : Counts) → over_counts q ≡ false → q.fragments < most_fragments → over_counts (kinded kind_fragment q) ≡ false
fragment_fine q f h = let p = fine_parts q f in parts_fine (kinded kind_fragment q) (omega arith) p.1 p.2

pub fragment_over : (q : Counts) → most_fragments ≤ q.fragments → over_counts (kinded kind_fragment q) ≡ true
fragment_over q h = over_fragments (kinded kind_fragment q) (omega arith)

-- a variable definition, which may be one too many
pub variable_fine : (q : Counts) → over_counts q ≡ false → q.variables < most_variables → over_counts (kinded kind_variable_definition q) ≡ false
variable_fine q f h = let p = fine_parts q f in parts_fine (kinded kind_variable_definition q) p.0 (omega arith) (omega arith)

pub variable_over : (q : Counts) → over_counts q ≡ false → most_variables ≤ q.variables → over_counts (kinded kind_variable_definition q) ≡ true
variable_over q f h = let p = fine_parts q f in over_variables (kinded kind_variable_definition q) p.0 (omega arith)
