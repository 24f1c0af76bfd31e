-- What is asked of a walk, test by test.
use mathlib.Core.Path.{◌≡◌, sym, ap, ◌∙◌, subst}
use mathlib.Core.Bool.{Bool, true, false, true≢false}
use mathlib.Core.List.{List}
use Prim.Native.Nat.{ℕ, ◌+◌, ◌≤◌, ◌<◌}
use native.Mathlib.Decide.{dec_lt}
use native.Mathlib.Omega.{arith}
use lib.ListN.{length, get_or}
use lib.Dec.{eqb}
use borrow.Author.Tests.{eqb-true}
use Rattle.paper_table.specs.TableNumbers.{tag_object}
use Rattle.paper_table.specs.Types.{Table, Definition, table_of, is_object, is_composite}
use Rattle.paper_query.specs.Enclosing.{definition_at}
use Rattle.table_book.specs.Book.{count_in}
use Rattle.table_types.specs.Booked.{Booked, kind_in}
use Rattle.query_rows.specs.Rowed.{Decides}
use Rattle.query_types.proofs.CompositeLaws.{kind_is, output_below}
use Rattle.paper_plan.specs.PlanNumbers.{blocks_in, WellFormed}
use Rattle.paper_plan.specs.WalkNumbers.{most_walked, variables_size}
use Rattle.paper_plan.specs.WalkCalls.{CanWalk}
use Rattle.plan_walk_asked.specs.Asked.{Known}

-- an object's record is one of the table's
module _ (t book : List ℕ) (b : Booked t book) where
  pub object_is : (o k : ℕ) → k ≡ kind_in book o → eqb k tag_object ≡ is_object (definition_at (table_of t) o)
  object_is o k e = ap (λ (x : ℕ). eqb x tag_object) (e ∙ kind_is t book b o)

  pub object_below : (o : ℕ) → is_object (definition_at (table_of t) o) ≡ true → o < count_in book
  object_below o e = output_below t book b o (output (definition_at (table_of t) o) e)
    where
      output : (d : Definition) → is_object d ≡ true → is_composite d ≡ true
      output d q = rw (eqb-true d.tag tag_object q)

-- one block more
pub known_more : (p blocks : List ℕ) (j : ℕ) → ((i : ℕ) → i < j → get_or blocks i 0 < blocks_in p) → get_or blocks j 0 < blocks_in p → (i : ℕ) → i < j + 1 → get_or blocks i 0 < blocks_in p
known_more p blocks j f h i l = go (dec_lt i j)
  where
    go : Dec (i < j) → get_or blocks i 0 < blocks_in p
    go (yes u) = f i u
    go (no u) = let z : j ≡ i = omega arith in subst (λ (k : ℕ). get_or blocks k 0 < blocks_in p) z h

-- all that is asked, where the last test is of the blocks
pub asked_is : (t : Table) (p : List ℕ) (o : ℕ) (blocks variables : List ℕ) → length blocks ≤ most_walked → variables_size ≤ length variables → is_object (definition_at t o) ≡ true → WellFormed t p
    → (r : Bool) → Decides r (Known p blocks) → Decides r (CanWalk t p o blocks variables)
asked_is t p o blocks variables f v e w true k = record { well_formed = w; known = k; object_record = e; few_blocks = f; all_variables = v }
asked_is t p o blocks variables f v e w false k = λ c. k c.known

pub not_object : (t : Table) (p : List ℕ) (o : ℕ) (blocks variables : List ℕ) → is_object (definition_at t o) ≡ false → CanWalk t p o blocks variables → ⊥
not_object t p o blocks variables e c = true≢false (sym c.object_record ∙ e)
