-- The rules on names of operations, case by case, by the first operation of a name.
use mathlib.Core.Path.{◌≡◌, sym}
use mathlib.Core.Bool.{true, false}
use Prim.Native.Nat.{ℕ, suc, ◌<◌, ◌≤◌}
use lib.Dec.{ltb}
use borrow.Author.Tests.{eq-eqb, ne_eqb}
use Rattle.paper.specs.Numbers.{kind_operation}
use Rattle.paper_table.proofs.ListsLaws.{any_take}
use Rattle.paper_query.specs.Constructs.{Doc, count, row_of, kind_of, name_of, is}
use Rattle.paper_query.specs.Rule1OperationRepeated.{operation_repeated}
use Rattle.paper_query.specs.Rule2OperationUnnamed.{operation_unnamed}
use Rattle.query_links.specs.Links.{next_with}
use Rattle.query_links.proofs.Nexts.{earlier_yes, earlier_no}
use Rattle.query_siblings.specs.Alike.{kind_called}
use Rattle.query_siblings.proofs.BelowLaws.{any_next}
use Rattle.query_rule_3.specs.Called.{first_called}

module _ (d : Doc) (i : ℕ) where
  -- 1
  pub repeated_other : (kind_of d i ≡ kind_operation → ⊥) → false ≡ operation_repeated d i
  unfolding operation_repeated
  repeated_other f = rw (ne_eqb (kind_of d i) kind_operation f)

  pub repeated_unnamed : kind_of d i ≡ kind_operation → (row_of d i).name_length ≡ 0 → false ≡ operation_repeated d i
  unfolding operation_repeated
  repeated_unnamed e z = rw (eq-eqb (kind_of d i) kind_operation e, eq-eqb (row_of d i).name_length 0 z)

  pub repeated_named : kind_of d i ≡ kind_operation → ((row_of d i).name_length ≡ 0 → ⊥) → i ≤ count d → ltb (first_called d kind_operation (name_of d i)) i ≡ operation_repeated d i
  unfolding operation_repeated
  repeated_named e z h = rw (eq-eqb (kind_of d i) kind_operation e, ne_eqb (row_of d i).name_length 0 z) (sym (any_take (kind_called d kind_operation (name_of d i)) d.rows i h))

  -- 2
  pub unnamed_other : (kind_of d i ≡ kind_operation → ⊥) → false ≡ operation_unnamed d i
  unfolding operation_unnamed
  unnamed_other f = rw (ne_eqb (kind_of d i) kind_operation f)

  pub unnamed_named : kind_of d i ≡ kind_operation → ((row_of d i).name_length ≡ 0 → ⊥) → false ≡ operation_unnamed d i
  unfolding operation_unnamed
  unnamed_named e z = rw (eq-eqb (kind_of d i) kind_operation e, ne_eqb (row_of d i).name_length 0 z)

  module _ (e : kind_of d i ≡ kind_operation) (z : (row_of d i).name_length ≡ 0) (h : i ≤ count d) where
    pub unnamed_before : next_with (is kind_operation) d.rows 0 < i → true ≡ operation_unnamed d i
    unfolding operation_unnamed
    unnamed_before l = rw (eq-eqb (kind_of d i) kind_operation e, eq-eqb (row_of d i).name_length 0 z, earlier_yes (is kind_operation) d.rows i h l)

    pub unnamed_after : i ≤ next_with (is kind_operation) d.rows 0 → (n : ℕ) → count d ≡ n → ltb (next_with (is kind_operation) d.rows (suc i)) n ≡ operation_unnamed d i
    unfolding operation_unnamed
    unnamed_after l n q =
        rw (← q, eq-eqb (kind_of d i) kind_operation e, eq-eqb (row_of d i).name_length 0 z, earlier_no (is kind_operation) d.rows i h l)
        (any_next (is kind_operation) d.rows (suc i))
