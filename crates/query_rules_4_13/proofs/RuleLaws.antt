-- The rules 4 and 13, by what a row is.
use mathlib.Core.Path.{◌≡◌, ap}
use mathlib.Core.Bool.{Bool, true, false, not, ◌||◌}
use Prim.Native.Nat.{ℕ}
use lib.Dec.{eqb}
use borrow.Author.Tests.{eq-eqb, ne_eqb}
use Rattle.paper.specs.Numbers.{kind_operation, kind_fragment, kind_inline, kind_type_reference}
use Rattle.paper_table.specs.References.{found}
use Rattle.paper_table.specs.Types.{Table, meant, is_composite}
use Rattle.paper_query.specs.Constructs.{Doc, row_of, kind_of, parent_of, extra_of, name_of}
use Rattle.paper_query.specs.Enclosing.{root_of}
use Rattle.paper_query.specs.Rule4Condition.{is_fragment, condition_wrong}
use Rattle.paper_query.specs.Rule13NoRoot.{no_root}

-- the kinds of fragments
module _ (k : ℕ) where
  pub fragment_yes : k ≡ kind_fragment → true ≡ eqb k kind_fragment || eqb k kind_inline
  fragment_yes e = rw (eq-eqb k kind_fragment e)

  pub fragment_rest : {r : Bool} → (k ≡ kind_fragment → ⊥) → r ≡ eqb k kind_inline → r ≡ eqb k kind_fragment || eqb k kind_inline
  fragment_rest h e = rw (ne_eqb k kind_fragment h) e

module _ (x : Table) (d : Doc) (i : ℕ) where
  -- 4
  pub condition_other : (kind_of d i ≡ kind_type_reference → ⊥) → false ≡ condition_wrong x d i
  unfolding condition_wrong
  condition_other k = rw (ne_eqb (kind_of d i) kind_type_reference k)

  module _ (k : kind_of d i ≡ kind_type_reference) where
    pub condition_elsewhere : is_fragment (row_of d (parent_of d i)) ≡ false → false ≡ condition_wrong x d i
    unfolding condition_wrong
    condition_elsewhere f = rw (eq-eqb (kind_of d i) kind_type_reference k, f)

    pub condition_judged : {r : Bool} → is_fragment (row_of d (parent_of d i)) ≡ true → r ≡ is_composite (meant x (name_of d i)) → not r ≡ condition_wrong x d i
    unfolding condition_wrong
    condition_judged f e = rw (eq-eqb (kind_of d i) kind_type_reference k, f) (ap not e)

  -- 13
  pub root_other : (kind_of d i ≡ kind_operation → ⊥) → false ≡ no_root x d i
  unfolding no_root
  root_other k = rw (ne_eqb (kind_of d i) kind_operation k)

  pub root_judged : {r : Bool} → kind_of d i ≡ kind_operation → r ≡ found (root_of x (extra_of d i)) → not r ≡ no_root x d i
  unfolding no_root
  root_judged k e = rw (eq-eqb (kind_of d i) kind_operation k) (ap not e)
