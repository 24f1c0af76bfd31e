-- Rule 14, by what a row and its parent are.
use mathlib.Core.Path.{◌≡◌}
use mathlib.Core.Bool.{Bool, false}
use Prim.Native.Nat.{ℕ}
use borrow.Author.Tests.{eq-eqb, ne_eqb}
use Rattle.paper.specs.Numbers.{kind_field, kind_argument}
use Rattle.paper_table.specs.Types.{Table}
use Rattle.paper_query.specs.Constructs.{Doc, kind_of, parent_of, name_of}
use Rattle.paper_query.specs.Enclosing.{field_at}
use Rattle.paper_query.specs.Rule14Argument.{has_no_argument, argument_unknown}

module _ (x : Table) (d : Doc) (i : ℕ) where
  pub argument_other : (kind_of d i ≡ kind_argument → ⊥) → false ≡ argument_unknown x d i
  unfolding argument_unknown
  argument_other k = rw (ne_eqb (kind_of d i) kind_argument k)

  module _ (k : kind_of d i ≡ kind_argument) where
    pub argument_elsewhere : (kind_of d (parent_of d i) ≡ kind_field → ⊥) → false ≡ argument_unknown x d i
    unfolding argument_unknown
    argument_elsewhere f = rw (eq-eqb (kind_of d i) kind_argument k, ne_eqb (kind_of d (parent_of d i)) kind_field f)

    pub argument_judged : {r : Bool} → kind_of d (parent_of d i) ≡ kind_field → r ≡ has_no_argument (field_at x d (parent_of d i)) (name_of d i) → r ≡ argument_unknown x d i
    unfolding argument_unknown
    argument_judged f e = rw (eq-eqb (kind_of d i) kind_argument k, eq-eqb (kind_of d (parent_of d i)) kind_field f) e
