-- A row is read with a level less inside; and one that is no variable leaves no entry out.
use mathlib.Core.Path.{◌≡◌, refl}
use mathlib.Core.Bool.{Bool, true, false, not, cond}
use Prim.Native.Nat.{ℕ, zero, suc, ◌-◌}
use native.Mathlib.Omega.{arith}
use lib.Dec.{eqb}
use borrow.Author.Tests.{ne_eqb}
use Rattle.paper.specs.Numbers.{kind_variable, kind_integer, kind_float, kind_string, kind_boolean, kind_null, kind_enum, kind_list}
use Rattle.paper_query.specs.Constructs.{Doc, kind_of}
use Rattle.paper_values.specs.Values.{Name, Value}
use Rattle.paper_values.specs.Kinds.{Kind}
use Rattle.paper_values.specs.Coercion.{left_out}
use Rattle.paper_values.specs.RowValues.{value_by, value_at}
use Rattle.value_held.specs.Given.{Vars}

pub pick : (f : Value → Bool) (b : Bool) (x y : Value) → f x ≡ true → f y ≡ true → f (cond b x y) ≡ true
pick f true x y p q = p
pick f false x y p q = q

pub at_level : (text : ℕ) (d : Doc) (k i : ℕ) → (k ≡ 0 → ⊥) → value_at text d k i ≡ value_by text d (value_at text d (k - 1)) i
unfolding value_at
at_level text d zero i q = absurd (q refl)
at_level text d (suc k) i q = let z : suc k - 1 ≡ k = omega arith in rw z refl

module _ (kinds : Name → Kind) (vars : Vars) (text : ℕ) (d : Doc) (read : ℕ → Value) (i : ℕ) where
  abbrev stays : Value → Bool
  stays v = not (left_out kinds vars v)

  row_stays : (kind_of d i ≡ kind_variable → ⊥) → stays (value_by text d read i) ≡ true
  unfolding value_by
  row_stays a = rw (ne_eqb (kind_of d i) kind_variable a)
      (pick stays (eqb (kind_of d i) kind_integer) _ _ refl (pick stays (eqb (kind_of d i) kind_float) _ _ refl (pick stays (eqb (kind_of d i) kind_string) _ _ refl
      (pick stays (eqb (kind_of d i) kind_boolean) _ _ refl (pick stays (eqb (kind_of d i) kind_null) _ _ refl (pick stays (eqb (kind_of d i) kind_enum) _ _ refl (pick stays (eqb (kind_of d i) kind_list) _ _ refl refl)))))))

  pub plain_out : (kind_of d i ≡ kind_variable → ⊥) → left_out kinds vars (value_by text d read i) ≡ false
  plain_out a = go (left_out kinds vars (value_by text d read i)) (row_stays a)
    where
      go : (b : Bool) → not b ≡ true → b ≡ false
      go true e = absurd (let z : ◌≡◌ {A = ℕ} 0 1 = cc in omega arith)
      go false e = refl
