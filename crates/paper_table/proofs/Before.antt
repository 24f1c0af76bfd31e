-- Numbers compared from the first on: an order. Lists whose elements do not fall in it; of such breaks the least is the first.
use mathlib.Core.Path.{◌≡◌, refl, sym, ◌∙◌}
use mathlib.Core.Bool.{Bool, true, false, ◌&&◌, ◌||◌, false≢true, true≢false}
use mathlib.Core.List.{List, [], ◌∷◌, ◌++◌}
use Prim.Native.Nat.{ℕ, ◌≤◌, ◌<◌}
use native.Mathlib.Omega.{arith}
use lib.Dec.{ltb, eqb}
use borrow.Author.Tests.{ltb-true, ltb-false, eqb-true, eqb-false, lt-ltb, eq-eqb}
use Rattle.paper_table.specs.Lists.{only_if}
use Rattle.paper_table.specs.Judging.{not_after}

-- what the test `not_after` decides
pub data Before : List ℕ → List ℕ → Type 0 where
  empty : {ys : List ℕ} → Before [] ys
  less : {x y : ℕ} {xs ys : List ℕ} → x < y → Before (x ∷ xs) (y ∷ ys)
  same : {x y : ℕ} {xs ys : List ℕ} → x ≡ y → Before xs ys → Before (x ∷ xs) (y ∷ ys)

pub before_complete : {xs ys : List ℕ} → Before xs ys → not_after xs ys ≡ true
unfolding not_after
before_complete empty = refl
before_complete (less {x = x} {y = y} h) = rw (lt-ltb x y h)
before_complete (same {x = x} {y = y} e b) = rw (eq-eqb x y e, before_complete b) (or_true (ltb x y))
  where
    or_true : (c : Bool) → c || true ≡ true
    or_true true = refl
    or_true false = refl

pub before_sound : (xs ys : List ℕ) → not_after xs ys ≡ true → Before xs ys
unfolding not_after
before_sound [] ys e = empty
before_sound (x ∷ xs) [] e = absurd (false≢true e)
before_sound (x ∷ xs) (y ∷ ys) e = go (ltb x y) (eqb x y) refl refl e (λ q. before_sound xs ys q)
  where
    go : (a b : Bool) → ltb x y ≡ a → eqb x y ≡ b → a || b && not_after xs ys ≡ true → (not_after xs ys ≡ true → Before xs ys) → Before (x ∷ xs) (y ∷ ys)
    go true b p q e f = less (ltb-true x y p)
    go false true p q e f = same (eqb-true x y q) (f e)
    go false false p q e f = absurd (false≢true e)

pub before_refl : (xs : List ℕ) → Before xs xs
before_refl [] = empty
before_refl (x ∷ xs) = same refl (before_refl xs)

lt_trans : (x y z : ℕ) → x < y → y < z → x < z
lt_trans x y z h k = omega arith

lt_eq : (x y z : ℕ) → x < y → y ≡ z → x < z
lt_eq x y z h k = omega arith

eq_lt : (x y z : ℕ) → x ≡ y → y < z → x < z
eq_lt x y z h k = omega arith

pub before_trans : {xs ys zs : List ℕ} → Before xs ys → Before ys zs → Before xs zs
before_trans empty c = empty
before_trans (less h) (less k) = less (lt_trans _ _ _ h k)
before_trans (less h) (same e c) = less (lt_eq _ _ _ h e)
before_trans (same e b) (less k) = less (eq_lt _ _ _ e k)
before_trans (same e b) (same f c) = same (e ∙ f) (before_trans b c)

-- one of two is not after the other
pub before_total : (xs ys : List ℕ) → not_after xs ys ≡ false → Before ys xs
unfolding not_after
before_total [] ys e = absurd (true≢false e)
before_total (x ∷ xs) [] e = empty
before_total (x ∷ xs) (y ∷ ys) e = go (ltb x y) (eqb x y) refl refl e (λ q. before_total xs ys q)
  where
    go : (a b : Bool) → ltb x y ≡ a → eqb x y ≡ b → a || b && not_after xs ys ≡ false → (not_after xs ys ≡ false → Before ys xs) → Before (y ∷ ys) (x ∷ xs)
    go true b p q e f = absurd (true≢false e)
    go false true p q e f = same (sym (eqb-true x y q)) (f e)
    go false false p q e f = let h : y ≤ x = ltb-false x y p in let g = eqb-false x y q in less (below h g)
      where
        below : y ≤ x → (x ≡ y → ⊥) → y < x
        below h g = omega arith

-- elements whose keys do not fall, from lo on and not past hi
module _ {A : Type 0} (key : A → List ℕ) where
  pub data Rise : List ℕ → List A → List ℕ → Type 0 where
    done : {lo hi : List ℕ} → Before lo hi → Rise lo [] hi
    then : {lo hi : List ℕ} {x : A} {xs : List A} → Before lo (key x) → Rise (key x) xs hi → Rise lo (x ∷ xs) hi

  pub rise_lower : {low lo hi : List ℕ} {xs : List A} → Before low lo → Rise lo xs hi → Rise low xs hi
  rise_lower h (done b) = done (before_trans h b)
  rise_lower h (then b r) = then (before_trans h b) r

  pub rise_append : {lo mid hi : List ℕ} {xs ys : List A} → Rise lo xs mid → Rise mid ys hi → Rise lo (xs ++ ys) hi
  rise_append (done b) r = rise_lower b r
  rise_append (then b q) r = then b (rise_append q r)

  pub rise_higher : {lo hi high : List ℕ} {xs : List A} → Rise lo xs hi → Before hi high → Rise lo xs high
  rise_higher (done b) h = done (before_trans b h)
  rise_higher (then b r) h = then b (rise_higher r h)

  pub rise_one : {lo hi : List ℕ} (b : Bool) (x : A) → Before lo (key x) → Before (key x) hi → Rise lo (only_if b x) hi
  rise_one true x h k = then h (done k)
  rise_one false x h k = done (before_trans h k)
