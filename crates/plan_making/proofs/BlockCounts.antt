-- An operation has fewer blocks behind its own than there are rows: they rise, and its own row is none of them.
use mathlib.Core.Path.{◌≡◌, refl, sym, ap, ◌∙◌}
use mathlib.Core.Bool.{Bool, true, false, true≢false, ◌||◌}
use mathlib.Core.List.{List, [], ◌∷◌}
use Prim.Native.Nat.{ℕ, zero, suc, ◌+◌, ◌≤◌, ◌<◌}
use native.Mathlib.Decide.{dec_lt}
use native.Mathlib.Omega.{arith}
use lib.ListN.{length, get_or, take}
use lib.Seq.{get_or-take, length-take-le}
use lib.Dec.{eqb}
use borrow.Author.Tests.{eq-eqb, eqb-true}
use Rattle.paper.specs.Numbers.{kind_operation, kind_field}
use Rattle.paper_query.specs.Constructs.{Doc, count, row_of, is}
use Rattle.paper_plan.specs.Collecting.{elem}
use Rattle.paper_plan.specs.Selecting.{IsBlock, Above, Rising}
use Rattle.plan_theory.proofs.NumbersOf.{or_l, or_r}
use Rattle.plan_theory.proofs.Plannable.{in_range}
use Rattle.plan_blocks.specs.Blocks.{BlocksTo}

above_all : (z : ℕ) (zs : List ℕ) → Above z zs → (y : ℕ) → elem eqb y zs ≡ true → suc z ≤ y
above_all z [] a y e = absurd (true≢false (sym e))
above_all z (v ∷ zs) a y e = go (eqb y v) refl (λ (q : elem eqb y zs ≡ true). above_all z zs a.1 y q)
  where
    go : (b : Bool) → eqb y v ≡ b → (elem eqb y zs ≡ true → suc z ≤ y) → suc z ≤ y
    go true q ih = omega (arith, eqb-true y v q, a.0)
    go false q ih = ih (sym (ap (λ (c : Bool). c || elem eqb y zs) q) ∙ e)

rising_most : (xs : List ℕ) (low n : ℕ) → low ≤ n → Rising xs → ((x : ℕ) → elem eqb x xs ≡ true → (low ≤ x) × (x < n)) → length xs + low ≤ n
rising_most [] low n h r f = omega arith
rising_most (x ∷ xs) low n h r f =
    let w = f x (or_l (elem eqb x xs) (eq-eqb x x refl)) in
    let m = rising_most xs (suc x) n (omega (arith, w.1)) r.1 (λ y e. (above_all x xs r.0 y e, (f y (or_r (eqb y x) e)).1)) in
    omega (arith, m, w.0)

-- one number from low on is none of them
pub rising_but : (xs : List ℕ) (low n o : ℕ) → low ≤ o → o < n → Rising xs → ((x : ℕ) → elem eqb x xs ≡ true → (low ≤ x) × (x < n)) → (elem eqb o xs ≡ true → ⊥) → length xs + low < n
rising_but [] low n o h l r f g = omega arith
rising_but (x ∷ xs) low n o h l r f g = go (dec_lt x o) (λ (u : x < o). rising_but xs (suc x) n o u l r.1 rest (λ e. g (or_r (eqb o x) e)))
  where
    w : (low ≤ x) × (x < n)
    w = f x (or_l (elem eqb x xs) (eq-eqb x x refl))

    rest : (y : ℕ) → elem eqb y xs ≡ true → (suc x ≤ y) × (y < n)
    rest y e = (above_all x xs r.0 y e, (f y (or_r (eqb y x) e)).1)

    apart : o ≡ x → ⊥
    apart e = g (or_l (elem eqb o xs) (eq-eqb o x e))

    less : (x < o → ⊥) → Dec (o < x) → o < x
    less b (yes a) = a
    less b (no a) = absurd (apart (omega arith))

    go : Dec (x < o) → (x < o → length xs + suc x < n) → length (x ∷ xs) + low < n
    go (yes u) ih = let m = ih u in omega (arith, m, w.0)
    go (no u) ih = let m = rising_most xs (suc x) n (omega (arith, w.1)) r.1 rest in let v : o < x = less u (dec_lt o x) in omega (arith, m)

module _ (d : Doc) (o : ℕ) (op : is kind_operation (row_of d o) ≡ true) (out : List ℕ) (m n : ℕ) (c : count d ≡ n) (long : n ≤ length out) (w : BlocksTo d o out m n) where
  pub blocks_few : m < n
  blocks_few =
      let l = in_range d kind_operation o refl op in
      let q = rising_but (take m out) 0 n o (omega arith) (omega (arith, c)) w.rising (λ x e. (omega arith, w.low x e)) (λ e. none (w.sound o e)) in
      omega (arith, q, length-take-le m out (omega (arith, w.few)))
    where
      none : IsBlock d o o → ⊥
      none b = absurd (let x = eqb-true (row_of d o).kind kind_field b.field_row in let y = eqb-true (row_of d o).kind kind_operation op in omega (arith, x, y))

  elem_at : (xs : List ℕ) (b : ℕ) → b < length xs → elem eqb (get_or xs b 0) xs ≡ true
  elem_at [] b h = absurd (omega arith)
  elem_at (x ∷ xs) zero h = or_l (elem eqb x xs) (eq-eqb x x refl)
  elem_at (x ∷ xs) (suc b) h = or_r (eqb (get_or xs b 0) x) (elem_at xs b (omega arith))

  pub block_low : (b : ℕ) → b < m → get_or out b 0 < n
  block_low b h =
      let e = get_or-take m out b 0 h in
      let q = w.low (get_or (take m out) b 0) (elem_at (take m out) b (omega (arith, length-take-le m out (omega (arith, w.few))))) in
      omega (arith, e, q)
