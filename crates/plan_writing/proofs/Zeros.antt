-- Writes into a buffer of zeros.
use mathlib.Core.Path.{◌≡◌, refl, ap, ◌∙◌}
use mathlib.Core.List.{List, [], ◌∷◌, ◌++◌}
use Prim.Native.Nat.{ℕ, zero, suc, ◌+◌, ◌*◌, ◌-◌, ◌≤◌, ◌<◌}
use native.Mathlib.Omega.{arith}
use lib.ListN.{length, set, replicate, length-replicate, length-set, length-append}
use lib.Seq.{sets, set_comm, set-append_left}
use Rattle.paper_plan.specs.PlanNumbers.{plan_size, most_steps, most_blocks}
use Rattle.plan_writing.specs.Writing.{plan_cells}

-- a write before others
pub set_sets : (p : List ℕ) (i j a : ℕ) (ys : List ℕ) → i < j → set (sets p j ys) i a ≡ sets (set p i a) j ys
set_sets p i j a [] h = refl
set_sets p i j a (y ∷ ys) h = set_sets (set p j y) i (suc j) a ys (omega arith) ∙ ap (λ (l : List ℕ). sets l (suc j) ys) (set_comm p j i y a (λ (q : j ≡ i). omega arith))

sets_left : (xs ys : List ℕ) (i : ℕ) (vs : List ℕ) → i + length vs ≤ length xs → sets (xs ++ ys) i vs ≡ sets xs i vs ++ ys
sets_left xs ys i [] h = refl
sets_left xs ys i (v ∷ vs) h =
    ap (λ (l : List ℕ). sets l (suc i) vs) (set-append_left xs ys i v (omega arith)) ∙ sets_left (set xs i v) ys (suc i) vs (omega (arith, length-set xs i v))

sets_cons : (x : ℕ) (l : List ℕ) (i : ℕ) (vs : List ℕ) → sets (x ∷ l) (suc i) vs ≡ x ∷ sets l i vs
sets_cons x l i [] = refl
sets_cons x l i (v ∷ vs) = sets_cons x (set l i v) (suc i) vs

sets_right : (xs ys : List ℕ) (i : ℕ) (vs : List ℕ) → sets (xs ++ ys) (length xs + i) vs ≡ xs ++ sets ys i vs
sets_right [] ys i vs = let z : 0 + i ≡ i = omega arith in ap (λ (k : ℕ). sets ys k vs) z
sets_right (x ∷ xs) ys i vs = let z : suc (length xs) + i ≡ suc (length xs + i) = omega arith in
    ap (λ (k : ℕ). sets (x ∷ (xs ++ ys)) k vs) z ∙ sets_cons x (xs ++ ys) (length xs + i) vs ∙ ap (λ (l : List ℕ). x ∷ l) (sets_right xs ys i vs)

sets_zeros : (n : ℕ) (vs : List ℕ) → length vs ≤ n → sets (replicate n 0) 0 vs ≡ vs ++ replicate (n - length vs) 0
sets_zeros n [] h = let z : n ≡ n - 0 = omega arith in ap (λ (k : ℕ). replicate k 0) z
sets_zeros zero (v ∷ vs) h = absurd (omega arith)
sets_zeros (suc n) (v ∷ vs) h = let z : n - length vs ≡ suc n - suc (length vs) = omega arith in
    sets_cons v (replicate n 0) 0 vs ∙ ap (λ (l : List ℕ). v ∷ l) (sets_zeros n vs (omega arith) ∙ ap (λ (k : ℕ). vs ++ replicate k 0) z)

replicate_add : (m n : ℕ) → replicate {A = ℕ} (m + n) 0 ≡ replicate m 0 ++ replicate n 0
replicate_add zero n = let z : 0 + n ≡ n = omega arith in ap (λ (k : ℕ). replicate k 0) z
replicate_add (suc m) n = let z : suc m + n ≡ suc (m + n) = omega arith in ap (λ (k : ℕ). replicate k 0) z ∙ ap (λ (l : List ℕ). 0 ∷ l) (replicate_add m n)

-- the firsts and the steps in their places, then the counts
module _ (fs cs : List ℕ) (few : length fs ≤ most_blocks) (low : length cs ≤ 3 * most_steps) where
  abbrev a : List ℕ
  a = fs ++ replicate (most_blocks - length fs) 0

  abbrev b : List ℕ
  b = cs ++ replicate (3 * most_steps - length cs) 0

  zeros : replicate {A = ℕ} plan_size 0 ≡ 0 ∷ 0 ∷ (replicate most_blocks 0 ++ replicate (3 * most_steps) 0)
  zeros = let z : plan_size ≡ suc (suc (most_blocks + 3 * most_steps)) = omega arith in
      ap (λ (k : ℕ). replicate k 0) z ∙ ap (λ (l : List ℕ). 0 ∷ 0 ∷ l) (replicate_add most_blocks (3 * most_steps))

  size : length a ≡ most_blocks
  size = omega (arith, length-append fs (replicate (most_blocks - length fs) 0), length-replicate {A = ℕ} (most_blocks - length fs) 0)

  placed : sets (sets (replicate plan_size 0) 2 fs) 2050 cs ≡ 0 ∷ 0 ∷ (a ++ b)
  placed =
      ap (λ (l : List ℕ). sets (sets l 2 fs) 2050 cs) zeros
      ∙ ap (λ (l : List ℕ). sets l 2050 cs)
      (sets_cons 0 (0 ∷ (replicate most_blocks 0 ++ replicate (3 * most_steps) 0)) 1 fs ∙ ap (λ (l : List ℕ). 0 ∷ l) (sets_cons 0 (replicate most_blocks 0 ++ replicate (3 * most_steps) 0) 0 fs)
      ∙ ap (λ (l : List ℕ). 0 ∷ 0 ∷ l) (sets_left (replicate most_blocks 0) (replicate (3 * most_steps) 0) 0 fs (omega (arith, length-replicate {A = ℕ} most_blocks 0)) ∙ ap (λ (l : List ℕ). l ++ replicate (3 * most_steps) 0) (sets_zeros most_blocks fs few)))
      ∙ sets_cons 0 (0 ∷ (a ++ replicate (3 * most_steps) 0)) 2049 cs ∙ ap (λ (l : List ℕ). 0 ∷ l) (sets_cons 0 (a ++ replicate (3 * most_steps) 0) 2048 cs)
      ∙ ap (λ (l : List ℕ). 0 ∷ 0 ∷ l)
      (let z : 2048 ≡ length a + 0 = omega (arith, size) in ap (λ (k : ℕ). sets (a ++ replicate (3 * most_steps) 0) k cs) z ∙ sets_right a (replicate (3 * most_steps) 0) 0 cs ∙ ap (λ (l : List ℕ). a ++ l) (sets_zeros (3 * most_steps) cs low))

  pub counted : (p : List ℕ) (x y : ℕ) → p ≡ sets (sets (replicate plan_size 0) 2 fs) 2050 cs → set (set p 0 x) 1 y ≡ plan_cells x y fs cs
  counted p x y e = ap (λ (l : List ℕ). set (set l 0 x) 1 y) (e ∙ placed)
