-- Tests written into the twelve numbers of a row, one behind the other; and its first four numbers.
use mathlib.Core.Path.{◌≡◌, refl, sym, ap, ◌∙◌}
use mathlib.Core.List.{List, [], ◌∷◌, ◌++◌}
use Prim.Native.Nat.{ℕ, zero, suc, ◌+◌, ◌*◌, ◌≤◌, ◌<◌}
use native.Mathlib.Decide.{dec_lt}
use native.Mathlib.Omega.{arith}
use lib.ListN.{length, get_or, set, length-set}
use lib.Seq.{sets, length-sets, get_or-set_same, get_or-set_other}
use Rattle.paper_plan.specs.Planning.{Test}
use Rattle.plan_walk_steps.specs.Numbers.{test_of}
use Rattle.plan_steps.specs.Table.{tests_from}
use Rattle.plan_tests.specs.Right.{row_cells, TestsAre}

-- two numbers one behind the other
pub test_is : (row : List ℕ) (m k x : ℕ) → set (set row (4 + 2 * m) k) (4 + 2 * m + 1) x ≡ sets row (4 + 2 * m) (k ∷ x ∷ [])
test_is row m k x = let z : 4 + 2 * m + 1 ≡ suc (4 + 2 * m) = omega arith in ap (λ (i : ℕ). set (set row (4 + 2 * m) k) i x) z

-- only the tests' own numbers matter
pub tests_frame : (a b : List ℕ) (i j m : ℕ) → ((k : ℕ) → k < 2 * m → get_or a (i + k) 0 ≡ get_or b (j + k) 0) → tests_from a i m ≡ tests_from b j m
unfolding tests_from
tests_frame a b i j zero h = refl
tests_frame a b i j (suc m) h =
    let i0 : i + 0 ≡ i = omega arith in let j0 : j + 0 ≡ j = omega arith in
    let x : get_or a i 0 ≡ get_or b j 0 = ap (λ (n : ℕ). get_or a n 0) (sym i0) ∙ h 0 (omega arith) ∙ ap (λ (n : ℕ). get_or b n 0) j0 in
    let y : get_or a (i + 1) 0 ≡ get_or b (j + 1) 0 = h 1 (omega arith) in
    ap (λ (n : ℕ). test_of n (get_or a (i + 1) 0) ∷ tests_from a (i + 2) m) x
    ∙ ap (λ (n : ℕ). test_of (get_or b j 0) n ∷ tests_from a (i + 2) m) y
    ∙ ap (λ (l : List Test). test_of (get_or b j 0) (get_or b (j + 1) 0) ∷ l)
    (tests_frame a b (i + 2) (j + 2) m (λ k l. let p : i + 2 + k ≡ i + (2 + k) = omega arith in let q : j + 2 + k ≡ j + (2 + k) = omega arith in
    ap (λ (n : ℕ). get_or a n 0) p ∙ h (2 + k) (omega arith) ∙ ap (λ (n : ℕ). get_or b n 0) (sym q)))

tests_more : (t : List ℕ) (i m : ℕ) → tests_from t i (suc m) ≡ tests_from t i m ++ (test_of (get_or t (i + 2 * m) 0) (get_or t (i + 2 * m + 1) 0) ∷ [])
unfolding tests_from
tests_more t i zero = let z : i ≡ i + 2 * 0 = omega arith in ap (λ (n : ℕ). test_of (get_or t n 0) (get_or t (n + 1) 0) ∷ []) z
tests_more t i (suc m) =
    let z : i + 2 + 2 * m ≡ i + 2 * suc m = omega arith in
    ap (λ (l : List Test). test_of (get_or t i 0) (get_or t (i + 1) 0) ∷ l)
    (tests_more t (i + 2) m ∙ ap (λ (n : ℕ). tests_from t (i + 2) m ++ (test_of (get_or t n 0) (get_or t (n + 1) 0) ∷ [])) z)

pub tests_start : (row : List ℕ) → length row ≡ row_cells → TestsAre row 0 []
unfolding tests_from
tests_start row e = record { size = e; are = refl; kinds = λ j h. absurd (omega arith) }

-- one test more
module _ (row : List ℕ) (m : ℕ) (ts : List Test) (w : TestsAre row m ts) where
  pub tests_put : (row' : List ℕ) (k x : ℕ) → m < 4 → 1 ≤ k → k ≤ 4 → row' ≡ sets row (4 + 2 * m) (k ∷ x ∷ []) → TestsAre row' (m + 1) (ts ++ (test_of k x ∷ []))
  tests_put row' k x few least low e = record {
    size = ap length e ∙ length-sets row (4 + 2 * m) (k ∷ x ∷ []) ∙ w.size;
    are = let one : m + 1 ≡ suc m = omega arith in
        ap (tests_from row' 4) one ∙ tests_more row' 4 m
        ∙ ap (λ (l : List Test). l ++ (test_of (get_or row' (4 + 2 * m) 0) (get_or row' (4 + 2 * m + 1) 0) ∷ [])) (tests_frame row' row 4 4 m (λ j h. other (4 + j) (omega arith)) ∙ w.are)
        ∙ ap (λ (n : ℕ). ts ++ (test_of n (get_or row' (4 + 2 * m + 1) 0) ∷ [])) here ∙ ap (λ (n : ℕ). ts ++ (test_of k n ∷ [])) there;
    kinds = λ j h. go j h (dec_lt j m);
  }
    where
      i : ℕ
      i = 4 + 2 * m

      other : (j : ℕ) → j < 4 + 2 * m → get_or row' j 0 ≡ get_or row j 0
      other j h =
          ap (λ (l : List ℕ). get_or l j 0) e
          ∙ get_or-set_other (set row (4 + 2 * m) k) (suc (4 + 2 * m)) j x 0 (λ z. absurd (omega arith)) ∙ get_or-set_other row (4 + 2 * m) j k 0 (λ z. absurd (omega arith))

      here : get_or row' (4 + 2 * m) 0 ≡ k
      here =
          ap (λ (l : List ℕ). get_or l (4 + 2 * m) 0) e
          ∙ get_or-set_other (set row (4 + 2 * m) k) (suc (4 + 2 * m)) (4 + 2 * m) x 0 (λ z. absurd (omega arith)) ∙ get_or-set_same row (4 + 2 * m) k 0 (omega (arith, w.size))

      there : get_or row' (4 + 2 * m + 1) 0 ≡ x
      there = let z : 4 + 2 * m + 1 ≡ suc (4 + 2 * m) = omega arith in
          ap (λ (j : ℕ). get_or row' j 0) z ∙ ap (λ (l : List ℕ). get_or l (suc (4 + 2 * m)) 0) e
          ∙ get_or-set_same (set row (4 + 2 * m) k) (suc (4 + 2 * m)) x 0 (omega (arith, length-set row (4 + 2 * m) k, w.size))

      go : (j : ℕ) → j < m + 1 → Dec (j < m) → (1 ≤ get_or row' (4 + 2 * j) 0) × (get_or row' (4 + 2 * j) 0 ≤ 4)
      go j h (yes u) = let o = other (4 + 2 * j) (omega arith) in let k = w.kinds j u in (omega (arith, o, k.0), omega (arith, o, k.1))
      go j h (no u) = let z : j ≡ m = omega arith in let q = ap (λ (n : ℕ). get_or row' (4 + 2 * n) 0) z in (omega (arith, q, here), omega (arith, q, here))

  -- the first four numbers
  module _ (row' : List ℕ) (a b c d : ℕ) (e : row' ≡ sets row 0 (a ∷ b ∷ c ∷ d ∷ [])) where
    pub head_tests : TestsAre row' m ts
    head_tests = record {
      size = ap length e ∙ length-sets row 0 (a ∷ b ∷ c ∷ d ∷ []) ∙ w.size;
      are = tests_frame row' row 4 4 m (λ j h. other (4 + j) (omega arith)) ∙ w.are;
      kinds = λ j h. let o = other (4 + 2 * j) (omega arith) in let k = w.kinds j h in (omega (arith, o, k.0), omega (arith, o, k.1));
    }
      where
        other : (j : ℕ) → 4 ≤ j → get_or row' j 0 ≡ get_or row j 0
        other j h =
            ap (λ (l : List ℕ). get_or l j 0) e
            ∙ get_or-set_other (set (set (set row 0 a) 1 b) 2 c) 3 j d 0 (λ z. absurd (omega arith)) ∙ get_or-set_other (set (set row 0 a) 1 b) 2 j c 0 (λ z. absurd (omega arith))
            ∙ get_or-set_other (set row 0 a) 1 j b 0 (λ z. absurd (omega arith)) ∙ get_or-set_other row 0 j a 0 (λ z. absurd (omega arith))

    l1 : length (set row 0 a) ≡ row_cells
    l1 = length-set row 0 a ∙ w.size

    l2 : length (set (set row 0 a) 1 b) ≡ row_cells
    l2 = length-set (set row 0 a) 1 b ∙ l1

    l3 : length (set (set (set row 0 a) 1 b) 2 c) ≡ row_cells
    l3 = length-set (set (set row 0 a) 1 b) 2 c ∙ l2

    pub head_what : get_or row' 0 0 ≡ a
    head_what =
        ap (λ (l : List ℕ). get_or l 0 0) e
        ∙ get_or-set_other (set (set (set row 0 a) 1 b) 2 c) 3 0 d 0 (λ z. absurd (omega arith)) ∙ get_or-set_other (set (set row 0 a) 1 b) 2 0 c 0 (λ z. absurd (omega arith))
        ∙ get_or-set_other (set row 0 a) 1 0 b 0 (λ z. absurd (omega arith)) ∙ get_or-set_same row 0 a 0 (omega (arith, w.size))

    pub head_above : get_or row' 1 0 ≡ b
    head_above =
        ap (λ (l : List ℕ). get_or l 1 0) e
        ∙ get_or-set_other (set (set (set row 0 a) 1 b) 2 c) 3 1 d 0 (λ z. absurd (omega arith)) ∙ get_or-set_other (set (set row 0 a) 1 b) 2 1 c 0 (λ z. absurd (omega arith))
        ∙ get_or-set_same (set row 0 a) 1 b 0 (omega (arith, l1))

    pub head_behind : get_or row' 2 0 ≡ c
    head_behind =
        ap (λ (l : List ℕ). get_or l 2 0) e
        ∙ get_or-set_other (set (set (set row 0 a) 1 b) 2 c) 3 2 d 0 (λ z. absurd (omega arith)) ∙ get_or-set_same (set (set row 0 a) 1 b) 2 c 0 (omega (arith, l2))

    pub head_count : get_or row' 3 0 ≡ d
    head_count = ap (λ (l : List ℕ). get_or l 3 0) e ∙ get_or-set_same (set (set (set row 0 a) 1 b) 2 c) 3 d 0 (omega (arith, l3))
