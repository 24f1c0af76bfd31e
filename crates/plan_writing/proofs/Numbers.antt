-- The numbers that are written are the plan's, where the table is the document's.
use mathlib.Core.Path.{◌≡◌, refl, sym, ap, ◌∙◌, subst}
use mathlib.Core.Bool.{Bool, true, false, cond}
use mathlib.Core.List.{List, [], ◌∷◌, ◌++◌, map, append_assoc}
use Prim.Native.Nat.{ℕ, zero, suc, ◌+◌, ◌*◌, ◌-◌, ◌≤◌, ◌<◌}
use native.Mathlib.Omega.{arith}
use lib.ListN.{length, get_or, replicate, length-map, length-append, length-replicate}
use lib.Dec.{eqb}
use Rattle.paper_table.specs.Lists.{gather}
use Rattle.paper_plan.specs.Collecting.{View}
use Rattle.paper_plan.specs.Planning.{Step, Plan, plan, program, firsts, plan_of}
use Rattle.paper_plan.specs.PlanNumbers.{plan_size, most_steps, most_blocks, step_numbers, plan_numbers}
use Rattle.plan_walk_steps.specs.Numbers.{test_of, step_of}
use Rattle.plan_steps.specs.Table.{Raw, flat_raw, what, arg, raw_tests, shut, one, belongs, over, up_from, expand_of, decode, table_set, Tabled}
use Rattle.plan_steps.specs.Table.{count as testCount}
use Rattle.plan_steps.proofs.Bridge.{expanded_is_plan}
use Rattle.plan_writing.specs.Writing.{raw_program, raw_firsts, plan_cells}

-- a step's numbers, and back
abbrev pub Known : Raw → Type 0
Known x = (1 ≤ x.0) × (x.0 ≤ 5)

numbers_back : (k a b : ℕ) → 1 ≤ k → k ≤ 5 → step_numbers (step_of k a b) ≡ k ∷ a ∷ b ∷ []
unfolding step_of test_of
numbers_back zero a b l h = absurd (omega arith)
numbers_back (suc zero) a b l h = refl
numbers_back (suc (suc zero)) a b l h = refl
numbers_back (suc (suc (suc zero))) a b l h = refl
numbers_back (suc (suc (suc (suc zero)))) a b l h = refl
numbers_back (suc (suc (suc (suc (suc zero))))) a b l h = refl
numbers_back (suc (suc (suc (suc (suc (suc k)))))) a b l h = absurd (omega arith)

abbrev pub AllKnown : List Raw → Type 0
AllKnown [] = Unit {0}
AllKnown (x ∷ xs) = Known x × AllKnown xs

all_both : (xs ys : List Raw) → AllKnown xs → AllKnown ys → AllKnown (xs ++ ys)
all_both [] ys a b = b
all_both (x ∷ xs) ys a b = (a.0, all_both xs ys a.1 b)

pub numbers_flat : (xs : List Raw) → AllKnown xs → gather step_numbers (map decode xs) ≡ flat_raw xs
unfolding gather
numbers_flat [] a = refl
numbers_flat (x ∷ xs) a = ap (λ (l : List ℕ). l ++ gather step_numbers (map decode xs)) (numbers_back x.0 x.1 x.2 a.0.0 a.0.1) ∙ ap (λ (l : List ℕ). x.0 ∷ x.1 ∷ x.2 ∷ l) (numbers_flat xs a.1)

-- all kinds of the table's tests are known
module _ (t : List ℕ) (n : ℕ) (kinds : (r j : ℕ) → r < n → j < testCount t r → (1 ≤ get_or t (12 * r + 4 + 2 * j) 0) × (get_or t (12 * r + 4 + 2 * j) 0 ≤ 4)) where
  tests_known : (i m e : ℕ) → ((j : ℕ) → j < m → (1 ≤ get_or t (i + 2 * j) 0) × (get_or t (i + 2 * j) 0 ≤ 4)) → AllKnown (raw_tests t i m e)
  unfolding raw_tests
  tests_known i zero e h = tt
  tests_known i (suc m) e h =
      let z : i + 2 * 0 ≡ i = omega arith in
      let k = subst (λ (x : ℕ). (1 ≤ get_or t x 0) × (get_or t x 0 ≤ 4)) z (h 0 (omega arith)) in
      ((k.0, omega (arith, k.1)), tests_known (i + 2) m e (λ j l. let y : i + 2 * (j + 1) ≡ i + 2 + 2 * j = omega arith in subst (λ (x : ℕ). (1 ≤ get_or t x 0) × (get_or t x 0 ≤ 4)) y (h (j + 1) (omega arith))))

  shut_known : (at r : ℕ) (b : List Raw) → r < n → AllKnown b → AllKnown (shut t at r b)
  shut_known at r b l a = all_both (raw_tests t (12 * r + 4) (testCount t r) (at + testCount t r + length b)) b (tests_known (12 * r + 4) (testCount t r) (at + testCount t r + length b) (λ j h. kinds r j l h)) a

  module _ (inner : ℕ → ℕ → List Raw) (known : (at h : ℕ) → AllKnown (inner at h)) where
    one_known : (at r : ℕ) → r < n → AllKnown (one t inner at r)
    one_known at r l = go (eqb (what t r) 3) (eqb (what t r) 1)
      where
        go : (b c : Bool) → AllKnown (cond b [] (cond c (shut t at r ((5, arg t r, r) ∷ [])) (shut t at r (inner (at + testCount t r) (arg t r)))))
        go true c = tt
        go false true = shut_known at r ((5, arg t r, r) ∷ []) l ((omega arith, omega arith), tt)
        go false false = shut_known at r (inner (at + testCount t r) (arg t r)) l (known (at + testCount t r) (arg t r))

    over_known : (m c h at : ℕ) → c + m ≤ n → AllKnown (over t inner h at (up_from m c))
    unfolding over
    over_known zero c h at l = tt
    over_known (suc m) c h at l = go (belongs t h c) (λ (x : ℕ). over_known m (suc c) h x (omega arith))
      where
        go : (b : Bool) → ((x : ℕ) → AllKnown (over t inner h x (up_from m (suc c))))
            → AllKnown (cond b (one t inner at c ++ over t inner h (at + length (one t inner at c)) (up_from m (suc c))) (over t inner h at (up_from m (suc c))))
        go true ih = all_both (one t inner at c) (over t inner h (at + length (one t inner at c)) (up_from m (suc c))) (one_known at c (omega arith)) (ih (at + length (one t inner at c)))
        go false ih = ih at

  expand_known : (k at h : ℕ) → AllKnown (expand_of t n k at h)
  unfolding expand_of
  expand_known zero at h = tt
  expand_known (suc k) at h = over_known (λ at' h'. expand_of t n k at' h') (λ at' h'. expand_known k at' h') n 0 h at (omega arith)

  program_known : (at : ℕ) (hs : List ℕ) → AllKnown (raw_program t n at hs)
  unfolding raw_program
  program_known at [] = tt
  program_known at (h ∷ hs) = all_both (expand_of t n (n + 1) at h) (raw_program t n (at + length (expand_of t n (n + 1) at h)) hs) (expand_known (n + 1) at h) (program_known (at + length (expand_of t n (n + 1) at h)) hs)

  -- the plan
  module _ (v : View ℕ) (tabled : Tabled t n v) (set : ℕ → List ℕ) (sets-are : (h : ℕ) → table_set t n h ≡ set h) where
    block_is : (at h : ℕ) → map decode (expand_of t n (n + 1) at h) ≡ plan v (suc n) at (set h)
    block_is at h = let z : n + 1 ≡ suc n = omega arith in
        expanded_is_plan t n v tabled (n + 1) at h ∙ ap (λ (k : ℕ). plan v k at (table_set t n h)) z ∙ ap (plan v (suc n) at) (sets-are h)

    block_length : (at h : ℕ) → length (expand_of t n (n + 1) at h) ≡ length (plan v (suc n) at (set h))
    block_length at h = sym (length-map (expand_of t n (n + 1) at h) decode) ∙ ap length (block_is at h)

    map_append : (xs ys : List Raw) → map decode (xs ++ ys) ≡ map decode xs ++ map decode ys
    map_append [] ys = refl
    map_append (x ∷ xs) ys = ap (λ (l : List Step). decode x ∷ l) (map_append xs ys)

    program_is : (at : ℕ) (hs : List ℕ) → map decode (raw_program t n at hs) ≡ program v (suc n) at (map set hs)
    unfolding raw_program program
    program_is at [] = refl
    program_is at (h ∷ hs) =
        let s = expand_of t n (n + 1) at h in
        map_append s (raw_program t n (at + length s) hs) ∙ ap (λ (l : List Step). l ++ map decode (raw_program t n (at + length s) hs)) (block_is at h)
        ∙ ap (λ (l : List Step). plan v (suc n) at (set h) ++ l) (program_is (at + length s) hs ∙ ap (λ (k : ℕ). program v (suc n) (at + k) (map set hs)) (block_length at h))

    firsts_is : (at : ℕ) (hs : List ℕ) → raw_firsts t n at hs ≡ firsts v (suc n) at (map set hs)
    unfolding raw_firsts firsts
    firsts_is at [] = refl
    firsts_is at (h ∷ hs) =
        ap (λ (l : List ℕ). at ∷ l) (firsts_is (at + length (expand_of t n (n + 1) at h)) hs ∙ ap (λ (k : ℕ). firsts v (suc n) (at + k) (map set hs)) (block_length at h))

    firsts_count : (at : ℕ) (hs : List ℕ) → length (raw_firsts t n at hs) ≡ length hs
    unfolding raw_firsts
    firsts_count at [] = refl
    firsts_count at (h ∷ hs) = ap suc (firsts_count (at + length (expand_of t n (n + 1) at h)) hs)

    module _ (hs : List ℕ) where
      abbrev made : Plan
      made = plan_of v (suc n) (map set hs)

      pub plan_steps_count : length (raw_program t n 0 hs) ≡ length made.steps
      plan_steps_count = sym (length-map (raw_program t n 0 hs) decode) ∙ ap length (program_is 0 hs)

      pub plan_blocks_count : length made.first ≡ length hs
      plan_blocks_count = sym (ap length (firsts_is 0 hs)) ∙ firsts_count 0 hs

      numbers_are : gather step_numbers made.steps ≡ flat_raw (raw_program t n 0 hs)
      numbers_are = ap (gather step_numbers) (sym (program_is 0 hs)) ∙ numbers_flat (raw_program t n 0 hs) (program_known 0 hs)

      -- the cells are the plan's numbers and zeros
      pub plan_cells_is : (r : ℕ) → r ≡ length (raw_program t n 0 hs) → length hs ≤ most_blocks → plan_cells (length hs) r (raw_firsts t n 0 hs) (flat_raw (raw_program t n 0 hs)) ≡ plan_numbers made ++ replicate (plan_size - length (plan_numbers made)) 0
      plan_cells_is r e few =
          ap (λ (k : ℕ). plan_cells k r (raw_firsts t n 0 hs) (flat_raw (raw_program t n 0 hs))) (sym plan_blocks_count)
          ∙ ap (λ (k : ℕ). plan_cells (length made.first) k (raw_firsts t n 0 hs) (flat_raw (raw_program t n 0 hs))) (e ∙ plan_steps_count)
          ∙ ap (λ (l : List ℕ). plan_cells (length made.first) (length made.steps) l (flat_raw (raw_program t n 0 hs))) (firsts_is 0 hs)
          ∙ ap (plan_cells (length made.first) (length made.steps) made.first) (sym numbers_are)
          ∙ ap (λ (l : List ℕ). length made.first ∷ length made.steps ∷ l) (sym (append_assoc fs cs (replicate (3 * most_steps - length cs) 0)))
          ∙ ap (λ (k : ℕ). plan_numbers made ++ replicate k 0) room
        where
          fs : List ℕ
          fs = made.first ++ replicate (most_blocks - length made.first) 0

          cs : List ℕ
          cs = gather step_numbers made.steps

          room : 3 * most_steps - length cs ≡ plan_size - length (plan_numbers made)
          room = omega (arith, length-append fs cs, length-append made.first (replicate (most_blocks - length made.first) 0), length-replicate {A = ℕ} (most_blocks - length made.first) 0, plan_blocks_count)
