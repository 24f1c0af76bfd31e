-- A plan's numbers read back as its steps; blocks as parts of the numbers; a walk asks of the object type only what its steps name.
use mathlib.Core.Path.{◌≡◌, refl, sym, ap, ◌∙◌}
use mathlib.Core.Bool.{Bool, cond, not}
use mathlib.Core.List.{List, [], ◌∷◌, ◌++◌, append_assoc}
use Prim.Native.Nat.{ℕ, zero, suc, ◌+◌, ◌*◌, ◌-◌, ◌≤◌, ◌<◌}
use native.Mathlib.Omega.{arith}
use lib.ListN.{length, get_or, take, drop, replicate, length-append, length-replicate, get_or-append}
use lib.Seq.{get_or-append-add}
use lib.Dec.{ltb}
use Rattle.paper_table.specs.Lists.{gather}
use Rattle.paper_plan.specs.Planning.{if_true, unless_true, unless_applies, if_met, Step, leave, list, Plan, State, does, goal, walk}
use Rattle.paper_plan.specs.PlanNumbers.{most_blocks, step_numbers, plan_numbers, first_in}
use Rattle.plan_walk_steps.specs.Numbers.{test_of, step_of, step_at, steps_from}

-- a part of the steps
steps_front : (p : List ℕ) (s m i : ℕ) → m ≤ s → take m (steps_from p i s) ≡ steps_from p i m
unfolding steps_from
steps_front p s zero i h = refl
steps_front p zero (suc m) i h = absurd (omega arith)
steps_front p (suc s) (suc m) i h = ap (λ (l : List Step). step_at p i ∷ l) (steps_front p s m (suc i) (omega arith))

pub steps_part : (p : List ℕ) (s a m i : ℕ) → a + m ≤ s → take m (drop a (steps_from p i s)) ≡ steps_from p (i + a) m
unfolding steps_from
steps_part p s zero m i h = let z : i ≡ i + zero = omega arith in steps_front p s m i (omega arith) ∙ ap (λ (k : ℕ). steps_from p k m) z
steps_part p zero (suc a) m i h = absurd (omega arith)
steps_part p (suc s) (suc a) m i h = let z : suc i + a ≡ i + suc a = omega arith in steps_part p s a m (suc i) (omega arith) ∙ ap (λ (k : ℕ). steps_from p k m) z

-- a step's three numbers, and the step of them
record Three (x : Step) : Type 0 where
  kind : ℕ
  one : ℕ
  two : ℕ
  are : step_numbers x ≡ kind ∷ one ∷ two ∷ []
  back : step_of kind one two ≡ x

three : (x : Step) → Three x
unfolding step_of test_of
three (leave (if_true v) n) = record { kind = 1; one = v; two = n; are = refl; back = refl }
three (leave (unless_true v) n) = record { kind = 2; one = v; two = n; are = refl; back = refl }
three (leave (unless_applies t) n) = record { kind = 3; one = t; two = n; are = refl; back = refl }
three (leave (if_met f) n) = record { kind = 4; one = f; two = n; are = refl; back = refl }
three (list k r) = record { kind = 5; one = k; two = r; are = refl; back = refl }

-- steps behind 2,050 + 3 i numbers
pub steps_read : (pre : List ℕ) (ss : List Step) (more : List ℕ) (i : ℕ) → length pre ≡ 2050 + 3 * i → steps_from (pre ++ (gather step_numbers ss ++ more)) i (length ss) ≡ ss
unfolding steps_from gather
steps_read pre [] more i e = refl
steps_read pre (x ∷ ss) more i e = go (three x) (λ (q : List ℕ) (h : length q ≡ 2050 + 3 * suc i). steps_read q ss more (suc i) h)
  where
    go : Three x → ((q : List ℕ) → length q ≡ 2050 + 3 * suc i → steps_from (q ++ (gather step_numbers ss ++ more)) (suc i) (length ss) ≡ ss)
        → step_at (pre ++ ((step_numbers x ++ gather step_numbers ss) ++ more)) i ∷ steps_from (pre ++ ((step_numbers x ++ gather step_numbers ss) ++ more)) (suc i) (length ss) ≡ x ∷ ss
    go w ih =
        let rest = gather step_numbers ss ++ more in
        let behind : (step_numbers x ++ gather step_numbers ss) ++ more ≡ w.kind ∷ w.one ∷ w.two ∷ rest =
        append_assoc (step_numbers x) (gather step_numbers ss) more ∙ ap (λ (l : List ℕ). l ++ rest) w.are in
        let k : 2050 + 3 * i ≡ length pre + 0 = omega arith in
        let a : 2051 + 3 * i ≡ length pre + 1 = omega arith in
        let b : 2052 + 3 * i ≡ length pre + 2 = omega arith in
        let here : step_at (pre ++ (w.kind ∷ w.one ∷ w.two ∷ rest)) i ≡ x =
        rw (k, a, b, get_or-append-add pre (w.kind ∷ w.one ∷ w.two ∷ rest) 0 0, get_or-append-add pre (w.kind ∷ w.one ∷ w.two ∷ rest) 1 0, get_or-append-add pre (w.kind ∷ w.one ∷ w.two ∷ rest) 2 0) w.back in
        let size : length (pre ++ (w.kind ∷ w.one ∷ w.two ∷ [])) ≡ 2050 + 3 * suc i = omega (arith, length-append pre (w.kind ∷ w.one ∷ w.two ∷ [])) in
        let later : steps_from (pre ++ (w.kind ∷ w.one ∷ w.two ∷ rest)) (suc i) (length ss) ≡ ss =
        ap (λ (l : List ℕ). steps_from l (suc i) (length ss)) (sym (append_assoc pre (w.kind ∷ w.one ∷ w.two ∷ []) rest)) ∙ ih (pre ++ (w.kind ∷ w.one ∷ w.two ∷ [])) size in
        ap (λ (l : List ℕ). step_at (pre ++ l) i ∷ steps_from (pre ++ l) (suc i) (length ss)) behind ∙ ap (λ (s : Step). s ∷ steps_from (pre ++ (w.kind ∷ w.one ∷ w.two ∷ rest)) (suc i) (length ss)) here ∙ ap (λ (l : List Step). x ∷ l) later

module _ (p : Plan) (few : length p.first ≤ most_blocks) (more : List ℕ) where
  abbrev firsts : List ℕ
  firsts = p.first ++ replicate (most_blocks - length p.first) 0

  firsts_size : length firsts ≡ most_blocks
  firsts_size = omega (arith, length-append p.first (replicate (most_blocks - length p.first) 0), length-replicate {A = ℕ} (most_blocks - length p.first) 0)

  -- the steps that a walk reads off a plan's numbers are the plan's; the blocks' first steps too
  pub plan_steps : steps_from (plan_numbers p ++ more) 0 (length p.steps) ≡ p.steps
  plan_steps =
      ap (λ (l : List ℕ). steps_from (length p.first ∷ length p.steps ∷ l) 0 (length p.steps)) (append_assoc firsts (gather step_numbers p.steps) more)
      ∙ steps_read (length p.first ∷ length p.steps ∷ firsts) p.steps more 0 (omega (arith, firsts_size))

  pub plan_first : (b : ℕ) → b < length p.first → first_in (plan_numbers p ++ more) b ≡ get_or p.first b 0
  plan_first b h =
      let z : 2 + b ≡ suc (suc b) = omega arith in
      ap (λ (k : ℕ). get_or (plan_numbers p ++ more) k 0) z
      ∙ ap (λ (l : List ℕ). get_or l b 0) (append_assoc firsts (gather step_numbers p.steps) more ∙ append_assoc p.first (replicate (most_blocks - length p.first) 0) (gather step_numbers p.steps ++ more))
      ∙ get_or-append p.first (replicate (most_blocks - length p.first) 0 ++ (gather step_numbers p.steps ++ more)) 0 b h

-- two ways to tell what applies that agree on the records that steps name
module _ (vars one two : ℕ → Bool) where
  abbrev pub Same : Step → Type 0
  Same (leave (if_true v) n) = Unit {0}
  Same (leave (unless_true v) n) = Unit {0}
  Same (leave (unless_applies t) n) = one t ≡ two t
  Same (leave (if_met f) n) = Unit {0}
  Same (list k r) = Unit {0}

  abbrev pub AllSame : List Step → Type 0
  AllSame [] = Unit {0}
  AllSame (x ∷ xs) = Same x × AllSame xs

  same_goal : (x : Step) (s : State) → Same x → goal vars one x s ≡ goal vars two x s
  same_goal (leave (if_true v) n) s e = refl
  same_goal (leave (unless_true v) n) s e = refl
  same_goal (leave (unless_applies t) n) s e = ap (λ (b : Bool). cond (not b) n 0) e
  same_goal (leave (if_met f) n) s e = refl
  same_goal (list k r) s e = refl

  same_does : (x : Step) (s : State) → does vars one x s ≡ does vars two x s
  same_does (leave (if_true v) n) s = refl
  same_does (leave (unless_true v) n) s = refl
  same_does (leave (unless_applies t) n) s = refl
  same_does (leave (if_met f) n) s = refl
  same_does (list k r) s = refl

  pub same_walk : (xs : List Step) (pc to : ℕ) (s : State) → AllSame xs → walk vars one xs pc to s ≡ walk vars two xs pc to s
  unfolding walk
  same_walk [] pc to s e = refl
  same_walk (x ∷ xs) pc to s e =
      ap (λ (u : State). cond (ltb pc to) u (walk vars one xs (suc pc) (goal vars one x s) (does vars one x s))) (same_walk xs (suc pc) to s e.1)
      ∙ ap (λ (u : State). cond (ltb pc to) (walk vars two xs (suc pc) to s) u)
      (same_walk xs (suc pc) (goal vars one x s) (does vars one x s) e.1
      ∙ ap (λ (g : ℕ). walk vars two xs (suc pc) g (does vars one x s)) (same_goal x s e.0) ∙ ap (walk vars two xs (suc pc) (goal vars two x s)) (same_does x s))
