-- A plan's numbers hold each of its steps at its place; a step that goes ahead and names what is there is formed.
use mathlib.Core.Path.{◌≡◌, refl, sym, ap, ◌∙◌, subst}
use mathlib.Core.Bool.{true}
use mathlib.Core.List.{List, [], ◌∷◌, ◌++◌, append_assoc}
use Prim.Native.Nat.{ℕ, suc, ◌+◌, ◌*◌, ◌-◌, ◌≤◌, ◌<◌}
use native.Mathlib.Decide.{dec_lt}
use native.Mathlib.Omega.{arith}
use lib.ListN.{length, get_or, replicate, length-append, length-replicate}
use lib.Seq.{get_or-append-add}
use Rattle.paper.specs.Numbers.{most_variables, most_fragments}
use Rattle.paper_table.specs.Lists.{gather}
use Rattle.paper_table.specs.Types.{Table, is_composite}
use Rattle.paper_query.specs.Enclosing.{definition_at}
use Rattle.paper_plan.specs.Planning.{if_true, unless_true, unless_applies, if_met, Step, leave, list, Plan}
use Rattle.paper_plan.specs.PlanNumbers.{most_blocks, step_if_true, step_unless_true, step_unless_applies, step_if_met, step_list, step_numbers, plan_numbers, kind_at, one_at, two_at, Formed}
use Rattle.plan_theory.proofs.Ahead.{Goes, Ahead}
use Rattle.plan_wellformed.proofs.RightSteps.{Right, AllRight}

-- the numbers of step i are those of s
pub record Stands (p : List ℕ) (i : ℕ) (s : Step) : Type 0 where
  pub kind : kind_at p i ≡ get_or (step_numbers s) 0 0
  pub one : one_at p i ≡ get_or (step_numbers s) 1 0
  pub two : two_at p i ≡ get_or (step_numbers s) 2 0

abbrev pub AllStand : List ℕ → ℕ → List Step → Type 0
AllStand p i [] = Unit {0}
AllStand p i (s ∷ ss) = Stands p i s × AllStand p (suc i) ss

three : (s : Step) → step_numbers s ≡ get_or (step_numbers s) 0 0 ∷ get_or (step_numbers s) 1 0 ∷ get_or (step_numbers s) 2 0 ∷ []
three (leave (if_true v) n) = refl
three (leave (unless_true v) n) = refl
three (leave (unless_applies t) n) = refl
three (leave (if_met f) n) = refl
three (list k r) = refl

-- three numbers behind 2,050 + 3 i
stands_at : (pre rest : List ℕ) (s : Step) (i : ℕ) → length pre ≡ 2050 + 3 * i → Stands (pre ++ (get_or (step_numbers s) 0 0 ∷ get_or (step_numbers s) 1 0 ∷ get_or (step_numbers s) 2 0 ∷ rest)) i s
stands_at pre rest s i e =
    let l = get_or (step_numbers s) 0 0 ∷ get_or (step_numbers s) 1 0 ∷ get_or (step_numbers s) 2 0 ∷ rest in
    let k : 2050 + 3 * i ≡ length pre + 0 = omega arith in
    let a : 2051 + 3 * i ≡ length pre + 1 = omega arith in
    let b : 2052 + 3 * i ≡ length pre + 2 = omega arith in
    record {
      kind = ap (λ (n : ℕ). get_or (pre ++ l) n 0) k ∙ get_or-append-add pre l 0 0;
      one = ap (λ (n : ℕ). get_or (pre ++ l) n 0) a ∙ get_or-append-add pre l 1 0;
      two = ap (λ (n : ℕ). get_or (pre ++ l) n 0) b ∙ get_or-append-add pre l 2 0;
    }

stand_read : (ss : List Step) (pre more : List ℕ) (i : ℕ) → length pre ≡ 2050 + 3 * i → AllStand (pre ++ (gather step_numbers ss ++ more)) i ss
unfolding gather
stand_read [] pre more i e = tt
stand_read (s ∷ ss) pre more i e =
    let here = get_or (step_numbers s) 0 0 ∷ get_or (step_numbers s) 1 0 ∷ get_or (step_numbers s) 2 0 ∷ [] in
    let rest = gather step_numbers ss ++ more in
    let behind : (step_numbers s ++ gather step_numbers ss) ++ more ≡ here ++ rest = append_assoc (step_numbers s) (gather step_numbers ss) more ∙ ap (λ (l : List ℕ). l ++ rest) (three s) in
    let later : AllStand ((pre ++ here) ++ rest) (suc i) ss = stand_read ss (pre ++ here) more (suc i) (omega (arith, length-append pre here)) in
    subst (λ (l : List ℕ). AllStand (pre ++ l) i (s ∷ ss)) (sym behind) (stands_at pre rest s i e, subst (λ (l : List ℕ). AllStand l (suc i) ss) (append_assoc pre here rest) later)

pub plan_stands : (p : Plan) (more : List ℕ) → length p.first ≤ most_blocks → AllStand (plan_numbers p ++ more) 0 p.steps
plan_stands p more few =
    let firsts = p.first ++ replicate (most_blocks - length p.first) 0 in
    let size : length firsts ≡ most_blocks = omega (arith, length-append p.first (replicate (most_blocks - length p.first) 0), length-replicate {A = ℕ} (most_blocks - length p.first) 0) in
    subst (λ (l : List ℕ). AllStand (length p.first ∷ length p.steps ∷ l) 0 p.steps) (sym (append_assoc firsts (gather step_numbers p.steps) more))
    (stand_read p.steps (length p.first ∷ length p.steps ∷ firsts) more 0 (omega (arith, size)))

-- the second part of some steps
pub stand_later : (p : List ℕ) (xs ys : List Step) (i j : ℕ) → j ≡ i + length xs → AllStand p i (xs ++ ys) → AllStand p j ys
stand_later p [] ys i j e a = let z : i ≡ j = omega arith in subst (λ (n : ℕ). AllStand p n ys) z a
stand_later p (x ∷ xs) ys i j e a = stand_later p xs ys (suc i) j (omega arith) a.1

module _ (t : Table) (p : List ℕ) (end : ℕ) where
  leave_formed : (i k v n : ℕ) → kind_at p i ≡ k → one_at p i ≡ v → two_at p i ≡ n → 1 ≤ k → k < step_list → (k ≤ step_unless_true → v < most_variables) →
      (k ≡ step_unless_applies → is_composite (definition_at t v) ≡ true) → (k ≡ step_if_met → v < most_fragments) → i < n → n ≤ end → Formed t p end i
  leave_formed i k v n e f g low high variables applies met later within = record {
    low = omega (arith, e);
    high = omega (arith, e);
    variable_low = λ h. omega (arith, f, variables (omega (arith, e)));
    record_is = λ h. subst (λ (x : ℕ). is_composite (definition_at t x) ≡ true) (sym f) (applies (omega (arith, e)));
    fragment_low = λ h. omega (arith, f, met (omega (arith, e)));
    listed_low = λ h. absurd (omega (arith, e, h));
    later = λ h. omega (arith, g);
    within = λ h. omega (arith, g);
  }

  step_formed : (i : ℕ) (s : Step) → Stands p i s → Goes i end s → Right t s → Formed t p end i
  step_formed i (leave (if_true v) n) w g r =
      leave_formed i step_if_true v n w.kind w.one w.two (omega arith) (omega arith) (λ h. r) (λ h. absurd (omega (arith, h))) (λ h. absurd (omega (arith, h))) g.0 g.1
  step_formed i (leave (unless_true v) n) w g r =
      leave_formed i step_unless_true v n w.kind w.one w.two (omega arith) (omega arith) (λ h. r) (λ h. absurd (omega (arith, h))) (λ h. absurd (omega (arith, h))) g.0 g.1
  step_formed i (leave (unless_applies k) n) w g r =
      leave_formed i step_unless_applies k n w.kind w.one w.two (omega arith) (omega arith) (λ h. absurd (omega (arith, h))) (λ h. r) (λ h. absurd (omega (arith, h))) g.0 g.1
  step_formed i (leave (if_met f) n) w g r =
      leave_formed i step_if_met f n w.kind w.one w.two (omega arith) (omega arith) (λ h. absurd (omega (arith, h))) (λ h. absurd (omega (arith, h))) (λ h. r) g.0 g.1
  step_formed i (list k r) w g x = record {
    low = omega (arith, w.kind);
    high = omega (arith, w.kind);
    variable_low = λ h. absurd (omega (arith, w.kind, h));
    record_is = λ h. absurd (omega (arith, w.kind, h));
    fragment_low = λ h. absurd (omega (arith, w.kind, h));
    listed_low = λ h. (omega (arith, w.one, x.0), omega (arith, w.two, x.1));
    later = λ h. absurd (omega (arith, w.kind, h));
    within = λ h. absurd (omega (arith, w.kind, h));
  }

  -- the steps xs stand from number i on, maybe with more behind them
  pub steps_formed : (xs ys : List Step) (i j : ℕ) → AllStand p i (xs ++ ys) → Ahead i end xs → AllRight t (xs ++ ys) → i ≤ j → j < i + length xs → Formed t p end j
  steps_formed [] ys i j w a r l h = absurd (omega arith)
  steps_formed (x ∷ xs) ys i j w a r l h = go (dec_lt i j) (λ (u : i < j). steps_formed xs ys (suc i) j w.1 a.1 r.1 u (omega arith))
    where
      go : Dec (i < j) → (i < j → Formed t p end j) → Formed t p end j
      go (yes u) ih = ih u
      go (no u) ih = let e : i ≡ j = omega arith in subst (Formed t p end) e (step_formed i x w.0 a.0 r.0)
