-- The answer that a walk reads off a well-formed plan, a byte for each record: it is the answer for the object type; of a plan's own numbers, the draft's.
use mathlib.Core.Path.{◌≡◌, refl, sym, ap, ◌∙◌, subst}
use mathlib.Core.Bool.{Bool}
use mathlib.Core.List.{List, [], ◌∷◌, ◌++◌, map}
use Prim.Native.Nat.{ℕ, zero, suc, ◌+◌, ◌-◌, ◌≤◌, ◌<◌}
use native.Mathlib.Decide.{ℕ_discrete}
use native.Mathlib.Omega.{arith}
use lib.ListN.{length, get_or}
use Rattle.paper.specs.Rows.{Row}
use Rattle.paper_table.specs.Types.{table_of}
use Rattle.paper_query.specs.DocumentCalls.{read}
use Rattle.paper_plan.specs.Applies.{applies}
use Rattle.paper_plan.specs.Collecting.{Grouped, pairs}
use Rattle.paper_plan.specs.Planning.{Step, leave, Test, Plan, State, walk, block_of, blocks, grouped, walk_answer}
use Rattle.paper_plan.specs.PlanNumbers.{most_blocks, blocks_in, first_in, end_in, kind_at, one_at, two_at, plan_numbers, Formed, WellFormed}
use Rattle.paper_plan.specs.Selecting.{Name, Collects, pairs_of, block_in, plan_for}
use Rattle.paper_query.specs.Opening.{AcceptedDocument}
use Rattle.table_types.specs.Booked.{Booked}
use Rattle.query_types.proofs.CompositeLaws.{output_below}
use Rattle.plan_theory.proofs.Document.{Among}
use Rattle.plan_theory.proofs.Demand3.{walk_answers}
use Rattle.plan_walk_types.specs.Fits.{Fits}
use Rattle.plan_walk_types.proofs.FitLaws.{fits_one}
use Rattle.plan_walk_steps.specs.Numbers.{step_at, steps_from, is_one}
use Rattle.plan_walk_steps.proofs.Laws.{test_1, test_2, test_3, test_4, step_5, step_leave}
use Rattle.plan_walk_steps.proofs.PlanLaws.{Same, AllSame, same_walk}
use Rattle.plan_walk_blocks.specs.Answers.{plan_in, answer_of}
use Rattle.plan_walk_blocks.proofs.BlocksLaws.{block_is, well_walkable}
use Rattle.plan_walk_blocks.proofs.AnswerLaws.{plan_in_is}

more : (j k : ℕ) → j ≤ k → (k ≡ j → ⊥) → suc j ≤ k
more j k h n = omega (arith, n)

fewer : (j k : ℕ) → k ≤ suc j → (k ≡ suc j → ⊥) → k ≤ j
fewer j k h n = omega (arith, n)

between : (j k : ℕ) → j ≤ k → k ≤ j → k ≡ j
between j k h l = omega arith

four : (k : ℕ) → 1 ≤ k → k ≤ 5 → (k ≡ 5 → ⊥) → (k ≡ 1 → ⊥) → (k ≡ 2 → ⊥) → (k ≡ 3 → ⊥) → k ≡ 4
four k a b c d e f = between 4 k (more 3 k (more 2 k (more 1 k a d) e) f) (fewer 4 k b c)

module _ (t book p vars fits : List ℕ) (b : Booked t book) (w : WellFormed (table_of t) p) (o : ℕ) (f : Fits (table_of t) o fits) where
  abbrev one : ℕ → Bool
  one = is_one fits

  abbrev two : ℕ → Bool
  two k = applies (table_of t) k o

  abbrev SameStep : Step → Type 0
  SameStep = Same (is_one vars) one two

  same_step : (end i : ℕ) → Formed (table_of t) p end i → SameStep (step_at p i)
  same_step end i g = go (ℕ_discrete (kind_at p i) 5) (ℕ_discrete (kind_at p i) 1) (ℕ_discrete (kind_at p i) 2) (ℕ_discrete (kind_at p i) 3)
    where
      go : Dec (kind_at p i ≡ 5) → Dec (kind_at p i ≡ 1) → Dec (kind_at p i ≡ 2) → Dec (kind_at p i ≡ 3) → SameStep (step_at p i)
      go (yes e) x y z = subst SameStep (sym (step_5 (kind_at p i) (one_at p i) (two_at p i) e)) tt
      go (no n) (yes e) y z = subst SameStep (sym (step_leave (kind_at p i) (one_at p i) (two_at p i) n ∙ ap (λ (x : Test). leave x (two_at p i)) (test_1 (kind_at p i) (one_at p i) e))) tt
      go (no n) (no m) (yes e) z = subst SameStep (sym (step_leave (kind_at p i) (one_at p i) (two_at p i) n ∙ ap (λ (x : Test). leave x (two_at p i)) (test_2 (kind_at p i) (one_at p i) e))) tt
      go (no n) (no m) (no l) (yes e) =
          let h = output_below t book b (one_at p i) (g.record_is e) in
          subst SameStep (sym (step_leave (kind_at p i) (one_at p i) (two_at p i) n ∙ ap (λ (x : Test). leave x (two_at p i)) (test_3 (kind_at p i) (one_at p i) e)))
          (fits_one (table_of t) o fits f (one_at p i) (omega (arith, h, b.indexed.held.most)) (omega (arith, h, b.count)))
      go (no n) (no m) (no l) (no k) =
          subst SameStep (sym (step_leave (kind_at p i) (one_at p i) (two_at p i) n ∙ ap (λ (x : Test). leave x (two_at p i)) (test_4 (kind_at p i) (one_at p i) (four (kind_at p i) g.low g.high n m l k)))) tt

  all_same : (i m : ℕ) → ((j : ℕ) → i ≤ j → j < i + m → SameStep (step_at p j)) → AllSame (is_one vars) one two (steps_from p i m)
  unfolding steps_from
  all_same i zero h = tt
  all_same i (suc m) h = (h i (omega arith) (omega arith), all_same (suc i) m (λ j u v. h j (omega arith) (omega arith)))

  block_same : (k : ℕ) → k < blocks_in p → AllSame (is_one vars) one two (block_of (plan_in p) k)
  block_same k h =
      let y = well_walkable t book p b w in
      subst (AllSame (is_one vars) one two) (sym (block_is p y k h))
      (all_same (first_in p k) (end_in p k - first_in p k) (λ j u v. same_step (end_in p k) j (w.formed k j h u (omega (arith, v, y.order k h)))))

  blocks_same : (bs : List ℕ) (s : State) → ((j : ℕ) → j < length bs → get_or bs j 0 < blocks_in p) → blocks (is_one vars) one (plan_in p) bs s ≡ blocks (is_one vars) two (plan_in p) bs s
  unfolding blocks
  blocks_same [] s h = refl
  blocks_same (k ∷ bs) s h =
      ap (blocks (is_one vars) one (plan_in p) bs) (same_walk (is_one vars) one two (block_of (plan_in p) k) (get_or (plan_in p).first k 0) 0 s (block_same k (h 0 (omega arith))))
      ∙ blocks_same bs (walk (is_one vars) two (block_of (plan_in p) k) (get_or (plan_in p).first k 0) 0 s) (λ j l. h (suc j) (omega arith))

  -- the answer for the object type of record o
  pub lent_answer : (bs : List ℕ) → ((j : ℕ) → j < length bs → get_or bs j 0 < blocks_in p) → answer_of p bs vars fits ≡ walk_answer (is_one vars) (λ k. applies (table_of t) k o) (plan_in p) bs
  lent_answer bs h = ap (λ (s : State). pairs (grouped [] s.out)) (blocks_same bs record { met = []; out = [] } h)

-- a plan that was made of an accepted document: demand 3
pub lent_collects : (t book document : List ℕ) (rs : List Row) (a : AcceptedDocument t document rs) (op : ℕ) (rows more vars fits : List ℕ) (o : ℕ)
    → Booked t book → Fits (table_of t) o fits → length (plan_for (table_of t) (read document rs) op rows).first ≤ most_blocks
    → WellFormed (table_of t) (plan_numbers (plan_for (table_of t) (read document rs) op rows) ++ more)
    → (holders : List ℕ) → Among rows holders
    → ((j : ℕ) → j < length (map (block_in rows) holders) → get_or (map (block_in rows) holders) j 0 < blocks_in (plan_numbers (plan_for (table_of t) (read document rs) op rows) ++ more))
    → (g : Grouped Name) → Collects (table_of t) (read document rs) op (is_one vars) o holders g
    → answer_of (plan_numbers (plan_for (table_of t) (read document rs) op rows) ++ more) (map (block_in rows) holders) vars fits ≡ pairs_of (read document rs) g
lent_collects t book document rs a op rows more vars fits o b f l w holders m k g c =
    lent_answer t book (plan_numbers (plan_for (table_of t) (read document rs) op rows) ++ more) vars fits b w o f (map (block_in rows) holders) k
    ∙ ap (λ (p : Plan). walk_answer (is_one vars) (λ i. applies (table_of t) i o) p (map (block_in rows) holders)) (plan_in_is (plan_for (table_of t) (read document rs) op rows) more l)
    ∙ walk_answers t document rs a op (is_one vars) o rows holders m g c
