-- More numbers of the plan than 14,338 are not read: the call does the same on the first of them alone.
use mathlib.Core.Path.{◌≡◌, refl, sym, ap, ◌∙◌, subst}
use mathlib.Core.Bool.{true}
use mathlib.Core.List.{List, [], ◌∷◌}
use Prim.Native.Nat.{ℕ, zero, suc, ◌+◌, ◌*◌, ◌≤◌, ◌<◌}
use native.Mathlib.Nat.{le_of_eq}
use native.Mathlib.Decide.{dec_lt}
use native.Mathlib.Omega.{arith}
use lib.ListN.{length, get_or, take}
use lib.Seq.{get_or-take, length-take-le}
use Rattle.paper.specs.Numbers.{report_size, accepted}
use Rattle.paper.specs.Calls.{filled}
use Rattle.paper_table.specs.Types.{Table, table_of, is_composite}
use Rattle.paper_query.specs.Enclosing.{definition_at}
use Rattle.paper_plan.specs.Applies.{applies}
use Rattle.paper_plan.specs.Collecting.{Pair}
use Rattle.paper_plan.specs.Planning.{Step, Plan, walk_answer}
use Rattle.paper_plan.specs.PlanNumbers.{plan_size, most_blocks, most_steps, blocks_in, steps_in, first_in, end_in, kind_at, one_at, two_at, Formed, WellFormed}
use Rattle.paper_plan.specs.LentPlan.{is_one, step_of, step_at, steps_from, firsts_from, plan_in, pair_numbers}
use Rattle.paper_plan.specs.WalkNumbers.{pairs_size}
use Rattle.paper_plan.specs.WalkCalls.{CanWalk, listed, Walked, short_report, short_pairs, long_table, refuses_table, refuses_walk, too_many_pairs, lists}
use Rattle.plan_walk_formed.proofs.FormedLaws.{end_next, end_last, formed_blocks}

-- two lists of numbers that agree as far as a plan goes
module _ (p q : List ℕ) (long : plan_size ≤ length q) (same : (i : ℕ) → i < plan_size → get_or p i 0 ≡ get_or q i 0) where
  step_same : (i : ℕ) → i < most_steps → step_at p i ≡ step_at q i
  step_same i h =
      ap (λ (k : ℕ). step_of k (one_at p i) (two_at p i)) (same (2050 + 3 * i) (omega arith))
      ∙ ap (λ (k : ℕ). step_of (kind_at q i) k (two_at p i)) (same (2051 + 3 * i) (omega arith))
      ∙ ap (step_of (kind_at q i) (one_at q i)) (same (2052 + 3 * i) (omega arith))

  steps_same : (i n : ℕ) → i + n ≤ most_steps → steps_from p i n ≡ steps_from q i n
  unfolding steps_from
  steps_same i zero h = refl
  steps_same i (suc n) h = ap (λ (x : Step). x ∷ steps_from p (suc i) n) (step_same i (omega arith)) ∙ ap (λ (xs : List Step). step_at q i ∷ xs) (steps_same (suc i) n (omega arith))

  firsts_same : (b n : ℕ) → b + n ≤ most_blocks → firsts_from p b n ≡ firsts_from q b n
  unfolding firsts_from
  firsts_same b zero h = refl
  firsts_same b (suc n) h = ap (λ (x : ℕ). x ∷ firsts_from p (suc b) n) (same (2 + b) (omega arith)) ∙ ap (λ (xs : List ℕ). first_in q b ∷ xs) (firsts_same (suc b) n (omega arith))

  pub plan_same : blocks_in p ≤ most_blocks → steps_in p ≤ most_steps → plan_in p ≡ plan_in q
  plan_same f s =
      ap (λ (xs : List ℕ). record { first = xs; steps = steps_from p 0 (steps_in p) }) (firsts_same 0 (blocks_in p) (omega arith) ∙ ap (firsts_from q 0) (same 0 (omega arith)))
      ∙ ap (λ (xs : List Step). record { first = firsts_from q 0 (blocks_in q); steps = xs }) (steps_same 0 (steps_in p) (omega arith) ∙ ap (steps_from q 0) (same 1 (omega arith)))

  formed_same : (t : Table) (end i : ℕ) → i < most_steps → Formed t p end i → Formed t q end i
  formed_same t end i h f =
      let k = same (2050 + 3 * i) (omega arith) in
      let a = same (2051 + 3 * i) (omega arith) in
      let b = same (2052 + 3 * i) (omega arith) in
      record {
        low = omega (arith, k, f.low);
        high = omega (arith, k, f.high);
        variable_low = λ e. let x = f.variable_low (omega (arith, k)) in omega (arith, a, x);
        record_is = λ e. subst (λ (x : ℕ). is_composite (definition_at t x) ≡ true) a (f.record_is (k ∙ e));
        fragment_low = λ e. let x = f.fragment_low (k ∙ e) in omega (arith, a, x);
        listed_low = λ e. let x = f.listed_low (k ∙ e) in (omega (arith, a, x.0), omega (arith, b, x.1));
        later = λ e. let x = f.later (omega (arith, k)) in omega (arith, b, x);
        within = λ e. let x = f.within (omega (arith, k)) in omega (arith, b, x);
      }

  end_same : (b : ℕ) → b < blocks_in p → blocks_in p ≤ most_blocks → end_in p b ≡ end_in q b
  end_same b h f = go (dec_lt (suc b) (blocks_in p))
    where
      go : Dec (suc b < blocks_in p) → end_in p b ≡ end_in q b
      go (yes l) = end_next p b l ∙ same (2 + suc b) (omega arith) ∙ sym (end_next q b (omega (arith, same 0 (omega arith))))
      go (no l) = end_last p b (omega arith) ∙ same 1 (omega arith) ∙ sym (end_last q b (omega (arith, same 0 (omega arith))))

  pub well_formed_same : (t : Table) → WellFormed t p → WellFormed t q
  well_formed_same t w =
      let n = same 0 (omega arith) in
      let s = same 1 (omega arith) in
      record {
        long = long;
        some = omega (arith, n, w.some);
        few_blocks = omega (arith, n, w.few_blocks);
        few_steps = omega (arith, s, w.few_steps);
        zeroth = sym (same 2 (omega arith)) ∙ w.zeroth;
        rising = λ b h. let x = w.rising b (omega (arith, n)) in omega (arith, x, w.few_blocks, n, same (2 + b) (omega (arith, n, w.few_blocks)), same (2 + suc b) (omega (arith, n, w.few_blocks)));
        inside = λ b h. let x = w.inside b (omega (arith, n)) in omega (arith, x, s, same (2 + b) (omega (arith, n, w.few_blocks)));
        formed = λ b i h u v.
            let l : b < blocks_in p = omega (arith, n) in
            let e = end_same b l w.few_blocks in
            let top = (formed_blocks t p w b l).top in
            subst (λ (x : ℕ). Formed t q x i) e
            (formed_same t (end_in p b) i (omega (arith, e, top, w.few_steps)) (w.formed b i l (omega (arith, same (2 + b) (omega (arith, w.few_blocks)))) (omega (arith, e))));
      }

  -- what is asked of a walk, and what it lists
  pub can_walk_same : (t : Table) (object : ℕ) (blocks variables : List ℕ) → CanWalk t p object blocks variables → CanWalk t q object blocks variables
  can_walk_same t object blocks variables c = record {
    well_formed = well_formed_same t c.well_formed;
    known = λ j h. let x = c.known j h in omega (arith, x, same 0 (omega arith));
    object_record = c.object_record;
    few_blocks = c.few_blocks;
    all_variables = c.all_variables;
  }

  pub listed_same : (t : Table) (object : ℕ) (blocks variables : List ℕ) → CanWalk t p object blocks variables → listed t p object blocks variables ≡ listed t q object blocks variables
  listed_same t object blocks variables c =
      ap (λ (x : Plan). walk_answer (is_one variables) (λ k. applies t k object) x blocks) (plan_same c.well_formed.few_blocks c.well_formed.few_steps)

-- of a longer plan the first numbers do as well
module _ (table plan : List ℕ) (object : ℕ) (blocks variables pairs report pairs' report' : List ℕ) (long : plan_size ≤ length plan) where
  first_long : plan_size ≤ length (take plan_size plan)
  first_long = le_of_eq (sym (length-take-le {A = ℕ} plan_size plan long))

  first_same : (i : ℕ) → i < plan_size → get_or plan i 0 ≡ get_or (take plan_size plan) i 0
  first_same i h = sym (get_or-take plan_size plan i 0 h)

  to_first : CanWalk (table_of table) plan object blocks variables → CanWalk (table_of table) (take plan_size plan) object blocks variables
  to_first = can_walk_same plan (take plan_size plan) first_long first_same (table_of table) object blocks variables

  from_first : CanWalk (table_of table) (take plan_size plan) object blocks variables → CanWalk (table_of table) plan object blocks variables
  from_first = can_walk_same (take plan_size plan) plan long (λ i h. sym (first_same i h)) (table_of table) object blocks variables

  pub walked_first : {n : ℕ} → Walked table plan object blocks variables pairs report pairs' report' n → Walked table (take plan_size plan) object blocks variables pairs report pairs' report' n
  walked_first (short_report h f g) = short_report h f g
  walked_first (short_pairs h w f g) = short_pairs h w f g
  walked_first (long_table l w f g) = long_table l w f g
  walked_first (refuses_table l s j n f g) = refuses_table l s j n f g
  walked_first (refuses_walk l r n f g) = refuses_walk l r (λ c. n (from_first c)) f g
  walked_first (too_many_pairs l r c m f g) =
      let e = listed_same plan (take plan_size plan) first_long first_same (table_of table) object blocks variables c in too_many_pairs l r (to_first c) (omega (arith, m, ap length e)) f g
  walked_first (lists l r c m f g) =
      let e = listed_same plan (take plan_size plan) first_long first_same (table_of table) object blocks variables c in
      lists l r (to_first c) (omega (arith, m, ap length e)) (f ∙ ap (λ (ps : List Pair). filled pairs_size (pair_numbers ps) pairs) e)
      (g ∙ ap (λ (ps : List Pair). filled report_size (accepted ∷ length ps ∷ []) report) e)
