-- What is asked of a walk is so or not so.
use mathlib.Core.Path.{◌≡◌, refl, sym, subst}
use mathlib.Core.Bool.{Bool, true, false, true≢false}
use mathlib.Core.List.{List}
use Prim.Native.Nat.{ℕ, zero, suc, ◌≤◌, ◌<◌}
use native.Mathlib.Decide.{dec_le, dec_lt, ℕ_discrete}
use native.Mathlib.Omega.{arith}
use lib.ListN.{length, get_or}
use Rattle.paper.specs.Numbers.{most_rows, most_fragments, most_variables}
use Rattle.paper_table.specs.Types.{Table, is_object, is_composite}
use Rattle.paper_query.specs.Enclosing.{definition_at}
use Rattle.paper_plan.specs.PlanNumbers.{plan_size, most_blocks, most_steps, step_unless_true, step_unless_applies, step_if_met, step_list, blocks_in, steps_in, first_in, end_in, kind_at, one_at, two_at, Formed, WellFormed}
use Rattle.paper_plan.specs.WalkNumbers.{most_walked, variables_size}
use Rattle.paper_plan.specs.WalkCalls.{CanWalk}

both : {A B : Type 0} → Dec A → Dec B → Dec (A × B)
both (yes a) (yes b) = yes (a, b)
both (yes a) (no n) = no (λ p. n p.1)
both (no n) d = no (λ p. n p.0)

where_so : {A B : Type 0} → Dec A → Dec B → Dec (A → B)
where_so d (yes b) = yes (λ a. b)
where_so (yes a) (no n) = no (λ f. n (f a))
where_so (no m) (no n) = yes (λ a. absurd (m a))

is_true : (b : Bool) → Dec (b ≡ true)
is_true true = yes refl
is_true false = no (λ e. true≢false (sym e))

-- of every number below n
abbrev Below : ℕ → (ℕ → Type 0) → Type 0
Below n P = (i : ℕ) → i < n → P i

below : (n : ℕ) (P : ℕ → Type 0) → ((i : ℕ) → Dec (P i)) → Dec (Below n P)
below zero P d = yes (λ i h. absurd (omega arith))
below (suc n) P d = go (below n P d) (d n)
  where
    go : Dec (Below n P) → Dec (P n) → Dec (Below (suc n) P)
    go (no m) y = no (λ f. m (λ i h. f i (omega arith)))
    go (yes f) (no m) = no (λ g. m (g n (omega arith)))
    go (yes f) (yes p) = yes (λ i h. last i h (dec_lt i n))
      where
        last : (i : ℕ) → i < suc n → Dec (i < n) → P i
        last i h (yes l) = f i l
        last i h (no l) = let z : n ≡ i = omega arith in subst P z p

-- the same, said otherwise
same_as : {A B : Type 0} → Dec A → (A → B) → (B → A) → Dec B
same_as (yes a) f g = yes (f a)
same_as (no n) f g = no (λ b. n (g b))

module _ (t : Table) (p : List ℕ) where
  -- a step
  step : (end i : ℕ) → Dec (Formed t p end i)
  step end i =
      same_as (both (dec_le 1 (kind_at p i)) (both (dec_le (kind_at p i) step_list) (both (where_so (dec_le (kind_at p i) step_unless_true) (dec_lt (one_at p i) most_variables))
      (both (where_so (ℕ_discrete (kind_at p i) step_unless_applies) (is_true (is_composite (definition_at t (one_at p i)))))
      (both (where_so (ℕ_discrete (kind_at p i) step_if_met) (dec_lt (one_at p i) most_fragments))
      (both (where_so (ℕ_discrete (kind_at p i) step_list) (both (dec_lt (one_at p i) most_rows) (dec_lt (two_at p i) most_rows)))
      (both (where_so (dec_lt (kind_at p i) step_list) (dec_lt i (two_at p i))) (where_so (dec_lt (kind_at p i) step_list) (dec_le (two_at p i) end)))))))))
      (λ x. record {
        low = x.0;
        high = x.1.0;
        variable_low = x.1.1.0;
        record_is = x.1.1.1.0;
        fragment_low = x.1.1.1.1.0;
        listed_low = x.1.1.1.1.1.0;
        later = x.1.1.1.1.1.1.0;
        within = x.1.1.1.1.1.1.1;
      })
      (λ f. (f.low, (f.high, (f.variable_low, (f.record_is, (f.fragment_low, (f.listed_low, (f.later, f.within))))))))

  -- the steps of a block
  abbrev Steps : ℕ → Type 0
  Steps b = Below (end_in p b) (λ i. first_in p b ≤ i → Formed t p (end_in p b) i)

  steps : (b : ℕ) → Dec (Steps b)
  steps b = below (end_in p b) (λ i. first_in p b ≤ i → Formed t p (end_in p b) i) (λ i. where_so (dec_le (first_in p b) i) (step (end_in p b) i))

  -- a plan
  well_formed_decided : Dec (WellFormed t p)
  well_formed_decided =
      same_as (both (dec_le plan_size (length p)) (both (dec_le 1 (blocks_in p)) (both (dec_le (blocks_in p) most_blocks) (both (dec_le (steps_in p) most_steps) (both (ℕ_discrete (first_in p 0) 0)
      (both (below (blocks_in p) (λ b. suc b < blocks_in p → first_in p b ≤ first_in p (suc b)) (λ b. where_so (dec_lt (suc b) (blocks_in p)) (dec_le (first_in p b) (first_in p (suc b)))))
      (both (below (blocks_in p) (λ b. first_in p b ≤ steps_in p) (λ b. dec_le (first_in p b) (steps_in p))) (below (blocks_in p) Steps steps))))))))
      (λ x. record {
        long = x.0;
        some = x.1.0;
        few_blocks = x.1.1.0;
        few_steps = x.1.1.1.0;
        zeroth = x.1.1.1.1.0;
        rising = λ b h. x.1.1.1.1.1.0 b (omega arith) h;
        inside = x.1.1.1.1.1.1.0;
        formed = λ b i h u v. x.1.1.1.1.1.1.1 b h i v u;
      })
      (λ w. (w.long, (w.some, (w.few_blocks, (w.few_steps, (w.zeroth, (λ b l h. w.rising b h, (w.inside, λ b h i v u. w.formed b i h u v))))))))

  pub can_walk_decided : (object : ℕ) (blocks variables : List ℕ) → Dec (CanWalk t p object blocks variables)
  can_walk_decided object blocks variables =
      same_as (both well_formed_decided (both (below (length blocks) (λ j. get_or blocks j 0 < blocks_in p) (λ j. dec_lt (get_or blocks j 0) (blocks_in p)))
      (both (is_true (is_object (definition_at t object))) (both (dec_le (length blocks) most_walked) (dec_le variables_size (length variables))))))
      (λ x. record { well_formed = x.0; known = x.1.0; object_record = x.1.1.0; few_blocks = x.1.1.1.0; all_variables = x.1.1.1.1 })
      (λ c. (c.well_formed, (c.known, (c.object_record, (c.few_blocks, c.all_variables)))))
