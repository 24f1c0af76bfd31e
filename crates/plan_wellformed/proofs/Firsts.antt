-- Blocks' first steps: they do not fall nor go past the steps, and each step of a block is formed up to the next block's first.
use mathlib.Core.Path.{◌≡◌, refl, sym, subst}
use mathlib.Core.List.{List, [], ◌∷◌}
use Prim.Native.Nat.{ℕ, zero, suc, ◌+◌, ◌≤◌, ◌<◌}
use native.Mathlib.Omega.{arith}
use lib.ListN.{length, get_or, length-append}
use Rattle.paper_table.specs.Types.{Table}
use Rattle.paper_plan.specs.Collecting.{View}
use Rattle.paper_plan.specs.Planning.{plan, program, firsts}
use Rattle.paper_plan.specs.PlanNumbers.{Formed}
use Rattle.plan_theory.proofs.Ahead.{plan_ahead}
use Rattle.plan_wellformed.proofs.RightSteps.{AllRight, right_later}
use Rattle.plan_wellformed.proofs.Standing.{AllStand, stand_later, steps_formed}

module _ (d : View ℕ) (k : ℕ) where
  first_from : (bs : List (List ℕ)) (at b : ℕ) → b < length bs → at ≤ get_or (firsts d k at bs) b 0
  unfolding firsts
  first_from [] at b h = absurd (omega arith)
  first_from (x ∷ bs) at zero h = omega arith
  first_from (x ∷ bs) at (suc b) h = omega (arith, first_from bs (at + length (plan d k at x)) b (omega arith))

  pub first_rises : (bs : List (List ℕ)) (at b : ℕ) → suc b < length bs → get_or (firsts d k at bs) b 0 ≤ get_or (firsts d k at bs) (suc b) 0
  unfolding firsts
  first_rises [] at b h = absurd (omega arith)
  first_rises (x ∷ bs) at zero h = omega (arith, first_from bs (at + length (plan d k at x)) 0 (omega arith))
  first_rises (x ∷ bs) at (suc b) h = first_rises bs (at + length (plan d k at x)) b (omega arith)

  pub first_inside : (bs : List (List ℕ)) (at b : ℕ) → b < length bs → get_or (firsts d k at bs) b 0 ≤ at + length (program d k at bs)
  unfolding firsts program
  first_inside [] at b h = absurd (omega arith)
  first_inside (x ∷ bs) at zero h = omega arith
  first_inside (x ∷ bs) at (suc b) h =
      let s = plan d k at x in let rest = program d k (at + length s) bs in
      omega (arith, first_inside bs (at + length s) b (omega arith), length-append s rest)

  -- the next block begins where the steps from here on do, or they end there
  next_first : (bs : List (List ℕ)) (at z : ℕ) → z ≡ at + length (program d k at bs) → get_or (firsts d k at bs) 0 z ≡ at
  unfolding firsts program
  next_first [] at z q = omega arith
  next_first (x ∷ bs) at z q = refl

  -- z is where all steps end
  pub block_formed : (t : Table) (p : List ℕ) (bs : List (List ℕ)) (at b i z : ℕ) → AllStand p at (program d k at bs) → AllRight t (program d k at bs) → b < length bs → z ≡ at + length (program d k at bs) →
      get_or (firsts d k at bs) b 0 ≤ i → i < get_or (firsts d k at bs) (suc b) z → Formed t p (get_or (firsts d k at bs) (suc b) z) i
  unfolding firsts program
  block_formed t p [] at b i z w r h q l u = absurd (omega arith)
  block_formed t p (x ∷ bs) at zero i z w r h q l u =
      let s = plan d k at x in let rest = program d k (at + length s) bs in
      let e : get_or (firsts d k (at + length s) bs) 0 z ≡ at + length s = next_first bs (at + length s) z (omega (arith, length-append s rest)) in
      subst (λ (n : ℕ). Formed t p n i) (sym e) (steps_formed t p (at + length s) s rest at i w (plan_ahead d k at x) r l (omega arith))
  block_formed t p (x ∷ bs) at (suc b) i z w r h q l u =
      let s = plan d k at x in let rest = program d k (at + length s) bs in
      block_formed t p bs (at + length s) b i z (stand_later p s rest at (at + length s) refl w) (right_later t s rest r) (omega arith) (omega (arith, length-append s rest)) l u
