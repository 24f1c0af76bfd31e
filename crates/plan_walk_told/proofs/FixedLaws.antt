-- From what is asked and listed to what `gw_walk` must do, in pairs of the fixed size.
use mathlib.Core.Path.{◌≡◌, refl, sym, ap, ◌∙◌, subst}
use mathlib.Core.Logic.{◌⊎◌, inl, inr}
use mathlib.Core.List.{List, [], ◌∷◌, ◌++◌, append-nil}
use Prim.Native.Nat.{ℕ, ◌*◌, ◌-◌}
use native.Mathlib.Omega.{arith}
use lib.ListN.{length, drop, replicate, drop_of_length-le}
use Rattle.paper.specs.Numbers.{report_size, accepted}
use Rattle.paper.specs.Calls.{filled}
use Rattle.paper_table.specs.Types.{table_of}
use Rattle.call_buffers.specs.Buffers.{cleared}
use Rattle.paper_plan.specs.Collecting.{Pair}
use Rattle.paper_plan.specs.LentPlan.{pair_numbers}
use Rattle.paper_plan.specs.WalkNumbers.{pairs_size, refuse_walk}
use Rattle.paper_plan.specs.WalkCalls.{CanWalk, listed, WalkLent, Right, Walked, refuses_walk, too_many_pairs, lists}
use Rattle.plan_walk_told.specs.Walking.{Few, Many, Pairs, Told}

-- pairs of the fixed size have nothing beyond it
pub none_beyond : (xs pairs : List ℕ) → length pairs ≡ pairs_size → xs ≡ xs ++ drop pairs_size pairs
none_beyond xs pairs e = sym (ap (λ (l : List ℕ). xs ++ l) (drop_of_length-le pairs {i = pairs_size} (omega arith)) ∙ append-nil xs)

pub all_cleared : (pairs pairs' : List ℕ) → length pairs ≡ pairs_size → pairs' ≡ cleared 0 pairs → pairs' ≡ filled pairs_size [] pairs
all_cleared pairs pairs' e c = c ∙ ap (λ (n : ℕ). replicate (n - 0) 0) e ∙ none_beyond (replicate pairs_size 0) pairs e

pub flat_length : (l : List Pair) → length (pair_numbers l) ≡ 2 * length l
flat_length [] = refl
flat_length (p ∷ ps) = let z = flat_length ps in omega (arith, z)

-- A walk that is refused, and the pairs of one that is not.
module _ (table plan : List ℕ) (object : ℕ) (blocks variables pairs report pairs' report' : List ℕ) (lent : WalkLent pairs report) (e : length pairs ≡ pairs_size) where
  pub walk_refused : Right table → (CanWalk (table_of table) plan object blocks variables → ⊥) →
      pairs' ≡ cleared 0 pairs → report' ≡ filled report_size (refuse_walk ∷ 0 ∷ []) report → Walked table plan object blocks variables pairs report pairs' report' refuse_walk
  walk_refused r w c t = refuses_walk lent r w (all_cleared pairs pairs' e c) t

  pub pairs_told : (n r : ℕ) → Right table → CanWalk (table_of table) plan object blocks variables →
      Pairs (table_of table) plan object blocks variables pairs' n → Told n report report' r → Walked table plan object blocks variables pairs report pairs' report' r
  pairs_told n r right w l t = go l
    where
      go : Many (table_of table) plan object blocks variables pairs' n ⊎ Few (table_of table) plan object blocks variables pairs' n → Walked table plan object blocks variables pairs report pairs' report' r
      go (inl x) =
          let q = t.too_many x.over in
          subst (Walked table plan object blocks variables pairs report pairs' report') (sym q.0) (too_many_pairs lent right w x.many (x.zeros ∙ none_beyond (replicate pairs_size 0) pairs e) q.1)
      go (inr x) =
          let q = t.counted x.few in
          let size = flat_length (listed (table_of table) plan object blocks variables) in
          let rest : pairs_size - 2 * n ≡ pairs_size - length (pair_numbers (listed (table_of table) plan object blocks variables)) = omega (arith, size, x.count) in
          subst (Walked table plan object blocks variables pairs report pairs' report') (sym q.0)
          (lists lent right w (omega (arith, x.few, x.count))
          (x.written ∙ ap (λ (k : ℕ). pair_numbers (listed (table_of table) plan object blocks variables) ++ replicate k 0) rest ∙ none_beyond _ pairs e)
          (q.1 ∙ ap (λ (k : ℕ). filled report_size (accepted ∷ k ∷ []) report) (sym x.count)))
