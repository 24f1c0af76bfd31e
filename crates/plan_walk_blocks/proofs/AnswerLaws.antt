-- From the walk and the grouping to the answer; the plan that a plan's numbers say is that plan.
use mathlib.Core.Path.{◌≡◌, refl, sym, ap, ◌∙◌}
use mathlib.Core.Bool.{false}
use mathlib.Core.Logic.{◌⊎◌, inl, inr}
use mathlib.Core.List.{List, [], ◌∷◌, ◌++◌}
use Prim.Native.Nat.{ℕ, zero, suc, ◌+◌, ◌*◌, ◌-◌, ◌≤◌, ◌<◌}
use native.Mathlib.Omega.{arith}
use lib.ListN.{length, get_or, drop, replicate, drop_of_length-le}
use lib.Seq.{drop-cons}
use lib.Dec.{eqb}
use Rattle.paper_plan.specs.Planning.{Step, Plan}
use Rattle.paper_plan.specs.PlanNumbers.{most_blocks, plan_numbers, first_in}
use Rattle.call_buffers.specs.Buffers.{cleared}
use Rattle.plan_walk_steps.specs.Numbers.{Marks, Listed, Over, Held, steps_from, pair_numbers}
use Rattle.plan_walk_steps.proofs.TwoPass.{runs, two_pass}
use Rattle.plan_walk_steps.proofs.PlanLaws.{plan_steps, plan_first}
use Rattle.plan_walk_blocks.specs.Answers.{firsts_from, plan_in, after_all, pairs_from, Given, answer_of, TooMany, Holds}
use Rattle.plan_walk_blocks.proofs.GroupLaws.{answer_length, pairs_listed}

zero_at : (n f : ℕ) → get_or {A = ℕ} (replicate n 0) f 0 ≡ 0
zero_at zero f = refl
zero_at (suc n) zero = refl
zero_at (suc n) (suc f) = zero_at n f

-- no fragment is met where all bytes are 0
pub no_marks : (n : ℕ) → Marks (replicate n 0) []
no_marks n f h = ap (λ (x : ℕ). eqb x 1) (zero_at n f)

module _ (p bs vars fits met found : List ℕ) (n : ℕ) (g : Given p bs vars fits met found n) where
  pub answer_over : (out out' : List ℕ) → n ≡ 513 → length out ≡ 1024 → out' ≡ cleared 0 out → TooMany p bs vars fits out' 513
  answer_over out out' e s c = go g
    where
      go : Over n (after_all p bs vars fits) ⊎ Held n met found (after_all p bs vars fits) → TooMany p bs vars fits out' 513
      go (inl x) = record {
        told = refl;
        many = omega (arith, x.many, answer_length (after_all p bs vars fits).out);
        zeros = let z : length out - 0 ≡ 1024 = omega arith in c ∙ ap (λ (k : ℕ). replicate k 0) z;
      }
      go (inr x) = absurd (omega (arith, x.few))

  pub answer_few : (n ≡ 513 → ⊥) → n ≤ 512
  answer_few e = go g
    where
      go : Over n (after_all p bs vars fits) ⊎ Held n met found (after_all p bs vars fits) → n ≤ 512
      go (inl x) = absurd (e x.told)
      go (inr x) = x.few

  pub answer_holds : (out out' : List ℕ) → (n ≡ 513 → ⊥) → length out ≡ 1024 → Listed out n (runs (λ k. false) (pairs_from found 0 n)) → out' ≡ cleared (2 * n) out → Holds p bs vars fits out' n
  answer_holds out out' e s w c = go g
    where
      go : Over n (after_all p bs vars fits) ⊎ Held n met found (after_all p bs vars fits) → Holds p bs vars fits out' n
      go (inl x) = absurd (e x.told)
      go (inr x) =
          let same : runs (λ k. false) (pairs_from found 0 n) ≡ answer_of p bs vars fits
          = ap (runs (λ k. false)) (pairs_listed found n (after_all p bs vars fits).out x.listed) ∙ sym (two_pass (after_all p bs vars fits).out) in
          record {
            few = x.few;
            count = answer_length (after_all p bs vars fits).out ∙ x.listed.size;
            written =
                c ∙ ap (λ (l : List ℕ). l ++ replicate (length out - 2 * n) 0) (w.said ∙ ap pair_numbers same)
                ∙ ap (λ (k : ℕ). pair_numbers (answer_of p bs vars fits) ++ replicate (k - 2 * n) 0) s;
          }

-- a plan's own numbers
firsts_are : (p xs : List ℕ) (k n : ℕ) → k + n ≡ length xs → ((b : ℕ) → b < length xs → first_in p b ≡ get_or xs b 0) → firsts_from p k n ≡ drop k xs
unfolding firsts_from
firsts_are p xs k zero e f = sym (drop_of_length-le xs {i = k} (omega arith))
firsts_are p xs k (suc n) e f =
    ap (λ (a : ℕ). a ∷ firsts_from p (suc k) n) (f k (omega arith)) ∙ ap (λ (l : List ℕ). get_or xs k 0 ∷ l) (firsts_are p xs (suc k) n (omega arith) f) ∙ sym (drop-cons xs k 0 (omega arith))

pub plan_in_is : (p : Plan) (more : List ℕ) → length p.first ≤ most_blocks → plan_in (plan_numbers p ++ more) ≡ p
plan_in_is p more h =
    ap (λ (f : List ℕ). record { first = f; steps = steps_from (plan_numbers p ++ more) 0 (length p.steps) }) (firsts_are (plan_numbers p ++ more) p.first 0 (length p.first) (omega arith) (plan_first p h more))
    ∙ ap (λ (s : List Step). record { first = p.first; steps = s }) (plan_steps p h more)
