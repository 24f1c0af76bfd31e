-- A plan does not depend on the bound of how deep fragments stand in one another: each that is high enough gives the same steps.
use mathlib.Core.Path.{◌≡◌, refl, sym, ap, ◌∙◌}
use mathlib.Core.Bool.{true, true≢false}
use mathlib.Core.List.{List, [], ◌∷◌, ◌++◌, map}
use Prim.Native.Nat.{ℕ, zero, suc, ◌+◌, ◌≤◌, ◌<◌}
use native.Mathlib.Omega.{arith}
use lib.ListN.{length}
use Rattle.paper.proofs.Bools.{and_left, and_right}
use Rattle.paper.specs.Rows.{Row}
use Rattle.paper_table.specs.Types.{table_of}
use Rattle.paper_query.specs.Constructs.{count}
use Rattle.paper_query.specs.DocumentCalls.{read}
use Rattle.paper_query.specs.Opening.{AcceptedDocument}
use Rattle.paper_plan.specs.Collecting.{Sort, field, spread, inline, View}
use Rattle.paper_plan.specs.Planning.{Step, dropped, guarded, unless_dropped, tests, content, selection, selections, plan, program, firsts, Plan, plan_of}
use Rattle.paper_plan.specs.Selecting.{by_numbers, set_of, plan_for}
use Rattle.plan_theory.proofs.Depth.{deep_at, all_deep, deep, deep_all}
use Rattle.plan_theory.proofs.Document.{sets_deep}
use Rattle.plan_theory.proofs.Accepted.{accepted_plannable}

module _ (d : View ℕ) where
  -- two ways to plan what stands behind selections, that agree where k is high enough
  abbrev Agree : ℕ → (ℕ → List ℕ → List Step) → (ℕ → List ℕ → List Step) → Type 0
  Agree k f g = (at : ℕ) (rs : List ℕ) → deep d k rs ≡ true → f at rs ≡ g at rs

  contents_same : (k : ℕ) (f g : ℕ → List ℕ → List Step) → Agree k f g → (at r : ℕ) (so : Sort ℕ) → deep_at d (deep d k) r so ≡ true → content d f at r so ≡ content d g at r so
  contents_same k f g a at r (field x) h = refl
  contents_same k f g a at r (spread x) h = a at (d.fragment x) h
  contents_same k f g a at r (inline x) h = a at (d.body r) h

  selections_same : (k : ℕ) (f g : ℕ → List ℕ → List Step) → Agree k f g → (at : ℕ) (rs : List ℕ) → all_deep d (deep d k) rs ≡ true → selections d f at rs ≡ selections d g at rs
  selections_same k f g a at [] h = refl
  selections_same k f g a at (r ∷ rs) h =
      let one : selection d f at r ≡ selection d g at r =
      ap (λ (b : List Step). unless_dropped (dropped (d.skip r) (d.include r)) (guarded (tests d r) at b))
      (contents_same k f g a (at + length (tests d r)) r (d.sort r) (and_left (deep_at d (deep d k) r (d.sort r)) (all_deep d (deep d k) rs) h)) in
      ap (λ (s : List Step). s ++ selections d f (at + length s) rs) one ∙
      ap (λ (l : List Step). selection d g at r ++ l) (selections_same k f g a (at + length (selection d g at r)) rs (and_right (deep_at d (deep d k) r (d.sort r)) (all_deep d (deep d k) rs) h))

  -- a higher bound than one that is high enough
  plan_same : (k m : ℕ) → k ≤ m → Agree k (plan d m) (plan d k)
  unfolding deep plan
  plan_same zero m l at rs h = absurd (true≢false (sym h))
  plan_same (suc k) zero l at rs h = absurd (let z : suc k ≤ 0 = l in omega arith)
  plan_same (suc k) (suc m) l at rs h = selections_same k (plan d m) (plan d k) (plan_same k m (omega arith)) at rs h

  program_same : (k m : ℕ) → k ≤ m → (at : ℕ) (bs : List (List ℕ)) → deep_all d k bs ≡ true → (program d m at bs ≡ program d k at bs) × (firsts d m at bs ≡ firsts d k at bs)
  unfolding program firsts
  program_same k m l at [] h = (refl, refl)
  program_same k m l at (b ∷ bs) h =
      let e : plan d m at b ≡ plan d k at b = plan_same k m l at b (and_left (deep d k b) (deep_all d k bs) h) in
      let n = program_same k m l (at + length (plan d k at b)) bs (and_right (deep d k b) (deep_all d k bs) h) in (
        ap (λ (s : List Step). s ++ program d m (at + length s) bs) e ∙ ap (λ (p : List Step). plan d k at b ++ p) n.0,
        ap (λ (s : List Step). at ∷ firsts d m (at + length s) bs) e ∙ ap (λ (p : List ℕ). at ∷ p) n.1,
      )

pub any_depth : (table document : List ℕ) (rs : List Row) → AcceptedDocument table document rs → (op : ℕ) (rows : List ℕ) (k : ℕ) → count (read document rs) < k →
    plan_of (by_numbers (table_of table) (read document rs) op) k (map (set_of (read document rs)) rows) ≡ plan_for (table_of table) (read document rs) op rows
any_depth table document rs a op rows k h =
    let deeply = sets_deep (table_of table) (read document rs) op (accepted_plannable table document rs a) rows in
    let e = program_same (by_numbers (table_of table) (read document rs) op) (suc (count (read document rs))) k (omega arith) 0 (map (set_of (read document rs)) rows) deeply in
    ap {B = Plan} (λ (x : List ℕ). record { first = x; steps = program (by_numbers (table_of table) (read document rs) op) k 0 (map (set_of (read document rs)) rows) }) e.1 ∙
    ap {B = Plan} (λ (x : List Step). record { first = firsts (by_numbers (table_of table) (read document rs) op) (suc (count (read document rs))) 0 (map (set_of (read document rs)) rows); steps = x }) e.0
