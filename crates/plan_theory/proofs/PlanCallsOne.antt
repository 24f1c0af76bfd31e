-- One thing only may gw_plan answer and leave in its buffers: its checks come one after another, and each that fails fixes all.
use mathlib.Core.Path.{◌≡◌, sym, ap, ◌∙◌, subst}
use mathlib.Core.List.{List, [], ◌∷◌}
use Prim.Native.Nat.{ℕ, ◌≤◌, ◌<◌}
use native.Mathlib.Omega.{arith}
use lib.ListN.{length}
use Rattle.paper.specs.Numbers.{report_size, most_text, input_document, accepted}
use Rattle.paper.specs.Rows.{Row}
use Rattle.paper.specs.Refusals.{number_of}
use Rattle.paper.specs.Calls.{filled, tells}
use Rattle.paper.specs.declared.Refusal.TheVariants.{Buffer, OverLength}
use Rattle.paper_table.specs.TableNumbers.{most_table, input_table}
use Rattle.paper_table.specs.Types.{table_of}
use Rattle.paper_query.specs.DocumentCalls.{read}
use Rattle.paper_query.specs.Opening.{stops, opens, Opened}
use Rattle.paper_query.proofs.InOrder.{Left, left, One, Checks, failed, later, checks_one}
use Rattle.paper_query.proofs.OpeningOne.{opened_one}
use Rattle.paper_plan.specs.Planning.{Plan}
use Rattle.paper_plan.specs.Selecting.{BlockRows, plan_for}
use Rattle.paper_plan.specs.PlanNumbers.{plan_size, most_steps, plan_numbers}
use Rattle.paper_plan.specs.PlanCalls.{refuse_too_many_steps, PlanIs, Planned, short_report, short_plan, long_document, long_table, refuses_opening, too_many_steps, plans}
use Rattle.plan_theory.proofs.Ones.{blocks_one}

-- an operation has one plan, and one that opens is not one that stops
opens_inj : {rs rs' : List Row} {o o' : ℕ} → opens rs o ≡ opens rs' o' → (rs ≡ rs') × (o ≡ o')
opens_inj e = (cc, cc)

stops_inj : {k k' : ℕ} {s s' : List ℕ} → stops k s ≡ stops k' s' → (k ≡ k') × (s ≡ s')
stops_inj e = (cc, cc)

stops≢opens : {k : ℕ} {s : List ℕ} {rs : List Row} {o : ℕ} → stops k s ≡ opens rs o → ⊥
stops≢opens q = let z : ◌≡◌ {A = ℕ} 0 1 = cc in omega arith

pub plan_one : {table document name : List ℕ} {p p' : Plan} → PlanIs table document name p → PlanIs table document name p' → p ≡ p'
plan_one {table} {document} {name} a b =
    let e = opens_inj (opened_one a.opened b.opened) in
    let w : BlockRows (read document a.rows) a.operation b.blocks =
    subst (λ (rs : List Row). BlockRows (read document rs) a.operation b.blocks) (sym e.0) (subst (λ (o : ℕ). BlockRows (read document b.rows) o b.blocks) (sym e.1) b.their) in
    let q : a.blocks ≡ b.blocks = blocks_one (read document a.rows) a.operation a.blocks b.blocks a.their w in
    a.is ∙ ap (λ (l : List ℕ). plan_for (table_of table) (read document a.rows) a.operation l) q
    ∙ ap (λ (rs : List Row). plan_for (table_of table) (read document rs) a.operation b.blocks) e.0
    ∙ ap (λ (o : ℕ). plan_for (table_of table) (read document b.rows) o b.blocks) e.1 ∙ sym b.is

-- what comes of opened inputs
data Told (table document name plan report : List ℕ) (x : Left) : Type 0 where
  stopped : {k : ℕ} {shown : List ℕ} → Opened table document name (stops k shown) → x ≡ left k (filled plan_size [] plan) (filled report_size (k ∷ shown) report) → Told table document name plan report x
  long : {p : Plan} → PlanIs table document name p → most_steps < length p.steps → x ≡ left refuse_too_many_steps (filled plan_size [] plan) (filled report_size (refuse_too_many_steps ∷ []) report) → Told table document name plan report x
  planned : {p : Plan} → PlanIs table document name p → length p.steps ≤ most_steps
      → x ≡ left accepted (filled plan_size (plan_numbers p) plan) (filled report_size (accepted ∷ length p.first ∷ length p.steps ∷ []) report) → Told table document name plan report x

told_one : (table document name plan report : List ℕ) → One (Told table document name plan report)
unfolding One
told_one table document name plan report x y (stopped a e) (stopped b f) = let q = stops_inj (opened_one a b) in let u = q.0 in let w = q.1 in cc
told_one table document name plan report x y (stopped a e) (long b m f) = absurd (stops≢opens (opened_one a b.opened))
told_one table document name plan report x y (stopped a e) (planned b m f) = absurd (stops≢opens (opened_one a b.opened))
told_one table document name plan report x y (long a m e) (stopped b f) = absurd (stops≢opens (opened_one b a.opened))
told_one table document name plan report x y (long a m e) (long b n f) = e ∙ sym f
told_one table document name plan report x y (long {p} a m e) (planned {p = p'} b n f) = absurd (let q : length p.steps ≡ length p'.steps = ap (λ (r : Plan). length r.steps) (plan_one a b) in omega arith)
told_one table document name plan report x y (planned a m e) (stopped b f) = absurd (stops≢opens (opened_one b a.opened))
told_one table document name plan report x y (planned {p} a m e) (long {p = p'} b n f) = absurd (let q : length p.steps ≡ length p'.steps = ap (λ (r : Plan). length r.steps) (plan_one a b) in omega arith)
told_one table document name plan report x y (planned {p} a m e) (planned {p = p'} b n f) =
    let q : p ≡ p' = plan_one a b in
    e ∙ ap (λ (r : Plan). left accepted (filled plan_size (plan_numbers r) plan) (filled report_size (accepted ∷ length r.first ∷ length r.steps ∷ []) report)) q ∙ sym f

-- the checks, one after another
abbrev TableShort : (table document name plan report : List ℕ) → Left → Type 0
TableShort table document name plan report =
    Checks (most_table < length table) (length table ≤ most_table) (left (number_of (OverLength input_table)) plan (tells (OverLength input_table) report))
    (Told table document name plan report)

abbrev DocumentShort : (table document name plan report : List ℕ) → Left → Type 0
DocumentShort table document name plan report =
    Checks (most_text < length document) (length document ≤ most_text) (left (number_of (OverLength input_document)) plan (tells (OverLength input_document) report))
    (TableShort table document name plan report)

abbrev PlanShort : (table document name plan report : List ℕ) → Left → Type 0
PlanShort table document name plan report =
    Checks (length plan < plan_size) (plan_size ≤ length plan) (left (number_of Buffer) plan (tells Buffer report)) (DocumentShort table document name plan report)

abbrev ReportShort : (table document name plan report : List ℕ) → Left → Type 0
ReportShort table document name plan report =
    Checks (length report < report_size) (report_size ≤ length report) (left (number_of Buffer) plan report) (PlanShort table document name plan report)

report_short_one : (table document name plan report : List ℕ) → One (ReportShort table document name plan report)
report_short_one table document name plan report =
    checks_one _ _ (λ a b. omega arith)
    (checks_one _ _ (λ a b. omega arith)
    (checks_one _ _ (λ a b. omega arith)
    (checks_one _ _ (λ a b. omega arith) (told_one table document name plan report))))

in_order : {table document name plan report plan' report' : List ℕ} {a : ℕ} → Planned table document name plan report plan' report' a → ReportShort table document name plan report (left a plan' report')
in_order (short_report h e f) = failed h cc
in_order (short_plan h w e f) = later h (failed w cc)
in_order (long_document l w e f) = later l.0 (later l.1 (failed w cc))
in_order (long_table l v w e f) = later l.0 (later l.1 (later v (failed w cc)))
in_order (refuses_opening l s o e f) = later l.0 (later l.1 (later s.0 (later s.1 (stopped o cc))))
in_order (too_many_steps l s p m e f) = later l.0 (later l.1 (later s.0 (later s.1 (long p m cc))))
in_order (plans l s p m e f) = later l.0 (later l.1 (later s.0 (later s.1 (planned p m cc))))

pub planned_one : {table document name plan report plan' report' plan'' report'' : List ℕ} {a a' : ℕ} →
    Planned table document name plan report plan' report' a → Planned table document name plan report plan'' report'' a' →
    (a ≡ a') × (plan' ≡ plan'') × (report' ≡ report'')
unfolding One
planned_one {table} {document} {name} {plan} {report} c c' = let e = report_short_one table document name plan report _ _ (in_order c) (in_order c') in (cc, cc, cc)
