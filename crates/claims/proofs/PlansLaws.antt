-- What `gw_plan` answers and leaves in the buffers, case by case of its statement.
use mathlib.Core.Path.{◌≡◌, refl, ap, ◌∙◌}
use mathlib.Core.Bool.{true}
use mathlib.Core.Option.{none, some}
use mathlib.Core.Logic.{◌⊎◌, ◌↔◌, inl, inr}
use mathlib.Core.List.{List, [], ◌∷◌, ◌++◌, map}
use Prim.Native.Nat.{ℕ, suc, ◌+◌, ◌*◌, ◌-◌, ◌≤◌, ◌<◌}
use native.Mathlib.Omega.{arith}
use lib.ListN.{length, take, drop, replicate, length-append, length-replicate, length-map}
use borrow.Author.Tests.{eqb-true}
use Rattle.paper.specs.Numbers.{report_size, most_text, input_document, accepted, most_rows, kind_operation, kind_field}
use Rattle.paper.specs.Rows.{Row}
use Rattle.paper.specs.Refusals.{number_of}
use Rattle.paper.specs.Calls.{filled, tells}
use Rattle.paper.specs.declared.Refusal.{Refusal}
use Rattle.paper.specs.declared.Refusal.TheVariants.{Buffer, OverLength, NoToken, NoGoing, TooDeep, TooManyRows, TooMany}
use Rattle.paper_table.specs.Lists.{gather}
use Rattle.paper_table.specs.TableNumbers.{most_table, input_table}
use Rattle.paper_table.specs.Types.{table_of}
use Rattle.paper_table.specs.Judging.{table_number}
use Rattle.paper_table.specs.declared.TableAnswer.{TableAnswer}
use Rattle.paper_table.specs.declared.TableAnswer.TheVariants as answers
use Rattle.paper_query.specs.Constructs.{Doc, count, row_of, is}
use Rattle.paper_query.specs.DocumentCalls.{read, Short}
use Rattle.paper_query.specs.Opening.{AcceptedDocument, operation_meant, Outcome, stops, opens, Opened, table_refused, text_refused, rule_broken, no_operation, opened}
use Rattle.paper_query.proofs.OpeningOne.{opened_one}
use Rattle.paper_plan.specs.Collecting.{View}
use Rattle.paper_plan.specs.Planning.{Step, leave, list, if_true, unless_true, unless_applies, if_met, Plan, plan, firsts}
use Rattle.paper_plan.specs.PlanNumbers.{plan_size, most_steps, most_blocks, step_numbers, plan_numbers}
use Rattle.paper_plan.specs.Selecting.{set_of, by_numbers, IsBlock, BlockRows}
use Rattle.paper_plan.specs.PlanCalls.{refuse_too_many_steps, PlanLent, PlanIs, Planned, short_report, short_plan, long_document, long_table, refuses_opening, too_many_steps, plans}
use Rattle.plan_theory.proofs.Plannable.{in_range}
use Rattle.plan_theory.proofs.Accepted.{accepted_plannable}
use Rattle.plan_theory.proofs.PlanCallsOne.{planned_one}
use Rattle.plan_making.proofs.BlockCounts.{rising_but}
use Rattle.plan_answer.proofs.PlanLaws.{meant_operation}
use Rattle.claims.proofs.BuffersLaws.{filled_kept, filled_head, tells_fits}
use Rattle.claims.proofs.CoercionsStops.{opening_stops, unnamed_if, Unnamed}

-- ---- what stops the opening is 3 to 12

table_below : (a : TableAnswer) → table_number a < refuse_too_many_steps
table_below answers.Accepted = omega arith
table_below (answers.Framing at) = omega arith
table_below (answers.TooMany at) = omega arith
table_below (answers.Breaks i k m p a) = omega arith

text_below : (r : Refusal) → number_of r < refuse_too_many_steps
text_below Buffer = omega arith
text_below (OverLength input) = omega arith
text_below (NoToken at) = omega arith
text_below (NoGoing at) = omega arith
text_below (TooDeep at) = omega arith
text_below (TooManyRows at) = omega arith
text_below (TooMany at) = omega arith

abbrev Below : Outcome → Type 0
Below (stops k shown) = k < refuse_too_many_steps
Below (opens rs op) = Unit

below : {table document name : List ℕ} {o : Outcome} → Opened table document name o → Below o
below (table_refused {a} j n) = table_below a
below (text_refused {r = r} j k s) = text_below r
below (rule_broken j k s q) = omega arith
below (no_operation a e) = omega arith
below (opened a e) = tt

stop_facts : {table document name : List ℕ} {k : ℕ} {shown : List ℕ} → Opened table document name (stops k shown) → (2 < k) × (k < refuse_too_many_steps) × (length (k ∷ shown) ≤ report_size)
stop_facts o = let s = opening_stops o in (s.0, below o, s.3)

stops≢opens : {k : ℕ} {s : List ℕ} {rs : List Row} {o : ℕ} → stops k s ≡ opens rs o → ⊥
stops≢opens q = let z : ◌≡◌ {A = ℕ} 0 1 = cc in omega arith

-- ---- a plan of few steps fits its buffer: an operation has fewer blocks behind its own than there are rows

opened_facts : {table document name : List ℕ} {rs : List Row} {o : ℕ} → Opened table document name (opens rs o) → AcceptedDocument table document rs × (operation_meant (read document rs) name ≡ some o)
opened_facts (opened a e) = (a, e)

blocks_few : (d : Doc) (o : ℕ) (rows : List ℕ) → count d ≤ most_rows → is kind_operation (row_of d o) ≡ true → BlockRows d o rows → (1 ≤ length rows) × (length rows ≤ most_blocks)
blocks_few d o rows few op b =
    let l = in_range d kind_operation o refl op in
    let q = rising_but b.fields 0 (count d) o (omega arith) l b.rising (λ x e. (omega arith, in_range d kind_field x refl (b.sound x e).field_row)) (λ e. apart (b.sound o e)) in
    let z = ap length b.are in
    (omega (arith, z), omega (arith, z, q))
  where
    apart : IsBlock d o o → ⊥
    apart w = let x = eqb-true (row_of d o).kind kind_field w.field_row in let y = eqb-true (row_of d o).kind kind_operation op in omega (arith, x, y)

firsts_size : (v : View ℕ) (k at : ℕ) (bs : List (List ℕ)) → length (firsts v k at bs) ≡ length bs
unfolding firsts
firsts_size v k at [] = refl
firsts_size v k at (b ∷ bs) = ap suc (firsts_size v k (at + length (plan v k at b)) bs)

pub plan_blocks : {table document name : List ℕ} {p : Plan} → PlanIs table document name p → (1 ≤ length p.first) × (length p.first ≤ most_blocks)
plan_blocks {table} {document} {name} {p} q =
    let d = read document q.rows in
    let w = opened_facts q.opened in
    let f = blocks_few d q.operation q.blocks (accepted_plannable table document q.rows w.0).few (meant_operation d name q.operation w.1) q.their in
    let e : length p.first ≡ length q.blocks =
    ap (λ (x : Plan). length x.first) q.is ∙ firsts_size (by_numbers (table_of table) d q.operation) (suc (count d)) 0 (map (set_of d) q.blocks) ∙ length-map q.blocks (set_of d) in
    (omega (arith, e, f.0), omega (arith, e, f.1))

step_size : (s : Step) → length (step_numbers s) ≡ 3
step_size (leave (if_true v) n) = refl
step_size (leave (unless_true v) n) = refl
step_size (leave (unless_applies t) n) = refl
step_size (leave (if_met f) n) = refl
step_size (list k r) = refl

steps_size : (ss : List Step) → length (gather step_numbers ss) ≡ 3 * length ss
unfolding gather
steps_size [] = refl
steps_size (s ∷ ss) = omega (arith, length-append (step_numbers s) (gather step_numbers ss), step_size s, steps_size ss)

pub numbers_fit : {table document name : List ℕ} (p : Plan) → PlanIs table document name p → length p.steps ≤ most_steps → length (plan_numbers p) ≡ 2050 + 3 * length p.steps
numbers_fit p q h =
    let b = plan_blocks q in
    let zeros : List ℕ = replicate (most_blocks - length p.first) 0 in
    let x = length-append (p.first ++ zeros) (gather step_numbers p.steps) in
    let y = length-append p.first zeros in
    let z = length-replicate {A = ℕ} (most_blocks - length p.first) 0 in
    omega (arith, x, y, z, b.1, steps_size p.steps)

-- ---- the cases

module _ {table document name plan report plan' report' : List ℕ} where
  -- 0, 13 and 12, each exactly where it is due
  to_made : {a : ℕ} → Planned table document name plan report plan' report' a → a ≡ 0 →
      PlanLent plan report × Short table document × ((p : Plan) × PlanIs table document name p × (length p.steps ≤ most_steps))
  to_made (short_report h e f) q = absurd (omega (arith, q))
  to_made (short_plan h w e f) q = absurd (omega (arith, q))
  to_made (long_document l w e f) q = absurd (omega (arith, q))
  to_made (long_table l x w e f) q = absurd (omega (arith, q))
  to_made (refuses_opening l s o e f) q = absurd (omega (arith, q, (stop_facts o).0))
  to_made (too_many_steps l s p m e f) q = absurd (omega (arith, q))
  to_made (plans {p} l s i m e f) q = (l, s, (p, i, m))

  pub made_exactly : {a : ℕ} → Planned table document name plan report plan' report' a →
      (a ≡ 0) ↔ (PlanLent plan report × Short table document × ((p : Plan) × PlanIs table document name p × (length p.steps ≤ most_steps)))
  made_exactly c = (to_made c, λ h. (planned_one c (plans h.0 h.1 h.2.1 h.2.2 refl refl)).0)

  to_many : {a : ℕ} → Planned table document name plan report plan' report' a → a ≡ 13 →
      PlanLent plan report × Short table document × ((p : Plan) × PlanIs table document name p × (most_steps < length p.steps))
  to_many (short_report h e f) q = absurd (omega (arith, q))
  to_many (short_plan h w e f) q = absurd (omega (arith, q))
  to_many (long_document l w e f) q = absurd (omega (arith, q))
  to_many (long_table l x w e f) q = absurd (omega (arith, q))
  to_many (refuses_opening l s o e f) q = absurd (omega (arith, q, (stop_facts o).1))
  to_many (too_many_steps {p} l s i m e f) q = (l, s, (p, i, m))
  to_many (plans l s i m e f) q = absurd (omega (arith, q))

  pub many_exactly : {a : ℕ} → Planned table document name plan report plan' report' a →
      (a ≡ 13) ↔ (PlanLent plan report × Short table document × ((p : Plan) × PlanIs table document name p × (most_steps < length p.steps)))
  many_exactly c = (to_many c, λ h. (planned_one c (too_many_steps h.0 h.1 h.2.1 h.2.2 refl refl)).0)

  to_unnamed : {a : ℕ} → Planned table document name plan report plan' report' a → a ≡ 12 → PlanLent plan report × Short table document × Unnamed table document name
  to_unnamed (short_report h e f) q = absurd (omega (arith, q))
  to_unnamed (short_plan h w e f) q = absurd (omega (arith, q))
  to_unnamed (long_document l w e f) q = absurd (omega (arith, q))
  to_unnamed (long_table l x w e f) q = absurd (omega (arith, q))
  to_unnamed (refuses_opening l s o e f) q = (l, s, unnamed_if o q)
  to_unnamed (too_many_steps l s i m e f) q = absurd (omega (arith, q))
  to_unnamed (plans l s i m e f) q = absurd (omega (arith, q))

  pub unnamed_exactly : {a : ℕ} → Planned table document name plan report plan' report' a →
      (a ≡ 12) ↔ (PlanLent plan report × Short table document × ((rs : List Row) × AcceptedDocument table document rs × (operation_meant (read document rs) name ≡ none)))
  unnamed_exactly c = (to_unnamed c, λ h. (planned_one c (refuses_opening h.0 h.1 (no_operation h.2.1 h.2.2) refl refl)).0)

  -- what stops the opening is told, and 3 to 12 are of that alone
  pub opening_told : {a : ℕ} → Planned table document name plan report plan' report' a → PlanLent plan report → Short table document →
      (k : ℕ) (shown : List ℕ) → Opened table document name (stops k shown) → (a ≡ k) × (report' ≡ filled report_size (k ∷ shown) report)
  opening_told c l s k shown o = let e = planned_one c (refuses_opening l s o refl refl) in (e.0, e.2)

  pub told_of_opening : {a : ℕ} → Planned table document name plan report plan' report' a → 2 < a → a < 13 →
      PlanLent plan report × Short table document × ((shown : List ℕ) × Opened table document name (stops a shown) × (report' ≡ filled report_size (a ∷ shown) report))
  told_of_opening (short_report h e f) l m = absurd (omega (arith, l))
  told_of_opening (short_plan h w e f) l m = absurd (omega (arith, l))
  told_of_opening (long_document h w e f) l m = absurd (omega (arith, l))
  told_of_opening (long_table h x w e f) l m = absurd (omega (arith, l))
  told_of_opening (refuses_opening {shown = shown} h s o e f) l m = (h, s, (shown, o, f))
  told_of_opening (too_many_steps h s i n e f) l m = absurd (omega (arith, m))
  told_of_opening (plans h s i n e f) l m = absurd (omega (arith, l))

  -- an operation that opens is planned, or its plan is too long
  pub opened_answers : {a : ℕ} → Planned table document name plan report plan' report' a → PlanLent plan report → Short table document →
      (rs : List Row) (op : ℕ) → Opened table document name (opens rs op) → (a ≡ 0) ⊎ (a ≡ 13)
  opened_answers (short_report h e f) l s rs op o = absurd (omega (arith, h, l.0))
  opened_answers (short_plan h w e f) l s rs op o = absurd (omega (arith, w, l.1))
  opened_answers (long_document h w e f) l s rs op o = absurd (omega (arith, w, s.0))
  opened_answers (long_table h x w e f) l s rs op o = absurd (omega (arith, w, s.1))
  opened_answers (refuses_opening h t k e f) l s rs op o = absurd (stops≢opens (opened_one k o))
  opened_answers (too_many_steps h t i n e f) l s rs op o = inr refl
  opened_answers (plans h t i n e f) l s rs op o = inl refl

  -- the order before that: the buffers, the document's length, the table's
  pub short_told : {a : ℕ} → Planned table document name plan report plan' report' a → report_size ≤ length report → length plan < plan_size → (a ≡ 1) × (report' ≡ tells Buffer report)
  short_told c h w = let e = planned_one c (short_plan h w refl refl) in (e.0, e.2)

  pub first_the_document : {a : ℕ} → Planned table document name plan report plan' report' a → PlanLent plan report → most_text < length document →
      (a ≡ 2) × (report' ≡ tells (OverLength input_document) report)
  first_the_document c l w = let e = planned_one c (long_document l w refl refl) in (e.0, e.2)

  pub then_the_table : {a : ℕ} → Planned table document name plan report plan' report' a → PlanLent plan report → length document ≤ most_text → most_table < length table →
      (a ≡ 2) × (report' ≡ tells (OverLength input_table) report)
  then_the_table c l x w = let e = planned_one c (long_table l x w refl refl) in (e.0, e.2)

  -- success: the plan's numbers and zeros, and the counts
  pub plan_left : {a : ℕ} → Planned table document name plan report plan' report' a → a ≡ 0 →
      (p : Plan) × PlanIs table document name p × (1 ≤ length p.first) × (length p.first ≤ most_blocks) × (length p.steps ≤ most_steps)
      × (take plan_size plan' ≡ plan_numbers p ++ replicate (3 * (most_steps - length p.steps)) 0) × (take 3 report' ≡ 0 ∷ length p.first ∷ length p.steps ∷ [])
  plan_left (short_report h e f) q = absurd (omega (arith, q))
  plan_left (short_plan h w e f) q = absurd (omega (arith, q))
  plan_left (long_document l w e f) q = absurd (omega (arith, q))
  plan_left (long_table l x w e f) q = absurd (omega (arith, q))
  plan_left (refuses_opening l s o e f) q = absurd (omega (arith, q, (stop_facts o).0))
  plan_left (too_many_steps l s i m e f) q = absurd (omega (arith, q))
  plan_left (plans {p} l s i m e f) q =
      let n = numbers_fit p i m in
      let z : plan_size - length (plan_numbers p) ≡ 3 * (most_steps - length p.steps) = omega (arith, n, m) in
      let b = plan_blocks i in (
        p,
        i,
        b.0,
        b.1,
        m,
        ap (take plan_size) e ∙ filled_head plan_size (plan_numbers p) plan (omega (arith, n, m)) ∙ ap (λ (k : ℕ). plan_numbers p ++ replicate k 0) z,
        ap (take 3) f,
      )

  -- a shorter report: nothing is touched
  pub short_kept : {a : ℕ} → Planned table document name plan report plan' report' a → length report < report_size → (a ≡ 1) × (plan' ≡ plan) × (report' ≡ report)
  short_kept c l = planned_one c (short_report l refl refl)

  -- refusals 1 and 2: the plan is untouched
  kept : {a : ℕ} → Planned table document name plan report plan' report' a → 0 < a → a < 3 → plan' ≡ plan
  kept (short_report h e f) l m = e
  kept (short_plan h w e f) l m = e
  kept (long_document h w e f) l m = e
  kept (long_table h x w e f) l m = e
  kept (refuses_opening h s o e f) l m = absurd (omega (arith, m, (stop_facts o).0))
  kept (too_many_steps h s i n e f) l m = absurd (omega (arith, m))
  kept (plans h s i n e f) l m = absurd (omega (arith, l))

  pub plan_kept : {a : ℕ} → Planned table document name plan report plan' report' a → (a ≡ 1) ⊎ (a ≡ 2) → plan' ≡ plan
  plan_kept c (inl l) = kept c (omega arith) (omega arith)
  plan_kept c (inr l) = kept c (omega arith) (omega arith)

  -- the other refusals: zeros alone
  pub plan_zeroed : {a : ℕ} → Planned table document name plan report plan' report' a → 2 < a → take plan_size plan' ≡ replicate plan_size 0
  plan_zeroed (short_report h e f) l = absurd (omega (arith, l))
  plan_zeroed (short_plan h w e f) l = absurd (omega (arith, l))
  plan_zeroed (long_document h w e f) l = absurd (omega (arith, l))
  plan_zeroed (long_table h x w e f) l = absurd (omega (arith, l))
  plan_zeroed (refuses_opening h s o e f) l = ap (take plan_size) e ∙ filled_head plan_size [] plan (omega arith)
  plan_zeroed (too_many_steps h s i n e f) l = ap (take plan_size) e ∙ filled_head plan_size [] plan (omega arith)
  plan_zeroed (plans h s i n e f) l = absurd (omega (arith, l))

  -- the report begins with the answer
  pub report_tells : {a : ℕ} → Planned table document name plan report plan' report' a → report_size ≤ length report → (ns : List ℕ) × (report' ≡ a ∷ ns)
  report_tells (short_report h e f) l = absurd (omega (arith, h, l))
  report_tells (short_plan h w e f) l = (_, f)
  report_tells (long_document h w e f) l = (_, f)
  report_tells (long_table h x w e f) l = (_, f)
  report_tells (refuses_opening h s o e f) l = (_, f)
  report_tells (too_many_steps h s i n e f) l = (_, f)
  report_tells (plans h s i n e f) l = (_, f)

  -- beyond the fixed sizes nothing is written
  pub plan_tail : {a : ℕ} → Planned table document name plan report plan' report' a → (length plan' ≡ length plan) × (drop plan_size plan' ≡ drop plan_size plan)
  plan_tail (short_report h e f) = (ap length e, ap (drop plan_size) e)
  plan_tail (short_plan h w e f) = (ap length e, ap (drop plan_size) e)
  plan_tail (long_document h w e f) = (ap length e, ap (drop plan_size) e)
  plan_tail (long_table h x w e f) = (ap length e, ap (drop plan_size) e)
  plan_tail (refuses_opening h s o e f) = filled_kept plan_size [] plan plan' (omega arith) h.1 e
  plan_tail (too_many_steps h s i n e f) = filled_kept plan_size [] plan plan' (omega arith) h.1 e
  plan_tail (plans {p} h s i n e f) = filled_kept plan_size (plan_numbers p) plan plan' (omega (arith, numbers_fit p i n, n)) h.1 e

  pub report_tail : {a : ℕ} → Planned table document name plan report plan' report' a → (length report' ≡ length report) × (drop report_size report' ≡ drop report_size report)
  report_tail (short_report h e f) = (ap length f, ap (drop report_size) f)
  report_tail (short_plan h w e f) = filled_kept report_size (number_of Buffer ∷ []) report report' (tells_fits Buffer) h f
  report_tail (long_document h w e f) = filled_kept report_size (number_of (OverLength input_document) ∷ input_document ∷ []) report report' (tells_fits (OverLength input_document)) h.0 f
  report_tail (long_table h x w e f) = filled_kept report_size (number_of (OverLength input_table) ∷ input_table ∷ []) report report' (tells_fits (OverLength input_table)) h.0 f
  report_tail (refuses_opening {number} {shown} h s o e f) = filled_kept report_size (number ∷ shown) report report' (stop_facts o).2 h.0 f
  report_tail (too_many_steps h s i n e f) = filled_kept report_size (refuse_too_many_steps ∷ []) report report' (omega arith) h.0 f
  report_tail (plans {p} h s i n e f) = filled_kept report_size (accepted ∷ length p.first ∷ length p.steps ∷ []) report report' (omega arith) h.0 f
