-- From what the parts of the call leave to what `gw_plan` must do.
use mathlib.Core.Path.{◌≡◌, refl, sym, ap, ◌∙◌, subst}
use mathlib.Core.Bool.{Bool, true, false, ◌&&◌, cond}
use mathlib.Core.Option.{none, some}
use mathlib.Core.Logic.{◌⊎◌, inl, inr}
use mathlib.Core.List.{List, [], ◌∷◌, ◌++◌, append-nil}
use Prim.Native.Nat.{ℕ, suc, ◌-◌, ◌≤◌, ◌<◌}
use native.Mathlib.Omega.{arith}
use native.Mathlib.Decide.{dec_lt}
use lib.ListN.{length, get_or, take, drop, replicate, length-append, length-drop, drop_of_length-le}
use lib.Seq.{length-take-le, take_at}
use lib.Dec.{eqb}
use borrow.Author.Tests.{lt-ltb, le-ltb}
use Rattle.std.specs.Prelude.{Result, Ok, Err}
use Rattle.paper.proofs.Bools.{and_left}
use Rattle.paper.specs.Numbers.{rows_size, report_size, accepted, most_text, kind_operation}
use Rattle.paper.specs.Rows.{Row}
use Rattle.paper.specs.Refusals.{number_of}
use Rattle.paper.specs.Calls.{filled, tells}
use Rattle.paper.specs.declared.Refusal.{Refusal}
use Rattle.paper_table.specs.TableNumbers.{most_table}
use Rattle.paper_table.specs.Lists.{first_at}
use Rattle.paper_table.specs.Types.{Table, table_of}
use Rattle.paper_query.specs.Constructs.{Doc, count, row_of, no_row, is, called, numbers_where}
use Rattle.paper_query.specs.DocumentCalls.{Short, read}
use Rattle.paper_query.specs.Opening.{only_one, if_below, operation_meant, Opened, stops, opens, opened}
use Rattle.call_buffers.specs.Buffers.{cleared}
use Rattle.query_rows.specs.Rowed.{rows_in, doc_of}
use Rattle.query_links.proofs.Nexts.{next_passes, next_all}
use Rattle.paper_plan.specs.Collecting.{elem}
use Rattle.paper_plan.specs.Selecting.{plan_for}
use Rattle.paper_plan.specs.PlanNumbers.{plan_size, most_steps, plan_numbers}
use Rattle.paper_plan.specs.PlanCalls.{PlanLent, PlanIs, Planned, short_report, short_plan, long_document, long_table, refuses_opening, too_many_steps, plans}
use Rattle.plan_theory.proofs.NumbersOf.{where_kept, or_l}
use Rattle.plan_theory.proofs.Accepted.{accepted_plannable}
use Rattle.plan_making.specs.Made.{PlanFits, PlanOver, PlanMade, Asked}
use Rattle.query_opening.specs.Opens.{Ready, Opens, stop_number, stop_shown}
use Rattle.query_opening.specs.declared.OpenedOperation.{OpenedOperation}
use Rattle.query_opening.specs.declared.NotOpened.{NotOpened}
use Rattle.query_opening.specs.declared.NotOpened.TheVariants.{BadTable, BadText, Broken, NoOperation}
use Rattle.plan_endings.specs.Endings.{PlanAsks, PlanSized, MadeTold}
use Rattle.plan_endings.specs.Endings.{short_plan as asks-plan, long_document as asks-long, long_table as asks-long-table}
use Rattle.plan_answer.specs.Told.{TooManyTold, PlanTold, Left}

-- the operation that is meant is one
only_is : (d : Doc) (l : List ℕ) (o : ℕ) → only_one l ≡ some o → elem eqb o l ≡ true
only_is d [] o e = absurd (let z : ◌≡◌ {A = ℕ} 0 1 = cc in omega arith)
only_is d (i ∷ []) o e = let z : i ≡ o = cc in or_l false (borrow.Author.Tests.eq-eqb o i (sym z))
only_is d (i ∷ j ∷ l) o e = absurd (let z : ◌≡◌ {A = ℕ} 0 1 = cc in omega arith)

below_is : (n i o : ℕ) → if_below n i ≡ some o → (i ≡ o) × (i < n)
below_is n i o e = go (dec_lt i n)
  where
    go : Dec (i < n) → (i ≡ o) × (i < n)
    go (yes h) = let q : some i ≡ some o = sym (ap (λ (b : Bool). cond b (some i) none) (lt-ltb i n h)) ∙ e in (cc, h)
    go (no h) = let q : none ≡ some o = sym (ap (λ (b : Bool). cond b (some i) none) (le-ltb i n (omega arith))) ∙ e in absurd (let z : ◌≡◌ {A = ℕ} 0 1 = cc in omega arith)

pub meant_operation : (d : Doc) (name : List ℕ) (o : ℕ) → operation_meant d name ≡ some o → is kind_operation (row_of d o) ≡ true
meant_operation d [] o e = (where_kept (is kind_operation) d o (only_is d (numbers_where (is kind_operation) d) o e)).1
meant_operation d (b ∷ bs) o e =
    let p : Row → Bool = λ r. is kind_operation r && called d (b ∷ bs) r in
    let w = below_is (count d) (first_at p d.rows) o e in
    let q : p (row_of d (first_at p d.rows)) ≡ true = rw (next_all p d.rows) at (next_passes p d.rows no_row 0 (omega (arith, w.1, next_all p d.rows))) in
    subst (λ (i : ℕ). is kind_operation (row_of d i) ≡ true) w.0 (and_left (is kind_operation (row_of d (first_at p d.rows))) (called d (b ∷ bs) (row_of d (first_at p d.rows))) q)

opened_meant : {table document name : List ℕ} {rs : List Row} {o : ℕ} → Opened table document name (opens rs o) → operation_meant (read document rs) name ≡ some o
opened_meant (opened a e) = e

-- an opening that does not open stops
stops_so : (table document name rows book : List ℕ) (z : NotOpened) → Opens table document name rows book (Err z) → Opened table document name (stops (stop_number (Err z)) (stop_shown (Err z)))
stops_so table document name rows book (BadTable a) w = w
stops_so table document name rows book (BadText r) w = w
stops_so table document name rows book (Broken i k) w = w
stops_so table document name rows book NoOperation w = w

-- what opens can be planned
pub ready_asked : (table document name rows book : List ℕ) (n o : ℕ) → Ready table document name rows book n o → Asked table book document rows n o
ready_asked table document name rows book n o w = record {
  booked = w.booked;
  rowed = w.taken.rowed;
  plannable = accepted_plannable table document (rows_in rows n) w.accepted;
  operation = meant_operation (doc_of document rows n) name o (opened_meant w.opened);
}

pub open_ready : (table document name rows book : List ℕ) (x : Result OpenedOperation NotOpened) (y : OpenedOperation) → Opens table document name rows book x → x ≡ Ok y → Ready table document name rows book y.n y.row
open_ready table document name rows book x y w e = subst (Opens table document name rows book) e w

-- the rows stand in front of the plan's buffer
pub front_rows : (rows plan : List ℕ) → length rows ≡ rows_size → take rows_size (rows ++ drop rows_size plan) ≡ rows
front_rows rows plan e = take_at rows (drop rows_size plan) rows_size e

-- the fixed size is all there is
none_beyond : (xs plan : List ℕ) → length plan ≡ plan_size → xs ≡ xs ++ drop plan_size plan
none_beyond xs plan e = sym (ap (λ (l : List ℕ). xs ++ l) (drop_of_length-le plan {i = plan_size} (omega arith)) ∙ append-nil xs)

pub all_cleared : (plan plan₁ : List ℕ) → length plan ≡ plan_size → length plan₁ ≡ plan_size → cleared 0 plan₁ ≡ filled plan_size [] plan
all_cleared plan plan₁ e f = ap (λ (n : ℕ). replicate (n - 0) 0) f ∙ none_beyond (replicate plan_size 0) plan e

-- what the making of the plan leaves, told
pub made_steps : {t : Table} {d : Doc} {o : ℕ} {p : List ℕ} {r : ℕ} → PlanMade t d o p r → r ≤ suc most_steps
made_steps {t} {d} {o} {p} {r} w = go w.made
  where
    go : PlanFits t d o w.blocks p r ⊎ PlanOver t d o w.blocks r → r ≤ suc most_steps
    go (inl f) = omega (arith, f.top)
    go (inr f) = omega (arith, f.told)

module _ (t : Table) (d : Doc) (o : ℕ) (plan p₁ p₂ report report' : List ℕ) (size : length plan ≡ plan_size) (r a : ℕ) (w : PlanMade t d o p₁ r) where
  left_many : PlanOver t d o w.blocks r → length p₁ ≡ plan_size → MadeTold r p₁ p₂ report report' a → TooManyTold t d o w.blocks plan p₂ report report' a
  left_many f size₁ h = let u = h.too_many f.told in record { many = f.many; answer = u.0; cleared = u.1 ∙ all_cleared plan p₁ size size₁; told = u.2 }

  left_plan : PlanFits t d o w.blocks p₁ r → MadeTold r p₁ p₂ report report' a → PlanTold t d o w.blocks plan p₂ report report' a
  left_plan f h =
      let u = h.counted f.top in
      let p = plan_for t d o w.blocks in
      let first : get_or p₁ 0 0 ≡ length p.first = ap (λ (l : List ℕ). get_or l 0 0) f.written in
      record {
        few = omega (arith, f.end, f.top);
        answer = u.0;
        written = u.1 ∙ f.written ∙ none_beyond (plan_numbers p ++ replicate (plan_size - length (plan_numbers p)) 0) plan size;
        told = u.2 ∙ ap (λ (k : ℕ). filled report_size (accepted ∷ k ∷ r ∷ []) report) first ∙ ap (λ (k : ℕ). filled report_size (accepted ∷ length p.first ∷ k ∷ []) report) f.end;
      }

  pub left_told : length p₁ ≡ plan_size → MadeTold r p₁ p₂ report report' a → Left t d o plan p₂ report report' a
  left_told size₁ h = record { blocks = w.blocks; their = w.their; left = go w.made }
    where
      go : PlanFits t d o w.blocks p₁ r ⊎ PlanOver t d o w.blocks r → TooManyTold t d o w.blocks plan p₂ report report' a ⊎ PlanTold t d o w.blocks plan p₂ report report' a
      go (inl f) = inr (left_plan f h)
      go (inr f) = inl (left_many f size₁ h)

-- an opened operation
module _ (table document name plan report plan' report' : List ℕ) (lent : PlanLent plan report) (short : Short table document) where
  pub planned_left : (rows book plan₁ : List ℕ) (n o r : ℕ) → Ready table document name rows book n o → length plan ≡ plan_size → length plan₁ ≡ plan_size
      → Left (table_of table) (doc_of document rows n) o plan₁ plan' report report' r → Planned table document name plan report plan' report' r
  planned_left rows book plan₁ n o r w e f l = go l.left
    where
      is_plan : PlanIs table document name (plan_for (table_of table) (doc_of document rows n) o l.blocks)
      is_plan = record { rows = rows_in rows n; operation = o; blocks = l.blocks; opened = w.opened; their = l.their; is = refl }

      same : (xs : List ℕ) → filled plan_size xs plan₁ ≡ filled plan_size xs plan
      same xs = sym (none_beyond (xs ++ replicate (plan_size - length xs) 0) plan₁ f) ∙ none_beyond (xs ++ replicate (plan_size - length xs) 0) plan e

      go : TooManyTold (table_of table) (doc_of document rows n) o l.blocks plan₁ plan' report report' r ⊎ PlanTold (table_of table) (doc_of document rows n) o l.blocks plan₁ plan' report report' r
          → Planned table document name plan report plan' report' r
      go (inl x) = subst (Planned table document name plan report plan' report') (sym x.answer) (too_many_steps lent short is_plan x.many (x.cleared ∙ same []) x.told)
      go (inr x) =
          subst (Planned table document name plan report plan' report') (sym x.answer)
          (plans lent short is_plan x.few (x.written ∙ same (plan_numbers (plan_for (table_of table) (doc_of document rows n) o l.blocks))) x.told)

  -- the same of the buffer whose front holds the rows
  rows_front : (rows : List ℕ) → length plan ≡ plan_size → length rows ≡ rows_size → length (rows ++ drop rows_size plan) ≡ plan_size
  rows_front rows e f = omega (arith, length-append rows (drop rows_size plan), length-drop rows_size plan)

  pub opened_asked : (rows book : List ℕ) (x : Result OpenedOperation NotOpened) (y : OpenedOperation) → Opens table document name rows book x → x ≡ Ok y → Asked table book document (take rows_size (rows ++ drop rows_size plan)) y.n y.row
  opened_asked rows book x y w e =
      let r = open_ready table document name rows book x y w e in
      subst (λ (l : List ℕ). Asked table book document l y.n y.row) (sym (front_rows rows plan r.taken.rowed.size)) (ready_asked table document name rows book y.n y.row r)

  pub planned_opened : (rows book : List ℕ) (x : Result OpenedOperation NotOpened) (y : OpenedOperation) (r : ℕ) → Opens table document name rows book x → x ≡ Ok y → length plan ≡ plan_size
      → Left (table_of table) (doc_of document (take rows_size (rows ++ drop rows_size plan)) y.n) y.row (rows ++ drop rows_size plan) plan' report report' r → Planned table document name plan report plan' report' r
  planned_opened rows book x y r w e size l =
      let k = open_ready table document name rows book x y w e in
      let f : length rows ≡ rows_size = k.taken.rowed.size in
      planned_left rows book (rows ++ drop rows_size plan) y.n y.row r k size (rows_front rows size f)
      (subst (λ (z : List ℕ). Left (table_of table) (doc_of document z y.n) y.row (rows ++ drop rows_size plan) plan' report report' r) (front_rows rows plan f) l)

  pub planned_stop : (rows book plan₁ : List ℕ) (x : Result OpenedOperation NotOpened) (z : NotOpened) (r : ℕ) → Opens table document name rows book x → x ≡ Err z → length plan ≡ plan_size → length plan₁ ≡ plan_size
      → plan' ≡ cleared 0 plan₁ → (r ≡ stop_number (Err z)) × (report' ≡ filled report_size (stop_number (Err z) ∷ stop_shown (Err z)) report) → Planned table document name plan report plan' report' r
  planned_stop rows book plan₁ x z r w f e g q t =
      subst (Planned table document name plan report plan' report') (sym t.0)
      (refuses_opening lent short (stops_so table document name rows book z (subst (Opens table document name rows book) f w)) (q ∙ all_cleared plan plan₁ e g) t.1)

-- The sizes.
pub sizes_kept : {plan document table : ℕ} {s : Result (Unit {0}) Refusal} {u : Unit {0}} → PlanSized plan document table s → s ≡ Ok u → (plan_size ≤ plan) × (document ≤ most_text) × (table ≤ most_table)
sizes_kept {plan} {document} {table} w e = subst (PlanSized plan document table) e w

pub sizes_unmet : (table document name plan report report' : List ℕ) (s : Result (Unit {0}) Refusal) (z : Refusal) (n : ℕ) → report_size ≤ length report → PlanSized (length plan) (length document) (length table) s → s ≡ Err z →
    n ≡ number_of z → report' ≡ tells z report → Planned table document name plan report plan report' n
sizes_unmet table document name plan report report' s z n h a q p e =
    subst (Planned table document name plan report plan report') (sym p) (go z (subst (PlanSized (length plan) (length document) (length table)) q a) e)
  where
    go : (y : Refusal) → PlanAsks (length plan) (length document) (length table) y → report' ≡ tells y report → Planned table document name plan report plan report' (number_of y)
    go _ (asks-plan w) f = short_plan h w refl f
    go _ (asks-long w l) f = long_document (h, w) l refl f
    go _ (asks-long-table w l m) f = long_table (h, w) l m refl f

-- What is done to the fixed size of a longer buffer is done to that, and nothing beyond.
module _ (table document name plan report plan₁ plan' report' : List ℕ) (lent : PlanLent plan report) (short : Short table document) (e : plan' ≡ plan₁ ++ drop plan_size plan) where
  beyond : (xs : List ℕ) → plan₁ ≡ filled plan_size xs (take plan_size plan) → plan' ≡ filled plan_size xs plan
  beyond xs q = e ∙ ap (λ (l : List ℕ). l ++ drop plan_size plan) (q ∙ sym (none_beyond (xs ++ replicate (plan_size - length xs) 0) (take plan_size plan) (length-take-le {A = ℕ} plan_size plan lent.1)))

  pub planned_beyond : {n : ℕ} → Planned table document name (take plan_size plan) report plan₁ report' n → Planned table document name plan report plan' report' n
  planned_beyond (short_report h f g) = absurd (omega (arith, lent.0))
  planned_beyond (short_plan h w f g) = absurd (omega (arith, length-take-le {A = ℕ} plan_size plan lent.1))
  planned_beyond (long_document l w f g) = absurd (omega (arith, short.0))
  planned_beyond (long_table l v w f g) = absurd (omega (arith, short.1))
  planned_beyond (refuses_opening l s o f g) = refuses_opening lent short o (beyond [] f) g
  planned_beyond (too_many_steps l s p m f g) = too_many_steps lent short p m (beyond [] f) g
  planned_beyond (plans {p} l s q m f g) = plans lent short q m (beyond (plan_numbers p) f) g
