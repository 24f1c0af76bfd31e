-- That no result is as `gw_plan`'s statement says is refuted, whatever the inputs and the buffers: opening has an outcome, and an operation its blocks.
use mathlib.Core.Path.{◌≡◌, refl, sym, ap, ◌∙◌}
use mathlib.Core.Bool.{Bool, true, false, true≢false, ◌||◌}
use mathlib.Core.List.{List, [], ◌∷◌}
use Prim.Native.Nat.{ℕ, zero, suc, ◌+◌, ◌≤◌}
use native.Mathlib.Nat.{lt_of_not-le}
use native.Mathlib.Decide.{dec_le}
use native.Mathlib.Omega.{arith}
use lib.ListN.{length}
use lib.Dec.{eqb}
use borrow.Author.Tests.{eq-eqb, eqb-true}
use Rattle.paper.specs.Numbers.{most_text, report_size, kind_field}
use Rattle.paper_table.specs.TableNumbers.{most_table}
use Rattle.paper_table.specs.Types.{table_of}
use Rattle.paper_query.specs.Constructs.{Doc, count}
use Rattle.paper_query.specs.DocumentCalls.{read, Short}
use Rattle.paper_query.specs.Opening.{Outcome, stops, opens, Opened}
use Rattle.paper_plan.specs.Collecting.{elem}
use Rattle.paper_plan.specs.Planning.{Plan}
use Rattle.paper_plan.specs.PlanNumbers.{plan_size, most_steps}
use Rattle.paper_plan.specs.Selecting.{IsBlock, Above, Rising, BlockRows, plan_for}
use Rattle.paper_plan.specs.PlanCalls.{PlanLent, PlanIs, Planned, short_report, short_plan, long_document, long_table, refuses_opening, too_many_steps, plans}
use Rattle.plan_theory.proofs.NumbersOf.{or_l, or_r}
use Rattle.plan_theory.proofs.Plannable.{in_range}
use Rattle.claims.proofs.CoercionsSome.{unopened}

-- ---- blocks: row by row from the last, a row has one or not

module _ (d : Doc) (op : ℕ) where
  -- the rows from k on that have blocks
  record From (k : ℕ) (fields : List ℕ) : Type 0 where
    rising : Rising fields
    low : (i : ℕ) → elem eqb i fields ≡ true → k ≤ i
    sound : (i : ℕ) → elem eqb i fields ≡ true → IsBlock d op i
    complete : (i : ℕ) → k ≤ i → IsBlock d op i → elem eqb i fields ≡ true

  none_from : (k : ℕ) → k ≡ count d → From k []
  none_from k e = record {
    rising = tt;
    low = λ i h. absurd (true≢false (sym h));
    sound = λ i h. absurd (true≢false (sym h));
    complete = λ i l b. absurd (let z = in_range d kind_field i refl b.field_row in omega (arith, z, l, e));
  }

  module _ (k : ℕ) (fields : List ℕ) (f : From (suc k) fields) where
    passed_over : (IsBlock d op k → ⊥) → From k fields
    passed_over n = record { rising = f.rising; low = λ i h. omega (arith, f.low i h); sound = f.sound; complete = λ i l b. go i l b (dec_le (suc k) i) }
      where
        go : (i : ℕ) → k ≤ i → IsBlock d op i → Dec (suc k ≤ i) → elem eqb i fields ≡ true
        go i l b (yes m) = f.complete i m b
        go i l b (no m) = let z : i ≡ k = omega (arith, l, m) in absurd (n (rw z at b))

    put_first : IsBlock d op k → From k (k ∷ fields)
    put_first w = record {
      rising = (above fields (λ i h. f.low i h), f.rising);
      low = λ i h. least i h (eqb i k) refl;
      sound = λ i h. holds i h (eqb i k) refl;
      complete = λ i l b. found i l b (dec_le (suc k) i);
    }
      where
        above : (xs : List ℕ) → ((i : ℕ) → elem eqb i xs ≡ true → suc k ≤ i) → Above k xs
        above [] g = tt
        above (x ∷ xs) g = (g x (or_l (elem eqb x xs) (eq-eqb x x refl)), above xs (λ i h. g i (or_r (eqb i x) h)))

        later : (i : ℕ) → elem eqb i (k ∷ fields) ≡ true → eqb i k ≡ false → elem eqb i fields ≡ true
        later i h q = sym (ap (λ (b : Bool). b || elem eqb i fields) q) ∙ h

        least : (i : ℕ) → elem eqb i (k ∷ fields) ≡ true → (b : Bool) → eqb i k ≡ b → k ≤ i
        least i h true q = omega (arith, eqb-true i k q)
        least i h false q = omega (arith, f.low i (later i h q))

        holds : (i : ℕ) → elem eqb i (k ∷ fields) ≡ true → (b : Bool) → eqb i k ≡ b → IsBlock d op i
        holds i h true q = let z = eqb-true i k q in rw z w
        holds i h false q = f.sound i (later i h q)

        found : (i : ℕ) → k ≤ i → IsBlock d op i → Dec (suc k ≤ i) → elem eqb i (k ∷ fields) ≡ true
        found i l b (yes m) = or_r (eqb i k) (f.complete i m b)
        found i l b (no m) = or_l (elem eqb i fields) (eq-eqb i k (omega (arith, l, m)))

  unlisted : (n k : ℕ) → k + n ≡ count d → ((fields : List ℕ) → From k fields → ⊥) → ⊥
  unlisted zero k e h = h [] (none_from k (omega (arith, e)))
  unlisted (suc n) k e h = unlisted n (suc k) (omega (arith, e)) (λ fields f. h fields (passed_over k fields f (λ w. h (k ∷ fields) (put_first k fields f w))))

  no_blocks : ((rows : List ℕ) → BlockRows d op rows → ⊥) → ⊥
  no_blocks h =
      unlisted (count d) 0 (omega arith) (λ fields f. h (op ∷ fields) (record { fields = fields; are = refl; rising = f.rising; sound = f.sound; complete = λ i b. f.complete i (omega arith) b }))

-- ---- the call

module _ (table document name plan report : List ℕ) (h : (plan' report' : List ℕ) (a : ℕ) → Planned table document name plan report plan' report' a → ⊥) where
  of_plan : PlanLent plan report → Short table document → (p : Plan) → PlanIs table document name p → Dec (length p.steps ≤ most_steps) → ⊥
  of_plan l s p q (yes m) = h _ _ _ (plans l s q m refl refl)
  of_plan l s p q (no m) = h _ _ _ (too_many_steps l s q (lt_of_not-le m) refl refl)

  of_outcome : PlanLent plan report → Short table document → (o : Outcome) → Opened table document name o → ⊥
  of_outcome l s (stops k shown) q = h _ _ _ (refuses_opening l s q refl refl)
  of_outcome l s (opens rs op) q =
      no_blocks (read document rs) op (λ rows b.
      let p = plan_for (table_of table) (read document rs) op rows in
      of_plan l s p (record { rows = rs; operation = op; blocks = rows; opened = q; their = b; is = refl }) (dec_le (length p.steps) most_steps))

  with_table : PlanLent plan report → length document ≤ most_text → Dec (length table ≤ most_table) → ⊥
  with_table l x (yes y) = unopened table document name (of_outcome l (x, y))
  with_table l x (no y) = h _ _ _ (long_table l x (lt_of_not-le y) refl refl)

  with_document : PlanLent plan report → Dec (length document ≤ most_text) → ⊥
  with_document l (yes x) = with_table l x (dec_le (length table) most_table)
  with_document l (no x) = h _ _ _ (long_document l (lt_of_not-le x) refl refl)

  with_plan : report_size ≤ length report → Dec (plan_size ≤ length plan) → ⊥
  with_plan r (yes w) = with_document (r, w) (dec_le (length document) most_text)
  with_plan r (no w) = h _ _ _ (short_plan r (lt_of_not-le w) refl refl)

  with_report : Dec (report_size ≤ length report) → ⊥
  with_report (yes r) = with_plan r (dec_le plan_size (length plan))
  with_report (no r) = h _ _ _ (short_report (lt_of_not-le r) refl refl)

  pub planned_some : ⊥
  planned_some = with_report (dec_le report_size (length report))
