-- What `gw_coerce_variables` answers and leaves in the buffers: each ending by its cause.
use mathlib.Core.Path.{◌≡◌, refl, sym, ap, ◌∙◌, subst}
use mathlib.Core.Logic.{◌⊎◌, ◌↔◌}
use mathlib.Core.List.{List, [], ◌∷◌, ◌++◌}
use Prim.Native.Nat.{ℕ, ◌-◌, ◌≤◌, ◌<◌}
use native.Mathlib.Omega.{arith}
use lib.ListN.{length, take, drop, replicate}
use Rattle.paper.specs.Numbers.{report_size, most_text, input_document, input_variables}
use Rattle.paper.specs.Rows.{Row}
use Rattle.paper.specs.Refusals.{number_of, shown_in_text}
use Rattle.paper.specs.Calls.{filled, tells}
use Rattle.paper.specs.declared.Refusal.{Refusal}
use Rattle.paper.specs.declared.Refusal.TheVariants.{OverLength}
use Rattle.paper_table.specs.TableNumbers.{most_table, input_table}
use Rattle.paper_query.specs.Opening.{stops, Opened, no_operation}
use Rattle.paper_values.specs.ValueNumbers.{most_coerced}
use Rattle.paper_values.specs.Encoding.{encode}
use Rattle.paper_values.specs.ValueCalls as calls
use Rattle.claims.proofs.BuffersLaws.{said_number}
use Rattle.claims.proofs.CoercionsLaws as coerced
use Rattle.claims.proofs.CoercionsLaws.{Ends, stopped, unread, wrong, long, fits, Stopped}
use Rattle.claims.proofs.CoercionsStops.{opening_stops, Unnamed, unnamed_if, ended_long, ended_fits, by_length}
use Rattle.paper_values.specs.Values.{At, Tree, Fields, Pairs, Out, Got, No}
use Rattle.paper_values.specs.ValueCalls.{Ending, ends, yields, ended, VariablesEnd, ValueLent, ValueShort, CoercedVariables}
use Rattle.paper_values.proofs.ValueCallsOne.{variables_end_one}
use Rattle.claims.proofs.CoercionsWords.{VariablesRead, VariablesUnread, VariablesGive, answer_of, value_left, report_left}

module _ (table document name variables : List ℕ) where
  abbrev VStops : ℕ → List ℕ → Type 0
  VStops k shown = Opened table document name (stops k shown)

  abbrev VUnread : Refusal → Type 0
  VUnread r = (rs : List Row) × (op : ℕ) × VariablesUnread table document name variables rs op r

  abbrev VWrong : At → ℕ → Type 0
  VWrong i w = (rs : List Row) × (op : ℕ) × (vs : List Row) × VariablesRead table document name variables rs op vs × VariablesGive table document variables rs op vs (No i w)

  abbrev VGives : Tree → Type 0
  VGives t =
      (rs : List Row) × (op : ℕ) × (vs : List Row) × (ps : Pairs) × VariablesRead table document name variables rs op vs × VariablesGive table document variables rs op vs (Got ps) × (Fields ps ≡ t)

  v_result : (rs : List Row) (op : ℕ) (vs : List Row) → VariablesRead table document name variables rs op vs → (o : Out Pairs) → VariablesGive table document variables rs op vs o →
      Ends VStops VUnread VWrong VGives (ended (calls.as_object o))
  v_result rs op vs h (No i w) c = wrong i (rs, op, vs, h, c)
  v_result rs op vs h (Got ps) c = by_length VStops VUnread VWrong VGives (Fields ps) (rs, op, vs, ps, h, c, refl)

  v_split : (e : Ending) → VariablesEnd table document name variables e → Ends VStops VUnread VWrong VGives e
  v_split e (calls.nothing_opened p) = stopped p
  v_split e (calls.text_refused {rs} {op} {t} p k s) = unread (rs, op, (p, (t, k, s)))
  v_split e (calls.variables_coerced {rs} {vs} {op} {t} {o} p k s c) = v_result rs op vs (p, (t, k, s)) o c

  v_join : (e : Ending) → Ends VStops VUnread VWrong VGives e → VariablesEnd table document name variables e
  v_join e (stopped p) = calls.nothing_opened p
  v_join e (unread u) = calls.text_refused u.2.0 u.2.1.1 u.2.1.2
  v_join e (wrong i h) = calls.variables_coerced h.3.0 h.3.1.1 h.3.1.2 h.4
  v_join e (long t g l) =
      subst (VariablesEnd table document name variables) (ap (λ (x : Tree). ended (Got x)) g.6 ∙ ended_long t l) (calls.variables_coerced g.4.0 g.4.1.1 g.4.1.2 g.5)
  v_join e (fits t g l) =
      subst (VariablesEnd table document name variables) (ap (λ (x : Tree). ended (Got x)) g.6 ∙ ended_fits t l) (calls.variables_coerced g.4.0 g.4.1.1 g.4.1.2 g.5)

  v_stop : (k : ℕ) (shown : List ℕ) → VStops k shown → Stopped k shown
  v_stop k shown p = opening_stops p

  v_said : (r : Refusal) → VUnread r → 2 < number_of r
  v_said r u = said_number u.2.1.2

  module _ {value report value' report' : List ℕ} {a : ℕ} (c : CoercedVariables table document name variables value report value' report' a) where
    -- the ending that is due is told, and by 0 and all above 2 some ending
    pub variables_told : ValueLent value report → ValueShort table document variables → (e : Ending) → VariablesEnd table document name variables e → (a ≡ answer_of e) × (value' ≡ value_left value e) × (report' ≡ report_left report e)
    variables_told l s e d = coerced.ending_told (VariablesEnd table document name variables) VStops VUnread VWrong VGives (λ e f c d. variables_end_one c d) v_split v_join v_stop v_said table document variables value report value' report' c l s e d

    pub variables_tells : (a ≡ 0) ⊎ (2 < a) → ValueLent value report × ValueShort table document variables × ((e : Ending) × VariablesEnd table document name variables e × (a ≡ answer_of e) × (value' ≡ value_left value e) × (report' ≡ report_left report e))
    variables_tells = coerced.tells_it (VariablesEnd table document name variables) VStops VUnread VWrong VGives (λ e f c d. variables_end_one c d) v_split v_join v_stop v_said table document variables value report value' report' c

    -- 0
    abbrev VAccepted : Type 0
    VAccepted = (rs : List Row) × (op : ℕ) × (vs : List Row) × (ps : Pairs) × VariablesRead table document name variables rs op vs × VariablesGive table document variables rs op vs (Got ps) × (length (encode (Fields ps)) ≤ most_coerced)

    pub variables_accepted_exactly : (a ≡ 0) ↔ (ValueLent value report × ValueShort table document variables × VAccepted)
    variables_accepted_exactly = (to, from)
      where
        to : a ≡ 0 → ValueLent value report × ValueShort table document variables × VAccepted
        to q = let h = coerced.accepted_gives (VariablesEnd table document name variables) VStops VUnread VWrong VGives (λ e f c d. variables_end_one c d) v_split v_join v_stop v_said table document variables value report value' report' c q in let g = h.2.1 in (h.0, h.1, (g.0, g.1, g.2, g.3, g.4, g.5, subst (λ (t : Tree). length (encode t) ≤ most_coerced) (sym g.6) h.2.2))

        from : ValueLent value report × ValueShort table document variables × VAccepted → a ≡ 0
        from h = let g = h.2 in (coerced.told (VariablesEnd table document name variables) VStops VUnread VWrong VGives (λ e f c d. variables_end_one c d) v_split v_join v_stop v_said table document variables value report value' report' c h.0 h.1 (yields (encode (Fields g.3))) (fits (Fields g.3) (g.0, g.1, g.2, g.3, g.4, g.5, refl) g.6)).0

    pub variables_success : a ≡ 0 → (rs : List Row) × (op : ℕ) × (vs : List Row) × (ps : Pairs) × VariablesRead table document name variables rs op vs × VariablesGive table document variables rs op vs (Got ps) × (take most_coerced value' ≡ encode (Fields ps) ++ replicate (most_coerced - length (encode (Fields ps))) 0) × (take 2 report' ≡ 0 ∷ length (encode (Fields ps)) ∷ [])
    variables_success q =
        let h = coerced.accepted_gives (VariablesEnd table document name variables) VStops VUnread VWrong VGives (λ e f c d. variables_end_one c d) v_split v_join v_stop v_said table document variables value report value' report' c q in let g = h.2.1 in (
          g.0,
          g.1,
          g.2,
          g.3,
          g.4,
          g.5,
          subst (λ (t : Tree). take most_coerced value' ≡ encode t ++ replicate (most_coerced - length (encode t)) 0) (sym g.6) (coerced.value_filled (VariablesEnd table document name variables) VStops VUnread VWrong VGives (λ e f c d. variables_end_one c d) v_split v_join v_stop v_said table document variables value report value' report' h.2.0 h.2.2 h.2.3),
          subst (λ (t : Tree). take 2 report' ≡ 0 ∷ length (encode t) ∷ []) (sym g.6) (ap (take 2) h.2.4),
        )

    -- 16
    pub variables_too_long_exactly : (a ≡ 16) ↔ (ValueLent value report × ValueShort table document variables × ((rs : List Row) × (op : ℕ) × (vs : List Row) × (ps : Pairs) × VariablesRead table document name variables rs op vs × VariablesGive table document variables rs op vs (Got ps) × (most_coerced < length (encode (Fields ps)))))
    variables_too_long_exactly = (to, from)
      where
        to : a ≡ 16 → ValueLent value report × ValueShort table document variables × ((rs : List Row) × (op : ℕ) × (vs : List Row) × (ps : Pairs) × VariablesRead table document name variables rs op vs × VariablesGive table document variables rs op vs (Got ps) × (most_coerced < length (encode (Fields ps))))
        to q = let h = coerced.refused_long (VariablesEnd table document name variables) VStops VUnread VWrong VGives (λ e f c d. variables_end_one c d) v_split v_join v_stop v_said table document variables value report value' report' c q in let g = h.2.1 in (h.0, h.1, (g.0, g.1, g.2, g.3, g.4, g.5, subst (λ (t : Tree). most_coerced < length (encode t)) (sym g.6) h.2.2))

        from : ValueLent value report × ValueShort table document variables × ((rs : List Row) × (op : ℕ) × (vs : List Row) × (ps : Pairs) × VariablesRead table document name variables rs op vs × VariablesGive table document variables rs op vs (Got ps) × (most_coerced < length (encode (Fields ps)))) → a ≡ 16
        from h = let g = h.2 in (coerced.told (VariablesEnd table document name variables) VStops VUnread VWrong VGives (λ e f c d. variables_end_one c d) v_split v_join v_stop v_said table document variables value report value' report' c h.0 h.1 (ends 16 []) (long (Fields g.3) (g.0, g.1, g.2, g.3, g.4, g.5, refl) g.6)).0

    -- 11, with text, row and reason
    pub variables_refused_exactly : (i : At) (w : ℕ) → ((a ≡ 11) × (take 4 report' ≡ 11 ∷ i.text ∷ i.row ∷ w ∷ [])) ↔ (ValueLent value report × ValueShort table document variables × ((rs : List Row) × (op : ℕ) × (vs : List Row) × VariablesRead table document name variables rs op vs × VariablesGive table document variables rs op vs (No i w)))
    variables_refused_exactly i w = (to, from)
      where
        same_told : (j : At) (x : ℕ) → 11 ∷ j.text ∷ j.row ∷ x ∷ [] ≡ 11 ∷ i.text ∷ i.row ∷ w ∷ [] → VWrong j x → VWrong i w
        same_told j x q h = let e : j.text ≡ i.text = cc in let f : j.row ≡ i.row = cc in let g : x ≡ w = cc in let k : j ≡ i = ap (λ (y : ℕ). record { text = y; row = j.row }) e ∙ ap (λ (y : ℕ). record { text = i.text; row = y }) f in rw (sym k, sym g) h

        to : (a ≡ 11) × (take 4 report' ≡ 11 ∷ i.text ∷ i.row ∷ w ∷ []) → ValueLent value report × ValueShort table document variables × ((rs : List Row) × (op : ℕ) × (vs : List Row) × VariablesRead table document name variables rs op vs × VariablesGive table document variables rs op vs (No i w))
        to q = let h = coerced.refused_wrong (VariablesEnd table document name variables) VStops VUnread VWrong VGives (λ e f c d. variables_end_one c d) v_split v_join v_stop v_said table document variables value report value' report' c q.0 in (h.0, h.1, same_told h.2.0 h.2.1 (ap (take 4) (sym h.2.3) ∙ q.1) h.2.2)

        from : ValueLent value report × ValueShort table document variables × ((rs : List Row) × (op : ℕ) × (vs : List Row) × VariablesRead table document name variables rs op vs × VariablesGive table document variables rs op vs (No i w)) → (a ≡ 11) × (take 4 report' ≡ 11 ∷ i.text ∷ i.row ∷ w ∷ [])
        from h = let g = coerced.told (VariablesEnd table document name variables) VStops VUnread VWrong VGives (λ e f c d. variables_end_one c d) v_split v_join v_stop v_said table document variables value report value' report' c h.0 h.1 (ends 11 (i.text ∷ i.row ∷ w ∷ [])) (wrong i h.2) in (g.0, ap (take 4) g.2)

    pub variables_refused_some : a ≡ 11 → (i : At) × (w : ℕ) × (take 4 report' ≡ 11 ∷ i.text ∷ i.row ∷ w ∷ []) × ((rs : List Row) × (op : ℕ) × (vs : List Row) × VariablesRead table document name variables rs op vs × VariablesGive table document variables rs op vs (No i w))
    variables_refused_some q = let h = coerced.refused_wrong (VariablesEnd table document name variables) VStops VUnread VWrong VGives (λ e f c d. variables_end_one c d) v_split v_join v_stop v_said table document variables value report value' report' c q in (h.2.0, h.2.1, ap (take 4) h.2.3, h.2.2)

    -- never 16 where an 11 is due
    pub variables_refused_not_too_long : (i : At) (w : ℕ) → (rs : List Row) × (op : ℕ) × (vs : List Row) × VariablesRead table document name variables rs op vs × VariablesGive table document variables rs op vs (No i w) → a ≡ 16 → ⊥
    variables_refused_not_too_long i w h q =
        let g = coerced.refused_long (VariablesEnd table document name variables) VStops VUnread VWrong VGives (λ e f c d. variables_end_one c d) v_split v_join v_stop v_said table document variables value report value' report' c q in
        let z = coerced.told (VariablesEnd table document name variables) VStops VUnread VWrong VGives (λ e f c d. variables_end_one c d) v_split v_join v_stop v_said table document variables value report value' report' c g.0 g.1 (ends 11 (i.text ∷ i.row ∷ w ∷ [])) (wrong i h) in
        omega (arith, q, z.0)

    -- 3 to 6 of the variables text
    pub variables_text_exactly : (k at : ℕ) → 2 < k → k < 7 →
        ((a ≡ k) × (take 3 report' ≡ k ∷ at ∷ 1 ∷ [])) ↔ (ValueLent value report × ValueShort table document variables × ((rs : List Row) × (op : ℕ) × (r : Refusal) × VariablesUnread table document name variables rs op r × (number_of r ≡ k) × (shown_in_text input_variables r ≡ at ∷ 1 ∷ [])))
    variables_text_exactly k at l u = (
      λ q. let h = (coerced.text_told (VariablesEnd table document name variables) VStops VUnread VWrong VGives (λ e f c d. variables_end_one c d) v_split v_join v_stop v_said table document variables value report value' report' c k at l u).0 q in (h.0, h.1, (h.2.1.0, h.2.1.1, h.2.0, h.2.1.2, h.2.2, h.2.3)),
      λ h. let g = h.2 in (coerced.text_told (VariablesEnd table document name variables) VStops VUnread VWrong VGives (λ e f c d. variables_end_one c d) v_split v_join v_stop v_said table document variables value report value' report' c k at l u).1 (h.0, h.1, (g.2, (g.0, g.1, g.3), g.4, g.5)),
    )

    -- 12
    pub variables_unnamed_exactly : (a ≡ 12) ↔ (ValueLent value report × ValueShort table document variables × Unnamed table document name)
    variables_unnamed_exactly = (
      λ q. let h = coerced.refused_stop (VariablesEnd table document name variables) VStops VUnread VWrong VGives (λ e f c d. variables_end_one c d) v_split v_join v_stop v_said table document variables value report value' report' c q in (h.0, h.1, unnamed_if h.2.1 refl),
      λ h. (coerced.told (VariablesEnd table document name variables) VStops VUnread VWrong VGives (λ e f c d. variables_end_one c d) v_split v_join v_stop v_said table document variables value report value' report' c h.0 h.1 (ends 12 []) (stopped (no_operation h.2.1 h.2.2))).0,
    )

    -- the order
    pub variables_document_first : ValueLent value report → most_text < length document → (a ≡ 2) × (report' ≡ tells (OverLength input_document) report)
    variables_document_first = coerced.first_the_document (VariablesEnd table document name variables) VStops VUnread VWrong VGives (λ e f c d. variables_end_one c d) v_split v_join v_stop v_said table document variables value report value' report' c

    pub variables_text_next : ValueLent value report → length document ≤ most_text → most_text < length variables → (a ≡ 2) × (report' ≡ tells (OverLength input_variables) report)
    variables_text_next = coerced.then_the_variables (VariablesEnd table document name variables) VStops VUnread VWrong VGives (λ e f c d. variables_end_one c d) v_split v_join v_stop v_said table document variables value report value' report' c

    pub variables_table_next : ValueLent value report → length document ≤ most_text → length variables ≤ most_text → most_table < length table → (a ≡ 2) × (report' ≡ tells (OverLength input_table) report)
    variables_table_next = coerced.then_the_table (VariablesEnd table document name variables) VStops VUnread VWrong VGives (λ e f c d. variables_end_one c d) v_split v_join v_stop v_said table document variables value report value' report' c

    pub variables_opening_next : ValueLent value report → ValueShort table document variables → (k : ℕ) (shown : List ℕ) → Opened table document name (stops k shown) →
        (a ≡ k) × (report' ≡ filled report_size (k ∷ shown) report)
    variables_opening_next l s k shown p = let h = coerced.told (VariablesEnd table document name variables) VStops VUnread VWrong VGives (λ e f c d. variables_end_one c d) v_split v_join v_stop v_said table document variables value report value' report' c l s (ends k shown) (stopped p) in (h.0, h.2)

    -- the buffers
    pub variables_short_kept : length report < report_size → (a ≡ 1) × (value' ≡ value) × (report' ≡ report)
    variables_short_kept = coerced.short_kept (VariablesEnd table document name variables) VStops VUnread VWrong VGives (λ e f c d. variables_end_one c d) v_split v_join v_stop v_said table document variables value report value' report' c

    pub variables_kept : (a ≡ 1) ⊎ (a ≡ 2) → value' ≡ value
    variables_kept = coerced.value_kept (VariablesEnd table document name variables) VStops VUnread VWrong VGives (λ e f c d. variables_end_one c d) v_split v_join v_stop v_said table document variables value report value' report' c

    pub variables_zeroed : 2 < a → take most_coerced value' ≡ replicate most_coerced 0
    variables_zeroed = coerced.value_zeroed (VariablesEnd table document name variables) VStops VUnread VWrong VGives (λ e f c d. variables_end_one c d) v_split v_join v_stop v_said table document variables value report value' report' c

    pub variables_report_tells : report_size ≤ length report → (ns : List ℕ) × (report' ≡ a ∷ ns)
    variables_report_tells = coerced.report_tells (VariablesEnd table document name variables) VStops VUnread VWrong VGives (λ e f c d. variables_end_one c d) v_split v_join v_stop v_said table document variables value report value' report' c

    pub variables_value_tail : (length value' ≡ length value) × (drop most_coerced value' ≡ drop most_coerced value)
    variables_value_tail = coerced.value_tail (VariablesEnd table document name variables) VStops VUnread VWrong VGives (λ e f c d. variables_end_one c d) v_split v_join v_stop v_said table document variables value report value' report' c

    pub variables_report_tail : (length report' ≡ length report) × (drop report_size report' ≡ drop report_size report)
    variables_report_tail = coerced.report_tail (VariablesEnd table document name variables) VStops VUnread VWrong VGives (λ e f c d. variables_end_one c d) v_split v_join v_stop v_said table document variables value report value' report' c
