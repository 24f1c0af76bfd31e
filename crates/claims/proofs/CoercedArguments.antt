-- What `gw_coerce_arguments` answers and leaves in the buffers: each ending by its cause.
use mathlib.Core.Path.{◌≡◌, refl, sym, ap, ◌∙◌, subst}
use mathlib.Core.Logic.{◌⊎◌, ◌↔◌, inl, inr}
use mathlib.Core.List.{List, [], ◌∷◌, ◌++◌}
use Prim.Native.Nat.{ℕ, ◌-◌, ◌≤◌, ◌<◌}
use native.Mathlib.Omega.{arith}
use lib.ListN.{length, take, drop, replicate}
use Rattle.paper.specs.Numbers.{report_size, most_text, input_document, input_variables}
use Rattle.paper.specs.Rows.{Row}
use Rattle.paper.specs.Refusals.{number_of, shown_in_text}
use Rattle.paper.specs.Calls.{filled, tells}
use Rattle.paper.specs.declared.Refusal.{Refusal}
use Rattle.paper.specs.declared.Refusal.TheVariants.{OverLength}
use Rattle.paper_table.specs.TableNumbers.{most_table, input_table}
use Rattle.paper_query.specs.Opening.{stops, opens, Opened, no_operation}
use Rattle.paper_values.specs.ValueNumbers.{most_coerced}
use Rattle.paper_values.specs.Encoding.{encode}
use Rattle.paper_values.specs.ValueCalls as calls
use Rattle.claims.proofs.BuffersLaws.{said_number}
use Rattle.claims.proofs.CoercionsLaws as coerced
use Rattle.claims.proofs.CoercionsLaws.{Ends, stopped, unread, wrong, long, fits, Stopped}
use Rattle.claims.proofs.CoercionsStops.{opening_stops, Unnamed, unnamed_if, ended_long, ended_fits, by_length}
use Rattle.paper_query.specs.DocumentCalls.{read}
use Rattle.paper_values.specs.Values.{At, Tree, Out, Got, No}
use Rattle.paper_values.specs.DocumentDues.{ReachedField}
use Rattle.paper_values.specs.ValueCalls.{Ending, ends, yields, ended, ArgumentsEnd, ValueLent, ValueShort, CoercedArguments}
use Rattle.paper_values.proofs.ValueCallsOne.{arguments_end_one}
use Rattle.claims.proofs.CoercionsWords.{VariablesRead, VariablesUnread, ArgumentsGive, answer_of, value_left, report_left}

module _ (table document name variables : List ℕ) (row : ℕ) where
  abbrev Unreached : Type 0
  Unreached = (rs : List Row) × (op : ℕ) × Opened table document name (opens rs op) × (ReachedField (read document rs) op row → ⊥)

  abbrev AStops : ℕ → List ℕ → Type 0
  AStops k shown = Opened table document name (stops k shown) ⊎ (Unreached × (k ≡ 12) × (shown ≡ []))

  abbrev AUnread : Refusal → Type 0
  AUnread r = (rs : List Row) × (op : ℕ) × ReachedField (read document rs) op row × VariablesUnread table document name variables rs op r

  abbrev AWrong : At → ℕ → Type 0
  AWrong i w =
      (rs : List Row) × (op : ℕ) × (vs : List Row) × ReachedField (read document rs) op row × VariablesRead table document name variables rs op vs
      × ArgumentsGive table document variables row rs op vs (No i w)

  abbrev AGives : Tree → Type 0
  AGives t =
      (rs : List Row) × (op : ℕ) × (vs : List Row) × ReachedField (read document rs) op row × VariablesRead table document name variables rs op vs
      × ArgumentsGive table document variables row rs op vs (Got t)

  a_result : (rs : List Row) (op : ℕ) (vs : List Row) → ReachedField (read document rs) op row → VariablesRead table document name variables rs op vs → (o : Out Tree) →
      ArgumentsGive table document variables row rs op vs o → Ends AStops AUnread AWrong AGives (ended o)
  a_result rs op vs f h (No i w) c = wrong i (rs, op, vs, f, h, c)
  a_result rs op vs f h (Got t) c = by_length AStops AUnread AWrong AGives t (rs, op, vs, f, h, c)

  a_split : (e : Ending) → ArgumentsEnd table document name variables row e → Ends AStops AUnread AWrong AGives e
  a_split e (calls.no_operation_opened p) = stopped (inl p)
  a_split e (calls.no_field_reached {rs} {op} p n) = stopped (inr ((rs, op, p, n), refl, refl))
  a_split e (calls.variables_unread {rs} {op} {t} p f k s) = unread (rs, op, f, (p, (t, k, s)))
  a_split e (calls.arguments_coerced {rs} {vs} {op} {t} {o} p f k s c) = a_result rs op vs f (p, (t, k, s)) o c

  unreached_ends : (k : ℕ) (shown : List ℕ) → AStops k shown → ArgumentsEnd table document name variables row (ends k shown)
  unreached_ends k shown (inl p) = calls.no_operation_opened p
  unreached_ends k shown (inr u) = rw (u.1, u.2) (calls.no_field_reached u.0.2 u.0.3)

  a_join : (e : Ending) → Ends AStops AUnread AWrong AGives e → ArgumentsEnd table document name variables row e
  a_join e (stopped {k} {shown} p) = unreached_ends k shown p
  a_join e (unread u) = calls.variables_unread u.3.0 u.2 u.3.1.1 u.3.1.2
  a_join e (wrong i h) = calls.arguments_coerced h.4.0 h.3 h.4.1.1 h.4.1.2 h.5
  a_join e (long t g l) = subst (ArgumentsEnd table document name variables row) (ended_long t l) (calls.arguments_coerced g.4.0 g.3 g.4.1.1 g.4.1.2 g.5)
  a_join e (fits t g l) = subst (ArgumentsEnd table document name variables row) (ended_fits t l) (calls.arguments_coerced g.4.0 g.3 g.4.1.1 g.4.1.2 g.5)

  a_stop : (k : ℕ) (shown : List ℕ) → AStops k shown → Stopped k shown
  a_stop k shown (inl p) = opening_stops p
  a_stop k shown (inr u) = rw (u.1, u.2) (omega arith, λ q. omega (arith, q), λ q. omega (arith, q), omega arith, λ l. absurd (omega (arith, l)))

  a_said : (r : Refusal) → AUnread r → 2 < number_of r
  a_said r u = said_number u.3.1.2

  module _ {value report value' report' : List ℕ} {a : ℕ} (c : CoercedArguments table document name variables row value report value' report' a) where
    -- the ending that is due is told, and by 0 and all above 2 some ending
    pub arguments_told : ValueLent value report → ValueShort table document variables → (e : Ending) → ArgumentsEnd table document name variables row e → (a ≡ answer_of e) × (value' ≡ value_left value e) × (report' ≡ report_left report e)
    arguments_told l s e d = coerced.ending_told (ArgumentsEnd table document name variables row) AStops AUnread AWrong AGives (λ e f c d. arguments_end_one c d) a_split a_join a_stop a_said table document variables value report value' report' c l s e d

    pub arguments_tells : (a ≡ 0) ⊎ (2 < a) → ValueLent value report × ValueShort table document variables × ((e : Ending) × ArgumentsEnd table document name variables row e × (a ≡ answer_of e) × (value' ≡ value_left value e) × (report' ≡ report_left report e))
    arguments_tells = coerced.tells_it (ArgumentsEnd table document name variables row) AStops AUnread AWrong AGives (λ e f c d. arguments_end_one c d) a_split a_join a_stop a_said table document variables value report value' report' c

    -- 0
    abbrev AAccepted : Type 0
    AAccepted = (rs : List Row) × (op : ℕ) × (vs : List Row) × (t : Tree) × ReachedField (read document rs) op row × VariablesRead table document name variables rs op vs × ArgumentsGive table document variables row rs op vs (Got t) × (length (encode t) ≤ most_coerced)

    pub arguments_accepted_exactly : (a ≡ 0) ↔ (ValueLent value report × ValueShort table document variables × AAccepted)
    arguments_accepted_exactly = (to, from)
      where
        to : a ≡ 0 → ValueLent value report × ValueShort table document variables × AAccepted
        to q = let h = coerced.accepted_gives (ArgumentsEnd table document name variables row) AStops AUnread AWrong AGives (λ e f c d. arguments_end_one c d) a_split a_join a_stop a_said table document variables value report value' report' c q in let g = h.2.1 in (h.0, h.1, (g.0, g.1, g.2, h.2.0, g.3, g.4, g.5, h.2.2))

        from : ValueLent value report × ValueShort table document variables × AAccepted → a ≡ 0
        from h = let g = h.2 in (coerced.told (ArgumentsEnd table document name variables row) AStops AUnread AWrong AGives (λ e f c d. arguments_end_one c d) a_split a_join a_stop a_said table document variables value report value' report' c h.0 h.1 (yields (encode g.3)) (fits g.3 (g.0, g.1, g.2, g.4, g.5, g.6) g.7)).0

    pub arguments_success : a ≡ 0 → (rs : List Row) × (op : ℕ) × (vs : List Row) × (t : Tree) × ReachedField (read document rs) op row × VariablesRead table document name variables rs op vs × ArgumentsGive table document variables row rs op vs (Got t) × (take most_coerced value' ≡ encode t ++ replicate (most_coerced - length (encode t)) 0) × (take 2 report' ≡ 0 ∷ length (encode t) ∷ [])
    arguments_success q =
        let h = coerced.accepted_gives (ArgumentsEnd table document name variables row) AStops AUnread AWrong AGives (λ e f c d. arguments_end_one c d) a_split a_join a_stop a_said table document variables value report value' report' c q in let g = h.2.1 in
        (g.0, g.1, g.2, h.2.0, g.3, g.4, g.5, coerced.value_filled (ArgumentsEnd table document name variables row) AStops AUnread AWrong AGives (λ e f c d. arguments_end_one c d) a_split a_join a_stop a_said table document variables value report value' report' h.2.0 h.2.2 h.2.3, ap (take 2) h.2.4)

    -- 16
    pub arguments_too_long_exactly : (a ≡ 16) ↔ (ValueLent value report × ValueShort table document variables × ((rs : List Row) × (op : ℕ) × (vs : List Row) × (t : Tree) × ReachedField (read document rs) op row × VariablesRead table document name variables rs op vs × ArgumentsGive table document variables row rs op vs (Got t) × (most_coerced < length (encode t))))
    arguments_too_long_exactly = (to, from)
      where
        to : a ≡ 16 → ValueLent value report × ValueShort table document variables × ((rs : List Row) × (op : ℕ) × (vs : List Row) × (t : Tree) × ReachedField (read document rs) op row × VariablesRead table document name variables rs op vs × ArgumentsGive table document variables row rs op vs (Got t) × (most_coerced < length (encode t)))
        to q = let h = coerced.refused_long (ArgumentsEnd table document name variables row) AStops AUnread AWrong AGives (λ e f c d. arguments_end_one c d) a_split a_join a_stop a_said table document variables value report value' report' c q in let g = h.2.1 in (h.0, h.1, (g.0, g.1, g.2, h.2.0, g.3, g.4, g.5, h.2.2))

        from : ValueLent value report × ValueShort table document variables × ((rs : List Row) × (op : ℕ) × (vs : List Row) × (t : Tree) × ReachedField (read document rs) op row × VariablesRead table document name variables rs op vs × ArgumentsGive table document variables row rs op vs (Got t) × (most_coerced < length (encode t))) → a ≡ 16
        from h = let g = h.2 in (coerced.told (ArgumentsEnd table document name variables row) AStops AUnread AWrong AGives (λ e f c d. arguments_end_one c d) a_split a_join a_stop a_said table document variables value report value' report' c h.0 h.1 (ends 16 []) (long g.3 (g.0, g.1, g.2, g.4, g.5, g.6) g.7)).0

    -- 11, with text, row and reason
    pub arguments_refused_exactly : (i : At) (w : ℕ) → ((a ≡ 11) × (take 4 report' ≡ 11 ∷ i.text ∷ i.row ∷ w ∷ [])) ↔ (ValueLent value report × ValueShort table document variables × ((rs : List Row) × (op : ℕ) × (vs : List Row) × ReachedField (read document rs) op row × VariablesRead table document name variables rs op vs × ArgumentsGive table document variables row rs op vs (No i w)))
    arguments_refused_exactly i w = (to, from)
      where
        same_told : (j : At) (x : ℕ) → 11 ∷ j.text ∷ j.row ∷ x ∷ [] ≡ 11 ∷ i.text ∷ i.row ∷ w ∷ [] → AWrong j x → AWrong i w
        same_told j x q h = let e : j.text ≡ i.text = cc in let f : j.row ≡ i.row = cc in let g : x ≡ w = cc in let k : j ≡ i = ap (λ (y : ℕ). record { text = y; row = j.row }) e ∙ ap (λ (y : ℕ). record { text = i.text; row = y }) f in rw (sym k, sym g) h

        to : (a ≡ 11) × (take 4 report' ≡ 11 ∷ i.text ∷ i.row ∷ w ∷ []) → ValueLent value report × ValueShort table document variables × ((rs : List Row) × (op : ℕ) × (vs : List Row) × ReachedField (read document rs) op row × VariablesRead table document name variables rs op vs × ArgumentsGive table document variables row rs op vs (No i w))
        to q = let h = coerced.refused_wrong (ArgumentsEnd table document name variables row) AStops AUnread AWrong AGives (λ e f c d. arguments_end_one c d) a_split a_join a_stop a_said table document variables value report value' report' c q.0 in (h.0, h.1, same_told h.2.0 h.2.1 (ap (take 4) (sym h.2.3) ∙ q.1) h.2.2)

        from : ValueLent value report × ValueShort table document variables × ((rs : List Row) × (op : ℕ) × (vs : List Row) × ReachedField (read document rs) op row × VariablesRead table document name variables rs op vs × ArgumentsGive table document variables row rs op vs (No i w)) → (a ≡ 11) × (take 4 report' ≡ 11 ∷ i.text ∷ i.row ∷ w ∷ [])
        from h = let g = coerced.told (ArgumentsEnd table document name variables row) AStops AUnread AWrong AGives (λ e f c d. arguments_end_one c d) a_split a_join a_stop a_said table document variables value report value' report' c h.0 h.1 (ends 11 (i.text ∷ i.row ∷ w ∷ [])) (wrong i h.2) in (g.0, ap (take 4) g.2)

    pub arguments_refused_some : a ≡ 11 → (i : At) × (w : ℕ) × (take 4 report' ≡ 11 ∷ i.text ∷ i.row ∷ w ∷ []) × ((rs : List Row) × (op : ℕ) × (vs : List Row) × ReachedField (read document rs) op row × VariablesRead table document name variables rs op vs × ArgumentsGive table document variables row rs op vs (No i w))
    arguments_refused_some q = let h = coerced.refused_wrong (ArgumentsEnd table document name variables row) AStops AUnread AWrong AGives (λ e f c d. arguments_end_one c d) a_split a_join a_stop a_said table document variables value report value' report' c q in (h.2.0, h.2.1, ap (take 4) h.2.3, h.2.2)

    -- never 16 where an 11 is due
    pub arguments_refused_not_too_long : (i : At) (w : ℕ) → (rs : List Row) × (op : ℕ) × (vs : List Row) × ReachedField (read document rs) op row × VariablesRead table document name variables rs op vs × ArgumentsGive table document variables row rs op vs (No i w) → a ≡ 16 → ⊥
    arguments_refused_not_too_long i w h q =
        let g = coerced.refused_long (ArgumentsEnd table document name variables row) AStops AUnread AWrong AGives (λ e f c d. arguments_end_one c d) a_split a_join a_stop a_said table document variables value report value' report' c q in
        let z = coerced.told (ArgumentsEnd table document name variables row) AStops AUnread AWrong AGives (λ e f c d. arguments_end_one c d) a_split a_join a_stop a_said table document variables value report value' report' c g.0 g.1 (ends 11 (i.text ∷ i.row ∷ w ∷ [])) (wrong i h) in
        omega (arith, q, z.0)

    -- 3 to 6 of the variables text
    pub arguments_text_exactly : (k at : ℕ) → 2 < k → k < 7 →
        ((a ≡ k) × (take 3 report' ≡ k ∷ at ∷ 1 ∷ [])) ↔ (ValueLent value report × ValueShort table document variables × ((rs : List Row) × (op : ℕ) × (r : Refusal) × ReachedField (read document rs) op row × VariablesUnread table document name variables rs op r × (number_of r ≡ k) × (shown_in_text input_variables r ≡ at ∷ 1 ∷ [])))
    arguments_text_exactly k at l u = (
      λ q. let h = (coerced.text_told (ArgumentsEnd table document name variables row) AStops AUnread AWrong AGives (λ e f c d. arguments_end_one c d) a_split a_join a_stop a_said table document variables value report value' report' c k at l u).0 q in (h.0, h.1, (h.2.1.0, h.2.1.1, h.2.0, h.2.1.2, h.2.1.3, h.2.2, h.2.3)),
      λ h. let g = h.2 in (coerced.text_told (ArgumentsEnd table document name variables row) AStops AUnread AWrong AGives (λ e f c d. arguments_end_one c d) a_split a_join a_stop a_said table document variables value report value' report' c k at l u).1 (h.0, h.1, (g.2, (g.0, g.1, g.3, g.4), g.5, g.6)),
    )

    -- 12
    for_12 : (shown : List ℕ) → AStops 12 shown → Unnamed table document name ⊎ Unreached
    for_12 shown (inl p) = inl (unnamed_if p refl)
    for_12 shown (inr u) = inr u.0

    to_12 : Unnamed table document name ⊎ Unreached → AStops 12 []
    to_12 (inl u) = inl (no_operation u.1 u.2)
    to_12 (inr u) = inr (u, refl, refl)

    pub arguments_unnamed_exactly : (a ≡ 12) ↔ (ValueLent value report × ValueShort table document variables × (Unnamed table document name ⊎ Unreached))
    arguments_unnamed_exactly = (
      λ q. let h = coerced.refused_stop (ArgumentsEnd table document name variables row) AStops AUnread AWrong AGives (λ e f c d. arguments_end_one c d) a_split a_join a_stop a_said table document variables value report value' report' c q in (h.0, h.1, for_12 h.2.0 h.2.1),
      λ h. (coerced.told (ArgumentsEnd table document name variables row) AStops AUnread AWrong AGives (λ e f c d. arguments_end_one c d) a_split a_join a_stop a_said table document variables value report value' report' c h.0 h.1 (ends 12 []) (stopped (to_12 h.2))).0,
    )

    -- the order
    pub arguments_document_first : ValueLent value report → most_text < length document → (a ≡ 2) × (report' ≡ tells (OverLength input_document) report)
    arguments_document_first = coerced.first_the_document (ArgumentsEnd table document name variables row) AStops AUnread AWrong AGives (λ e f c d. arguments_end_one c d) a_split a_join a_stop a_said table document variables value report value' report' c

    pub arguments_text_next : ValueLent value report → length document ≤ most_text → most_text < length variables → (a ≡ 2) × (report' ≡ tells (OverLength input_variables) report)
    arguments_text_next = coerced.then_the_variables (ArgumentsEnd table document name variables row) AStops AUnread AWrong AGives (λ e f c d. arguments_end_one c d) a_split a_join a_stop a_said table document variables value report value' report' c

    pub arguments_table_next : ValueLent value report → length document ≤ most_text → length variables ≤ most_text → most_table < length table → (a ≡ 2) × (report' ≡ tells (OverLength input_table) report)
    arguments_table_next = coerced.then_the_table (ArgumentsEnd table document name variables row) AStops AUnread AWrong AGives (λ e f c d. arguments_end_one c d) a_split a_join a_stop a_said table document variables value report value' report' c

    pub arguments_opening_next : ValueLent value report → ValueShort table document variables → (k : ℕ) (shown : List ℕ) → Opened table document name (stops k shown) →
        (a ≡ k) × (report' ≡ filled report_size (k ∷ shown) report)
    arguments_opening_next l s k shown p = let h = coerced.told (ArgumentsEnd table document name variables row) AStops AUnread AWrong AGives (λ e f c d. arguments_end_one c d) a_split a_join a_stop a_said table document variables value report value' report' c l s (ends k shown) (stopped (inl p)) in (h.0, h.2)

    -- the buffers
    pub arguments_short_kept : length report < report_size → (a ≡ 1) × (value' ≡ value) × (report' ≡ report)
    arguments_short_kept = coerced.short_kept (ArgumentsEnd table document name variables row) AStops AUnread AWrong AGives (λ e f c d. arguments_end_one c d) a_split a_join a_stop a_said table document variables value report value' report' c

    pub arguments_kept : (a ≡ 1) ⊎ (a ≡ 2) → value' ≡ value
    arguments_kept = coerced.value_kept (ArgumentsEnd table document name variables row) AStops AUnread AWrong AGives (λ e f c d. arguments_end_one c d) a_split a_join a_stop a_said table document variables value report value' report' c

    pub arguments_zeroed : 2 < a → take most_coerced value' ≡ replicate most_coerced 0
    arguments_zeroed = coerced.value_zeroed (ArgumentsEnd table document name variables row) AStops AUnread AWrong AGives (λ e f c d. arguments_end_one c d) a_split a_join a_stop a_said table document variables value report value' report' c

    pub arguments_report_tells : report_size ≤ length report → (ns : List ℕ) × (report' ≡ a ∷ ns)
    arguments_report_tells = coerced.report_tells (ArgumentsEnd table document name variables row) AStops AUnread AWrong AGives (λ e f c d. arguments_end_one c d) a_split a_join a_stop a_said table document variables value report value' report' c

    pub arguments_value_tail : (length value' ≡ length value) × (drop most_coerced value' ≡ drop most_coerced value)
    arguments_value_tail = coerced.value_tail (ArgumentsEnd table document name variables row) AStops AUnread AWrong AGives (λ e f c d. arguments_end_one c d) a_split a_join a_stop a_said table document variables value report value' report' c

    pub arguments_report_tail : (length report' ≡ length report) × (drop report_size report' ≡ drop report_size report)
    arguments_report_tail = coerced.report_tail (ArgumentsEnd table document name variables row) AStops AUnread AWrong AGives (λ e f c d. arguments_end_one c d) a_split a_join a_stop a_said table document variables value report value' report' c
