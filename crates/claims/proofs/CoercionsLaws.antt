-- What a coercing call answers and leaves in the buffers, case by case of `Coerced`, whichever the causes of its endings are.
use mathlib.Core.Path.{◌≡◌, refl, sym, ap, ◌∙◌}
use mathlib.Core.Logic.{◌⊎◌, ◌↔◌, inl, inr}
use mathlib.Core.List.{List, [], ◌∷◌, ◌++◌}
use Prim.Native.Nat.{ℕ, ◌-◌, ◌≤◌, ◌<◌}
use native.Mathlib.Omega.{arith}
use lib.ListN.{length, get_or, take, drop, replicate}
use Rattle.paper.specs.Numbers.{report_size, most_text, input_document, input_variables, accepted}
use Rattle.paper.specs.Refusals.{number_of, shown_in_text}
use Rattle.paper.specs.Calls.{filled, tells}
use Rattle.paper.specs.declared.Refusal.{Refusal}
use Rattle.paper.specs.declared.Refusal.TheVariants.{Buffer, OverLength, NoToken, NoGoing, TooDeep, TooManyRows, TooMany}
use Rattle.paper_table.specs.TableNumbers.{most_table, input_table}
use Rattle.paper_values.specs.ValueNumbers.{refuse_value, refuse_too_long, most_coerced}
use Rattle.paper_values.specs.Values.{At, Tree}
use Rattle.paper_values.specs.Encoding.{encode}
use Rattle.paper_values.specs.ValueCalls.{Ending, ends, yields, ValueLent, ValueShort, Coerced, short_report, short_value, long_document, long_variables, long_table, refused, answered}
use Rattle.paper_values.proofs.ValueCallsOne.{coerced_one}
use Rattle.claims.proofs.BuffersLaws.{filled_kept, filled_head, tells_fits}
use Rattle.claims.proofs.CoercionsWords.{answer_of, value_left, report_left}

-- an ending by its cause: nothing to coerce, the variables text refused, a value refused, a value too long, a value
pub data Ends (Stops : ℕ → List ℕ → Type 0) (Unread : Refusal → Type 0) (Wrong : At → ℕ → Type 0) (Gives : Tree → Type 0) : Ending → Type 0 where
  stopped : {k : ℕ} {shown : List ℕ} → Stops k shown → Ends Stops Unread Wrong Gives (ends k shown)
  unread : {r : Refusal} → Unread r → Ends Stops Unread Wrong Gives (ends (number_of r) (shown_in_text input_variables r))
  wrong : (i : At) {w : ℕ} → Wrong i w → Ends Stops Unread Wrong Gives (ends refuse_value (i.text ∷ i.row ∷ w ∷ []))
  long : (t : Tree) → Gives t → most_coerced < length (encode t) → Ends Stops Unread Wrong Gives (ends refuse_too_long [])
  fits : (t : Tree) → Gives t → length (encode t) ≤ most_coerced → Ends Stops Unread Wrong Gives (yields (encode t))

-- what stops a call before it coerces is no number of ours, and is not shown as the variables text is
abbrev pub Stopped : ℕ → List ℕ → Type 0
Stopped k shown =
    (2 < k) × (k ≡ refuse_value → ⊥) × (k ≡ refuse_too_long → ⊥) × (length (k ∷ shown) ≤ report_size)
    × (k < 7 → (old : List ℕ) → get_or (take 3 (filled report_size (k ∷ shown) old)) 2 0 ≡ 0)

shown_fits : (r : Refusal) → length (number_of r ∷ shown_in_text input_variables r) ≤ report_size
shown_fits Buffer = omega arith
shown_fits (OverLength input) = omega arith
shown_fits (NoToken at) = omega arith
shown_fits (NoGoing at) = omega arith
shown_fits (TooDeep at) = omega arith
shown_fits (TooManyRows at) = omega arith
shown_fits (TooMany at) = omega arith

-- a report that shows an offset and the text 1 is a text's
text_shown : (r : Refusal) (old : List ℕ) (k at : ℕ) → take 3 (filled report_size (number_of r ∷ shown_in_text input_variables r) old) ≡ k ∷ at ∷ 1 ∷ [] → shown_in_text input_variables r ≡ at ∷ 1 ∷ []
text_shown Buffer old k at q = absurd (omega (arith, ap (λ (l : List ℕ). get_or l 2 0) q))
text_shown (OverLength input) old k at q = absurd (omega (arith, ap (λ (l : List ℕ). get_or l 2 0) q))
text_shown (NoToken x) old k at q = ap (drop 1) q
text_shown (NoGoing x) old k at q = ap (drop 1) q
text_shown (TooDeep x) old k at q = ap (drop 1) q
text_shown (TooManyRows x) old k at q = ap (drop 1) q
text_shown (TooMany x) old k at q = absurd (omega (arith, ap (λ (l : List ℕ). get_or l 2 0) q))

text_below : (r : Refusal) → number_of r < 9
text_below Buffer = omega arith
text_below (OverLength input) = omega arith
text_below (NoToken at) = omega arith
text_below (NoGoing at) = omega arith
text_below (TooDeep at) = omega arith
text_below (TooManyRows at) = omega arith
text_below (TooMany at) = omega arith

abbrev Facts : Ending → Type 0
Facts (ends k shown) = (2 < k) × (length (k ∷ shown) ≤ report_size)
Facts (yields bs) = length bs ≤ most_coerced

module _ (End : Ending → Type 0) (Stops : ℕ → List ℕ → Type 0) (Unread : Refusal → Type 0) (Wrong : At → ℕ → Type 0) (Gives : Tree → Type 0)
    (one : (e f : Ending) → End e → End f → e ≡ f) (split : (e : Ending) → End e → Ends Stops Unread Wrong Gives e) (join : (e : Ending) → Ends Stops Unread Wrong Gives e → End e)
    (stop : (k : ℕ) (shown : List ℕ) → Stops k shown → Stopped k shown) (said : (r : Refusal) → Unread r → 2 < number_of r)
    (table document variables value report value' report' : List ℕ) where
  facts : {e : Ending} → Ends Stops Unread Wrong Gives e → Facts e
  facts (stopped {k} {shown} p) = ((stop k shown p).0, (stop k shown p).3)
  facts (unread {r} u) = (said r u, shown_fits r)
  facts (wrong i h) = (omega arith, omega arith)
  facts (long t g l) = (omega arith, omega arith)
  facts (fits t g l) = l

  of_end : (e : Ending) → End e → Facts e
  of_end e d = facts (split e d)

  -- ---- where the buffers are lent and the inputs short

  abbrev Told : ℕ → Type 0
  Told a = ValueLent value report × ValueShort table document variables × ((e : Ending) × End e × (a ≡ answer_of e) × (value' ≡ value_left value e) × (report' ≡ report_left report e))

  pub tells_it : {a : ℕ} → Coerced End table document variables value report value' report' a → (a ≡ 0) ⊎ (2 < a) → Told a
  tells_it (short_report h e f) (inl q) = absurd (omega (arith, q))
  tells_it (short_report h e f) (inr q) = absurd (omega (arith, q))
  tells_it (short_value h w e f) (inl q) = absurd (omega (arith, q))
  tells_it (short_value h w e f) (inr q) = absurd (omega (arith, q))
  tells_it (long_document l w e f) (inl q) = absurd (omega (arith, q))
  tells_it (long_document l w e f) (inr q) = absurd (omega (arith, q))
  tells_it (long_variables l x w e f) (inl q) = absurd (omega (arith, q))
  tells_it (long_variables l x w e f) (inr q) = absurd (omega (arith, q))
  tells_it (long_table l x y w e f) (inl q) = absurd (omega (arith, q))
  tells_it (long_table l x y w e f) (inr q) = absurd (omega (arith, q))
  tells_it (refused {k} {shown} l s d e f) q = (l, s, (ends k shown, d, refl, e, f))
  tells_it (answered {bs} l s d e f) q = (l, s, (yields bs, d, refl, e, f))

  -- the ending that is due is the one that is told
  of_ending : {a : ℕ} → Coerced End table document variables value report value' report' a → ValueLent value report → ValueShort table document variables → (e : Ending) → End e →
      (a ≡ answer_of e) × (value' ≡ value_left value e) × (report' ≡ report_left report e)
  of_ending c l s (ends k shown) d = coerced_one End one table document variables value report c (refused l s d refl refl)
  of_ending c l s (yields bs) d = coerced_one End one table document variables value report c (answered l s d refl refl)

  pub told : {a : ℕ} → Coerced End table document variables value report value' report' a → ValueLent value report → ValueShort table document variables → (e : Ending) → Ends Stops Unread Wrong Gives e →
      (a ≡ answer_of e) × (value' ≡ value_left value e) × (report' ≡ report_left report e)
  told c l s e d = of_ending c l s e (join e d)

  pub ending_told : {a : ℕ} → Coerced End table document variables value report value' report' a → ValueLent value report → ValueShort table document variables → (e : Ending) →
      End e → (a ≡ answer_of e) × (value' ≡ value_left value e) × (report' ≡ report_left report e)
  ending_told = of_ending

  -- ---- 0

  gives_from : {e : Ending} → Ends Stops Unread Wrong Gives e → answer_of e ≡ 0 → (t : Tree) × Gives t × (length (encode t) ≤ most_coerced) × (e ≡ yields (encode t))
  gives_from (stopped {k} {shown} p) q = absurd (omega (arith, q, (stop k shown p).0))
  gives_from (unread {r} u) q = absurd (omega (arith, q, said r u))
  gives_from (wrong i h) q = absurd (omega (arith, q))
  gives_from (long t g l) q = absurd (omega (arith, q))
  gives_from (fits t g l) q = (t, g, l, refl)

  pub accepted_gives : {a : ℕ} → Coerced End table document variables value report value' report' a → a ≡ 0 →
      ValueLent value report × ValueShort table document variables
      × ((t : Tree) × Gives t × (length (encode t) ≤ most_coerced) × (value' ≡ filled most_coerced (encode t) value) × (report' ≡ filled report_size (0 ∷ length (encode t) ∷ []) report))
  accepted_gives c q =
      let h = tells_it c (inl q) in
      let g = gives_from (split h.2.0 h.2.1) (sym h.2.2 ∙ q) in
      (h.0, h.1, (g.0, g.1, g.2, h.2.3 ∙ ap (value_left value) g.3, h.2.4 ∙ ap (report_left report) g.3))

  -- ---- 11

  wrong_from : {e : Ending} → Ends Stops Unread Wrong Gives e → answer_of e ≡ refuse_value → (i : At) × (w : ℕ) × Wrong i w × (e ≡ ends refuse_value (i.text ∷ i.row ∷ w ∷ []))
  wrong_from (stopped {k} {shown} p) q = absurd ((stop k shown p).1 q)
  wrong_from (unread {r} u) q = absurd (omega (arith, q, text_below r))
  wrong_from (wrong i {w} h) q = (i, w, h, refl)
  wrong_from (long t g l) q = absurd (omega (arith, q))
  wrong_from (fits t g l) q = absurd (omega (arith, q))

  pub refused_wrong : {a : ℕ} → Coerced End table document variables value report value' report' a → a ≡ 11 →
      ValueLent value report × ValueShort table document variables × ((i : At) × (w : ℕ) × Wrong i w × (report' ≡ filled report_size (11 ∷ i.text ∷ i.row ∷ w ∷ []) report))
  refused_wrong c q =
      let h = tells_it c (inr (omega (arith, q))) in
      let g = wrong_from (split h.2.0 h.2.1) (sym h.2.2 ∙ q) in
      (h.0, h.1, (g.0, g.1, g.2, h.2.4 ∙ ap (report_left report) g.3))

  -- ---- 16

  long_from : {e : Ending} → Ends Stops Unread Wrong Gives e → answer_of e ≡ refuse_too_long → (t : Tree) × Gives t × (most_coerced < length (encode t))
  long_from (stopped {k} {shown} p) q = absurd ((stop k shown p).2 q)
  long_from (unread {r} u) q = absurd (omega (arith, q, text_below r))
  long_from (wrong i {w} h) q = absurd (omega (arith, q))
  long_from (long t g l) q = (t, g, l)
  long_from (fits t g l) q = absurd (omega (arith, q))

  pub refused_long : {a : ℕ} → Coerced End table document variables value report value' report' a → a ≡ 16 →
      ValueLent value report × ValueShort table document variables × ((t : Tree) × Gives t × (most_coerced < length (encode t)))
  refused_long c q =
      let h = tells_it c (inr (omega (arith, q))) in
      (h.0, h.1, long_from (split h.2.0 h.2.1) (sym h.2.2 ∙ q))

  -- ---- 12

  stop_from : {e : Ending} → Ends Stops Unread Wrong Gives e → answer_of e ≡ 12 → (shown : List ℕ) × Stops 12 shown
  stop_from (stopped {k} {shown} p) q = (shown, rw q at p)
  stop_from (unread {r} u) q = absurd (omega (arith, q, text_below r))
  stop_from (wrong i h) q = absurd (omega (arith, q))
  stop_from (long t g l) q = absurd (omega (arith, q))
  stop_from (fits t g l) q = absurd (omega (arith, q))

  pub refused_stop : {a : ℕ} → Coerced End table document variables value report value' report' a → a ≡ 12 → ValueLent value report × ValueShort table document variables × ((shown : List ℕ) × Stops 12 shown)
  refused_stop c q =
      let h = tells_it c (inr (omega (arith, q))) in
      (h.0, h.1, stop_from (split h.2.0 h.2.1) (sym h.2.2 ∙ q))

  -- ---- 3 to 6 of the variables text

  unread_from : {e : Ending} → Ends Stops Unread Wrong Gives e → (k at : ℕ) → 2 < k → k < 7 → answer_of e ≡ k → take 3 (report_left report e) ≡ k ∷ at ∷ 1 ∷ [] →
      (r : Refusal) × Unread r × (number_of r ≡ k) × (shown_in_text input_variables r ≡ at ∷ 1 ∷ [])
  unread_from (stopped {k = m} {shown} p) k at l u q z =
      let x = (stop m shown p).4 (omega (arith, q, u)) report in
      let y = ap (λ (ns : List ℕ). get_or ns 2 0) z in
      absurd (omega (arith, x, y))
  unread_from (unread {r} h) k at l u q z = (r, h, q, text_shown r report k at z)
  unread_from (wrong i h) k at l u q z = absurd (omega (arith, q, u))
  unread_from (long t g x) k at l u q z = absurd (omega (arith, q, u))
  unread_from (fits t g x) k at l u q z = absurd (omega (arith, q, l))

  abbrev Read : (k at : ℕ) → Type 0
  Read k at = ValueLent value report × ValueShort table document variables × ((r : Refusal) × Unread r × (number_of r ≡ k) × (shown_in_text input_variables r ≡ at ∷ 1 ∷ []))

  pub text_told : {a : ℕ} → Coerced End table document variables value report value' report' a → (k at : ℕ) → 2 < k → k < 7 →
      ((a ≡ k) × (take 3 report' ≡ k ∷ at ∷ 1 ∷ [])) ↔ Read k at
  text_told {a} c k at l u = (to, from)
    where
      to : (a ≡ k) × (take 3 report' ≡ k ∷ at ∷ 1 ∷ []) → Read k at
      to q =
          let h = tells_it c (inr (omega (arith, q.0, l))) in
          (h.0, h.1, unread_from (split h.2.0 h.2.1) k at l u (sym h.2.2 ∙ q.0) (ap (take 3) (sym h.2.4) ∙ q.1))

      from : Read k at → (a ≡ k) × (take 3 report' ≡ k ∷ at ∷ 1 ∷ [])
      from h =
          let g = told c h.0 h.1 (ends (number_of h.2.0) (shown_in_text input_variables h.2.0)) (unread h.2.1) in
          (g.0 ∙ h.2.2, ap (take 3) g.2 ∙ ap (λ (ns : List ℕ). take 3 (filled report_size (number_of h.2.0 ∷ ns) report)) h.2.3 ∙ ap (λ (m : ℕ). m ∷ at ∷ 1 ∷ []) h.2.2)

  -- ---- the order before that: the lengths, document, variables, table

  pub first_the_document : {a : ℕ} → Coerced End table document variables value report value' report' a → ValueLent value report → most_text < length document →
      (a ≡ 2) × (report' ≡ tells (OverLength input_document) report)
  first_the_document c l w = let e = coerced_one End one table document variables value report c (long_document l w refl refl) in (e.0, e.2)

  pub then_the_variables : {a : ℕ} → Coerced End table document variables value report value' report' a → ValueLent value report → length document ≤ most_text → most_text < length variables →
      (a ≡ 2) × (report' ≡ tells (OverLength input_variables) report)
  then_the_variables c l x w = let e = coerced_one End one table document variables value report c (long_variables l x w refl refl) in (e.0, e.2)

  pub then_the_table : {a : ℕ} → Coerced End table document variables value report value' report' a → ValueLent value report → length document ≤ most_text → length variables ≤ most_text → most_table < length table →
      (a ≡ 2) × (report' ≡ tells (OverLength input_table) report)
  then_the_table c l x y w = let e = coerced_one End one table document variables value report c (long_table l x y w refl refl) in (e.0, e.2)

  -- ---- the buffers

  -- a shorter report: nothing is touched
  pub short_kept : {a : ℕ} → Coerced End table document variables value report value' report' a → length report < report_size → (a ≡ 1) × (value' ≡ value) × (report' ≡ report)
  short_kept c l = coerced_one End one table document variables value report c (short_report l refl refl)

  -- refusals 1 and 2: the value is untouched
  kept : {a : ℕ} → Coerced End table document variables value report value' report' a → 0 < a → a < 3 → value' ≡ value
  kept (short_report h e f) l m = e
  kept (short_value h w e f) l m = e
  kept (long_document h w e f) l m = e
  kept (long_variables h x w e f) l m = e
  kept (long_table h x y w e f) l m = e
  kept (refused {k} {shown} h s d e f) l m = absurd (omega (arith, m, (of_end (ends k shown) d).0))
  kept (answered h s d e f) l m = absurd (omega (arith, l))

  pub value_kept : {a : ℕ} → Coerced End table document variables value report value' report' a → (a ≡ 1) ⊎ (a ≡ 2) → value' ≡ value
  value_kept c (inl l) = kept c (omega arith) (omega arith)
  value_kept c (inr l) = kept c (omega arith) (omega arith)

  -- the other refusals: zeros alone
  pub value_zeroed : {a : ℕ} → Coerced End table document variables value report value' report' a → 2 < a → take most_coerced value' ≡ replicate most_coerced 0
  value_zeroed (short_report h e f) l = absurd (omega (arith, l))
  value_zeroed (short_value h w e f) l = absurd (omega (arith, l))
  value_zeroed (long_document h w e f) l = absurd (omega (arith, l))
  value_zeroed (long_variables h x w e f) l = absurd (omega (arith, l))
  value_zeroed (long_table h x y w e f) l = absurd (omega (arith, l))
  value_zeroed (refused h s d e f) l = ap (take most_coerced) e ∙ filled_head most_coerced [] value (omega arith)
  value_zeroed (answered h s d e f) l = absurd (omega (arith, l))

  -- success: the value's bytes and zeros, and their count
  pub value_filled : (t : Tree) → length (encode t) ≤ most_coerced → value' ≡ filled most_coerced (encode t) value → take most_coerced value' ≡ encode t ++ replicate (most_coerced - length (encode t)) 0
  value_filled t l e = ap (take most_coerced) e ∙ filled_head most_coerced (encode t) value l

  -- the report begins with the answer
  pub report_tells : {a : ℕ} → Coerced End table document variables value report value' report' a → report_size ≤ length report → (ns : List ℕ) × (report' ≡ a ∷ ns)
  report_tells (short_report h e f) l = absurd (omega (arith, l, h))
  report_tells (short_value h w e f) l = (_, f)
  report_tells (long_document h w e f) l = (_, f)
  report_tells (long_variables h x w e f) l = (_, f)
  report_tells (long_table h x y w e f) l = (_, f)
  report_tells (refused h s d e f) l = (_, f)
  report_tells (answered h s d e f) l = (_, f)

  -- beyond the fixed sizes nothing is written
  pub value_tail : {a : ℕ} → Coerced End table document variables value report value' report' a → (length value' ≡ length value) × (drop most_coerced value' ≡ drop most_coerced value)
  value_tail (short_report h e f) = (ap length e, ap (drop most_coerced) e)
  value_tail (short_value h w e f) = (ap length e, ap (drop most_coerced) e)
  value_tail (long_document h w e f) = (ap length e, ap (drop most_coerced) e)
  value_tail (long_variables h x w e f) = (ap length e, ap (drop most_coerced) e)
  value_tail (long_table h x y w e f) = (ap length e, ap (drop most_coerced) e)
  value_tail (refused h s d e f) = filled_kept most_coerced [] value value' (omega arith) h.1 e
  value_tail (answered {bs} h s d e f) = filled_kept most_coerced bs value value' (of_end (yields bs) d) h.1 e

  pub report_tail : {a : ℕ} → Coerced End table document variables value report value' report' a → (length report' ≡ length report) × (drop report_size report' ≡ drop report_size report)
  report_tail (short_report h e f) = (ap length f, ap (drop report_size) f)
  report_tail (short_value h w e f) = filled_kept report_size (number_of Buffer ∷ []) report report' (tells_fits Buffer) h f
  report_tail (long_document h w e f) = filled_kept report_size (number_of (OverLength input_document) ∷ input_document ∷ []) report report' (tells_fits (OverLength input_document)) h.0 f
  report_tail (long_variables h x w e f) = filled_kept report_size (number_of (OverLength input_variables) ∷ input_variables ∷ []) report report' (tells_fits (OverLength input_variables)) h.0 f
  report_tail (long_table h x y w e f) = filled_kept report_size (number_of (OverLength input_table) ∷ input_table ∷ []) report report' (tells_fits (OverLength input_table)) h.0 f
  report_tail (refused {k} {shown} h s d e f) = filled_kept report_size (k ∷ shown) report report' (of_end (ends k shown) d).1 h.0 f
  report_tail (answered {bs} h s d e f) = filled_kept report_size (accepted ∷ length bs ∷ []) report report' (omega arith) h.0 f
