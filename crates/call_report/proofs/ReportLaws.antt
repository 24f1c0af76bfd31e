-- What stores leave in a report, and which report is a refusal's and a table's.
use mathlib.Core.Path.{◌≡◌, refl, sym, ap, ap₂, ◌∙◌, subst}
use mathlib.Core.Bool.{Bool, cond}
use mathlib.Core.List.{List, [], ◌∷◌}
use Prim.Native.Nat.{ℕ, ◌≤◌}
use lib.ListN.{length}
use lib.Seq.{sets, sets-eq}
use Rattle.paper.specs.Numbers.{report_size}
use Rattle.paper.specs.Refusals.{number_of, shown_of, shown_in_text}
use Rattle.paper.specs.Calls.{filled, tells}
use Rattle.paper.specs.declared.Refusal.{Refusal}
use Rattle.paper.specs.declared.Refusal.TheVariants.{Buffer, OverLength, NoToken, NoGoing, TooDeep, TooManyRows, TooMany}
use Rattle.paper_table.specs.Judging.{table_number, table_shown}
use Rattle.paper_table.specs.TableCalls.{tells_table}
use Rattle.paper_table.specs.declared.TableAnswer.{TableAnswer}
use Rattle.call_report.specs.Telling.{first_of, of_text}

-- eight stores are the whole report
pub told : (old : List ℕ) (n a b c d e : ℕ) → report_size ≤ length old → sets old 0 (n ∷ a ∷ b ∷ c ∷ d ∷ e ∷ 0 ∷ 0 ∷ []) ≡ filled report_size (n ∷ a ∷ b ∷ c ∷ d ∷ e ∷ []) old
told old n a b c d e h = sets-eq (n ∷ a ∷ b ∷ c ∷ d ∷ e ∷ 0 ∷ 0 ∷ []) old 0 h

-- the number and what is shown are the whole report of a refusal
tells_number : (r : Refusal) (old : List ℕ) → filled report_size (number_of r ∷ first_of (shown_of r) ∷ []) old ≡ tells r old
tells_number Buffer old = refl
tells_number (OverLength input) old = refl
tells_number (NoToken at) old = refl
tells_number (NoGoing at) old = refl
tells_number (TooDeep at) old = refl
tells_number (TooManyRows at) old = refl
tells_number (TooMany at) old = refl

pub refusal_told : (r : Refusal) (old new : List ℕ) (n x : ℕ) → n ≡ number_of r → x ≡ first_of (shown_of r) → new ≡ filled report_size (n ∷ x ∷ []) old → (n ≡ number_of r) × (new ≡ tells r old)
refusal_told r old new n x p q e = (p, e ∙ ap₂ (λ (i j : ℕ). filled report_size (i ∷ j ∷ []) old) p q ∙ tells_number r old)

-- a number and what is shown of a known answer are the whole report of a table
pub table_told : (a z : TableAnswer) (old new : List ℕ) (n : ℕ) → n ≡ table_number a → a ≡ z → new ≡ filled report_size (n ∷ table_shown z) old → (n ≡ table_number a) × (new ≡ tells_table a old)
table_told a z old new n p q e =
    (p, subst (λ (y : TableAnswer). new ≡ tells_table y old) (sym q) (e ∙ ap (λ (k : ℕ). filled report_size (k ∷ table_shown z) old) (p ∙ ap table_number q)))

-- a refusal of a text: the number of the text behind the offset, where it shows one
text_shown : (r : Refusal) (text : ℕ) (old : List ℕ) →
    filled report_size (cond (of_text r) (number_of r ∷ first_of (shown_of r) ∷ text ∷ 0 ∷ 0 ∷ 0 ∷ []) (number_of r ∷ first_of (shown_of r) ∷ [])) old ≡ filled report_size (number_of r ∷ shown_in_text text r) old
text_shown Buffer text old = refl
text_shown (OverLength input) text old = refl
text_shown (NoToken at) text old = refl
text_shown (NoGoing at) text old = refl
text_shown (TooDeep at) text old = refl
text_shown (TooManyRows at) text old = refl
text_shown (TooMany at) text old = refl

pub text_told : (r : Refusal) (text : ℕ) (old new : List ℕ) (n x : ℕ) → n ≡ number_of r → x ≡ first_of (shown_of r) → (b : Bool) → b ≡ of_text r →
    new ≡ filled report_size (cond b (n ∷ x ∷ text ∷ 0 ∷ 0 ∷ 0 ∷ []) (n ∷ x ∷ [])) old → (n ≡ number_of r) × (new ≡ filled report_size (number_of r ∷ shown_in_text text r) old)
text_told r text old new n x p q b c e = (
  p,
  e ∙ ap₂ (λ (i j : ℕ). filled report_size (cond b (i ∷ j ∷ text ∷ 0 ∷ 0 ∷ 0 ∷ []) (i ∷ j ∷ [])) old) p q
      ∙ ap (λ (z : Bool). filled report_size (cond z (number_of r ∷ first_of (shown_of r) ∷ text ∷ 0 ∷ 0 ∷ 0 ∷ []) (number_of r ∷ first_of (shown_of r) ∷ [])) old) c ∙ text_shown r text old,
)
