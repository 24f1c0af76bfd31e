-- What clearing leaves in a value of its fixed size; what is told of each way to end.
use mathlib.Core.Path.{◌≡◌, refl, sym, ap, ◌∙◌, subst}
use mathlib.Core.Bool.{Bool, true, false, cond}
use mathlib.Core.List.{List, [], ◌∷◌, ◌++◌, append-nil}
use Prim.Native.Nat.{ℕ, ◌-◌, ◌≤◌, ◌<◌}
use native.Mathlib.Omega.{arith}
use lib.ListN.{length, take, replicate, drop_of_length-le}
use lib.Seq.{length-take-le}
use lib.Dec.{leb}
use borrow.Author.Tests.{le-leb, lt-leb}
use Rattle.paper.specs.Numbers.{report_size, accepted}
use Rattle.paper.specs.Calls.{filled}
use Rattle.call_buffers.specs.Buffers.{cleared}
use Rattle.paper_values.specs.ValueNumbers.{most_coerced}
use Rattle.paper_values.specs.ValueCalls.{ends, yields}
use Rattle.value_endings.specs.Endings.{written_of, end_number, end_shown, ending_of, Leaves}
use Rattle.std.proofs.Common.{Result, Err}
use Rattle.value_endings.specs.declared.NotCoerced.{NotCoerced}

-- a value of its fixed size, cleared from a place on
pub cleared_filled : (v : List ℕ) (at : ℕ) → length v ≡ most_coerced → at ≤ most_coerced → cleared at v ≡ filled most_coerced (take at v) v
cleared_filled v at l h =
    let t : length (take at v) ≡ at = length-take-le at v (omega (arith, l, h)) in
    let e : length v - at ≡ most_coerced - length (take at v) = omega (arith, l, h, t) in
    ap (λ (k : ℕ). take at v ++ replicate k 0) e
    ∙ sym (ap (λ (z : List ℕ). (take at v ++ replicate (most_coerced - length (take at v)) 0) ++ z) (drop_of_length-le v {i = most_coerced} (omega (arith, l))) ∙ append-nil (take at v ++ replicate (most_coerced - length (take at v)) 0))

-- by the variant that it is
pub end_told : (e z : Result ℕ NotCoerced) (old new : List ℕ) (n : ℕ) → e ≡ z → n ≡ end_number z → new ≡ filled report_size (end_number z ∷ end_shown z) old →
    (n ≡ end_number e) × (new ≡ filled report_size (end_number e ∷ end_shown e) old)
end_told e z old new n q a b = subst (λ (y : Result ℕ NotCoerced). (n ≡ end_number y) × (new ≡ filled report_size (end_number y ∷ end_shown y) old)) (sym q) (a, b)

pub end_refused : (e : Result ℕ NotCoerced) (f z : NotCoerced) (old new : List ℕ) (n : ℕ) → e ≡ Err f → f ≡ z → n ≡ end_number (Err z) → new ≡ filled report_size (end_number (Err z) ∷ end_shown (Err z)) old →
    (n ≡ end_number e) × (new ≡ filled report_size (end_number e ∷ end_shown e) old)
end_refused e f z old new n p q = end_told e (Err z) old new n (p ∙ ap Err q)

-- ---- the whole

module _ (e : Result ℕ NotCoerced) (value report value' report' : List ℕ) (l : length value ≡ most_coerced) (at : ℕ) (w : at ≡ written_of e) where
  by_test : (b : Bool) → leb (written_of e) most_coerced ≡ b → (n : ℕ) → Leaves (cond b (yields (take (written_of e) value)) (ends (end_number e) (end_shown e))) value report value' report' n →
      Leaves (ending_of e value) value report value' report' n
  by_test b q n h = subst (λ (z : Bool). Leaves (cond z (yields (take (written_of e) value)) (ends (end_number e) (end_shown e))) value report value' report' n) (sym q) h

  pub leaves_value : at ≤ most_coerced → value' ≡ cleared at value → report' ≡ filled report_size (accepted ∷ at ∷ []) report → Leaves (ending_of e value) value report value' report' accepted
  leaves_value h v r =
      let t : length (take (written_of e) value) ≡ at = length-take-le (written_of e) value (omega (arith, l, h, w)) ∙ sym w in
      by_test true (le-leb (written_of e) most_coerced (omega (arith, w, h))) accepted
      (refl, v ∙ ap (λ (k : ℕ). cleared k value) w ∙ cleared_filled value (written_of e) l (omega (arith, w, h)), r ∙ ap (λ (k : ℕ). filled report_size (accepted ∷ k ∷ []) report) (sym t))

  pub leaves_refusal : (n : ℕ) → most_coerced < at → value' ≡ cleared 0 value → (n ≡ end_number e) × (report' ≡ filled report_size (end_number e ∷ end_shown e) report) → Leaves (ending_of e value) value report value' report' n
  leaves_refusal n h v r = by_test false (lt-leb (written_of e) most_coerced (omega (arith, w, h))) n (r.0, v ∙ cleared_filled value 0 l (omega arith), r.1)
