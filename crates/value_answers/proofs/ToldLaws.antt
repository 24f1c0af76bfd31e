-- From what is told, in a value of the fixed size, to what a call must do.
use mathlib.Core.Path.{◌≡◌, refl, sym, ap, ◌∙◌, subst}
use mathlib.Core.List.{List, [], ◌++◌, append-nil}
use Prim.Native.Nat.{ℕ, ◌-◌, ◌≤◌}
use native.Mathlib.Omega.{arith}
use lib.ListN.{length, drop, replicate, drop_of_length-le}
use Rattle.std.specs.Prelude.{Result, Ok, Err}
use Rattle.paper.specs.Numbers.{report_size, most_text}
use Rattle.paper.specs.Refusals.{number_of}
use Rattle.paper.specs.Calls.{filled, tells}
use Rattle.paper.specs.declared.Refusal.{Refusal}
use Rattle.paper_table.specs.TableNumbers.{most_table}
use Rattle.paper_values.specs.ValueNumbers.{most_coerced}
use Rattle.paper_values.specs.ValueCalls.{Ending, ends, yields, ValueLent, ValueShort, Coerced, short_value, long_document, long_variables, long_table, refused, answered}
use Rattle.value_endings.specs.Endings.{Asks, Sized, Leaves}
use Rattle.value_endings.specs.Endings.{short_value as asks-value, long_document as asks-document, long_variables as asks-variables, long_table as asks-table}
use Rattle.value_answers.specs.Answers.{Ends}

pub sizes_kept : {value document variables table : ℕ} {s : Result (Unit {0}) Refusal} {u : Unit {0}} → Sized value document variables table s → s ≡ Ok u → (most_coerced ≤ value) × (document ≤ most_text) × (variables ≤ most_text) × (table ≤ most_table)
sizes_kept {value} {document} {variables} {table} a q = subst (Sized value document variables table) q a

module _ (End : Ending → Type 0) (table document variables value report report' : List ℕ) where
  -- a value or an input that does not keep to its size
  pub sizes_unmet : (s : Result (Unit {0}) Refusal) (z : Refusal) (n : ℕ) → report_size ≤ length report → Sized (length value) (length document) (length variables) (length table) s → s ≡ Err z →
      n ≡ number_of z → report' ≡ tells z report → Coerced End table document variables value report value report' n
  sizes_unmet s z n h a q p e = subst (Coerced End table document variables value report value report') (sym p) (go z (subst (Sized (length value) (length document) (length variables) (length table)) q a) e)
    where
      go : (y : Refusal) → Asks (length value) (length document) (length variables) (length table) y → report' ≡ tells y report → Coerced End table document variables value report value report' (number_of y)
      go _ (asks-value w) f = short_value h w refl f
      go _ (asks-document w l) f = long_document (h, w) l refl f
      go _ (asks-variables w l m) f = long_variables (h, w) l m refl f
      go _ (asks-table w l m k) f = long_table (h, w) l m k refl f

  -- what is done to the fixed size of a longer value is done to this, and nothing beyond
  module _ (value₁ value' : List ℕ) (lent : ValueLent value report) (short : ValueShort table document variables) (e : value' ≡ value₁ ++ drop most_coerced value) where
    beyond : (bs before : List ℕ) → length before ≡ most_coerced → value₁ ≡ filled most_coerced bs before → value' ≡ filled most_coerced bs value
    beyond bs before l q =
        let filling : List ℕ = bs ++ replicate (most_coerced - length bs) 0 in
        let none : drop most_coerced before ≡ [] = drop_of_length-le before {i = most_coerced} (omega arith) in
        e ∙ ap (λ (z : List ℕ). z ++ drop most_coerced value) (q ∙ ap (λ (z : List ℕ). filling ++ z) none ∙ append-nil filling)

    pub told_beyond : {n : ℕ} → Ends End report value₁ report' n → Coerced End table document variables value report value' report' n
    told_beyond {n} w = go w.ending w.ends_so w.leaves
      where
        go : (x : Ending) → End x → Leaves x w.before report value₁ report' n → Coerced End table document variables value report value' report' n
        go (ends k shown) h f = subst (Coerced End table document variables value report value' report') (sym f.0) (refused lent short h (beyond [] w.before w.size f.1) f.2)
        go (yields bs) h f = subst (Coerced End table document variables value report value' report') (sym f.0) (answered lent short h (beyond bs w.before w.size f.1) f.2)
