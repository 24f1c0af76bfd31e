-- From what a check of the fixed sizes leaves to what `gw_check` must do.
use mathlib.Core.Path.{◌≡◌, refl, sym, ap, ◌∙◌, subst}
use mathlib.Core.List.{List, [], ◌++◌}
use Prim.Native.Nat.{ℕ, ◌-◌, ◌≤◌}
use native.Mathlib.Omega.{arith}
use lib.ListN.{length, take, drop, replicate}
use lib.Seq.{length-take-le}
use Rattle.std.specs.Prelude.{Result, Err}
use Rattle.paper.specs.Numbers.{rows_size, report_size}
use Rattle.paper.specs.Rows.{flat}
use Rattle.paper.specs.Refusals.{number_of}
use Rattle.paper.specs.Calls.{filled, tells}
use Rattle.paper.specs.declared.Refusal.{Refusal}
use Rattle.call_buffers.specs.Buffers.{Asks, Sized}
use Rattle.call_buffers.specs.Buffers.{short_rows as asks-rows, long_document as asks-document, long_table as asks-table}
use Rattle.paper_query.specs.DocumentCalls.{Lent, Short, CheckedDocument, short_report, short_rows, long_document, long_table, refuses_table, refuses_text, breaks_rule, accepts}
use Rattle.query_answer.proofs.DocumentLaws.{none_beyond}

-- Rows or an input that do not keep to their sizes.
pub sizes_unmet : (table document rows report report' : List ℕ) (s : Result (Unit {0}) Refusal) (z : Refusal) (n : ℕ) → report_size ≤ length report → Sized (length rows) (length document) (length table) s → s ≡ Err z →
    n ≡ number_of z → report' ≡ tells z report → CheckedDocument table document rows report rows report' n
sizes_unmet table document rows report report' s z n h a q p e =
    subst (CheckedDocument table document rows report rows report') (sym p) (go z (subst (Sized (length rows) (length document) (length table)) q a) e)
  where
    go : (y : Refusal) → Asks (length rows) (length document) (length table) y → report' ≡ tells y report → CheckedDocument table document rows report rows report' (number_of y)
    go _ (asks-rows w) f = short_rows h w refl f
    go _ (asks-document w l) f = long_document (h, w) l refl f
    go _ (asks-table w l m) f = long_table (h, w) l m refl f

-- What is done to the fixed size of longer rows is done to these, and nothing beyond.
module _ (table document rows report rows₁ rows' report' : List ℕ) (lent : Lent rows report) (short : Short table document) (e : rows' ≡ rows₁ ++ drop rows_size rows) where
  beyond : (xs : List ℕ) → rows₁ ≡ filled rows_size xs (take rows_size rows) → rows' ≡ filled rows_size xs rows
  beyond xs q = e ∙ ap (λ (l : List ℕ). l ++ drop rows_size rows) (q ∙ sym (none_beyond (xs ++ replicate (rows_size - length xs) 0) (take rows_size rows) (length-take-le {A = ℕ} rows_size rows lent.1)))

  pub checked_beyond : {n : ℕ} → CheckedDocument table document (take rows_size rows) report rows₁ report' n → CheckedDocument table document rows report rows' report' n
  checked_beyond (short_report h f g) = absurd (omega (arith, lent.0))
  checked_beyond (short_rows h w f g) = absurd (omega (arith, length-take-le {A = ℕ} rows_size rows lent.1))
  checked_beyond (long_document l w f g) = absurd (omega (arith, short.0))
  checked_beyond (long_table l v w f g) = absurd (omega (arith, short.1))
  checked_beyond (refuses_table l s j n f g) = refuses_table lent short j n (beyond [] f) g
  checked_beyond (refuses_text l s j k d f g) = refuses_text lent short j k d (beyond [] f) g
  checked_beyond (breaks_rule l s j k d q f g) = breaks_rule lent short j k d q (beyond [] f) g
  checked_beyond (accepts {rs} l s j k d q f g) = accepts lent short j k d q (beyond (flat rs) f) g
