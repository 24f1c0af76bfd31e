-- From what is told of a table to what `gw_check_table` must do.
use mathlib.Core.Path.{◌≡◌, sym, ap, ◌∙◌, subst}
use mathlib.Core.List.{List}
use Prim.Native.Nat.{ℕ, ◌≤◌}
use native.Mathlib.Omega.{arith}
use lib.ListN.{length}
use Rattle.std.specs.Prelude.{Result, Err}
use Rattle.paper.specs.Numbers.{report_size, rows_size}
use Rattle.paper.specs.Refusals.{number_of}
use Rattle.paper.specs.Calls.{tells}
use Rattle.paper.specs.declared.Refusal.{Refusal}
use Rattle.paper_table.specs.TableNumbers.{most_table}
use Rattle.paper_table.specs.Judging.{judge, table_number}
use Rattle.paper_table.specs.TableCalls.{tells_table, Checked, over_length, judges}
use Rattle.paper_table.specs.declared.TableAnswer.{TableAnswer}
use Rattle.call_buffers.specs.Buffers.{Asks, short_rows, long_document, long_table, Sized}

module _ (table report report' : List ℕ) (n : ℕ) (h : report_size ≤ length report) where
  pub checked_unmet : (s : Result (Unit {0}) Refusal) (z : Refusal) → Sized rows_size 0 (length table) s → s ≡ Err z → n ≡ number_of z → report' ≡ tells z report → Checked table report report' n
  checked_unmet s z a q p e = subst (λ (y : ℕ). Checked table report report' y) (sym p) (go z (subst (Sized rows_size 0 (length table)) q a) e)
    where
      go : (y : Refusal) → Asks rows_size 0 (length table) y → report' ≡ tells y report → Checked table report report' (number_of y)
      go _ (short_rows w) f = absurd (omega arith)
      go _ (long_document w l) f = absurd (omega arith)
      go _ (long_table w l m) f = over_length h m f

  pub checked_judged : (a : TableAnswer) → length table ≤ most_table → a ≡ judge table → n ≡ table_number a → report' ≡ tells_table a report → Checked table report report' n
  checked_judged a l q p e =
      subst (λ (y : ℕ). Checked table report report' y) (sym (p ∙ ap table_number q)) (judges h l (e ∙ ap (λ (y : TableAnswer). tells_table y report) q))
