-- From what the readers answer to what `gw_parse` must do.
use mathlib.Core.Path.{◌≡◌, refl, sym, ap, ◌∙◌, subst}
use mathlib.Core.List.{List, [], ◌∷◌, ◌++◌}
use Prim.Native.Nat.{ℕ, ◌*◌, ◌≤◌}
use native.Mathlib.Omega.{arith}
use lib.ListN.{length, take, drop}
use lib.Seq.{length-take-le}
use Rattle.std.specs.Prelude.{Result, Ok, Err}
use Rattle.paper.specs.Numbers.{most_text, row_size, rows_size, report_size, accepted}
use Rattle.paper.specs.Language.{Document}
use Rattle.paper.specs.Refusals.{number_of}
use Rattle.paper.specs.Calls.{filled, tells, Parsed, short_rows, over_length}
use Rattle.paper.specs.declared.Refusal.{Refusal}
use Rattle.paper_theory.proofs.CallsGoing.{parsed_whole, parsed_halt}
use Rattle.call_buffers.specs.Buffers.{Asks, long_document, long_table, Sized}
use Rattle.call_buffers.specs.Buffers.{short_rows as asks-rows}
use Rattle.text_cursor.specs.declared.Cursor.{Cursor}
use Rattle.call_endings.specs.Endings.{Told}
use Rattle.text_answer.specs.Parsing.{Filled}
use Rattle.text_answer.proofs.FilledLaws.{whole_room, whole_size, rows_filled}

-- `gw_parse`, where the rows or the text do not keep to their sizes
pub parsed_unmet : (document rows report report' : List ℕ) (s : Result (Unit {0}) Refusal) (z : Refusal) (n : ℕ) → report_size ≤ length report → Sized (length rows) (length document) 0 s → s ≡ Err z →
    n ≡ number_of z → report' ≡ tells z report → Parsed document rows report rows report' n
parsed_unmet document rows report report' s z n h a q p e =
    subst (λ (y : ℕ). Parsed document rows report rows report' y) (sym p) (go z (subst (Sized (length rows) (length document) 0) q a) e)
  where
    go : (y : Refusal) → Asks (length rows) (length document) 0 y → report' ≡ tells y report → Parsed document rows report rows report' (number_of y)
    go _ (asks-rows w) f = short_rows h w refl f
    go _ (long_document w l) f = over_length h w l refl f
    go _ (long_table w l m) f = absurd (omega arith)

-- `gw_parse`, where the buffers and the text keep to their sizes
module _ (document rows report rows₁ rows' report' : List ℕ) (h : report_size ≤ length report) (w : rows_size ≤ length rows) (l : length document ≤ most_text)
    (e : rows' ≡ rows₁ ++ drop rows_size rows) where
  size : length (take rows_size rows) ≡ rows_size
  size = length-take-le {A = ℕ} rows_size rows w

  whole_done : (d : Cursor) → Filled Document document (take rows_size rows) rows₁ (Ok d) → report' ≡ filled report_size (accepted ∷ d.rows ∷ []) report → Parsed document rows report rows' report' accepted
  whole_done d g p =
      let m = g.0 in
      parsed_whole document rows report rows' report' (take rows_size rows) m h w l size g.1
      (e ∙ ap (λ (x : List ℕ). x ++ drop rows_size rows) g.2 ∙ rows_filled m.cells rows (row_size * m.rows) (whole_size document (take rows_size rows) m size g.1) (whole_room document (take rows_size rows) m size g.1))
      (p ∙ ap (λ (n : ℕ). filled report_size (accepted ∷ n ∷ []) report) (sym g.3))

  pub parsed_told : (r : Result Cursor Refusal) (n : ℕ) → Filled Document document (take rows_size rows) rows₁ r → Told r report report' n → Parsed document rows report rows' report' n
  unfolding Told
  parsed_told (Ok d) n g t = subst (λ (y : ℕ). Parsed document rows report rows' report' y) (sym t.0) (whole_done d g t.1)
  parsed_told (Err z) n g t =
      subst (λ (y : ℕ). Parsed document rows report rows' report' y) (sym t.0)
      (parsed_halt document rows report rows' report' (take rows_size rows) z h w l g.0 (e ∙ ap (λ (y : List ℕ). y ++ drop rows_size rows) g.1) t.1)
