use mathlib.Core.Path.{◌≡◌, refl, sym, ap, ◌∙◌}
use Prim.Native.Nat.{ℕ}
use Rattle.std.specs.Prelude.{Option, Some, None, Result, Err}
use Rattle.std.specs.Option.{ok_or}
use Rattle.std.specs.Result.{result_ok}
use Rattle.std.proofs.lemmas.Result.{err_from_is_err_and}
use Rattle.query_opening.specs.declared.NotOpened.{NotOpened}
use Rattle.query_opening.specs.declared.NotOpened.TheVariants.{NoOperation}
use Rattle.query_opening.proofs.OpeningLaws.{is_broken, is_nothing, is_open}
use Rattle.query_opening.proofs.open_read.Goals as goal

none_meant : (o : Option ℕ) (r : Result ℕ NotOpened) (d : NotOpened) → r ≡ ok_or o NoOperation → r ≡ Err d → (o ≡ None) × (d ≡ NoOperation)
none_meant None r d v e = (refl, cc)
none_meant (Some i) r d v e = absurd cc

pub first_break-q-requires : goal.first_break-q-requires
first_break-q-requires c = let p = c.requires in
    (p.0.1, p.1, p.2, p.3.rowed)

pub returns-in-Breaks : goal.returns-in-Breaks
returns-in-Breaks c = let p = c.requires in
    is_broken _ _ _ _ _ _ p.1 p.2 p.3 _ _ _ c.first_break-q.ensures c.in-Breaks.is

pub operation_meant-requires : goal.operation_meant-requires
operation_meant-requires c = c.requires.3.rowed

pub returns-in_err-row : goal.returns-in_err-row
returns-in_err-row c = let g = c.requires in
    let p = err_from_is_err_and c.from_residual.result c.from_residual.ensures.1 in
    let w = none_meant _ _ _ c.ok_or.ensures.value c.in_err-row.was in
    rw (p.1, p.2, w.1) (is_nothing _ _ _ _ _ _ g.1 g.2 g.3 _ c.first_break-q.ensures c.in_default.is (sym w.0 ∙ c.operation_meant.ensures))

pub returns : goal.returns
returns c = let p = c.requires in
    is_open _ _ _ _ _ _ p.1 p.2 p.3 _ c.first_break-q.ensures c.in_default.is _ (sym (c.ok_or.ensures.ok_part ∙ ap result_ok c.in_ok-row.was) ∙ c.operation_meant.ensures)
