-- `text_references::open_brackets` meets its contract: the loop has opened so many brackets; each counts as a mark, and there are seven at most.
use native.Mathlib.Omega.{arith}
use Rattle.text_cursor.proofs.Exits.{handed_on}
use Rattle.text_references.proofs.MovedLaws.{end_within}
use Rattle.text_references.proofs.OpenLaws.{none_open, opened_all, opened_deep, opened_many, opened_bad, opened_more}
use Rattle.text_references.proofs.open_brackets.Goals as goal

pub loop-d-init : goal.loop-d-init
loop-d-init c = none_open _ _ _ c.requires

pub returns-then-d-ne-TOKEN_BRACKET_OPEN : goal.returns-then-d-ne-TOKEN_BRACKET_OPEN
returns-then-d-ne-TOKEN_BRACKET_OPEN c = opened_all _ _ _ _ _ _ c.loop-d.invariant c.if-d-ne-TOKEN_BRACKET_OPEN.true

pub returns-then-left-marks : goal.returns-then-left-marks
returns-then-left-marks c = opened_deep _ _ _ _ _ _ c.loop-d.invariant c.if-d-ne-TOKEN_BRACKET_OPEN.false c.if-left-marks.true

pub returns-then-marks-ge-MOST_WRAPPERS : goal.returns-then-marks-ge-MOST_WRAPPERS
returns-then-marks-ge-MOST_WRAPPERS c = opened_many _ _ _ _ _ _ c.loop-d.invariant c.if-d-ne-TOKEN_BRACKET_OPEN.false c.if-left-marks.false (omega arith)

pub past-requires : goal.past-requires
past-requires c = (c.requires.short, (end_within _ c.loop-d.d c.loop-d.invariant.seen.within c.loop-d.invariant.seen.looks).1)

pub overflow_add-marks : goal.overflow_add-marks
overflow_add-marks c = omega arith

pub loop-d-smaller : goal.loop-d-smaller
loop-d-smaller c = omega arith

pub loop-d-preserved : goal.loop-d-preserved
loop-d-preserved c = opened_more _ _ _ _ _ _ c.loop-d.invariant c.if-d-ne-TOKEN_BRACKET_OPEN.false c.if-left-marks.false (omega arith) _ c.past.ensures _ c.in_ok-d.was

pub returns-in_err-d : goal.returns-in_err-d
returns-in_err-d c = rw (handed_on _ _ c.from_residual.ensures) (opened_bad _ _ _ _ _ _ c.loop-d.invariant c.if-d-ne-TOKEN_BRACKET_OPEN.false c.if-left-marks.false (omega arith) _ c.past.ensures _ c.in_err-d.was)
