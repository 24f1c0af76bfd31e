-- `text_references::close_brackets` meets its contract: the loop has closed so many brackets.
use native.Mathlib.Omega.{arith}
use Rattle.text_cursor.proofs.Exits.{handed_on}
use Rattle.text_references.proofs.CloseLaws.{none_closed, close_ready, closed_more, closed_stop, closed_all, says_typed, says_untyped}
use Rattle.text_references.proofs.close_brackets.Goals as goal

pub loop-init : goal.loop-init
loop-init c = (none_closed _ _ _ c.requires.0, omega arith)

pub close_bracket-requires : goal.close_bracket-requires
close_bracket-requires c = close_ready _ _ _ _ c.loop.invariant.0 c.requires.0.small (omega arith)

pub loop-preserved : goal.loop-preserved
loop-preserved c = (closed_more _ _ _ _ c.loop.invariant.0 _ (says_typed _ _ _ _ c.close_bracket.result _ c.close_bracket.ensures c.in_ok-v.was), omega arith)

pub returns-in_err-v : goal.returns-in_err-v
returns-in_err-v c = rw (handed_on _ _ c.from_residual.ensures) (closed_stop _ _ _ _ c.loop.invariant.0 _ c.loop-test.true _ (says_untyped _ _ _ _ c.close_bracket.result _ c.close_bracket.ensures c.in_err-v.was))

pub returns : goal.returns
returns c = closed_all _ _ _ _ c.loop.invariant.0 _ (omega arith)
