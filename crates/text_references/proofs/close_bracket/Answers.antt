-- `text_references::close_bracket` meets its contract: each way out is a law of `CloseLaws`.
use Rattle.text_cursor.proofs.Exits.{handed_on}
use Rattle.text_references.proofs.MovedLaws.{end_within}
use Rattle.text_references.proofs.CloseLaws.{close_none, close_bad, close_marked, close_says}
use Rattle.text_references.proofs.close_bracket.Goals as goal

pub returns-then-c-ne-TOKEN_BRACKET_CLOSE : goal.returns-then-c-ne-TOKEN_BRACKET_CLOSE
returns-then-c-ne-TOKEN_BRACKET_CLOSE c = close_none _ _ c.requires c.if-c-ne-TOKEN_BRACKET_CLOSE.true

pub past-requires : goal.past-requires
past-requires c = (c.requires.seen.short, (end_within _ c.args.w.at c.requires.seen.within c.requires.seen.looks).1)

pub bang_if-requires : goal.bang_if-requires
bang_if-requires c = close_marked _ _ c.requires c.if-c-ne-TOKEN_BRACKET_CLOSE.false _ c.past.ensures _ c.in_ok-next.was

pub returns : goal.returns
returns c = close_says _ _ c.requires c.if-c-ne-TOKEN_BRACKET_CLOSE.false _ c.past.ensures _ c.in_ok-next.was c.bang_if.result c.bang_if.ensures

pub returns-in_err-next : goal.returns-in_err-next
returns-in_err-next c = rw (handed_on _ _ c.from_residual.ensures) (close_bad _ _ c.requires c.if-c-ne-TOKEN_BRACKET_CLOSE.false _ c.past.ensures _ c.in_err-next.was)
