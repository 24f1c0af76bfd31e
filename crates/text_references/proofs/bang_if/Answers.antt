-- `text_references::bang_if` meets its contract: each way out is a law of `BangLaws`.
use Rattle.text_cursor.proofs.Exits.{handed_on}
use Rattle.text_references.proofs.MovedLaws.{end_within}
use Rattle.text_references.proofs.BangLaws.{bang_none, bang_many, bang_bad, bang_done}
use Rattle.text_references.proofs.bang_if.Goals as goal

-- `text_references::bang_if` meets its contract: each way out is a law of `BangLaws`.
pub returns-then-c-ne-TOKEN_BANG : goal.returns-then-c-ne-TOKEN_BANG
returns-then-c-ne-TOKEN_BANG c = bang_none _ _ c.requires c.if-c-ne-TOKEN_BANG.true

pub returns-then-marks-ge-MOST_WRAPPERS : goal.returns-then-marks-ge-MOST_WRAPPERS
returns-then-marks-ge-MOST_WRAPPERS c = bang_many _ _ c.requires c.if-c-ne-TOKEN_BANG.false c.if-marks-ge-MOST_WRAPPERS.true

pub past-requires : goal.past-requires
past-requires c = (c.requires.seen.short, (end_within _ c.args.w.at c.requires.seen.within c.requires.seen.looks).1)

pub returns : goal.returns
returns c = bang_done _ _ c.requires c.if-c-ne-TOKEN_BANG.false c.if-marks-ge-MOST_WRAPPERS.false _ c.past.ensures _ c.in_ok-next.was

pub returns-in_err-next : goal.returns-in_err-next
returns-in_err-next c = rw (handed_on _ _ c.from_residual.ensures) (bang_bad _ _ c.requires c.if-c-ne-TOKEN_BANG.false c.if-marks-ge-MOST_WRAPPERS.false _ c.past.ensures _ c.in_err-next.was)
