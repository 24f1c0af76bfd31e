use Rattle.plan_writing.proofs.BlockWrites.{block_first, block_later}
use Rattle.plan_writing.proofs.block_row.Goals as goal

pub returns-then-b-eq0 : goal.returns-then-b-eq0
returns-then-b-eq0 c = block_first c.args.o c.args.out.now c.args.b c.if-b-eq0.true

pub returns : goal.returns
returns c = block_later c.args.o c.args.out.now c.args.b c.if-b-eq0.false
