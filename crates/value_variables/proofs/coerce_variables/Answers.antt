-- `value_variables::coerce_variables` meets its contract: a repeated name, or the variables in order.
use Rattle.value_variables.proofs.LoopLaws.{all_repeated, all_in_order}
use Rattle.value_variables.proofs.coerce_variables.Goals as goal

pub returns-then-again-n1 : goal.returns-then-again-n1
returns-then-again-n1 c = all_repeated c.args.t.now c.args.book.now c.args.s.now c.args.rows.now c.args.n c.args.s1.now c.args.rows1.now c.args.n1 c.args.limit c.args.from c.args.op c.args.out.now _ _ _ c.first_repeated-again.ensures c.if-again-n1.true

pub returns : goal.returns
returns c = all_in_order c.args.t.now c.args.book.now c.args.s.now c.args.rows.now c.args.n c.args.s1.now c.args.rows1.now c.args.n1 c.args.limit c.args.from c.args.op c.args.out.now _ _ _ c.first_repeated-again.ensures _ c.if-again-n1.false c.in_order.ensures
