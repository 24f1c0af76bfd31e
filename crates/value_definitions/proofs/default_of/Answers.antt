-- The row found, if there is one.
use Rattle.value_definitions.proofs.SeekLaws.{default_row_is, default_none}
use Rattle.value_definitions.proofs.default_of.Goals as goal

pub returns-then-i-n : goal.returns-then-i-n
returns-then-i-n c = let a = c.args in
    default_row_is a.s.now a.rows.now a.n a.v c.first_default-i.result c.first_default-i.ensures c.if-i-n.true

pub returns : goal.returns
returns c = let a = c.args in
    default_none a.s.now a.rows.now a.n a.v c.first_default-i.result c.first_default-i.ensures c.if-i-n.false
