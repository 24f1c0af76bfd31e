use mathlib.Core.Path.{ap, ◌∙◌}
use Rattle.query_opening.specs.Opens.{told}
use Rattle.query_opening.proofs.OpeningLaws.{by_none, by_name, by_no_name}
use Rattle.query_opening.proofs.operation_meant.Goals as goal

pub returns-then-name-eq0 : goal.returns-then-name-eq0
returns-then-name-eq0 c = let a = c.args in
    c.only_operation.ensures ∙ ap told (by_none a.s.now a.rows.now a.n a.name.now c.if-name-eq0.true)

pub returns-then-i-n : goal.returns-then-i-n
returns-then-i-n c = let a = c.args in
    by_name a.s.now a.rows.now a.n a.name.now c.if-name-eq0.false _ c.first_named-i.ensures c.if-i-n.true

pub returns : goal.returns
returns c = let a = c.args in
    by_no_name a.s.now a.rows.now a.n a.name.now c.if-name-eq0.false _ c.first_named-i.ensures c.if-i-n.false
