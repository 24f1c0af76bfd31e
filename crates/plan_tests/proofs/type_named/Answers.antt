use mathlib.Core.Path.{ap, ◌∙◌}
use Rattle.paper_table.specs.Types.{table_of}
use Rattle.paper_query.specs.Constructs.{name_of}
use Rattle.paper_query.specs.Enclosing.{composite_of}
use Rattle.query_rows.specs.Rowed.{doc_of}
use Rattle.query_rows.proofs.RowsIn.{name_within}
use Rattle.plan_tests.proofs.TableLaws.{type_none, type_some, named}
use Rattle.plan_tests.proofs.type_named.Goals as goal

pub composite-c-requires : goal.composite-c-requires
composite-c-requires c = (c.requires.0, rw (c.name_of-at.ensures, c.size_of-l.ensures) (name_within c.args.s.now c.args.rows.now c.args.n c.requires.1 c.args.j))

pub returns-then-c-eq-NO_TYPE : goal.returns-then-c-eq-NO_TYPE
returns-then-c-eq-NO_TYPE c = type_none (table_of c.args.t.now) (name_of (doc_of c.args.s.now c.args.rows.now c.args.n) c.args.j) _ _ (c.composite-c.ensures ∙ ap (composite_of (table_of c.args.t.now)) (named c.args.s.now c.args.rows.now c.args.n c.args.j _ _ c.name_of-at.ensures c.size_of-l.ensures)) c.if-c-eq-NO_TYPE.true (c.count_of.ensures ∙ c.requires.0.count)

pub returns : goal.returns
returns c = type_some (table_of c.args.t.now) (name_of (doc_of c.args.s.now c.args.rows.now c.args.n) c.args.j) _ (c.composite-c.ensures ∙ ap (composite_of (table_of c.args.t.now)) (named c.args.s.now c.args.rows.now c.args.n c.args.j _ _ c.name_of-at.ensures c.size_of-l.ensures)) c.if-c-eq-NO_TYPE.false
