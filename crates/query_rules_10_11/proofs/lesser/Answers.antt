-- By whether the operation reaches the variable, and what it says.
use mathlib.Core.Path.{sym, subst, ◌∙◌}
use native.Mathlib.Omega.{arith}
use Rattle.paper_table.specs.Types.{table_of}
use Rattle.paper_query.specs.Reaching.{Reaches}
use Rattle.query_rows.specs.Rowed.{doc_of, Decides}
use Rattle.query_rows.proofs.RowsIn.{rows_count}
use Rattle.query_spreads.proofs.OwnerLaws.{operation_defines, definition_within}
use Rattle.query_alike.proofs.LeastLaws.{least_kept, least_apart, least_silent, least_said}
use Rattle.query_rules_10_11.proofs.lesser.Goals as goal

pub returns-then-f-eq-UNDEFINED : goal.returns-then-f-eq-UNDEFINED
returns-then-f-eq-UNDEFINED c = least_kept (table_of c.args.t.now) (doc_of c.args.s.now c.args.rows.now c.args.n) c.args.i c.args.o c.args.f c.requires.4 c.if-f-eq-UNDEFINED.true

pub reaches-requires : goal.reaches-requires
reaches-requires c = (c.requires.0.owned, c.requires.1, operation_defines (doc_of c.args.s.now c.args.rows.now c.args.n) c.args.o c.requires.2, c.requires.0.rowed.few, c.requires.3)

pub returns-then-not-reaches : goal.returns-then-not-reaches
returns-then-not-reaches c = let d = doc_of c.args.s.now c.args.rows.now c.args.n in
    least_apart (table_of c.args.t.now) d c.args.i c.args.o c.args.f c.requires.4 (subst (λ b. Decides b (Reaches d c.args.o c.args.i)) c.if-not-reaches.true c.reaches.ensures)

pub verdict-v-requires : goal.verdict-v-requires
verdict-v-requires c = let d = doc_of c.args.s.now c.args.rows.now c.args.n in
    (c.requires.0.rowed, c.requires.0.family, c.requires.0.placed, omega (arith, rows_count c.args.rows.now c.args.n, definition_within d c.args.o (operation_defines d c.args.o c.requires.2)))

pub returns-then-v-eq-NO_RULE : goal.returns-then-v-eq-NO_RULE
returns-then-v-eq-NO_RULE c = least_silent (table_of c.args.t.now) (doc_of c.args.s.now c.args.rows.now c.args.n) c.args.i c.args.o c.args.f c.requires.4 (sym c.if-v-eq-NO_RULE.true ∙ c.verdict-v.ensures)

pub returns : goal.returns
returns c = let d = doc_of c.args.s.now c.args.rows.now c.args.n in
    least_said (table_of c.args.t.now) d c.args.i c.args.o c.args.f c.requires.4 c.verdict-v.result c.if-f-eq-UNDEFINED.false c.requires.2 (subst (λ b. Decides b (Reaches d c.args.o c.args.i)) c.if-not-reaches.false c.reaches.ensures) c.verdict-v.ensures c.if-v-eq-NO_RULE.false
