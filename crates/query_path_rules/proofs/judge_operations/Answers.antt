-- Operation by operation, along the rows of that kind: the search from it, then every variable.
use mathlib.Core.Path.{◌≡◌, sym, ◌∙◌}
use Prim.Native.Nat.{suc, ◌+◌, ◌<◌}
use native.Mathlib.Numerals.{add-one}
use native.Mathlib.Omega.{arith}
use borrow.Author.Tests.{eq-eqb}
use Rattle.paper.specs.Numbers.{kind_operation}
use Rattle.paper_table.specs.Types.{table_of}
use Rattle.paper_query.specs.Constructs.{count, kind_of}
use Rattle.query_rows.specs.Rowed.{row_in, doc_of}
use Rattle.query_rows.proofs.RowsIn.{rows_count}
use Rattle.query_rows.proofs.Rooms.{room_rows}
use Rattle.query_links.proofs.ChainWalks.{kinds_first, kinds_after, kinds_less, kinds_room}
use Rattle.query_spreads.proofs.OwnerLaws.{operation_defines}
use Rattle.query_alike.proofs.FlagsLaws.{kind_next, operations_next, operations_end}
use Rattle.query_path_rules.proofs.judge_operations.Goals as goal

pub link_of-o-requires : goal.link_of-o-requires
link_of-o-requires c = omega (arith, c.requires.1.firsts)

pub loop-o-init : goal.loop-o-init
loop-o-init c = let d = doc_of c.args.s.now c.args.rows.now c.args.n in
    operations_next (table_of c.args.t.now) d c.args.n c.args.flag.now c.args.mark.now c.args.stack.now 0 c.link_of-o.result (kind_next d kind_operation 0 (omega arith) (kinds_first c.args.rows.now c.args.n c.args.firstk.now c.args.nextk.now c.requires.1 kind_operation (omega arith) c.link_of-o.ensures)) c.requires.5 c.requires.3 (c.requires.4 ∙ sym (room_rows c.args.rows.now c.args.n))

pub reach-requires : goal.reach-requires
reach-requires c =
    let below : c.loop-o.o < count (doc_of c.args.s.now c.args.rows.now c.args.n) = omega (arith, rows_count c.args.rows.now c.args.n, c.loop-o-test.true) in
    let kind : kind_of (doc_of c.args.s.now c.args.rows.now c.args.n) c.loop-o.o ≡ kind_operation = c.loop-o.invariant.at below in
    let l = c.loop-o in
    (c.requires.2, operation_defines (doc_of c.args.s.now c.args.rows.now c.args.n) l.o kind, l.invariant.stamped, l.invariant.stacked ∙ room_rows _ _)

pub judge_variables-requires : goal.judge_variables-requires
judge_variables-requires c =
    let below : c.loop-o.o < count (doc_of c.args.s.now c.args.rows.now c.args.n) = omega (arith, rows_count c.args.rows.now c.args.n, c.loop-o-test.true) in
    let kind : kind_of (doc_of c.args.s.now c.args.rows.now c.args.n) c.loop-o.o ≡ kind_operation = c.loop-o.invariant.at below in
    (c.requires.0, c.requires.1, c.reach.ensures, kind, c.loop-o.invariant.flags)

pub link_of-o-requires-in-loop-o : goal.link_of-o-requires-in-loop-o
link_of-o-requires-in-loop-o c = kinds_room c.args.rows.now c.args.n c.args.firstk.now c.args.nextk.now c.requires.1 c.loop-o.o c.loop-o-test.true c.requires.0.rowed.few

pub loop-o-smaller : goal.loop-o-smaller
loop-o-smaller c =
    let below : c.loop-o.o < count (doc_of c.args.s.now c.args.rows.now c.args.n) = omega (arith, rows_count c.args.rows.now c.args.n, c.loop-o-test.true) in
    let kind : kind_of (doc_of c.args.s.now c.args.rows.now c.args.n) c.loop-o.o ≡ kind_operation = c.loop-o.invariant.at below in
    let l = c.loop-o in
    omega (arith, c.loop-o-test.true, kinds_less c.args.rows.now c.args.n c.args.firstk.now c.args.nextk.now c.requires.1 kind_operation l.o (omega arith) c.loop-o-test.true (eq-eqb (row_in c.args.rows.now c.args.n l.o).kind kind_operation kind) c.link_of-o-in-loop-o.ensures)

pub loop-o-preserved : goal.loop-o-preserved
loop-o-preserved c =
    let below : c.loop-o.o < count (doc_of c.args.s.now c.args.rows.now c.args.n) = omega (arith, rows_count c.args.rows.now c.args.n, c.loop-o-test.true) in
    let kind : kind_of (doc_of c.args.s.now c.args.rows.now c.args.n) c.loop-o.o ≡ kind_operation = c.loop-o.invariant.at below in
    let l = c.loop-o in
    let d = doc_of c.args.s.now c.args.rows.now c.args.n in
    operations_next (table_of c.args.t.now) d c.args.n _ _ _ (l.o + 1) c.link_of-o-in-loop-o.result (rw (add-one l.o) (kind_next d kind_operation (suc l.o) below (kinds_after c.args.rows.now c.args.n c.args.firstk.now c.args.nextk.now c.requires.1 kind_operation l.o (omega arith) c.loop-o-test.true (eq-eqb (row_in c.args.rows.now c.args.n l.o).kind kind_operation kind) c.link_of-o-in-loop-o.ensures))) c.judge_variables.ensures c.reach.ensures.stamped (c.reach.auto.stack ∙ l.invariant.stacked)

pub shape_of-mark : goal.shape_of-mark
shape_of-mark c = c.loop-o.invariant.stamped.size ∙ sym c.requires.3.size

pub shape_of-stack : goal.shape_of-stack
shape_of-stack c = c.loop-o.invariant.stacked ∙ room_rows _ _ ∙ sym c.requires.4

pub shape_of-flag : goal.shape_of-flag
shape_of-flag c = c.loop-o.invariant.flags.size ∙ sym c.requires.5.size

pub returns : goal.returns
returns c = let l = c.loop-o in
    operations_end (table_of c.args.t.now) (doc_of c.args.s.now c.args.rows.now c.args.n) c.args.n _ _ _ l.o c.args.n l.invariant (omega (arith, rows_count c.args.rows.now c.args.n, c.loop-o-test.false)) (sym (rows_count c.args.rows.now c.args.n))
