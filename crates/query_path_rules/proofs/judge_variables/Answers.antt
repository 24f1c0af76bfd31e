-- Variable by variable, along the rows of that kind; those that are like others are passed over.
use mathlib.Core.Path.{◌≡◌, sym, subst, ◌∙◌}
use mathlib.Core.Bool.{true}
use mathlib.Core.List.{List}
use Prim.Native.Nat.{ℕ, suc, ◌≤◌, ◌<◌}
use native.Mathlib.Omega.{arith}
use borrow.Author.Tests.{eq-eqb}
use Rattle.paper.specs.Numbers.{most_rows, kind_variable}
use Rattle.paper_table.specs.Types.{table_of}
use Rattle.paper_query.specs.Constructs.{count, is}
use Rattle.query_rows.specs.Rowed.{row_in, doc_of}
use Rattle.query_rows.proofs.RowsIn.{rows_count}
use Rattle.query_rows.proofs.Rooms.{room_at}
use Rattle.query_links.proofs.ChainWalks.{kinds_first, kinds_after, kinds_less, kinds_room}
use Rattle.query_alike.proofs.FlagsLaws.{kind_next}
use Rattle.query_alike.proofs.LikenLaws.{JudgeLoop, judge_start, judge_left, judge_skip, judge_more, judge_end}
use Rattle.query_path_rules.proofs.judge_variables.Goals.{then-f-lt-LIKE_FIRST, else-f-lt-LIKE_FIRST}
use Rattle.query_path_rules.proofs.judge_variables.Goals as goal

pub link_of-i-requires : goal.link_of-i-requires
link_of-i-requires c = omega (arith, c.requires.1.firsts)

pub loop-i-init : goal.loop-i-init
loop-i-init c = let d = doc_of c.args.s.now c.args.rows.now c.args.n in
    judge_start (table_of c.args.t.now) d c.args.n c.args.o c.args.flag.now c.link_of-i.result (kind_next d kind_variable 0 (omega arith) (kinds_first c.args.rows.now c.args.n c.args.firstk.now c.args.nextk.now c.requires.1 kind_variable (omega arith) c.link_of-i.ensures)) c.requires.4

pub offset_bounds-flag-i : goal.offset_bounds-flag-i
offset_bounds-flag-i c = omega (arith, c.loop-i-test.true, c.requires.0.rowed.few)

pub bounds-flag-i : goal.bounds-flag-i
bounds-flag-i c = room_at _ _ _ c.loop-i.invariant.flags.size c.requires.0.rowed.few c.loop-i-test.true

pub lesser-requires : goal.lesser-requires
lesser-requires c =
    let below : c.loop-i.i < count (doc_of c.args.s.now c.args.rows.now c.args.n) = omega (arith, rows_count c.args.rows.now c.args.n, c.loop-i-test.true) in
    let l = c.loop-i in
    (c.requires.0, c.requires.2, c.requires.3, c.loop-i-test.true, (judge_left (table_of c.args.t.now) (doc_of c.args.s.now c.args.rows.now c.args.n) c.args.n c.args.o l.flag l.i l.invariant below).own c.if-f-lt-LIKE_FIRST.true)

pub offset_bounds-flag-i-then-f-lt-LIKE_FIRST : goal.offset_bounds-flag-i-then-f-lt-LIKE_FIRST
offset_bounds-flag-i-then-f-lt-LIKE_FIRST c = omega (arith, c.loop-i-test.true, c.requires.0.rowed.few)

pub bounds-flag-i-then-f-lt-LIKE_FIRST : goal.bounds-flag-i-then-f-lt-LIKE_FIRST
bounds-flag-i-then-f-lt-LIKE_FIRST c = room_at _ _ _ c.loop-i.invariant.flags.size c.requires.0.rowed.few c.loop-i-test.true

pub link_of-i-requires-in-loop-i : goal.link_of-i-requires-in-loop-i
link_of-i-requires-in-loop-i c = kinds_room c.args.rows.now c.args.n c.args.firstk.now c.args.nextk.now c.requires.1 c.loop-i.i c.loop-i-test.true c.requires.0.rowed.few

pub loop-i-smaller : goal.loop-i-smaller
loop-i-smaller c =
    let below : c.loop-i.i < count (doc_of c.args.s.now c.args.rows.now c.args.n) = omega (arith, rows_count c.args.rows.now c.args.n, c.loop-i-test.true) in
    let variable : is kind_variable (row_in c.args.rows.now c.args.n c.loop-i.i) ≡ true = let l = c.loop-i in
    eq-eqb (row_in c.args.rows.now c.args.n l.i).kind kind_variable (l.invariant.at below) in
    omega (arith, c.loop-i-test.true, kinds_less c.args.rows.now c.args.n c.args.firstk.now c.args.nextk.now c.requires.1 kind_variable c.loop-i.i (omega arith) c.loop-i-test.true variable c.link_of-i-in-loop-i.ensures)

pub loop-i-preserved : goal.loop-i-preserved
loop-i-preserved c =
    let below : c.loop-i.i < count (doc_of c.args.s.now c.args.rows.now c.args.n) = omega (arith, rows_count c.args.rows.now c.args.n, c.loop-i-test.true) in
    let variable : is kind_variable (row_in c.args.rows.now c.args.n c.loop-i.i) ≡ true = let l = c.loop-i in
    eq-eqb (row_in c.args.rows.now c.args.n l.i).kind kind_variable (l.invariant.at below) in
    let l = c.loop-i in
    let t = table_of c.args.t.now in
    let d = doc_of c.args.s.now c.args.rows.now c.args.n in
    let k = kind_next d kind_variable (suc l.i) below (kinds_after c.args.rows.now c.args.n c.args.firstk.now c.args.nextk.now c.requires.1 kind_variable l.i (omega arith) c.loop-i-test.true variable c.link_of-i-in-loop-i.ensures) in
    let r : count d ≤ most_rows = omega (arith, rows_count c.args.rows.now c.args.n, c.requires.0.rowed.few) in
    elim c.if-f-lt-LIKE_FIRST.branch [
      | then-f-lt-LIKE_FIRST w ↦ subst (λ (f : List ℕ). JudgeLoop t d c.args.n c.args.o f c.link_of-i-in-loop-i.result) (sym w.flag-is) (judge_more t d c.args.n c.args.o l.flag l.i l.invariant w.lesser.result c.link_of-i-in-loop-i.result below r k w.lesser.ensures)
      | else-f-lt-LIKE_FIRST w ↦ subst (λ (f : List ℕ). JudgeLoop t d c.args.n c.args.o f c.link_of-i-in-loop-i.result) (sym w.flag-is) (judge_skip t d c.args.n c.args.o l.flag l.i l.invariant c.link_of-i-in-loop-i.result below k (omega (arith, w.if-f-lt-LIKE_FIRST.false)))
    ]

pub shape_of-flag : goal.shape_of-flag
shape_of-flag c = c.loop-i.invariant.flags.size ∙ sym c.requires.4.size

pub returns : goal.returns
returns c = let l = c.loop-i in
    judge_end (table_of c.args.t.now) (doc_of c.args.s.now c.args.rows.now c.args.n) c.args.n c.args.o l.flag l.i l.invariant (omega (arith, rows_count c.args.rows.now c.args.n, c.loop-i-test.false))
