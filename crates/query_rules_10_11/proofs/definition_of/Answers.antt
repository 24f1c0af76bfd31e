-- Along the rows right below the operation, to the first definition of the name.
use mathlib.Core.Path.{◌≡◌, sym, ◌∙◌}
use native.Mathlib.Omega.{arith}
use Rattle.paper_query.specs.Constructs.{no_row, below, name_of}
use Rattle.paper_query.specs.Rule10Undefined.{defines_it}
use Rattle.query_rows.specs.Rowed.{row_in, rows_in, doc_of}
use Rattle.query_links.proofs.Walks.{walk_first, end_first}
use Rattle.query_links.proofs.ChainWalks.{family_start, family_next, family_less, family_room}
use Rattle.query_rules_10_11.proofs.VerdictLaws.{defines_below, defines_known}
use Rattle.query_rules_10_11.proofs.definition_of.Goals as goal

pub link_of-j-requires : goal.link_of-j-requires
link_of-j-requires c = omega (arith, c.requires.1.firsts, c.requires.2, c.requires.0.few)

pub loop-j-init : goal.loop-j-init
loop-j-init c = let d = doc_of c.args.s.now c.args.rows.now c.args.n in
    family_start c.args.rows.now c.args.n c.args.first.now c.args.next.now c.requires.1 c.args.o (defines_it d c.args.o (name_of d c.args.i)) (omega (arith, c.requires.2, c.requires.0.few)) (λ r e. defines_below d c.args.o (name_of d c.args.i) r e) c.link_of-j.ensures

pub link_of-after-requires : goal.link_of-after-requires
link_of-after-requires c = family_room c.args.rows.now c.args.n c.args.first.now c.args.next.now c.requires.1 c.loop-j.j c.loop-j-test.true c.requires.0.few

pub defines_it-requires : goal.defines_it-requires
defines_it-requires c = c.requires.0

pub returns-then-defines_it : goal.returns-then-defines_it
returns-then-defines_it c =
    let here : c.defines_it.result ≡ defines_it (doc_of c.args.s.now c.args.rows.now c.args.n) c.args.o (name_of (doc_of c.args.s.now c.args.rows.now c.args.n) c.args.i) (row_in c.args.rows.now c.args.n c.loop-j.j) = let l = c.loop-j in
    let d = doc_of c.args.s.now c.args.rows.now c.args.n in
    c.defines_it.ensures ∙ sym (defines_known d c.args.o (name_of d c.args.i) (row_in c.args.rows.now c.args.n l.j) (l.invariant.on c.loop-j-test.true)) in
    let l = c.loop-j in
    let d = doc_of c.args.s.now c.args.rows.now c.args.n in
    walk_first no_row (below c.args.o) (defines_it d c.args.o (name_of d c.args.i)) (rows_in c.args.rows.now c.args.n) c.args.n l.j l.invariant c.loop-j-test.true (sym here ∙ c.if-defines_it.true)

pub loop-j-smaller : goal.loop-j-smaller
loop-j-smaller c = let m = family_less c.args.rows.now c.args.n c.args.first.now c.args.next.now c.requires.1 c.loop-j.j c.loop-j-test.true c.link_of-after.ensures in
    omega (arith, c.loop-j-test.true)

pub loop-j-preserved : goal.loop-j-preserved
loop-j-preserved c =
    let here : c.defines_it.result ≡ defines_it (doc_of c.args.s.now c.args.rows.now c.args.n) c.args.o (name_of (doc_of c.args.s.now c.args.rows.now c.args.n) c.args.i) (row_in c.args.rows.now c.args.n c.loop-j.j) = let l = c.loop-j in
    let d = doc_of c.args.s.now c.args.rows.now c.args.n in
    c.defines_it.ensures ∙ sym (defines_known d c.args.o (name_of d c.args.i) (row_in c.args.rows.now c.args.n l.j) (l.invariant.on c.loop-j-test.true)) in
    let l = c.loop-j in
    let d = doc_of c.args.s.now c.args.rows.now c.args.n in
    family_next c.args.rows.now c.args.n c.args.first.now c.args.next.now c.requires.1 c.args.o (defines_it d c.args.o (name_of d c.args.i)) 0 l.j l.invariant c.loop-j-test.true (sym here ∙ c.if-defines_it.false) c.link_of-after.ensures

pub returns : goal.returns
returns c = let l = c.loop-j in
    let d = doc_of c.args.s.now c.args.rows.now c.args.n in
    end_first no_row (below c.args.o) (defines_it d c.args.o (name_of d c.args.i)) (rows_in c.args.rows.now c.args.n) c.args.n l.j l.invariant c.loop-j-test.false
