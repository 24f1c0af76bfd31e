-- Along the chain of the name's bucket: the first from here on is the first of all.
use mathlib.Core.Path.{sym, ◌∙◌}
use Prim.Native.Nat.{◌<◌}
use native.Mathlib.Omega.{arith}
use Rattle.table_book.specs.Book.{part, count_in}
use Rattle.table_book.proofs.Search.{search_start, search_less, search_more, search_here, search_end}
use Rattle.table_book.proofs.find_key.Goals as goal

pub head_of-k-requires : goal.head_of-k-requires
head_of-k-requires c = (c.requires.0.held.cells, c.hash-h.ensures.1)

pub loop-k-init : goal.loop-k-init
loop-k-init c = let a = c.args in
    search_start a.t.now a.book.now c.requires.0 a.low a.high _ c.hash-h.result c.hash-h.ensures.0 c.hash-h.ensures.1 c.head_of-k.ensures

pub is_keyed-requires : goal.is_keyed-requires
is_keyed-requires c = (c.requires.0.held, omega (arith, c.loop-k-test.true, c.count_of-count.ensures), c.requires.1)

pub returns-then-is_keyed : goal.returns-then-is_keyed
returns-then-is_keyed c = let a = c.args in
    search_here a.t.now a.book.now c.requires.0 a.low a.high _ c.hash-h.result c.hash-h.ensures.0 c.hash-h.ensures.1 c.loop-k.invariant (omega (arith, c.loop-k-test.true, c.count_of-count.ensures)) (sym c.is_keyed.ensures ∙ c.if-is_keyed.true)

pub next_of-k-requires : goal.next_of-k-requires
next_of-k-requires c = (c.requires.0.held.cells, omega (arith, c.loop-k-test.true, c.count_of-count.ensures, c.requires.0.held.most))

pub loop-k-smaller : goal.loop-k-smaller
loop-k-smaller c = let a = c.args in
    let l : c.loop-k.k < count_in a.book.now = omega (arith, c.loop-k-test.true, c.count_of-count.ensures) in
    omega (arith, l, search_less a.t.now a.book.now c.requires.0 a.low a.high (part a.s.now a.at a.n) c.hash-h.result c.hash-h.ensures.0 c.hash-h.ensures.1 l c.next_of-k.ensures)

pub loop-k-preserved : goal.loop-k-preserved
loop-k-preserved c = let a = c.args in
    search_more a.t.now a.book.now c.requires.0 a.low a.high _ c.hash-h.result c.hash-h.ensures.0 c.hash-h.ensures.1 c.loop-k.invariant (omega (arith, c.loop-k-test.true, c.count_of-count.ensures)) (sym c.is_keyed.ensures ∙ c.if-is_keyed.false) c.next_of-k.ensures

pub returns : goal.returns
returns c = let a = c.args in
    search_end a.t.now a.book.now c.requires.0 a.low a.high _ c.hash-h.result c.hash-h.ensures.0 c.hash-h.ensures.1 c.loop-k.invariant (omega (arith, c.loop-k-test.false, c.count_of-count.ensures))
