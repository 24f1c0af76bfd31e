-- The kind first, then the name.
use mathlib.Core.Path.{◌∙◌}
use Prim.Native.Nat.{◌+◌}
use native.Mathlib.Omega.{arith}
use lib.ListN.{get_or}
use Rattle.paper.specs.Tokens.{same}
use Rattle.table_book.specs.Book.{part, cell_name, cell_size}
use Rattle.table_book.proofs.KeyLaws.{kind_below, kind_above, kind_between}
use Rattle.table_book.proofs.is_keyed.Goals as goal

pub returns-then-kind-low : goal.returns-then-kind-low
returns-then-kind-low c = kind_below _ _ _ _ c.if-kind-low.true c.kind_of-kind.ensures

pub returns-then-high-kind : goal.returns-then-high-kind
returns-then-high-kind c = kind_above _ _ _ _ c.if-high-kind.true c.kind_of-kind.ensures

pub is_text-requires : goal.is_text-requires
is_text-requires c = let p = c.requires in
    (omega (arith, c.name_of.ensures, c.size_of.ensures, p.0.within c.args.j p.1), p.2)

pub returns : goal.returns
returns c = let a = c.args in
    let q = c.name_of.ensures in
    let z = c.size_of.ensures in
    c.is_text.ensures ∙ rw (q, z) (kind_between a.low a.high (get_or a.book.now a.j 0) (same (part a.t.now (get_or a.book.now (cell_name + a.j) 0) (get_or a.book.now (cell_size + a.j) 0)) (part a.s.now a.at a.n)) c.if-kind-low.false c.if-high-kind.false c.kind_of-kind.ensures)
