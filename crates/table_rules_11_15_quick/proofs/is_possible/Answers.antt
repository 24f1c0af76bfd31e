-- A bit that is set is right.
use mathlib.Core.Path.{sym, ◌∙◌}
use mathlib.Core.Bool.{false≢true}
use Prim.Native.Nat.{◌<◌}
use native.Mathlib.Omega.{arith}
use borrow.Author.Tests.{eqb-true}
use Rattle.table_book.specs.Book.{count_in, part}
use Rattle.table_types.proofs.Objects.{number_room}
use Rattle.table_possible.specs.Possible.{bit_at}
use Rattle.table_rules_11_15_quick.proofs.is_possible.Goals as goal

pub returns-then-count_of-j : goal.returns-then-count_of-j
returns-then-count_of-j c = λ z. absurd (false≢true z)

pub returns-then-count_of-i : goal.returns-then-count_of-i
returns-then-count_of-i c = λ z. absurd (false≢true z)

pub is_set-requires : goal.is_set-requires
is_set-requires c =
    let first : c.number_meant-j.result < count_in c.args.book.now = omega (arith, c.if-count_of-j.false, c.count_of.ensures) in
    let second : c.number_meant-i.result < count_in c.args.book.now = omega (arith, c.if-count_of-i.false, c.count_of-2.ensures) in
    let b = c.requires.0 in
    (c.requires.1.size, number_room _ _ b _ second, number_room _ _ b _ first)

pub returns : goal.returns
returns c =
    let first : c.number_meant-j.result < count_in c.args.book.now = omega (arith, c.if-count_of-j.false, c.count_of.ensures) in
    let second : c.number_meant-i.result < count_in c.args.book.now = omega (arith, c.if-count_of-i.false, c.count_of-2.ensures) in
    let a = c.args in
    let i = c.number_meant-i.result in
    let j = c.number_meant-j.result in
    λ z. c.requires.1.right i j second first (eqb-true (bit_at a.bits.now i j) 1 (sym c.is_set.ensures ∙ z)) (part a.t.now a.q.at a.q.size) (part a.t.now a.r.at a.r.size) c.number_meant-i.ensures c.number_meant-j.ensures
