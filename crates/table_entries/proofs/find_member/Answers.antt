-- The definition's span, searched.
use Rattle.table_book.specs.Book.{part}
use Rattle.table_types.specs.Booked.{definition_on}
use Rattle.table_entries.proofs.Finds.{members_stand, standing_is, hit_wide, hit_none}
use native.Mathlib.Omega.{arith}
use Rattle.table_entries.proofs.find_member.Goals as goal

pub first_of-end-requires : goal.first_of-end-requires
first_of-end-requires c = let p = c.requires in
    (omega (arith, (p.1.most 0 (omega arith)).cells), omega (arith, p.2, p.0.indexed.held.most))

pub first_of-from-requires : goal.first_of-from-requires
first_of-from-requires c = let p = c.requires in
    (omega (arith, (p.1.most 0 (omega arith)).cells), omega (arith, p.2, p.0.indexed.held.most))

pub find-e-requires : goal.find-e-requires
find-e-requires c = let a = c.args in
    let p = c.requires in
    (standing_is a.t.now a.book.now a.es.now p.1 a.i p.2 p.3 _ _ c.first_of-from.ensures c.first_of-end.ensures, p.4)

pub returns-then-e-end : goal.returns-then-e-end
returns-then-e-end c = let a = c.args in
    let p = c.requires in
    hit_wide a.t.now a.book.now a.es.now _ (part a.s.now a.at a.n) (definition_on a.t.now a.i).members _ (standing_is a.t.now a.book.now a.es.now p.1 a.i p.2 p.3 _ _ c.first_of-from.ensures c.first_of-end.ensures).most.most c.if-e-end.true (c.find-e.ensures (definition_on a.t.now a.i).members (members_stand a.t.now a.book.now a.es.now p.1 a.i p.2 p.3 _ _ c.first_of-from.ensures c.first_of-end.ensures))

pub returns : goal.returns
returns c = let a = c.args in
    let p = c.requires in
    hit_none a.t.now a.book.now a.es.now _ (part a.s.now a.at a.n) (definition_on a.t.now a.i).members _ c.if-e-end.false (c.find-e.ensures (definition_on a.t.now a.i).members (members_stand a.t.now a.book.now a.es.now p.1 a.i p.2 p.3 _ _ c.first_of-from.ensures c.first_of-end.ensures))
