-- The entry found, or none.
use mathlib.Core.Path.{refl, sym, ◌∙◌}
use Prim.Native.Nat.{◌+◌, ◌-◌}
use native.Mathlib.Omega.{arith}
use Rattle.table_book.specs.Book.{part}
use Rattle.query_rows.specs.Rowed.{doc_of}
use Rattle.value_entries.specs.Entered.{entry_at}
use Rattle.value_held.proofs.GivenLaws.{gives_past, gives_none, gives_out, gives_here}
use Rattle.value_held.proofs.given.Goals as goal

pub returns-then-n-h : goal.returns-then-n-h
returns-then-n-h c = let a = c.args in gives_past a.s.now a.held.now a.many (doc_of a.s.now a.rows.now a.n) a.n a.k a.kind a.h (part a.t.now a.at a.l) (entry_at (doc_of a.s.now a.rows.now a.n) a.kind a.h (part a.t.now a.at a.l) (a.n - (a.h + 1)) (a.h + 1)) c.requires.3 refl c.if-n-h.true

pub find_entry-c-requires : goal.find_entry-c-requires
find_entry-c-requires c = (c.requires.0, omega (arith, c.if-n-h.false), c.requires.2)

pub returns-then-n-c : goal.returns-then-n-c
returns-then-n-c c = let a = c.args in gives_none a.s.now a.held.now a.many (doc_of a.s.now a.rows.now a.n) a.n a.k a.kind a.h (part a.t.now a.at a.l) _ c.requires.3 c.find_entry-c.ensures c.if-n-c.true

pub overflow_add-c : goal.overflow_add-c
overflow_add-c c = omega (arith, c.if-n-c.false, c.requires.0.rowed.few)

pub is_left_out-requires : goal.is_left_out-requires
is_left_out-requires c = (c.requires.0.rowed, c.requires.1)

pub returns-then-is_left_out : goal.returns-then-is_left_out
returns-then-is_left_out c = let a = c.args in gives_out a.s.now a.held.now a.many (doc_of a.s.now a.rows.now a.n) a.n a.k a.kind a.h (part a.t.now a.at a.l) _ c.requires.3 c.find_entry-c.ensures c.if-n-c.false (λ vars g. sym c.if-is_left_out.true ∙ c.is_left_out.ensures vars g)

pub returns : goal.returns
returns c = let a = c.args in gives_here a.s.now a.held.now a.many (doc_of a.s.now a.rows.now a.n) a.n a.k a.kind a.h (part a.t.now a.at a.l) _ c.requires.3 c.find_entry-c.ensures c.if-n-c.false (λ vars g. sym c.if-is_left_out.false ∙ c.is_left_out.ensures vars g)
