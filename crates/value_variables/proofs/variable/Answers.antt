-- `value_variables::variable` meets its contract: an entry, a default, or nothing.
use native.Mathlib.Omega.{arith}
use Rattle.query_rows.specs.Rowed.{doc_of}
use Rattle.query_rows.proofs.RowsIn.{rowed_sized, name_within}
use Rattle.paper_values.specs.DocumentDues.{due_variable}
use Rattle.value_variables.proofs.WayLaws.{no_names, default_some, default_none, default_there, way_given, way_default, way_nothing}
use Rattle.value_variables.proofs.variable.Goals as goal

pub name_of-name-requires : goal.name_of-name-requires
name_of-name-requires c = rowed_sized c.requires.0.ready.treed.rowed

pub size_of-size-requires : goal.size_of-size-requires
size_of-size-requires c = rowed_sized c.requires.0.ready.treed.rowed

pub declared_of-due-requires : goal.declared_of-due-requires
declared_of-due-requires c = (c.requires.0.ready.booked, c.requires.0.taken, c.requires.0.ready.treed.pasts, c.requires.1)

pub given-c-requires : goal.given-c-requires
given-c-requires c = (c.requires.0.ready1.treed, no_names _ _, (rw (c.name_of-name.ensures, c.size_of-size.ensures) (name_within c.args.s.now c.args.rows.now c.args.n c.requires.0.ready.treed.rowed c.args.v)), omega arith)

pub overflow_cast-c : goal.overflow_cast-c
overflow_cast-c c = omega (arith, c.if-c-n1.true, c.requires.0.ready1.treed.rowed.few)

pub overflow_add-c : goal.overflow_add-c
overflow_add-c c = omega (arith, c.if-c-n1.true, c.requires.0.ready1.treed.rowed.few)

pub keep-requires : goal.keep-requires
keep-requires c = c.requires.2

pub overflow_add-c-then-c-n1 : goal.overflow_add-c-then-c-n1
overflow_add-c-then-c-n1 c = omega (arith, c.if-c-n1.true, c.requires.0.ready1.treed.rowed.few)

pub put_pair-r-requires : goal.put_pair-r-requires
put_pair-r-requires c = (c.requires.0.ready1, omega (arith, c.if-c-n1.true), c.declared_of-due.ensures.1, record { ref = _; is = c.declared_of-due.ensures.0 }, (rw (c.name_of-name.ensures, c.size_of-size.ensures) (name_within c.args.s.now c.args.rows.now c.args.n c.requires.0.ready.treed.rowed c.args.v)), c.requires.3)

pub overflow_add-many : goal.overflow_add-many
overflow_add-many c = omega (arith, c.requires.4)

pub returns-then-c-n1 : goal.returns-then-c-n1
returns-then-c-n1 c = rw c.of_pair.ensures (way_given c.args.t.now c.args.book.now c.args.s.now c.args.rows.now c.args.n c.args.past.now c.args.s1.now c.args.rows1.now c.args.n1 c.args.past1.now c.requires.0 c.args.v c.args.many c.args.held.now c.requires.2 c.args.limit c.args.from c.args.out.now _ _ _ _ _ _ c.name_of-name.ensures c.size_of-size.ensures c.declared_of-due.ensures.0 c.declared_of-due.ensures.1 _ c.given-c.ensures _ _ c.if-c-n1.true c.keep.ensures (c.put_pair-r.ensures 1 _ c.declared_of-due.ensures.0))

pub default_of-requires : goal.default_of-requires
default_of-requires c = (c.requires.0.ready.treed, c.requires.1)

pub lacking-requires : goal.lacking-requires
lacking-requires c = c.requires.3.place

pub returns-in_default : goal.returns-in_default
returns-in_default c = rw c.of_pair-in_default.ensures (way_nothing c.args.t.now c.args.book.now c.args.s.now c.args.rows.now c.args.n c.args.past.now c.args.s1.now c.args.rows1.now c.args.n1 c.args.past1.now c.requires.0 c.args.v c.args.many c.args.held.now c.requires.2 c.args.limit c.args.from c.args.out.now _ _ _ _ _ _ c.name_of-name.ensures c.size_of-size.ensures c.declared_of-due.ensures.0 c.declared_of-due.ensures.1 _ c.given-c.ensures _ c.if-c-n1.false (default_none (doc_of c.args.s.now c.args.rows.now c.args.n) c.args.v _ c.default_of.ensures c.in_default.is) (c.lacking.ensures 0 (due_variable (doc_of c.args.s.now c.args.rows.now c.args.n) c.args.v) c.args.out.now c.declared_of-due.ensures.0.packs))

pub overflow_cast-i : goal.overflow_cast-i
overflow_cast-i c = omega (arith, (default_there c.args.s.now c.args.rows.now c.args.n c.args.v _ (default_some (doc_of c.args.s.now c.args.rows.now c.args.n) c.args.v _ _ c.default_of.ensures c.in-Some.is)), c.requires.0.ready.treed.rowed.few)

pub keep-requires-2 : goal.keep-requires-2
keep-requires-2 c = c.requires.2

pub put_pair-r-requires-2 : goal.put_pair-r-requires-2
put_pair-r-requires-2 c = (c.requires.0.ready, omega (arith, (default_there c.args.s.now c.args.rows.now c.args.n c.args.v _ (default_some (doc_of c.args.s.now c.args.rows.now c.args.n) c.args.v _ _ c.default_of.ensures c.in-Some.is))), c.declared_of-due.ensures.1, record { ref = _; is = c.declared_of-due.ensures.0 }, (rw (c.name_of-name.ensures, c.size_of-size.ensures) (name_within c.args.s.now c.args.rows.now c.args.n c.requires.0.ready.treed.rowed c.args.v)), c.requires.3)

pub overflow_add-many-2 : goal.overflow_add-many-2
overflow_add-many-2 c = omega (arith, c.requires.4)

pub returns : goal.returns
returns c = rw c.of_pair-2.ensures (way_default c.args.t.now c.args.book.now c.args.s.now c.args.rows.now c.args.n c.args.past.now c.args.s1.now c.args.rows1.now c.args.n1 c.args.past1.now c.requires.0 c.args.v c.args.many c.args.held.now c.requires.2 c.args.limit c.args.from c.args.out.now _ _ _ _ _ _ c.name_of-name.ensures c.size_of-size.ensures c.declared_of-due.ensures.0 c.declared_of-due.ensures.1 _ c.given-c.ensures _ _ _ c.if-c-n1.false (default_some (doc_of c.args.s.now c.args.rows.now c.args.n) c.args.v _ _ c.default_of.ensures c.in-Some.is) c.keep-2.ensures (c.put_pair-r-2.ensures 0 _ c.declared_of-due.ensures.0))
