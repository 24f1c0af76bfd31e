-- `value_answers::end_in` meets its contract, by what the call asks and whether the field is reached.
use mathlib.Core.Path.{subst, ◌∙◌}
use native.Mathlib.Omega.{arith}
use Prim.Native.Nat.{ℕ}
use lib.ListN.{length-replicate}
use Rattle.query_rows.specs.Rowed.{doc_of}
use Rattle.query_rows.proofs.Rooms.{room_most}
use Rattle.value_fields.specs.Wants.{Wants}
use Rattle.value_answers.specs.Answers.{unreached, reached}
use Rattle.value_answers.proofs.EndLaws.{stands_prepared, field_serves, by_call}
use Rattle.value_answers.proofs.end_in.Goals as goal

pub whole_as_slice-read_text : goal.whole_as_slice-read_text
whole_as_slice-read_text g c = omega (arith, c.requires.3, room_most c.args.n)

pub whole_as_slice-read_text-2 : goal.whole_as_slice-read_text-2
whole_as_slice-read_text-2 g c = omega (arith, c.requires.3, room_most c.args.n)

pub read_text-requires : goal.read_text-requires
read_text-requires g c = let p = c.requires in
    (p.0.stands, tt, length-replicate {A = ℕ} g.row.ROOM 0 ∙ p.3, p.1, p.2)

pub returns-in_default : goal.returns-in_default
returns-in_default g c = let a = c.args in
    by_call a.table.now (doc_of a.document.now a.rows.now a.n) a.op a.variables.now _ c.in_default.is c.read_text.ensures

pub find_wanted-requires : goal.find_wanted-requires
find_wanted-requires g c = stands_prepared _ _ _ _ _ _ c.requires.0

pub returns-in_default-find_wanted : goal.returns-in_default-find_wanted
returns-in_default-find_wanted g c = let a = c.args in
    by_call a.table.now (doc_of a.document.now a.rows.now a.n) a.op a.variables.now _ c.in-Arguments.is (unreached (subst (Wants a.table.now (doc_of a.document.now a.rows.now a.n) a.op _) c.in_default-find_wanted.is c.find_wanted.ensures))

pub read_text-requires-2 : goal.read_text-requires-2
read_text-requires-2 g c = let a = c.args in
    let p = c.requires in
    (p.0.stands, (field_serves a.table.now a.document.now a.rows.now a.n a.op _ _ _ c.find_wanted.ensures c.in-Some.is).1, length-replicate {A = ℕ} g.row.ROOM 0 ∙ p.3, p.1, p.2)

pub returns : goal.returns
returns g c = let a = c.args in
    by_call a.table.now (doc_of a.document.now a.rows.now a.n) a.op a.variables.now _ c.in-Arguments.is (reached (field_serves a.table.now a.document.now a.rows.now a.n a.op _ _ _ c.find_wanted.ensures c.in-Some.is).0 c.read_text-2.ensures)
