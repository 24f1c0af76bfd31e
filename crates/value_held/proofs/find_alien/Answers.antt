-- Nothing, or the first.
use native.Mathlib.Omega.{arith}
use Rattle.query_rows.specs.Rowed.{doc_of}
use Rattle.value_entries.specs.Entered.{dues_by}
use Rattle.value_held.proofs.GivenLaws.{unknown_past}
use Rattle.value_held.proofs.find_alien.Goals as goal

pub returns-then-n-h : goal.returns-then-n-h
returns-then-n-h c = let a = c.args in λ text read. unknown_past (doc_of a.s.now a.rows.now a.n) a.kind a.h a.n c.if-n-h.true text read (dues_by a.kind a.t.now a.start a.end)

pub first_unknown-requires : goal.first_unknown-requires
first_unknown-requires c = (c.requires.0, c.requires.1, omega (arith, c.if-n-h.false))
