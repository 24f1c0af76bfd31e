-- Nothing, or the first.
use native.Mathlib.Omega.{arith}
use Rattle.query_rows.specs.Rowed.{doc_of}
use Rattle.value_held.proofs.GivenLaws.{repeated_past}
use Rattle.value_held.proofs.find_again.Goals as goal

pub returns-then-n-h : goal.returns-then-n-h
returns-then-n-h c = let a = c.args in λ text read. repeated_past (doc_of a.s.now a.rows.now a.n) a.kind a.h a.n c.if-n-h.true text read

pub first_repeated-requires : goal.first_repeated-requires
first_repeated-requires c = (c.requires.0, omega (arith, c.if-n-h.false))
