use Rattle.query_row_verdict.proofs.RowLaws.{fragment_first, fragment_last}
use native.Mathlib.Omega.{arith}
use Rattle.query_row_verdict.proofs.fragment_rule.Goals as goal

pub returns-then-fragment_repeated : goal.returns-then-fragment_repeated
returns-then-fragment_repeated c = λ t f. fragment_first c.requires.4 c.fragment_repeated.ensures c.if-fragment_repeated.true

pub overflow_cast-result : goal.overflow_cast-result
overflow_cast-result c = omega (arith, c.shared_slice_known-6-1.given c.args.i)

pub returns : goal.returns
returns c = let a = c.args in
    λ t f. fragment_last c.requires.4 c.fragment_repeated.ensures c.if-fragment_repeated.false (f.flags a.i)
