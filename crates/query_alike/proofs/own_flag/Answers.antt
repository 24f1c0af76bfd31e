-- By whether it is a rule.
use mathlib.Core.Path.{sym}
use native.Mathlib.Omega.{arith}
use Rattle.query_alike.proofs.LikenLaws.{own_small, own_large}
use Rattle.query_alike.proofs.own_flag.Goals as goal

pub returns-then-f-lt-LIKE_FIRST : goal.returns-then-f-lt-LIKE_FIRST
returns-then-f-lt-LIKE_FIRST c = sym (own_small c.args.flag.now c.args.i c.if-f-lt-LIKE_FIRST.true)

pub overflow_cast-result : goal.overflow_cast-result
overflow_cast-result c = omega (arith, c.shared_slice_known-1.given c.args.i)

pub offset_bounds-flag-f : goal.offset_bounds-flag-f
offset_bounds-flag-f c = omega (arith, c.shared_slice_known-1.given c.args.i)

pub bounds-flag-f : goal.bounds-flag-f
bounds-flag-f c = c.requires.1 (omega (arith, c.if-f-lt-LIKE_FIRST.false))

pub returns : goal.returns
returns c = sym (own_large c.args.flag.now c.args.i (omega (arith, c.if-f-lt-LIKE_FIRST.false)))
