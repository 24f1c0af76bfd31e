-- By the kind, then the parent.
use native.Mathlib.Omega.{arith}
use Rattle.query_rows.specs.Rowed.{row_in}
use Rattle.value_definitions.proofs.SeekLaws.{default_less, default_more, default_is}
use Rattle.value_definitions.proofs.is_default.Goals as goal

pub returns-then-k-lt-KIND_VARIABLE : goal.returns-then-k-lt-KIND_VARIABLE
returns-then-k-lt-KIND_VARIABLE c = let a = c.args in
    default_less a.v (row_in a.rows.now a.n a.j) (omega (arith, c.if-k-lt-KIND_VARIABLE.true, c.kind_of-k.ensures))

pub returns-then-k-gt-KIND_OBJECT : goal.returns-then-k-gt-KIND_OBJECT
returns-then-k-gt-KIND_OBJECT c = let a = c.args in
    default_more a.v (row_in a.rows.now a.n a.j) (omega (arith, c.if-k-lt-KIND_VARIABLE.false, c.kind_of-k.ensures)) (omega (arith, c.if-k-gt-KIND_OBJECT.true, c.kind_of-k.ensures))

pub returns : goal.returns
returns c = let a = c.args in
    rw (c.wide.ensures, c.parent_of.ensures)
    (default_is a.v (row_in a.rows.now a.n a.j) (omega (arith, c.if-k-lt-KIND_VARIABLE.false, c.kind_of-k.ensures))
    (omega (arith, c.if-k-gt-KIND_OBJECT.false, c.kind_of-k.ensures)))
