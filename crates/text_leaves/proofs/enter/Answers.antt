-- enter: what it writes and answers is put_row and past.
use mathlib.Core.Path.{refl}
use native.Mathlib.Omega.{arith}
use Rattle.text_leaves.specs.Marks.{deep, crowded, entered}
use Rattle.text_leaves.proofs.MovedLaws.{ready_lies}
use Rattle.text_leaves.proofs.enter.Goals as goal

pub returns-then-left-eq0 : goal.returns-then-left-eq0
returns-then-left-eq0 c = deep (omega (arith, c.if-left-eq0.true)) refl

pub returns-then-n-eq-MOST_ROWS : goal.returns-then-n-eq-MOST_ROWS
returns-then-n-eq-MOST_ROWS c = crowded (omega (arith, c.if-left-eq0.false)) (omega (arith, c.if-n-eq-MOST_ROWS.true)) refl

pub past-requires : goal.past-requires
past-requires c = (c.requires.short, (ready_lies _ _ _ _ c.requires).2)

pub returns : goal.returns
returns c = entered (omega (arith, c.if-left-eq0.false)) (omega (arith, c.requires.few, c.if-n-eq-MOST_ROWS.false)) c.put_row.ensures c.past.ensures
