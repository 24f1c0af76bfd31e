-- leaf: what it writes and answers is put_row and past.
use mathlib.Core.Path.{refl}
use native.Mathlib.Omega.{arith}
use Rattle.text_leaves.specs.Marks.{full, wrote}
use Rattle.text_leaves.proofs.MovedLaws.{ready_lies}
use Rattle.text_leaves.proofs.leaf.Goals as goal

pub returns-then-c-eq-MOST_ROWS : goal.returns-then-c-eq-MOST_ROWS
returns-then-c-eq-MOST_ROWS c = full (omega (arith, c.if-c-eq-MOST_ROWS.true)) refl

pub past-requires : goal.past-requires
past-requires c = (c.requires.short, (ready_lies _ _ _ _ c.requires).2)

pub returns : goal.returns
returns c = wrote (omega (arith, c.requires.few, c.if-c-eq-MOST_ROWS.false)) c.put_row.ensures c.past.ensures
