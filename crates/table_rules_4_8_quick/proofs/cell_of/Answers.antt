-- By the name's length.
use native.Mathlib.Omega.{arith}
use Rattle.table_rules_4_8_quick.proofs.SoundLaws.{cell_none, cell_one, cell_short, cell_long}
use Rattle.table_rules_4_8_quick.proofs.cell_of.Goals as goal

pub returns-then-n-eq0 : goal.returns-then-n-eq0
returns-then-n-eq0 c = let a = c.args in
    (cell_none a.t.now a.at a.n c.requires.0 c.if-n-eq0.true, omega arith)

pub returns-then-n-eq1 : goal.returns-then-n-eq1
returns-then-n-eq1 c = let a = c.args in
    (cell_one a.t.now a.at a.n c.requires.0 c.if-n-eq0.false c.wide-first.result c.wide-first.ensures.0 c.if-n-eq1.true, omega arith)

pub returns-then-n-lt-LONG : goal.returns-then-n-lt-LONG
returns-then-n-lt-LONG c = let a = c.args in
    (cell_short a.t.now a.at a.n c.requires.0 c.if-n-eq0.false c.wide-first.result c.wide-first.ensures.0 c.if-n-eq1.false c.wide-second.result c.wide-last.result c.wide-second.ensures.0 c.wide-last.ensures.0 c.if-n-lt-LONG.true, omega arith)

pub returns : goal.returns
returns c = let a = c.args in
    (cell_long a.t.now a.at a.n c.requires.0 c.if-n-eq0.false c.wide-first.result c.wide-first.ensures.0 c.if-n-eq1.false c.wide-second.result c.wide-last.result c.wide-second.ensures.0 c.wide-last.ensures.0 c.if-n-lt-LONG.false _ c.tail_of.ensures.0, omega arith)
