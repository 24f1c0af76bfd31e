-- What is found from here on is what is found of all.
use mathlib.Core.Path.{◌∙◌}
use native.Mathlib.Omega.{arith}
use Rattle.table_entries.proofs.Runs.{roomy_less}
use Rattle.table_entries.proofs.Looks.{looking_start, looking_end, looking_less, name_stands, looking_here, looking_on}
use Rattle.table_entries.proofs.find.Goals as goal

pub key_of-requires : goal.key_of-requires
key_of-requires c = c.requires.1

pub loop-e-init : goal.loop-e-init
loop-e-init c = looking_start _ _ _ _ _ _ c.requires.0

pub is_named-requires : goal.is_named-requires
is_named-requires c = let p = c.requires in
    (name_stands _ _ _ _ _ _ _ c.loop-e.invariant c.loop-e-test.true p.0.most, p.1, c.wide-key.ensures ∙ c.key_of.ensures)

pub returns-then-is_named : goal.returns-then-is_named
returns-then-is_named c = looking_here _ _ _ _ _ _ _ c.loop-e.invariant c.loop-e-test.true c.requires.0.most c.is_named.ensures c.if-is_named.true

pub cell_of-e-requires : goal.cell_of-e-requires
cell_of-e-requires c = let p = c.requires in (roomy_less p.0.most (omega (arith, c.loop-e-test.true)), omega arith)

pub loop-e-smaller : goal.loop-e-smaller
loop-e-smaller c = let n = looking_less _ _ _ _ _ _ _ c.loop-e.invariant c.loop-e-test.true in omega (arith, n.0, n.1, c.cell_of-e.ensures)

pub loop-e-preserved : goal.loop-e-preserved
loop-e-preserved c = rw c.cell_of-e.ensures (looking_on _ _ _ _ _ _ _ c.loop-e.invariant c.loop-e-test.true c.is_named.ensures c.if-is_named.false)

pub returns : goal.returns
returns c = looking_end _ _ _ _ _ _ _ c.loop-e.invariant c.loop-e-test.false
