-- `string_end`: at each turn whole characters and escapes lie behind, and the text holds them.
use native.Mathlib.Omega.{arith}
use Rattle.text_scan.specs.Parts.{part_size}
use Rattle.text_scan.proofs.CharacterRuns.{run_none, run_more, run_stop, run_over, no_part, part_fits}
use Rattle.text_scan.proofs.string_end.Goals as goal

pub loop-i-init : goal.loop-i-init
loop-i-init c = (run_none part_size c.args.s.now c.args.from, c.requires)

pub string_part-n-requires : goal.string_part-n-requires
string_part-n-requires c = c.loop-i-test.true

pub returns-then-n-eq0 : goal.returns-then-n-eq0
returns-then-n-eq0 c = run_stop part_size c.args.s.now c.args.from c.loop-i.i c.string_part-n.result c.loop-i.invariant.0 c.loop-i.invariant.1 c.string_part-n.ensures c.if-n-eq0.true

pub overflow_add-i : goal.overflow_add-i
overflow_add-i c = omega (arith, part_fits c.args.s.now c.loop-i.i c.string_part-n.result c.loop-i.invariant.1 c.string_part-n.ensures)

pub loop-i-smaller : goal.loop-i-smaller
loop-i-smaller c = omega (arith, part_fits c.args.s.now c.loop-i.i c.string_part-n.result c.loop-i.invariant.1 c.string_part-n.ensures, c.if-n-eq0.false)

pub loop-i-preserved : goal.loop-i-preserved
loop-i-preserved c = (run_more part_size c.args.s.now c.args.from c.loop-i.i c.string_part-n.result c.loop-i.invariant.0 c.string_part-n.ensures c.if-n-eq0.false, part_fits c.args.s.now c.loop-i.i c.string_part-n.result c.loop-i.invariant.1 c.string_part-n.ensures)

pub returns : goal.returns
returns c = run_over part_size c.args.s.now c.args.from c.loop-i.i no_part c.loop-i.invariant.0 c.loop-i.invariant.1 c.loop-i-test.false
