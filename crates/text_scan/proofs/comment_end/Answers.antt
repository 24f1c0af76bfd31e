-- `comment_end`: at each turn whole characters lie behind, and the text holds them.
use native.Mathlib.Omega.{arith}
use Rattle.text_characters.specs.Characters.{character_size}
use Rattle.text_scan.proofs.CharacterRuns.{run_none, run_more, run_stop, run_over, no_character, character_fits}
use Rattle.text_scan.proofs.comment_end.Goals as goal

pub loop-i-init : goal.loop-i-init
loop-i-init c = (run_none character_size c.args.s.now c.args.from, c.requires)

pub character-n-requires : goal.character-n-requires
character-n-requires c = c.loop-i-test.true

pub returns-then-n-eq0 : goal.returns-then-n-eq0
returns-then-n-eq0 c = run_stop character_size c.args.s.now c.args.from c.loop-i.i c.character-n.result c.loop-i.invariant.0 c.loop-i.invariant.1 c.character-n.ensures c.if-n-eq0.true

pub overflow_add-i : goal.overflow_add-i
overflow_add-i c = omega (arith, character_fits c.args.s.now c.loop-i.i c.character-n.result c.loop-i.invariant.1 c.character-n.ensures)

pub loop-i-smaller : goal.loop-i-smaller
loop-i-smaller c = omega (arith, character_fits c.args.s.now c.loop-i.i c.character-n.result c.loop-i.invariant.1 c.character-n.ensures, c.if-n-eq0.false)

pub loop-i-preserved : goal.loop-i-preserved
loop-i-preserved c = (run_more character_size c.args.s.now c.args.from c.loop-i.i c.character-n.result c.loop-i.invariant.0 c.character-n.ensures c.if-n-eq0.false, character_fits c.args.s.now c.loop-i.i c.character-n.result c.loop-i.invariant.1 c.character-n.ensures)

pub returns : goal.returns
returns c = run_over character_size c.args.s.now c.args.from c.loop-i.i no_character c.loop-i.invariant.0 c.loop-i.invariant.1 c.loop-i-test.false
