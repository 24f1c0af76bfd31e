use mathlib.Core.Path.{◌∙◌}
use mathlib.Core.Logic.{inl, inr}
use native.Mathlib.Omega.{arith}
use Rattle.plan_walk_blocks.proofs.AnswerLaws.{no_marks, answer_over, answer_few, answer_holds}
use Rattle.plan_walk_blocks.proofs.answer.Goals as goal

pub walk_blocks-n-requires : goal.walk_blocks-n-requires
walk_blocks-n-requires c = let p = c.requires in
    (p.0, p.1, record { vars_long = p.2; fits_long = p.3; met_long = omega arith; out_long = omega arith }, no_marks 64)

pub returns-then-n-eq-TOO_MANY_PAIRS : goal.returns-then-n-eq-TOO_MANY_PAIRS
returns-then-n-eq-TOO_MANY_PAIRS c = let a = c.args in
    let p = c.requires in
    let w = c.walk_blocks-n in
    inl (answer_over a.p.now a.blocks.now a.vars.now a.fits.now w.new.met w.new.out w.result w.ensures a.out.now _ c.if-n-eq-TOO_MANY_PAIRS.true p.4 c.clear.ensures)

pub group-requires : goal.group-requires
group-requires c = let a = c.args in
    let p = c.requires in
    let w = c.walk_blocks-n in
    let f = answer_few a.p.now a.blocks.now a.vars.now a.fits.now w.new.met w.new.out w.result w.ensures c.if-n-eq-TOO_MANY_PAIRS.false in
    (omega (arith, f, w.auto.out), f, omega (arith, p.4))

pub overflow_mul-n : goal.overflow_mul-n
overflow_mul-n c = let a = c.args in
    let p = c.requires in
    let w = c.walk_blocks-n in
    let f = answer_few a.p.now a.blocks.now a.vars.now a.fits.now w.new.met w.new.out w.result w.ensures c.if-n-eq-TOO_MANY_PAIRS.false in
    omega (arith, f)

pub clear-requires-2 : goal.clear-requires-2
clear-requires-2 c = let a = c.args in
    let p = c.requires in
    let w = c.walk_blocks-n in
    let f = answer_few a.p.now a.blocks.now a.vars.now a.fits.now w.new.met w.new.out w.result w.ensures c.if-n-eq-TOO_MANY_PAIRS.false in
    omega (arith, f, p.4, c.group.auto.out)

pub returns : goal.returns
returns c = let a = c.args in
    let p = c.requires in
    let w = c.walk_blocks-n in
    inr (answer_holds a.p.now a.blocks.now a.vars.now a.fits.now w.new.met w.new.out w.result w.ensures c.group.new.out _ c.if-n-eq-TOO_MANY_PAIRS.false (c.group.auto.out ∙ p.4) c.group.ensures c.clear-2.ensures)
