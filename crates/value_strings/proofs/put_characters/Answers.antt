-- `value_strings::put_characters` meets its contract: before place i the characters before it are written.
use mathlib.Core.Path.{◌∙◌}
use native.Mathlib.Omega.{arith}
use lib.ListN.{drop}
use Rattle.paper_values.specs.Characters.{written}
use Rattle.value_writing.proofs.PlaceLaws.{put_place}
use Rattle.value_strings.proofs.ReadLaws.{written_more}
use Rattle.value_strings.proofs.SpellingTurn.{go_first, go_on, go_surrogate, go_end, read_bytes}
use Rattle.value_strings.proofs.put_characters.Goals as goal

pub loop-i-init : goal.loop-i-init
loop-i-init c = let a = c.args in go_first a.limit a.from a.s.now a.out.now c.requires.0.place

pub shape_of-out-in_err-k : goal.shape_of-out-in_err-k
shape_of-out-in_err-k c = c.loop-i.invariant.size

pub returns-in_err-k : goal.returns-in_err-k
returns-in_err-k c = let a = c.args in
    let l = c.loop-i in
    rw c.from_residual.ensures (go_surrogate a.limit a.from a.s.now a.out.now l.out l.at l.i l.invariant c.loop-i-test.true _ c.character_at.result c.in_err-k.was c.character_at.ensures)

pub put_few-at-requires : goal.put_few-at-requires
put_few-at-requires c = let a = c.args in
    let l = c.loop-i in
    record { least = c.requires.0.least; place = put_place a.limit l.invariant.done a.from a.out.now l.out l.at l.invariant.put; size = l.invariant.size ∙ c.requires.0.size }

pub overflow_add-i : goal.overflow_add-i
overflow_add-i c = omega (arith, (read_bytes (written (drop c.loop-i.i c.args.s.now)) c.character_at.result _ c.in_ok-k.was c.character_at.ensures).1, written_more (drop c.loop-i.i c.args.s.now))

pub overflow_add-i-in-loop-i : goal.overflow_add-i-in-loop-i
overflow_add-i-in-loop-i c = omega (arith, (read_bytes (written (drop c.loop-i.i c.args.s.now)) c.character_at.result _ c.in_ok-k.was c.character_at.ensures).1, written_more (drop c.loop-i.i c.args.s.now), c.requires.1, c.loop-i-test.true)

pub loop-i-smaller : goal.loop-i-smaller
loop-i-smaller c = omega (arith, c.loop-i-test.true)

pub loop-i-preserved : goal.loop-i-preserved
loop-i-preserved c = let a = c.args in
    let l = c.loop-i in
    go_on a.limit a.from a.s.now a.out.now l.out l.at l.i l.invariant c.loop-i-test.true _ _ c.character_at.result _ c.in_ok-k.was c.character_at.ensures c.put_few-at.auto.out c.put_few-at.ensures

pub shape_of-out : goal.shape_of-out
shape_of-out c = c.loop-i.invariant.size

pub returns : goal.returns
returns c = let a = c.args in
    let l = c.loop-i in
    go_end a.limit a.from a.s.now a.out.now l.out l.at l.i l.invariant c.loop-i-test.false
