-- `text_tokens::name_end` meets its contract: the run from `from` and the run from i end at one place.
use mathlib.Core.Path.{◌≡◌, refl, sym, ◌∙◌}
use native.Mathlib.Omega.{arith}
use lib.ListN.{length}
use Rattle.paper.specs.Lexical.{letter_or_digit}
use Rattle.text_tokens.proofs.RunLaws.{run_more, run_stop, run_end}
use Rattle.text_tokens.proofs.name_end.Goals as goal

pub loop-i-init : goal.loop-i-init
loop-i-init c = refl

pub loop-i-preserved : goal.loop-i-preserved
loop-i-preserved c = run_more letter_or_digit _ c.loop-i.i c.loop-i-test.true (sym c.in_name.ensures ∙ c.if-not-in_name.false) ∙ c.loop-i.invariant

pub returns-then-not-in_name : goal.returns-then-not-in_name
returns-then-not-in_name c = run_stop letter_or_digit _ c.loop-i.i c.loop-i-test.true (sym c.in_name.ensures ∙ c.if-not-in_name.true) ∙ c.loop-i.invariant

pub returns : goal.returns
returns c = let e : length c.args.s.now ≡ c.loop-i.i = omega (arith, c.loop-i-test.false, c.loop-i.auto.i-end c.requires) in e ∙ run_end letter_or_digit _ c.loop-i.i c.loop-i-test.false ∙ c.loop-i.invariant
