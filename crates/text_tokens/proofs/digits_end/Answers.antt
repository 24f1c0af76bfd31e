-- `text_tokens::digits_end` meets its contract: the run from `from` and the run from i end at one place.
use mathlib.Core.Path.{◌≡◌, refl, sym, ◌∙◌}
use native.Mathlib.Omega.{arith}
use lib.ListN.{length}
use Rattle.paper.specs.Lexical.{digit}
use Rattle.text_tokens.proofs.RunLaws.{run_more, run_stop, run_end}
use Rattle.text_tokens.proofs.digits_end.Goals as goal

pub loop-i-init : goal.loop-i-init
loop-i-init c = refl

pub loop-i-preserved : goal.loop-i-preserved
loop-i-preserved c = run_more digit _ c.loop-i.i c.loop-i-test.true (sym c.is_digit.ensures ∙ c.if-not-is_digit.false) ∙ c.loop-i.invariant

pub returns-then-not-is_digit : goal.returns-then-not-is_digit
returns-then-not-is_digit c = run_stop digit _ c.loop-i.i c.loop-i-test.true (sym c.is_digit.ensures ∙ c.if-not-is_digit.true) ∙ c.loop-i.invariant

pub returns : goal.returns
returns c = let e : length c.args.s.now ≡ c.loop-i.i = omega (arith, c.loop-i-test.false, c.loop-i.auto.i-end c.requires) in e ∙ run_end digit _ c.loop-i.i c.loop-i-test.false ∙ c.loop-i.invariant
