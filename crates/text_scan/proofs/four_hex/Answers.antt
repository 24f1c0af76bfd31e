-- `four_hex`: digit by digit.
use mathlib.Core.Path.{sym, refl, ◌∙◌}
use mathlib.Core.Bool.{true, false}
use native.Mathlib.Omega.{arith}
use Rattle.text_scan.proofs.PartLaws.{four_short, four_fit}
use Rattle.text_scan.proofs.four_hex.Goals as goal

pub returns-then-s-i-lt4 : goal.returns-then-s-i-lt4
returns-then-s-i-lt4 c = four_short c.args.s.now c.args.i c.if-s-i-lt4.true

pub returns-then-is_hex-3 : goal.returns-then-is_hex-3
returns-then-is_hex-3 c = four_fit c.args.s.now c.args.i (omega arith) true true true _ (sym c.is_hex.ensures ∙ c.if-is_hex.true) (sym c.is_hex-then-is_hex.ensures ∙ c.if-is_hex-2.true) (sym c.is_hex-then-is_hex-2.ensures ∙ c.if-is_hex-3.true) (sym c.is_hex-then-is_hex-3.ensures)

pub returns-else-is_hex-3 : goal.returns-else-is_hex-3
returns-else-is_hex-3 c = four_fit c.args.s.now c.args.i (omega arith) true true false _ (sym c.is_hex.ensures ∙ c.if-is_hex.true) (sym c.is_hex-then-is_hex.ensures ∙ c.if-is_hex-2.true) (sym c.is_hex-then-is_hex-2.ensures ∙ c.if-is_hex-3.false) refl

pub returns-else-is_hex-2 : goal.returns-else-is_hex-2
returns-else-is_hex-2 c = four_fit c.args.s.now c.args.i (omega arith) true false _ _ (sym c.is_hex.ensures ∙ c.if-is_hex.true) (sym c.is_hex-then-is_hex.ensures ∙ c.if-is_hex-2.false) refl refl

pub returns-else-is_hex : goal.returns-else-is_hex
returns-else-is_hex c = four_fit c.args.s.now c.args.i (omega arith) false _ _ _ (sym c.is_hex.ensures ∙ c.if-is_hex.false) refl refl refl
