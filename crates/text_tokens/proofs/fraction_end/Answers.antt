-- `text_tokens::fraction_end` meets its contract: a dot, and a digit behind it.
use mathlib.Core.Path.{sym, ◌∙◌}
use Prim.Native.Nat.{◌+◌}
use native.Mathlib.Omega.{arith}
use Rattle.paper.specs.Lexical.{digit}
use Rattle.text_tokens.proofs.NumberParts.{starts_in, fraction_yes, fraction_bare, fraction_none, fraction_end}
use Rattle.text_tokens.proofs.fraction_end.Goals as goal

pub digits_end-requires : goal.digits_end-requires
digits_end-requires c = omega (arith, starts_in c.args.s.now digit (c.args.i + 1) (sym c.digit_at.ensures ∙ c.if-digit_at.true))

pub returns-then-digit_at : goal.returns-then-digit_at
returns-then-digit_at c = c.digits_end.ensures ∙ fraction_yes _ c.args.i c.if-i-s.true c.if-s-i-eq46.true (sym c.digit_at.ensures ∙ c.if-digit_at.true)

pub returns-else-digit_at : goal.returns-else-digit_at
returns-else-digit_at c = fraction_bare _ c.args.i c.if-i-s.true c.if-s-i-eq46.true (sym c.digit_at.ensures ∙ c.if-digit_at.false)

pub returns-else-s-i-eq46 : goal.returns-else-s-i-eq46
returns-else-s-i-eq46 c = fraction_none _ c.args.i c.if-i-s.true c.if-s-i-eq46.false

pub returns-else-i-s : goal.returns-else-i-s
returns-else-i-s c = fraction_end _ c.args.i c.if-i-s.false
