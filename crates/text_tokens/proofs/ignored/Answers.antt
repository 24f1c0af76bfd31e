-- `text_tokens::ignored` meets its contract, by the first byte.
use mathlib.Core.Path.{sym, ap, ◌∙◌}
use mathlib.Core.Bool.{Bool, cond}
use native.Mathlib.Omega.{arith}
use Rattle.text_tokens.proofs.PieceLaws.{no_blank}
use Rattle.text_tokens.proofs.ignored.Goals as goal

pub returns-then-b-eq35 : goal.returns-then-b-eq35
returns-then-b-eq35 c = c.comment.ensures

pub returns-then-is_mark : goal.returns-then-is_mark
returns-then-is_mark c = ap (λ (t : Bool). cond t 3 0) (sym c.if-is_mark.true) ∙ c.is_mark.ensures

pub returns-else-is_mark : goal.returns-else-is_mark
returns-else-is_mark c = ap (λ (t : Bool). cond t 3 0) (sym c.if-is_mark.false) ∙ c.is_mark.ensures

pub returns-else-b : goal.returns-else-b
returns-else-b c = no_blank _ c.args.i c.requires.0 (omega (arith, c.type_inv.s c.args.i)) c.requires.1 c.if-b-eq35.false c.if-b.false
