-- `text_tokens::whole_end` meets its contract: a zero stands alone.
use mathlib.Core.Path.{◌∙◌}
use Rattle.text_tokens.proofs.NumberParts.{whole_zero, whole_more}
use Rattle.text_tokens.proofs.whole_end.Goals as goal

pub returns-then-s-i-eq48 : goal.returns-then-s-i-eq48
returns-then-s-i-eq48 c = whole_zero _ c.args.i c.requires c.if-s-i-eq48.true

pub returns : goal.returns
returns c = c.digits_end.ensures ∙ whole_more _ c.args.i c.requires c.if-s-i-eq48.false
