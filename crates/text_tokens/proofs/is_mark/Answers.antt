-- `text_tokens::is_mark` meets its contract.
use Rattle.text_tokens.proofs.PieceLaws.{order_short, order_second, order_third}
use Rattle.text_tokens.proofs.is_mark.Goals as goal

pub returns-then-s-i-lt3 : goal.returns-then-s-i-lt3
returns-then-s-i-lt3 c = order_short _ c.args.i c.requires.0 c.requires.1 c.if-s-i-lt3.true

pub returns-then-s-i : goal.returns-then-s-i
returns-then-s-i c = order_third _ c.args.i c.requires.0 c.requires.1 c.if-s-i-lt3.false c.if-s-i.true

pub returns : goal.returns
returns c = order_second _ c.args.i c.requires.0 c.requires.1 c.if-s-i-lt3.false c.if-s-i.false
