-- `text_tokens::spread` meets its contract.
use Rattle.text_tokens.proofs.PieceLaws.{spread_short, spread_yes, spread_third, spread_second}
use Rattle.text_tokens.proofs.spread.Goals as goal

pub returns-then-s-at-lt3 : goal.returns-then-s-at-lt3
returns-then-s-at-lt3 c = spread_short _ c.args.at c.requires.0 c.requires.1 c.if-s-at-lt3.true

pub returns-then-s-at-eq46-2 : goal.returns-then-s-at-eq46-2
returns-then-s-at-eq46-2 c = spread_yes _ c.args.at c.requires.0 c.requires.1 c.if-s-at-lt3.false c.if-s-at-eq46.true c.if-s-at-eq46-2.true

pub returns-else-s-at-eq46-2 : goal.returns-else-s-at-eq46-2
returns-else-s-at-eq46-2 c = spread_third _ c.args.at c.requires.0 c.requires.1 c.if-s-at-lt3.false c.if-s-at-eq46.true c.if-s-at-eq46-2.false

pub returns-else-s-at-eq46 : goal.returns-else-s-at-eq46
returns-else-s-at-eq46 c = spread_second _ c.args.at c.requires.0 c.requires.1 c.if-s-at-lt3.false c.if-s-at-eq46.false
