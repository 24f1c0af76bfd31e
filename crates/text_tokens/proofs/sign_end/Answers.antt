-- `text_tokens::sign_end` meets its contract.
use Rattle.text_tokens.proofs.NumberParts.{sign_plus, sign_minus, sign_none, sign_over}
use Rattle.text_tokens.proofs.sign_end.Goals as goal

pub returns-then-b-eq43 : goal.returns-then-b-eq43
returns-then-b-eq43 c = sign_plus _ c.args.i c.if-i-s.true c.if-b-eq43.true

pub returns-then-b-eq45 : goal.returns-then-b-eq45
returns-then-b-eq45 c = sign_minus _ c.args.i c.if-i-s.true c.if-b-eq45.true

pub returns-else-b-eq45 : goal.returns-else-b-eq45
returns-else-b-eq45 c = sign_none _ c.args.i c.if-i-s.true c.if-b-eq43.false c.if-b-eq45.false

pub returns-else-i-s : goal.returns-else-i-s
returns-else-i-s c = sign_over _ c.args.i c.if-i-s.false
