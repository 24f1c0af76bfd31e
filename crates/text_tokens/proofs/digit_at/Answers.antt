-- `text_tokens::digit_at` meets its contract.
use mathlib.Core.Path.{sym, ◌∙◌}
use Rattle.paper.specs.Lexical.{digit}
use Rattle.text_tokens.proofs.RunLaws.{starts_at, starts_end}
use Rattle.text_tokens.proofs.digit_at.Goals as goal

pub returns-then-i-s : goal.returns-then-i-s
returns-then-i-s c = c.is_digit.ensures ∙ sym (starts_at digit _ c.args.i c.if-i-s.true)

pub returns : goal.returns
returns c = sym (starts_end digit _ c.args.i c.if-i-s.false)
