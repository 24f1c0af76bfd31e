-- `text_tokens::is_digit` meets its contract, range by range.
use mathlib.Core.Bool.{false}
use native.Mathlib.Omega.{arith}
use lib.Dec.{ltb}
use Rattle.paper.specs.Lexical.{hits_byte, digit}
use Rattle.text_characters.proofs.ByteLaws.{bytes_agree}
use Rattle.text_tokens.proofs.is_digit.Goals as goal

pub returns-then-b-lt48 : goal.returns-then-b-lt48
returns-then-b-lt48 c = bytes_agree (λ b. false) (hits_byte digit) 0 48 tt c.args.b (omega arith) (omega arith)

pub returns : goal.returns
returns c = bytes_agree (λ b. ltb b 58) (hits_byte digit) 48 208 tt c.args.b (omega arith) (omega arith)
