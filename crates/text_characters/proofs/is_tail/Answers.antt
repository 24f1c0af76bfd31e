-- `is_tail`: span by span.
use mathlib.Core.Bool.{false}
use native.Mathlib.Omega.{arith}
use lib.Dec.{ltb}
use Rattle.paper.specs.Lexical.{hits_byte, tail}
use Rattle.text_characters.proofs.ByteLaws.{bytes_agree}
use Rattle.text_characters.proofs.is_tail.Goals as goal

pub returns-then-b-lt128 : goal.returns-then-b-lt128
returns-then-b-lt128 c = bytes_agree (λ _. false) (hits_byte tail) 0 128 tt c.args.b (omega arith) (omega arith)

pub returns : goal.returns
returns c = bytes_agree (λ b. ltb b 192) (hits_byte tail) 128 128 tt c.args.b (omega arith) (omega arith)
