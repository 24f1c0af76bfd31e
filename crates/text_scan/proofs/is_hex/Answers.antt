-- `is_hex`: span by span.
use mathlib.Core.Bool.{true, false}
use native.Mathlib.Omega.{arith}
use lib.Dec.{ltb}
use Rattle.paper.specs.Lexical.{hits_byte, hex}
use Rattle.text_characters.proofs.ByteLaws.{bytes_agree}
use Rattle.text_scan.proofs.is_hex.Goals as goal

pub returns-then-b-lt48 : goal.returns-then-b-lt48
returns-then-b-lt48 c = bytes_agree (λ _. false) (hits_byte hex) 0 48 tt c.args.b (omega arith) (omega arith)

pub returns-then-b-lt58 : goal.returns-then-b-lt58
returns-then-b-lt58 c = bytes_agree (λ _. true) (hits_byte hex) 48 10 tt c.args.b (omega arith) (omega arith)

pub returns-then-b-lt65 : goal.returns-then-b-lt65
returns-then-b-lt65 c = bytes_agree (λ _. false) (hits_byte hex) 58 7 tt c.args.b (omega arith) (omega arith)

pub returns-then-b-lt71 : goal.returns-then-b-lt71
returns-then-b-lt71 c = bytes_agree (λ _. true) (hits_byte hex) 65 6 tt c.args.b (omega arith) (omega arith)

pub returns-then-b-lt97 : goal.returns-then-b-lt97
returns-then-b-lt97 c = bytes_agree (λ _. false) (hits_byte hex) 71 26 tt c.args.b (omega arith) (omega arith)

pub returns : goal.returns
returns c = bytes_agree (λ b. ltb b 103) (hits_byte hex) 97 159 tt c.args.b (omega arith) (omega arith)
