-- `text_characters::in_name` meets its contract, range by range.
use native.Mathlib.Omega.{arith}
use lib.Dec.{leb, eqb}
use Rattle.paper.specs.Lexical.{hits_byte, letter_or_digit}
use Rattle.text_characters.proofs.ByteLaws.{bytes_agree}
use Rattle.text_characters.proofs.in_name.Goals as goal

pub returns-then-b-ge97 : goal.returns-then-b-ge97
returns-then-b-ge97 c = bytes_agree (λ b. leb b 122) (hits_byte letter_or_digit) 97 159 tt c.args.b (omega arith) (omega arith)

pub returns-then-b-le57 : goal.returns-then-b-le57
returns-then-b-le57 c = bytes_agree (λ b. leb 48 b) (hits_byte letter_or_digit) 0 58 tt c.args.b (omega arith) (omega arith)

pub returns-then-b-le90 : goal.returns-then-b-le90
returns-then-b-le90 c = bytes_agree (λ b. leb 65 b) (hits_byte letter_or_digit) 58 33 tt c.args.b (omega arith) (omega arith)

pub returns : goal.returns
returns c = bytes_agree (λ b. eqb b 95) (hits_byte letter_or_digit) 91 6 tt c.args.b (omega arith) (omega arith)
