-- `text_characters::starts_name` meets its contract, range by range.
use native.Mathlib.Omega.{arith}
use lib.Dec.{leb, eqb}
use Rattle.paper.specs.Lexical.{hits_byte, letter}
use Rattle.text_characters.proofs.ByteLaws.{bytes_agree}
use Rattle.text_characters.proofs.starts_name.Goals as goal

pub returns-then-b-ge97 : goal.returns-then-b-ge97
returns-then-b-ge97 c = bytes_agree (λ b. leb b 122) (hits_byte letter) 97 159 tt c.args.b (omega arith) (omega arith)

pub returns-then-b-le90 : goal.returns-then-b-le90
returns-then-b-le90 c = bytes_agree (λ b. leb 65 b) (hits_byte letter) 0 91 tt c.args.b (omega arith) (omega arith)

pub returns : goal.returns
returns c = bytes_agree (λ b. eqb b 95) (hits_byte letter) 91 6 tt c.args.b (omega arith) (omega arith)
