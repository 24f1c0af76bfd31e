-- `is_escaped`: byte by byte.
use mathlib.Core.Path.{sym, ◌∙◌}
use mathlib.Core.Bool.{true, ◌||◌}
use native.Mathlib.Omega.{arith}
use lib.Dec.{eqb}
use borrow.Author.Tests.{ne_eqb}
use Rattle.paper.specs.Lexical.{hits_byte, escaped}
use Rattle.text_characters.proofs.ByteLaws.{bytes_agree}
use Rattle.text_scan.proofs.is_escaped.Goals as goal

pub returns-then-b-eq34 : goal.returns-then-b-eq34
returns-then-b-eq34 c = bytes_agree (λ _. true) (hits_byte escaped) 34 1 tt c.args.b (omega arith) (omega arith)

pub returns-then-b-eq92 : goal.returns-then-b-eq92
returns-then-b-eq92 c = bytes_agree (λ _. true) (hits_byte escaped) 92 1 tt c.args.b (omega arith) (omega arith)

pub returns-then-b-eq47 : goal.returns-then-b-eq47
returns-then-b-eq47 c = bytes_agree (λ _. true) (hits_byte escaped) 47 1 tt c.args.b (omega arith) (omega arith)

pub returns-then-b-eq98 : goal.returns-then-b-eq98
returns-then-b-eq98 c = bytes_agree (λ _. true) (hits_byte escaped) 98 1 tt c.args.b (omega arith) (omega arith)

pub returns-then-b-eq102 : goal.returns-then-b-eq102
returns-then-b-eq102 c = bytes_agree (λ _. true) (hits_byte escaped) 102 1 tt c.args.b (omega arith) (omega arith)

pub returns-then-b-eq110 : goal.returns-then-b-eq110
returns-then-b-eq110 c = bytes_agree (λ _. true) (hits_byte escaped) 110 1 tt c.args.b (omega arith) (omega arith)

pub returns-then-b-eq114 : goal.returns-then-b-eq114
returns-then-b-eq114 c = bytes_agree (λ _. true) (hits_byte escaped) 114 1 tt c.args.b (omega arith) (omega arith)

pub returns : goal.returns
returns c = sym (bytes_agree (hits_byte escaped) (λ b. eqb b 34 || (eqb b 92 || (eqb b 47 || (eqb b 98 || (eqb b 102 || (eqb b 110 || (eqb b 114 || (eqb b 116)))))))) 0 256 tt c.args.b (omega arith) (omega arith) ∙ rw (ne_eqb c.args.b 34 c.if-b-eq34.false, ne_eqb c.args.b 92 c.if-b-eq92.false, ne_eqb c.args.b 47 c.if-b-eq47.false, ne_eqb c.args.b 98 c.if-b-eq98.false, ne_eqb c.args.b 102 c.if-b-eq102.false, ne_eqb c.args.b 110 c.if-b-eq110.false, ne_eqb c.args.b 114 c.if-b-eq114.false))
