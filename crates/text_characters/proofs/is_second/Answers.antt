-- `is_second`: by the first byte, and then span by span.
use mathlib.Core.Path.{◌∙◌}
use mathlib.Core.Bool.{false}
use native.Mathlib.Omega.{arith}
use borrow.Author.Tests.{eq-eqb, ne_eqb}
use Rattle.paper.specs.Lexical.{hits_byte, tail, tail_high, tail_low}
use Rattle.text_characters.proofs.ByteLaws.{bytes_agree}
use Rattle.text_characters.proofs.is_second.Goals as goal

pub returns-then-b-lt160 : goal.returns-then-b-lt160
returns-then-b-lt160 c = rw (eq-eqb c.args.lead 224 c.if-lead-eq224.true) (bytes_agree (λ _. false) (hits_byte tail_high) 0 160 tt c.args.b (omega arith) (omega arith))

pub returns-then-lead-eq224 : goal.returns-then-lead-eq224
returns-then-lead-eq224 c = rw (eq-eqb c.args.lead 224 c.if-lead-eq224.true) (c.is_tail.ensures ∙ bytes_agree (hits_byte tail) (hits_byte tail_high) 160 96 tt c.args.b (omega arith) (omega arith))

pub returns-then-b-gt159 : goal.returns-then-b-gt159
returns-then-b-gt159 c = rw (ne_eqb c.args.lead 224 c.if-lead-eq224.false, eq-eqb c.args.lead 237 c.if-lead-eq237.true) (bytes_agree (λ _. false) (hits_byte tail_low) 160 96 tt c.args.b (omega arith) (omega arith))

pub returns-then-lead-eq237 : goal.returns-then-lead-eq237
returns-then-lead-eq237 c = rw (ne_eqb c.args.lead 224 c.if-lead-eq224.false, eq-eqb c.args.lead 237 c.if-lead-eq237.true) (c.is_tail-then-lead-eq237.ensures ∙ bytes_agree (hits_byte tail) (hits_byte tail_low) 0 160 tt c.args.b (omega arith) (omega arith))

pub returns : goal.returns
returns c = rw (ne_eqb c.args.lead 224 c.if-lead-eq224.false, ne_eqb c.args.lead 237 c.if-lead-eq237.false) c.is_tail-2.ensures
