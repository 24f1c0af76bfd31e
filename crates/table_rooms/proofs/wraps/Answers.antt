-- One of two bytes.
use borrow.Author.Tests.{eq-eqb, ne_eqb}
use Rattle.table_rooms.proofs.wraps.Goals as goal

pub returns-then-b-eq-BYTE_BRACKET_L : goal.returns-then-b-eq-BYTE_BRACKET_L
returns-then-b-eq-BYTE_BRACKET_L c = rw (eq-eqb c.args.b 91 c.if-b-eq-BYTE_BRACKET_L.true)

pub returns-then-b-eq-BYTE_BANG : goal.returns-then-b-eq-BYTE_BANG
returns-then-b-eq-BYTE_BANG c = rw (eq-eqb c.args.b 33 c.if-b-eq-BYTE_BANG.true, ne_eqb c.args.b 91 c.if-b-eq-BYTE_BRACKET_L.false)

pub returns : goal.returns
returns c = rw (ne_eqb c.args.b 33 c.if-b-eq-BYTE_BANG.false, ne_eqb c.args.b 91 c.if-b-eq-BYTE_BRACKET_L.false)
