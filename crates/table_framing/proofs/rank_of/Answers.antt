-- A reference apart, twice the number.
use borrow.Author.Tests.{eq-eqb, ne_eqb}
use Rattle.table_framing.proofs.rank_of.Goals as goal

pub returns-then-k-eq-TAG_REFERENCE : goal.returns-then-k-eq-TAG_REFERENCE
returns-then-k-eq-TAG_REFERENCE c = rw (eq-eqb _ _ c.if-k-eq-TAG_REFERENCE.true)

pub returns : goal.returns
returns c = rw (ne_eqb _ _ c.if-k-eq-TAG_REFERENCE.false)
