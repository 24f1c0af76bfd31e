-- The rank, then the tag.
use borrow.Author.Tests.{le-leb, lt-leb, eq-eqb, ne_eqb}
use Rattle.table_framing.proofs.in_place.Goals as goal

pub returns-then-rank_of-least : goal.returns-then-rank_of-least
returns-then-rank_of-least c = let q = c.rank_of.ensures in rw (lt-leb _ _ (rw q at c.if-rank_of-least.true))

pub returns-then-k-first : goal.returns-then-k-first
returns-then-k-first c = let q = c.rank_of.ensures in rw (le-leb _ _ (rw q at c.if-rank_of-least.false), eq-eqb _ _ c.if-k-first.true)

pub returns-then-k-from : goal.returns-then-k-from
returns-then-k-from c = let q = c.rank_of.ensures in rw (le-leb _ _ (rw q at c.if-rank_of-least.false), ne_eqb _ _ c.if-k-first.false, lt-leb _ _ c.if-k-from.true)

pub returns : goal.returns
returns c = let q = c.rank_of.ensures in rw (le-leb _ _ (rw q at c.if-rank_of-least.false), ne_eqb _ _ c.if-k-first.false, le-leb _ _ c.if-k-from.false)
