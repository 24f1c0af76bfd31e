-- From the last row to the first, each in front of its parent's.
use Rattle.query_links.specs.Links.{firsts_size}
use Rattle.query_links.proofs.Linking.{RowChains, parents}
use Rattle.query_links.proofs.families.Given as goal

abbrev pub invariant-loop-j : goal.invariant-loop-j
invariant-loop-j l = RowChains parents firsts_size l.rows l.n l.first l.next l.j
