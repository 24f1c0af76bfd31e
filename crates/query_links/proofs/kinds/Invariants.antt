-- From the last row to the first, each in front of those of its kind.
use Rattle.query_links.specs.Links.{kinds_size}
use Rattle.query_links.proofs.Linking.{RowChains, sorts}
use Rattle.query_links.proofs.kinds.Given as goal

abbrev pub invariant-loop-j : goal.invariant-loop-j
invariant-loop-j l = RowChains sorts kinds_size l.rows l.n l.first l.next l.j
