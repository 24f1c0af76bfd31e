use Prim.Native.Nat.{◌-◌, ◌≤◌}
use Rattle.paper.specs.Numbers.{most_rows}
use Rattle.table_book.specs.Book.{part}
use Rattle.paper_query.specs.Constructs.{called}
use Rattle.query_rows.specs.Rowed.{rows_in, doc_of}
use Rattle.query_links.specs.Links.{Family}
use Rattle.plan_rows.proofs.RankLaws.{Numbers}
use Rattle.plan_rows.proofs.variable_number.Given as goal

abbrev pub invariant-loop-i : goal.invariant-loop-i
invariant-loop-i l = (f : Family (rows_in l.rows l.n) l.first l.next) (most : l.o ≤ most_rows) → Numbers l.rows l.first l.next l.n f l.o most (called (doc_of l.s l.rows l.n) (part l.t l.at l.l)) l.k l.i

abbrev pub decreases-loop-i : goal.decreases-loop-i
decreases-loop-i l = l.n - l.i
