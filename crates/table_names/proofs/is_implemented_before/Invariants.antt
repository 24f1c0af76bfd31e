-- A walk that counts over the names before.
use Rattle.paper.specs.Tokens.{same}
use Rattle.table_book.specs.Book.{part}
use Rattle.table_members.specs.Members.{implemented_in}
use Rattle.table_names.proofs.CountedLaws.{Counting}
use Rattle.table_names.proofs.is_implemented_before.Given as goal

abbrev pub invariant-loop : goal.invariant-loop
invariant-loop l = Counting (same (part l.t l.at l.n)) l.from l.end l.i l.count l.counter (implemented_in l.t l.from l.end) (implemented_in l.t l.i l.end)
