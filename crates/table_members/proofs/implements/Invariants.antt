-- Name by name: one of those from here on is it if and only if one of all is.
use Prim.Native.Nat.{◌-◌}
use Rattle.paper.specs.Tokens.{same}
use Rattle.paper_table.specs.Lists.{any_of}
use Rattle.table_book.specs.Book.{part}
use Rattle.table_members.specs.Members.{implemented_in}
use Rattle.table_members.proofs.FindLaws.{Sought}
use Rattle.table_members.proofs.implements.Given as goal

abbrev pub invariant-loop-f : goal.invariant-loop-f
invariant-loop-f l = Sought l.from l.end l.i (any_of (same (part l.s l.at l.n)) (implemented_in l.t l.from l.end)) (any_of (same (part l.s l.at l.n)) (implemented_in l.t l.i l.end))

abbrev pub decreases-loop-f : goal.decreases-loop-f
decreases-loop-f l = l.end - l.i
