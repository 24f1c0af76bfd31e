-- The names of the variables, one after the other.
use mathlib.Core.Path.{◌≡◌}
use Prim.Native.Nat.{◌-◌}
use Rattle.table_book.specs.Book.{part}
use Rattle.value_held.specs.Holding.{held_from}
use Rattle.value_held.proofs.find_held.Given as goal

abbrev pub invariant-loop-j : goal.invariant-loop-j
invariant-loop-j l = held_from l.s l.held (part l.s l.at l.l) l.many 0 ≡ held_from l.s l.held (part l.s l.at l.l) (l.many - l.j) l.j
