-- `text_references::close_brackets` meets its contract: the loop has closed so many brackets.
use Prim.Native.Nat.{◌≤◌}
use Rattle.text_references.specs.Types.{closers, Wraps}
use Rattle.text_references.proofs.close_brackets.Given as goal

abbrev pub invariant-loop : goal.invariant-loop
invariant-loop l = Wraps l.s l.initial.v l.v (closers l.counter) l.counter × (l.counter ≤ l.opened)
