-- `text_references::open_brackets` meets its contract: the loop has opened so many brackets; each counts as a mark, and there are seven at most.
use Prim.Native.Nat.{◌-◌}
use Rattle.paper.specs.Numbers.{most_wrappers}
use Rattle.text_references.proofs.OpenLaws.{Opening}
use Rattle.text_references.proofs.open_brackets.Given as goal

abbrev pub invariant-loop-d : goal.invariant-loop-d
invariant-loop-d l = Opening l.s l.initial.d l.left l.n l.d l.marks

abbrev pub decreases-loop-d : goal.decreases-loop-d
decreases-loop-d l = most_wrappers - l.marks
