-- `text_documents::document` meets its contract: the loop has read definitions, and what is left of the text falls.
use Prim.Native.Nat.{◌-◌}
use lib.ListN.{length}
use Rattle.text_documents.proofs.DocumentLaws.{Defined}
use Rattle.text_documents.proofs.document.Given as goal

abbrev pub invariant-loop-next : goal.invariant-loop-next
invariant-loop-next l = Defined l.s l.initial.rows l.rows l.initial.c l.c l.fragments

abbrev pub decreases-loop-next : goal.decreases-loop-next
decreases-loop-next l = length l.s - l.c.stop
