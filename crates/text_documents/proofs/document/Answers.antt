-- `text_documents::document` meets its contract: the loop has read definitions, and what is left of the text falls.
use mathlib.Core.Path.{sym, ◌∙◌}
use native.Mathlib.Omega.{arith}
use Rattle.text_cursor.proofs.Exits.{handed_back}
use Rattle.text_references.proofs.MovedLaws.{end_within}
use Rattle.text_variables.proofs.CountedLaws.{counted_went}
use Rattle.text_documents.proofs.DocumentLaws.{begin_halts, defined_none, defined_ready, defined_stop, defined_all, defined_more}
use Rattle.text_documents.proofs.document.Goals as goal

pub begin-requires : goal.begin-requires
begin-requires c = c.requires.0

pub returns-in_err-c : goal.returns-in_err-c
returns-in_err-c c = rw (handed_back _ _ _ c.from_residual.ensures c.in_err-c.was) (begin_halts _ _ _ _ c.begin.result c.begin.ensures _ c.in_err-c.was)

pub loop-next-init : goal.loop-next-init
loop-next-init c = defined_none _ _ c.requires.0 c.requires.1 c.begin.result c.begin.ensures _ c.in_ok-c.was

pub definition-requires : goal.definition-requires
definition-requires c = defined_ready _ _ c.requires.0 c.requires.1 c.begin.result c.begin.ensures _ c.in_ok-c.was _ _ _ c.loop-next.invariant

pub shape_of-rows-in_err-next : goal.shape_of-rows-in_err-next
shape_of-rows-in_err-next c = c.definition.auto.rows ∙ c.loop-next.invariant.size ∙ sym c.requires.1

pub returns-in_err-next : goal.returns-in_err-next
returns-in_err-next c = rw (handed_back _ _ _ c.from_residual-in_err-next.ensures c.in_err-next.was) (defined_stop _ _ c.requires.0 c.requires.1 c.begin.result c.begin.ensures _ c.in_ok-c.was _ _ _ c.loop-next.invariant _ _ c.definition.result c.definition.ensures _ c.in_err-next.was)

pub shape_of-rows-then-next-eq-TOKEN_END : goal.shape_of-rows-then-next-eq-TOKEN_END
shape_of-rows-then-next-eq-TOKEN_END c = c.definition.auto.rows ∙ c.loop-next.invariant.size ∙ sym c.requires.1

pub returns-then-next-eq-TOKEN_END : goal.returns-then-next-eq-TOKEN_END
returns-then-next-eq-TOKEN_END c = defined_all _ _ c.requires.0 c.requires.1 c.begin.result c.begin.ensures _ c.in_ok-c.was _ _ _ c.loop-next.invariant _ _ (counted_went _ _ _ _ _ _ _ _ c.definition.result _ _ _ c.definition.ensures _ c.in_ok-next.was) c.if-next-eq-TOKEN_END.true

pub fragments_after-fragments-requires : goal.fragments_after-fragments-requires
fragments_after-fragments-requires c = let g = end_within _ c.loop-next.c c.loop-next.invariant.within c.loop-next.invariant.looks in (g.0, g.1, omega (arith, c.loop-next.invariant.on, c.loop-next.invariant.within, c.requires.0))

pub loop-next-smaller : goal.loop-next-smaller
loop-next-smaller c = omega (arith, counted_went _ _ _ _ _ _ _ _ c.definition.result _ _ _ c.definition.ensures _ c.in_ok-next.was)

pub loop-next-preserved : goal.loop-next-preserved
loop-next-preserved c = defined_more _ _ c.requires.0 c.requires.1 c.begin.result c.begin.ensures _ c.in_ok-c.was _ _ _ c.loop-next.invariant _ _ (counted_went _ _ _ _ _ _ _ _ c.definition.result _ _ _ c.definition.ensures _ c.in_ok-next.was) c.if-next-eq-TOKEN_END.false _ c.fragments_after-fragments.ensures
