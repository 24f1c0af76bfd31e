-- `text_documents::fragment_rest` meets its contract: each way out is a law of `FragmentLaws`.
use mathlib.Core.Path.{sym, ◌∙◌}
use Rattle.text_cursor.proofs.Exits.{handed_back}
use Rattle.text_references.proofs.MovedLaws.{end_within}
use Rattle.text_variables.proofs.CountedLaws.{said_went, went_ready}
use Rattle.text_documents.proofs.FragmentLaws.{at_on, from_name_bad, condition_ready, from_name_none, from_name_other, from_name_stop, from_name_says}
use Rattle.text_documents.proofs.fragment_rest.Goals as goal

pub past-requires : goal.past-requires
past-requires c = (c.requires.0.short, (end_within _ c.args.c c.requires.0.within c.requires.0.looks).1)

pub returns-in_err-d : goal.returns-in_err-d
returns-in_err-d c = rw (handed_back _ _ _ c.from_residual.ensures c.in_err-d.was) (from_name_bad _ _ _ _ c.requires.0 c.requires.2 c.past.result c.past.ensures _ _ c.in_err-d.was)

pub returns-then-d-ne-TOKEN_NAME : goal.returns-then-d-ne-TOKEN_NAME
returns-then-d-ne-TOKEN_NAME c = from_name_none _ _ _ _ c.requires.0 c.requires.2 c.past.result c.past.ensures _ c.in_ok-d.was _ c.if-d-ne-TOKEN_NAME.true c.no_going.result c.no_going.ensures

pub names_fragment-requires : goal.names_fragment-requires
names_fragment-requires c = let g = condition_ready _ _ _ _ c.requires.0 c.requires.2 c.past.result c.past.ensures _ c.in_ok-d.was in end_within _ c.in_ok-d.d g.within g.looks

pub returns-then-names_fragment : goal.returns-then-names_fragment
returns-then-names_fragment c = from_name_other _ _ _ _ c.requires.0 c.requires.2 c.past.result c.past.ensures _ c.in_ok-d.was _ (sym c.names_fragment.ensures ∙ c.if-names_fragment.true) c.no_going-then-names_fragment.result c.no_going-then-names_fragment.ensures

pub condition-requires : goal.condition-requires
condition-requires c = (condition_ready _ _ _ _ c.requires.0 c.requires.2 c.past.result c.past.ensures _ c.in_ok-d.was, at_on _ c.in_ok-d.d c.if-d-ne-TOKEN_NAME.false (sym c.names_fragment.ensures ∙ c.if-names_fragment.false))

pub returns-in_err-e : goal.returns-in_err-e
returns-in_err-e c = rw (handed_back _ _ _ c.from_residual-in_err-e.ensures c.in_err-e.was) (from_name_stop _ _ _ _ c.requires.0 c.requires.2 c.past.result c.past.ensures _ c.in_ok-d.was _ _ c.condition.result c.condition.ensures _ c.in_err-e.was)

pub definition_body-requires : goal.definition_body-requires
definition_body-requires c = (went_ready _ _ _ _ _ _ _ _ _ c.requires.0.short (said_went _ _ _ _ _ _ _ _ c.condition.result c.condition.ensures _ c.in_ok-e.was) _ c.requires.0.below, c.requires.1)

pub returns : goal.returns
returns c = from_name_says _ _ _ _ c.requires.0 c.requires.2 c.past.result c.past.ensures _ c.in_ok-d.was _ _ (said_went _ _ _ _ _ _ _ _ c.condition.result c.condition.ensures _ c.in_ok-e.was) _ c.definition_body.result c.definition_body.ensures
