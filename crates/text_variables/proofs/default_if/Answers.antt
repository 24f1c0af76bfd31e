-- `text_variables::default_if` meets its contract: each way out is a law of `DefaultLaws`.
use Rattle.text_cursor.proofs.Exits.{handed_back}
use Rattle.text_references.proofs.MovedLaws.{end_within}
use Rattle.text_variables.proofs.DefaultLaws.{default_none, default_bad, default_ready, default_says}
use Rattle.text_variables.proofs.default_if.Goals as goal

pub returns-then-c-ne-TOKEN_EQUALS : goal.returns-then-c-ne-TOKEN_EQUALS
returns-then-c-ne-TOKEN_EQUALS c = default_none _ _ _ _ _ c.requires c.if-c-ne-TOKEN_EQUALS.true

pub past-requires : goal.past-requires
past-requires c = (c.requires.short, (end_within _ c.args.c c.requires.within c.requires.looks).1)

pub returns-in_err-first : goal.returns-in_err-first
returns-in_err-first c = rw (handed_back _ _ _ c.from_residual.ensures c.in_err-first.was) (default_bad _ _ _ _ _ c.requires c.if-c-ne-TOKEN_EQUALS.false c.past.result c.past.ensures _ _ c.in_err-first.was)

pub value-requires : goal.value-requires
value-requires c = default_ready _ _ _ _ 0 c.requires c.if-c-ne-TOKEN_EQUALS.false c.past.result c.past.ensures _ c.in_ok-first.was

pub returns : goal.returns
returns c = default_says _ _ _ _ _ c.requires c.if-c-ne-TOKEN_EQUALS.false c.past.result c.past.ensures _ c.in_ok-first.was _ c.value.result c.value.ensures
