-- `text_variables::variable_head` meets its contract: each way out is a law of `HeadLaws`.
use native.Mathlib.Omega.{arith}
use Rattle.text_cursor.proofs.Exits.{handed_back}
use Rattle.text_references.proofs.MovedLaws.{end_within}
use Rattle.text_variables.proofs.HeadLaws.{head_bad, head_nameless, name_ends, head_bad_2, colon_end, head_colonless, head_says}
use Rattle.text_variables.proofs.variable_head.Goals as goal

pub past-requires : goal.past-requires
past-requires c = (c.requires.0.short, (end_within _ c.args.c c.requires.0.within c.requires.0.looks).1)

pub returns-in_err-name : goal.returns-in_err-name
returns-in_err-name c = rw (handed_back _ _ _ c.from_residual.ensures c.in_err-name.was) (head_bad _ _ _ _ c.requires.0 c.requires.1 c.requires.2 c.past.result c.past.ensures _ _ c.in_err-name.was)

pub returns-then-name-ne-TOKEN_NAME : goal.returns-then-name-ne-TOKEN_NAME
returns-then-name-ne-TOKEN_NAME c = head_nameless _ _ _ _ c.requires.0 c.requires.1 c.requires.2 c.past.result c.past.ensures _ c.in_ok-name.was _ c.if-name-ne-TOKEN_NAME.true c.no_going.result c.no_going.ensures

pub overflow_sub-name : goal.overflow_sub-name
overflow_sub-name c = (name_ends _ _ _ _ c.requires.0 c.requires.1 c.requires.2 c.past.result c.past.ensures _ c.in_ok-name.was).0

pub past-requires-2 : goal.past-requires-2
past-requires-2 c = (c.requires.0.short, (name_ends _ _ _ _ c.requires.0 c.requires.1 c.requires.2 c.past.result c.past.ensures _ c.in_ok-name.was).1)

pub returns-in_err-colon : goal.returns-in_err-colon
returns-in_err-colon c = rw (handed_back _ _ _ c.from_residual-in_err-colon.ensures c.in_err-colon.was) (head_bad_2 _ _ _ _ c.requires.0 c.requires.1 c.requires.2 c.past.result c.past.ensures _ c.in_ok-name.was c.if-name-ne-TOKEN_NAME.false c.past-2.result c.past-2.ensures _ _ c.in_err-colon.was)

pub returns-then-colon-ne-TOKEN_COLON : goal.returns-then-colon-ne-TOKEN_COLON
returns-then-colon-ne-TOKEN_COLON c = head_colonless _ _ _ _ c.requires.0 c.requires.1 c.requires.2 c.past.result c.past.ensures _ c.in_ok-name.was c.if-name-ne-TOKEN_NAME.false c.past-2.result c.past-2.ensures _ c.in_ok-colon.was _ c.if-colon-ne-TOKEN_COLON.true c.no_going-then-colon-ne-TOKEN_COLON.result c.no_going-then-colon-ne-TOKEN_COLON.ensures

pub overflow_add-n-3 : goal.overflow_add-n-3
overflow_add-n-3 c = omega (arith, c.requires.2)

pub past-requires-3 : goal.past-requires-3
past-requires-3 c = (c.requires.0.short, colon_end _ _ _ _ c.requires.0 c.requires.1 c.requires.2 c.past.result c.past.ensures _ c.in_ok-name.was c.if-name-ne-TOKEN_NAME.false c.past-2.result c.past-2.ensures _ c.in_ok-colon.was)

pub returns : goal.returns
returns c = head_says _ _ _ _ c.requires.0 c.requires.1 c.requires.2 c.past.result c.past.ensures _ c.in_ok-name.was c.if-name-ne-TOKEN_NAME.false c.past-2.result c.past-2.ensures _ c.in_ok-colon.was c.if-colon-ne-TOKEN_COLON.false _ c.put_row.ensures c.past-3.result c.past-3.ensures
