-- `text_references::type_reference` meets its contract: each way out is a law of `TypeLaws`.
use mathlib.Core.Logic.{inl, inr}
use mathlib.Core.List.{[]}
use native.Mathlib.Omega.{arith}
use Rattle.text_cursor.proofs.Exits.{handed_on}
use Rattle.text_references.proofs.TypeLaws.{type_none, type_deep, type_full, type_stop, type_ready, type_says}
use Rattle.text_references.proofs.type_reference.Goals as goal
use Rattle.text_references.proofs.type_reference.Goals.{then-c-ne-TOKEN_NAME+else-c-ne-TOKEN_BRACKET_OPEN+else-left-eq0, else-c-ne-TOKEN_NAME}

pub returns-then-c-ne-TOKEN_BRACKET_OPEN : goal.returns-then-c-ne-TOKEN_BRACKET_OPEN
returns-then-c-ne-TOKEN_BRACKET_OPEN c = type_none _ _ _ _ _ c.requires _ c.if-c-ne-TOKEN_NAME.true c.if-c-ne-TOKEN_BRACKET_OPEN.true c.no_going.result c.no_going.ensures

pub returns-then-left-eq0 : goal.returns-then-left-eq0
returns-then-left-eq0 c = type_deep _ _ _ _ _ c.requires [] c.if-c-ne-TOKEN_BRACKET_OPEN.false c.if-left-eq0.true

pub returns-then-n-eq-MOST_ROWS : goal.returns-then-n-eq-MOST_ROWS
returns-then-n-eq-MOST_ROWS c = type_full _ _ _ _ _ c.requires [] (elim c.if-c-ne-TOKEN_NAME.branch [ then-c-ne-TOKEN_NAME+else-c-ne-TOKEN_BRACKET_OPEN+else-left-eq0 w ↦ inr (w.if-c-ne-TOKEN_BRACKET_OPEN.false, omega (arith, w.if-left-eq0.false)) | else-c-ne-TOKEN_NAME w ↦ inl w.if-c-ne-TOKEN_NAME.false ]) c.if-n-eq-MOST_ROWS.true

pub typed-requires : goal.typed-requires
typed-requires c = type_ready _ _ _ _ _ c.requires c.if-n-eq-MOST_ROWS.false c.open_brackets.result _ c.open_brackets.ensures c.in_ok-w.was

pub returns : goal.returns
returns c = type_says _ _ _ _ _ c.requires c.if-n-eq-MOST_ROWS.false c.open_brackets.result _ c.open_brackets.ensures c.in_ok-w.was _ c.typed.result c.typed.ensures

pub returns-in_err-w : goal.returns-in_err-w
returns-in_err-w c = rw (handed_on _ _ c.from_residual.ensures) (type_stop _ _ _ _ _ c.requires c.if-n-eq-MOST_ROWS.false [] c.open_brackets.result _ c.open_brackets.ensures c.in_err-w.was)
