-- `text_documents::variables_text` meets its contract: each way out is a law of `DocumentLaws`.
use Rattle.text_cursor.proofs.Exits.{handed_back}
use Rattle.text_variables.proofs.CountedLaws.{said_went}
use Rattle.text_documents.proofs.DocumentLaws.{begin_halts, begin_ready, text_none, text_stop, text_more, text_all}
use Rattle.text_documents.proofs.variables_text.Goals as goal

pub returns-in_err-first : goal.returns-in_err-first
returns-in_err-first c = rw (handed_back _ _ _ c.from_residual.ensures c.in_err-first.was) (begin_halts _ _ _ _ c.begin.result c.begin.ensures _ c.in_err-first.was)

pub returns-then-first-ne-TOKEN_BRACE_OPEN : goal.returns-then-first-ne-TOKEN_BRACE_OPEN
returns-then-first-ne-TOKEN_BRACE_OPEN c = text_none _ _ c.requires.0 c.requires.1 c.begin.result c.begin.ensures _ c.in_ok-first.was _ c.if-first-ne-TOKEN_BRACE_OPEN.true c.no_going.result c.no_going.ensures

pub value-requires : goal.value-requires
value-requires c = begin_ready _ _ c.requires.0 c.requires.1 c.begin.result c.begin.ensures _ c.in_ok-first.was

pub returns-in_err-d : goal.returns-in_err-d
returns-in_err-d c = rw (handed_back _ _ _ c.from_residual-in_err-d.ensures c.in_err-d.was) (text_stop _ _ c.requires.0 c.requires.1 c.begin.result c.begin.ensures _ c.in_ok-first.was c.if-first-ne-TOKEN_BRACE_OPEN.false _ _ c.value.result c.value.ensures _ c.in_err-d.was)

pub returns-then-d-ne-TOKEN_END : goal.returns-then-d-ne-TOKEN_END
returns-then-d-ne-TOKEN_END c = text_more _ _ c.requires.0 c.requires.1 c.begin.result c.begin.ensures _ c.in_ok-first.was c.if-first-ne-TOKEN_BRACE_OPEN.false _ _ (said_went _ _ _ _ _ _ _ _ c.value.result c.value.ensures _ c.in_ok-d.was) _ c.if-d-ne-TOKEN_END.true c.no_going-then-d-ne-TOKEN_END.result c.no_going-then-d-ne-TOKEN_END.ensures

pub returns : goal.returns
returns c = text_all _ _ c.requires.0 c.requires.1 c.begin.result c.begin.ensures _ c.in_ok-first.was c.if-first-ne-TOKEN_BRACE_OPEN.false _ _ (said_went _ _ _ _ _ _ _ _ c.value.result c.value.ensures _ c.in_ok-d.was) c.if-d-ne-TOKEN_END.false
