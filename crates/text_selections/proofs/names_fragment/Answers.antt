-- `names_fragment` tells the names but `on`.
use Rattle.text_selections.proofs.SpreadLaws.{names_when, names_no_name}
use Rattle.text_selections.proofs.names_fragment.Goals as goal

pub returns-then-c-eq-TOKEN_NAME : goal.returns-then-c-eq-TOKEN_NAME
returns-then-c-eq-TOKEN_NAME c = names_when c.args.s.now c.args.c c.if-c-eq-TOKEN_NAME.true _ c.word.ensures

pub returns : goal.returns
returns c = names_no_name c.args.s.now c.args.c c.if-c-eq-TOKEN_NAME.false
