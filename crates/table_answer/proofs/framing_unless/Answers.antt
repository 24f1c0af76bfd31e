use Rattle.table_answer.proofs.framing_unless.Goals as goal

pub returns-then-usual : goal.returns-then-usual
returns-then-usual c = rw (c.requires.1 c.if-usual.true)
