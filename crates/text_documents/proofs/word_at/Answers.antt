-- `text_documents::word_at` meets its contract: the word of a name, or 0.
use mathlib.Core.Path.{sym, ◌∙◌}
use Rattle.text_documents.proofs.WordLaws.{name_word, no_word}
use Rattle.text_documents.proofs.word_at.Goals as goal

pub returns-then-c-eq-TOKEN_NAME : goal.returns-then-c-eq-TOKEN_NAME
returns-then-c-eq-TOKEN_NAME c = c.word.ensures ∙ sym (name_word _ c.args.c c.if-c-eq-TOKEN_NAME.true)

pub returns : goal.returns
returns c = sym (no_word _ c.args.c c.if-c-eq-TOKEN_NAME.false)
