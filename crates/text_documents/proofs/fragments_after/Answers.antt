-- `text_documents::fragments_after` meets its contract: by the word that the definition begins with.
use mathlib.Core.Path.{sym, ◌∙◌}
use Rattle.text_documents.proofs.DefinitionLaws.{after_fragment, after_other}
use Rattle.text_documents.proofs.fragments_after.Goals as goal

pub returns-then-word_at-eq-WORD_FRAGMENT : goal.returns-then-word_at-eq-WORD_FRAGMENT
returns-then-word_at-eq-WORD_FRAGMENT c = sym (after_fragment _ c.args.c _ (sym c.word_at.ensures ∙ c.if-word_at-eq-WORD_FRAGMENT.true))

pub returns : goal.returns
returns c = sym (after_other _ c.args.c _ (λ e. c.if-word_at-eq-WORD_FRAGMENT.false (c.word_at.ensures ∙ e)))
