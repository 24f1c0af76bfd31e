-- word_value: each word by its law.
use mathlib.Core.Path.{sym, ◌∙◌}
use Rattle.text_leaves.proofs.MovedLaws.{ready_lies}
use Rattle.text_values.proofs.LeafLaws.{true_said, false_said, null_said, name_said}
use Rattle.text_values.proofs.word_value.Goals as goal

pub word-w-requires : goal.word-w-requires
word-w-requires c = let l = ready_lies _ _ _ _ c.requires.0 in (l.1, l.2)

pub returns-then-w-eq-WORD_TRUE : goal.returns-then-w-eq-WORD_TRUE
returns-then-w-eq-WORD_TRUE c = true_said _ _ _ _ _ c.requires.0 _ c.requires.1 (sym c.word-w.ensures ∙ c.if-w-eq-WORD_TRUE.true) c.leaf.ensures

pub returns-then-w-eq-WORD_FALSE : goal.returns-then-w-eq-WORD_FALSE
returns-then-w-eq-WORD_FALSE c = false_said _ _ _ _ _ c.requires.0 _ c.requires.1 (sym c.word-w.ensures ∙ c.if-w-eq-WORD_FALSE.true) c.leaf-then-w-eq-WORD_FALSE.ensures

pub returns-then-w-eq-WORD_NULL : goal.returns-then-w-eq-WORD_NULL
returns-then-w-eq-WORD_NULL c = null_said _ _ _ _ _ c.requires.0 _ c.requires.1 (sym c.word-w.ensures ∙ c.if-w-eq-WORD_NULL.true) c.leaf-then-w-eq-WORD_NULL.ensures

pub overflow_sub-end : goal.overflow_sub-end
overflow_sub-end c = (ready_lies _ _ _ _ c.requires.0).1

pub returns : goal.returns
returns c = name_said _ _ _ _ _ c.requires.0 _ c.requires.1 (λ e. c.if-w-eq-WORD_TRUE.false (c.word-w.ensures ∙ e)) (λ e. c.if-w-eq-WORD_FALSE.false (c.word-w.ensures ∙ e)) (λ e. c.if-w-eq-WORD_NULL.false (c.word-w.ensures ∙ e)) c.leaf-2.ensures
