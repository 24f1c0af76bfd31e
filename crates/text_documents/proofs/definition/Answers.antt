-- `text_documents::definition` meets its contract: each way out is a law of `DefinitionLaws`, over the answer of the definition that it is.
use mathlib.Core.Path.{sym, ◌∙◌}
use native.Mathlib.Omega.{arith}
use Rattle.text_references.proofs.MovedLaws.{end_within}
use Rattle.text_documents.proofs.DefinitionLaws.{after_other, after_brace, at_type, at_fragment, definition_operation, definition_fragment, definition_none}
use Rattle.text_documents.proofs.definition.Goals as goal

pub returns-then-c-eq-TOKEN_BRACE_OPEN : goal.returns-then-c-eq-TOKEN_BRACE_OPEN
returns-then-c-eq-TOKEN_BRACE_OPEN c = definition_operation _ _ _ _ _ (after_brace c.args.s.now c.args.c _ c.if-c-eq-TOKEN_BRACE_OPEN.true) c.short_operation.result c.short_operation.ensures

pub word_at-w-requires : goal.word_at-w-requires
word_at-w-requires c = end_within _ c.args.c c.requires.within c.requires.looks

pub operation-requires : goal.operation-requires
operation-requires c = (c.requires, at_type _ c.args.c 0 (sym c.word_at-w.ensures ∙ c.if-w-eq-WORD_QUERY.true) (omega arith))

pub returns-then-w-eq-WORD_QUERY : goal.returns-then-w-eq-WORD_QUERY
returns-then-w-eq-WORD_QUERY c = definition_operation _ _ _ _ _ (after_other _ c.args.c _ (λ e. let i = c.if-w-eq-WORD_QUERY.true in let j = c.word_at-w.ensures in let x : ⊥ = omega arith in x)) c.operation.result c.operation.ensures

pub fragment-requires : goal.fragment-requires
fragment-requires c = (c.requires, at_fragment _ c.args.c (sym c.word_at-w.ensures ∙ c.if-w-eq-WORD_FRAGMENT.true))

pub returns-then-w-eq-WORD_FRAGMENT : goal.returns-then-w-eq-WORD_FRAGMENT
returns-then-w-eq-WORD_FRAGMENT c = definition_fragment _ _ _ _ _ (sym c.word_at-w.ensures ∙ c.if-w-eq-WORD_FRAGMENT.true) c.fragment.result c.fragment.ensures

pub operation-requires-then-w-eq-WORD_MUTATION : goal.operation-requires-then-w-eq-WORD_MUTATION
operation-requires-then-w-eq-WORD_MUTATION c = (c.requires, at_type _ c.args.c 1 (sym c.word_at-w.ensures ∙ c.if-w-eq-WORD_MUTATION.true) (omega arith))

pub returns-then-w-eq-WORD_MUTATION : goal.returns-then-w-eq-WORD_MUTATION
returns-then-w-eq-WORD_MUTATION c = definition_operation _ _ _ _ _ (after_other _ c.args.c _ (λ e. c.if-w-eq-WORD_FRAGMENT.false (c.word_at-w.ensures ∙ e))) c.operation-then-w-eq-WORD_MUTATION.result c.operation-then-w-eq-WORD_MUTATION.ensures

pub operation-requires-then-w-eq-WORD_SUBSCRIPTION : goal.operation-requires-then-w-eq-WORD_SUBSCRIPTION
operation-requires-then-w-eq-WORD_SUBSCRIPTION c = (c.requires, at_type _ c.args.c 2 (sym c.word_at-w.ensures ∙ c.if-w-eq-WORD_SUBSCRIPTION.true) (omega arith))

pub returns-then-w-eq-WORD_SUBSCRIPTION : goal.returns-then-w-eq-WORD_SUBSCRIPTION
returns-then-w-eq-WORD_SUBSCRIPTION c = definition_operation _ _ _ _ _ (after_other _ c.args.c _ (λ e. c.if-w-eq-WORD_FRAGMENT.false (c.word_at-w.ensures ∙ e))) c.operation-then-w-eq-WORD_SUBSCRIPTION.result c.operation-then-w-eq-WORD_SUBSCRIPTION.ensures

pub returns : goal.returns
returns c = definition_none _ _ _ _ _ c.requires c.if-c-eq-TOKEN_BRACE_OPEN.false (λ e. c.if-w-eq-WORD_QUERY.false (c.word_at-w.ensures ∙ e)) (λ e. c.if-w-eq-WORD_FRAGMENT.false (c.word_at-w.ensures ∙ e)) (λ e. c.if-w-eq-WORD_MUTATION.false (c.word_at-w.ensures ∙ e)) (λ e. c.if-w-eq-WORD_SUBSCRIPTION.false (c.word_at-w.ensures ∙ e)) c.no_going.result c.no_going.ensures
