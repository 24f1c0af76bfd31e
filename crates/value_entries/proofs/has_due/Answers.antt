-- By the kind of the entries.
use mathlib.Core.Path.{◌∙◌}
use Rattle.table_book.specs.Book.{part}
use Rattle.value_entries.proofs.DueLaws.{due_argument_is, due_member}
use Rattle.value_entries.proofs.has_due.Goals as goal

pub returns-then-kind-eq-KIND_ARGUMENT : goal.returns-then-kind-eq-KIND_ARGUMENT
returns-then-kind-eq-KIND_ARGUMENT c = let a = c.args in
    c.has_argument.ensures ∙ due_argument_is a.kind a.t.now a.start a.end (part a.s.now a.at a.l) c.if-kind-eq-KIND_ARGUMENT.true

pub returns : goal.returns
returns c = let a = c.args in
    c.has_member.ensures ∙ due_member a.kind a.t.now a.start a.end (part a.s.now a.at a.l) c.if-kind-eq-KIND_ARGUMENT.false
