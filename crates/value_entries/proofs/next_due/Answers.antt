-- The next argument or member.
use mathlib.Core.Path.{subst}
use Rattle.table_members.specs.Members.{NextArgument}
use Rattle.value_entries.proofs.DueLaws.{next_member, no_argument, next_argument}
use Rattle.value_entries.proofs.next_due.Goals as goal

pub returns-then-kind-ne-KIND_ARGUMENT : goal.returns-then-kind-ne-KIND_ARGUMENT
returns-then-kind-ne-KIND_ARGUMENT c = let a = c.args in
    next_member a.kind a.t.now a.at a.end c.if-kind-ne-KIND_ARGUMENT.true c.next_member.result c.next_member.ensures

pub returns-in_err-f : goal.returns-in_err-f
returns-in_err-f c = let a = c.args in
    rw c.from_residual.ensures (no_argument a.kind a.t.now a.at a.end c.if-kind-ne-KIND_ARGUMENT.false (subst (NextArgument a.t.now a.at a.end) c.in_err-f.was c.next_argument.ensures))

pub returns : goal.returns
returns c = let a = c.args in
    next_argument a.kind a.t.now a.at a.end _ _ c.if-kind-ne-KIND_ARGUMENT.false (subst (NextArgument a.t.now a.at a.end) c.in_ok-f.was c.next_argument.ensures)
