-- The arguments' place, or else the member's.
use Rattle.std.proofs.lemmas.Result.{err_from_is_err_and}
use mathlib.Core.Path.{sym, ◌∙◌}
use Rattle.paper_table.specs.Lists.{only_if}
use Rattle.paper_table.specs.Types.{table_of}
use Rattle.paper_table.specs.Places.{member_at}
use Rattle.table_members.specs.Members.{members_in, member_from}
use Rattle.table_faults.specs.Faults.{member_fails}
use Rattle.table_walks.specs.Walks.{arguments_at}
use Rattle.table_walks.proofs.Walked.{only_true, only_false, placed_right, placed_left}
use Rattle.table_walks.proofs.member_place.Goals as goal

pub returns-in_err-arguments_place : goal.returns-in_err-arguments_place
returns-in_err-arguments_place c =
    let p = err_from_is_err_and c.from_residual.result c.from_residual.ensures.1 in
    rw (p.1, p.2) (placed_left (arguments_at c.args.rule (table_of c.args.t.now) c.args.m (member_from c.args.t.now c.args.tag c.args.start c.args.stop)) (only_if (member_fails c.args.rule (table_of c.args.t.now) (members_in c.args.t.now c.args.from c.args.end) c.args.m (member_from c.args.t.now c.args.tag c.args.start c.args.stop)) (member_at c.args.m)) _ (sym c.in_err-arguments_place.was ∙ c.arguments_place.ensures))

pub returns-then-is_member_broken : goal.returns-then-is_member_broken
returns-then-is_member_broken c = only_true _ (member_at c.args.m) (sym c.is_member_broken.ensures ∙ c.if-is_member_broken.true) ∙ sym (placed_right (arguments_at c.args.rule (table_of c.args.t.now) c.args.m (member_from c.args.t.now c.args.tag c.args.start c.args.stop)) (only_if (member_fails c.args.rule (table_of c.args.t.now) (members_in c.args.t.now c.args.from c.args.end) c.args.m (member_from c.args.t.now c.args.tag c.args.start c.args.stop)) (member_at c.args.m)) (sym c.in_ok-arguments_place.was ∙ c.arguments_place.ensures))

pub returns : goal.returns
returns c = only_false _ (member_at c.args.m) (sym c.is_member_broken.ensures ∙ c.if-is_member_broken.false) ∙ sym (placed_right (arguments_at c.args.rule (table_of c.args.t.now) c.args.m (member_from c.args.t.now c.args.tag c.args.start c.args.stop)) (only_if (member_fails c.args.rule (table_of c.args.t.now) (members_in c.args.t.now c.args.from c.args.end) c.args.m (member_from c.args.t.now c.args.tag c.args.start c.args.stop)) (member_at c.args.m)) (sym c.in_ok-arguments_place.was ∙ c.arguments_place.ensures))
