-- By the tag.
use mathlib.Core.Bool.{false≢true}
use Rattle.table_framing_quick.proofs.UsualLaws.{fine_name}
use Rattle.table_framing_quick.proofs.is_usual_member.Goals as goal

pub returns-then-k-eq-TAG_FIELD : goal.returns-then-k-eq-TAG_FIELD
returns-then-k-eq-TAG_FIELD c = λ e. rw c.if-k-eq-TAG_FIELD.true (c.is_usual_field.ensures e 0)

pub returns-then-k-eq-TAG_ARGUMENT : goal.returns-then-k-eq-TAG_ARGUMENT
returns-then-k-eq-TAG_ARGUMENT c = λ e. rw c.if-k-eq-TAG_ARGUMENT.true (c.is_usual_argument.ensures e 1)

pub returns-then-is_named : goal.returns-then-is_named
returns-then-is_named c = λ e. fine_name c.args.at c.args.k _ _ (c.is_named.ensures c.if-is_named.true) c.is_name.ensures e

pub returns : goal.returns
returns c = λ e. absurd (false≢true e)
