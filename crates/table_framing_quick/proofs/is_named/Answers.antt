-- One tag each.
use mathlib.Core.Bool.{false≢true}
use Rattle.table_framing.proofs.TagLaws.{leaf_name, leaf_implements, leaf_union_member, leaf_enum_value, leaf_query_root, leaf_mutation_root, leaf_subscription_root}
use Rattle.table_framing_quick.proofs.is_named.Goals as goal

pub returns-in-16 : goal.returns-in-16
returns-in-16 c = λ e. rw c.in-16.is leaf_name

pub returns-in-22 : goal.returns-in-22
returns-in-22 c = λ e. rw c.in-22.is leaf_enum_value

pub returns-in-17 : goal.returns-in-17
returns-in-17 c = λ e. rw c.in-17.is leaf_implements

pub returns-in-21 : goal.returns-in-21
returns-in-21 c = λ e. rw c.in-21.is leaf_union_member

pub returns-in-23 : goal.returns-in-23
returns-in-23 c = λ e. rw c.in-23.is leaf_query_root

pub returns-in-24 : goal.returns-in-24
returns-in-24 c = λ e. rw c.in-24.is leaf_mutation_root

pub returns-in-25 : goal.returns-in-25
returns-in-25 c = λ e. rw c.in-25.is leaf_subscription_root

pub returns-in_default : goal.returns-in_default
returns-in_default c = λ e. absurd (false≢true e)
