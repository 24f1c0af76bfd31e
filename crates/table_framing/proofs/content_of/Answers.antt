-- One row of the table for each tag.
use Rattle.table_framing.proofs.TagLaws.{holds_scalar, holds_object, holds_interface, holds_union, holds_enum, holds_input_object, holds_directive, holds_roots, holds_field, holds_argument, leaf_reference, leaf_name, leaf_implements, leaf_union_member, leaf_enum_value, leaf_query_root, leaf_mutation_root, leaf_subscription_root, content_none}
use Rattle.table_framing.proofs.content_of.Goals as goal

pub returns-in-1 : goal.returns-in-1
returns-in-1 c = rw (c.in-1.is, c.named.ensures) holds_scalar

pub returns-in-2 : goal.returns-in-2
returns-in-2 c = rw (c.in-2.is, c.named-in-2.ensures) holds_object

pub returns-in-3 : goal.returns-in-3
returns-in-3 c = rw (c.in-3.is, c.named-in-3.ensures) holds_interface

pub returns-in-4 : goal.returns-in-4
returns-in-4 c = rw (c.in-4.is, c.named-in-4.ensures) holds_union

pub returns-in-5 : goal.returns-in-5
returns-in-5 c = rw (c.in-5.is, c.named-in-5.ensures) holds_enum

pub returns-in-6 : goal.returns-in-6
returns-in-6 c = rw (c.in-6.is, c.named-in-6.ensures) holds_input_object

pub returns-in-7 : goal.returns-in-7
returns-in-7 c = rw (c.in-7.is, c.named-in-7.ensures) holds_directive

pub returns-in-8 : goal.returns-in-8
returns-in-8 c = rw c.in-8.is holds_roots

pub returns-in-18 : goal.returns-in-18
returns-in-18 c = rw (c.in-18.is, c.typed.ensures) holds_field

pub returns-in-19 : goal.returns-in-19
returns-in-19 c = rw (c.in-19.is, c.typed-in-19.ensures) holds_argument

pub returns-in-20 : goal.returns-in-20
returns-in-20 c = rw c.in-20.is leaf_reference

pub returns-in-16 : goal.returns-in-16
returns-in-16 c = rw c.in-16.is leaf_name

pub returns-in-17 : goal.returns-in-17
returns-in-17 c = rw c.in-17.is leaf_implements

pub returns-in-21 : goal.returns-in-21
returns-in-21 c = rw c.in-21.is leaf_union_member

pub returns-in-22 : goal.returns-in-22
returns-in-22 c = rw c.in-22.is leaf_enum_value

pub returns-in-23 : goal.returns-in-23
returns-in-23 c = rw c.in-23.is leaf_query_root

pub returns-in-24 : goal.returns-in-24
returns-in-24 c = rw c.in-24.is leaf_mutation_root

pub returns-in-25 : goal.returns-in-25
returns-in-25 c = rw c.in-25.is leaf_subscription_root

pub returns-in_default : goal.returns-in_default
returns-in_default c = content_none c.args.tag c.in_default.in_default-own.rest.0.0.0.0.0.0.0.0.0.0.0.0.0.0.0.0.0.1 c.in_default.in_default-own.rest.0.0.0.0.0.0.0.0.0.0.0.0.0.0.0.0.1 c.in_default.in_default-own.rest.0.0.0.0.0.0.0.0.0.0.0.0.0.0.0.1 c.in_default.in_default-own.rest.0.0.0.0.0.0.0.0.0.0.0.0.0.0.1 c.in_default.in_default-own.rest.0.0.0.0.0.0.0.0.0.0.0.0.0.1 c.in_default.in_default-own.rest.0.0.0.0.0.0.0.0.0.0.0.0.1 c.in_default.in_default-own.rest.0.0.0.0.0.0.0.0.0.0.0.1 c.in_default.in_default-own.rest.0.0.0.0.0.0.0.0.0.0.1 c.in_default.in_default-own.rest.0.0.0.0.0.0.0.0.0.1 c.in_default.in_default-own.rest.0.0.0.0.0.0.0.0.1 c.in_default.in_default-own.rest.0.0.0.0.0.0.0.1 c.in_default.in_default-own.rest.0.0.0.0.0.0.1 c.in_default.in_default-own.rest.0.0.0.0.0.1 c.in_default.in_default-own.rest.0.0.0.0.1 c.in_default.in_default-own.rest.0.0.0.1 c.in_default.in_default-own.rest.0.0.1 c.in_default.in_default-own.rest.0.1 c.in_default.in_default-own.rest.1
