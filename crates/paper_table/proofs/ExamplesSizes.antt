-- Worked examples, computed: the counts of a table.
-- The answers are those of document 01 and of its readings; none was taken from what is computed here.
use mathlib.Core.List.{List, [], ◌∷◌, ◌++◌}
use lib.Dec.{T}
use Rattle.paper_table.specs.Lists.{any_of, all_of, first_at, find, gather, each_from}
use Rattle.paper_table.specs.References.{is_name, same_ref, marked, closed, read_name, ref_from, whole_ref, ref_of}
use Rattle.paper_table.specs.House.{house_fields_from, contents, look_up, open_after, in_order, by_content, wrongs, table_wrongs, smallest, framing_offset}
use Rattle.paper_table.specs.TableSizes.{room_in, overs_in, wrappers_over, overs_by, overs, counts_offset}
use Rattle.paper_table.specs.Types.{text_of, member_of, definition_of, table_of, built_ins, built_in_directives, meaning, can_be}
use Rattle.paper_table.specs.SubTypes.{sub_test}
use Rattle.paper_table.specs.Promises.{promised}
use Rattle.paper_table.specs.Rule1ReservedName.{reserved_name}
use Rattle.paper_table.specs.Rule2NameKnown.{name_known}
use Rattle.paper_table.specs.Rule3NoMembers.{no_members}
use Rattle.paper_table.specs.Rule4NameRepeated.{name_repeated}
use Rattle.paper_table.specs.Rule5ReservedMember.{reserved_member}
use Rattle.paper_table.specs.Rule6EnumValue.{no_enum_values, enum_value}
use Rattle.paper_table.specs.Rule7NoType.{no_type}
use Rattle.paper_table.specs.Rule8Base.{wrong_base}
use Rattle.paper_table.specs.Rule9NotObjectOrInterface.{not_object_or_interface}
use Rattle.paper_table.specs.Rule10ImplementedTwice.{implemented_twice}
use Rattle.paper_table.specs.Rule11FieldMissing.{interface_field_missing}
use Rattle.paper_table.specs.Rule12FieldType.{field_type}
use Rattle.paper_table.specs.Rule13ArgumentMissing.{interface_argument_missing}
use Rattle.paper_table.specs.Rule14ArgumentType.{argument_type}
use Rattle.paper_table.specs.Rule15ArgumentExtra.{argument_extra}
use Rattle.paper_table.specs.Rule16Root.{root_not_object, query_not_object}
use Rattle.paper_table.specs.Judging.{rules, breaks_of, breaks, not_after, least_break, table_answer, judge}
use Rattle.paper_table.proofs.WorkedTables.{N, field, argument, scalar, object, enum, input, directive, implements, value, times, Case, agreed}

-- over a count, and not: 64 and 65 members, 64 and 65 implemented names, 16 and 17 arguments, 257 records; framing comes first
abbrev counted : List Case
counted =
    (object "Query" (field "a" "Int" []) ++ enum "E" (times 64 (value "V")), 9 ∷ 1 ∷ 4 ∷ 1 ∷ N ∷ N ∷ []) ∷
    (object "Query" (field "a" "Int" []) ++ enum "E" (times 65 (value "V")), 8 ∷ 287 ∷ []) ∷
    (object "Query" (times 65 (implements "I")), 8 ∷ 267 ∷ []) ∷
    (object "Query" (times 64 (implements "I") ++ field "a" "Int" []), 9 ∷ 0 ∷ 9 ∷ 0 ∷ N ∷ N ∷ []) ∷
    (object "Query" (field "a" "Int" (times 16 (argument "x" "Int"))), 9 ∷ 0 ∷ 4 ∷ 0 ∷ N ∷ 1 ∷ []) ∷
    (object "Query" (field "a" "Int" (times 17 (argument "x" "Int"))), 8 ∷ 232 ∷ []) ∷
    (directive "d" (times 17 (argument "x" "Int")), 9 ∷ 0 ∷ 4 ∷ 1 ∷ N ∷ N ∷ []) ∷
    (times 257 (scalar "S"), 8 ∷ 1792 ∷ []) ∷
    (times 257 (scalar "S") ++ scalar "?", 7 ∷ 1802 ∷ []) ∷
    []

counted_told : T (agreed counted)
unfolding any_of all_of first_at find gather each_from is_name same_ref marked closed read_name ref_from whole_ref ref_of house_fields_from contents look_up open_after in_order by_content wrongs table_wrongs smallest framing_offset room_in overs_in wrappers_over overs_by overs counts_offset text_of member_of definition_of table_of built_ins built_in_directives meaning can_be sub_test reserved_name name_known no_members name_repeated reserved_member no_enum_values enum_value no_type wrong_base not_object_or_interface implemented_twice promised interface_field_missing field_type interface_argument_missing argument_type argument_extra root_not_object query_not_object rules breaks_of breaks not_after least_break table_answer judge
counted_told = tt

-- 7 and 8 wrappers
abbrev wrappers : List Case
wrappers =
    (object "Query" (field "a" "[[[[[[[Int]]]]]]]" []), 0 ∷ []) ∷
    (object "Query" (field "a" "[[[[Int!]!]!]]" []), 0 ∷ []) ∷
    (object "Query" (field "a" "[[[[Int!]!]!]!]" []), 8 ∷ 34 ∷ []) ∷
    (object "Query" (field "a" "[[[[Int!]!]!]!]!" []), 8 ∷ 34 ∷ []) ∷
    (object "Query" (field "a" "[[[[[[[Int]]]]]]]!" []), 8 ∷ 38 ∷ []) ∷
    (object "Query" (field "a" "[[[[[[[[[[[[Int]]]]]]]]]]]]" []), 8 ∷ 28 ∷ []) ∷
    (object "Query" (field "a" "Int" (argument "a" "[[[[[[[[Int]]]]]]]]")), 8 ∷ 41 ∷ []) ∷
    (object "Query" (field "a" "Int" []) ++ input "J" (argument "a" "[[[[[[[Int!]]]]]]]"), 8 ∷ 51 ∷ []) ∷
    []

wrappers_told : T (agreed wrappers)
unfolding any_of all_of first_at find gather each_from is_name same_ref marked closed read_name ref_from whole_ref ref_of house_fields_from contents look_up open_after in_order by_content wrongs table_wrongs smallest framing_offset room_in overs_in wrappers_over overs_by overs counts_offset text_of member_of definition_of table_of built_ins built_in_directives meaning can_be sub_test reserved_name name_known no_members name_repeated reserved_member no_enum_values enum_value no_type wrong_base not_object_or_interface implemented_twice promised interface_field_missing field_type interface_argument_missing argument_type argument_extra root_not_object query_not_object rules breaks_of breaks not_after least_break table_answer judge
wrappers_told = tt
