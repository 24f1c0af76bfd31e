-- Worked examples, computed: the tables of 01 and of its readings.
-- The answers are those of document 01 and of its readings; none was taken from what is computed here.
use mathlib.Core.List.{List, [], ◌∷◌, ◌++◌}
use lib.Dec.{T}
use Rattle.paper_table.specs.Lists.{bytes, any_of, all_of, first_at, find, gather, each_from}
use Rattle.paper_table.specs.References.{is_name, same_ref, marked, closed, read_name, ref_from, whole_ref, ref_of}
use Rattle.paper_table.specs.House.{house_fields_from, contents, look_up, open_after, in_order, by_content, wrongs, table_wrongs, smallest, framing_offset}
use Rattle.paper_table.specs.TableSizes.{room_in, overs_in, wrappers_over, overs_by, overs, counts_offset}
use Rattle.paper_table.specs.Types.{text_of, member_of, definition_of, table_of, built_ins, built_in_directives, meaning, can_be}
use Rattle.paper_table.specs.SubTypes.{sub_test}
use Rattle.paper_table.specs.Promises.{promised}
use Rattle.paper_table.specs.Rule1ReservedName.{reserved_name}
use Rattle.paper_table.specs.Rule2NameKnown.{name_known}
use Rattle.paper_table.specs.Rule3NoMembers.{no_members}
use Rattle.paper_table.specs.Rule4NameRepeated.{name_repeated}
use Rattle.paper_table.specs.Rule5ReservedMember.{reserved_member}
use Rattle.paper_table.specs.Rule6EnumValue.{no_enum_values, enum_value}
use Rattle.paper_table.specs.Rule7NoType.{no_type}
use Rattle.paper_table.specs.Rule8Base.{wrong_base}
use Rattle.paper_table.specs.Rule9NotObjectOrInterface.{not_object_or_interface}
use Rattle.paper_table.specs.Rule10ImplementedTwice.{implemented_twice}
use Rattle.paper_table.specs.Rule11FieldMissing.{interface_field_missing}
use Rattle.paper_table.specs.Rule12FieldType.{field_type}
use Rattle.paper_table.specs.Rule13ArgumentMissing.{interface_argument_missing}
use Rattle.paper_table.specs.Rule14ArgumentType.{argument_type}
use Rattle.paper_table.specs.Rule15ArgumentExtra.{argument_extra}
use Rattle.paper_table.specs.Rule16Root.{root_not_object, query_not_object}
use Rattle.paper_table.specs.Judging.{rules, breaks_of, breaks, not_after, least_break, table_answer, judge}
use Rattle.paper_table.proofs.WorkedTables.{h, N, field, argument, scalar, object, interface, union, enum, input, directive, roots, implements, member, value, query, mutation, subscription, Case, agreed}

-- 01: table T, and a table of no bytes
abbrev document : List Case
document =
    (interface "Machine" (field "tag" "String!" []) ++ object "Fan" (implements "Machine" ++ field "tag" "String!" [] ++ field "rpm" "Int" []) ++ object "Pump" (implements "Machine" ++ field "tag" "String!" [] ++ field "flow" "Float" []) ++ object "Query" (field "machine" "Machine" (argument "id" "ID!") ++ field "fan" "Fan" (argument "no" "Int!")), 0 ∷ []) ∷
    ([], 9 ∷ 0 ∷ 16 ∷ N ∷ N ∷ N ∷ []) ∷
    []

document_told : T (agreed document)
unfolding any_of all_of first_at find gather each_from is_name same_ref marked closed read_name ref_from whole_ref ref_of house_fields_from contents look_up open_after in_order by_content wrongs table_wrongs smallest framing_offset room_in overs_in wrappers_over overs_by overs counts_offset text_of member_of definition_of table_of built_ins built_in_directives meaning can_be sub_test reserved_name name_known no_members name_repeated reserved_member no_enum_values enum_value no_type wrong_base not_object_or_interface implemented_twice promised interface_field_missing field_type interface_argument_missing argument_type argument_extra root_not_object query_not_object rules breaks_of breaks not_after least_break table_answer judge
document_told = tt

-- the readings of the type table
abbrev readings : List Case
readings =
    (object "Query" (field "a" "Int" []), 0 ∷ []) ∷
    (object "Query" (field "a" "[[[[[[[[Int]]]]]]]]" []), 8 ∷ 28 ∷ []) ∷
    (h 2 (h 18 (h 16 (bytes "f"))), 7 ∷ 3 ∷ []) ∷
    (object "Query" (field "a" "Int" []) ++ roots (query "Query" ++ subscription "S" ++ mutation "M"), 7 ∷ 39 ∷ []) ∷
    (object "Query" (field "a" "Int" []) ++ roots (mutation "Query"), 7 ∷ 24 ∷ []) ∷
    (object "Query" (field "a" "Int" []) ++ roots (query "Query") ++ roots (query "Query"), 7 ∷ 35 ∷ []) ∷
    (h 2 (h 18 (h 16 (bytes "f") ++ h 20 (bytes "Int")) ++ h 16 (bytes "O")), 7 ∷ 16 ∷ []) ∷
    (h 1 (16 ∷ 0 ∷ 1 ∷ 83 ∷ 16 ∷ []), 7 ∷ 7 ∷ []) ∷
    (object "Query" (field "a" "[Int ]" []), 7 ∷ 18 ∷ []) ∷
    (h 1 (h 16 ([])), 7 ∷ 3 ∷ []) ∷
    (object "Query" (field "a" "Int" []) ++ directive "d" (argument "a0" "Int" ++ argument "a1" "Int" ++ argument "a2" "Int" ++ argument "a3" "Int" ++ argument "a4" "Int" ++ argument "a5" "Int" ++ argument "a6" "Int" ++ argument "a7" "Int" ++ argument "a8" "Int" ++ argument "a9" "Int" ++ argument "a10" "Int" ++ argument "a11" "Int" ++ argument "a12" "Int" ++ argument "a13" "Int" ++ argument "a14" "Int" ++ argument "a15" "Int" ++ argument "a16" "Int"), 0 ∷ []) ∷
    (object "Query" (field "a" "Int" []) ++ input "Int" (argument "b" "Float"), 9 ∷ 1 ∷ 2 ∷ N ∷ N ∷ N ∷ []) ∷
    (object "Query" (field "a" "Int" []) ++ directive "Query" [] ++ scalar "Int", 9 ∷ 2 ∷ 2 ∷ N ∷ N ∷ N ∷ []) ∷
    (directive "d" [] ++ roots (query "Query") ++ object "Query" (field "a" "Nope" []), 9 ∷ 2 ∷ 7 ∷ 0 ∷ N ∷ N ∷ []) ∷
    (object "Query" (field "b" "Nope" [] ++ field "a" "Int" [] ++ field "a" "Int" []), 9 ∷ 0 ∷ 4 ∷ 2 ∷ N ∷ N ∷ []) ∷
    (object "Query" (field "a" "Nope" (argument "x" "Nope")), 9 ∷ 0 ∷ 7 ∷ 0 ∷ N ∷ 0 ∷ []) ∷
    (object "Query" (field "a" "Int" (argument "x" "Int" ++ argument "y" "Nope")), 9 ∷ 0 ∷ 7 ∷ 0 ∷ N ∷ 1 ∷ []) ∷
    (object "Query" (implements "I" ++ field "z" "Int" [] ++ field "b" "Int" (argument "n" "Int!")) ++ interface "I" (field "b" "Int" []), 9 ∷ 0 ∷ 15 ∷ 0 ∷ 0 ∷ 0 ∷ []) ∷
    (object "Query" (field "a" "Int" []) ++ union "U" (member "Nope"), 9 ∷ 1 ∷ 9 ∷ 0 ∷ N ∷ N ∷ []) ∷
    (roots (query "Nope"), 9 ∷ 0 ∷ 16 ∷ 0 ∷ N ∷ N ∷ []) ∷
    (scalar "Query", 9 ∷ 1 ∷ 16 ∷ N ∷ N ∷ N ∷ []) ∷
    (roots (query "Q" ++ subscription "Int") ++ object "Q" (field "a" "Int" []), 9 ∷ 0 ∷ 16 ∷ 1 ∷ N ∷ N ∷ []) ∷
    (object "Q" (field "a" "Int" []) ++ roots (query "Q" ++ mutation "Q"), 0 ∷ []) ∷
    (interface "I" (field "a" "Int" []) ++ object "O" (implements "I") ++ object "Query" (field "a" "Int" []), 9 ∷ 1 ∷ 3 ∷ N ∷ N ∷ N ∷ []) ∷
    (object "Query" (field "a" "Int" []) ++ directive "d" [], 0 ∷ []) ∷
    (object "Query" (implements "I" ++ implements "I" ++ field "a" "Int" []) ++ interface "I" (field "a" "Int" []), 9 ∷ 0 ∷ 10 ∷ 1 ∷ N ∷ N ∷ []) ∷
    (object "Query" (implements "I" ++ field "a" "Int" []) ++ interface "I" (field "a" "Int" [] ++ field "a" "Float" []), 9 ∷ 0 ∷ 12 ∷ 0 ∷ 1 ∷ N ∷ []) ∷
    (object "Query" (implements "I" ++ field "a" "Int" []) ++ interface "I" (field "a" "Nope" []), 9 ∷ 0 ∷ 12 ∷ 0 ∷ 0 ∷ N ∷ []) ∷
    (object "Query" (implements "I" ++ field "a" "B" []) ++ interface "I" (field "a" "A" []) ++ interface "A" (field "t" "Int" []) ++ object "B" (implements "A" ++ field "u" "Int" []), 9 ∷ 3 ∷ 11 ∷ 0 ∷ 0 ∷ N ∷ []) ∷
    (object "Query" (implements "I" ++ field "a" "[Query!]!" []) ++ interface "I" (field "a" "[I]" []), 0 ∷ []) ∷
    (object "Query" (implements "I" ++ field "a" "Query!" []) ++ interface "I" (field "a" "I!" []), 9 ∷ 0 ∷ 12 ∷ 0 ∷ 0 ∷ N ∷ []) ∷
    (object "Query" (field "a" "Int" []) ++ directive "d" (argument "a" "Query"), 9 ∷ 1 ∷ 8 ∷ 0 ∷ N ∷ N ∷ []) ∷
    (object "Query" (field "a" "Int" []) ++ input "J" (argument "__a" "Int") ++ enum "E" (value "__b"), 0 ∷ []) ∷
    (interface "I" (field "a" "Int" (argument "x" "Int!")) ++ object "Query" (implements "I" ++ field "a" "Int" (argument "x" "Int")), 9 ∷ 1 ∷ 14 ∷ 0 ∷ 0 ∷ 0 ∷ []) ∷
    (input "J" (argument "j" "J!") ++ object "Query" (field "a" "Int" []), 0 ∷ []) ∷
    []

readings_told : T (agreed readings)
unfolding any_of all_of first_at find gather each_from is_name same_ref marked closed read_name ref_from whole_ref ref_of house_fields_from contents look_up open_after in_order by_content wrongs table_wrongs smallest framing_offset room_in overs_in wrappers_over overs_by overs counts_offset text_of member_of definition_of table_of built_ins built_in_directives meaning can_be sub_test reserved_name name_known no_members name_repeated reserved_member no_enum_values enum_value no_type wrong_base not_object_or_interface implemented_twice promised interface_field_missing field_type interface_argument_missing argument_type argument_extra root_not_object query_not_object rules breaks_of breaks not_after least_break table_answer judge
readings_told = tt
