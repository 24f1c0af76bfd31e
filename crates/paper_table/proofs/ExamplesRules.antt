-- Worked examples, computed: each schema rule broken, and its place.
-- The answers are those of document 01 and of its readings; none was taken from what is computed here.
use mathlib.Core.List.{List, [], ◌∷◌, ◌++◌}
use lib.Dec.{T}
use Rattle.paper_table.specs.Lists.{any_of, all_of, first_at, find, gather, each_from}
use Rattle.paper_table.specs.References.{is_name, same_ref, marked, closed, read_name, ref_from, whole_ref, ref_of}
use Rattle.paper_table.specs.House.{house_fields_from, contents, look_up, open_after, in_order, by_content, wrongs, table_wrongs, smallest, framing_offset}
use Rattle.paper_table.specs.TableSizes.{room_in, overs_in, wrappers_over, overs_by, overs, counts_offset}
use Rattle.paper_table.specs.Types.{text_of, member_of, definition_of, table_of, built_ins, built_in_directives, meaning, can_be}
use Rattle.paper_table.specs.SubTypes.{sub_test}
use Rattle.paper_table.specs.Promises.{promised}
use Rattle.paper_table.specs.Rule1ReservedName.{reserved_name}
use Rattle.paper_table.specs.Rule2NameKnown.{name_known}
use Rattle.paper_table.specs.Rule3NoMembers.{no_members}
use Rattle.paper_table.specs.Rule4NameRepeated.{name_repeated}
use Rattle.paper_table.specs.Rule5ReservedMember.{reserved_member}
use Rattle.paper_table.specs.Rule6EnumValue.{no_enum_values, enum_value}
use Rattle.paper_table.specs.Rule7NoType.{no_type}
use Rattle.paper_table.specs.Rule8Base.{wrong_base}
use Rattle.paper_table.specs.Rule9NotObjectOrInterface.{not_object_or_interface}
use Rattle.paper_table.specs.Rule10ImplementedTwice.{implemented_twice}
use Rattle.paper_table.specs.Rule11FieldMissing.{interface_field_missing}
use Rattle.paper_table.specs.Rule12FieldType.{field_type}
use Rattle.paper_table.specs.Rule13ArgumentMissing.{interface_argument_missing}
use Rattle.paper_table.specs.Rule14ArgumentType.{argument_type}
use Rattle.paper_table.specs.Rule15ArgumentExtra.{argument_extra}
use Rattle.paper_table.specs.Rule16Root.{root_not_object, query_not_object}
use Rattle.paper_table.specs.Judging.{rules, breaks_of, breaks, not_after, least_break, table_answer, judge}
use Rattle.paper_table.proofs.WorkedTables.{N, field, argument, scalar, object, interface, union, enum, input, directive, roots, implements, member, value, query, mutation, subscription, Case, agreed}

-- rule 1
abbrev rule_one : List Case
rule_one =
    (object "Query" (field "a" "Int" []) ++ scalar "__S", 9 ∷ 1 ∷ 1 ∷ N ∷ N ∷ N ∷ []) ∷
    (object "Query" (field "a" "Int" []) ++ object "__O" (field "a" "Int" []), 9 ∷ 1 ∷ 1 ∷ N ∷ N ∷ N ∷ []) ∷
    (object "Query" (field "a" "Int" []) ++ directive "__d" [], 9 ∷ 1 ∷ 1 ∷ N ∷ N ∷ N ∷ []) ∷
    (enum "__E" (value "A") ++ object "Query" (field "a" "Int" []), 9 ∷ 0 ∷ 1 ∷ N ∷ N ∷ N ∷ []) ∷
    (object "Query" (field "a" "Int" []) ++ interface "__I" (field "__a" "Int" []), 9 ∷ 1 ∷ 1 ∷ N ∷ N ∷ N ∷ []) ∷
    (object "Query" (field "a" "Int" []) ++ input "___J" (argument "a" "Int"), 9 ∷ 1 ∷ 1 ∷ N ∷ N ∷ N ∷ []) ∷
    (object "Query" (field "a" "Int" []) ++ union "__" (member "Query"), 9 ∷ 1 ∷ 1 ∷ N ∷ N ∷ N ∷ []) ∷
    []

rule_one_told : T (agreed rule_one)
unfolding any_of all_of first_at find gather each_from is_name same_ref marked closed read_name ref_from whole_ref ref_of house_fields_from contents look_up open_after in_order by_content wrongs table_wrongs smallest framing_offset room_in overs_in wrappers_over overs_by overs counts_offset text_of member_of definition_of table_of built_ins built_in_directives meaning can_be sub_test reserved_name name_known no_members name_repeated reserved_member no_enum_values enum_value no_type wrong_base not_object_or_interface implemented_twice promised interface_field_missing field_type interface_argument_missing argument_type argument_extra root_not_object query_not_object rules breaks_of breaks not_after least_break table_answer judge
rule_one_told = tt

-- rule 2
abbrev rule_two : List Case
rule_two =
    (object "Query" (field "a" "Int" []) ++ object "Query" (field "a" "Int" []), 9 ∷ 1 ∷ 2 ∷ N ∷ N ∷ N ∷ []) ∷
    (object "Query" (field "a" "Int" []) ++ scalar "Int", 9 ∷ 1 ∷ 2 ∷ N ∷ N ∷ N ∷ []) ∷
    (object "Query" (field "a" "Int" []) ++ scalar "A" ++ scalar "A", 9 ∷ 2 ∷ 2 ∷ N ∷ N ∷ N ∷ []) ∷
    (object "Query" (field "a" "Int" []) ++ object "A" (field "a" "Int" []) ++ enum "A" (value "A"), 9 ∷ 2 ∷ 2 ∷ N ∷ N ∷ N ∷ []) ∷
    (object "Query" (field "a" "Int" []) ++ directive "skip" [], 9 ∷ 1 ∷ 2 ∷ N ∷ N ∷ N ∷ []) ∷
    (object "Query" (field "a" "Int" []) ++ directive "d" [] ++ directive "d" [], 9 ∷ 2 ∷ 2 ∷ N ∷ N ∷ N ∷ []) ∷
    (object "Query" (field "a" "Int" []) ++ directive "include" (argument "if" "Boolean"), 9 ∷ 1 ∷ 2 ∷ N ∷ N ∷ N ∷ []) ∷
    (input "ID" (argument "a" "Int") ++ object "Query" (field "a" "Int" []), 9 ∷ 0 ∷ 2 ∷ N ∷ N ∷ N ∷ []) ∷
    (object "Query" (field "a" "Int" []) ++ scalar "B" ++ scalar "A" ++ union "B" (member "Query"), 9 ∷ 3 ∷ 2 ∷ N ∷ N ∷ N ∷ []) ∷
    []

rule_two_told : T (agreed rule_two)
unfolding any_of all_of first_at find gather each_from is_name same_ref marked closed read_name ref_from whole_ref ref_of house_fields_from contents look_up open_after in_order by_content wrongs table_wrongs smallest framing_offset room_in overs_in wrappers_over overs_by overs counts_offset text_of member_of definition_of table_of built_ins built_in_directives meaning can_be sub_test reserved_name name_known no_members name_repeated reserved_member no_enum_values enum_value no_type wrong_base not_object_or_interface implemented_twice promised interface_field_missing field_type interface_argument_missing argument_type argument_extra root_not_object query_not_object rules breaks_of breaks not_after least_break table_answer judge
rule_two_told = tt

-- rule 3
abbrev rule_three : List Case
rule_three =
    (object "Query" [], 9 ∷ 0 ∷ 3 ∷ N ∷ N ∷ N ∷ []) ∷
    (object "Query" (field "a" "Int" []) ++ interface "I" [], 9 ∷ 1 ∷ 3 ∷ N ∷ N ∷ N ∷ []) ∷
    (object "Query" (field "a" "Int" []) ++ union "U" [], 9 ∷ 1 ∷ 3 ∷ N ∷ N ∷ N ∷ []) ∷
    (object "Query" (field "a" "Int" []) ++ enum "E" [], 9 ∷ 1 ∷ 3 ∷ N ∷ N ∷ N ∷ []) ∷
    (object "Query" (field "a" "Int" []) ++ input "J" [], 9 ∷ 1 ∷ 3 ∷ N ∷ N ∷ N ∷ []) ∷
    (enum "E" [] ++ object "Query" (field "a" "Int" []) ++ input "J" [], 9 ∷ 0 ∷ 3 ∷ N ∷ N ∷ N ∷ []) ∷
    []

rule_three_told : T (agreed rule_three)
unfolding any_of all_of first_at find gather each_from is_name same_ref marked closed read_name ref_from whole_ref ref_of house_fields_from contents look_up open_after in_order by_content wrongs table_wrongs smallest framing_offset room_in overs_in wrappers_over overs_by overs counts_offset text_of member_of definition_of table_of built_ins built_in_directives meaning can_be sub_test reserved_name name_known no_members name_repeated reserved_member no_enum_values enum_value no_type wrong_base not_object_or_interface implemented_twice promised interface_field_missing field_type interface_argument_missing argument_type argument_extra root_not_object query_not_object rules breaks_of breaks not_after least_break table_answer judge
rule_three_told = tt

-- rule 4
abbrev rule_four : List Case
rule_four =
    (object "Query" (field "a" "Int" [] ++ field "a" "Int" []), 9 ∷ 0 ∷ 4 ∷ 1 ∷ N ∷ N ∷ []) ∷
    (object "Query" (field "a" "Int" (argument "x" "Int" ++ argument "x" "Int")), 9 ∷ 0 ∷ 4 ∷ 0 ∷ N ∷ 1 ∷ []) ∷
    (object "Query" (field "a" "Int" []) ++ enum "E" (value "A" ++ value "B" ++ value "A"), 9 ∷ 1 ∷ 4 ∷ 2 ∷ N ∷ N ∷ []) ∷
    (object "Query" (field "a" "Int" []) ++ union "U" (member "Query" ++ member "Query"), 9 ∷ 1 ∷ 4 ∷ 1 ∷ N ∷ N ∷ []) ∷
    (object "Query" (field "a" "Int" []) ++ input "J" (argument "a" "Int" ++ argument "b" "Int" ++ argument "a" "ID"), 9 ∷ 1 ∷ 4 ∷ 2 ∷ N ∷ N ∷ []) ∷
    (object "Query" (field "a" "Int" []) ++ directive "d" (argument "a" "Int" ++ argument "a" "Int"), 9 ∷ 1 ∷ 4 ∷ 1 ∷ N ∷ N ∷ []) ∷
    (object "Query" (field "a" "Int" []) ++ interface "I" (field "b" "Int" (argument "x" "Int" ++ argument "y" "Int" ++ argument "x" "ID") ++ field "b" "Int" []), 9 ∷ 1 ∷ 4 ∷ 0 ∷ N ∷ 2 ∷ []) ∷
    (object "Query" (field "a" "Int" [] ++ field "a" "Int" (argument "x" "Int" ++ argument "x" "Int")), 9 ∷ 0 ∷ 4 ∷ 1 ∷ N ∷ 1 ∷ []) ∷
    []

rule_four_told : T (agreed rule_four)
unfolding any_of all_of first_at find gather each_from is_name same_ref marked closed read_name ref_from whole_ref ref_of house_fields_from contents look_up open_after in_order by_content wrongs table_wrongs smallest framing_offset room_in overs_in wrappers_over overs_by overs counts_offset text_of member_of definition_of table_of built_ins built_in_directives meaning can_be sub_test reserved_name name_known no_members name_repeated reserved_member no_enum_values enum_value no_type wrong_base not_object_or_interface implemented_twice promised interface_field_missing field_type interface_argument_missing argument_type argument_extra root_not_object query_not_object rules breaks_of breaks not_after least_break table_answer judge
rule_four_told = tt

-- rule 5
abbrev rule_five : List Case
rule_five =
    (object "Query" (field "__a" "Int" []), 9 ∷ 0 ∷ 5 ∷ 0 ∷ N ∷ N ∷ []) ∷
    (object "Query" (field "a" "Int" (argument "__x" "Int")), 9 ∷ 0 ∷ 5 ∷ 0 ∷ N ∷ 0 ∷ []) ∷
    (object "Query" (field "a" "Int" []) ++ interface "I" (field "a" "Int" [] ++ field "__b" "Int" []), 9 ∷ 1 ∷ 5 ∷ 1 ∷ N ∷ N ∷ []) ∷
    (object "Query" (field "a" "Int" []) ++ interface "I" (field "a" "Int" (argument "x" "Int" ++ argument "__y" "Int")), 9 ∷ 1 ∷ 5 ∷ 0 ∷ N ∷ 1 ∷ []) ∷
    (object "Query" (field "b" "Int" (argument "__x" "Int") ++ field "__a" "Int" []), 9 ∷ 0 ∷ 5 ∷ 0 ∷ N ∷ 0 ∷ []) ∷
    (object "Query" (field "__typename" "String!" []), 9 ∷ 0 ∷ 5 ∷ 0 ∷ N ∷ N ∷ []) ∷
    []

rule_five_told : T (agreed rule_five)
unfolding any_of all_of first_at find gather each_from is_name same_ref marked closed read_name ref_from whole_ref ref_of house_fields_from contents look_up open_after in_order by_content wrongs table_wrongs smallest framing_offset room_in overs_in wrappers_over overs_by overs counts_offset text_of member_of definition_of table_of built_ins built_in_directives meaning can_be sub_test reserved_name name_known no_members name_repeated reserved_member no_enum_values enum_value no_type wrong_base not_object_or_interface implemented_twice promised interface_field_missing field_type interface_argument_missing argument_type argument_extra root_not_object query_not_object rules breaks_of breaks not_after least_break table_answer judge
rule_five_told = tt

-- rule 6
abbrev rule_six : List Case
rule_six =
    (object "Query" (field "a" "Int" []) ++ enum "E" (value "true"), 9 ∷ 1 ∷ 6 ∷ 0 ∷ N ∷ N ∷ []) ∷
    (object "Query" (field "a" "Int" []) ++ enum "E" (value "A" ++ value "false"), 9 ∷ 1 ∷ 6 ∷ 1 ∷ N ∷ N ∷ []) ∷
    (object "Query" (field "a" "Int" []) ++ enum "E" (value "A" ++ value "B" ++ value "null"), 9 ∷ 1 ∷ 6 ∷ 2 ∷ N ∷ N ∷ []) ∷
    (enum "E" (value "null" ++ value "true") ++ object "Query" (field "a" "Int" []), 9 ∷ 0 ∷ 6 ∷ 0 ∷ N ∷ N ∷ []) ∷
    (object "Query" (field "a" "Int" []) ++ enum "F" (value "A") ++ enum "E" (value "false"), 9 ∷ 2 ∷ 6 ∷ 0 ∷ N ∷ N ∷ []) ∷
    (object "Query" (field "a" "Int" []) ++ enum "E" (value "A" ++ value "true") ++ enum "F" (value "null"), 9 ∷ 1 ∷ 6 ∷ 1 ∷ N ∷ N ∷ []) ∷
    []

rule_six_told : T (agreed rule_six)
unfolding any_of all_of first_at find gather each_from is_name same_ref marked closed read_name ref_from whole_ref ref_of house_fields_from contents look_up open_after in_order by_content wrongs table_wrongs smallest framing_offset room_in overs_in wrappers_over overs_by overs counts_offset text_of member_of definition_of table_of built_ins built_in_directives meaning can_be sub_test reserved_name name_known no_members name_repeated reserved_member no_enum_values enum_value no_type wrong_base not_object_or_interface implemented_twice promised interface_field_missing field_type interface_argument_missing argument_type argument_extra root_not_object query_not_object rules breaks_of breaks not_after least_break table_answer judge
rule_six_told = tt

-- rule 7
abbrev rule_seven : List Case
rule_seven =
    (object "Query" (field "a" "Nope" []), 9 ∷ 0 ∷ 7 ∷ 0 ∷ N ∷ N ∷ []) ∷
    (object "Query" (field "a" "Int" [] ++ field "b" "[Nope!]!" []), 9 ∷ 0 ∷ 7 ∷ 1 ∷ N ∷ N ∷ []) ∷
    (object "Query" (field "a" "Int" (argument "x" "Nope")), 9 ∷ 0 ∷ 7 ∷ 0 ∷ N ∷ 0 ∷ []) ∷
    (object "Query" (field "a" "Int" []) ++ input "J" (argument "a" "Int" ++ argument "b" "Nope"), 9 ∷ 1 ∷ 7 ∷ 1 ∷ N ∷ N ∷ []) ∷
    (object "Query" (field "a" "Int" []) ++ directive "d" (argument "a" "Nope"), 9 ∷ 1 ∷ 7 ∷ 0 ∷ N ∷ N ∷ []) ∷
    (object "Query" (field "a" "Int" []) ++ interface "I" (field "a" "Int" (argument "x" "Int" ++ argument "y" "[Nope]")), 9 ∷ 1 ∷ 7 ∷ 0 ∷ N ∷ 1 ∷ []) ∷
    (object "Query" (field "a" "skip" []), 9 ∷ 0 ∷ 7 ∷ 0 ∷ N ∷ N ∷ []) ∷
    []

rule_seven_told : T (agreed rule_seven)
unfolding any_of all_of first_at find gather each_from is_name same_ref marked closed read_name ref_from whole_ref ref_of house_fields_from contents look_up open_after in_order by_content wrongs table_wrongs smallest framing_offset room_in overs_in wrappers_over overs_by overs counts_offset text_of member_of definition_of table_of built_ins built_in_directives meaning can_be sub_test reserved_name name_known no_members name_repeated reserved_member no_enum_values enum_value no_type wrong_base not_object_or_interface implemented_twice promised interface_field_missing field_type interface_argument_missing argument_type argument_extra root_not_object query_not_object rules breaks_of breaks not_after least_break table_answer judge
rule_seven_told = tt

-- rule 8
abbrev rule_eight : List Case
rule_eight =
    (object "Query" (field "a" "Int" []) ++ input "J" (argument "a" "Int") ++ object "O" (field "a" "J" []), 9 ∷ 2 ∷ 8 ∷ 0 ∷ N ∷ N ∷ []) ∷
    (object "Query" (field "a" "Int" []) ++ object "O" (field "a" "Int" (argument "x" "Query")), 9 ∷ 1 ∷ 8 ∷ 0 ∷ N ∷ 0 ∷ []) ∷
    (object "Query" (field "a" "Int" []) ++ input "J" (argument "a" "Query"), 9 ∷ 1 ∷ 8 ∷ 0 ∷ N ∷ N ∷ []) ∷
    (object "Query" (field "a" "Int" []) ++ union "U" (member "Query") ++ input "J" (argument "a" "[U!]"), 9 ∷ 2 ∷ 8 ∷ 0 ∷ N ∷ N ∷ []) ∷
    (object "Query" (field "a" "Int" []) ++ interface "I" (field "a" "Int" []) ++ object "O" (field "a" "Int" (argument "x" "Int" ++ argument "y" "I")), 9 ∷ 2 ∷ 8 ∷ 0 ∷ N ∷ 1 ∷ []) ∷
    (object "Query" (field "a" "Int" []) ++ input "J" (argument "j" "J") ++ interface "I" (field "a" "[J!]!" []), 9 ∷ 2 ∷ 8 ∷ 0 ∷ N ∷ N ∷ []) ∷
    []

rule_eight_told : T (agreed rule_eight)
unfolding any_of all_of first_at find gather each_from is_name same_ref marked closed read_name ref_from whole_ref ref_of house_fields_from contents look_up open_after in_order by_content wrongs table_wrongs smallest framing_offset room_in overs_in wrappers_over overs_by overs counts_offset text_of member_of definition_of table_of built_ins built_in_directives meaning can_be sub_test reserved_name name_known no_members name_repeated reserved_member no_enum_values enum_value no_type wrong_base not_object_or_interface implemented_twice promised interface_field_missing field_type interface_argument_missing argument_type argument_extra root_not_object query_not_object rules breaks_of breaks not_after least_break table_answer judge
rule_eight_told = tt

-- rule 9
abbrev rule_nine : List Case
rule_nine =
    (object "Query" (field "a" "Int" []) ++ union "U" (member "Query" ++ member "Int"), 9 ∷ 1 ∷ 9 ∷ 1 ∷ N ∷ N ∷ []) ∷
    (object "Query" (field "a" "Int" []) ++ interface "I" (field "a" "Int" []) ++ union "U" (member "I"), 9 ∷ 2 ∷ 9 ∷ 0 ∷ N ∷ N ∷ []) ∷
    (object "Query" (implements "Nope" ++ field "a" "Int" []), 9 ∷ 0 ∷ 9 ∷ 0 ∷ N ∷ N ∷ []) ∷
    (object "Query" (implements "Query" ++ field "a" "Int" []), 9 ∷ 0 ∷ 9 ∷ 0 ∷ N ∷ N ∷ []) ∷
    (object "Query" (field "a" "Int" []) ++ union "U" (member "Query") ++ union "V" (member "U"), 9 ∷ 2 ∷ 9 ∷ 0 ∷ N ∷ N ∷ []) ∷
    (interface "I" (field "a" "Int" []) ++ object "Query" (implements "I" ++ implements "Int" ++ field "a" "Int" []), 9 ∷ 1 ∷ 9 ∷ 1 ∷ N ∷ N ∷ []) ∷
    (object "Query" (field "a" "Int" []) ++ enum "E" (value "A") ++ union "U" (member "Query" ++ member "E"), 9 ∷ 2 ∷ 9 ∷ 1 ∷ N ∷ N ∷ []) ∷
    []

rule_nine_told : T (agreed rule_nine)
unfolding any_of all_of first_at find gather each_from is_name same_ref marked closed read_name ref_from whole_ref ref_of house_fields_from contents look_up open_after in_order by_content wrongs table_wrongs smallest framing_offset room_in overs_in wrappers_over overs_by overs counts_offset text_of member_of definition_of table_of built_ins built_in_directives meaning can_be sub_test reserved_name name_known no_members name_repeated reserved_member no_enum_values enum_value no_type wrong_base not_object_or_interface implemented_twice promised interface_field_missing field_type interface_argument_missing argument_type argument_extra root_not_object query_not_object rules breaks_of breaks not_after least_break table_answer judge
rule_nine_told = tt

-- rule 10
abbrev rule_ten : List Case
rule_ten =
    (object "Query" (implements "I" ++ implements "J" ++ implements "I" ++ field "a" "Int" []) ++ interface "I" (field "a" "Int" []) ++ interface "J" (field "a" "Int" []), 9 ∷ 0 ∷ 10 ∷ 2 ∷ N ∷ N ∷ []) ∷
    (interface "I" (field "a" "Int" []) ++ object "Query" (field "a" "Int" []) ++ object "O" (implements "I" ++ implements "I" ++ field "b" "Int" []), 9 ∷ 2 ∷ 10 ∷ 1 ∷ N ∷ N ∷ []) ∷
    (interface "I" (field "a" "Int" []) ++ object "Query" (field "a" "Int" []) ++ object "O" (implements "I" ++ implements "I" ++ implements "I" ++ field "a" "Int" []), 9 ∷ 2 ∷ 10 ∷ 1 ∷ N ∷ N ∷ []) ∷
    (object "Query" (implements "I" ++ implements "J" ++ implements "J" ++ implements "I" ++ field "a" "Int" []) ++ interface "I" (field "a" "Int" []) ++ interface "J" (field "a" "Int" []), 9 ∷ 0 ∷ 10 ∷ 2 ∷ N ∷ N ∷ []) ∷
    []

rule_ten_told : T (agreed rule_ten)
unfolding any_of all_of first_at find gather each_from is_name same_ref marked closed read_name ref_from whole_ref ref_of house_fields_from contents look_up open_after in_order by_content wrongs table_wrongs smallest framing_offset room_in overs_in wrappers_over overs_by overs counts_offset text_of member_of definition_of table_of built_ins built_in_directives meaning can_be sub_test reserved_name name_known no_members name_repeated reserved_member no_enum_values enum_value no_type wrong_base not_object_or_interface implemented_twice promised interface_field_missing field_type interface_argument_missing argument_type argument_extra root_not_object query_not_object rules breaks_of breaks not_after least_break table_answer judge
rule_ten_told = tt

-- rule 11
abbrev rule_eleven : List Case
rule_eleven =
    (object "Query" (implements "I" ++ field "b" "Int" []) ++ interface "I" (field "a" "Int" []), 9 ∷ 0 ∷ 11 ∷ 0 ∷ 0 ∷ N ∷ []) ∷
    (object "Query" (implements "I" ++ field "a" "Int" []) ++ interface "I" (field "a" "Int" [] ++ field "b" "Int" []), 9 ∷ 0 ∷ 11 ∷ 0 ∷ 1 ∷ N ∷ []) ∷
    (object "Query" (implements "J" ++ implements "I" ++ field "a" "Int" []) ++ interface "I" (field "a" "Int" [] ++ field "b" "Int" [] ++ field "c" "Int" []) ++ interface "J" (field "a" "Int" []), 9 ∷ 0 ∷ 11 ∷ 1 ∷ 1 ∷ N ∷ []) ∷
    (object "Query" (implements "I" ++ field "A" "Int" []) ++ interface "I" (field "a" "Int" []), 9 ∷ 0 ∷ 11 ∷ 0 ∷ 0 ∷ N ∷ []) ∷
    (object "Query" (field "a" "Int" []) ++ interface "I" (field "a" "Int" []) ++ object "O" (implements "I" ++ field "b" "Int" []) ++ object "P" (implements "I" ++ field "a" "Int" []), 9 ∷ 2 ∷ 11 ∷ 0 ∷ 0 ∷ N ∷ []) ∷
    []

rule_eleven_told : T (agreed rule_eleven)
unfolding any_of all_of first_at find gather each_from is_name same_ref marked closed read_name ref_from whole_ref ref_of house_fields_from contents look_up open_after in_order by_content wrongs table_wrongs smallest framing_offset room_in overs_in wrappers_over overs_by overs counts_offset text_of member_of definition_of table_of built_ins built_in_directives meaning can_be sub_test reserved_name name_known no_members name_repeated reserved_member no_enum_values enum_value no_type wrong_base not_object_or_interface implemented_twice promised interface_field_missing field_type interface_argument_missing argument_type argument_extra root_not_object query_not_object rules breaks_of breaks not_after least_break table_answer judge
rule_eleven_told = tt

-- rule 12
abbrev rule_twelve : List Case
rule_twelve =
    (object "Query" (implements "I" ++ field "a" "Int" []) ++ interface "I" (field "a" "Float" []), 9 ∷ 0 ∷ 12 ∷ 0 ∷ 0 ∷ N ∷ []) ∷
    (object "Query" (implements "I" ++ field "a" "Int" []) ++ interface "I" (field "a" "Int!" []), 9 ∷ 0 ∷ 12 ∷ 0 ∷ 0 ∷ N ∷ []) ∷
    (object "Query" (implements "I" ++ field "a" "[Int]" []) ++ interface "I" (field "a" "Int" []), 9 ∷ 0 ∷ 12 ∷ 0 ∷ 0 ∷ N ∷ []) ∷
    (object "Query" (implements "I" ++ field "a" "Int" []) ++ interface "I" (field "a" "[Int]" []), 9 ∷ 0 ∷ 12 ∷ 0 ∷ 0 ∷ N ∷ []) ∷
    (object "Query" (implements "I" ++ field "a" "I" []) ++ interface "I" (field "a" "Query" []), 9 ∷ 0 ∷ 12 ∷ 0 ∷ 0 ∷ N ∷ []) ∷
    (object "Query" (implements "I" ++ field "a" "J" []) ++ interface "I" (field "a" "I" []) ++ interface "J" (field "a" "Int" []), 9 ∷ 0 ∷ 12 ∷ 0 ∷ 0 ∷ N ∷ []) ∷
    (object "Query" (implements "I" ++ field "a" "[Query!]" []) ++ interface "I" (field "a" "[I!]" []), 9 ∷ 0 ∷ 12 ∷ 0 ∷ 0 ∷ N ∷ []) ∷
    (object "Query" (implements "I" ++ field "a" "Query" []) ++ interface "I" (field "a" "U" []) ++ union "U" (member "O") ++ object "O" (field "a" "Int" []), 9 ∷ 0 ∷ 12 ∷ 0 ∷ 0 ∷ N ∷ []) ∷
    (object "Query" (implements "I" ++ field "b" "Int" [] ++ field "a" "ID" []) ++ interface "I" (field "a" "Int" [] ++ field "b" "Int" []), 9 ∷ 0 ∷ 12 ∷ 0 ∷ 0 ∷ N ∷ []) ∷
    []

rule_twelve_told : T (agreed rule_twelve)
unfolding any_of all_of first_at find gather each_from is_name same_ref marked closed read_name ref_from whole_ref ref_of house_fields_from contents look_up open_after in_order by_content wrongs table_wrongs smallest framing_offset room_in overs_in wrappers_over overs_by overs counts_offset text_of member_of definition_of table_of built_ins built_in_directives meaning can_be sub_test reserved_name name_known no_members name_repeated reserved_member no_enum_values enum_value no_type wrong_base not_object_or_interface implemented_twice promised interface_field_missing field_type interface_argument_missing argument_type argument_extra root_not_object query_not_object rules breaks_of breaks not_after least_break table_answer judge
rule_twelve_told = tt

-- rule 13
abbrev rule_thirteen : List Case
rule_thirteen =
    (object "Query" (implements "I" ++ field "a" "Int" []) ++ interface "I" (field "a" "Int" (argument "x" "Int")), 9 ∷ 0 ∷ 13 ∷ 0 ∷ 0 ∷ 0 ∷ []) ∷
    (object "Query" (implements "I" ++ field "a" "Int" (argument "x" "Int")) ++ interface "I" (field "a" "Int" (argument "x" "Int" ++ argument "y" "Int")), 9 ∷ 0 ∷ 13 ∷ 0 ∷ 0 ∷ 1 ∷ []) ∷
    (object "Query" (implements "I" ++ field "a" "Int" (argument "X" "Int")) ++ interface "I" (field "a" "Int" (argument "x" "Int")), 9 ∷ 0 ∷ 13 ∷ 0 ∷ 0 ∷ 0 ∷ []) ∷
    (object "Query" (implements "I" ++ field "b" "Int" [] ++ field "a" "Int" (argument "x" "Int")) ++ interface "I" (field "a" "Int" (argument "y" "Int") ++ field "b" "Int" []), 9 ∷ 0 ∷ 13 ∷ 0 ∷ 0 ∷ 0 ∷ []) ∷
    (object "Query" (implements "J" ++ implements "I" ++ field "a" "Int" (argument "x" "Int")) ++ interface "I" (field "a" "Int" (argument "x" "Int" ++ argument "z" "ID")) ++ interface "J" (field "a" "Int" (argument "x" "Int")), 9 ∷ 0 ∷ 13 ∷ 1 ∷ 0 ∷ 1 ∷ []) ∷
    []

rule_thirteen_told : T (agreed rule_thirteen)
unfolding any_of all_of first_at find gather each_from is_name same_ref marked closed read_name ref_from whole_ref ref_of house_fields_from contents look_up open_after in_order by_content wrongs table_wrongs smallest framing_offset room_in overs_in wrappers_over overs_by overs counts_offset text_of member_of definition_of table_of built_ins built_in_directives meaning can_be sub_test reserved_name name_known no_members name_repeated reserved_member no_enum_values enum_value no_type wrong_base not_object_or_interface implemented_twice promised interface_field_missing field_type interface_argument_missing argument_type argument_extra root_not_object query_not_object rules breaks_of breaks not_after least_break table_answer judge
rule_thirteen_told = tt

-- rule 14
abbrev rule_fourteen : List Case
rule_fourteen =
    (object "Query" (implements "I" ++ field "a" "Int" (argument "x" "Int!")) ++ interface "I" (field "a" "Int" (argument "x" "Int")), 9 ∷ 0 ∷ 14 ∷ 0 ∷ 0 ∷ 0 ∷ []) ∷
    (object "Query" (implements "I" ++ field "a" "Int" (argument "x" "Int")) ++ interface "I" (field "a" "Int" (argument "x" "Int!")), 9 ∷ 0 ∷ 14 ∷ 0 ∷ 0 ∷ 0 ∷ []) ∷
    (object "Query" (implements "I" ++ field "a" "Int" (argument "x" "ID" ++ argument "y" "Int")) ++ interface "I" (field "a" "Int" (argument "y" "Int" ++ argument "x" "Int")), 9 ∷ 0 ∷ 14 ∷ 0 ∷ 0 ∷ 1 ∷ []) ∷
    (object "Query" (implements "I" ++ field "a" "Int" (argument "x" "[Int]")) ++ interface "I" (field "a" "Int" (argument "x" "[Int!]")), 9 ∷ 0 ∷ 14 ∷ 0 ∷ 0 ∷ 0 ∷ []) ∷
    (object "Query" (implements "I" ++ field "a" "Int" (argument "x" "Int")) ++ interface "I" (field "a" "Int" (argument "x" "Int" ++ argument "x" "ID")), 9 ∷ 0 ∷ 14 ∷ 0 ∷ 0 ∷ 1 ∷ []) ∷
    (object "Query" (implements "I" ++ field "a" "Int" (argument "x" "J")) ++ interface "I" (field "a" "Int" (argument "x" "[J]")) ++ input "J" (argument "a" "Int"), 9 ∷ 0 ∷ 14 ∷ 0 ∷ 0 ∷ 0 ∷ []) ∷
    []

rule_fourteen_told : T (agreed rule_fourteen)
unfolding any_of all_of first_at find gather each_from is_name same_ref marked closed read_name ref_from whole_ref ref_of house_fields_from contents look_up open_after in_order by_content wrongs table_wrongs smallest framing_offset room_in overs_in wrappers_over overs_by overs counts_offset text_of member_of definition_of table_of built_ins built_in_directives meaning can_be sub_test reserved_name name_known no_members name_repeated reserved_member no_enum_values enum_value no_type wrong_base not_object_or_interface implemented_twice promised interface_field_missing field_type interface_argument_missing argument_type argument_extra root_not_object query_not_object rules breaks_of breaks not_after least_break table_answer judge
rule_fourteen_told = tt

-- rule 15
abbrev rule_fifteen : List Case
rule_fifteen =
    (object "Query" (implements "I" ++ field "a" "Int" (argument "x" "Int!")) ++ interface "I" (field "a" "Int" []), 9 ∷ 0 ∷ 15 ∷ 0 ∷ 0 ∷ 0 ∷ []) ∷
    (object "Query" (implements "I" ++ field "a" "Int" (argument "x" "Int" ++ argument "y" "Int!")) ++ interface "I" (field "a" "Int" (argument "x" "Int")), 9 ∷ 0 ∷ 15 ∷ 0 ∷ 0 ∷ 1 ∷ []) ∷
    (object "Query" (implements "I" ++ field "z" "Int" [] ++ field "a" "Int" (argument "p" "Int" ++ argument "q" "[Int!]!")) ++ interface "I" (field "a" "Int" []), 9 ∷ 0 ∷ 15 ∷ 0 ∷ 0 ∷ 1 ∷ []) ∷
    (object "Query" (implements "I" ++ field "a" "Int" (argument "y" "Int!" ++ argument "x" "Int!")) ++ interface "I" (field "a" "Int" (argument "x" "Int!")), 9 ∷ 0 ∷ 15 ∷ 0 ∷ 0 ∷ 0 ∷ []) ∷
    (object "Query" (implements "J" ++ implements "I" ++ field "a" "Int" (argument "x" "Int!")) ++ interface "I" (field "a" "Int" (argument "x" "Int!")) ++ interface "J" (field "a" "Int" []), 9 ∷ 0 ∷ 15 ∷ 0 ∷ 0 ∷ 0 ∷ []) ∷
    []

rule_fifteen_told : T (agreed rule_fifteen)
unfolding any_of all_of first_at find gather each_from is_name same_ref marked closed read_name ref_from whole_ref ref_of house_fields_from contents look_up open_after in_order by_content wrongs table_wrongs smallest framing_offset room_in overs_in wrappers_over overs_by overs counts_offset text_of member_of definition_of table_of built_ins built_in_directives meaning can_be sub_test reserved_name name_known no_members name_repeated reserved_member no_enum_values enum_value no_type wrong_base not_object_or_interface implemented_twice promised interface_field_missing field_type interface_argument_missing argument_type argument_extra root_not_object query_not_object rules breaks_of breaks not_after least_break table_answer judge
rule_fifteen_told = tt

-- rule 16
abbrev rule_sixteen : List Case
rule_sixteen =
    (scalar "A", 9 ∷ 1 ∷ 16 ∷ N ∷ N ∷ N ∷ []) ∷
    (interface "Query" (field "a" "Int" []), 9 ∷ 1 ∷ 16 ∷ N ∷ N ∷ N ∷ []) ∷
    (roots (query "Int"), 9 ∷ 0 ∷ 16 ∷ 0 ∷ N ∷ N ∷ []) ∷
    (object "Query" (field "a" "Int" []) ++ roots (query "Query" ++ mutation "Int"), 9 ∷ 1 ∷ 16 ∷ 1 ∷ N ∷ N ∷ []) ∷
    (object "Query" (field "a" "Int" []) ++ roots (query "Query" ++ mutation "Query" ++ subscription "Nope"), 9 ∷ 1 ∷ 16 ∷ 2 ∷ N ∷ N ∷ []) ∷
    (object "Query" (field "a" "Int" []) ++ roots (query "Query" ++ subscription "Q2") ++ interface "Q2" (field "a" "Int" []), 9 ∷ 1 ∷ 16 ∷ 1 ∷ N ∷ N ∷ []) ∷
    (enum "Query" (value "A"), 9 ∷ 1 ∷ 16 ∷ N ∷ N ∷ N ∷ []) ∷
    (union "Query" (member "O") ++ object "O" (field "a" "Int" []), 9 ∷ 2 ∷ 16 ∷ N ∷ N ∷ N ∷ []) ∷
    (object "query" (field "a" "Int" []), 9 ∷ 1 ∷ 16 ∷ N ∷ N ∷ N ∷ []) ∷
    (directive "Query" [], 9 ∷ 1 ∷ 16 ∷ N ∷ N ∷ N ∷ []) ∷
    []

rule_sixteen_told : T (agreed rule_sixteen)
unfolding any_of all_of first_at find gather each_from is_name same_ref marked closed read_name ref_from whole_ref ref_of house_fields_from contents look_up open_after in_order by_content wrongs table_wrongs smallest framing_offset room_in overs_in wrappers_over overs_by overs counts_offset text_of member_of definition_of table_of built_ins built_in_directives meaning can_be sub_test reserved_name name_known no_members name_repeated reserved_member no_enum_values enum_value no_type wrong_base not_object_or_interface implemented_twice promised interface_field_missing field_type interface_argument_missing argument_type argument_extra root_not_object query_not_object rules breaks_of breaks not_after least_break table_answer judge
rule_sixteen_told = tt

-- several breaks: the least
abbrev least : List Case
least =
    (object "Query" (field "a" "Int" []) ++ enum "E" (value "A" ++ value "true" ++ value "A"), 9 ∷ 1 ∷ 4 ∷ 2 ∷ N ∷ N ∷ []) ∷
    (object "Query" (field "a" "Int" []) ++ scalar "__S" ++ scalar "__S", 9 ∷ 1 ∷ 1 ∷ N ∷ N ∷ N ∷ []) ∷
    (object "Query" (field "a" "Nope" []) ++ scalar "__S", 9 ∷ 0 ∷ 7 ∷ 0 ∷ N ∷ N ∷ []) ∷
    (object "Query" (implements "I" ++ implements "Nope" ++ field "a" "Int" []) ++ interface "I" (field "a" "Float" []), 9 ∷ 0 ∷ 9 ∷ 1 ∷ N ∷ N ∷ []) ∷
    (object "Query" (implements "I" ++ implements "J" ++ field "b" "Int" []) ++ interface "I" (field "a" "Int" []) ++ interface "J" (field "b" "Float" [] ++ field "c" "Int" []), 9 ∷ 0 ∷ 11 ∷ 0 ∷ 0 ∷ N ∷ []) ∷
    (object "Query" (implements "I" ++ field "a" "ID" []) ++ interface "I" (field "a" "Int" (argument "x" "Int") ++ field "b" "Int" []), 9 ∷ 0 ∷ 11 ∷ 0 ∷ 1 ∷ N ∷ []) ∷
    (union "U" (member "Int") ++ object "Int" (field "a" "Float" []) ++ object "Query" (field "a" "Float" []), 9 ∷ 0 ∷ 9 ∷ 0 ∷ N ∷ N ∷ []) ∷
    []

least_told : T (agreed least)
unfolding any_of all_of first_at find gather each_from is_name same_ref marked closed read_name ref_from whole_ref ref_of house_fields_from contents look_up open_after in_order by_content wrongs table_wrongs smallest framing_offset room_in overs_in wrappers_over overs_by overs counts_offset text_of member_of definition_of table_of built_ins built_in_directives meaning can_be sub_test reserved_name name_known no_members name_repeated reserved_member no_enum_values enum_value no_type wrong_base not_object_or_interface implemented_twice promised interface_field_missing field_type interface_argument_missing argument_type argument_extra root_not_object query_not_object rules breaks_of breaks not_after least_break table_answer judge
least_told = tt

-- near those: accepted
abbrev accepted : List Case
accepted =
    (object "Query" (field "a" "Int" []) ++ scalar "S", 0 ∷ []) ∷
    (object "Query" (field "a" "Int" []) ++ enum "E" (value "A" ++ value "__B" ++ value "on" ++ value "type"), 0 ∷ []) ∷
    (object "Query" (field "a" "Int" []) ++ union "U" (member "Query"), 0 ∷ []) ∷
    (object "Query" (field "a" "Int" []) ++ input "J" (argument "j" "J!" ++ argument "__a" "[Int!]!"), 0 ∷ []) ∷
    (object "Query" (field "a" "Int" []) ++ directive "d" (argument "a" "Int"), 0 ∷ []) ∷
    (roots (query "A") ++ object "A" (field "a" "A" []), 0 ∷ []) ∷
    (roots (query "A" ++ mutation "A" ++ subscription "A") ++ object "A" (field "a" "A" []), 0 ∷ []) ∷
    (object "Query" (implements "I" ++ field "a" "Int" []) ++ interface "I" (field "a" "Int" []), 0 ∷ []) ∷
    (object "Query" (implements "I" ++ field "a" "Query" []) ++ interface "I" (field "a" "I" []), 0 ∷ []) ∷
    (object "Query" (implements "I" ++ field "a" "Query!" []) ++ interface "I" (field "a" "U" []) ++ union "U" (member "Query"), 0 ∷ []) ∷
    (object "Query" (implements "I" ++ field "a" "Int!" (argument "y" "Int" ++ argument "x" "Int!")) ++ interface "I" (field "a" "Int" (argument "x" "Int!")), 0 ∷ []) ∷
    (object "Query" (implements "I" ++ implements "J" ++ field "a" "Int" [] ++ field "b" "Int" []) ++ interface "I" (field "a" "Int" []) ++ interface "J" (field "b" "Int" []), 0 ∷ []) ∷
    (object "Query" (implements "I" ++ field "a" "[[Int!]!]!" []) ++ interface "I" (field "a" "[[Int]]" []), 0 ∷ []) ∷
    (object "Query" (field "a" "Int" []) ++ object "Int2" (field "a" "Query" []) ++ directive "Query" [], 0 ∷ []) ∷
    (object "Query" (field "query" "Int" [] ++ field "type" "Int" [] ++ field "on" "Int" []), 0 ∷ []) ∷
    []

accepted_told : T (agreed accepted)
unfolding any_of all_of first_at find gather each_from is_name same_ref marked closed read_name ref_from whole_ref ref_of house_fields_from contents look_up open_after in_order by_content wrongs table_wrongs smallest framing_offset room_in overs_in wrappers_over overs_by overs counts_offset text_of member_of definition_of table_of built_ins built_in_directives meaning can_be sub_test reserved_name name_known no_members name_repeated reserved_member no_enum_values enum_value no_type wrong_base not_object_or_interface implemented_twice promised interface_field_missing field_type interface_argument_missing argument_type argument_extra root_not_object query_not_object rules breaks_of breaks not_after least_break table_answer judge
accepted_told = tt
