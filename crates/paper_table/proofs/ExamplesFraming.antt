-- Worked examples, computed: where a table's framing is wrong.
-- The answers are those of document 01 and of its readings; none was taken from what is computed here.
use mathlib.Core.List.{List, [], ◌∷◌, ◌++◌}
use lib.Dec.{T}
use Rattle.paper_table.specs.Lists.{bytes, any_of, all_of, first_at, find, gather, each_from}
use Rattle.paper_table.specs.References.{is_name, same_ref, marked, closed, read_name, ref_from, whole_ref, ref_of}
use Rattle.paper_table.specs.House.{house_fields_from, contents, look_up, open_after, in_order, by_content, wrongs, table_wrongs, smallest, framing_offset}
use Rattle.paper_table.specs.TableSizes.{room_in, overs_in, wrappers_over, overs_by, overs, counts_offset}
use Rattle.paper_table.specs.Types.{text_of, member_of, definition_of, table_of, built_ins, built_in_directives, meaning, can_be}
use Rattle.paper_table.specs.SubTypes.{sub_test}
use Rattle.paper_table.specs.Promises.{promised}
use Rattle.paper_table.specs.Rule1ReservedName.{reserved_name}
use Rattle.paper_table.specs.Rule2NameKnown.{name_known}
use Rattle.paper_table.specs.Rule3NoMembers.{no_members}
use Rattle.paper_table.specs.Rule4NameRepeated.{name_repeated}
use Rattle.paper_table.specs.Rule5ReservedMember.{reserved_member}
use Rattle.paper_table.specs.Rule6EnumValue.{no_enum_values, enum_value}
use Rattle.paper_table.specs.Rule7NoType.{no_type}
use Rattle.paper_table.specs.Rule8Base.{wrong_base}
use Rattle.paper_table.specs.Rule9NotObjectOrInterface.{not_object_or_interface}
use Rattle.paper_table.specs.Rule10ImplementedTwice.{implemented_twice}
use Rattle.paper_table.specs.Rule11FieldMissing.{interface_field_missing}
use Rattle.paper_table.specs.Rule12FieldType.{field_type}
use Rattle.paper_table.specs.Rule13ArgumentMissing.{interface_argument_missing}
use Rattle.paper_table.specs.Rule14ArgumentType.{argument_type}
use Rattle.paper_table.specs.Rule15ArgumentExtra.{argument_extra}
use Rattle.paper_table.specs.Rule16Root.{root_not_object, query_not_object}
use Rattle.paper_table.specs.Judging.{rules, breaks_of, breaks, not_after, least_break, table_answer, judge}
use Rattle.paper_table.proofs.WorkedTables.{h, field, argument, scalar, object, interface, union, enum, input, directive, roots, implements, member, value, query, mutation, subscription, Case, agreed}

-- tags, places, lengths, names, and what is missing
abbrev fields : List Case
fields =
    (0 ∷ [], 7 ∷ 0 ∷ []) ∷
    (1 ∷ [], 7 ∷ 0 ∷ []) ∷
    (1 ∷ 0 ∷ [], 7 ∷ 0 ∷ []) ∷
    (h 1 ([]), 7 ∷ 0 ∷ []) ∷
    (1 ∷ 0 ∷ 1 ∷ [], 7 ∷ 0 ∷ []) ∷
    (h 9 ([]), 7 ∷ 0 ∷ []) ∷
    (h 16 (bytes "a"), 7 ∷ 0 ∷ []) ∷
    (2 ∷ 255 ∷ 255 ∷ [], 7 ∷ 0 ∷ []) ∷
    (scalar "1", 7 ∷ 3 ∷ []) ∷
    (scalar "a b", 7 ∷ 3 ∷ []) ∷
    (h 1 (h 16 (97 ∷ 0 ∷ [])), 7 ∷ 3 ∷ []) ∷
    (h 1 (h 16 (195 ∷ 169 ∷ [])), 7 ∷ 3 ∷ []) ∷
    (h 1 (h 16 (bytes "a") ++ h 16 (bytes "b")), 7 ∷ 7 ∷ []) ∷
    (h 1 (16 ∷ 0 ∷ 1 ∷ 97 ∷ 16 ∷ []), 7 ∷ 7 ∷ []) ∷
    (h 1 (16 ∷ 0 ∷ 1 ∷ 97 ∷ 16 ∷ 0 ∷ []), 7 ∷ 7 ∷ []) ∷
    (h 1 (h 17 (bytes "a")), 7 ∷ 3 ∷ []) ∷
    (h 1 (h 16 (bytes "a") ++ h 18 ([])), 7 ∷ 7 ∷ []) ∷
    (h 2 ([]), 7 ∷ 0 ∷ []) ∷
    (h 2 (h 18 (h 16 (bytes "a") ++ h 20 (bytes "Int"))), 7 ∷ 0 ∷ []) ∷
    (h 2 (h 16 (bytes "O") ++ h 18 ([])), 7 ∷ 7 ∷ []) ∷
    (h 2 (h 16 (bytes "O") ++ h 18 (h 16 (bytes "a"))), 7 ∷ 7 ∷ []) ∷
    (h 2 (h 16 (bytes "O") ++ h 18 (h 20 (bytes "Int"))), 7 ∷ 7 ∷ []) ∷
    (h 2 (h 16 (bytes "O") ++ h 18 (h 20 (bytes "Int") ++ h 16 (bytes "a"))), 7 ∷ 16 ∷ []) ∷
    (h 2 (h 16 (bytes "O") ++ h 18 (h 16 (bytes "a") ++ h 20 (bytes "Int") ++ h 20 (bytes "Int"))), 7 ∷ 20 ∷ []) ∷
    (h 2 (h 16 (bytes "O") ++ h 18 (h 16 (bytes "a") ++ h 16 (bytes "a") ++ h 20 (bytes "Int"))), 7 ∷ 14 ∷ []) ∷
    (h 2 (h 16 (bytes "O") ++ h 18 (h 16 (bytes "a") ++ h 19 (h 16 (bytes "a") ++ h 20 (bytes "Int")) ++ h 20 (bytes "Int"))), 7 ∷ 27 ∷ []) ∷
    (h 2 (h 16 (bytes "O") ++ h 18 (h 16 (bytes "a") ++ h 20 (bytes "Int") ++ h 19 (h 16 (bytes "a")))), 7 ∷ 20 ∷ []) ∷
    (h 2 (h 16 (bytes "O") ++ h 18 (h 16 (bytes "a") ++ h 20 (bytes "Int") ++ h 19 ([]))), 7 ∷ 20 ∷ []) ∷
    (h 2 (h 16 (bytes "O") ++ h 18 (h 16 (bytes "a") ++ h 20 (bytes "Int") ++ h 19 (h 16 (bytes "a") ++ h 20 (bytes "Int") ++ h 20 (bytes "Int")))), 7 ∷ 33 ∷ []) ∷
    (object "O" (field "a" "Int" [] ++ implements "I"), 7 ∷ 20 ∷ []) ∷
    (h 2 (h 18 (h 16 (bytes "a") ++ h 20 (bytes "Int")) ++ h 16 (bytes "O")), 7 ∷ 16 ∷ []) ∷
    (h 2 (h 17 (bytes "I") ++ h 16 (bytes "O")), 7 ∷ 7 ∷ []) ∷
    (object "O" (argument "a" "Int"), 7 ∷ 7 ∷ []) ∷
    (object "O" (member "A"), 7 ∷ 7 ∷ []) ∷
    (interface "I" (implements "J" ++ field "a" "Int" []), 7 ∷ 7 ∷ []) ∷
    (union "U" (value "A"), 7 ∷ 7 ∷ []) ∷
    (h 4 (h 16 (bytes "U") ++ h 21 ([])), 7 ∷ 7 ∷ []) ∷
    (enum "E" (member "A"), 7 ∷ 7 ∷ []) ∷
    (enum "E" (value "1A"), 7 ∷ 7 ∷ []) ∷
    (input "J" (field "a" "Int" []), 7 ∷ 7 ∷ []) ∷
    (h 6 (h 16 (bytes "J") ++ h 19 (h 20 (bytes "Int") ++ h 16 (bytes "a"))), 7 ∷ 16 ∷ []) ∷
    (directive "d" (field "a" "Int" []), 7 ∷ 7 ∷ []) ∷
    (directive "@d" [], 7 ∷ 3 ∷ []) ∷
    (roots [], 7 ∷ 0 ∷ []) ∷
    (h 8 (h 16 (bytes "a")), 7 ∷ 3 ∷ []) ∷
    (roots (mutation "M"), 7 ∷ 0 ∷ []) ∷
    (roots (query "Q" ++ query "Q"), 7 ∷ 7 ∷ []) ∷
    (roots (query "Q" ++ subscription "S" ++ mutation "M"), 7 ∷ 11 ∷ []) ∷
    (roots (query "Q" ++ mutation "M" ++ mutation "M"), 7 ∷ 11 ∷ []) ∷
    (roots (mutation "M" ++ query "Q"), 7 ∷ 7 ∷ []) ∷
    (roots (query "Q" ++ subscription "S" ++ subscription "S"), 7 ∷ 11 ∷ []) ∷
    (roots (query "Q") ++ roots (query "Q"), 7 ∷ 7 ∷ []) ∷
    (h 2 (h 18 (h 16 (bytes "a"))), 7 ∷ 3 ∷ []) ∷
    (h 2 (h 18 ([])), 7 ∷ 3 ∷ []) ∷
    (h 2 (h 16 (bytes "O") ++ h 26 (bytes "a")), 7 ∷ 7 ∷ []) ∷
    (2 ∷ 0 ∷ 21 ∷ 16 ∷ 0 ∷ 5 ∷ 81 ∷ 117 ∷ 101 ∷ 114 ∷ 121 ∷ 18 ∷ 0 ∷ 10 ∷ 16 ∷ 0 ∷ 1 ∷ 97 ∷ 20 ∷ 0 ∷ 3 ∷ 73 ∷ 110 ∷ 116 ∷ 0 ∷ [], 7 ∷ 24 ∷ []) ∷
    (h 2 (h 16 (bytes "Query") ++ h 18 (h 16 (bytes "a") ++ h 20 (bytes "Int"))) ++ h 1 ([]), 7 ∷ 24 ∷ []) ∷
    (2 ∷ 0 ∷ 21 ∷ 16 ∷ 0 ∷ 5 ∷ 81 ∷ 117 ∷ 101 ∷ 114 ∷ 121 ∷ 18 ∷ 0 ∷ 10 ∷ 16 ∷ 0 ∷ 1 ∷ 97 ∷ 20 ∷ 0 ∷ 3 ∷ 73 ∷ 110 ∷ [], 7 ∷ 0 ∷ []) ∷
    (2 ∷ 0 ∷ 21 ∷ 16 ∷ 0 ∷ 5 ∷ 81 ∷ 117 ∷ 101 ∷ 114 ∷ 121 ∷ 18 ∷ 0 ∷ 10 ∷ 16 ∷ 0 ∷ 1 ∷ 97 ∷ 20 ∷ 0 ∷ 3 ∷ 73 ∷ 110 ∷ 116 ∷ 2 ∷ 0 ∷ 1 ∷ [], 7 ∷ 24 ∷ []) ∷
    (h 2 (16 ∷ 0 ∷ 1 ∷ 79 ∷ 18 ∷ 0 ∷ 48 ∷ 16 ∷ 0 ∷ 1 ∷ 97 ∷ 20 ∷ 0 ∷ 3 ∷ 73 ∷ 110 ∷ 116 ∷ []), 7 ∷ 7 ∷ []) ∷
    (h 2 (16 ∷ 0 ∷ 1 ∷ 79 ∷ 18 ∷ 0 ∷ 1 ∷ 16 ∷ 0 ∷ 1 ∷ 97 ∷ 20 ∷ 0 ∷ 3 ∷ 73 ∷ 110 ∷ 116 ∷ []), 7 ∷ 10 ∷ []) ∷
    (6 ∷ [], 7 ∷ 0 ∷ []) ∷
    (5 ∷ [], 7 ∷ 0 ∷ []) ∷
    (3 ∷ [], 7 ∷ 0 ∷ []) ∷
    (2 ∷ [], 7 ∷ 0 ∷ []) ∷
    (4 ∷ [], 7 ∷ 0 ∷ []) ∷
    []

fields_told : T (agreed fields)
unfolding any_of all_of first_at find gather each_from is_name same_ref marked closed read_name ref_from whole_ref ref_of house_fields_from contents look_up open_after in_order by_content wrongs table_wrongs smallest framing_offset room_in overs_in wrappers_over overs_by overs counts_offset text_of member_of definition_of table_of built_ins built_in_directives meaning can_be sub_test reserved_name name_known no_members name_repeated reserved_member no_enum_values enum_value no_type wrong_base not_object_or_interface implemented_twice promised interface_field_missing field_type interface_argument_missing argument_type argument_extra root_not_object query_not_object rules breaks_of breaks not_after least_break table_answer judge
fields_told = tt

-- texts that are no type reference's
abbrev references : List Case
references =
    (h 2 (h 16 (bytes "Query") ++ h 18 (h 16 (bytes "a") ++ h 20 ([]))), 7 ∷ 18 ∷ []) ∷
    (object "Query" (field "a" "!" []), 7 ∷ 18 ∷ []) ∷
    (object "Query" (field "a" "[" []), 7 ∷ 18 ∷ []) ∷
    (object "Query" (field "a" "[]" []), 7 ∷ 18 ∷ []) ∷
    (object "Query" (field "a" "[Int" []), 7 ∷ 18 ∷ []) ∷
    (object "Query" (field "a" "Int]" []), 7 ∷ 18 ∷ []) ∷
    (object "Query" (field "a" "Int!!" []), 7 ∷ 18 ∷ []) ∷
    (object "Query" (field "a" "[Int]!!" []), 7 ∷ 18 ∷ []) ∷
    (object "Query" (field "a" " Int" []), 7 ∷ 18 ∷ []) ∷
    (object "Query" (field "a" "Int " []), 7 ∷ 18 ∷ []) ∷
    (object "Query" (field "a" "In t" []), 7 ∷ 18 ∷ []) ∷
    (object "Query" (field "a" "1" []), 7 ∷ 18 ∷ []) ∷
    (object "Query" (field "a" "[1]" []), 7 ∷ 18 ∷ []) ∷
    (object "Query" (field "a" "Int," []), 7 ∷ 18 ∷ []) ∷
    (object "Query" (field "a" "[[Int]" []), 7 ∷ 18 ∷ []) ∷
    (object "Query" (field "a" "Int#" []), 7 ∷ 18 ∷ []) ∷
    (object "Query" (field "a" "!Int" []), 7 ∷ 18 ∷ []) ∷
    (object "Query" (field "a" "[!Int]" []), 7 ∷ 18 ∷ []) ∷
    (h 2 (h 16 (bytes "Query") ++ h 18 (h 16 (bytes "a") ++ h 20 (239 ∷ 187 ∷ 191 ∷ 73 ∷ 110 ∷ 116 ∷ []))), 7 ∷ 18 ∷ []) ∷
    []

references_told : T (agreed references)
unfolding any_of all_of first_at find gather each_from is_name same_ref marked closed read_name ref_from whole_ref ref_of house_fields_from contents look_up open_after in_order by_content wrongs table_wrongs smallest framing_offset room_in overs_in wrappers_over overs_by overs counts_offset text_of member_of definition_of table_of built_ins built_in_directives meaning can_be sub_test reserved_name name_known no_members name_repeated reserved_member no_enum_values enum_value no_type wrong_base not_object_or_interface implemented_twice promised interface_field_missing field_type interface_argument_missing argument_type argument_extra root_not_object query_not_object rules breaks_of breaks not_after least_break table_answer judge
references_told = tt
