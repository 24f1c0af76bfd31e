-- Worked examples, computed: each rule broken, and its row.
-- The answers are those of document 01 and of its readings; none was taken from what is computed here.
use mathlib.Core.List.{List, [], ◌∷◌, ◌++◌}
use Prim.Native.Nat.{ℕ}
use lib.Dec.{T}
use Rattle.paper.specs.Language.{language}
use Rattle.paper.specs.Lexical.{lexical}
use Rattle.paper.specs.Rows.{rows_of, book}
use Rattle.paper.specs.Reading.{tokens_of}
use Rattle.paper.proofs.Machine.{run, step, enter, choose}
use Rattle.paper.proofs.Longest.{scan}
use Rattle.paper.proofs.Tables.{factored}
use Rattle.paper.proofs.LexTables.{lex_factored}
use Rattle.paper.proofs.Lexing.{text, from}
use Rattle.paper_table.specs.Lists.{any_of, all_of, first_at, find, gather, each_from}
use Rattle.paper_table.specs.References.{is_name, marked, closed, read_name, ref_from, whole_ref, ref_of}
use Rattle.paper_table.specs.House.{house_fields_from}
use Rattle.paper_table.specs.Types.{text_of, member_of, definition_of, table_of, built_ins, built_in_directives, meaning, roots_of}
use Rattle.paper_table.proofs.WorkedTables.{field, argument, object, interface, roots, implements, query, mutation}
use Rattle.paper_query.specs.Constructs.{fragment_named, has_fragment}
use Rattle.paper_query.specs.Enclosing.{composite_of, root_of, field_of, is_typename, condition_of, type_inside_from, type_inside_by, type_inside}
use Rattle.paper_query.specs.Rule1OperationRepeated.{operation_repeated}
use Rattle.paper_query.specs.Rule2OperationUnnamed.{operation_unnamed}
use Rattle.paper_query.specs.Rule3FragmentRepeated.{fragment_repeated}
use Rattle.paper_query.specs.Rule4Condition.{condition_wrong}
use Rattle.paper_query.specs.Rule5Field.{field_not_of_type}
use Rattle.paper_query.specs.Rule6Leaf.{has_selections, leaf_wrong}
use Rattle.paper_query.specs.Rule7Spread.{spread_of_none}
use Rattle.paper_query.specs.Rule9Directive.{rows_below, directive_wrong}
use Rattle.paper_query.specs.Rule11VariableType.{declared, no_input_type}
use Rattle.paper_query.specs.Rule12NameTwice.{name_twice}
use Rattle.paper_query.specs.Rule13NoRoot.{no_root}
use Rattle.paper_query.specs.Rule14Argument.{argument_unknown}
use Rattle.paper_query.proofs.WorkedRules.{table_t, table_s, Case, agreed, agreed_all}

-- 01: D on T; what T lacks
abbrev of_t : List Case
of_t =
    ("{ a: machine(id: 4) { tag ...F } ...R a: machine(id: 4) { tag } } fragment F on Fan { rpm } fragment R on Query { fan(no: 3) { rpm } }", []) ∷
    ("{ fan(no: 3) { flow } }", 4 ∷ 5 ∷ []) ∷
    ("{ machine(id: 4) { rpm } }", 4 ∷ 5 ∷ []) ∷
    ("{ machine(id: 4) { ... on Pump { flow } } }", []) ∷
    []

of_t_told : T (agreed (table_of table_t) of_t)
unfolding from text scan step enter choose lexical lex_factored language factored run rows_of book tokens_of any_of all_of first_at find gather each_from is_name marked closed read_name ref_from whole_ref ref_of house_fields_from text_of member_of definition_of table_of built_ins built_in_directives meaning roots_of fragment_named has_fragment composite_of root_of field_of is_typename condition_of type_inside_from type_inside_by type_inside operation_repeated operation_unnamed fragment_repeated condition_wrong field_not_of_type has_selections leaf_wrong spread_of_none rows_below directive_wrong declared no_input_type name_twice no_root argument_unknown
of_t_told = tt

-- rules 1, 2, 3 and 12
abbrev repeated : List Case
repeated =
    ("query A{a} query A{a}", 2 ∷ 1 ∷ []) ∷
    ("query A{a} query B{a}", []) ∷
    ("{a} {a}", 0 ∷ 2 ∷ []) ∷
    ("query A{a} {a} query B{a}", 2 ∷ 2 ∷ []) ∷
    ("query F{...F} fragment F on Query{a}", []) ∷
    ("{a} fragment F on Query{a} fragment F on Query{...F}", 5 ∷ 3 ∷ []) ∷
    ("{f(x:1 x:1)}", 4 ∷ 12 ∷ []) ∷
    ("{a: f(x:1) b: f(x:1)}", []) ∷
    ("query($v:Int $v:Int){a}", 3 ∷ 12 ∷ []) ∷
    ("{f(i:{n:1 n:2})}", []) ∷
    []

repeated_told : T (agreed (table_of table_s) repeated)
unfolding from text scan step enter choose lexical lex_factored language factored run rows_of book tokens_of any_of all_of first_at find gather each_from is_name marked closed read_name ref_from whole_ref ref_of house_fields_from text_of member_of definition_of table_of built_ins built_in_directives meaning roots_of fragment_named has_fragment composite_of root_of field_of is_typename condition_of type_inside_from type_inside_by type_inside operation_repeated operation_unnamed fragment_repeated condition_wrong field_not_of_type has_selections leaf_wrong spread_of_none rows_below directive_wrong declared no_input_type name_twice no_root argument_unknown
repeated_told = tt

-- rules 4, 5, 6, 13, 14 and the first half of 11; nothing is judged where the type is not known
abbrev typed : List Case
typed =
    ("{...on In{a}}", 2 ∷ 4 ∷ []) ∷
    ("{a} fragment F on Nope{a}", 3 ∷ 4 ∷ []) ∷
    ("{nope}", 1 ∷ 5 ∷ []) ∷
    ("{u{a}}", 2 ∷ 5 ∷ []) ∷
    ("{__schema{a}}", 1 ∷ 5 ∷ []) ∷
    ("{u{__typename}}", []) ∷
    ("{q}", 1 ∷ 6 ∷ []) ∷
    ("{a{a}}", 1 ∷ 6 ∷ []) ∷
    ("{__typename{a}}", 1 ∷ 6 ∷ []) ∷
    ("{__typename(x:1)}", 2 ∷ 14 ∷ []) ∷
    ("{a(x:1)}", 2 ∷ 14 ∷ []) ∷
    ("mutation{a}", 0 ∷ 13 ∷ []) ∷
    ("query($v:O){a}", 1 ∷ 11 ∷ []) ∷
    ("query($v:Nope){a}", 1 ∷ 11 ∷ []) ∷
    ("query($v:[In!]){a}", []) ∷
    ("{...on Nope{nope(x:1)}}", 2 ∷ 4 ∷ []) ∷
    ("{q{...on O{o{a}}}}", []) ∷
    ("{a} fragment F on Query{nope}", 4 ∷ 5 ∷ []) ∷
    []

typed_told : T (agreed (table_of table_s) typed)
unfolding from text scan step enter choose lexical lex_factored language factored run rows_of book tokens_of any_of all_of first_at find gather each_from is_name marked closed read_name ref_from whole_ref ref_of house_fields_from text_of member_of definition_of table_of built_ins built_in_directives meaning roots_of fragment_named has_fragment composite_of root_of field_of is_typename condition_of type_inside_from type_inside_by type_inside operation_repeated operation_unnamed fragment_repeated condition_wrong field_not_of_type has_selections leaf_wrong spread_of_none rows_below directive_wrong declared no_input_type name_twice no_root argument_unknown
typed_told = tt

-- rules 7 and 9
abbrev spread : List Case
spread =
    ("{...F}", 1 ∷ 7 ∷ []) ∷
    ("{...F} fragment G on Query{a}", 1 ∷ 7 ∷ []) ∷
    ("{a @d}", 2 ∷ 9 ∷ []) ∷
    ("{a @skip}", 2 ∷ 9 ∷ []) ∷
    ("{a @skip(if:1)}", 2 ∷ 9 ∷ []) ∷
    ("{a @skip(of:true)}", 2 ∷ 9 ∷ []) ∷
    ("{a @skip(if:true if:true)}", 2 ∷ 9 ∷ []) ∷
    ("{a @skip(if:true of:true)}", 2 ∷ 9 ∷ []) ∷
    ("query @skip(if:true){a}", 1 ∷ 9 ∷ []) ∷
    ("{a} fragment F on Query @include(if:true){a}", 4 ∷ 9 ∷ []) ∷
    ("{a @skip(if:true) @skip(if:true)}", 5 ∷ 9 ∷ []) ∷
    ("{a @skip(if:true) @include(if:false)}", []) ∷
    ("{a @skip(if:true) b: a @skip(if:true)}", []) ∷
    []

spread_told : T (agreed (table_of table_s) spread)
unfolding from text scan step enter choose lexical lex_factored language factored run rows_of book tokens_of any_of all_of first_at find gather each_from is_name marked closed read_name ref_from whole_ref ref_of house_fields_from text_of member_of definition_of table_of built_ins built_in_directives meaning roots_of fragment_named has_fragment composite_of root_of field_of is_typename condition_of type_inside_from type_inside_by type_inside operation_repeated operation_unnamed fragment_repeated condition_wrong field_not_of_type has_selections leaf_wrong spread_of_none rows_below directive_wrong declared no_input_type name_twice no_root argument_unknown
spread_told = tt

-- what the rules do not ask
abbrev nothing : List Case
nothing =
    ("{g ...on O{a}}", []) ∷
    ("query($v:Int){a}", []) ∷
    []

nothing_told : T (agreed (table_of table_s) nothing)
unfolding from text scan step enter choose lexical lex_factored language factored run rows_of book tokens_of any_of all_of first_at find gather each_from is_name marked closed read_name ref_from whole_ref ref_of house_fields_from text_of member_of definition_of table_of built_ins built_in_directives meaning roots_of fragment_named has_fragment composite_of root_of field_of is_typename condition_of type_inside_from type_inside_by type_inside operation_repeated operation_unnamed fragment_repeated condition_wrong field_not_of_type has_selections leaf_wrong spread_of_none rows_below directive_wrong declared no_input_type name_twice no_root argument_unknown
nothing_told = tt

-- every break: nothing inside a type that is not known breaks a rule, and each of two unnamed operations breaks one
abbrev whole : List Case
whole =
    ("{...on Nope{nope(x:1) a{b}}}", 2 ∷ 4 ∷ []) ∷
    ("{nope{a b(x:1){c}}}", 1 ∷ 5 ∷ []) ∷
    ("{a{b(x:1)}}", 1 ∷ 6 ∷ []) ∷
    ("mutation{a{b(x:1)}}", 0 ∷ 13 ∷ []) ∷
    ("{a} {a}", 0 ∷ 2 ∷ 2 ∷ 2 ∷ []) ∷
    []

whole_told : T (agreed_all (table_of table_s) whole)
unfolding from text scan step enter choose lexical lex_factored language factored run rows_of book tokens_of any_of all_of first_at find gather each_from is_name marked closed read_name ref_from whole_ref ref_of house_fields_from text_of member_of definition_of table_of built_ins built_in_directives meaning roots_of fragment_named has_fragment composite_of root_of field_of is_typename condition_of type_inside_from type_inside_by type_inside operation_repeated operation_unnamed fragment_repeated condition_wrong field_not_of_type has_selections leaf_wrong spread_of_none rows_below directive_wrong declared no_input_type name_twice no_root argument_unknown
whole_told = tt

-- readings 58, 71, 72: roots of two kinds; a type named as a root; an interface's field
abbrev two_roots : List ℕ
two_roots = object "Q" (field "a" "Int" []) ++ roots (query "Q" ++ mutation "Q")

-- operations of all kinds share their names
abbrev rooted : List Case
rooted =
    ("query A{a} mutation A{a}", 2 ∷ 1 ∷ []) ∷
    ("mutation{a}", []) ∷
    ("subscription{a}", 0 ∷ 13 ∷ []) ∷
    []

rooted_told : T (agreed (table_of two_roots) rooted)
unfolding from text scan step enter choose lexical lex_factored language factored run rows_of book tokens_of any_of all_of first_at find gather each_from is_name marked closed read_name ref_from whole_ref ref_of house_fields_from text_of member_of definition_of table_of built_ins built_in_directives meaning roots_of fragment_named has_fragment composite_of root_of field_of is_typename condition_of type_inside_from type_inside_by type_inside operation_repeated operation_unnamed fragment_repeated condition_wrong field_not_of_type has_selections leaf_wrong spread_of_none rows_below directive_wrong declared no_input_type name_twice no_root argument_unknown
rooted_told = tt

abbrev no_roots : List ℕ
no_roots = object "Query" (field "a" "Int" []) ++ object "Mutation" (field "a" "Int" [])

-- without record 8 a type named `Mutation` is no root
abbrev unrooted : List Case
unrooted =
    ("mutation{a}", 0 ∷ 13 ∷ []) ∷
    ("{a}", []) ∷
    []

unrooted_told : T (agreed (table_of no_roots) unrooted)
unfolding from text scan step enter choose lexical lex_factored language factored run rows_of book tokens_of any_of all_of first_at find gather each_from is_name marked closed read_name ref_from whole_ref ref_of house_fields_from text_of member_of definition_of table_of built_ins built_in_directives meaning roots_of fragment_named has_fragment composite_of root_of field_of is_typename condition_of type_inside_from type_inside_by type_inside operation_repeated operation_unnamed fragment_repeated condition_wrong field_not_of_type has_selections leaf_wrong spread_of_none rows_below directive_wrong declared no_input_type name_twice no_root argument_unknown
unrooted_told = tt

abbrev through_interface : List ℕ
through_interface =
    object "Query" (field "n" "J" []) ++ interface "J" (field "g" "Int" (argument "x" "Int")) ++
    object "M" (implements "J" ++ field "g" "Int" (argument "x" "Int" ++ argument "y" "Int"))

-- an object's extra arguments are unknown through its interface
abbrev field_of_interface : List Case
field_of_interface =
    ("{n{g(y:1)}}", 3 ∷ 14 ∷ []) ∷
    ("{n{g(x:1)}}", []) ∷
    ("{n{...on M{g(y:1)}}}", []) ∷
    []

field_of_interface_told : T (agreed (table_of through_interface) field_of_interface)
unfolding from text scan step enter choose lexical lex_factored language factored run rows_of book tokens_of any_of all_of first_at find gather each_from is_name marked closed read_name ref_from whole_ref ref_of house_fields_from text_of member_of definition_of table_of built_ins built_in_directives meaning roots_of fragment_named has_fragment composite_of root_of field_of is_typename condition_of type_inside_from type_inside_by type_inside operation_repeated operation_unnamed fragment_repeated condition_wrong field_not_of_type has_selections leaf_wrong spread_of_none rows_below directive_wrong declared no_input_type name_twice no_root argument_unknown
field_of_interface_told = tt
