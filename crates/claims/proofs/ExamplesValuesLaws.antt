-- 01's examples (1) to (7): what the arguments of each field are coerced to, by the rules.
use mathlib.Core.Path.{◌≡◌, refl, ap, ◌∙◌, subst}
use mathlib.Core.Bool.{not}
use mathlib.Core.List.{List, [], ◌∷◌, ◌++◌}
use mathlib.Core.Option.{none}
use Prim.Native.Nat.{ℕ, suc, ◌+◌, ◌-◌}
use lib.Dec.{T}
use Rattle.paper.specs.Numbers.{input_document, kind_field, kind_argument, kind_object_field, kind_integer, kind_object}
use Rattle.paper_theory.proofs.TokensLaws.{tokens_are}
use Rattle.paper_table.specs.Lists.{bytes, any_of, all_of, first_at, find, gather, each_from}
use Rattle.paper_table.specs.References.{Ref, named, is_name, marked, closed, read_name, ref_from, whole_ref, ref_of}
use Rattle.paper_table.specs.House.{house_fields_from}
use Rattle.paper_table.proofs.WorkedTables.{h}
use Rattle.paper_table.specs.Types.{text_of, member_of, definition_of, table_of, built_ins, meaning, roots_of}
use Rattle.paper_query.specs.Constructs.{count, row_of, kind_of, parent_of, name_of, is, numbers_where}
use Rattle.paper_query.specs.Enclosing.{composite_of, root_of, field_of, is_typename, condition_of, type_inside_from, type_inside_by, type_inside, field_at}
use Rattle.paper_query.specs.Reaching.{is_definition, itself, deeper, here}
use Rattle.paper_query.specs.Rule11VariableType.{declared}
use Rattle.paper_query.specs.DocumentCalls.{read}
use Rattle.paper_values.specs.Characters.{written, characters_from, characters_of}
use Rattle.paper_values.specs.NumberTokens.{value_from, int_of, float_content}
use Rattle.paper_values.specs.Values.{At, Value, variable, integer, string, null, object, no_entries, entry, Entries, Due, Tree, Null, Bits, Fields, no_pairs, pair, Out, Got, No}
use Rattle.paper_values.specs.Kinds.{kind_of_type}
use Rattle.paper_values.specs.Computed.{coerce, arguments_of}
use Rattle.paper_values.specs.Encoding.{encode}
use Rattle.paper_values.specs.RowValues.{ref_of_wrappers, placed, token_at, entries_from, value_at, arguments_at}
use Rattle.paper_values.specs.DocumentDues.{variable_dues, given_in, argument_dues, ReachedField}
use Rattle.paper_values.specs.CallRules.{CoercesArguments}
use Rattle.paper_values.specs.ValueCalls.{Ending, ends, yields, ended, ArgumentsEnd, arguments_coerced}
use Rattle.paper_values.proofs.CallsExact.{arguments_have}
use Rattle.claims.proofs.RowEntriesLaws.{passing, over, entries_are, value_variable, value_integer, value_string, value_null, value_object}
use Rattle.claims.proofs.ExamplesWords.{table_e, document_e, none_set}
use Rattle.claims.proofs.ExamplesWords as words
use Rattle.claims.proofs.ExamplesReadLaws.{E, E-opened, none_rows, none_said}

abbrev at : ℕ → At
at i = placed input_document E i

abbrev due : List ℕ → Ref → Due
due n t = record { name = n; type = t; default = none }

-- ---- what is due, and what is given

-- the operation's variable
abbrev var_dues : List (At × Due)
var_dues = (at 1, due (bytes "var") (named (bytes "String"))) ∷ []

variables_due : variable_dues E 0 ≡ var_dues
unfolding first_at find each_from numbers_where declared ref_of_wrappers
variables_due = refl

none_given : given_in (read none_set none_rows) ≡ no_entries
unfolding entries_from
none_given = refl

-- f's argument, and g's
f_due : argument_dues (field_at (table_of table_e) E 3) ≡ due (bytes "x") (named (bytes "Int")) ∷ []
unfolding any_of all_of first_at find gather each_from is_name marked closed read_name ref_from whole_ref ref_of house_fields_from text_of member_of definition_of table_of built_ins meaning roots_of composite_of root_of field_of is_typename condition_of type_inside_from type_inside_by type_inside
f_due = refl

g_due : argument_dues (field_at (table_of table_e) E 15) ≡ due (bytes "in") (named (bytes "In")) ∷ []
unfolding any_of all_of first_at find gather each_from is_name marked closed read_name ref_from whole_ref ref_of house_fields_from text_of member_of definition_of table_of built_ins meaning roots_of composite_of root_of field_of is_typename condition_of type_inside_from type_inside_by type_inside
g_due = refl

-- the arguments of each field: a row's value of the kinds that stand there, and the entries below it
abbrev value : ℕ → ℕ → Value
value k i = value_at input_document E k i

integer_is : (k i : ℕ) → kind_of E i ≡ kind_integer → value (suc k) i ≡ integer (at i) (token_at input_document E i)
integer_is = value_integer input_document E

arguments_are : (row m c : ℕ) → passing input_document E kind_argument row m c ≡ c ∷ [] → entries_from input_document E (value 33) kind_argument row m c ≡ entry (at c) (name_of E c) (value 33 (c + 1)) no_entries
arguments_are row m c = entries_are input_document E (value 33) kind_argument row m c (c ∷ [])

object_is : (k i : ℕ) (ns : List ℕ) → kind_of E i ≡ kind_object → passing input_document E kind_object_field i (count E - (i + 1)) (i + 1) ≡ ns → value (suc k) i ≡ object (at i) (over input_document E (value k) ns)
object_is k i ns e p = value_object input_document E k i e ∙ ap (object (at i)) (entries_are input_document E (value k) kind_object_field i (count E - (i + 1)) (i + 1) ns p)

abbrev one : ℕ → List ℕ → Entries
one i s = entry (at i) (bytes "x") (integer (at (i + 1)) s) no_entries

arguments_1 : arguments_at input_document E 3 ≡ one 4 (bytes "2147483647")
arguments_1 = rw (arguments_are 3 30 4 refl, integer_is 32 5 refl)

arguments_2 : arguments_at input_document E 6 ≡ one 7 (bytes "2147483648")
arguments_2 = rw (arguments_are 6 27 7 refl, integer_is 32 8 refl)

arguments_3 : arguments_at input_document E 9 ≡ one 10 (bytes "-2147483648")
arguments_3 = rw (arguments_are 9 24 10 refl, integer_is 32 11 refl)

arguments_4 : arguments_at input_document E 12 ≡ one 13 (bytes "-2147483649")
arguments_4 = rw (arguments_are 12 21 13 refl, integer_is 32 14 refl)

abbrev in_object : ℕ → Entries → Entries
in_object i es = entry (at i) (bytes "in") (object (at (i + 1)) es) no_entries

abbrev quoted : List ℕ
quoted = bytes "\"abc\""

arguments_5 : arguments_at input_document E 15 ≡ in_object 16 (entry (at 18) (bytes "a") (string (at 19) quoted (characters_of quoted)) no_entries)
arguments_5 = rw (arguments_are 15 18 16 refl, object_is 32 17 (18 ∷ []) refl refl, value_string input_document E 31 19 refl)

arguments_6 : arguments_at input_document E 20 ≡ in_object 21 (entry (at 23) (bytes "a") (null (at 24)) (entry (at 25) (bytes "b") (integer (at 26) (bytes "1")) no_entries))
arguments_6 = rw (arguments_are 20 13 21 refl, object_is 32 22 (23 ∷ 25 ∷ []) refl refl, value_null input_document E 31 24 refl, integer_is 31 26 refl)

arguments_7 : arguments_at input_document E 27 ≡ in_object 28 (entry (at 30) (bytes "a") (variable (at 31) (bytes "var")) (entry (at 32) (bytes "b") (integer (at 33) (bytes "1")) no_entries))
arguments_7 = rw (arguments_are 27 6 28 refl, object_is 32 29 (30 ∷ 32 ∷ []) refl refl, value_variable input_document E 31 31 refl, integer_is 31 33 refl)

-- ---- what they are coerced to

-- `gives row es ds`: the field at the row, with the arguments es where ds are due
abbrev gives : ℕ → Entries → List Due → Out Tree
gives row es ds = arguments_of (kind_of_type (table_of table_e)) no_entries var_dues (at row) es ds

-- the call for a row ends so
abbrev pub Ends : ℕ → Ending → Type 0
Ends row e = ArgumentsEnd table_e document_e [] none_set row e

ends_so : (row : ℕ) (es : Entries) (ds : List Due) (o : Out Tree) → ReachedField E 0 row → arguments_at input_document E row ≡ es → argument_dues (field_at (table_of table_e) E row) ≡ ds → gives row es ds ≡ o → Ends row (ended o)
ends_so row es ds o f e d g =
    let have : CoercesArguments (kind_of_type (table_of table_e)) no_entries var_dues (at row) es ds o =
    subst (CoercesArguments (kind_of_type (table_of table_e)) no_entries var_dues (at row) es ds) g (arguments_have (kind_of_type (table_of table_e)) no_entries var_dues (at row) es ds) in
    arguments_coerced {o = o} E-opened f (tokens_are none_set) none_said (rw (none_given, variables_due, e, d) have)

-- a field of the operation itself
own : (row : ℕ) → T (is kind_field (row_of E row)) → T (not (is_definition (row_of E row))) → parent_of E row ≡ 0 → ReachedField E 0 row
own row f n e = record { field = f; reached = here (deeper {i = row} n (rw e itself)) }

-- (1) to (7)
pub seven_end :
    Ends 3 (yields (h 39 (words.entry "x" (h 33 (0x7f ∷ 0xff ∷ 0xff ∷ 0xff ∷ [])))))
    × Ends 6 (ends 11 (0 ∷ 8 ∷ 2 ∷ []))
    × Ends 9 (yields (h 39 (words.entry "x" (h 33 (0x80 ∷ 0 ∷ 0 ∷ 0 ∷ [])))))
    × Ends 12 (ends 11 (0 ∷ 14 ∷ 2 ∷ []))
    × Ends 15 (ends 11 (0 ∷ 17 ∷ 3 ∷ []))
    × Ends 20 (yields (h 39 (words.entry "in" (h 39 (words.entry "a" (h 32 []) ++ words.entry "b" (h 33 (0 ∷ 0 ∷ 0 ∷ 1 ∷ [])))))))
    × Ends 27 (yields (h 39 (words.entry "in" (h 39 (words.entry "b" (h 33 (0 ∷ 0 ∷ 0 ∷ 1 ∷ [])))))))
unfolding any_of all_of first_at find gather each_from is_name marked closed read_name ref_from whole_ref ref_of house_fields_from text_of member_of definition_of table_of built_ins meaning written characters_from characters_of value_from int_of float_content kind_of_type coerce encode
seven_end = (
  ends_so 3 _ _ (Got (Fields (pair (bytes "x") (Bits 2147483647) no_pairs))) (own 3 tt tt refl) arguments_1 f_due refl,
  ends_so 6 _ _ (No (at 8) 2) (own 6 tt tt refl) arguments_2 f_due refl,
  ends_so 9 _ _ (Got (Fields (pair (bytes "x") (Bits 2147483648) no_pairs))) (own 9 tt tt refl) arguments_3 f_due refl,
  ends_so 12 _ _ (No (at 14) 2) (own 12 tt tt refl) arguments_4 f_due refl,
  ends_so 15 _ _ (No (at 17) 3) (own 15 tt tt refl) arguments_5 g_due refl,
  ends_so 20 _ _ (Got (Fields (pair (bytes "in") (Fields (pair (bytes "a") Null (pair (bytes "b") (Bits 1) no_pairs))) no_pairs))) (own 20 tt tt refl) arguments_6 g_due refl,
  ends_so 27 _ _ (Got (Fields (pair (bytes "in") (Fields (pair (bytes "b") (Bits 1) no_pairs)) no_pairs))) (own 27 tt tt refl) arguments_7 g_due refl,
)
