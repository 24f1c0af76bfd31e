-- The table and the document of 01's examples (1) to (7): its bytes are read into its rows, and keep every rule.
use mathlib.Core.Path.{◌≡◌, refl, sym, subst}
use mathlib.Core.Bool.{Bool, true, false, true≢false, not, ◌&&◌, ◌||◌}
use mathlib.Core.Option.{some}
use mathlib.Core.List.{List, [], ◌∷◌}
use Prim.Native.Nat.{ℕ, ◌<◌}
use native.Mathlib.Decide.{dec_lt}
use native.Mathlib.Omega.{arith}
use lib.Dec.{T, eqb}
use borrow.Author.Tests.{eqb-true}
use Rattle.paper.proofs.Bools.{T→eq as so}
use Rattle.paper.specs.Numbers.{kind_operation, kind_fragment, kind_variable}
use Rattle.paper.specs.Language.{Document, VariablesText, language}
use Rattle.paper.specs.Lexical.{lexical}
use Rattle.paper.specs.Rows.{Row, book, rows_of}
use Rattle.paper.specs.Reading.{tokens_of, rows_are, TextAnswer}
use Rattle.paper.proofs.Machine.{enter, choose, step, run}
use Rattle.paper.proofs.Longest.{scan}
use Rattle.paper.proofs.Tables.{factored}
use Rattle.paper.proofs.LexTables.{lex_factored}
use Rattle.paper.proofs.Lexing.{text, from}
use Rattle.paper.proofs.Going.{go}
use Rattle.paper.proofs.Worked.{r, rows_by}
use Rattle.paper_theory.proofs.TokensLaws.{tokens_are}
use Rattle.paper_table.specs.Lists.{any_of, all_of, first_at, find, gather, each_from}
use Rattle.paper_table.specs.References.{is_name, same_ref, marked, closed, read_name, ref_from, whole_ref, ref_of}
use Rattle.paper_table.specs.House.{house_fields_from, contents, look_up, open_after, in_order, by_content, wrongs, table_wrongs, smallest, framing_offset}
use Rattle.paper_table.specs.TableSizes.{room_in, overs_in, wrappers_over, overs_by, overs, counts_offset}
use Rattle.paper_table.specs.Types.{text_of, member_of, definition_of, table_of, built_ins, built_in_directives, meaning, can_be, roots_of}
use Rattle.paper_table.specs.SubTypes.{sub_test}
use Rattle.paper_table.specs.Promises.{promised}
use Rattle.paper_table.specs.Rule1ReservedName.{reserved_name}
use Rattle.paper_table.specs.Rule2NameKnown.{name_known}
use Rattle.paper_table.specs.Rule3NoMembers.{no_members}
use Rattle.paper_table.specs.Rule4NameRepeated.{name_repeated}
use Rattle.paper_table.specs.Rule5ReservedMember.{reserved_member}
use Rattle.paper_table.specs.Rule6EnumValue.{no_enum_values, enum_value}
use Rattle.paper_table.specs.Rule7NoType.{no_type}
use Rattle.paper_table.specs.Rule8Base.{wrong_base}
use Rattle.paper_table.specs.Rule9NotObjectOrInterface.{not_object_or_interface}
use Rattle.paper_table.specs.Rule10ImplementedTwice.{implemented_twice}
use Rattle.paper_table.specs.Rule11FieldMissing.{interface_field_missing}
use Rattle.paper_table.specs.Rule12FieldType.{field_type}
use Rattle.paper_table.specs.Rule13ArgumentMissing.{interface_argument_missing}
use Rattle.paper_table.specs.Rule14ArgumentType.{argument_type}
use Rattle.paper_table.specs.Rule15ArgumentExtra.{argument_extra}
use Rattle.paper_table.specs.Rule16Root.{root_not_object, query_not_object}
use Rattle.paper_table.specs.Judging.{rules, breaks_of, breaks, not_after, least_break, table_answer, judge}
use Rattle.paper_table.specs.declared.TableAnswer.TheVariants.{Accepted}
use Rattle.paper_query.specs.Constructs.{Doc, count, row_of, is, name_of, fragment_named, has_fragment, numbers_where}
use Rattle.paper_query.specs.Enclosing.{composite_of, root_of, field_of, is_typename, condition_of, type_inside_from, type_inside_by, type_inside}
use Rattle.paper_query.specs.PlaceTypes.{wrappers_of, same_but_non_null, item_of, input_field_of, place_from, place_by, place}
use Rattle.paper_query.specs.Rule1OperationRepeated.{operation_repeated}
use Rattle.paper_query.specs.Rule2OperationUnnamed.{operation_unnamed}
use Rattle.paper_query.specs.Rule3FragmentRepeated.{fragment_repeated}
use Rattle.paper_query.specs.Rule4Condition.{condition_wrong}
use Rattle.paper_query.specs.Rule5Field as rule-5
use Rattle.paper_query.specs.Rule6Leaf.{has_selections, leaf_wrong}
use Rattle.paper_query.specs.Rule7Spread.{spread_of_none}
use Rattle.paper_query.specs.Rule9Directive.{rows_below, directive_wrong}
use Rattle.paper_query.specs.Rule10Undefined.{defines}
use Rattle.paper_query.specs.Rule11VariableType.{declared, no_input_type, declared_by, differ}
use Rattle.paper_query.specs.Rule12NameTwice.{name_twice}
use Rattle.paper_query.specs.Rule13NoRoot.{no_root}
use Rattle.paper_query.specs.Rule14Argument.{argument_unknown}
use Rattle.paper_query.specs.QueryRules.{Broken, by_operation_repeated, by_operation_unnamed, by_fragment_repeated, condition, by_field_not_of_type, leaf, by_spread_of_none, circle, directive, undefined, by_no_input_type, other_type, by_name_twice, by_no_root, unknown_argument, no_break}
use Rattle.paper_query.specs.DocumentCalls.{read}
use Rattle.paper_query.specs.Opening.{AcceptedDocument, operation_meant, Opened, opened, opens}
use Rattle.paper_query.proofs.BrokenAt.{past_broken}
use Rattle.paper_plan.proofs.ExamplesBlocks.{up_to, up_to_is}
use Rattle.plan_theory.proofs.Plannable.{in_range}
use Rattle.claims.proofs.ExamplesWords.{table_e, document_e, none_set}
use Rattle.claims.proofs.WorkedLaws.{goes, is_whole, said_by, silent}

-- the document's rows
abbrev pub E : Doc
E =
    read document_e (
    r 1 0 191 2048 0 0 0 ∷ r 8 6 18 0 7 3 0 ∷ r 9 12 18 1 12 6 0 ∷ r 3 22 42 0 26 1 0 ∷ r 6 28 41 3 28 1 0 ∷
    r 21 31 41 4 0 0 0 ∷ r 3 43 63 0 47 1 0 ∷ r 6 49 62 6 49 1 0 ∷ r 21 52 62 7 0 0 0 ∷ r 3 64 85 0 68 1 0 ∷
    r 6 70 84 9 70 1 0 ∷ r 21 73 84 10 0 0 0 ∷ r 3 86 107 0 90 1 0 ∷ r 6 92 106 12 92 1 0 ∷ r 21 95 106 13 0 0 0 ∷
    r 3 108 131 0 112 1 0 ∷ r 6 114 130 15 114 2 0 ∷ r 28 118 130 16 0 0 0 ∷ r 10 120 128 17 120 1 0 ∷ r 23 123 128 18 0 0 0 ∷
    r 3 132 160 0 136 1 0 ∷ r 6 138 159 20 138 2 0 ∷ r 28 142 159 21 0 0 0 ∷ r 10 144 151 22 144 1 0 ∷ r 25 147 151 23 0 0 0 ∷
    r 10 153 157 22 153 1 0 ∷ r 21 156 157 25 0 0 0 ∷ r 3 161 189 0 165 1 0 ∷ r 6 167 188 27 167 2 0 ∷ r 28 171 188 28 0 0 0 ∷
    r 10 173 180 29 173 1 0 ∷ r 20 176 180 30 177 3 0 ∷ r 10 182 186 29 182 1 0 ∷ r 21 185 186 32 0 0 0 ∷ [])

E-whole : is_whole (goes Document document_e) ≡ true
unfolding from text scan step enter choose lexical lex_factored language factored go
E-whole = refl

E-rows : rows_by Document document_e ≡ E.rows
unfolding from text scan step enter choose lexical lex_factored language factored run rows_of book tokens_of
E-rows = refl

E-said : TextAnswer Document (from document_e 0) (rows_are E.rows)
E-said = said_by Document document_e E.rows E-whole _ _ refl E-rows

-- ---- the table is right

E-right : judge table_e ≡ Accepted
unfolding any_of all_of first_at find gather each_from is_name same_ref marked closed read_name ref_from whole_ref ref_of house_fields_from contents look_up open_after in_order by_content wrongs table_wrongs smallest framing_offset room_in overs_in wrappers_over overs_by overs counts_offset text_of member_of definition_of table_of built_ins built_in_directives meaning can_be sub_test reserved_name name_known no_members name_repeated reserved_member no_enum_values enum_value no_type wrong_base not_object_or_interface implemented_twice promised interface_field_missing field_type interface_argument_missing argument_type argument_extra root_not_object query_not_object rules breaks_of breaks not_after least_break table_answer judge
E-right = refl

-- ---- no row breaks a rule

-- its only operation is row 0
operation_is : (o : ℕ) → T (is kind_operation (row_of E o)) → o ≡ 0
operation_is o t = go (is kind_operation (row_of E o)) (eqb o 0) refl refl (up_to_is (λ i. not (is kind_operation (row_of E i)) || eqb i 0) (count E) refl o (in_range E kind_operation o refl (so (is kind_operation (row_of E o)) t)))
  where
    go : (a b : Bool) → is kind_operation (row_of E o) ≡ a → eqb o 0 ≡ b → (not a || b) ≡ true → o ≡ 0
    go a true x y h = eqb-true o 0 y
    go true false x y h = absurd (true≢false (sym h))
    go false false x y h = absurd (rw x at t)

both : (a b : Bool) → T a → T b → T (a && b)
both true b x y = y
both false b x y = elim x [ ]

-- a variable at which no test passes by the operation 0 passes none by an operation
at_operation : (f : ℕ → ℕ → Bool) → up_to (λ i. not (is kind_variable (row_of E i) && f 0 i)) (count E) ≡ true →
    (i o : ℕ) → i < count E → T (is kind_variable (row_of E i)) → T (is kind_operation (row_of E o)) → T (f o i) → ⊥
at_operation f h i o l v k t =
    silent E (λ j. is kind_variable (row_of E j) && f 0 j) h i l (both (is kind_variable (row_of E i)) (f 0 i) v (subst (λ (x : ℕ). T (f x i)) (operation_is o k) t))

not_broken : (i k : ℕ) → i < count E → Broken (table_of table_e) E i k → ⊥
unfolding any_of all_of first_at find gather each_from is_name marked closed read_name ref_from whole_ref ref_of house_fields_from text_of member_of definition_of table_of built_ins built_in_directives meaning roots_of fragment_named has_fragment composite_of root_of field_of is_typename condition_of type_inside_from type_inside_by type_inside operation_repeated operation_unnamed fragment_repeated condition_wrong rule-5.field_not_of_type has_selections leaf_wrong spread_of_none rows_below directive_wrong defines declared no_input_type declared_by wrappers_of same_but_non_null item_of input_field_of place_from place_by place name_twice no_root argument_unknown
not_broken i k l (by_operation_repeated h) = silent E (operation_repeated E) refl i l h
not_broken i k l (by_operation_unnamed h) = silent E (operation_unnamed E) refl i l h
not_broken i k l (by_fragment_repeated h) = silent E (fragment_repeated E) refl i l h
not_broken i k l (condition h) = silent E (condition_wrong (table_of table_e) E) refl i l h
not_broken i k l (by_field_not_of_type h) = silent E (rule-5.field_not_of_type (table_of table_e) E) refl i l h
not_broken i k l (leaf h) = silent E (leaf_wrong (table_of table_e) E) refl i l h
not_broken i k l (by_spread_of_none h) = silent E (spread_of_none E) refl i l h
not_broken i k l (circle c) = silent E (λ j. is kind_fragment (row_of E j)) refl i l c.fragment
not_broken i k l (directive h) = silent E (directive_wrong E) refl i l h
not_broken i k l (undefined u) = at_operation (λ o j. not (defines E o (name_of E j))) refl i u.operation l u.variable u.is_operation u.undefined
not_broken i k l (by_no_input_type h) = silent E (no_input_type (table_of table_e) E) refl i l h
not_broken i k l (other_type u) = at_operation (λ o j. differ (declared_by E o (name_of E j)) (place (table_of table_e) E j)) refl i u.operation l u.variable u.is_operation u.differs
not_broken i k l (by_name_twice h) = silent E (name_twice E) refl i l h
not_broken i k l (by_no_root h) = silent E (no_root (table_of table_e) E) refl i l h
not_broken i k l (unknown_argument h) = silent E (argument_unknown (table_of table_e) E) refl i l h

E-accepted : AcceptedDocument table_e document_e E.rows
E-accepted = record { table_right = E-right; text = from document_e 0; tokens = tokens_are document_e; said = E-said; judged = no_break (λ i k b. go i k b (dec_lt i (count E))) }
  where
    go : (i k : ℕ) → Broken (table_of table_e) E i k → Dec (i < count E) → ⊥
    go i k b (yes l) = not_broken i k l b
    go i k b (no l) = past_broken (omega (arith, l)) b

E-meant : operation_meant E [] ≡ some 0
unfolding numbers_where each_from
E-meant = refl

pub E-opened : Opened table_e document_e [] (opens E.rows 0)
E-opened = opened E-accepted E-meant

-- ---- the variables text `{}`

abbrev pub none_rows : List Row
none_rows = r 28 0 2 2048 0 0 0 ∷ []

none_whole : is_whole (goes VariablesText none_set) ≡ true
unfolding from text scan step enter choose lexical lex_factored language factored go
none_whole = refl

none_rows_is : rows_by VariablesText none_set ≡ none_rows
unfolding from text scan step enter choose lexical lex_factored language factored run rows_of book tokens_of
none_rows_is = refl

pub none_said : TextAnswer VariablesText (from none_set 0) (rows_are none_rows)
none_said = said_by VariablesText none_set none_rows none_whole _ _ refl none_rows_is
