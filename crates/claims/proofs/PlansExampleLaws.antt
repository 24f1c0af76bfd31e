-- 01's examples (8), (9) and (10): D's bytes are read into its 20 rows and keep every rule on T, so D's operation opens; its plan; its walks, and what the draft collects.
-- The answers are those of document 01; none was taken from what is computed here.
use mathlib.Core.Path.{◌≡◌, refl, sym, ap, ◌∙◌, subst}
use mathlib.Core.Bool.{Bool, true, false, true≢false, not, ◌||◌}
use mathlib.Core.Logic.{◌⊎◌, inl, inr}
use mathlib.Core.Option.{some}
use mathlib.Core.List.{List, [], ◌∷◌, map}
use Prim.Native.Nat.{ℕ, ◌≤◌, ◌<◌}
use native.Mathlib.Decide.{dec_lt}
use native.Mathlib.Omega.{arith}
use lib.ListN.{length, take}
use lib.Dec.{T, eqb, lit≤}
use borrow.Author.Tests.{eqb-true}
use Rattle.paper.proofs.Bools.{T→eq as so}
use Rattle.paper.specs.Numbers.{kind_fragment, kind_spread, kind_variable}
use Rattle.paper.specs.Language.{Document, language}
use Rattle.paper.specs.Lexical.{lexical}
use Rattle.paper.specs.Reading.{rows_are, TextAnswer}
use Rattle.paper.proofs.Machine.{enter, choose, step}
use Rattle.paper.proofs.Longest.{scan}
use Rattle.paper.proofs.Tables.{factored}
use Rattle.paper.proofs.LexTables.{lex_factored}
use Rattle.paper.proofs.Lexing.{text, from}
use Rattle.paper.proofs.Going.{go}
use Rattle.paper_theory.proofs.TokensLaws.{tokens_are}
use Rattle.paper_table.specs.Lists.{bytes, any_of, all_of, first_at, find, gather, each_from}
use Rattle.paper_table.specs.References.{is_name, same_ref, marked, closed, read_name, ref_from, whole_ref, ref_of}
use Rattle.paper_table.specs.House.{house_fields_from, contents, look_up, open_after, in_order, by_content, wrongs, table_wrongs, smallest, framing_offset}
use Rattle.paper_table.specs.TableSizes.{room_in, overs_in, wrappers_over, overs_by, overs, counts_offset}
use Rattle.paper_table.specs.Types.{text_of, member_of, definition_of, table_of, built_ins, built_in_directives, meaning, can_be, roots_of}
use Rattle.paper_table.specs.SubTypes.{sub_test}
use Rattle.paper_table.specs.Promises.{promised}
use Rattle.paper_table.specs.Rule1ReservedName.{reserved_name}
use Rattle.paper_table.specs.Rule2NameKnown.{name_known}
use Rattle.paper_table.specs.Rule3NoMembers.{no_members}
use Rattle.paper_table.specs.Rule4NameRepeated.{name_repeated}
use Rattle.paper_table.specs.Rule5ReservedMember.{reserved_member}
use Rattle.paper_table.specs.Rule6EnumValue.{no_enum_values, enum_value}
use Rattle.paper_table.specs.Rule7NoType.{no_type}
use Rattle.paper_table.specs.Rule8Base.{wrong_base}
use Rattle.paper_table.specs.Rule9NotObjectOrInterface.{not_object_or_interface}
use Rattle.paper_table.specs.Rule10ImplementedTwice.{implemented_twice}
use Rattle.paper_table.specs.Rule11FieldMissing.{interface_field_missing}
use Rattle.paper_table.specs.Rule12FieldType.{field_type}
use Rattle.paper_table.specs.Rule13ArgumentMissing.{interface_argument_missing}
use Rattle.paper_table.specs.Rule14ArgumentType.{argument_type}
use Rattle.paper_table.specs.Rule15ArgumentExtra.{argument_extra}
use Rattle.paper_table.specs.Rule16Root.{root_not_object, query_not_object}
use Rattle.paper_table.specs.Judging.{rules, breaks_of, breaks, not_after, least_break, table_answer, judge}
use Rattle.paper_table.specs.declared.TableAnswer.TheVariants.{Accepted}
use Rattle.paper_query.specs.Constructs.{count, row_of, is, name_of, fragment_named, has_fragment, numbers_where}
use Rattle.paper_query.specs.Enclosing.{composite_of, root_of, field_of, is_typename, condition_of, type_inside_from, type_inside_by, type_inside}
use Rattle.paper_query.specs.Reaching.{Within, itself, deeper, Reaches, here, through}
use Rattle.paper_query.specs.Rule1OperationRepeated.{operation_repeated}
use Rattle.paper_query.specs.Rule2OperationUnnamed.{operation_unnamed}
use Rattle.paper_query.specs.Rule3FragmentRepeated.{fragment_repeated}
use Rattle.paper_query.specs.Rule4Condition.{condition_wrong}
use Rattle.paper_query.specs.Rule5Field as rule-5
use Rattle.paper_query.specs.Rule6Leaf.{has_selections, leaf_wrong}
use Rattle.paper_query.specs.Rule7Spread.{spread_of_none}
use Rattle.paper_query.specs.Rule9Directive.{rows_below, directive_wrong}
use Rattle.paper_query.specs.Rule11VariableType.{declared, no_input_type}
use Rattle.paper_query.specs.Rule12NameTwice.{name_twice}
use Rattle.paper_query.specs.Rule13NoRoot.{no_root}
use Rattle.paper_query.specs.Rule14Argument.{argument_unknown}
use Rattle.paper_query.specs.QueryRules.{Broken, by_operation_repeated, by_operation_unnamed, by_fragment_repeated, condition, by_field_not_of_type, leaf, by_spread_of_none, circle, directive, undefined, by_no_input_type, other_type, by_name_twice, by_no_root, unknown_argument, no_break}
use Rattle.paper_query.specs.Opening.{AcceptedDocument, operation_meant, opened}
use Rattle.paper_query.proofs.WorkedRules.{table_t}
use Rattle.paper_query.proofs.BrokenAt.{past_broken}
use Rattle.paper_plan.specs.Keys.{name_front, key_at}
use Rattle.paper_plan.specs.Applies.{applies}
use Rattle.paper_plan.specs.Collecting.{Grouped, Pair}
use Rattle.paper_plan.specs.Planning as planning
use Rattle.paper_plan.specs.Selecting.{Name, Collects, pairs_of}
use Rattle.paper_plan.specs.PlanCalls.{PlanLent, PlanIs, Planned, plans}
use Rattle.paper_plan.proofs.ExamplesPlans.{D, blocks_d, plan_d, unset, rows_of_d, first_steps, steps_of_d, for_fan, for_pump}
use Rattle.paper_plan.proofs.ExamplesBlocks.{up_to_is, blocks_of_d}
use Rattle.plan_theory.proofs.Plannable.{in_range}
use Rattle.plan_theory.proofs.PlanCallsOne.{planned_one}
use Rattle.plan_theory.proofs.Demand3.{collection_some, walk_answers}
use Rattle.claims.proofs.WorkedLaws.{goes, is_whole, said_by, silent}

-- ---- D's bytes are read into its rows

D-whole : is_whole (goes Document D.bytes) ≡ true
unfolding from text scan step enter choose lexical lex_factored language factored go
D-whole = refl

pub D-said : TextAnswer Document (from D.bytes 0) (rows_are D.rows)
D-said = said_by Document D.bytes D.rows D-whole _ _ refl rows_of_d

-- ---- T is a right table

T-right : judge table_t ≡ Accepted
unfolding any_of all_of first_at find gather each_from is_name same_ref marked closed read_name ref_from whole_ref ref_of house_fields_from contents look_up open_after in_order by_content wrongs table_wrongs smallest framing_offset room_in overs_in wrappers_over overs_by overs counts_offset text_of member_of definition_of table_of built_ins built_in_directives meaning can_be sub_test reserved_name name_known no_members name_repeated reserved_member no_enum_values enum_value no_type wrong_base not_object_or_interface implemented_twice promised interface_field_missing field_type interface_argument_missing argument_type argument_extra root_not_object query_not_object rules breaks_of breaks not_after least_break table_answer judge
T-right = refl

-- ---- no row of D breaks a rule

-- D's spreads are the rows 5 and 6, and no fragment has one of these in it
spread_is : (s : ℕ) → T (is kind_spread (row_of D s)) → (s ≡ 5) ⊎ (s ≡ 6)
spread_is s t = go (is kind_spread (row_of D s)) (eqb s 5) (eqb s 6) refl refl refl (up_to_is (λ i. not (is kind_spread (row_of D i)) || (eqb i 5 || eqb i 6)) (count D) refl s (in_range D kind_spread s refl (so (is kind_spread (row_of D s)) t)))
  where
    go : (a b c : Bool) → is kind_spread (row_of D s) ≡ a → eqb s 5 ≡ b → eqb s 6 ≡ c → (not a || (b || c)) ≡ true → (s ≡ 5) ⊎ (s ≡ 6)
    go a true c x y z h = inl (eqb-true s 5 y)
    go a false true x y z h = inr (eqb-true s 6 z)
    go true false false x y z h = absurd (true≢false (sym h))
    go false false false x y z h = absurd (rw x at t)

abbrev Fragment : ℕ → Type 0
Fragment f = T (is kind_fragment (row_of D f))

within_0 : (f : ℕ) → Within D f 0 → Fragment f → ⊥
within_0 _ itself h = h
within_0 f (deeper t w) h = t

within_1 : (f : ℕ) → Within D f 1 → Fragment f → ⊥
within_1 _ itself h = h
within_1 f (deeper t w) h = within_0 f w h

within_spread : (f s : ℕ) → (s ≡ 5) ⊎ (s ≡ 6) → Within D f s → Fragment f → ⊥
within_spread f s (inl e) w h = at_5 f (subst (Within D f) e w) h
  where
    at_5 : (x : ℕ) → Within D x 5 → Fragment x → ⊥
    at_5 _ itself k = k
    at_5 x (deeper t v) k = within_1 x v k
within_spread f s (inr e) w h = at_6 f (subst (Within D f) e w) h
  where
    at_6 : (x : ℕ) → Within D x 6 → Fragment x → ⊥
    at_6 _ itself k = k
    at_6 x (deeper t v) k = within_0 x v k

spread_to : (s f : ℕ) → (s ≡ 5) ⊎ (s ≡ 6) → fragment_named D (name_of D s) ≡ f → Fragment f
unfolding fragment_named first_at
spread_to s f (inl e) q = subst Fragment (ap (λ (x : ℕ). fragment_named D (name_of D x)) (sym e) ∙ q) tt
spread_to s f (inr e) q = subst Fragment (ap (λ (x : ℕ). fragment_named D (name_of D x)) (sym e) ∙ q) tt

not_reached : (i at : ℕ) → Fragment i → T (is kind_spread (row_of D at)) → Reaches D i at → ⊥
not_reached i at h t (here w) = within_spread i at (spread_is at t) w h
not_reached i at h t (through {s} {f} r x w) = within_spread f at (spread_is at t) w (spread_to s f (spread_is s x.spread) x.named)

not_broken : (i k : ℕ) → i < count D → Broken (table_of table_t) D i k → ⊥
unfolding any_of all_of first_at find gather each_from is_name marked closed read_name ref_from whole_ref ref_of house_fields_from text_of member_of definition_of table_of built_ins built_in_directives meaning roots_of fragment_named has_fragment composite_of root_of field_of is_typename condition_of type_inside_from type_inside_by type_inside operation_repeated operation_unnamed fragment_repeated condition_wrong rule-5.field_not_of_type has_selections leaf_wrong spread_of_none rows_below directive_wrong declared no_input_type name_twice no_root argument_unknown
not_broken i k l (by_operation_repeated h) = silent D (operation_repeated D) refl i l h
not_broken i k l (by_operation_unnamed h) = silent D (operation_unnamed D) refl i l h
not_broken i k l (by_fragment_repeated h) = silent D (fragment_repeated D) refl i l h
not_broken i k l (condition h) = silent D (condition_wrong (table_of table_t) D) refl i l h
not_broken i k l (by_field_not_of_type h) = silent D (rule-5.field_not_of_type (table_of table_t) D) refl i l h
not_broken i k l (leaf h) = silent D (leaf_wrong (table_of table_t) D) refl i l h
not_broken i k l (by_spread_of_none h) = silent D (spread_of_none D) refl i l h
not_broken i k l (circle c) = not_reached i c.circles.at c.fragment c.circles.spreads.spread c.circles.reaches
not_broken i k l (directive h) = silent D (directive_wrong D) refl i l h
not_broken i k l (undefined u) = silent D (λ j. is kind_variable (row_of D j)) refl i l u.variable
not_broken i k l (by_no_input_type h) = silent D (no_input_type (table_of table_t) D) refl i l h
not_broken i k l (other_type u) = silent D (λ j. is kind_variable (row_of D j)) refl i l u.variable
not_broken i k l (by_name_twice h) = silent D (name_twice D) refl i l h
not_broken i k l (by_no_root h) = silent D (no_root (table_of table_t) D) refl i l h
not_broken i k l (unknown_argument h) = silent D (argument_unknown (table_of table_t) D) refl i l h

pub D-accepted : AcceptedDocument table_t D.bytes D.rows
D-accepted = record { table_right = T-right; text = from D.bytes 0; tokens = tokens_are D.bytes; said = D-said; judged = no_break (λ i k b. go i k b (dec_lt i (count D))) }
  where
    go : (i k : ℕ) → Broken (table_of table_t) D i k → Dec (i < count D) → ⊥
    go i k b (yes l) = not_broken i k l b
    go i k b (no l) = past_broken (omega (arith, l)) b

-- ---- (8)

pub D-meant : operation_meant D [] ≡ some 0
unfolding numbers_where each_from
D-meant = refl

pub D-plan : PlanIs table_t D.bytes [] plan_d
D-plan = record { rows = D.rows; operation = 0; blocks = blocks_d; opened = opened D-accepted D-meant; their = blocks_of_d; is = refl }

pub eight : AcceptedDocument table_t D.bytes D.rows × (length D.rows ≡ 20) × PlanIs table_t D.bytes [] plan_d × (length plan_d.first ≡ 4) × (length plan_d.steps ≡ 11)
eight = (D-accepted, refl, D-plan, ap length first_steps, ap length steps_of_d)

pub eight_told : {plan report plan' report' : List ℕ} {a : ℕ} → Planned table_t D.bytes [] plan report plan' report' a → PlanLent plan report → (a ≡ 0) × (take 3 report' ≡ 0 ∷ 4 ∷ 11 ∷ [])
eight_told c l =
    let few : length plan_d.steps ≤ 4096 = omega (arith, ap length steps_of_d) in
    let e = planned_one c (plans l (lit≤ tt, lit≤ tt) D-plan few refl refl) in
    (e.0, ap (take 3) e.2 ∙ ap (λ (n : ℕ). 0 ∷ n ∷ length plan_d.steps ∷ []) (ap length first_steps) ∙ ap (λ (n : ℕ). 0 ∷ 4 ∷ n ∷ []) (ap length steps_of_d))

-- ---- (9) and (10)

-- a response key by its name
abbrev pub named : Pair → Name × ℕ
named p = (key_at D p.0, p.1)

collected : (o : ℕ) (ps : List Pair) → planning.walk_answer unset (λ k. applies (table_of table_t) k o) plan_d (1 ∷ 2 ∷ []) ≡ ps →
    (g : Grouped Name) × Collects (table_of table_t) D 0 unset o (1 ∷ 7 ∷ []) g × (pairs_of D g ≡ ps)
unfolding first_at
collected o ps e =
    let c = collection_some table_t D.bytes D.rows D-accepted 0 unset o (1 ∷ 7 ∷ []) in
    (c.0, c.1, sym (walk_answers table_t D.bytes D.rows D-accepted 0 unset o blocks_d (1 ∷ 7 ∷ []) (refl, (refl, tt)) c.0 c.1) ∙ e)

fan_pairs : planning.walk_answer unset (λ k. applies (table_of table_t) k 1) plan_d (1 ∷ 2 ∷ []) ≡ (4, 4) ∷ (4, 10) ∷ (13, 13) ∷ []
unfolding first_at
fan_pairs = for_fan

pump_pairs : planning.walk_answer unset (λ k. applies (table_of table_t) k 2) plan_d (1 ∷ 2 ∷ []) ≡ (4, 4) ∷ (4, 10) ∷ []
unfolding first_at
pump_pairs = for_pump

pub nine : (planning.walk_answer unset (λ k. applies (table_of table_t) k 1) plan_d (1 ∷ 2 ∷ []) ≡ (4, 4) ∷ (4, 10) ∷ (13, 13) ∷ [])
    × (map named ((4, 4) ∷ (4, 10) ∷ (13, 13) ∷ []) ≡ (bytes "tag", 4) ∷ (bytes "tag", 10) ∷ (bytes "rpm", 13) ∷ [])
    × ((g : Grouped Name) × Collects (table_of table_t) D 0 unset 1 (1 ∷ 7 ∷ []) g × (pairs_of D g ≡ (4, 4) ∷ (4, 10) ∷ (13, 13) ∷ []))
unfolding name_front
nine = (fan_pairs, refl, collected 1 ((4, 4) ∷ (4, 10) ∷ (13, 13) ∷ []) fan_pairs)

pub ten : (planning.walk_answer unset (λ k. applies (table_of table_t) k 2) plan_d (1 ∷ 2 ∷ []) ≡ (4, 4) ∷ (4, 10) ∷ [])
    × (map named ((4, 4) ∷ (4, 10) ∷ []) ≡ (bytes "tag", 4) ∷ (bytes "tag", 10) ∷ [])
    × ((g : Grouped Name) × Collects (table_of table_t) D 0 unset 2 (1 ∷ 7 ∷ []) g × (pairs_of D g ≡ (4, 4) ∷ (4, 10) ∷ []))
unfolding name_front
ten = (pump_pairs, refl, collected 2 ((4, 4) ∷ (4, 10) ∷ []) pump_pairs)
