-- 01's eleven examples: of each call one result is allowed, and it is the one that 01 tells.
use mathlib.Core.Path.{◌≡◌, refl, sym, ap, ◌∙◌, subst}
use mathlib.Core.Bool.{Bool, true}
use mathlib.Core.Logic.{◌⊎◌, inl, inr, ◌↔◌}
use mathlib.Core.List.{List, [], ◌∷◌, ◌++◌}
use Prim.Native.Nat.{ℕ, zero, suc, ◌-◌, ◌≤◌, ◌<◌}
use native.Mathlib.Omega.{arith}
use lib.ListN.{length, get_or, drop, replicate, length-replicate}
use lib.Dec.{lit≤}
use Rattle.paper.specs.Numbers.{report_size}
use Rattle.paper.specs.Calls.{filled, reads}
use Rattle.paper.specs.Rows.{flat}
use Rattle.paper_theory.proofs.TokensLaws.{tokens_are}
use Rattle.paper_table.specs.Lists.{any_of, all_of, first_at, find, gather, each_from}
use Rattle.paper_table.specs.References.{is_name, same_ref, marked, closed, read_name, ref_from, whole_ref, ref_of}
use Rattle.paper_table.specs.House.{house_fields_from, contents, look_up, open_after, in_order, by_content, wrongs, table_wrongs, smallest, framing_offset}
use Rattle.paper_table.specs.TableSizes.{room_in, overs_in, wrappers_over, overs_by, overs, counts_offset}
use Rattle.paper_table.specs.Types.{text_of, member_of, definition_of, table_of, built_ins, built_in_directives, meaning, can_be, is_object}
use Rattle.paper_table.specs.SubTypes.{sub_test}
use Rattle.paper_table.specs.Promises.{promised}
use Rattle.paper_table.specs.Rule1ReservedName.{reserved_name}
use Rattle.paper_table.specs.Rule2NameKnown.{name_known}
use Rattle.paper_table.specs.Rule3NoMembers.{no_members}
use Rattle.paper_table.specs.Rule4NameRepeated.{name_repeated}
use Rattle.paper_table.specs.Rule5ReservedMember.{reserved_member}
use Rattle.paper_table.specs.Rule6EnumValue.{no_enum_values, enum_value}
use Rattle.paper_table.specs.Rule7NoType.{no_type}
use Rattle.paper_table.specs.Rule8Base.{wrong_base}
use Rattle.paper_table.specs.Rule9NotObjectOrInterface.{not_object_or_interface}
use Rattle.paper_table.specs.Rule10ImplementedTwice.{implemented_twice}
use Rattle.paper_table.specs.Rule11FieldMissing.{interface_field_missing}
use Rattle.paper_table.specs.Rule12FieldType.{field_type}
use Rattle.paper_table.specs.Rule13ArgumentMissing.{interface_argument_missing}
use Rattle.paper_table.specs.Rule14ArgumentType.{argument_type}
use Rattle.paper_table.specs.Rule15ArgumentExtra.{argument_extra}
use Rattle.paper_table.specs.Rule16Root.{root_not_object, query_not_object}
use Rattle.paper_table.specs.Judging.{rules, breaks_of, breaks, not_after, least_break, table_answer, judge, table_number}
use Rattle.paper_table.specs.TableCalls.{Checked, judges, tells_table}
use Rattle.paper_table.specs.declared.TableAnswer.{TableAnswer}
use Rattle.paper_table.specs.declared.TableAnswer.TheVariants.{Breaks}
use Rattle.paper_table.proofs.TableCallsOne.{checked_one}
use Rattle.paper_query.specs.Constructs.{fragment_named, numbers_where}
use Rattle.paper_query.specs.Enclosing.{definition_at, composite_of, condition_of}
use Rattle.paper_query.specs.Opening.{opened}
use Rattle.paper_query.proofs.WorkedRules.{table_t}
use Rattle.paper_values.specs.ValueCalls.{ends, yields, ValueShort, refused, answered}
use Rattle.paper_plan.specs.Keys.{name_front, key_number}
use Rattle.paper_plan.specs.Applies.{applies}
use Rattle.paper_plan.specs.Collecting.{Grouped, Pair}
use Rattle.paper_plan.specs.Planning as planning
use Rattle.paper_plan.specs.PlanNumbers.{plan_size, step_numbers, plan_numbers}
use Rattle.paper_plan.specs.Selecting.{Name, rows_where, if_of, pairs_of}
use Rattle.paper_plan.specs.LentPlan.{is_one, pair_numbers}
use Rattle.paper_plan.specs.WalkNumbers.{most_pairs, pairs_size, variables_size}
use Rattle.paper_plan.specs.WalkCalls.{Walked}
use Rattle.paper_plan.specs.PlanCalls.{Planned, plans}
use Rattle.paper_plan.proofs.ExamplesPlans.{D, blocks_d, plan_d, first_steps, steps_of_d}
use Rattle.paper_plan.proofs.ExamplesBlocks.{blocks_of_d}
use Rattle.plan_theory.proofs.Demand3.{walk_answers}
use Rattle.plan_walk_answer.proofs.SomeLaws.{walked_some}
use Rattle.claims.proofs.Words.{Result}
use Rattle.claims.proofs.ExamplesWords.{parse, check_table, plan, walk, Tells, arguments, table_e, document_e, none_set, plan_of_d, lent, none_true}
use Rattle.claims.proofs.FixedLaws.{same_result, parse_fixed, arguments_fixed, plan_fixed, walk_fixed}
use Rattle.claims.proofs.Demand3Laws.{by_blocks}
use Rattle.claims.proofs.ExamplesValuesLaws.{Ends}
use Rattle.claims.proofs.PlansExampleLaws.{D-said, D-accepted, D-meant, D-plan}

-- a statement that fixes its results, and one that satisfies it
only : {R : Result → Type 0} → ((r s : Result) → R r → R s → r ≡ s) → (s : Result) → R s → (r : Result) → R r ↔ (r ≡ s)
only {R} one s w r = (λ p. one r s p w, λ e. subst R (sym e) w)

-- ---- (1) to (7)

short : ValueShort table_e document_e none_set
short = (lit≤ tt, lit≤ tt, lit≤ tt)

pub got : (row : ℕ) (bs : List ℕ) → Ends row (yields bs) → Tells (arguments row) (0 ∷ length bs ∷ []) bs
got row bs e output report l = only (arguments_fixed table_e document_e [] none_set row output report).1 _ (answered l short e refl refl)

pub no_value : (row k : ℕ) (shown : List ℕ) → Ends row (ends k shown) → Tells (arguments row) (k ∷ shown) []
no_value row k shown e output report l = only (arguments_fixed table_e document_e [] none_set row output report).1 _ (refused l short e refl refl)

-- ---- (8)

pub rows_told : Tells (parse D.bytes) (0 ∷ 20 ∷ []) (flat D.rows)
rows_told output report l = only (parse_fixed D.bytes output report).1 _ (reads l.0 l.1 (lit≤ tt) (tokens_are D.bytes) D-said refl refl)

steps_numbers : gather step_numbers plan_d.steps ≡
    5 ∷ 1 ∷ 1 ∷ 4 ∷ 1 ∷ 4 ∷ 3 ∷ 3 ∷ 4 ∷ 5 ∷ 16 ∷ 16 ∷ 5 ∷ 1 ∷ 7 ∷
    5 ∷ 4 ∷ 4 ∷ 4 ∷ 0 ∷ 9 ∷ 3 ∷ 1 ∷ 9 ∷ 5 ∷ 13 ∷ 13 ∷
    5 ∷ 4 ∷ 10 ∷
    5 ∷ 13 ∷ 19 ∷ []
unfolding gather
steps_numbers = ap (gather step_numbers) steps_of_d

numbers_of_d : plan_numbers plan_d ≡ plan_of_d
numbers_of_d =
    ap (λ (l : List ℕ). length l ∷ length plan_d.steps ∷ ((l ++ replicate (2048 - length l) 0) ++ gather step_numbers plan_d.steps)) first_steps ∙
    ap (λ (n : ℕ). 4 ∷ n ∷ (((0 ∷ 5 ∷ 9 ∷ 10 ∷ []) ++ replicate 2044 0) ++ gather step_numbers plan_d.steps)) (ap length steps_of_d) ∙
    ap (λ (l : List ℕ). 4 ∷ 11 ∷ (((0 ∷ 5 ∷ 9 ∷ 10 ∷ []) ++ replicate 2044 0) ++ l)) steps_numbers

few : length plan_d.steps ≤ 4096
few = omega (arith, ap length steps_of_d)

D-planned : (output report : List ℕ) → (report_size ≤ length report) × (plan_size ≤ length output) →
    Planned table_t D.bytes [] output report (filled plan_size plan_of_d output) (filled report_size (0 ∷ 4 ∷ 11 ∷ []) report) 0
D-planned output report l =
    plans l (lit≤ tt, lit≤ tt) D-plan few (ap (λ (ns : List ℕ). filled plan_size ns output) (sym numbers_of_d))
    (ap (λ (n : ℕ). filled report_size (0 ∷ n ∷ 11 ∷ []) report) (sym (ap length first_steps)) ∙ ap (λ (n : ℕ). filled report_size (0 ∷ length plan_d.first ∷ n ∷ []) report) (sym (ap length steps_of_d)))

pub plan_told : Tells (plan table_t D.bytes []) (0 ∷ 4 ∷ 11 ∷ []) plan_of_d
plan_told output report l = only (plan_fixed table_t D.bytes [] output report).1 _ (D-planned output report l)

-- ---- (9) and (10)

drop_all : (n : ℕ) → drop {A = ℕ} n (replicate n 0) ≡ []
drop_all zero = refl
drop_all (suc n) = drop_all n

-- the plan as a walk is lent it is what `gw_plan` leaves in a buffer of 14,338 numbers
lent_planned : Planned table_t D.bytes [] (replicate plan_size 0) (replicate report_size 0) (lent plan_of_d) (filled report_size (0 ∷ 4 ∷ 11 ∷ []) (replicate report_size 0)) 0
lent_planned =
    subst (λ (x : List ℕ). Planned table_t D.bytes [] (replicate plan_size 0) (replicate report_size 0) x (filled report_size (0 ∷ 4 ∷ 11 ∷ []) (replicate report_size 0)) 0)
    (ap (λ (x : List ℕ). (plan_of_d ++ replicate (plan_size - length plan_of_d) 0) ++ x) (drop_all plan_size))
    (D-planned (replicate plan_size 0) (replicate report_size 0) (omega (arith, length-replicate {A = ℕ} report_size 0), omega (arith, length-replicate {A = ℕ} plan_size 0)))

-- what is walked, whatever the variables
fan_pairs : (vars : ℕ → Bool) → planning.walk_answer vars (λ k. applies (table_of table_t) k 1) plan_d (1 ∷ 2 ∷ []) ≡ (4, 4) ∷ (4, 10) ∷ (13, 13) ∷ []
unfolding any_of all_of first_at find gather each_from is_name marked closed read_name ref_from whole_ref ref_of house_fields_from text_of member_of definition_of table_of built_ins meaning fragment_named composite_of condition_of can_be name_front key_number applies numbers_where rows_where if_of planning.plan planning.program planning.firsts planning.walk planning.blocks
fan_pairs vars = refl

pump_pairs : (vars : ℕ → Bool) → planning.walk_answer vars (λ k. applies (table_of table_t) k 2) plan_d (1 ∷ 2 ∷ []) ≡ (4, 4) ∷ (4, 10) ∷ []
unfolding any_of all_of first_at find gather each_from is_name marked closed read_name ref_from whole_ref ref_of house_fields_from text_of member_of definition_of table_of built_ins meaning fragment_named composite_of condition_of can_be name_front key_number applies numbers_where rows_where if_of planning.plan planning.program planning.firsts planning.walk planning.blocks
pump_pairs vars = refl

are_objects : (is_object (definition_at (table_of table_t) 1) ≡ true) × (is_object (definition_at (table_of table_t) 2) ≡ true)
unfolding gather is_name marked closed read_name ref_from whole_ref ref_of house_fields_from text_of member_of definition_of table_of
are_objects = (refl, refl)

known : (j : ℕ) → j < 2 → get_or (1 ∷ 2 ∷ []) j 0 < 4
known zero l = omega arith
known (suc zero) l = omega arith
known (suc (suc j)) l = absurd (let z : suc (suc j) < 2 = l in omega arith)

walk_told : (object : ℕ) (ps : List Pair) → is_object (definition_at (table_of table_t) object) ≡ true → length ps ≤ most_pairs →
    ((vars : ℕ → Bool) → planning.walk_answer vars (λ k. applies (table_of table_t) k object) plan_d (1 ∷ 2 ∷ []) ≡ ps) →
    Tells (walk table_t (lent plan_of_d) object (1 ∷ 2 ∷ []) none_true) (0 ∷ length ps ∷ []) (pair_numbers ps)
unfolding first_at
walk_told object ps is low e output report l = only (walk_fixed table_t (lent plan_of_d) object (1 ∷ 2 ∷ []) none_true output report).1 _ (of_result (walked_some table_t (lent plan_of_d) object (1 ∷ 2 ∷ []) none_true output report))
  where
    Left : List ℕ → List ℕ → ℕ → Type 0
    Left pairs' report' a = Walked table_t (lent plan_of_d) object (1 ∷ 2 ∷ []) none_true output report pairs' report' a

    so : (g : Grouped Name) (pairs' report' : List ℕ) (a : ℕ) → Left pairs' report' a → pairs_of D g ≡ ps →
        ((length (pairs_of D g) ≤ most_pairs) × (a ≡ 0) × (pairs' ≡ filled pairs_size (pair_numbers (pairs_of D g)) output) × (report' ≡ filled report_size (0 ∷ length (pairs_of D g) ∷ []) report))
        ⊎ ((most_pairs < length (pairs_of D g)) × (a ≡ 15) × (pairs' ≡ filled pairs_size [] output) × (report' ≡ filled report_size (15 ∷ []) report)) →
        Left (filled pairs_size (pair_numbers ps) output) (filled report_size (0 ∷ length ps ∷ []) report) 0
    so g pairs' report' a w q (inl c) =
        subst (λ (n : ℕ). Left (filled pairs_size (pair_numbers ps) output) (filled report_size (0 ∷ length ps ∷ []) report) n) c.1 (
        subst (λ (x : List ℕ). Left (filled pairs_size (pair_numbers ps) output) x a) (c.3 ∙ ap (λ (x : List Pair). filled report_size (0 ∷ length x ∷ []) report) q) (
        subst (λ (x : List ℕ). Left x report' a) (c.2 ∙ ap (λ (x : List Pair). filled pairs_size (pair_numbers x) output) q) w))
    so g pairs' report' a w q (inr c) = absurd (let z : length (pairs_of D g) ≡ length ps = ap length q in omega (arith, c.0))

    of_result : (pairs' report' : List ℕ) × (a : ℕ) × Left pairs' report' a → Left (filled pairs_size (pair_numbers ps) output) (filled report_size (0 ∷ length ps ∷ []) report) 0
    of_result w =
        let k = by_blocks lent_planned D.rows 0 blocks_d (opened D-accepted D-meant) blocks_of_d object (1 ∷ 2 ∷ []) none_true is (lit≤ tt) known (omega (arith, length-replicate {A = ℕ} variables_size 0))
        output report w.0 w.1 w.2 l w.3 in
        so k.0 w.0 w.1 w.2 w.3 (sym (walk_answers table_t D.bytes D.rows D-accepted 0 (is_one none_true) object blocks_d (1 ∷ 7 ∷ []) (refl, (refl, tt)) k.0 k.1) ∙ e (is_one none_true)) k.3

pub fan_told : Tells (walk table_t (lent plan_of_d) 1 (1 ∷ 2 ∷ []) none_true) (0 ∷ 3 ∷ []) (4 ∷ 4 ∷ 4 ∷ 10 ∷ 13 ∷ 13 ∷ [])
fan_told = walk_told 1 ((4, 4) ∷ (4, 10) ∷ (13, 13) ∷ []) are_objects.0 (lit≤ tt) fan_pairs

pub pump_told : Tells (walk table_t (lent plan_of_d) 2 (1 ∷ 2 ∷ []) none_true) (0 ∷ 2 ∷ []) (4 ∷ 4 ∷ 4 ∷ 10 ∷ [])
pump_told = walk_told 2 ((4, 4) ∷ (4, 10) ∷ []) are_objects.1 (lit≤ tt) pump_pairs

-- ---- (11)

empty_judged : judge [] ≡ Breaks 0 16 65535 65535 65535
unfolding any_of all_of first_at find gather each_from is_name same_ref marked closed read_name ref_from whole_ref ref_of house_fields_from contents look_up open_after in_order by_content wrongs table_wrongs smallest framing_offset room_in overs_in wrappers_over overs_by overs counts_offset text_of member_of definition_of table_of built_ins built_in_directives meaning can_be sub_test reserved_name name_known no_members name_repeated reserved_member no_enum_values enum_value no_type wrong_base not_object_or_interface implemented_twice promised interface_field_missing field_type interface_argument_missing argument_type argument_extra root_not_object query_not_object rules breaks_of breaks not_after least_break table_answer judge
empty_judged = refl

pub empty_told : Tells (check_table []) (9 ∷ 0 ∷ 16 ∷ 65535 ∷ 65535 ∷ 65535 ∷ []) []
empty_told output report l =
    only (λ r s p q. same_result r s (let e = checked_one p.0 q.0 in (e.0, p.1 ∙ sym q.1, e.1))) _
    (subst (λ (a : TableAnswer). Checked [] report (tells_table a report) (table_number a)) empty_judged (judges l.0 (lit≤ tt) refl), refl)
