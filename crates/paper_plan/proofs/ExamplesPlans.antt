-- 01's document D and table T: examples (8), (9) and (10), computed from the definitions; the readings' small plans.
use mathlib.Core.Path.{◌≡◌, refl}
use mathlib.Core.Bool.{Bool, true, false}
use mathlib.Core.List.{List, [], ◌∷◌, map}
use Prim.Native.Nat.{ℕ}
use Rattle.paper.specs.Language.{Document, language}
use Rattle.paper.specs.Lexical.{lexical}
use Rattle.paper.specs.Rows.{book, rows_of}
use Rattle.paper.specs.Reading.{tokens_of}
use Rattle.paper.proofs.Machine.{enter, choose, step, run}
use Rattle.paper.proofs.Longest.{scan}
use Rattle.paper.proofs.Tables.{factored}
use Rattle.paper.proofs.LexTables.{lex_factored}
use Rattle.paper.proofs.Lexing.{text, from}
use Rattle.paper.proofs.Worked.{r, rows_by}
use Rattle.paper_table.specs.Lists.{bytes, any_of, all_of, first_at, find, gather, each_from}
use Rattle.paper_table.specs.References.{is_name, marked, closed, read_name, ref_from, whole_ref, ref_of}
use Rattle.paper_table.specs.House.{house_fields_from}
use Rattle.paper_table.specs.Types.{text_of, member_of, definition_of, table_of, built_ins, meaning, can_be}
use Rattle.paper_query.specs.Constructs.{Doc, fragment_named}
use Rattle.paper_query.specs.Enclosing.{composite_of, condition_of}
use Rattle.paper_query.specs.DocumentCalls.{read}
use Prim.Native.String.{String}
use Rattle.paper_query.proofs.WorkedRules.{table_t, table_s, document}
use Rattle.paper_plan.specs.PlanNumbers.{step_numbers}
use Rattle.paper_plan.specs.Keys.{name_front, key_number}
use Rattle.paper_plan.specs.Applies.{applies}
use Rattle.paper_plan.specs.Collecting.{Pair}
use Rattle.paper_plan.specs.Planning.{unless_applies, if_met, leave, list, plan, program, firsts, Plan, walk, blocks, walk_answer}
use Rattle.paper_query.specs.Constructs.{numbers_where}
use Rattle.paper_plan.specs.Selecting.{rows_where, if_of, block_in, plan_for}

abbrev pub D : Doc
D =
    read (bytes "{ a: machine(id: 4) { tag ...F } ...R a: machine(id: 4) { tag } } fragment F on Fan { rpm } fragment R on Query { fan(no: 3) { rpm } }") (
    r 1 0 65 2048 0 0 0 ∷ r 3 2 32 0 5 7 0 ∷ r 6 13 18 1 13 2 0 ∷ r 21 17 18 2 0 0 0 ∷ r 3 22 25 1 22 3 0 ∷ r 4 26 30 1 29 1 0 ∷
    r 4 33 37 0 36 1 0 ∷ r 3 38 63 0 41 7 0 ∷ r 6 49 54 7 49 2 0 ∷ r 21 53 54 8 0 0 0 ∷ r 3 58 61 7 58 3 0 ∷ r 2 66 91 2048 75 1 0 ∷
    r 9 80 83 11 80 3 0 ∷ r 3 86 89 11 86 3 0 ∷ r 2 92 134 2048 101 1 0 ∷ r 9 106 111 14 106 5 0 ∷ r 3 114 132 14 114 3 0 ∷
    r 6 118 123 16 118 2 0 ∷ r 21 122 123 17 0 0 0 ∷ r 3 127 130 16 127 3 0 ∷ [])

-- (8): 20 rows
pub rows_of_d : rows_by Document D.bytes ≡ D.rows
unfolding from text scan step enter choose lexical lex_factored language factored run rows_of book tokens_of
rows_of_d = refl

-- the blocks' rows of its operation
abbrev pub blocks_d : List ℕ
blocks_d = 0 ∷ 1 ∷ 7 ∷ 16 ∷ []

abbrev pub plan_d : Plan
plan_d = plan_for (table_of table_t) D 0 blocks_d

-- 4 blocks and 11 steps
pub first_steps : plan_d.first ≡ 0 ∷ 5 ∷ 9 ∷ 10 ∷ []
unfolding any_of all_of first_at find gather each_from is_name marked closed read_name ref_from whole_ref ref_of house_fields_from text_of member_of definition_of table_of built_ins meaning fragment_named composite_of condition_of can_be name_front key_number applies numbers_where rows_where if_of plan firsts
first_steps = refl

pub steps_of_d : plan_d.steps ≡
    list 1 1 ∷ leave (if_met 1) 4 ∷ leave (unless_applies 3) 4 ∷ list 16 16 ∷ list 1 7 ∷
    list 4 4 ∷ leave (if_met 0) 9 ∷ leave (unless_applies 1) 9 ∷ list 13 13 ∷
    list 4 10 ∷ list 13 19 ∷ []
unfolding any_of all_of first_at find gather each_from is_name marked closed read_name ref_from whole_ref ref_of house_fields_from text_of member_of definition_of table_of built_ins meaning fragment_named composite_of condition_of can_be name_front key_number applies numbers_where rows_where if_of plan program
steps_of_d = refl

abbrev pub unset : ℕ → Bool
unset v = false

abbrev pub answered : ℕ → List ℕ → List Pair
answered o holders = walk_answer unset (λ k. applies (table_of table_t) k o) plan_d (map (block_in blocks_d) holders)

-- (9): blocks 1 and 2 merged for Fan; (10): for Pump; READINGS 94: block 0 for Query
pub for_fan : answered 1 (1 ∷ 7 ∷ []) ≡ (4, 4) ∷ (4, 10) ∷ (13, 13) ∷ []
unfolding any_of all_of first_at find gather each_from is_name marked closed read_name ref_from whole_ref ref_of house_fields_from text_of member_of definition_of table_of built_ins meaning fragment_named composite_of condition_of can_be name_front key_number applies numbers_where rows_where if_of plan program firsts walk blocks
for_fan = refl

pub for_pump : answered 2 (1 ∷ 7 ∷ []) ≡ (4, 4) ∷ (4, 10) ∷ []
unfolding any_of all_of first_at find gather each_from is_name marked closed read_name ref_from whole_ref ref_of house_fields_from text_of member_of definition_of table_of built_ins meaning fragment_named composite_of condition_of can_be name_front key_number applies numbers_where rows_where if_of plan program firsts walk blocks
for_pump = refl

pub for_query : answered 3 (0 ∷ []) ≡ (1, 1) ∷ (1, 7) ∷ (16, 16) ∷ []
unfolding any_of all_of first_at find gather each_from is_name marked closed read_name ref_from whole_ref ref_of house_fields_from text_of member_of definition_of table_of built_ins meaning fragment_named composite_of condition_of can_be name_front key_number applies numbers_where rows_where if_of plan program firsts walk blocks
for_query = refl

-- READINGS 95 to 102, on the readings' table S (Query 0, O 1): a document's steps, its operation and the rows of its blocks given
abbrev pub steps : String → ℕ → List ℕ → List ℕ
steps s op rows = gather step_numbers (plan_for (table_of table_s) (document (bytes s)) op rows).steps

abbrev pub walked : String → (ℕ → Bool) → List ℕ → List Pair
walked s vars bs = walk_answer vars (λ k. applies (table_of table_s) k 0) (plan_for (table_of table_s) (document (bytes s)) 0 (0 ∷ [])) bs

pub record Readings : Type 0 where
  one_set_of_marks : walked "{a ...F} fragment F on Query {b}" (λ v. false) (0 ∷ 0 ∷ []) ≡ (1, 1) ∷ (1, 1) ∷ (5, 5) ∷ []
  marked_after_skip : walked "query($v:Boolean){...F @skip(if:$v) ...F} fragment F on Query{a}" (λ v. true) (0 ∷ []) ≡ (10, 10) ∷ []
  least_in_document : steps "query A {a} query B {a}" 2 (2 ∷ []) ≡ 5 ∷ 1 ∷ 3 ∷ []
  among_all_steps : steps "{a q{...on O{a}}}" 0 (0 ∷ 2 ∷ []) ≡ 5 ∷ 1 ∷ 1 ∷ 5 ∷ 2 ∷ 2 ∷ 3 ∷ 1 ∷ 4 ∷ 5 ∷ 1 ∷ 5 ∷ []
  in_written_order : steps "query($u:Int $v:Boolean){...G @skip(if:$v)} fragment F on Query{a} fragment G on Query{a}" 0 (0 ∷ []) ≡ 1 ∷ 1 ∷ 4 ∷ 4 ∷ 1 ∷ 4 ∷ 3 ∷ 0 ∷ 4 ∷ 5 ∷ 11 ∷ 14 ∷ []
  dropped_by_one : steps "query($v:Boolean){a @skip(if:$v) @include(if:false)}" 0 (0 ∷ []) ≡ []
  literal_kept : steps "{a @include(if:true)}" 0 (0 ∷ []) ≡ 5 ∷ 1 ∷ 1 ∷ []
  skip_first : steps "query($v:Boolean $w:Boolean){a @include(if:$w) @skip(if:$v)}" 0 (0 ∷ []) ≡ 1 ∷ 0 ∷ 3 ∷ 2 ∷ 1 ∷ 3 ∷ 5 ∷ 5 ∷ 5 ∷ []
  body_again : steps "{...F ...F} fragment F on Query{a}" 0 (0 ∷ []) ≡ 4 ∷ 0 ∷ 3 ∷ 3 ∷ 0 ∷ 3 ∷ 5 ∷ 5 ∷ 5 ∷ 4 ∷ 0 ∷ 6 ∷ 3 ∷ 0 ∷ 6 ∷ 5 ∷ 5 ∷ 5 ∷ []
  always_tested : steps "{...on Query{a} ...{a}}" 0 (0 ∷ []) ≡ 3 ∷ 0 ∷ 2 ∷ 5 ∷ 3 ∷ 3 ∷ 5 ∷ 3 ∷ 5 ∷ []

pub readings : Readings
unfolding from text scan step enter choose lexical lex_factored language factored run rows_of book tokens_of any_of all_of first_at find gather each_from is_name marked closed read_name ref_from whole_ref ref_of house_fields_from text_of member_of definition_of table_of built_ins meaning fragment_named composite_of condition_of can_be name_front key_number applies numbers_where rows_where if_of plan program firsts walk blocks
readings = record { one_set_of_marks = refl; marked_after_skip = refl; least_in_document = refl; among_all_steps = refl; in_written_order = refl; dropped_by_one = refl; literal_kept = refl; skip_first = refl; body_again = refl; always_tested = refl }
