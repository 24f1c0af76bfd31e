-- Wrong definitions of plans and walks, each with a document on which it differs from ours.
-- States: 01, "Traps": "marking a fragment before its skip test; fresh marks for each merged block"; "A response key's number is its least field row" (READINGS 95);
-- a second spread's body is planned again (READINGS 102).
-- Assumes nothing.
use mathlib.Core.Path.{◌≡◌, ap}
use mathlib.Core.Bool.{Bool, true, false, cond}
use mathlib.Core.List.{List, [], ◌∷◌, ◌++◌}
use Prim.Native.Nat.{ℕ, zero, suc, ◌+◌}
use Prim.Native.String.{String}
use native.Mathlib.Omega.{arith}
use lib.ListN.{length, get_or, drop}
use lib.Dec.{eqb}
use Rattle.paper.specs.Language.{language}
use Rattle.paper.specs.Lexical.{lexical}
use Rattle.paper.specs.Rows.{book, rows_of}
use Rattle.paper.specs.Reading.{tokens_of}
use Rattle.paper.proofs.Machine.{enter, choose, step, run}
use Rattle.paper.proofs.Longest.{scan}
use Rattle.paper.proofs.Tables.{factored}
use Rattle.paper.proofs.LexTables.{lex_factored}
use Rattle.paper.proofs.Lexing.{text, from}
use Rattle.paper_table.specs.Lists.{bytes, any_of, all_of, first_at, find, gather, each_from}
use Rattle.paper_table.specs.References.{is_name, marked, closed, read_name, ref_from, whole_ref, ref_of}
use Rattle.paper_table.specs.House.{house_fields_from}
use Rattle.paper_table.specs.Types.{text_of, member_of, definition_of, table_of, built_ins, meaning, can_be}
use Rattle.paper_query.specs.Constructs.{Doc, count, fragment_named, numbers_where}
use Rattle.paper_query.specs.Enclosing.{composite_of, condition_of}
use Rattle.paper_query.proofs.WorkedRules.{table_s, document}
use Rattle.paper_plan.specs.Keys.{name_front, keyed, key_number}
use Rattle.paper_plan.specs.Applies.{applies}
use Rattle.paper_plan.specs.Collecting.{Sort, field, spread, inline, View, elem, Pair, pairs}
use Rattle.paper_plan.specs.Planning.{Test, Step, list, skip_tests, include_tests, dropped, guarded, unless_dropped, sort_tests, tests, content, plan, program, firsts, Plan, State, block_of, walk, blocks, grouped, walk_answer}
use Rattle.paper_plan.specs.Selecting.{Name, set_of, rows_where, if_of, by_numbers, plan_for}
use Rattle.paper_plan.proofs.ExamplesPlans.{walked}

-- a document's operation as one block, on the readings' table S, by a planner of selections; its walk for Query
abbrev pub Planner : Type 0
Planner = View ℕ → ℕ → ℕ → List ℕ → List Step

abbrev pub walked_by : Planner → String → (ℕ → Bool) → List Pair
walked_by planner s vars =
    let d = document (bytes s) in
    walk_answer vars (λ k. applies (table_of table_s) k 0) record { first = 0 ∷ []; steps = planner (by_numbers (table_of table_s) d 0) (suc (count d)) 0 (set_of d 0) } (0 ∷ [])

-- ---- 1. A fragment marked before its skip test

module _ (d : View ℕ) where
  abbrev marks_first : ℕ → List Test
  marks_first r = sort_tests d (d.sort r) ++ (skip_tests (d.skip r) ++ include_tests (d.include r))

  abbrev marked_selection : (ℕ → List ℕ → List Step) → ℕ → ℕ → List Step
  marked_selection inner at r =
      let b = content d inner (at + length (marks_first r)) r (d.sort r) in
      let s = guarded (marks_first r) at b in unless_dropped (dropped (d.skip r) (d.include r)) s

  abbrev marked_selections : (ℕ → List ℕ → List Step) → ℕ → List ℕ → List Step
  marked_selections inner at [] = []
  marked_selections inner at (r ∷ rs) = let s = marked_selection inner at r in s ++ marked_selections inner (at + length s) rs

  unfoldable pub mark_first : ℕ → ℕ → List ℕ → List Step
  mark_first zero at rs = []
  mark_first (suc k) at rs = marked_selections (mark_first k) at rs

-- the first spread is skipped, so the second one's fields are listed
pub mark_before_skip_differs : ((s : String) (vars : ℕ → Bool) → walked_by mark_first s vars ≡ walked s vars (0 ∷ [])) → ⊥
unfolding from text scan step enter choose lexical lex_factored language factored run rows_of book tokens_of any_of all_of first_at find gather each_from is_name marked closed read_name ref_from whole_ref ref_of house_fields_from text_of member_of definition_of table_of built_ins meaning fragment_named composite_of condition_of can_be name_front key_number applies numbers_where rows_where if_of plan program firsts walk blocks mark_first
mark_before_skip_differs h = let e : ◌≡◌ {A = List Pair} [] ((10, 10) ∷ []) = h "query($v:Boolean){...F @skip(if:$v) ...F} fragment F on Query{a}" (λ v. true) in let z : ◌≡◌ {A = ℕ} 0 1 = cc in omega arith

-- ---- 2. Fresh marks for each merged block

module _ (vars : ℕ → Bool) (applies : ℕ → Bool) where
  unfoldable pub fresh_blocks : Plan → List ℕ → State → State
  fresh_blocks p [] s = s
  fresh_blocks p (b ∷ bs) s = fresh_blocks p bs (walk vars applies (block_of p b) (get_or p.first b 0) 0 record { met = []; out = s.out })

abbrev pub freshly : String → (ℕ → Bool) → List ℕ → List Pair
freshly s vars bs =
    pairs (grouped [] (fresh_blocks vars (λ k. applies (table_of table_s) k 0) (plan_for (table_of table_s) (document (bytes s)) 0 (0 ∷ [])) bs record { met = []; out = [] }).out)

-- one block twice: the fragment's field is listed once
pub fresh_marks_differ : ((s : String) (vars : ℕ → Bool) (bs : List ℕ) → freshly s vars bs ≡ walked s vars bs) → ⊥
unfolding from text scan step enter choose lexical lex_factored language factored run rows_of book tokens_of any_of all_of first_at find gather each_from is_name marked closed read_name ref_from whole_ref ref_of house_fields_from text_of member_of definition_of table_of built_ins meaning fragment_named composite_of condition_of can_be name_front key_number applies numbers_where rows_where if_of plan program firsts walk blocks fresh_blocks
fresh_marks_differ h =
    let e : ◌≡◌ {A = List Pair} ((1, 1) ∷ (1, 1) ∷ (5, 5) ∷ (5, 5) ∷ []) ((1, 1) ∷ (1, 1) ∷ (5, 5) ∷ []) = h "{a ...F} fragment F on Query {b}" (λ v. false) (0 ∷ 0 ∷ []) in omega (arith, ap length e)

-- ---- 3. A fragment's selections planned at its first spread alone

module _ (d : View ℕ) where
  abbrev content_once : List ℕ → (ℕ → List ℕ → List Step) → ℕ → ℕ → Sort ℕ → List Step
  content_once seen inner at r (field k) = list k r ∷ []
  content_once seen inner at r (spread f) = cond (elem eqb f seen) [] (inner at (d.fragment f))
  content_once seen inner at r (inline c) = inner at (d.body r)

  abbrev seen_by : Sort ℕ → List ℕ
  seen_by (field k) = []
  seen_by (spread f) = f ∷ []
  seen_by (inline c) = []

  abbrev selections_once : (ℕ → List ℕ → List Step) → List ℕ → ℕ → List ℕ → List Step
  selections_once inner seen at [] = []
  selections_once inner seen at (r ∷ rs) =
      let b = content_once seen inner (at + length (tests d r)) r (d.sort r) in
      let s = unless_dropped (dropped (d.skip r) (d.include r)) (guarded (tests d r) at b) in
      s ++ selections_once inner (seen_by (d.sort r) ++ seen) (at + length s) rs

  unfoldable pub body_once : ℕ → ℕ → List ℕ → List Step
  body_once zero at rs = []
  body_once (suc k) at rs = selections_once (body_once k) [] at rs

-- the first spread is skipped, so the second one's body is walked
pub body_once_differs : ((s : String) (vars : ℕ → Bool) → walked_by body_once s vars ≡ walked s vars (0 ∷ [])) → ⊥
unfolding from text scan step enter choose lexical lex_factored language factored run rows_of book tokens_of any_of all_of first_at find gather each_from is_name marked closed read_name ref_from whole_ref ref_of house_fields_from text_of member_of definition_of table_of built_ins meaning fragment_named composite_of condition_of can_be name_front key_number applies numbers_where rows_where if_of plan program firsts walk blocks body_once
body_once_differs h = let e : ◌≡◌ {A = List Pair} [] ((10, 10) ∷ []) = h "query($v:Boolean){...F @skip(if:$v) ...F} fragment F on Query{a}" (λ v. true) in let z : ◌≡◌ {A = ℕ} 0 1 = cc in omega arith

-- ---- 4. Keys numbered by the operation's rows only

abbrev pub own_key : Doc → ℕ → Name → ℕ
own_key d op k = op + first_at (keyed d k) (drop op d.rows)

-- the least field row of `a` stands in another operation
pub own_keys_differ : ((s : String) (op : ℕ) (k : Name) → own_key (document (bytes s)) op k ≡ key_number (document (bytes s)) k) → ⊥
unfolding from text scan step enter choose lexical lex_factored language factored run rows_of book tokens_of first_at name_front key_number
own_keys_differ h = let e : ◌≡◌ {A = ℕ} 3 1 = h "query A {a} query B {a}" 2 (bytes "a") in omega arith
