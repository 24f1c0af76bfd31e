-- Each step of an operation's plan names a variable, record, fragment, key and row that is one. The rows that steps come from are selections that the operation reaches.
use mathlib.Core.Path.{◌≡◌, refl, sym, subst}
use mathlib.Core.Bool.{Bool, true, false, cond, not}
use mathlib.Core.List.{List, [], ◌∷◌, ◌++◌, map}
use mathlib.Core.Option.{Option, none, some}
use Prim.Native.Nat.{ℕ, zero, suc, ◌+◌, ◌≤◌, ◌<◌}
use native.Mathlib.Omega.{arith}
use lib.ListN.{length}
use lib.Dec.{T, eqb, leb}
use borrow.Author.Tests.{leb-true, eq-eqb, ne_eqb}
use Rattle.paper.proofs.Bools.{and_left as and_l, eq→t as holds}
use Rattle.paper.specs.Numbers.{most_rows, most_variables, most_fragments, kind_operation, kind_fragment, kind_field, kind_spread, kind_inline}
use Rattle.paper.specs.Rows.{Row}
use Rattle.paper_table.specs.Lists.{bytes}
use Rattle.paper_table.specs.Types.{Table, is_composite}
use Rattle.paper_query.specs.Constructs.{Doc, count, row_of, name_of, is, is_selection, called, fragment_named}
use Rattle.paper_query.specs.Enclosing.{definition_at, condition_of}
use Rattle.paper_query.specs.Reaching.{is_definition, Within, itself, deeper, Reaches, here, through}
use Rattle.paper_plan.specs.Keys.{key_at}
use Rattle.paper_plan.specs.Collecting.{Cond, absent, literal, variable, field, spread, inline, View, elem}
use Rattle.paper_plan.specs.Planning.{Test, if_true, unless_true, unless_applies, if_met, Step, leave, list, skip_tests, include_tests, condition_tests, sort_tests, tests, content, dropped, leaves_past, guarded, unless_dropped, selection, selections, plan, program}
use Rattle.paper_plan.specs.Selecting.{set_of, fragment_number, fragment_row, type_if, if_of, number_sort, by_numbers}
use Rattle.plan_keys.proofs.KeyLaws.{key_most}
use Rattle.plan_theory.proofs.NumbersOf.{where_placed, or_l, or_r}
use Rattle.plan_theory.proofs.Plannable.{Plannable, fragment_is, spread_of}
use Rattle.plan_theory.proofs.Circles.{OfSet, of_set}
use Rattle.query_conditions.specs.Sane.{Sane}

module _ (t : Table) where
  abbrev pub RightTest : Test → Type 0
  RightTest (if_true v) = v < most_variables
  RightTest (unless_true v) = v < most_variables
  RightTest (unless_applies k) = is_composite (definition_at t k) ≡ true
  RightTest (if_met f) = f < most_fragments

  abbrev pub Right : Step → Type 0
  Right (leave x n) = RightTest x
  Right (list k r) = (k < most_rows) × (r < most_rows)

  abbrev RightTests : List Test → Type 0
  RightTests [] = Unit {0}
  RightTests (x ∷ xs) = RightTest x × RightTests xs

  abbrev pub AllRight : List Step → Type 0
  AllRight [] = Unit {0}
  AllRight (s ∷ ss) = Right s × AllRight ss

  tests_both : (xs ys : List Test) → RightTests xs → RightTests ys → RightTests (xs ++ ys)
  tests_both [] ys a b = b
  tests_both (x ∷ xs) ys a b = (a.0, tests_both xs ys a.1 b)

  steps_both : (xs ys : List Step) → AllRight xs → AllRight ys → AllRight (xs ++ ys)
  steps_both [] ys a b = b
  steps_both (x ∷ xs) ys a b = (a.0, steps_both xs ys a.1 b)

  pub right_later : (xs ys : List Step) → AllRight (xs ++ ys) → AllRight ys
  right_later [] ys a = a
  right_later (x ∷ xs) ys a = right_later xs ys a.1

  closed_right : (past : ℕ) (ts : List Test) → RightTests ts → AllRight (leaves_past past ts)
  closed_right past [] a = tt
  closed_right past (x ∷ ts) a = (a.0, closed_right past ts a.1)

  unless_right : (b : Bool) (s : List Step) → AllRight s → AllRight (unless_dropped b s)
  unless_right true s a = tt
  unless_right false s a = a

-- what reaches a row reaches its selections
no_definition : (r : Row) → is_selection r ≡ true → T (not (is_definition r))
no_definition r e =
    let three : 3 ≤ r.kind = leb-true 3 r.kind (and_l (leb kind_field r.kind) (leb r.kind kind_inline) e) in
    holds (not (is_definition r)) (rw (ne_eqb r.kind kind_operation (λ z. absurd (omega arith)), ne_eqb r.kind kind_fragment (λ z. absurd (omega arith))))

within_set : (d : Doc) (a p y : ℕ) → OfSet d p y → Within d a p → Within d a y
within_set d a p y o w = deeper (no_definition (row_of d y) o.selection) (rw o.parent w)

reaches_set : (d : Doc) (a p y : ℕ) → OfSet d p y → Reaches d a p → Reaches d a y
reaches_set d a p y o (here w) = here (within_set d a p y o w)
reaches_set d a p y o (through {f = f} r s w) = through r s (within_set d f p y o w)

module _ (t : Table) (d : Doc) (op : ℕ) (ok : Plannable d) (sane : Sane t d op) where
  abbrev view : View ℕ
  view = by_numbers t d op

  -- a selection that the operation reaches
  record Found (r : ℕ) : Type 0 where
    low : r < count d
    selection : is_selection (row_of d r) ≡ true
    reached : Reaches d op r

  abbrev AllFound : List ℕ → Type 0
  AllFound rs = (r : ℕ) → elem eqb r rs ≡ true → Found r

  set_found : (p : ℕ) → Reaches d op p → AllFound (set_of d p)
  set_found p h r e = let o = of_set d p r e in record { low = o.low; selection = o.selection; reached = reaches_set d op p r o h }

  fragment_placed : (f : List ℕ) → fragment_row d (fragment_number d f) ≡ fragment_named d f
  unfolding fragment_named
  fragment_placed f = where_placed (is kind_fragment) d (called d f)

  module _ (r : ℕ) (f : Found r) where
    skip_right : (c : Cond) → if_of d op (bytes "skip") r ≡ c → RightTests t (skip_tests c)
    skip_right absent e = tt
    skip_right (literal b) e = tt
    skip_right (variable v) e = (sane.skip_below r v f.reached f.selection e, tt)

    include_right : (c : Cond) → if_of d op (bytes "include") r ≡ c → RightTests t (include_tests c)
    include_right absent e = tt
    include_right (literal b) e = tt
    include_right (variable v) e = (sane.include_below r v f.reached f.selection e, tt)

    condition_right : (c : Option ℕ) → type_if t d (condition_of d r) ≡ c → RightTests t (condition_tests c)
    condition_right none e = tt
    condition_right (some k) e = (sane.inline_output r k e f.selection, tt)

    -- what is so of a spread's fragment, by its row, is so by its number
    by_number : (P : ℕ → Type 0) → P (fragment_named d (name_of d r)) → P (fragment_row d (fragment_number d (name_of d r)))
    by_number P = subst P (sym (fragment_placed (name_of d r)))

    spread_right : is kind_spread (row_of d r) ≡ true → RightTests t (sort_tests view (spread (fragment_number d (name_of d r))))
    spread_right q =
        let there = ok.spreads r q in
        let n = fragment_row d (fragment_number d (name_of d r)) in
        let fragment : is kind_fragment (row_of d n) ≡ true = by_number (λ (i : ℕ). is kind_fragment (row_of d i) ≡ true) (fragment_is d (name_of d r) there).1 in
        (sane.fragment_below (name_of d r) there, (sane.on_output n fragment, tt))

    sort_right : (b c : Bool) → is kind_field (row_of d r) ≡ b → is kind_spread (row_of d r) ≡ c →
        RightTests t (sort_tests view (number_sort d (cond b (field (key_at d r)) (cond c (spread (name_of d r)) (inline (type_if t d (condition_of d r)))))))
    sort_right true c e q = tt
    sort_right false true e q = spread_right q
    sort_right false false e q = condition_right (type_if t d (condition_of d r)) refl

    tests_right : RightTests t (tests view r)
    tests_right =
        tests_both t (skip_tests (view.skip r)) (include_tests (view.include r) ++ sort_tests view (view.sort r)) (skip_right (view.skip r) refl)
        (tests_both t (include_tests (view.include r)) (sort_tests view (view.sort r)) (include_right (view.include r) refl)
        (sort_right (is kind_field (row_of d r)) (is kind_spread (row_of d r)) refl refl))

    content_right : (inner : ℕ → List ℕ → List Step) → ((at : ℕ) (rs : List ℕ) → AllFound rs → AllRight t (inner at rs)) → (at : ℕ) (b c : Bool) →
        is kind_field (row_of d r) ≡ b → is kind_spread (row_of d r) ≡ c →
        AllRight t (content view inner at r (number_sort d (cond b (field (key_at d r)) (cond c (spread (name_of d r)) (inline (type_if t d (condition_of d r)))))))
    content_right inner right at true c e q = ((omega (arith, key_most d r f.low e, f.low, ok.few), omega (arith, f.low, ok.few)), tt)
    content_right inner right at false true e q =
        right at (set_of d (fragment_row d (fragment_number d (name_of d r)))) (set_found (fragment_row d (fragment_number d (name_of d r))) (by_number (Reaches d op) (through f.reached (spread_of d ok r q) itself)))
    content_right inner right at false false e q = right at (set_of d r) (set_found r f.reached)

    selection_right : (inner : ℕ → List ℕ → List Step) → ((at : ℕ) (rs : List ℕ) → AllFound rs → AllRight t (inner at rs)) → (at : ℕ) → AllRight t (selection view inner at r)
    selection_right inner right at =
        let n = at + length (tests view r) in
        let b = content view inner n r (view.sort r) in
        unless_right t (dropped (view.skip r) (view.include r)) (guarded (tests view r) at b)
        (steps_both t (leaves_past (n + length b) (tests view r)) b (closed_right t (n + length b) (tests view r) tests_right)
        (content_right inner right n (is kind_field (row_of d r)) (is kind_spread (row_of d r)) refl refl))

  selections_right : (inner : ℕ → List ℕ → List Step) → ((at : ℕ) (rs : List ℕ) → AllFound rs → AllRight t (inner at rs)) → (at : ℕ) (rs : List ℕ) → AllFound rs → AllRight t (selections view inner at rs)
  selections_right inner right at [] f = tt
  selections_right inner right at (r ∷ rs) f =
      let s = selection view inner at r in
      steps_both t s (selections view inner (at + length s) rs) (selection_right r (f r (or_l (elem eqb r rs) (eq-eqb r r refl))) inner right at)
      (selections_right inner right (at + length s) rs (λ y e. f y (or_r (eqb y r) e)))

  plan_right : (k at : ℕ) (rs : List ℕ) → AllFound rs → AllRight t (plan view k at rs)
  unfolding plan
  plan_right zero at rs f = tt
  plan_right (suc k) at rs f = selections_right (λ at' rs'. plan view k at' rs') (λ at' rs' f'. plan_right k at' rs' f') at rs f

  -- the blocks of rows that the operation reaches
  pub program_right : (k at : ℕ) (rows : List ℕ) → ((h : ℕ) → elem eqb h rows ≡ true → Reaches d op h) → AllRight t (program view k at (map (set_of d) rows))
  unfolding program
  program_right k at [] f = tt
  program_right k at (h ∷ rows) f =
      let s = plan view k at (set_of d h) in
      steps_both t s (program view k (at + length s) (map (set_of d) rows)) (plan_right k at (set_of d h) (set_found h (f h (or_l (elem eqb h rows) (eq-eqb h h refl)))))
      (program_right k (at + length s) rows (λ y e. f y (or_r (eqb y h) e)))
