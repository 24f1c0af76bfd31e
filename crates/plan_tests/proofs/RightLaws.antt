-- What a row's numbers say, by what the row is.
use mathlib.Core.Path.{◌≡◌, refl, sym, ap, ◌∙◌, subst}
use mathlib.Core.Bool.{Bool, true, false, true≢false, ◌||◌}
use mathlib.Core.Option.{Option as Maybe, none, some}
use mathlib.Core.List.{List, [], ◌∷◌, ◌++◌, append-nil, append_assoc}
use Prim.Native.Nat.{ℕ, ◌+◌, ◌*◌, ◌≤◌, ◌<◌}
use native.Mathlib.Omega.{arith}
use lib.ListN.{length, get_or}
use lib.Seq.{sets}
use borrow.Author.Tests.{eq-eqb, ne_eqb}
use Rattle.std.specs.Prelude.{Option, Some, None}
use Rattle.paper.specs.Numbers.{most_rows}
use Rattle.paper_plan.specs.Collecting.{Cond, absent, literal, variable, field, spread, inline, View}
use Rattle.paper_plan.specs.Planning.{Test, if_true, unless_true, unless_applies, if_met, Step, skip_tests, include_tests, dropped, tests, sort_tests, content}
use Rattle.plan_walk_steps.specs.Numbers.{test_of}
use Rattle.plan_steps.specs.Table.{tests_from}
use Rattle.plan_conditions.specs.declared.IfValue.{IfValue}
use Rattle.plan_conditions.specs.declared.IfValue.TheVariants.{Literal, Variable}
use Rattle.plan_conditions.specs.Conditions.{coded}
use Rattle.plan_tests.specs.Right.{row_cells, Small, PutIf, skip_drops_by, include_drops_by, drops_by, spread_row, inline_row, TestsAre, Right}
use Rattle.plan_tests.proofs.RowLaws.{tests_start, tests_put, head_tests, head_what, head_above, head_behind, head_count}

-- the kinds of tests
pub test_1 : (x : ℕ) → test_of 1 x ≡ if_true x
unfolding test_of
test_1 x = refl

pub test_2 : (x : ℕ) → test_of 2 x ≡ unless_true x
unfolding test_of
test_2 x = refl

pub test_3 : (x : ℕ) → test_of 3 x ≡ unless_applies x
unfolding test_of
test_3 x = refl

pub test_4 : (x : ℕ) → test_of 4 x ≡ if_met x
unfolding test_of
test_4 x = refl

-- what the `if` of a directive is, and what is written then
pub small_variable : (c : Option IfValue) (v : ℕ) → Small c → c ≡ Some (Variable v) → v ≤ most_rows
small_variable c v s e = subst Small e s

pub put_absent : (row : List ℕ) (m k : ℕ) (c : Option IfValue) → c ≡ None → PutIf row m k c row m
put_absent row m k c e = subst (λ (x : Option IfValue). PutIf row m k x row m) (sym e) (refl, refl)

pub put_literal : (row : List ℕ) (m k : ℕ) (c : Option IfValue) (b : Bool) → c ≡ Some (Literal b) → PutIf row m k c row m
put_literal row m k c b e = subst (λ (x : Option IfValue). PutIf row m k x row m) (sym e) (refl, refl)

pub put_variable : (row row' : List ℕ) (m k : ℕ) (c : Option IfValue) (v : ℕ) → c ≡ Some (Variable v) → row' ≡ sets row (4 + 2 * m) (k ∷ v ∷ []) → PutIf row m k c row' (m + 1)
put_variable row row' m k c v e q = subst (λ (x : Option IfValue). PutIf row m k x row' (m + 1)) (sym e) (q, refl)

pub drops_first : (a b : Option IfValue) → skip_drops_by a ≡ true → true ≡ drops_by a b
drops_first a b e = sym (ap (λ (x : Bool). x || include_drops_by b) e)

pub drops_second : (a b : Option IfValue) (r : Bool) → skip_drops_by a ≡ false → r ≡ include_drops_by b → r ≡ drops_by a b
drops_second a b r e q = q ∙ sym (ap (λ (x : Bool). x || include_drops_by b) e)

pub dropped_by : (a b c e : Option IfValue) → a ≡ c → b ≡ e → drops_by a b ≡ drops_by c e
dropped_by a b c e p q = ap (λ (x : Option IfValue). drops_by x b) p ∙ ap (drops_by c) q

pub spread_written : (row row₁ row₂ row₃ : List ℕ) (m above number number' type type' f f' : ℕ) → number ≡ number' → type ≡ type' → f ≡ f'
    → row₁ ≡ sets row (4 + 2 * m) (4 ∷ number ∷ []) → row₂ ≡ sets row₁ (4 + 2 * (m + 1)) (3 ∷ type ∷ []) → row₃ ≡ sets row₂ 0 (2 ∷ above ∷ f ∷ (m + 2) ∷ [])
    → row₃ ≡ spread_row row m above number' type' f'
spread_written row row₁ row₂ row₃ m above number number' type type' f f' a b c p q r =
    r ∙ ap (λ (l : List ℕ). sets l 0 (2 ∷ above ∷ f ∷ (m + 2) ∷ [])) (q ∙ ap (λ (l : List ℕ). sets l (4 + 2 * (m + 1)) (3 ∷ type ∷ [])) p)
    ∙ ap (λ (x : ℕ). spread_row row m above x type f) a ∙ ap (λ (x : ℕ). spread_row row m above number' x f) b ∙ ap (spread_row row m above number' type') c

pub inline_written : (row row₁ : List ℕ) (m above i type type' : ℕ) → type ≡ type' → row₁ ≡ sets row (4 + 2 * m) (3 ∷ type ∷ []) → sets row₁ 0 (2 ∷ above ∷ i ∷ (m + 1) ∷ []) ≡ inline_row row m above i (some type')
inline_written row row₁ m above i type type' e q = ap (λ (l : List ℕ). sets l 0 (2 ∷ above ∷ i ∷ (m + 1) ∷ [])) q ∙ ap (λ (x : ℕ). inline_row row m above i (some x)) e

-- conditions as the code has them
pub drops_coded : (a b : Cond) → drops_by (coded a) (coded b) ≡ dropped a b
drops_coded absent absent = refl
drops_coded absent (literal b) = refl
drops_coded absent (variable v) = refl
drops_coded (literal a) absent = refl
drops_coded (literal a) (literal b) = refl
drops_coded (literal a) (variable v) = refl
drops_coded (variable u) absent = refl
drops_coded (variable u) (literal b) = refl
drops_coded (variable u) (variable v) = refl

-- what a condition writes
put_skip : (a : Cond) (row row' : List ℕ) (m k : ℕ) (ts : List Test) → TestsAre row m ts → m < 4 → PutIf row m 1 (coded a) row' k → TestsAre row' k (ts ++ skip_tests a) × (k ≤ m + 1)
put_skip absent row row' m k ts w h p = (subst (λ (l : List ℕ). TestsAre l k (ts ++ [])) (sym p.0) (subst (λ (n : ℕ). TestsAre row n (ts ++ [])) (sym p.1) (subst (TestsAre row m) (sym (append-nil ts)) w)), omega (arith, p.1))
put_skip (literal b) row row' m k ts w h p = (subst (λ (l : List ℕ). TestsAre l k (ts ++ [])) (sym p.0) (subst (λ (n : ℕ). TestsAre row n (ts ++ [])) (sym p.1) (subst (TestsAre row m) (sym (append-nil ts)) w)), omega (arith, p.1))
put_skip (variable v) row row' m k ts w h p =
    (subst (λ (n : ℕ). TestsAre row' n (ts ++ (if_true v ∷ []))) (sym p.1) (subst (λ (t : Test). TestsAre row' (m + 1) (ts ++ (t ∷ []))) (test_1 v) (tests_put row m ts w row' 1 v h (omega arith) (omega arith) p.0)), omega (arith, p.1))

put_include : (a : Cond) (row row' : List ℕ) (m k : ℕ) (ts : List Test) → TestsAre row m ts → m < 4 → PutIf row m 2 (coded a) row' k → TestsAre row' k (ts ++ include_tests a) × (k ≤ m + 1)
put_include absent row row' m k ts w h p = (subst (λ (l : List ℕ). TestsAre l k (ts ++ [])) (sym p.0) (subst (λ (n : ℕ). TestsAre row n (ts ++ [])) (sym p.1) (subst (TestsAre row m) (sym (append-nil ts)) w)), omega (arith, p.1))
put_include (literal b) row row' m k ts w h p = (subst (λ (l : List ℕ). TestsAre l k (ts ++ [])) (sym p.0) (subst (λ (n : ℕ). TestsAre row n (ts ++ [])) (sym p.1) (subst (TestsAre row m) (sym (append-nil ts)) w)), omega (arith, p.1))
put_include (variable v) row row' m k ts w h p =
    (subst (λ (n : ℕ). TestsAre row' n (ts ++ (unless_true v ∷ []))) (sym p.1) (subst (λ (t : Test). TestsAre row' (m + 1) (ts ++ (t ∷ []))) (test_2 v) (tests_put row m ts w row' 2 v h (omega arith) (omega arith) p.0)), omega (arith, p.1))

put_size : (a : Option IfValue) (row row' : List ℕ) (m k x : ℕ) → PutIf row m x a row' k → m < 4 → length row ≡ row_cells → (length row' ≡ row_cells) × (k ≤ m + 1)
put_size None row row' m k x p h e = (ap length p.0 ∙ e, omega (arith, p.1))
put_size (Some (Literal b)) row row' m k x p h e = (ap length p.0 ∙ e, omega (arith, p.1))
put_size (Some (Variable v)) row row' m k x p h e = (ap length p.0 ∙ lib.Seq.length-sets row (4 + 2 * m) (x ∷ v ∷ []) ∙ e, omega (arith, p.1))

-- the tests of both directives, from none on; the code's conditions are a and b
module _ (a b : Cond) (s i : Option IfValue) (e : s ≡ coded a) (f : i ≡ coded b) (row row₁ row₂ : List ℕ) (k m : ℕ) (size : length row ≡ row_cells)
    (p : PutIf row 0 1 s row₁ k) where
  first : TestsAre row₁ k (skip_tests a) × (k ≤ 1)
  first =
      let q = put_skip a row row₁ 0 k [] (tests_start row size) (omega arith) (subst (λ (c : Option IfValue). PutIf row 0 1 c row₁ k) e p) in
      (q.0, omega (arith, q.1))

  pub once_size : (length row₁ ≡ row_cells) × (k ≤ 1)
  once_size = (first.0.size, first.1)

  pub both_tests : PutIf row₁ k 2 i row₂ m → TestsAre row₂ m (skip_tests a ++ include_tests b) × (m ≤ 2)
  both_tests q =
      let r = put_include b row₁ row₂ k m (skip_tests a) first.0 (omega (arith, first.1)) (subst (λ (c : Option IfValue). PutIf row₁ k 2 c row₂ m) f q) in
      (r.0, omega (arith, r.1, first.1))

module _ (v : View ℕ) (set : ℕ → List ℕ) (r above : ℕ) where
  -- no selection; a dropped one
  pub right_none : (selects : Bool) (row row' : List ℕ) → length row ≡ row_cells → selects ≡ false → row' ≡ sets row 0 (0 ∷ above ∷ 0 ∷ 0 ∷ []) → Right v set r above selects row'
  right_none selects row row' size e q =
      let w = tests_start row size in
      let c = head_count row 0 [] w row' 0 above 0 0 q in
      record {
        size = (head_tests row 0 [] w row' 0 above 0 0 q).size;
        its_above = head_above row 0 [] w row' 0 above 0 0 q;
        few = omega (arith, c);
        held = omega (arith, head_behind row 0 [] w row' 0 above 0 0 q);
        no_selection = λ h. head_what row 0 [] w row' 0 above 0 0 q;
        selection = λ h. absurd (true≢false (sym h ∙ e));
        drops = λ h. absurd (true≢false (sym h ∙ e));
        kinds = λ j h. absurd (omega (arith, c));
        its_tests = λ h. absurd (true≢false (sym h ∙ e));
        a_field = λ h. absurd (true≢false (sym h ∙ e));
        nested = λ h. absurd (true≢false (sym h ∙ e));
      }

  pub right_dropped : (selects : Bool) (row row' : List ℕ) → length row ≡ row_cells → selects ≡ true → dropped (v.skip r) (v.include r) ≡ true → row' ≡ sets row 0 (3 ∷ above ∷ 0 ∷ 0 ∷ []) → Right v set r above selects row'
  right_dropped selects row row' size e d q =
      let w = tests_start row size in
      let c = head_count row 0 [] w row' 3 above 0 0 q in
      let x = head_what row 0 [] w row' 3 above 0 0 q in
      record {
        size = (head_tests row 0 [] w row' 3 above 0 0 q).size;
        its_above = head_above row 0 [] w row' 3 above 0 0 q;
        few = omega (arith, c);
        held = omega (arith, head_behind row 0 [] w row' 3 above 0 0 q);
        no_selection = λ h. absurd (true≢false (sym e ∙ h));
        selection = λ h z. absurd (omega (arith, x));
        drops = λ h. eq-eqb (get_or row' 0 0) 3 x ∙ sym d;
        kinds = λ j h. absurd (omega (arith, c));
        its_tests = λ h z. absurd (z x);
        a_field = λ h z. absurd (omega (arith, x));
        nested = λ h z y. absurd (y x);
      }

  -- one that is kept, with its tests
  module _ (selects : Bool) (e : selects ≡ true) (d : dropped (v.skip r) (v.include r) ≡ false) (row row' : List ℕ) (m behind : ℕ) (ts : List Test) (w : TestsAre row m ts) (few : m ≤ 4) (held : behind ≤ most_rows)
      (is : ts ≡ tests v r) where
    pub right_field : v.sort r ≡ field behind → row' ≡ sets row 0 (1 ∷ above ∷ behind ∷ m ∷ []) → Right v set r above selects row'
    right_field f q =
        let c = head_count row m ts w row' 1 above behind m q in
        let x = head_what row m ts w row' 1 above behind m q in
        let b = head_behind row m ts w row' 1 above behind m q in
        let h = head_tests row m ts w row' 1 above behind m q in
        record {
          size = h.size;
          its_above = head_above row m ts w row' 1 above behind m q;
          few = omega (arith, c);
          held = omega (arith, b);
          no_selection = λ z. absurd (true≢false (sym e ∙ z));
          selection = λ z y. absurd (omega (arith, x));
          drops = λ z. ne_eqb (get_or row' 0 0) 3 (λ y. absurd (omega (arith, x))) ∙ sym d;
          kinds = λ j z. h.kinds j (omega (arith, c));
          its_tests = λ z y. ap (tests_from row' 4) c ∙ h.are ∙ is;
          a_field = λ z y. f ∙ ap field (sym b);
          nested = λ z y. absurd (y x);
        }

    pub right_nested : ((at : ℕ) (inner : ℕ → List ℕ → List Step) → content v inner at r (v.sort r) ≡ inner at (set behind)) → row' ≡ sets row 0 (2 ∷ above ∷ behind ∷ m ∷ []) → Right v set r above selects row'
    right_nested f q =
        let c = head_count row m ts w row' 2 above behind m q in
        let x = head_what row m ts w row' 2 above behind m q in
        let b = head_behind row m ts w row' 2 above behind m q in
        let h = head_tests row m ts w row' 2 above behind m q in
        record {
          size = h.size;
          its_above = head_above row m ts w row' 2 above behind m q;
          few = omega (arith, c);
          held = omega (arith, b);
          no_selection = λ z. absurd (true≢false (sym e ∙ z));
          selection = λ z y. absurd (omega (arith, x));
          drops = λ z. ne_eqb (get_or row' 0 0) 3 (λ y. absurd (omega (arith, x))) ∙ sym d;
          kinds = λ j z. h.kinds j (omega (arith, c));
          its_tests = λ z y. ap (tests_from row' 4) c ∙ h.are ∙ is;
          a_field = λ z y. absurd (omega (arith, x));
          nested = λ z y u at inner. f at inner ∙ ap (λ (n : ℕ). inner at (set n)) (sym b);
        }

  -- by the sort of a kept selection, behind the tests of its directives
  module _ (selects : Bool) (e : selects ≡ true) (d : dropped (v.skip r) (v.include r) ≡ false) (row row' : List ℕ) (m : ℕ) (w : TestsAre row m (skip_tests (v.skip r) ++ include_tests (v.include r))) (few : m ≤ 2) where
    abbrev given : List Test
    given = skip_tests (v.skip r) ++ include_tests (v.include r)

    tests_are : (ts : List Test) → sort_tests v (v.sort r) ≡ ts → given ++ ts ≡ tests v r
    tests_are ts q = append_assoc (skip_tests (v.skip r)) (include_tests (v.include r)) ts ∙ ap (λ (l : List Test). skip_tests (v.skip r) ++ (include_tests (v.include r) ++ l)) (sym q)

    pub kept_field : (key : ℕ) → key ≤ most_rows → v.sort r ≡ field key → row' ≡ sets row 0 (1 ∷ above ∷ key ∷ m ∷ []) → Right v set r above selects row'
    kept_field key low q x =
        right_field selects e d row row' m key given w (omega arith) low (sym (append-nil given) ∙ tests_are [] (ap (sort_tests v) q)) q x

    pub kept_spread : (number type f : ℕ) → f ≤ most_rows → v.sort r ≡ spread number → v.on number ≡ type → v.fragment number ≡ set f → row' ≡ spread_row row m above number type f → Right v set r above selects row'
    kept_spread number type f low q o g x =
        let one = tests_put row m given w (sets row (4 + 2 * m) (4 ∷ number ∷ [])) 4 number (omega arith) (omega arith) (omega arith) refl in
        let two = tests_put (sets row (4 + 2 * m) (4 ∷ number ∷ [])) (m + 1) (given ++ (test_of 4 number ∷ [])) one (sets (sets row (4 + 2 * m) (4 ∷ number ∷ [])) (4 + 2 * (m + 1)) (3 ∷ type ∷ [])) 3 type (omega arith) (omega arith) (omega arith) refl in
        let z : m + 1 + 1 ≡ m + 2 = omega arith in
        let both : (given ++ (test_of 4 number ∷ [])) ++ (test_of 3 type ∷ []) ≡ tests v r =
        append_assoc given (test_of 4 number ∷ []) (test_of 3 type ∷ []) ∙ ap (λ (t : Test). given ++ (t ∷ test_of 3 type ∷ [])) (test_4 number) ∙ ap (λ (t : Test). given ++ (if_met number ∷ t ∷ [])) (test_3 type)
        ∙ tests_are (if_met number ∷ unless_applies type ∷ []) (ap (sort_tests v) q ∙ ap (λ (t : ℕ). if_met number ∷ unless_applies t ∷ []) o) in
        right_nested selects e d (sets (sets row (4 + 2 * m) (4 ∷ number ∷ [])) (4 + 2 * (m + 1)) (3 ∷ type ∷ [])) row' (m + 2) f ((given ++ (test_of 4 number ∷ [])) ++ (test_of 3 type ∷ []))
        (subst (λ (n : ℕ). TestsAre (sets (sets row (4 + 2 * m) (4 ∷ number ∷ [])) (4 + 2 * (m + 1)) (3 ∷ type ∷ [])) n ((given ++ (test_of 4 number ∷ [])) ++ (test_of 3 type ∷ []))) z two)
        (omega arith) low both
        (λ at inner. ap (content v inner at r) q ∙ ap (inner at) g) x

    pub kept_inline : (c : Maybe ℕ) → r ≤ most_rows → v.sort r ≡ inline c → v.body r ≡ set r → row' ≡ inline_row row m above r c → Right v set r above selects row'
    kept_inline none low q g x =
        right_nested selects e d row row' m r given w (omega arith) low (sym (append-nil given) ∙ tests_are [] (ap (sort_tests v) q)) (λ at inner. ap (content v inner at r) q ∙ ap (inner at) g) x
    kept_inline (some type) low q g x =
        let one = tests_put row m given w (sets row (4 + 2 * m) (3 ∷ type ∷ [])) 3 type (omega arith) (omega arith) (omega arith) refl in
        right_nested selects e d (sets row (4 + 2 * m) (3 ∷ type ∷ [])) row' (m + 1) r (given ++ (test_of 3 type ∷ [])) one (omega arith) low
        (ap (λ (t : Test). given ++ (t ∷ [])) (test_3 type) ∙ tests_are (unless_applies type ∷ []) (ap (sort_tests v) q)) (λ at inner. ap (content v inner at r) q ∙ ap (inner at) g) x
