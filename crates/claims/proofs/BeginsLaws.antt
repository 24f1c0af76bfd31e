-- At refusals 6 and 8 a construct begins that is the first over: between the last token before and the refused one stands the mark with which a count passes its size.
use mathlib.Core.Path.{◌≡◌, refl, sym, ap, ◌∙◌, subst}
use mathlib.Core.Bool.{Bool, true, false, ◌||◌, cond, true≢false}
use mathlib.Core.List.{List, [], ◌∷◌, ◌++◌}
use mathlib.Core.Logic.{◌⊎◌, inl, inr}
use Prim.Native.Nat.{ℕ, zero, suc, ◌+◌, ◌≤◌, ◌<◌}
use native.Mathlib.Omega.{arith}
use lib.Dec.{T, eqb, ltb, eqb→eq, ltb→lt}
use lib.ListN.{length, take, length-map}
use borrow.Author.Tests.{ltb-false}
use Rattle.paper.specs.Grammar.{Ev, tok, mark, toks}
use Rattle.paper.specs.Numbers.{most_rows, most_fragments, most_variables, most_wrappers, kind_operation, kind_fragment, kind_variable_definition}
use Rattle.paper.specs.Language.{Class, Mark, row, kind, named, wrapper, wrap, end, Part}
use Rattle.paper.specs.Tokens.{Text, Tokens}
use Rattle.paper.specs.Sizes.{Counts, Sums, nothing_counted, kinded, wrapper_more, counted, sums, through, over_rows, over_counts}
use Rattle.paper.specs.Reading.{tokens_of, classes_of, place_of, Reads, Summed, refuses, TextAnswer}
use Rattle.paper.specs.declared.Refusal.TheVariants.{TooManyRows, TooMany}
use Rattle.paper.proofs.Bools.{or_cases}
use Rattle.claims.proofs.LevelsLaws.{test_before}
use Rattle.claims.proofs.StandsLaws.{rows_stands, many_stands}

abbrev Evs : Type 0
Evs = List (Ev Class Mark)

-- behind k tokens of es and before the next stands a mark with which a test of the sums is first failed
abbrev Crosses : (Sums → Bool) → Evs → ℕ → Sums → Type 0
Crosses test es k s = (xs : Evs) × (a : Mark) × (ys : Evs) × (through (suc k) es ≡ xs ++ (mark a ∷ ys)) × (length (toks xs) ≡ k) × (test (sums xs s) ≡ false) × T (test (counted (mark a) (sums xs s)))

-- a test that no token changes, is failed at a mark
crosses : (test : Sums → Bool) → ((c : Class) (s : Sums) → test (counted (tok c) s) ≡ test s) →
    (es : Evs) (k : ℕ) (s : Sums) → test (sums (through k es) s) ≡ false → T (test (sums (through (suc k) es) s)) → Crosses test es k s
unfolding through sums toks
crosses test q [] zero s h o = absurd (subst T h o)
crosses test q [] (suc k) s h o = absurd (subst T h o)
crosses test q (tok c ∷ es) zero s h o = absurd (subst T (q c s ∙ h) o)
crosses test q (tok c ∷ es) (suc k) s h o =
    let r = crosses test q es k (counted (tok c) s) h o in
    (tok c ∷ r.0, r.1, r.2, ap (λ (z : Evs). tok c ∷ z) r.3, ap suc r.4, r.5, r.6)
crosses test q (mark a ∷ es) zero s h o = go (test (counted (mark a) s)) refl (λ e. crosses test q es zero (counted (mark a) s) e o)
  where
    go : (b : Bool) → test (counted (mark a) s) ≡ b → (test (counted (mark a) s) ≡ false → Crosses test es zero (counted (mark a) s)) → Crosses test (mark a ∷ es) zero s
    go true e f = ([], a, through 1 es, refl, refl, h, subst T (sym e) tt)
    go false e f = let r = f e in (mark a ∷ r.0, r.1, r.2, ap (λ (z : Evs). mark a ∷ z) r.3, r.4, r.5, r.6)
crosses test q (mark a ∷ es) (suc k) s h o =
    let r = crosses test q es (suc k) (counted (mark a) s) h o in
    (mark a ∷ r.0, r.1, r.2, ap (λ (z : Evs). mark a ∷ z) r.3, r.4, r.5, r.6)

-- so at the first token with which a test fails
module _ (test : Sums → Bool) (z : test nothing_counted ≡ false) (q : (c : Class) (s : Sums) → test (counted (tok c) s) ≡ test s) where
  first_crosses : (n : Part) (ts : List Class) (k : ℕ) (m : Sums) (s : Summed n ts k m) → T (test m) → ((j : ℕ) (m' : Sums) → j < k → Summed n ts j m' → test m' ≡ false) → Crosses test s.events k nothing_counted
  first_crosses n ts k m s o f = crosses test q s.events k nothing_counted (test_before test z n ts k m s f) (subst (λ (x : Sums). T (test x)) (sym s.are) o)

-- ROWS. Only the beginning of a row counts one
row_crosses : (a : Mark) (s : Sums) → over_rows s ≡ false → T (over_rows (counted (mark a) s)) → (a ≡ row) × (s.rows ≡ most_rows)
row_crosses row s h o = (refl, let l = ltb-false most_rows s.rows h in let u = ltb→lt most_rows (s.rows + 1) o in omega arith)
row_crosses (kind k x) s h o = absurd (subst T h o)
row_crosses named s h o = absurd (subst T h o)
row_crosses wrapper s h o = absurd (subst T h o)
row_crosses (wrap w) s h o = absurd (subst T h o)
row_crosses end s h o = absurd (subst T h o)

-- THE OTHER COUNTS
abbrev Passes : Mark → Counts → Type 0
Passes a q = ((x : ℕ) × (a ≡ kind kind_fragment x) × (q.fragments ≡ most_fragments)) ⊎ (((x : ℕ) × (a ≡ kind kind_variable_definition x) × (q.variables ≡ most_variables)) ⊎ ((a ≡ wrapper) × (q.wrappers ≡ most_wrappers)))

abbrev Few : Counts → Type 0
Few q = (q.fragments ≤ most_fragments) × (q.variables ≤ most_variables) × (q.wrappers ≤ most_wrappers)

few : (q : Counts) → over_counts q ≡ false → Few q
few q h =
    let r = go (ltb most_fragments q.fragments) (ltb most_variables q.variables) (ltb most_wrappers q.wrappers) h in
    (ltb-false most_fragments q.fragments r.0, ltb-false most_variables q.variables r.1, ltb-false most_wrappers q.wrappers r.2)
  where
    go : (a b c : Bool) → a || (b || c) ≡ false → (a ≡ false) × (b ≡ false) × (c ≡ false)
    go true b c e = absurd (true≢false e)
    go false true c e = absurd (true≢false e)
    go false false c e = (refl, refl, e)

-- which count is over
overs : (q : Counts) → T (over_counts q) → (most_fragments < q.fragments) ⊎ ((most_variables < q.variables) ⊎ (most_wrappers < q.wrappers))
overs q o = go (or_cases (ltb most_fragments q.fragments) (ltb most_variables q.variables || ltb most_wrappers q.wrappers) o)
  where
    later : T (ltb most_variables q.variables) ⊎ T (ltb most_wrappers q.wrappers) → (most_variables < q.variables) ⊎ (most_wrappers < q.wrappers)
    later (inl t) = inl (ltb→lt most_variables q.variables t)
    later (inr t) = inr (ltb→lt most_wrappers q.wrappers t)

    go : T (ltb most_fragments q.fragments) ⊎ T (ltb most_variables q.variables || ltb most_wrappers q.wrappers) → (most_fragments < q.fragments) ⊎ ((most_variables < q.variables) ⊎ (most_wrappers < q.wrappers))
    go (inl t) = inl (ltb→lt most_fragments q.fragments t)
    go (inr t) = inr (later (or_cases (ltb most_variables q.variables) (ltb most_wrappers q.wrappers) t))

-- by a kind: the fragments or the variables
kind_crosses : (k x : ℕ) (q : Counts) → Few q → (most_fragments < (kinded k q).fragments) ⊎ ((most_variables < (kinded k q).variables) ⊎ (most_wrappers < (kinded k q).wrappers)) → Passes (kind k x) q
kind_crosses k x q h (inl o) = go (eqb k kind_fragment) refl o
  where
    go : (b : Bool) → eqb k kind_fragment ≡ b → most_fragments < cond b (q.fragments + 1) q.fragments → Passes (kind k x) q
    go true e l = inl (x, ap (λ (i : ℕ). kind i x) (eqb→eq k kind_fragment (subst T (sym e) tt)), let u = h.0 in omega arith)
    go false e l = let u = h.0 in let z : ⊥ = omega arith in absurd z
kind_crosses k x q h (inr (inl o)) = go (eqb k kind_operation) (eqb k kind_variable_definition) refl o
  where
    go : (c b : Bool) → eqb k kind_variable_definition ≡ b → most_variables < cond c 0 (cond b (q.variables + 1) q.variables) → Passes (kind k x) q
    go true b e l = let z : ⊥ = omega arith in absurd z
    go false true e l = inr (inl (x, ap (λ (i : ℕ). kind i x) (eqb→eq k kind_variable_definition (subst T (sym e) tt)), let u = h.1 in omega arith))
    go false false e l = let u = h.1 in let z : ⊥ = omega arith in absurd z
kind_crosses k x q h (inr (inr o)) = go (eqb k kind_variable_definition) o
  where
    go : (b : Bool) → most_wrappers < cond b 0 q.wrappers → Passes (kind k x) q
    go true l = let z : ⊥ = omega arith in absurd z
    go false l = let u = h.2 in let z : ⊥ = omega arith in absurd z

wrapper_crosses : (q : Counts) → Few q → (most_fragments < q.fragments) ⊎ ((most_variables < q.variables) ⊎ (most_wrappers < q.wrappers + 1)) → Passes wrapper q
wrapper_crosses q h (inl o) = let u = h.0 in let z : ⊥ = omega arith in absurd z
wrapper_crosses q h (inr (inl o)) = let u = h.1 in let z : ⊥ = omega arith in absurd z
wrapper_crosses q h (inr (inr o)) = inr (inr (refl, let u = h.2 in omega arith))

count_crosses : (a : Mark) (s : Sums) → over_counts s.counts ≡ false → T (over_counts (counted (mark a) s).counts) → Passes a s.counts
count_crosses row s h o = absurd (subst T h o)
count_crosses (kind k x) s h o = kind_crosses k x s.counts (few s.counts h) (overs (kinded k s.counts) o)
count_crosses named s h o = absurd (subst T h o)
count_crosses wrapper s h o = wrapper_crosses s.counts (few s.counts h) (overs (wrapper_more s.counts) o)
count_crosses (wrap w) s h o = absurd (subst T h o)
count_crosses end s h o = absurd (subst T h o)

inside : (n : Part) (t : Text) (k : ℕ) (m : Sums) → Summed n (classes_of t) k m → k < length (tokens_of t)
inside n t k m s = let e = length-map (tokens_of t) (λ x. x.class) in let i = s.inside in omega arith

-- in full
pub row_begins : (n : Part) {s : List ℕ} {t : Text} (at : ℕ) → Tokens 0 s t → TextAnswer n t (refuses (TooManyRows at)) →
    (k : ℕ) × (later : List Class) × (es : Evs) × (xs : Evs) × (ys : Evs) × (at ≡ place_of k t) × (k < length (tokens_of t))
    × Reads n (take (suc k) (classes_of t) ++ later) es × (through (suc k) es ≡ xs ++ (mark row ∷ ys)) × (length (toks xs) ≡ k) × ((sums xs nothing_counted).rows ≡ most_rows)
row_begins n {s} {t} at k a =
    let r = rows_stands n at k a in
    let c = first_crosses over_rows refl (λ c s. refl) n (classes_of t) r.0 r.1 r.3 r.4 (λ j m h x. (r.5 j m h x).1) in
    let p = row_crosses c.1 (sums c.0 nothing_counted) c.5 c.6 in
    (r.0, r.3.later, r.3.events, c.0, c.2, r.2, inside n t r.0 r.1 r.3, r.3.reads, subst (λ (x : Mark). through (suc r.0) r.3.events ≡ c.0 ++ (mark x ∷ c.2)) p.0 c.3, c.4, p.1)

pub count_begins : (n : Part) {s : List ℕ} {t : Text} (at : ℕ) → Tokens 0 s t → TextAnswer n t (refuses (TooMany at)) →
    (k : ℕ) × (later : List Class) × (es : Evs) × (xs : Evs) × (a : Mark) × (ys : Evs) × (at ≡ place_of k t) × (k < length (tokens_of t))
    × Reads n (take (suc k) (classes_of t) ++ later) es × (through (suc k) es ≡ xs ++ (mark a ∷ ys)) × (length (toks xs) ≡ k) × Passes a (sums xs nothing_counted).counts
count_begins n {s} {t} at k a =
    let r = many_stands n at k a in
    let c = first_crosses (λ m. over_counts m.counts) refl (λ c s. refl) n (classes_of t) r.0 r.1 r.3 r.4 (λ j m h x. (r.5 j m h x).2) in
    (r.0, r.3.later, r.3.events, c.0, c.1, c.2, r.2, inside n t r.0 r.1 r.3, r.3.reads, c.3, c.4, count_crosses c.1 (sums c.0 nothing_counted) c.5 c.6)
