-- What every derivation of the grammar has: a mark that looks at the next token has one, and no level is closed that was not opened.
use mathlib.Core.Path.{◌≡◌, refl, sym, ap, ◌∙◌, subst}
use mathlib.Core.Bool.{Bool, true, false, ◌&&◌, not, cond}
use mathlib.Core.List.{List, [], ◌∷◌, ◌++◌, Memᴰ, cons≢nil}
use mathlib.Core.Option.{some}
use Prim.Native.Nat.{ℕ, ◌+◌, ◌-◌, ◌≤◌}
use native.Mathlib.Nat.{zero-add}
use native.Mathlib.Omega.{arith}
use lib.Dec.{T, eqb, eqb→eq, leb, leb→le, le→leb}
use lib.ListN.{get_elem?}
use Rattle.paper.specs.Grammar.{Sym, nt, tm, act, Ev, tok, mark, toks, Derives, done, take, note, by}
use Rattle.paper.specs.Language.{Class, Terminal, hits, the, any_name, name_but_on, name_but_literal, num_c, same_c, one_of, is_name_class, Mark, Part, language}
use Rattle.paper.specs.Language.{bang, dollar, paren_l, paren_r, spread, colon, equals, at_sign, bracket_l, bracket_r, brace_l, bar, brace_r, n_query, n_mutation, n_subscription, n_fragment, n_on, n_true, n_false, n_null, n_other, int, float, string}
use Rattle.paper.specs.Sizes.{opens_level, closes_level, leveled}
use Rattle.paper.proofs.Machine.{nul}
use Rattle.paper.proofs.Bools.{and_l, and_r}
use Rattle.paper_theory.proofs.Theory.{derives_null}
use Rattle.paper_theory.proofs.Test.{all, all_at, all_mem, implies, implies_out}
use Rattle.paper.proofs.Tables.{graphql, factored, all_n, num_n, at_n, all_c, at_c}
use Rattle.paper_theory.proofs.Checked.{fits}
use Rattle.paper_theory.proofs.GoingRows.{loud, Quiet}

abbrev Syms : Type 0
Syms = List (Sym Part Terminal Mark)

abbrev Evs : Type 0
Evs = List (Ev Class Mark)

-- of a stack: what looks at a token stands before something that cannot be nothing
abbrev calm : Syms → Bool
calm [] = true
calm (nt n ∷ ss) = calm ss
calm (tm p ∷ ss) = calm ss
calm (act a ∷ ss) = implies (loud a) (not (nul graphql ss)) && calm ss

abbrev all_calm : Bool
all_calm = all (λ n. all (λ α. calm α) (factored n)) all_n

calm_tested : T all_calm
unfolding factored language
calm_tested = tt

calm_part : (n : Part) {α : Syms} → Memᴰ α (factored n) → T (calm α)
calm_part n m = all_mem (λ β. calm β) (all_at (λ n. all (λ α. calm α) (factored n)) all_n (num_n n) calm_tested (at_n n)) m

and_in : (a b : Bool) → T a → T b → T (a && b)
and_in true b s t = t
and_in false b s t = absurd s

nul_front : (α ss : Syms) → T (nul graphql (α ++ ss)) → T (nul graphql α)
nul_front [] ss h = tt
nul_front (nt n ∷ α) ss h = and_in (graphql.null n) (nul graphql α) (and_l (graphql.null n) (nul graphql (α ++ ss)) h) (nul_front α ss (and_r (graphql.null n) (nul graphql (α ++ ss)) h))
nul_front (tm p ∷ α) ss h = h
nul_front (act a ∷ α) ss h = nul_front α ss h

calm_append : (α ss : Syms) → T (calm α) → T (calm ss) → T (calm (α ++ ss))
calm_append [] ss h k = k
calm_append (nt n ∷ α) ss h k = calm_append α ss h k
calm_append (tm p ∷ α) ss h k = calm_append α ss h k
calm_append (act a ∷ α) ss h k =
    and_in (implies (loud a) (not (nul graphql (α ++ ss)))) (calm (α ++ ss))
    (go (loud a) (nul graphql α) (nul graphql (α ++ ss)) (nul_front α ss) (and_l (implies (loud a) (not (nul graphql α))) (calm α) h))
    (calm_append α ss (and_r (implies (loud a) (not (nul graphql α))) (calm α) h) k)
  where
    go : (a b c : Bool) → (T c → T b) → T (implies a (not b)) → T (implies a (not c))
    go false b c f i = tt
    go true b false f i = tt
    go true true true f i = i
    go true false true f i = f tt

-- of events: after each mark that looks at the next token there is one
unfoldable pub Sober : Evs → Type 0
Sober [] = Unit {0}
Sober (tok c ∷ es) = Sober es
Sober (mark m ∷ es) = (T (loud m) → toks es ≡ [] → ⊥) × Sober es

derives_calm : {ss : Syms} {es : Evs} → Derives factored hits ss es → T (calm ss) → Sober es
unfolding Sober
derives_calm done h = tt
derives_calm (take h d) k = derives_calm d k
derives_calm (note {a} {ss} {es} d) k = (λ l e. go (loud a) (nul graphql ss) (and_l (implies (loud a) (not (nul graphql ss))) (calm ss) k) l (derives_null fits d e), derives_calm d (and_r (implies (loud a) (not (nul graphql ss))) (calm ss) k))
  where
    go : (a b : Bool) → T (implies a (not b)) → T a → T b → ⊥
    go true true i p q = i
    go true false i p q = q
    go false b i p q = p
derives_calm (by {n} {α} {ss} m d) k = derives_calm d (calm_append α ss (calm_part n m) k)

pub derives_sober : {n : Part} {es : Evs} → Derives factored hits (nt n ∷ []) es → Sober es
derives_sober d = derives_calm d tt

pub sober_later : (fs gs : Evs) → Sober (fs ++ gs) → Sober gs
unfolding Sober
sober_later [] gs h = h
sober_later (tok c ∷ fs) gs h = sober_later fs gs h
sober_later (mark m ∷ fs) gs h = sober_later fs gs h.1

pub sober_quiet : (es : Evs) → Sober es → toks es ≡ [] → Quiet es
unfolding Sober Quiet toks
sober_quiet [] h e = tt
sober_quiet (tok c ∷ es) h e = cons≢nil e
sober_quiet (mark m ∷ es) h e = (λ l. h.0 l e, sober_quiet es h.1 e)

-- LEVELS
-- of events, where l levels are open before: what is closed was open
unfoldable pub Level : ℕ → Evs → Type 0
Level l [] = Unit {0}
Level l (tok c ∷ es) = (T (closes_level c) → 1 ≤ l) × Level (leveled c l) es
Level l (mark m ∷ es) = Level l es

abbrev opening : Terminal → Bool
opening (the c) = opens_level c
opening any_name = false
opening name_but_on = false
opening name_but_literal = false

abbrev closing : Terminal → Bool
closing (the c) = closes_level c
closing any_name = false
closing name_but_on = false
closing name_but_literal = false

abbrev moved : Terminal → ℕ → ℕ
moved p l = cond (opening p) (l + 1) (cond (closing p) (l - 1) l)

-- of a stack
abbrev nested : ℕ → Syms → Bool
nested l [] = eqb l 0
nested l (nt n ∷ ss) = nested l ss
nested l (act a ∷ ss) = nested l ss
nested l (tm p ∷ ss) = implies (closing p) (leb 1 l) && nested (moved p l) ss

abbrev all_nested : Bool
all_nested = all (λ n. all (λ α. nested 0 α) (factored n)) all_n

nested_tested : T all_nested
unfolding factored language
nested_tested = tt

nested_part : (n : Part) {α : Syms} → Memᴰ α (factored n) → T (nested 0 α)
nested_part n m = all_mem (λ β. nested 0 β) (all_at (λ n. all (λ α. nested 0 α) (factored n)) all_n (num_n n) nested_tested (at_n n)) m

nested_append : (k l : ℕ) (α ss : Syms) → T (nested k α) → T (nested l ss) → T (nested (k + l) (α ++ ss))
nested_append k l [] ss h i = let e = eqb→eq k 0 h in let z : k + l ≡ l = omega arith in rw z i
nested_append k l (nt n ∷ α) ss h i = nested_append k l α ss h i
nested_append k l (act a ∷ α) ss h i = nested_append k l α ss h i
nested_append k l (tm p ∷ α) ss h i =
    let a = and_l (implies (closing p) (leb 1 k)) (nested (moved p k) α) h in
    let b = nested_append (moved p k) l α ss (and_r (implies (closing p) (leb 1 k)) (nested (moved p k) α) h) i in
    and_in (implies (closing p) (leb 1 (k + l))) (nested (moved p (k + l)) (α ++ ss)) (more (closing p) a) (subst (λ (z : ℕ). T (nested z (α ++ ss))) (same (opening p) (closing p) a) b)
  where
    more : (c : Bool) → T (implies c (leb 1 k)) → T (implies c (leb 1 (k + l)))
    more true t = let u = leb→le 1 k t in le→leb 1 (k + l) (omega arith)
    more false t = tt

    same : (o c : Bool) → T (implies c (leb 1 k)) → cond o (k + 1) (cond c (k - 1) k) + l ≡ cond o (k + l + 1) (cond c (k + l - 1) (k + l))
    same true c t = omega arith
    same false true t = let u = leb→le 1 k t in omega arith
    same false false t = refl

-- a terminal opens and closes as the tokens that it hits
name_plain : (c : Class) → T (is_name_class c) → (opens_level c ≡ false) × (closes_level c ≡ false)
name_plain bang h = absurd h
name_plain dollar h = absurd h
name_plain paren_l h = absurd h
name_plain paren_r h = absurd h
name_plain spread h = absurd h
name_plain colon h = absurd h
name_plain equals h = absurd h
name_plain at_sign h = absurd h
name_plain bracket_l h = absurd h
name_plain bracket_r h = absurd h
name_plain brace_l h = absurd h
name_plain bar h = absurd h
name_plain brace_r h = absurd h
name_plain n_query h = (refl, refl)
name_plain n_mutation h = (refl, refl)
name_plain n_subscription h = (refl, refl)
name_plain n_fragment h = (refl, refl)
name_plain n_on h = (refl, refl)
name_plain n_true h = (refl, refl)
name_plain n_false h = (refl, refl)
name_plain n_null h = (refl, refl)
name_plain n_other h = (refl, refl)
name_plain int h = absurd h
name_plain float h = absurd h
name_plain string h = absurd h

same_class : (c d : Class) → T (same_c c d) → c ≡ d
same_class c d h =
    let e : some c ≡ some d = sym (at_c c) ∙ ap (λ (z : ℕ). get_elem? all_c z) (eqb→eq (num_c c) (num_c d) h) ∙ at_c d in
    cc

hit_plain : (p : Terminal) (c : Class) → T (hits p c) → (opens_level c ≡ opening p) × (closes_level c ≡ closing p)
hit_plain (the d) c h = let e = same_class d c h in (ap opens_level (sym e), ap closes_level (sym e))
hit_plain any_name c h = name_plain c h
hit_plain name_but_on c h = name_plain c (and_l (is_name_class c) (not (same_c n_on c)) h)
hit_plain name_but_literal c h = name_plain c (and_l (is_name_class c) (not (one_of (n_true ∷ n_false ∷ n_null ∷ []) c)) h)

derives_nested : {ss : Syms} {es : Evs} → Derives factored hits ss es → (l : ℕ) → T (nested l ss) → Level l es
unfolding Level
derives_nested done l h = tt
derives_nested (take {p} {c} {ss} {es} h d) l k =
    let e = hit_plain p c h in
    let a = and_l (implies (closing p) (leb 1 l)) (nested (moved p l) ss) k in
    let b = and_r (implies (closing p) (leb 1 l)) (nested (moved p l) ss) k in
    (λ t. leb→le 1 l (implies_out (closing p) (leb 1 l) a (subst T e.1 t)), rw (e.0, e.1) (derives_nested d (moved p l) b))
derives_nested (note d) l k = derives_nested d l k
derives_nested (by {n} {α} {ss} m d) l k = derives_nested d l (rw zero-add at (nested_append 0 l α ss (nested_part n m) k))

pub derives_level : {n : Part} {es : Evs} → Derives factored hits (nt n ∷ []) es → Level 0 es
derives_level d = derives_nested d 0 tt

-- marks, a token, and what is left
pub level_step : (ms gs : Evs) (c : Class) (l : ℕ) → toks ms ≡ [] → Level l ((ms ++ (tok c ∷ [])) ++ gs) → (T (closes_level c) → 1 ≤ l) × Level (leveled c l) gs
unfolding toks Level
level_step [] gs c l e h = h
level_step (tok d ∷ ms) gs c l e h = absurd (cons≢nil e)
level_step (mark m ∷ ms) gs c l e h = level_step ms gs c l e h
