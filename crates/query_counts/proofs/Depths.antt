-- How many rows are open where a row gets its kind: one at an operation's, which was just begun, and two at a variable definition's.
-- Behind the kind of a variable definition and of a fragment stands a token. By a test of all productions, symbol by symbol.
use mathlib.Core.Path.{◌≡◌, refl, subst}
use mathlib.Core.Bool.{Bool, true, false, ◌&&◌, ◌||◌, not, cond}
use mathlib.Core.List.{List, [], ◌∷◌, ◌++◌, Memᴰ}
use Prim.Native.Nat.{ℕ, zero, suc, ◌+◌}
use native.Mathlib.Omega.{arith}
use lib.Dec.{T, eqb, eqb→eq, eqb_refl}
use Rattle.paper.specs.Grammar.{Sym, nt, tm, act, Ev, tok, mark, Derives, done, take, note as marks, by}
use Rattle.paper.specs.Numbers.{kind_operation, kind_fragment, kind_variable_definition}
use Rattle.paper.specs.Language.{Class, Terminal, hits, Mark, row, kind, named, wrapper, wrap, end, Part, language}
use Rattle.paper.specs.Language.{Document, Definition+, Definition*, Definition, OperationDefinition, OperationType, VariableDefinitions?, VariableDefinitions, VariableDefinition+, VariableDefinition*, VariableDefinition, SpreadRest}
use Rattle.paper.proofs.Bools.{and_l, and_r, and_i}
use Rattle.paper.proofs.Tables.{all_n, num_n, at_n}
use Rattle.paper_theory.proofs.Test.{all, all_at, all_mem, implies, implies_out}

abbrev Syms : Type 0
Syms = List (Sym Part Terminal Mark)

abbrev pub Evs : Type 0
Evs = List (Ev Class Mark)

abbrev is_among : List Part → Part → Bool
is_among [] n = false
is_among (m ∷ ms) n = eqb (num_n m) (num_n n) || is_among ms n

-- the parts that stand where no row is open, and where only an operation's is; the other parts but one stand anywhere
abbrev is_outer : Part → Bool
is_outer n = is_among (Document ∷ Definition+ ∷ Definition* ∷ Definition ∷ OperationDefinition ∷ OperationType ∷ []) n

abbrev is_inner : Part → Bool
is_inner n = is_among (VariableDefinitions? ∷ VariableDefinitions ∷ VariableDefinition+ ∷ VariableDefinition* ∷ VariableDefinition ∷ []) n

abbrev is_free : Part → Bool
is_free n = not (is_outer n || is_inner n)

abbrev is_usual : Part → Bool
is_usual n = not (is_among (SpreadRest ∷ []) n)

abbrev home : Part → ℕ
home n = cond (is_inner n) 1 0

-- how many rows a part leaves open
abbrev gain : Part → ℕ
gain n = cond (is_among (OperationType ∷ []) n) 1 0

-- a part where a rows are open; b: these are all that are
abbrev placed : Bool → Part → ℕ → Bool
placed b n a = is_usual n && (is_free n || (b && eqb a (home n)))

-- a kind where a rows are open; f: the innermost was just begun; t: a token follows
abbrev suits : Bool → Bool → ℕ → Bool → ℕ → Bool
suits b f a t k = implies (eqb k kind_operation) (b && (f && eqb a 1)) && (implies (eqb k kind_variable_definition) (b && (t && eqb a 2)) && implies (eqb k kind_fragment) t)

abbrev takes : Syms → Bool
takes [] = false
takes (nt n ∷ ss) = false
takes (tm p ∷ ss) = true
takes (act m ∷ ss) = false

-- from a open rows to e, each part and each kind in its place
abbrev fits : Bool → ℕ → Syms → Bool → ℕ → Bool
fits b e [] f a = eqb a e
fits b e (nt n ∷ ss) f a = placed b n a && fits b e ss false (a + gain n)
fits b e (tm p ∷ ss) f a = fits b e ss false a
fits b e (act row ∷ ss) f a = fits b e ss true (suc a)
fits b e (act (kind k x) ∷ ss) f a = suits b f a (takes ss) k && fits b e ss false a
fits b e (act named ∷ ss) f a = fits b e ss false a
fits b e (act wrapper ∷ ss) f a = fits b e ss false a
fits b e (act (wrap w) ∷ ss) f a = fits b e ss false a
fits b e (act end ∷ ss) f zero = false
fits b e (act end ∷ ss) f (suc a) = fits b e ss false a

-- the test of all productions
abbrev part_tested : Part → Bool
part_tested n = implies (is_usual n) (cond (is_free n) (all (λ α. fits false (gain n) α false 0) (language n)) (all (λ α. fits true (home n + gain n) α false (home n)) (language n)))

tested : T (all part_tested all_n)
unfolding language
tested = tt

implies_more : (c x y : Bool) → (T x → T y) → T (implies c x) → T (implies c y)
implies_more true x y g h = g h
implies_more false x y g h = tt

-- the same where more is known
suits_more : (b f : Bool) (a c : ℕ) (t u : Bool) (k : ℕ) → (T b → a ≡ c) → (T t → T u) → T (suits b f a t k) → T (suits true f c u k)
suits_more b f a c t u k g h s =
    and_i (implies (eqb k kind_operation) (f && eqb c 1)) (implies (eqb k kind_variable_definition) (u && eqb c 2) && implies (eqb k kind_fragment) u)
    (implies_more (eqb k kind_operation) (b && (f && eqb a 1)) (f && eqb c 1) one (and_l o v s))
    (and_i (implies (eqb k kind_variable_definition) (u && eqb c 2)) (implies (eqb k kind_fragment) u)
    (implies_more (eqb k kind_variable_definition) (b && (t && eqb a 2)) (u && eqb c 2) two (and_l w z (and_r o v s)))
    (implies_more (eqb k kind_fragment) t u h (and_r w z (and_r o v s))))
  where
    o : Bool
    o = implies (eqb k kind_operation) (b && (f && eqb a 1))

    w : Bool
    w = implies (eqb k kind_variable_definition) (b && (t && eqb a 2))

    z : Bool
    z = implies (eqb k kind_fragment) t

    v : Bool
    v = w && z

    one : T (b && (f && eqb a 1)) → T (f && eqb c 1)
    one r = subst (λ (x : ℕ). T (f && eqb x 1)) (g (and_l b (f && eqb a 1) r)) (and_r b (f && eqb a 1) r)

    two : T (b && (t && eqb a 2)) → T (u && eqb c 2)
    two r =
        let i = and_r b (t && eqb a 2) r in
        and_i u (eqb c 2) (h (and_l t (eqb a 2) i)) (subst (λ (x : ℕ). T (eqb x 2)) (g (and_l b (t && eqb a 2) r)) (and_r t (eqb a 2) i))

placed_more : (b : Bool) (n : Part) (a c : ℕ) → (T b → a ≡ c) → T (placed b n a) → T (placed true n c)
placed_more b n a c g h = and_i (is_usual n) (is_free n || eqb c (home n)) (and_l (is_usual n) (is_free n || (b && eqb a (home n))) h) (go (is_free n) (and_r (is_usual n) (is_free n || (b && eqb a (home n))) h))
  where
    go : (u : Bool) → T (u || (b && eqb a (home n))) → T (u || eqb c (home n))
    go true r = tt
    go false r = subst (λ (x : ℕ). T (eqb x (home n))) (g (and_l b (eqb a (home n)) r)) (and_r b (eqb a (home n)) r)

takes_append : (α ss : Syms) → T (takes α) → T (takes (α ++ ss))
takes_append [] ss h = absurd h
takes_append (nt n ∷ α) ss h = absurd h
takes_append (tm p ∷ α) ss h = tt
takes_append (act m ∷ α) ss h = absurd h

-- what fits where the innermost row is not just begun, fits where it is
suits_fresh : (o f c : Bool) → T (implies o false && c) → T (implies o f && c)
suits_fresh true f c h = absurd h
suits_fresh false f c h = h

fits_fresh : (e : ℕ) (ss : Syms) (f : Bool) (a : ℕ) → T (fits true e ss false a) → T (fits true e ss f a)
fits_fresh e [] f a h = h
fits_fresh e (nt n ∷ ss) f a h = h
fits_fresh e (tm p ∷ ss) f a h = h
fits_fresh e (act row ∷ ss) f a h = h
fits_fresh e (act (kind k x) ∷ ss) f a h =
    and_i (suits true f a (takes ss) k) (fits true e ss false a)
    (suits_fresh (eqb k kind_operation) (f && eqb a 1) (implies (eqb k kind_variable_definition) (takes ss && eqb a 2) && implies (eqb k kind_fragment) (takes ss)) (and_l (suits true false a (takes ss) k) (fits true e ss false a) h))
    (and_r (suits true false a (takes ss) k) (fits true e ss false a) h)
fits_fresh e (act named ∷ ss) f a h = h
fits_fresh e (act wrapper ∷ ss) f a h = h
fits_fresh e (act (wrap w) ∷ ss) f a h = h
fits_fresh e (act end ∷ ss) f zero h = h
fits_fresh e (act end ∷ ss) f (suc a) h = h

fits_same : (z : ℕ) (ss : Syms) (f : Bool) {a c : ℕ} → a ≡ c → T (fits true z ss f a) → T (fits true z ss f c)
fits_same z ss f q h = subst (λ (x : ℕ). T (fits true z ss f x)) q h

module _ (b : Bool) (e z c : ℕ) (g : T b → c ≡ 0) where
  up : (a : ℕ) → T b → a ≡ c + a
  up a t = let q = g t in omega arith

  -- symbols where c rows more are open, and others behind them
  fits_append : (α ss : Syms) (f : Bool) (a : ℕ) → T (fits b e α f a) → T (fits true z ss false (c + e)) → T (fits true z (α ++ ss) f (c + a))
  fits_append [] ss f a h k = let q = eqb→eq a e h in fits_same z ss f (omega arith) (fits_fresh z ss f (c + e) k)
  fits_append (nt n ∷ α) ss f a h k =
      and_i (placed true n (c + a)) (fits true z (α ++ ss) false (c + a + gain n))
      (placed_more b n a (c + a) (up a) (and_l (placed b n a) (fits b e α false (a + gain n)) h))
      (fits_same z (α ++ ss) false (let q : c + (a + gain n) ≡ c + a + gain n = omega arith in q) (fits_append α ss false (a + gain n) (and_r (placed b n a) (fits b e α false (a + gain n)) h) k))
  fits_append (tm p ∷ α) ss f a h k = fits_append α ss false a h k
  fits_append (act row ∷ α) ss f a h k = fits_same z (α ++ ss) true (let q : c + suc a ≡ suc (c + a) = omega arith in q) (fits_append α ss true (suc a) h k)
  fits_append (act (kind i x) ∷ α) ss f a h k =
      and_i (suits true f (c + a) (takes (α ++ ss)) i) (fits true z (α ++ ss) false (c + a))
      (suits_more b f a (c + a) (takes α) (takes (α ++ ss)) i (up a) (takes_append α ss) (and_l (suits b f a (takes α) i) (fits b e α false a) h))
      (fits_append α ss false a (and_r (suits b f a (takes α) i) (fits b e α false a) h) k)
  fits_append (act named ∷ α) ss f a h k = fits_append α ss false a h k
  fits_append (act wrapper ∷ α) ss f a h k = fits_append α ss false a h k
  fits_append (act (wrap w) ∷ α) ss f a h k = fits_append α ss false a h k
  fits_append (act end ∷ α) ss f zero h k = absurd h
  fits_append (act end ∷ α) ss f (suc a) h k =
      fits_same z (act end ∷ (α ++ ss)) f (let q : suc (c + a) ≡ c + suc a = omega arith in q) (fits_append α ss false a h k)

-- a part's production in its place
fits_by : (n : Part) (α ss : Syms) (z : ℕ) (f : Bool) (d : ℕ) → Memᴰ α (language n) → T (fits true z (nt n ∷ ss) f d) → T (fits true z (α ++ ss) f d)
fits_by n α ss z f d m h = fits_fresh z (α ++ ss) f d (go (is_free n) (implies_out (is_usual n) _ (all_at part_tested all_n (num_n n) tested (at_n n)) (and_l (is_usual n) (is_free n || eqb d (home n)) at)) (and_r (is_usual n) (is_free n || eqb d (home n)) at))
  where
    at : T (placed true n d)
    at = and_l (placed true n d) (fits true z ss false (d + gain n)) h

    later : T (fits true z ss false (d + gain n))
    later = and_r (placed true n d) (fits true z ss false (d + gain n)) h

    go : (u : Bool) → T (cond u (all (λ α. fits false (gain n) α false 0) (language n)) (all (λ α. fits true (home n + gain n) α false (home n)) (language n))) → T (u || eqb d (home n)) → T (fits true z (α ++ ss) false d)
    go true t p = fits_same z (α ++ ss) false (let q : d + 0 ≡ d = omega arith in q) (fits_append false (gain n) z d (λ x. absurd x) α ss false 0 (all_mem (λ β. fits false (gain n) β false 0) t m) later)
    go false t p =
        let q = eqb→eq d (home n) p in
        fits_same z (α ++ ss) false (let q : 0 + home n ≡ d = omega arith in q)
        (fits_append true (home n + gain n) z 0 (λ x. refl) α ss false (home n) (all_mem (λ β. fits true (home n + gain n) β false (home n)) t m) (fits_same z ss false (let q : d + gain n ≡ 0 + (home n + gain n) = omega arith in q) later))

-- OF EVENTS. The next one is a token
abbrev pub token : Evs → Bool
token [] = false
token (tok c ∷ es) = true
token (mark m ∷ es) = false

-- a kind where d rows are open
pub record Suits (f : Bool) (d : ℕ) (t : Bool) (k : ℕ) : Type 0 where
  pub operation : k ≡ kind_operation → T f × (d ≡ 1)
  pub definition : k ≡ kind_variable_definition → T t × (d ≡ 2)
  pub fragment : k ≡ kind_fragment → T t

-- each kind in its place, where d rows are open before; f: the innermost was just begun
unfoldable pub Deep : Evs → Bool → ℕ → Type 0
Deep [] f d = Unit {0}
Deep (tok c ∷ es) f d = Deep es false d
Deep (mark row ∷ es) f d = Deep es true (suc d)
Deep (mark (kind k x) ∷ es) f d = Suits f d (token es) k × Deep es false d
Deep (mark named ∷ es) f d = Deep es false d
Deep (mark wrapper ∷ es) f d = Deep es false d
Deep (mark (wrap w) ∷ es) f d = Deep es false d
Deep (mark end ∷ es) f zero = ⊥
Deep (mark end ∷ es) f (suc d) = Deep es false d

suits_out : (f : Bool) (d : ℕ) (t : Bool) (k : ℕ) → T (suits true f d t k) → Suits f d t k
suits_out f d t k h = record {
  operation = λ e. let r = implies_out (eqb k kind_operation) (f && eqb d 1) (and_l o v h) (same kind_operation e) in (and_l f (eqb d 1) r, eqb→eq d 1 (and_r f (eqb d 1) r));
  definition = λ e. let r = implies_out (eqb k kind_variable_definition) (t && eqb d 2) (and_l w z (and_r o v h)) (same kind_variable_definition e) in (and_l t (eqb d 2) r, eqb→eq d 2 (and_r t (eqb d 2) r));
  fragment = λ e. implies_out (eqb k kind_fragment) t (and_r w z (and_r o v h)) (same kind_fragment e);
}
  where
    o : Bool
    o = implies (eqb k kind_operation) (f && eqb d 1)

    w : Bool
    w = implies (eqb k kind_variable_definition) (t && eqb d 2)

    z : Bool
    z = implies (eqb k kind_fragment) t

    v : Bool
    v = w && z

    same : (j : ℕ) → k ≡ j → T (eqb k j)
    same j e = subst (λ (x : ℕ). T (eqb k x)) e (eqb_refl k)

takes_token : {ss : Syms} {es : Evs} → Derives language hits ss es → T (takes ss) → T (token es)
takes_token done h = absurd h
takes_token (take u v) h = tt
takes_token (marks v) h = absurd h
takes_token (by m v) h = absurd h

derives_deep : {ss : Syms} {es : Evs} → Derives language hits ss es → (f : Bool) (d : ℕ) → T (fits true 0 ss f d) → Deep es f d
unfolding Deep
derives_deep done f d h = tt
derives_deep (take u v) f d h = derives_deep v false d h
derives_deep (by {n} {α} {ss} m v) f d h = derives_deep v f d (fits_by n α ss 0 f d m h)
derives_deep (marks {a = row} v) f d h = derives_deep v true (suc d) h
derives_deep (marks {a = kind k x} {ss} {es} v) f d h = (
  suits_out f d (token es) k (suits_more true f d d (takes ss) (token es) k (λ t. refl) (takes_token v) (and_l (suits true f d (takes ss) k) (fits true 0 ss false d) h)),
  derives_deep v false d (and_r (suits true f d (takes ss) k) (fits true 0 ss false d) h),
)
derives_deep (marks {a = named} v) f d h = derives_deep v false d h
derives_deep (marks {a = wrapper} v) f d h = derives_deep v false d h
derives_deep (marks {a = wrap w} v) f d h = derives_deep v false d h
derives_deep (marks {a = end} v) f zero h = absurd h
derives_deep (marks {a = end} v) f (suc d) h = derives_deep v false d h

-- a document
pub document_deep : {es : Evs} → Derives language hits (nt Document ∷ []) es → Deep es false 0
document_deep v = derives_deep v false 0 tt
