-- What is known of the innermost open row while a text is derived, symbol by symbol: whether it has a kind and a token yet.
-- The test of all productions shows that each row gets its kind once and holds a token, and that a number's and a string's is one token.
use mathlib.Core.Path.{◌≡◌, refl, sym, ap, ◌∙◌, subst}
use mathlib.Core.Bool.{Bool, true, false, ◌&&◌, ◌||◌, not, cond}
use mathlib.Core.List.{List, [], ◌∷◌, ◌++◌, Memᴰ}
use Prim.Native.Nat.{ℕ, zero, suc, ◌+◌}
use native.Mathlib.Nat.{add-zero}
use native.Mathlib.Omega.{arith}
use lib.Dec.{T, eqb, leb, eqb→eq}
use Rattle.paper.specs.Grammar.{Sym, nt, tm, act}
use Rattle.paper.specs.Numbers.{kind_integer, kind_float, kind_string}
use Rattle.paper.specs.Language.{Class, same_c, int, float, string, Terminal, the, any_name, name_but_on, name_but_literal, Mark, row, kind, named, wrapper, wrap, end, Part, language}
use Rattle.paper.specs.Language.{OperationType, SelectionSet, Alias?, Alias, ListValue, ObjectValue, ConstListValue, ConstObjectValue, EnumValue, TypeRef, NamedType, ListType, NonNullType, Name, SpreadRest}
use Rattle.paper.proofs.Bools.{and_l, and_r, and_i}
use Rattle.paper.proofs.Tables.{all_n, num_n, at_n}
use Rattle.paper_theory.proofs.Test.{all, all_at, all_mem, implies, implies_out}

abbrev pub Syms : Type 0
Syms = List (Sym Part Terminal Mark)

-- a number or a string, and the class of its one token
abbrev pub is_literal : ℕ → Bool
is_literal k = leb kind_integer k && leb k kind_string

abbrev pub literal_class : ℕ → Class
literal_class k = cond (eqb k kind_integer) int (cond (eqb k kind_float) float string)

-- The innermost open row: every open row holds a token; it was just begun; it has a token and no kind; a kind and no token; the kind
-- of a number or string and no token; and then its token.
pub data Phase : Type 0 where
  settled fresh bare waiting wrong : Phase
  literal spelt : ℕ → Phase

abbrev pub is_among : List Part → Part → Bool
is_among [] n = false
is_among (m ∷ ms) n = eqb (num_n m) (num_n n) || is_among ms n

-- the parts that begin with a token
abbrev starts : Part → Bool
starts n = is_among (SelectionSet ∷ Alias ∷ ListValue ∷ ObjectValue ∷ ConstListValue ∷ ConstObjectValue ∷ EnumValue ∷ TypeRef ∷ NamedType ∷ ListType ∷ NonNullType ∷ Name ∷ []) n

abbrev of_part : Part → Phase → Phase
of_part n settled = cond (is_among (SpreadRest ∷ []) n) wrong settled
of_part n fresh = wrong
of_part n bare = wrong
of_part n waiting = cond (is_among (SpreadRest ∷ []) n) wrong (cond (starts n) settled (cond (is_among (Alias? ∷ []) n) waiting wrong))
of_part n wrong = wrong
of_part n (literal k) = wrong
of_part n (spelt k) = wrong

abbrev pub is_the : Class → Terminal → Bool
is_the c (the d) = same_c c d
is_the c any_name = false
is_the c name_but_on = false
is_the c name_but_literal = false

abbrev pub of_token : Terminal → Phase → Phase
of_token p settled = settled
of_token p fresh = bare
of_token p bare = wrong
of_token p waiting = settled
of_token p wrong = wrong
of_token p (literal k) = cond (is_the (literal_class k) p) (spelt k) wrong
of_token p (spelt k) = wrong

abbrev pub of_mark : Mark → Phase → Phase
of_mark row settled = fresh
of_mark row fresh = wrong
of_mark row bare = wrong
of_mark row waiting = wrong
of_mark row wrong = wrong
of_mark row (literal k) = wrong
of_mark row (spelt k) = wrong
of_mark (kind k x) settled = wrong
of_mark (kind k x) fresh = cond (is_literal k) (literal k) waiting
of_mark (kind k x) bare = cond (is_literal k) wrong settled
of_mark (kind k x) waiting = wrong
of_mark (kind k x) wrong = wrong
of_mark (kind k x) (literal j) = wrong
of_mark (kind k x) (spelt j) = wrong
of_mark named settled = settled
of_mark named fresh = wrong
of_mark named bare = wrong
of_mark named waiting = waiting
of_mark named wrong = wrong
of_mark named (literal k) = wrong
of_mark named (spelt k) = wrong
of_mark wrapper settled = settled
of_mark wrapper fresh = wrong
of_mark wrapper bare = wrong
of_mark wrapper waiting = waiting
of_mark wrapper wrong = wrong
of_mark wrapper (literal k) = wrong
of_mark wrapper (spelt k) = wrong
of_mark (wrap w) settled = settled
of_mark (wrap w) fresh = wrong
of_mark (wrap w) bare = wrong
of_mark (wrap w) waiting = wrong
of_mark (wrap w) wrong = wrong
of_mark (wrap w) (literal k) = wrong
of_mark (wrap w) (spelt k) = wrong
of_mark end settled = settled
of_mark end fresh = wrong
of_mark end bare = wrong
of_mark end waiting = wrong
of_mark end wrong = wrong
of_mark end (literal k) = wrong
of_mark end (spelt k) = settled

abbrev pub step : Sym Part Terminal Mark → Phase → Phase
step (nt n) φ = of_part n φ
step (tm p) φ = of_token p φ
step (act m) φ = of_mark m φ

abbrev pub run : Syms → Phase → Phase
run [] φ = φ
run (x ∷ ss) φ = run ss (step x φ)

abbrev pub is_settled : Phase → Bool
is_settled settled = true
is_settled fresh = false
is_settled bare = false
is_settled waiting = false
is_settled wrong = false
is_settled (literal k) = false
is_settled (spelt k) = false

-- it has no kind yet
abbrev pub is_new : Phase → Bool
is_new settled = false
is_new fresh = true
is_new bare = true
is_new waiting = false
is_new wrong = false
is_new (literal k) = false
is_new (spelt k) = false

pub settled_is : (φ : Phase) → T (is_settled φ) → φ ≡ settled
settled_is settled t = refl
settled_is fresh t = absurd t
settled_is bare t = absurd t
settled_is waiting t = absurd t
settled_is wrong t = absurd t
settled_is (literal k) t = absurd t
settled_is (spelt k) t = absurd t

-- what goes on from the second goes on from the first
data Leq : Phase → Phase → Type 0 where
  same : {φ : Phase} → Leq φ φ
  sooner : Leq settled waiting
  never : {φ : Phase} → Leq φ wrong

step_wrong : (x : Sym Part Terminal Mark) → step x wrong ≡ wrong
step_wrong (nt n) = refl
step_wrong (tm p) = refl
step_wrong (act row) = refl
step_wrong (act (kind k x)) = refl
step_wrong (act named) = refl
step_wrong (act wrapper) = refl
step_wrong (act (wrap w)) = refl
step_wrong (act end) = refl

sooner_part : (a b c : Bool) → Leq (cond a wrong settled) (cond a wrong (cond b settled (cond c waiting wrong)))
sooner_part true b c = same
sooner_part false true c = same
sooner_part false false true = sooner
sooner_part false false false = never

sooner_step : (x : Sym Part Terminal Mark) → Leq (step x settled) (step x waiting)
sooner_step (nt n) = sooner_part (is_among (SpreadRest ∷ []) n) (starts n) (is_among (Alias? ∷ []) n)
sooner_step (tm p) = same
sooner_step (act row) = never
sooner_step (act (kind k x)) = same
sooner_step (act named) = sooner
sooner_step (act wrapper) = sooner
sooner_step (act (wrap w)) = never
sooner_step (act end) = never

step_mono : (x : Sym Part Terminal Mark) {φ ψ : Phase} → Leq φ ψ → Leq (step x φ) (step x ψ)
step_mono x same = same
step_mono x sooner = sooner_step x
step_mono x (never {φ}) = subst (λ (ψ : Phase). Leq (step x φ) ψ) (sym (step_wrong x)) never

run_mono : (ss : Syms) {φ ψ : Phase} → Leq φ ψ → Leq (run ss φ) (run ss ψ)
run_mono [] l = l
run_mono (x ∷ ss) l = run_mono ss (step_mono x l)

run_append : (α ss : Syms) (φ : Phase) → run (α ++ ss) φ ≡ run ss (run α φ)
run_append [] ss φ = refl
run_append (x ∷ α) ss φ = run_append α ss (step x φ)

leq_settled : {φ ψ : Phase} → Leq φ ψ → T (is_settled ψ) → T (is_settled φ)
leq_settled same t = t
leq_settled sooner t = absurd t
leq_settled never t = absurd t

-- the order as a test, below what a part leaves
abbrev leq : Phase → Phase → Bool
leq φ settled = is_settled φ
leq φ fresh = false
leq φ bare = false
leq φ waiting = is_settled φ || is_waiting φ
  where
    is_waiting : Phase → Bool
    is_waiting settled = false
    is_waiting fresh = false
    is_waiting bare = false
    is_waiting waiting = true
    is_waiting wrong = false
    is_waiting (literal k) = false
    is_waiting (spelt k) = false
leq φ wrong = true
leq φ (literal k) = false
leq φ (spelt k) = false

leq_is : (φ ψ : Phase) → T (leq φ ψ) → Leq φ ψ
leq_is φ settled t = rw (settled_is φ t) same
leq_is φ fresh t = absurd t
leq_is φ bare t = absurd t
leq_is settled waiting t = sooner
leq_is fresh waiting t = absurd t
leq_is bare waiting t = absurd t
leq_is waiting waiting t = same
leq_is wrong waiting t = absurd t
leq_is (literal k) waiting t = absurd t
leq_is (spelt k) waiting t = absurd t
leq_is φ wrong t = never
leq_is φ (literal k) t = absurd t
leq_is φ (spelt k) t = absurd t

-- the test of all productions
abbrev part_tested : Part → Bool
part_tested n = all (λ α. leq (run α settled) (of_part n settled) && leq (run α waiting) (of_part n waiting)) (language n)

tested : T (all part_tested all_n)
unfolding language
tested = tt

part_tested_is : (n : Part) {α : Syms} → Memᴰ α (language n) → T (leq (run α settled) (of_part n settled) && leq (run α waiting) (of_part n waiting))
part_tested_is n m = all_mem (λ α. leq (run α settled) (of_part n settled) && leq (run α waiting) (of_part n waiting)) (all_at part_tested all_n (num_n n) tested (at_n n)) m

run_wrong : (ss : Syms) → run ss wrong ≡ wrong
run_wrong [] = refl
run_wrong (x ∷ ss) = ap (run ss) (step_wrong x) ∙ run_wrong ss

pub not_wrong : (ss : Syms) → T (is_settled (run ss wrong)) → ⊥
not_wrong ss t = subst (λ (φ : Phase). T (is_settled φ)) (run_wrong ss) t

goes_on : (α ss : Syms) (φ ψ : Phase) → Leq (run α φ) ψ → T (is_settled (run ss ψ)) → T (is_settled (run (α ++ ss) φ))
goes_on α ss φ ψ l t = rw (run_append α ss φ) (leq_settled (run_mono ss l) t)

-- a part's production in its place
pub run_by : (n : Part) (α ss : Syms) (φ : Phase) → Memᴰ α (language n) → T (is_settled (run (nt n ∷ ss) φ)) → T (is_settled (run (α ++ ss) φ))
run_by n α ss settled m t =
    goes_on α ss settled (of_part n settled)
    (leq_is (run α settled) (of_part n settled) (and_l (leq (run α settled) (of_part n settled)) (leq (run α waiting) (of_part n waiting)) (part_tested_is n m))) t
run_by n α ss fresh m t = absurd (not_wrong ss t)
run_by n α ss bare m t = absurd (not_wrong ss t)
run_by n α ss waiting m t =
    goes_on α ss waiting (of_part n waiting)
    (leq_is (run α waiting) (of_part n waiting) (and_r (leq (run α settled) (of_part n settled)) (leq (run α waiting) (of_part n waiting)) (part_tested_is n m))) t
run_by n α ss wrong m t = absurd (not_wrong ss t)
run_by n α ss (literal k) m t = absurd (not_wrong ss t)
run_by n α ss (spelt k) m t = absurd (not_wrong ss t)

-- how many rows a part leaves open
abbrev gain : Part → ℕ
gain n = cond (is_among (OperationType ∷ []) n) 1 0

-- from some open rows to e, and no end where none is open
abbrev pub ends : ℕ → Syms → ℕ → Bool
ends e [] a = eqb a e
ends e (nt n ∷ ss) a = not (is_among (SpreadRest ∷ []) n) && ends e ss (a + gain n)
ends e (tm p ∷ ss) a = ends e ss a
ends e (act row ∷ ss) a = ends e ss (suc a)
ends e (act (kind k x) ∷ ss) a = ends e ss a
ends e (act named ∷ ss) a = ends e ss a
ends e (act wrapper ∷ ss) a = ends e ss a
ends e (act (wrap w) ∷ ss) a = ends e ss a
ends e (act end ∷ ss) zero = false
ends e (act end ∷ ss) (suc a) = ends e ss a

ends_same : (z : ℕ) (ss : Syms) {a b : ℕ} → a ≡ b → T (ends z ss a) → T (ends z ss b)
ends_same z ss q t = subst (λ (x : ℕ). T (ends z ss x)) q t

ends_append : (e z d : ℕ) (α ss : Syms) (a : ℕ) → T (ends e α a) → T (ends z ss (d + e)) → T (ends z (α ++ ss) (d + a))
ends_append e z d [] ss a h k = let q = eqb→eq a e h in ends_same z ss (omega arith) k
ends_append e z d (nt n ∷ α) ss a h k =
    let u = not (is_among (SpreadRest ∷ []) n) in
    and_i u (ends z (α ++ ss) (d + a + gain n)) (and_l u (ends e α (a + gain n)) h)
    (ends_same z (α ++ ss) (let q : d + (a + gain n) ≡ d + a + gain n = omega arith in q) (ends_append e z d α ss (a + gain n) (and_r u (ends e α (a + gain n)) h) k))
ends_append e z d (tm p ∷ α) ss a h k = ends_append e z d α ss a h k
ends_append e z d (act row ∷ α) ss a h k = ends_same z (α ++ ss) (let q : d + suc a ≡ suc (d + a) = omega arith in q) (ends_append e z d α ss (suc a) h k)
ends_append e z d (act (kind k x) ∷ α) ss a h i = ends_append e z d α ss a h i
ends_append e z d (act named ∷ α) ss a h k = ends_append e z d α ss a h k
ends_append e z d (act wrapper ∷ α) ss a h k = ends_append e z d α ss a h k
ends_append e z d (act (wrap w) ∷ α) ss a h k = ends_append e z d α ss a h k
ends_append e z d (act end ∷ α) ss zero h k = absurd h
ends_append e z d (act end ∷ α) ss (suc a) h k =
    ends_same z (act end ∷ (α ++ ss)) (let q : suc (d + a) ≡ d + suc a = omega arith in q) (ends_append e z d α ss a h k)

ends_tested : Part → Bool
ends_tested n = implies (not (is_among (SpreadRest ∷ []) n)) (all (λ α. ends (gain n) α 0) (language n))

ends_tested_is : T (all ends_tested all_n)
unfolding language ends_tested
ends_tested_is = tt

pub ends_by : (n : Part) (α ss : Syms) (z d : ℕ) → Memᴰ α (language n) → T (ends z (nt n ∷ ss) d) → T (ends z (α ++ ss) d)
unfolding ends_tested
ends_by n α ss z d m h =
    let u = not (is_among (SpreadRest ∷ []) n) in
    let t = implies_out u (all (λ β. ends (gain n) β 0) (language n)) (all_at ends_tested all_n (num_n n) ends_tested_is (at_n n)) (and_l u (ends z ss (d + gain n)) h) in
    rw add-zero at (ends_append (gain n) z d α ss 0 (all_mem (λ β. ends (gain n) β 0) t m) (and_r u (ends z ss (d + gain n)) h))
