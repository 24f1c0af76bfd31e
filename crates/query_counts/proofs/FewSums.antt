-- No count is over its size anywhere in a text without a fault, also between two tokens: the counts grow just before a token.
use mathlib.Core.Path.{◌≡◌, refl, sym, subst}
use mathlib.Core.Bool.{Bool, true, false, ◌||◌, cond}
use mathlib.Core.List.{List, [], ◌∷◌}
use Prim.Native.Nat.{ℕ, zero, suc, ◌<◌, ◌≤◌}
use native.Mathlib.Decide.{ℕ_discrete}
use native.Mathlib.Omega.{arith}
use borrow.Author.Tests.{ne_eqb}
use lib.Dec.{T, eqb, ltb, nltb→le, not_T}
use lib.ListN.{length, drop, take-append-drop}
use Rattle.paper.specs.Grammar.{tok, mark, toks}
use Rattle.paper.specs.Numbers.{most_fragments, most_variables, most_wrappers, kind_operation, kind_fragment, kind_variable_definition}
use Rattle.paper.specs.Language.{Class, Mark, Part, row, kind, named, wrapper, wrap, end}
use Rattle.paper.specs.Tokens.{Text}
use Rattle.paper.specs.Sizes.{Counts, Sums, nothing_counted, kinded, counted, sums, through, over_counts}
use Rattle.paper.specs.Reading.{classes_of, Reads, Fault, too_many}
use Rattle.paper.specs.declared.Refusal.{Refusal}
use Rattle.paper.proofs.Bools.{or_l, or_r}
use Rattle.query_counts.proofs.Depths.{Evs, token, Suits, Deep}

abbrev pub Few : Counts → Type 0
Few q = (q.fragments ≤ most_fragments) × (q.variables ≤ most_variables)

-- after each event
unfoldable pub AllFew : Evs → Sums → Type 0
AllFew [] s = Unit {0}
AllFew (e ∷ es) s = Few (counted e s).counts × AllFew es (counted e s)

-- just after each token
abbrev Within : Evs → Sums → Type 0
Within es s = (k : ℕ) → k < length (toks es) → T (over_counts (sums (through (suc k) es) s).counts) → ⊥

not_over : (q : Counts) → (T (over_counts q) → ⊥) → Few q
not_over q h =
    let a = ltb most_fragments q.fragments in
    let b = ltb most_variables q.variables in
    let c = ltb most_wrappers q.wrappers in (
      nltb→le most_fragments q.fragments (not_T a (λ t. h (or_l a (b || c) t))),
      nltb→le most_variables q.variables (not_T b (λ t. h (or_r a (b || c) (or_l b c t)))),
    )

within_token : (c : Class) (es : Evs) (s : Sums) → Within (tok c ∷ es) s → Within es (counted (tok c) s)
unfolding sums through toks
within_token c es s h k l t = h (suc k) (omega arith) t

within_mark : (m : Mark) (es : Evs) (s : Sums) → Within (mark m ∷ es) s → Within es (counted (mark m) s)
unfolding sums through toks
within_mark m es s h k l t = h k l t

-- before a token the counts are those after it
token_few : (es : Evs) (s : Sums) → T (token es) → Within es s → Few s.counts
unfolding sums through toks
token_few [] s t h = absurd t
token_few (tok c ∷ es) s t h = not_over s.counts (λ u. h 0 (omega arith) u)
token_few (mark m ∷ es) s t h = absurd t

kind_few : (k x : ℕ) (f : Bool) (d : ℕ) (es : Evs) (s : Sums) → Suits f d (token es) k → Within es (counted (mark (kind k x)) s) → Few s.counts → Few (kinded k s.counts)
kind_few k x f d es s u h w = go (ℕ_discrete k kind_variable_definition) (ℕ_discrete k kind_fragment)
  where
    go : Dec (k ≡ kind_variable_definition) → Dec (k ≡ kind_fragment) → Few (kinded k s.counts)
    go (yes e) z = token_few es (counted (mark (kind k x)) s) (u.definition e).0 h
    go (no e) (yes z) = token_few es (counted (mark (kind k x)) s) (u.fragment z) h
    go (no e) (no z) = rw (ne_eqb k kind_variable_definition e, ne_eqb k kind_fragment z) (w.0, less (eqb k kind_operation))
      where
        less : (b : Bool) → cond b 0 s.counts.variables ≤ most_variables
        less true = omega arith
        less false = w.1

all_few : (es : Evs) (f : Bool) (d : ℕ) (s : Sums) → Deep es f d → Within es s → Few s.counts → AllFew es s
unfolding Deep AllFew
all_few [] f d s p h w = tt
all_few (tok c ∷ es) f d s p h w = (w, all_few es false d (counted (tok c) s) p (within_token c es s h) w)
all_few (mark row ∷ es) f d s p h w = (w, all_few es true (suc d) (counted (mark row) s) p (within_mark row es s h) w)
all_few (mark (kind k x) ∷ es) f d s p h w =
    let g = within_mark (kind k x) es s h in
    let v = kind_few k x f d es s p.0 g w in
    (v, all_few es false d (counted (mark (kind k x)) s) p.1 g v)
all_few (mark named ∷ es) f d s p h w = (w, all_few es false d (counted (mark named) s) p (within_mark named es s h) w)
all_few (mark wrapper ∷ es) f d s p h w = (w, all_few es false d (counted (mark wrapper) s) p (within_mark wrapper es s h) w)
all_few (mark (wrap x) ∷ es) f d s p h w = (w, all_few es false d (counted (mark (wrap x)) s) p (within_mark (wrap x) es s h) w)
all_few (mark end ∷ es) f zero s p h w = absurd p
all_few (mark end ∷ es) f (suc d) s p h w = (w, all_few es false d (counted (mark end) s) p (within_mark end es s h) w)

-- so in a text that has no fault
pub no_fault_few : (n : Part) (t : Text) (es : Evs) → Reads n (classes_of t) es → ((r : Refusal) → Fault n t r → ⊥) → Deep es false 0 → AllFew es nothing_counted
no_fault_few n t es r c p = all_few es false 0 nothing_counted p within (omega arith, omega arith)
  where
    within : Within es nothing_counted
    within k l u = c _ (too_many k (record {
      inside = subst (λ (z : List Class). k < length z) r.1 l;
      later = drop (suc k) (classes_of t);
      events = es;
      reads = subst (λ (z : List Class). Reads n z es) (sym (take-append-drop (suc k) (classes_of t))) r;
      are = refl;
    }) u)
