-- The faults of a text, told step by step of the machine: they are those of `Reading`.
use mathlib.Core.Path.{◌≡◌, refl, sym, ap, ◌∙◌, subst}
use mathlib.Core.List.{List, [], ◌∷◌}
use mathlib.Core.Logic.{◌⊎◌, inl, inr}
use mathlib.Core.Option.{none, some}
use Prim.Native.Nat.{ℕ, zero, suc, ◌≤◌, ◌<◌}
use native.Mathlib.Nat.{not-suc-le-zero, le_refl}
use native.Mathlib.Omega.{arith}
use lib.Dec.{T}
use lib.ListN.{length, length-map}
use Rattle.paper.specs.Grammar.{nt, Ev}
use Rattle.paper.specs.Language.{Class, Terminal, Mark, Part}
use Rattle.paper.specs.Tokens.{Tok, Text, at_end, bad, token}
use Rattle.paper.specs.Sizes.{Sums, nothing_counted, sums, over_levels, over_rows, over_counts}
use Rattle.paper.specs.Reading.{tokens_of, classes_of, place_of, EndsWell, ends_well_here, ends_well_later, BadAt, bad_here, bad_later, Summed, Fault, no_token, no_going, no_end, too_deep, too_many_rows, too_many, offset_of}
use Rattle.paper.specs.declared.Refusal.{Refusal}
use Rattle.paper.specs.declared.Refusal.TheVariants.{NoToken, NoGoing, TooDeep, TooManyRows, TooMany}
use Rattle.paper.proofs.Machine.{Step, took, emptied, refused, spent, Answer, accepted, stopped, step, run, ended, went, ◌▹◌}
use Rattle.paper_theory.proofs.Theory.{Kept, kept_step, accepted≢stopped, took≢emptied, took≢refused, took≢spent, refused≢emptied, spent≢emptied}
use Rattle.paper.proofs.Tables.{graphql}
use Rattle.paper_theory.proofs.Checked.{fits, follow}
use Rattle.paper_theory.proofs.SameLanguage.{language→factored, factored→language}
use Rattle.paper_theory.proofs.ReadingLaws.{stops, stops_only}
use Rattle.paper.proofs.Going.{Stack}
use Rattle.paper_theory.proofs.GoingSums.{SummedBy, summed_here, summed_later, summed_first, summed_next}

abbrev Evs : Type 0
Evs = List (Ev Class Mark)

abbrev Steps : Type 0
Steps = Step Part Terminal Class Mark

abbrev pub NotTook : Steps → Type 0
NotTook r = (fs : Evs) (σ : Stack) → r ≡ took fs σ → ⊥

abbrev pub NotEmptied : Steps → Type 0
NotEmptied r = (fs : Evs) → r ≡ emptied fs → ⊥

-- what is wrong with a text where the stack σ is expected and the sums are m
pub data Flaw : Sums → Stack → Text → Refusal → Type 0 where
  stray : {m : Sums} {σ : Stack} {t : Text} {at : ℕ} → BadAt at t → Flaw m σ t (NoToken at)
  short : {m : Sums} {σ : Stack} {n : ℕ} → NotEmptied (step graphql σ none) → Flaw m σ (at_end n) (NoGoing n)
  unfit : {m : Sums} {σ : Stack} {k : Tok} {t : Text} → NotTook (step graphql σ (some k.class)) → Flaw m σ (token k t) (NoGoing k.start)
  deeper : {m : Sums} {σ : Stack} {k : Tok} {t : Text} (fs : Evs) (σ' : Stack) → step graphql σ (some k.class) ≡ took fs σ' → T (over_levels (sums fs m)) → Flaw m σ (token k t) (TooDeep k.start)
  rowed : {m : Sums} {σ : Stack} {k : Tok} {t : Text} (fs : Evs) (σ' : Stack) → step graphql σ (some k.class) ≡ took fs σ' → T (over_rows (sums fs m)) → Flaw m σ (token k t) (TooManyRows k.start)
  many : {m : Sums} {σ : Stack} {k : Tok} {t : Text} (fs : Evs) (σ' : Stack) → step graphql σ (some k.class) ≡ took fs σ' → T (over_counts (sums fs m).counts) → Flaw m σ (token k t) (TooMany k.start)
  onward : {m : Sums} {σ : Stack} {k : Tok} {t : Text} {r : Refusal} (fs : Evs) (σ' : Stack) → step graphql σ (some k.class) ≡ took fs σ' → Flaw (sums fs m) σ' t r → Flaw m σ (token k t) r

-- where bad bytes are
bad_place : {at : ℕ} {t : Text} → BadAt at t → at ≡ place_of (length (tokens_of t)) t
unfolding tokens_of place_of
bad_place bad_here = refl
bad_place (bad_later b) = bad_place b

-- a flaw stands at a token or at the end
pub flaw_place : {m : Sums} {σ : Stack} {t : Text} {r : Refusal} → Flaw m σ t r → (j : ℕ) × (j ≤ length (tokens_of t)) × (offset_of r ≡ place_of j t)
unfolding tokens_of place_of
flaw_place {t} (stray b) = (length (tokens_of t), le_refl (length (tokens_of t)), bad_place b)
flaw_place (short f) = (0, omega arith, refl)
flaw_place (unfit f) = (0, omega arith, refl)
flaw_place (deeper fs σ' q h) = (0, omega arith, refl)
flaw_place (rowed fs σ' q h) = (0, omega arith, refl)
flaw_place (many fs σ' q h) = (0, omega arith, refl)
flaw_place (onward fs σ' q h) = let r = flaw_place h in (suc r.0, (let i = r.1 in omega arith), r.2)

-- the same faults, of any stack, as `Reading` has them of a part
data Told (m : Sums) (σ : Stack) (t : Text) : Refusal → Type 0 where
  told_token : {at : ℕ} → BadAt at t → Told m σ t (NoToken at)
  told_going : (k : ℕ) → k < length (tokens_of t) → run graphql σ (classes_of t) ≡ stopped k → Told m σ t (NoGoing (place_of k t))
  told_end : EndsWell t → run graphql σ (classes_of t) ≡ stopped (length (tokens_of t)) → Told m σ t (NoGoing (place_of (length (tokens_of t)) t))
  told_deep : (k : ℕ) {s : Sums} → SummedBy σ m (classes_of t) k s → T (over_levels s) → Told m σ t (TooDeep (place_of k t))
  told_rows : (k : ℕ) {s : Sums} → SummedBy σ m (classes_of t) k s → T (over_rows s) → Told m σ t (TooManyRows (place_of k t))
  told_many : (k : ℕ) {s : Sums} → SummedBy σ m (classes_of t) k s → T (over_counts s.counts) → Told m σ t (TooMany (place_of k t))

run_end : (σ : Stack) → NotEmptied (step graphql σ none) → run graphql σ [] ≡ stopped 0
unfolding run
run_end σ f = go (step graphql σ none) f
  where
    go : (r : Steps) → NotEmptied r → ended graphql r ≡ stopped 0
    go (took fs σ') g = refl
    go (emptied fs) g = absurd (g fs refl)
    go refused g = refl
    go spent g = refl

run_here : (σ : Stack) (c : Class) (cs : List Class) → NotTook (step graphql σ (some c)) → run graphql σ (c ∷ cs) ≡ stopped 0
unfolding run
run_here σ c cs f = go (step graphql σ (some c)) f
  where
    go : (r : Steps) → NotTook r → went graphql (λ σ'. run graphql σ' cs) r ≡ stopped 0
    go (took fs σ') g = absurd (g fs σ' refl)
    go (emptied fs) g = refl
    go refused g = refl
    go spent g = refl

pub run_on : (σ σ' : Stack) (fs : Evs) (c : Class) (cs : List Class) → step graphql σ (some c) ≡ took fs σ' → run graphql σ (c ∷ cs) ≡ fs ▹ run graphql σ' cs
unfolding run
run_on σ σ' fs c cs q = ap (λ (r : Steps). went graphql (λ σ'. run graphql σ' cs) r) q

told_onward : (m : Sums) (σ σ' : Stack) (fs : Evs) (k : Tok) (t : Text) {r : Refusal} → step graphql σ (some k.class) ≡ took fs σ' → Told (sums fs m) σ' t r → Told m σ (token k t) r
unfolding tokens_of place_of
told_onward m σ σ' fs k t q (told_token b) = told_token (bad_later b)
told_onward m σ σ' fs k t q (told_going j h e) = told_going (suc j) (omega arith) (run_on σ σ' fs k.class (classes_of t) q ∙ ap (λ (a : Answer Class Mark). fs ▹ a) e)
told_onward m σ σ' fs k t q (told_end w e) = told_end (ends_well_later w) (run_on σ σ' fs k.class (classes_of t) q ∙ ap (λ (a : Answer Class Mark). fs ▹ a) e)
told_onward m σ σ' fs k t q (told_deep j {s} h o) = told_deep (suc j) (summed_later k.class (classes_of t) σ σ' fs m s j q h) o
told_onward m σ σ' fs k t q (told_rows j {s} h o) = told_rows (suc j) (summed_later k.class (classes_of t) σ σ' fs m s j q h) o
told_onward m σ σ' fs k t q (told_many j {s} h o) = told_many (suc j) (summed_later k.class (classes_of t) σ σ' fs m s j q h) o

flaw_told : {m : Sums} {σ : Stack} {t : Text} {r : Refusal} → Flaw m σ t r → Told m σ t r
unfolding tokens_of place_of
flaw_told (stray b) = told_token b
flaw_told (short {m} {σ} {n} f) = told_end ends_well_here (run_end σ f)
flaw_told (unfit {m} {σ} {k} {t} f) = told_going 0 (omega arith) (run_here σ k.class (classes_of t) f)
flaw_told (deeper {m} {σ} {k} {t} fs σ' q h) = told_deep 0 (summed_here k.class (classes_of t) σ σ' fs m q) h
flaw_told (rowed {m} {σ} {k} {t} fs σ' q h) = told_rows 0 (summed_here k.class (classes_of t) σ σ' fs m q) h
flaw_told (many {m} {σ} {k} {t} fs σ' q h) = told_many 0 (summed_here k.class (classes_of t) σ σ' fs m q) h
flaw_told (onward {m} {σ} {k} {t} fs σ' q h) = told_onward m σ σ' fs k t q (flaw_told h)

-- the sums after the token k of a text, by the machine's steps
data Reached : Sums → Stack → Text → ℕ → Sums → Type 0 where
  reached : {m : Sums} {σ : Stack} {k : Tok} {t : Text} (fs : Evs) (σ' : Stack) → step graphql σ (some k.class) ≡ took fs σ' → Reached m σ (token k t) 0 (sums fs m)
  reaches : {m s : Sums} {σ : Stack} {k : Tok} {t : Text} {j : ℕ} (fs : Evs) (σ' : Stack) → step graphql σ (some k.class) ≡ took fs σ' → Reached (sums fs m) σ' t j s → Reached m σ (token k t) (suc j) s

summed_reached : (t : Text) (m s : Sums) (σ : Stack) (k : ℕ) → Kept graphql follow σ → SummedBy σ m (classes_of t) k s → Reached m σ t k s
unfolding tokens_of
summed_reached (at_end n) m s σ k kp h = absurd (not-suc-le-zero h.inside)
summed_reached (bad n) m s σ k kp h = absurd (not-suc-le-zero h.inside)
summed_reached (token x t) m s σ zero kp h =
    let r = summed_first x.class (classes_of t) σ m s kp h in
    subst (λ (z : Sums). Reached m σ (token x t) 0 z) r.3 (reached r.0 r.1 r.2)
summed_reached (token x t) m s σ (suc j) kp h =
    let r = summed_next x.class (classes_of t) σ m s j kp h in
    reaches r.0 r.1 r.2 (summed_reached t (sums r.0 m) s r.1 j (kept_step fits σ x.class kp r.2) r.3)

reached_deep : {m s : Sums} {σ : Stack} {t : Text} {k : ℕ} → Reached m σ t k s → T (over_levels s) → Flaw m σ t (TooDeep (place_of k t))
unfolding place_of
reached_deep (reached fs σ' q) h = deeper fs σ' q h
reached_deep (reaches fs σ' q r) h = onward fs σ' q (reached_deep r h)

reached_rows : {m s : Sums} {σ : Stack} {t : Text} {k : ℕ} → Reached m σ t k s → T (over_rows s) → Flaw m σ t (TooManyRows (place_of k t))
unfolding place_of
reached_rows (reached fs σ' q) h = rowed fs σ' q h
reached_rows (reaches fs σ' q r) h = onward fs σ' q (reached_rows r h)

reached_many : {m s : Sums} {σ : Stack} {t : Text} {k : ℕ} → Reached m σ t k s → T (over_counts s.counts) → Flaw m σ t (TooMany (place_of k t))
unfolding place_of
reached_many (reached fs σ' q) h = many fs σ' q h
reached_many (reaches fs σ' q r) h = onward fs σ' q (reached_many r h)

-- where the machine stops
not_whole : {n : ℕ} → EndsWell (bad n) → ⊥
not_whole w = elim w [ ]

stopped_on : (fs : Evs) {k : ℕ} (a : Answer Class Mark) → fs ▹ a ≡ stopped k → (j : ℕ) × (a ≡ stopped j) × (suc j ≡ k)
stopped_on fs (accepted es) e = absurd (accepted≢stopped e)
stopped_on fs (stopped j) e = (j, refl, cc)

whole_later : {k : Tok} {t : Text} → EndsWell (token k t) → EndsWell t
whole_later (ends_well_later w) = w

going_flaw : (t : Text) (m : Sums) (σ : Stack) (k : ℕ) → run graphql σ (classes_of t) ≡ stopped k → (k < length (tokens_of t)) ⊎ EndsWell t → Flaw m σ t (NoGoing (place_of k t))
unfolding tokens_of place_of run
going_flaw (at_end n) m σ k e w = go (step graphql σ none) refl e
  where
    go : (r : Steps) → step graphql σ none ≡ r → ended graphql r ≡ stopped k → Flaw m σ (at_end n) (NoGoing n)
    go (took fs σ') q z = short (λ gs p. took≢emptied (sym q ∙ p))
    go (emptied fs) q z = absurd (accepted≢stopped z)
    go refused q z = short (λ gs p. refused≢emptied (sym q ∙ p))
    go spent q z = short (λ gs p. spent≢emptied (sym q ∙ p))
going_flaw (bad n) m σ k e (inl w) = absurd (not-suc-le-zero w)
going_flaw (bad n) m σ k e (inr w) = absurd (not_whole w)
going_flaw (token x t) m σ k e w =
    go (step graphql σ (some x.class)) refl e
    (λ (m' : Sums) (σ' : Stack) (j : ℕ) (z : run graphql σ' (classes_of t) ≡ stopped j) (v : (j < length (tokens_of t)) ⊎ EndsWell t). going_flaw t m' σ' j z v)
  where
    here : NotTook (step graphql σ (some x.class)) → 0 ≡ k → Flaw m σ (token x t) (NoGoing (place_of k (token x t)))
    here f z = subst (λ (n : ℕ). Flaw m σ (token x t) (NoGoing (place_of n (token x t)))) z (unfit f)

    down : (j : ℕ) → suc j ≡ k → (k < suc (length (tokens_of t))) ⊎ EndsWell (token x t) → (j < length (tokens_of t)) ⊎ EndsWell t
    down j z (inl h) = inl (omega arith)
    down j z (inr h) = inr (whole_later h)

    go : (r : Steps) → step graphql σ (some x.class) ≡ r → went graphql (λ σ'. run graphql σ' (classes_of t)) r ≡ stopped k →
        ((m' : Sums) (σ' : Stack) (j : ℕ) → run graphql σ' (classes_of t) ≡ stopped j → (j < length (tokens_of t)) ⊎ EndsWell t → Flaw m' σ' t (NoGoing (place_of j t))) →
        Flaw m σ (token x t) (NoGoing (place_of k (token x t)))
    go (took fs σ') q z f =
        let s = stopped_on fs (run graphql σ' (classes_of t)) z in
        subst (λ (n : ℕ). Flaw m σ (token x t) (NoGoing (place_of n (token x t)))) s.2 (onward fs σ' q (f (sums fs m) σ' s.0 s.1 (down s.0 s.2 w)))
    go (emptied fs) q z f = here (λ gs σ' p. took≢emptied (sym p ∙ q)) (cc)
    go refused q z f = here (λ gs σ' p. took≢refused (sym p ∙ q)) (cc)
    go spent q z f = here (λ gs σ' p. took≢spent (sym p ∙ q)) (cc)

-- BOTH WAYS
part_kept : (n : Part) → Kept graphql follow (nt n ∷ [])
part_kept n = (λ t h. absurd h, tt)

to_summed : (n : Part) (ts : List Class) (k : ℕ) (s : Sums) → SummedBy (nt n ∷ []) nothing_counted ts k s → Summed n ts k s
to_summed n ts k s h = record { inside = h.inside; later = h.later; events = h.events; reads = (factored→language h.derives, h.reads); are = h.are }

of_summed : (n : Part) (ts : List Class) (k : ℕ) (s : Sums) → Summed n ts k s → SummedBy (nt n ∷ []) nothing_counted ts k s
of_summed n ts k s h = record { inside = h.inside; later = h.later; events = h.events; derives = language→factored h.reads.0; reads = h.reads.1; are = h.are }

told_fault : (n : Part) (t : Text) {r : Refusal} → Told nothing_counted (nt n ∷ []) t r → Fault n t r
told_fault n t (told_token b) = no_token b
told_fault n t (told_going k h e) = no_going k h (stops n (classes_of t) k e)
told_fault n t (told_end w e) = no_end w (stops n (classes_of t) (length (tokens_of t)) e)
told_fault n t (told_deep k {s} h o) = too_deep k (to_summed n (classes_of t) k s h) o
told_fault n t (told_rows k {s} h o) = too_many_rows k (to_summed n (classes_of t) k s h) o
told_fault n t (told_many k {s} h o) = too_many k (to_summed n (classes_of t) k s h) o

pub flaw_fault : (n : Part) (t : Text) (r : Refusal) → Flaw nothing_counted (nt n ∷ []) t r → Fault n t r
flaw_fault n t r f = told_fault n t (flaw_told f)

classes_length : (t : Text) → length (classes_of t) ≡ length (tokens_of t)
classes_length t = length-map (tokens_of t) (λ k. k.class)

pub fault_flaw : (n : Part) (t : Text) {r : Refusal} → Fault n t r → Flaw nothing_counted (nt n ∷ []) t r
fault_flaw n t (no_token b) = stray b
fault_flaw n t (no_going k h s) = going_flaw t nothing_counted (nt n ∷ []) k (stops_only n (classes_of t) k (let e = classes_length t in omega arith) s) (inl h)
fault_flaw n t (no_end w s) = going_flaw t nothing_counted (nt n ∷ []) (length (tokens_of t)) (stops_only n (classes_of t) (length (tokens_of t)) (let e = classes_length t in omega arith) s) (inr w)
fault_flaw n t (too_deep k {s} h o) = reached_deep (summed_reached t nothing_counted s (nt n ∷ []) k (part_kept n) (of_summed n (classes_of t) k s h)) o
fault_flaw n t (too_many_rows k {s} h o) = reached_rows (summed_reached t nothing_counted s (nt n ∷ []) k (part_kept n) (of_summed n (classes_of t) k s h)) o
fault_flaw n t (too_many k {s} h o) = reached_many (summed_reached t nothing_counted s (nt n ∷ []) k (part_kept n) (of_summed n (classes_of t) k s h)) o
