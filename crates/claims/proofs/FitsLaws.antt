-- A text is accepted exactly when it fits the grammar and the sizes; and what stands before a refused place is within the sizes.
use mathlib.Core.Path.{◌≡◌, refl, sym, ap, ◌∙◌, subst}
use mathlib.Core.Bool.{Bool, true, false}
use mathlib.Core.List.{List, [], ◌∷◌}
use mathlib.Core.Logic.{◌↔◌}
use mathlib.Core.Option.{some}
use Prim.Native.Nat.{ℕ, zero, suc, ◌≤◌, ◌<◌}
use native.Mathlib.Nat.{not-suc-le-zero}
use native.Mathlib.Omega.{arith}
use lib.Dec.{T}
use lib.ListN.{length, drop, length-map, take-append-drop}
use Rattle.paper.specs.Grammar.{nt, Ev}
use Rattle.paper.specs.Language.{Class, Mark, Part}
use Rattle.paper.specs.Tokens.{Text}
use Rattle.paper.specs.Rows.{Row, rows_of}
use Rattle.paper.specs.Sizes.{Sums, nothing_counted, sums, through, over_levels, over_rows, over_counts}
use Rattle.paper.specs.Reading.{tokens_of, classes_of, place_of, EndsWell, ends_well_here, ends_well_later, BadAt, bad_later, StopsAt, Reads, Summed, Fault, no_token, no_going, no_end, too_deep, too_many_rows, too_many, rows_are, TextAnswer, accepts}
use Rattle.paper.specs.declared.Refusal.{Refusal}
use Rattle.paper.specs.declared.Refusal.TheVariants.{TooDeep, TooManyRows, TooMany}
use Rattle.paper.proofs.Machine.{took, step}
use Rattle.paper_theory.proofs.Theory.{Kept, kept_step, accepted≢stopped}
use Rattle.paper.proofs.Tables.{graphql}
use Rattle.paper_theory.proofs.Checked.{fits, follow}
use Rattle.paper_theory.proofs.SameLanguage.{language→factored}
use Rattle.paper_theory.proofs.ReadingLaws.{accepted_only, stops_only}
use Rattle.paper.proofs.Going.{Stack}
use Rattle.paper_theory.proofs.GoingSums.{SummedBy, summed_first, summed_next}

abbrev Evs : Type 0
Evs = List (Ev Class Mark)

-- no count is over
abbrev Within : Sums → Type 0
Within m = (over_levels m ≡ false) × (over_rows m ≡ false) × (over_counts m.counts ≡ false)

pub not_over : (b : Bool) → (T b → ⊥) → b ≡ false
not_over true h = absurd (h tt)
not_over false h = refl

over_not : (b : Bool) → T b → b ≡ false → ⊥
over_not b h e = subst T e h

-- THE SUMS AFTER A TOKEN ARE ONE
took_one : (σ : Stack) (c : Class) {σ₁ σ₂ : Stack} {fs gs : Evs} → step graphql σ (some c) ≡ took fs σ₁ → step graphql σ (some c) ≡ took gs σ₂ → (fs ≡ gs) × (σ₁ ≡ σ₂)
took_one σ c p q = (cc, cc)

by_one : (ts : List Class) (k : ℕ) (σ : Stack) (m s s' : Sums) → Kept graphql follow σ → SummedBy σ m ts k s → SummedBy σ m ts k s' → s ≡ s'
by_one [] k σ m s s' kp h h' = absurd (not-suc-le-zero h.inside)
by_one (c ∷ ts) zero σ m s s' kp h h' =
    let r = summed_first c ts σ m s kp h in
    let r' = summed_first c ts σ m s' kp h' in
    sym r.3 ∙ ap (λ (z : Evs). sums z m) (took_one σ c r.2 r'.2).0 ∙ r'.3
by_one (c ∷ ts) (suc k) σ m s s' kp h h' =
    let r = summed_next c ts σ m s k kp h in
    let r' = summed_next c ts σ m s' k kp h' in
    let e = took_one σ c r'.2 r.2 in
    by_one ts k r.1 (sums r.0 m) s s' (kept_step fits σ c kp r.2) r.3
    (subst (λ (z : Stack). SummedBy z (sums r.0 m) ts k s') e.1 (subst (λ (z : Evs). SummedBy r'.1 (sums z m) ts k s') e.0 r'.3))

of_summed : (n : Part) (ts : List Class) (k : ℕ) (s : Sums) → Summed n ts k s → SummedBy (nt n ∷ []) nothing_counted ts k s
of_summed n ts k s h = record { inside = h.inside; later = h.later; events = h.events; derives = language→factored h.reads.0; reads = h.reads.1; are = h.are }

pub summed_one : (n : Part) (ts : List Class) (k : ℕ) (s s' : Sums) → Summed n ts k s → Summed n ts k s' → s ≡ s'
summed_one n ts k s s' h h' = by_one ts k (nt n ∷ []) nothing_counted s s' (λ t z. absurd z, tt) (of_summed n ts k s h) (of_summed n ts k s' h')

-- the sums of a reading
classes_length : (t : Text) → length (classes_of t) ≡ length (tokens_of t)
classes_length t = length-map (tokens_of t) (λ k. k.class)

summed_reading : (n : Part) (t : Text) (es : Evs) (k : ℕ) → Reads n (classes_of t) es → k < length (tokens_of t) → Summed n (classes_of t) k (sums (through (suc k) es) nothing_counted)
summed_reading n t es k r h =
    record {
      inside = let e = classes_length t in omega arith;
      later = drop (suc k) (classes_of t);
      events = es;
      reads = (r.0, r.1 ∙ sym (take-append-drop (suc k) (classes_of t)));
      are = refl;
    }

-- no fault, and nothing over
not_bad : {at : ℕ} {t : Text} → EndsWell t → BadAt at t → ⊥
not_bad {at = at} (ends_well_here {n = n}) x3 = elim x3 [ ]
not_bad (ends_well_later w) (bad_later b) = not_bad w b

module _ (n : Part) (t : Text) (es : Evs) (w : EndsWell t) (r : Reads n (classes_of t) es) where
  not_stopped : (k : ℕ) → k ≤ length (tokens_of t) → StopsAt n (classes_of t) k → ⊥
  not_stopped k h s = accepted≢stopped (sym (accepted_only n (classes_of t) r) ∙ stops_only n (classes_of t) k (let e = classes_length t in omega arith) s)

  within_sums : ((k : ℕ) → k < length (tokens_of t) → Within (sums (through (suc k) es) nothing_counted)) → (k : ℕ) (m : Sums) → Summed n (classes_of t) k m → Within m
  within_sums f k m h =
      let i : k < length (tokens_of t) = (let e = classes_length t in let j = h.inside in omega arith) in
      subst Within (summed_one n (classes_of t) k (sums (through (suc k) es) nothing_counted) m (summed_reading n t es k r i) h) (f k i)

  no_fault : ((k : ℕ) → k < length (tokens_of t) → Within (sums (through (suc k) es) nothing_counted)) → (z : Refusal) → Fault n t z → ⊥
  no_fault f z (no_token b) = not_bad w b
  no_fault f z (no_going k h s) = not_stopped k (omega arith) s
  no_fault f z (no_end v s) = not_stopped (length (tokens_of t)) (omega arith) s
  no_fault f z (too_deep k {s = m} h o) = over_not (over_levels m) o (within_sums f k m h).0
  no_fault f z (too_many_rows k {s = m} h o) = over_not (over_rows m) o (within_sums f k m h).1
  no_fault f z (too_many k {s = m} h o) = over_not (over_counts m.counts) o (within_sums f k m h).2

  all_within : ((z : Refusal) → Fault n t z → ⊥) → (k : ℕ) → k < length (tokens_of t) → Within (sums (through (suc k) es) nothing_counted)
  all_within g k h =
      let m = sums (through (suc k) es) nothing_counted in
      let s = summed_reading n t es k r h in (
        not_over (over_levels m) (λ o. g (TooDeep (place_of k t)) (too_deep k s o)),
        not_over (over_rows m) (λ o. g (TooManyRows (place_of k t)) (too_many_rows k s o)),
        not_over (over_counts m.counts) (λ o. g (TooMany (place_of k t)) (too_many k s o)),
      )

-- ACCEPTED EXACTLY WHEN IT FITS
abbrev Fits : Part → Text → List Row → Type 0
Fits n t rs =
    (es : Evs) × EndsWell t × Reads n (classes_of t) es × ((k : ℕ) → k < length (tokens_of t) → Within (sums (through (suc k) es) nothing_counted)) × (rs ≡ rows_of es (tokens_of t))

said_fits : (n : Part) (t : Text) (rs : List Row) → TextAnswer n t (rows_are rs) → Fits n t rs
said_fits n t rs (accepts {es} w d c) = (es, w, d, all_within n t es w d c, refl)

fits_said : (n : Part) (t : Text) (rs : List Row) → Fits n t rs → TextAnswer n t (rows_are rs)
fits_said n t rs (es, w, d, f, e) = subst (λ (z : List Row). TextAnswer n t (rows_are z)) (sym e) (accepts w d (no_fault n t es w d f))

pub fits_exactly : (n : Part) (t : Text) (rs : List Row) → TextAnswer n t (rows_are rs) ↔ Fits n t rs
fits_exactly n t rs = (said_fits n t rs, fits_said n t rs)
