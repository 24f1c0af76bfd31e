-- The machine reads exactly the texts of a part, each in one way, and stops where `StopsAt` says.
use mathlib.Core.Path.{◌≡◌, refl, sym, ap, ◌∙◌, subst}
use mathlib.Core.List.{List, [], ◌∷◌, ◌++◌, append_assoc, append-nil}
use mathlib.Core.Option.{some, none}
use mathlib.Core.Logic.{◌↔◌}
use Prim.Native.Nat.{ℕ, zero, suc, ◌≤◌, ◌<◌}
use native.Mathlib.Nat.{le_of_suc-le-suc, not-suc-le-zero}
use native.Mathlib.Decide.{dec_lt}
use native.Mathlib.Omega.{arith}
use lib.ListN.{length, take, drop, take-append-drop}
use Rattle.paper.specs.Grammar.{Sym, nt, Ev}
use Rattle.paper.proofs.Machine.{Answer, accepted, stopped, run, Step, took, emptied, refused, spent, step, ended, went, ◌▹◌}
use Rattle.paper.specs.Language.{Class, Terminal, Mark, Part}
use Rattle.paper.specs.Reading.{Reads, Is, NoGoingOn, StopsAt}
use Rattle.paper.proofs.Tables.{graphql}
use Rattle.paper_theory.proofs.Theory.{accepted≢stopped, run_sound, run_complete, run_stopped, Refused, Kept}
use Rattle.paper_theory.proofs.Checked.{fits, words, a_token, follow}
use Rattle.paper_theory.proofs.SameLanguage.{language→factored, factored→language}

kept : (n : Part) → Kept graphql follow (nt n ∷ [])
kept n = (λ t h. absurd h, tt)

pub accepts : (n : Part) (ts : List Class) {es : List (Ev Class Mark)} → run graphql (nt n ∷ []) ts ≡ accepted es → Reads n ts es
accepts n ts q = let r = run_sound fits ts (nt n ∷ []) q in (factored→language r.0, r.1)

pub accepted_only : (n : Part) (ts : List Class) {es : List (Ev Class Mark)} → Reads n ts es → run graphql (nt n ∷ []) ts ≡ accepted es
accepted_only n ts r = run_complete fits ts (language→factored r.0) (kept n) r.1

-- EXACT
pub exact : (n : Part) (ts : List Class) (es : List (Ev Class Mark)) → (run graphql (nt n ∷ []) ts ≡ accepted es) ↔ Reads n ts es
exact n ts es = (accepts n ts, accepted_only n ts)

-- UNIQUE
pub one_reading : (n : Part) (ts : List Class) (es fs : List (Ev Class Mark)) → Reads n ts es → Reads n ts fs → es ≡ fs
one_reading n ts es fs r s = let a = accepted_only n ts r in let b = accepted_only n ts s in cc

-- VIABLE
no_going : (n : Part) (p r : List Class) → Refused fits a_token words (nt n ∷ []) p r → NoGoingOn n p r
no_going n p [] h = λ f. h (f.0, language→factored f.1.0, f.1.1)
no_going n p (t ∷ r) h = λ q f. h q (f.0, language→factored f.1.0, f.1.1)

pub stops : (n : Part) (ts : List Class) (k : ℕ) → run graphql (nt n ∷ []) ts ≡ stopped k → StopsAt n ts k
stops n ts k e =
    let r = run_stopped fits a_token words ts (nt n ∷ []) k (kept n) e in
    ((r.0.0, (r.0.1.0, (factored→language r.0.1.1, r.0.1.2))), no_going n (take k ts) (drop k ts) r.1)

-- the place of the refusal is the only one that StopsAt allows
pub bound : (ts : List Class) (σ : List (Sym Part Terminal Mark)) (k : ℕ) → run graphql σ ts ≡ stopped k → k ≤ length ts
unfolding run
bound [] σ k q = go (step graphql σ none) q
  where
    go : (s : Step Part Terminal Class Mark) → ended graphql s ≡ stopped k → k ≤ 0
    go (took es σ') e = let z : 0 ≡ k = cc in omega arith
    go (emptied es) e = absurd (accepted≢stopped e)
    go refused e = let z : 0 ≡ k = cc in omega arith
    go spent e = let z : 0 ≡ k = cc in omega arith
bound (t ∷ ts) σ k q = go (step graphql σ (some t)) q (λ (σ' : List (Sym Part Terminal Mark)) (j : ℕ) (e : run graphql σ' ts ≡ stopped j). bound ts σ' j e)
  where
    later : (es : List (Ev Class Mark)) (a : Answer Class Mark) → es ▹ a ≡ stopped k → ((j : ℕ) → a ≡ stopped j → j ≤ length ts) → k ≤ suc (length ts)
    later es (accepted fs) e f = absurd (accepted≢stopped e)
    later es (stopped j) e f = let z : suc j ≡ k = cc in let h = f j refl in omega arith

    go : (s : Step Part Terminal Class Mark) → went graphql (λ σ'. run graphql σ' ts) s ≡ stopped k → ((σ' : List (Sym Part Terminal Mark)) (j : ℕ) → run graphql σ' ts ≡ stopped j → j ≤ length ts) → k ≤ suc (length ts)
    go (took es σ') e f = later es (run graphql σ' ts) e (f σ')
    go (emptied es) e f = let z : 0 ≡ k = cc in omega arith
    go refused e f = let z : 0 ≡ k = cc in omega arith
    go spent e f = let z : 0 ≡ k = cc in omega arith

cut : (ts : List Class) (j k : ℕ) → j < k → k ≤ length ts → (t : Class) × (r : List Class) × (m : List Class) × (drop j ts ≡ t ∷ r) × (take k ts ≡ take j ts ++ (t ∷ m))
cut [] j k h h' = let z : ⊥ = omega arith in absurd z
cut (t ∷ ts) j zero h h' = absurd (not-suc-le-zero h)
cut (t ∷ ts) zero (suc k) h h' = (t, ts, take k ts, refl, refl)
cut (t ∷ ts) (suc j) (suc k) h h' = let r = cut ts j k (le_of_suc-le-suc h) (le_of_suc-le-suc h') in (r.0, r.1, r.2, r.3, ap (λ z. t ∷ z) r.4)

before : (n : Part) (ts : List Class) (j k : ℕ) → j < k → k ≤ length ts → (q : List Class) → Is n (take k ts ++ q) → NoGoingOn n (take j ts) (drop j ts) → ⊥
before n ts j k h h' q f g =
    let c = cut ts j k h h' in
    let g' : NoGoingOn n (take j ts) (c.0 ∷ c.1) = subst (λ (z : List Class). NoGoingOn n (take j ts) z) c.3 g in
    g' (c.2 ++ q) (subst (λ (z : List Class). Is n z) (ap (λ (z : List Class). z ++ q) c.4 ∙ append_assoc (take j ts) (c.0 ∷ c.2) q) f)

pub stops_only : (n : Part) (ts : List Class) (k : ℕ) → k ≤ length ts → StopsAt n ts k → run graphql (nt n ∷ []) ts ≡ stopped k
stops_only n ts k h s = go (run graphql (nt n ∷ []) ts) refl
  where
    ended_there : (r : List Class) → take k ts ++ r ≡ ts → NoGoingOn n (take k ts) r → Is n ts → ⊥
    ended_there [] e g f = g (subst (λ (z : List Class). Is n z) (sym e ∙ append-nil (take k ts)) f)
    ended_there (t ∷ r) e g f = g r (subst (λ (z : List Class). Is n z) (sym e) f)

    same : (j : ℕ) → StopsAt n ts j → j ≤ length ts → Dec (j < k) → Dec (k < j) → ◌≡◌ {A = Answer Class Mark} (stopped j) (stopped k)
    same j s' b (yes p) d = absurd (before n ts j k p h s.0.0 s.0.1 s'.1)
    same j s' b (no p) (yes q) = absurd (before n ts k j q b s'.0.0 s'.0.1 s.1)
    same j s' b (no p) (no q) = ap stopped (omega arith)

    go : (a : Answer Class Mark) → run graphql (nt n ∷ []) ts ≡ a → a ≡ stopped k
    go (accepted es) e = absurd (ended_there (drop k ts) (take-append-drop k ts) s.1 (es, accepts n ts e))
    go (stopped j) e = same j (stops n ts j e) (bound ts (nt n ∷ []) j e) (dec_lt j k) (dec_lt k j)
