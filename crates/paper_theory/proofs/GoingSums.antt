-- The sums of a text, token by token: a step of the machine writes marks and then its token, and those are the events of every derivation there.
use mathlib.Core.Path.{◌≡◌, refl, sym, ap, ◌∙◌, subst}
use mathlib.Core.Bool.{Bool, true, false}
use mathlib.Core.List.{List, [], ◌∷◌, ◌++◌, append_assoc, cons≢nil}
use mathlib.Core.Option.{Option, none, some}
use Prim.Native.Nat.{ℕ, zero, suc, ◌<◌}
use native.Mathlib.Omega.{arith}
use lib.ListN.{length, take as takeN}
use Rattle.paper.specs.Grammar.{Sym, nt, tm, act, Ev, tok, mark, toks, Derives}
use Rattle.paper.specs.Language.{Class, Terminal, hits, Mark, Part}
use Rattle.paper.specs.Sizes.{Sums, counted, sums, through}
use Rattle.paper.proofs.Machine.{Tables, Step, took, emptied, refused, spent, take_if, ◌▸◌, and_then, choose, over, onward, enter, step}
use Rattle.paper_theory.proofs.Theory.{Kept, Sound, step_sound, took_derives, took_toks, complete_step, word}
use Rattle.paper.proofs.Tables.{graphql, factored}
use Rattle.paper.proofs.Going.{Stack}
use Rattle.paper_theory.proofs.Checked.{fits, follow, a_token, words}

abbrev Evs : Type 0
Evs = List (Ev Class Mark)

-- marks alone, then the token
abbrev pub Ends : {C A : Type 0} → C → List (Ev C A) → Type 0
Ends {C} {A} t es = (ms : List (Ev C A)) × (es ≡ ms ++ (tok t ∷ [])) × (toks ms ≡ [])

module _ {C A : Type 0} where
  toks_none : (ms es : List (Ev C A)) → toks ms ≡ [] → toks (ms ++ es) ≡ toks es
  unfolding toks
  toks_none [] es e = refl
  toks_none (tok c ∷ ms) es e = absurd (cons≢nil e)
  toks_none (mark a ∷ ms) es e = toks_none ms es e

module _ {N P C A : Type 0} (G : Tables N P C A) (t : C) where
  abbrev Last : Step N P C A → Type 0
  Last (took es σ) = Ends t es
  Last (emptied es) = toks es ≡ []
  Last refused = Unit {0}
  Last spent = Unit {0}

  last_after : (ms : List (Ev C A)) → toks ms ≡ [] → (r : Step N P C A) → Last r → Last (ms ▸ r)
  last_after ms e (took es σ) h = (ms ++ h.0, ap (λ (z : List (Ev C A)). ms ++ z) h.1 ∙ sym (append_assoc ms h.0 (tok t ∷ [])), toks_none ms h.0 e ∙ h.2)
  last_after ms e (emptied es) h = toks_none ms es e ∙ h
  last_after ms e refused h = tt
  last_after ms e spent h = tt

  last_then : (s : Step N P C A) (σ : List (Sym N P A)) (r : Step N P C A) → Last s → Last r → Last (and_then s σ r)
  last_then (took es σ') σ r h k = h
  last_then (emptied es) σ r h k = last_after es h r k
  last_then refused σ r h k = tt
  last_then spent σ r h k = tt

  over_last : (e : N → Option C → Step N P C A) → ((n : N) → Last (e n (some t))) → (σ : List (Sym N P A)) → Last (over G e σ (some t))
  unfolding toks
  over_last e f [] = refl
  over_last e f (tm p ∷ σ) = go (G.hits p t)
    where
      go : (b : Bool) → Last (take_if b t σ)
      go true = ([], refl, refl)
      go false = tt
  over_last e f (act a ∷ σ) = last_after (mark a ∷ []) refl (over G e σ (some t)) (over_last e f σ)
  over_last e f (nt n ∷ σ) = last_then (e n (some t)) σ (over G e σ (some t)) (f n) (over_last e f σ)

  enter_last : (k : ℕ) (n : N) → Last (enter G k n (some t))
  unfolding enter
  enter_last zero n = tt
  enter_last (suc k) n = go (choose G n (some t)) (λ (m : N). enter_last k m)
    where
      go : (o : Option (List (Sym N P A))) → ((m : N) → Last (enter G k m (some t))) → Last (onward G (enter G k) (some t) o)
      go none f = tt
      go (some α) f = over_last (enter G k) f α

  pub step_last : (σ : List (Sym N P A)) {es : List (Ev C A)} {σ' : List (Sym N P A)} → step G σ (some t) ≡ took es σ' → Ends t es
  unfolding step
  step_last σ {es} {σ'} q = subst Last q (over_last (enter G G.depth) (enter_last G.depth) σ)

-- the events through a token
pub through_step : (c : Class) (ms gs : Evs) (k : ℕ) → toks ms ≡ [] → through (suc k) ((ms ++ (tok c ∷ [])) ++ gs) ≡ (ms ++ (tok c ∷ [])) ++ through k gs
unfolding toks through
through_step c [] gs k e = refl
through_step c (tok d ∷ ms) gs k e = absurd (cons≢nil e)
through_step c (mark m ∷ ms) gs k e = ap (λ (z : Evs). mark m ∷ z) (through_step c ms gs k e)

pub sums_append : (es fs : Evs) (m : Sums) → sums (es ++ fs) m ≡ sums fs (sums es m)
unfolding sums
sums_append [] fs m = refl
sums_append (e ∷ es) fs m = sums_append es fs (counted e m)

-- a step, and what comes after it
pub sums_step : (c : Class) (fs gs : Evs) (k : ℕ) (m : Sums) → Ends c fs → sums (through (suc k) (fs ++ gs)) m ≡ sums (through k gs) (sums fs m)
sums_step c fs gs k m h =
    ap (λ (z : Evs). sums (through (suc k) (z ++ gs)) m) h.1
    ∙ ap (λ (z : Evs). sums z m) (through_step c h.0 gs k h.2)
    ∙ sums_append (h.0 ++ (tok c ∷ [])) (through k gs) m
    ∙ ap (λ (z : Evs). sums (through k gs) (sums z m)) (sym h.1)

-- the sums just after the token k, in what the stack derives, where they were m before
pub record SummedBy (σ : Stack) (m : Sums) (ts : List Class) (k : ℕ) (s : Sums) : Type 0 where
  pub inside : k < length ts
  pub later : List Class
  pub events : Evs
  pub derives : Derives factored hits σ events
  pub reads : toks events ≡ takeN (suc k) ts ++ later
  pub are : sums (through (suc k) events) m ≡ s

took_sound : (c : Class) (σ σ' : Stack) (fs : Evs) → step graphql σ (some c) ≡ took fs σ' → Sound fits (some c) σ (took fs σ')
took_sound c σ σ' fs q = subst (λ (z : Step Part Terminal Class Mark). Sound fits (some c) σ z) q (step_sound fits σ (some c))

-- what a step took, and then what the stack left derives
pub took_before : (c : Class) (σ σ' : Stack) (fs gs : Evs) → step graphql σ (some c) ≡ took fs σ' → Derives factored hits σ' gs → Derives factored hits σ (fs ++ gs)
took_before c σ σ' fs gs q d = took_derives fits (some c) σ σ' fs gs (took_sound c σ σ' fs q) d

pub took_reads : (c : Class) (σ σ' : Stack) (fs gs : Evs) → step graphql σ (some c) ≡ took fs σ' → toks (fs ++ gs) ≡ c ∷ toks gs
took_reads c σ σ' fs gs q = took_toks fits c σ σ' fs gs (took_sound c σ σ' fs q)

-- every stack derives something
pub some_word : (σ : Stack) → (es : Evs) × Derives factored hits σ es
some_word σ = word fits a_token words σ

pub summed_here : (c : Class) (ts : List Class) (σ σ' : Stack) (fs : Evs) (m : Sums) → step graphql σ (some c) ≡ took fs σ' → SummedBy σ m (c ∷ ts) 0 (sums fs m)
unfolding through sums
summed_here c ts σ σ' fs m q =
    let w = some_word σ' in
    record {
      inside = omega arith;
      later = toks w.0;
      events = fs ++ w.0;
      derives = took_before c σ σ' fs w.0 q w.1;
      reads = took_reads c σ σ' fs w.0 q;
      are = sums_step c fs w.0 0 m (step_last graphql c σ q);
    }

pub summed_later : (c : Class) (ts : List Class) (σ σ' : Stack) (fs : Evs) (m s : Sums) (k : ℕ) → step graphql σ (some c) ≡ took fs σ' → SummedBy σ' (sums fs m) ts k s → SummedBy σ m (c ∷ ts) (suc k) s
summed_later c ts σ σ' fs m s k q h =
    record {
      inside = let i = h.inside in omega arith;
      later = h.later;
      events = fs ++ h.events;
      derives = took_before c σ σ' fs h.events q h.derives;
      reads = took_reads c σ σ' fs h.events q ∙ ap (λ (z : List Class). c ∷ z) h.reads;
      are = sums_step c fs h.events (suc k) m (step_last graphql c σ q) ∙ h.are;
    }

pub summed_first : (c : Class) (ts : List Class) (σ : Stack) (m s : Sums) → Kept graphql follow σ → SummedBy σ m (c ∷ ts) 0 s →
    (fs : Evs) × (σ' : Stack) × (step graphql σ (some c) ≡ took fs σ') × (sums fs m ≡ s)
unfolding through sums
summed_first c ts σ m s k h =
    let r = complete_step fits h.derives k h.reads in
    (r.0, r.1, r.3, sym (sums_step c r.0 r.2 0 m (step_last graphql c σ r.3)) ∙ ap (λ (z : Evs). sums (through 1 z) m) (sym r.6) ∙ h.are)

pub summed_next : (c : Class) (ts : List Class) (σ : Stack) (m s : Sums) (j : ℕ) → Kept graphql follow σ → SummedBy σ m (c ∷ ts) (suc j) s →
    (fs : Evs) × (σ' : Stack) × (step graphql σ (some c) ≡ took fs σ') × SummedBy σ' (sums fs m) ts j s
summed_next c ts σ m s j k h =
    let r = complete_step fits h.derives k h.reads in (
      r.0,
      r.1,
      r.3,
      record {
        inside = let i = h.inside in omega arith;
        later = h.later;
        events = r.2;
        derives = r.4;
        reads = r.7;
        are = sym (sums_step c r.0 r.2 (suc j) m (step_last graphql c σ r.3)) ∙ ap (λ (z : Evs). sums (through (suc (suc j)) z) m) (sym r.6) ∙ h.are;
      },
    )
