-- The predictive machine of a grammar: a stack of symbols still expected, and a token looked at (none at the end of the text).
use mathlib.Core.Bool.{Bool, true, false, ◌&&◌, ◌||◌}
use mathlib.Core.List.{List, [], ◌∷◌, ◌++◌}
use mathlib.Core.Option.{Option, none, some}
use Prim.Native.Nat.{ℕ, zero, suc}
use Rattle.paper.specs.Grammar.{Sym, nt, tm, act, Ev, tok, mark}

infixr 40 ◌▸◌
infixr 40 ◌▹◌
-- a grammar with the tables of its machine: which classes can begin what a nonterminal derives, and whether it can derive no token.
-- The tables are trusted for nothing: crate `paper_theory` tests them
pub record Tables (N P C A : Type 0) : Type 0 where
  pub prods : N → List (List (Sym N P A))
  pub hits : P → C → Bool
  pub first : N → C → Bool
  pub null : N → Bool
  pub depth : ℕ

-- what the machine does at one token: take it (with what it wrote on the way, and the stack left), come to the end of its stack
-- without taking it, refuse it; or it runs out of depth, which a test of the grammar rules out
pub data Step (N P C A : Type 0) : Type 0 where
  took : List (Ev C A) → List (Sym N P A) → Step N P C A
  emptied : List (Ev C A) → Step N P C A
  refused : Step N P C A
  spent : Step N P C A

-- the events of a text that fits, or the number of tokens before the one that is refused
pub data Answer (C A : Type 0) : Type 0 where
  accepted : List (Ev C A) → Answer C A
  stopped : ℕ → Answer C A

abbrev pub pick_if : {X : Type 0} → Bool → X → Option X → Option X
pick_if true x o = some x
pick_if false x o = o

-- the first of a list that passes
abbrev pub pick : {X : Type 0} → (X → Bool) → List X → Option X
pick p [] = none
pick p (x ∷ xs) = let r = pick p xs in pick_if (p x) x r

abbrev pub or_else : {X : Type 0} → Option X → Option X → Option X
or_else (some x) o = some x
or_else none o = o

-- the events es before what a step writes
abbrev pub ◌▸◌ : {N P C A : Type 0} → List (Ev C A) → Step N P C A → Step N P C A
es ▸ took fs σ = took (es ++ fs) σ
es ▸ emptied fs = emptied (es ++ fs)
es ▸ refused = refused
es ▸ spent = spent

-- a step on the front of a stack, with ss behind it, on which r is the step
abbrev pub and_then : {N P C A : Type 0} → Step N P C A → List (Sym N P A) → Step N P C A → Step N P C A
and_then (took es σ) ss r = took es (σ ++ ss)
and_then (emptied es) ss r = es ▸ r
and_then refused ss r = refused
and_then spent ss r = spent

abbrev pub take_if : {N P C A : Type 0} → Bool → C → List (Sym N P A) → Step N P C A
take_if true c ss = took (tok c ∷ []) ss
take_if false c ss = refused

abbrev pub ◌▹◌ : {C A : Type 0} → List (Ev C A) → Answer C A → Answer C A
es ▹ accepted fs = accepted (es ++ fs)
es ▹ stopped k = stopped (suc k)

module _ {N P C A : Type 0} (G : Tables N P C A) where
  abbrev pub take_at : P → List (Sym N P A) → Option C → Step N P C A
  take_at p ss none = refused
  take_at p ss (some c) = take_if (G.hits p c) c ss

  -- which tokens can begin a list of symbols, and whether it can derive no token
  abbrev pub fst : List (Sym N P A) → C → Bool
  fst [] t = false
  fst (tm p ∷ ss) t = G.hits p t
  fst (act a ∷ ss) t = fst ss t
  fst (nt n ∷ ss) t = G.first n t || (G.null n && fst ss t)

  abbrev pub nul : List (Sym N P A) → Bool
  nul [] = true
  nul (tm p ∷ ss) = false
  nul (act a ∷ ss) = nul ss
  nul (nt n ∷ ss) = G.null n && nul ss

  -- the production that the token looked at calls for: the one that it can begin, or else the one that can derive no token
  unfoldable pub choose : N → Option C → Option (List (Sym N P A))
  choose n none = pick (λ α. nul α) (G.prods n)
  choose n (some t) = or_else (pick (λ α. fst α t) (G.prods n)) (pick (λ α. nul α) (G.prods n))

  -- a step of a stack, given the steps of the nonterminals
  abbrev pub over : (N → Option C → Step N P C A) → List (Sym N P A) → Option C → Step N P C A
  over e [] l = emptied []
  over e (tm p ∷ ss) l = take_at p ss l
  over e (act a ∷ ss) l = (mark a ∷ []) ▸ over e ss l
  over e (nt n ∷ ss) l = and_then (e n l) ss (over e ss l)

  abbrev pub onward : (N → Option C → Step N P C A) → Option C → Option (List (Sym N P A)) → Step N P C A
  onward e l none = refused
  onward e l (some α) = over e α l

  unfoldable pub enter : ℕ → N → Option C → Step N P C A
  enter zero n l = spent
  enter (suc k) n l = onward (λ m u. enter k m u) l (choose n l)

  unfoldable pub step : List (Sym N P A) → Option C → Step N P C A
  step σ l = over (enter G.depth) σ l

  abbrev pub ended : Step N P C A → Answer C A
  ended (took es σ) = stopped 0
  ended (emptied es) = accepted es
  ended refused = stopped 0
  ended spent = stopped 0

  abbrev pub went : (List (Sym N P A) → Answer C A) → Step N P C A → Answer C A
  went k (took es σ) = es ▹ k σ
  went k (emptied es) = stopped 0
  went k refused = stopped 0
  went k spent = stopped 0

  unfoldable pub run : List (Sym N P A) → List C → Answer C A
  run σ [] = ended (step σ none)
  run σ (t ∷ ts) = went (λ σ'. run σ' ts) (step σ (some t))
