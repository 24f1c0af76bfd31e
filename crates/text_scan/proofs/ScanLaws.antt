-- What the machine reads where a character stands: its size and what it is, without the events.
-- Assumes nothing.
use mathlib.Core.Path.{◌≡◌, refl, sym, ◌∙◌, subst}
use mathlib.Core.Bool.{Bool, true, false, ◌&&◌, cond}
use mathlib.Core.List.{List, [], ◌∷◌}
use mathlib.Core.Option.{Option, none, some}
use Prim.Native.Nat.{ℕ, zero, suc}
use lib.Dec.{T}
use lib.ListN.{length, drop}
use Rattle.paper.specs.Grammar.{tm, Ev, tok}
use Rattle.paper.specs.Lexical.{Lex, Set, What, hits_byte}
use Rattle.paper.specs.Tokens.{what_of}
use Rattle.paper.proofs.Machine.{Step, took, emptied, refused, spent, step}
use Rattle.paper.proofs.Bools.{T→eq}
use Rattle.paper.proofs.Longest.{Match, scan, longer, further, here}
use Rattle.paper.proofs.LexTables.{lexer}
use Rattle.text_characters.specs.Characters.{fits, sized}
use Rattle.text_scan.proofs.ReadLaws.{Stack}

-- a match, by its size and what it is
abbrev pub Seen : Type 0
Seen = Option (ℕ × What)

abbrev pub seen : Option (Match ℕ What) → Seen
seen none = none
seen (some m) = some (m.size, what_of m.events)

-- n bytes more
abbrev pub more : Seen → Seen
more none = none
more (some m) = some (suc m.0, m.1)

abbrev pub grow : ℕ → Seen → Seen
grow zero o = o
grow (suc n) o = more (grow n o)

abbrev pub or_that : Seen → Seen → Seen
or_that none o = o
or_that (some m) o = some m

pub or_none : (o : Seen) → or_that o none ≡ o
or_none none = refl
or_none (some m) = refl

seen_longer : (b : ℕ) (o p : Option (Match ℕ What)) → seen (longer lexer (tok b ∷ []) o p) ≡ or_that (more (seen o)) (seen p)
seen_longer b none p = refl
seen_longer b (some m) p = refl

-- a byte is taken: the rest, or what is read if the text ends here
pub scan_took : (σ σ' : Stack) (b : ℕ) (bs : List ℕ) → step lexer σ (some b) ≡ took (tok b ∷ []) σ' →
    seen (scan lexer σ (b ∷ bs)) ≡ or_that (more (seen (scan lexer σ' bs))) (seen (scan lexer σ []))
unfolding scan
scan_took σ σ' b bs q = rw q (seen_longer b (scan lexer σ' bs) (here lexer (step lexer σ none)))

pub scan_refused : (σ : Stack) (b : ℕ) (bs : List ℕ) → step lexer σ (some b) ≡ refused → scan lexer σ (b ∷ bs) ≡ scan lexer σ []
unfolding scan
scan_refused σ b bs q = rw q

pub scan_same : (σ σ' : Stack) (b : ℕ) (bs : List ℕ) → step lexer σ (some b) ≡ step lexer σ' (some b) → step lexer σ none ≡ step lexer σ' none →
    scan lexer σ (b ∷ bs) ≡ scan lexer σ' (b ∷ bs)
unfolding scan
scan_same σ σ' b bs q r = rw (q, r)

-- the same step, where nothing is read if the text ends here
pub scan_or : (σ τ : Stack) (b : ℕ) (bs : List ℕ) → step lexer σ (some b) ≡ step lexer τ (some b) → scan lexer τ [] ≡ none →
    seen (scan lexer σ (b ∷ bs)) ≡ or_that (seen (scan lexer τ (b ∷ bs))) (seen (scan lexer σ []))
unfolding scan
scan_or σ τ b bs q e = rw (q, e) (go (step lexer τ (some b)))
  where
    later : (es : List (Ev ℕ What)) (o p : Option (Match ℕ What)) → seen (longer lexer es o p) ≡ or_that (seen (longer lexer es o none)) (seen p)
    later es none p = refl
    later es (some m) p = refl

    go : (s : Step Lex Set ℕ What) → seen (further lexer (λ ρ. scan lexer ρ bs) s (here lexer (step lexer σ none))) ≡
        or_that (seen (further lexer (λ ρ. scan lexer ρ bs) s none)) (seen (here lexer (step lexer σ none)))
    go (took es ρ) = later es (scan lexer ρ bs) (here lexer (step lexer σ none))
    go (emptied es) = refl
    go refused = refl
    go spent = refl

pub taken : (b : ℕ) (p : Set) (σ : Stack) → T (hits_byte p b) → step lexer (tm p ∷ σ) (some b) ≡ took (tok b ∷ []) σ
unfolding step
taken b p σ h = rw (T→eq (hits_byte p b) h) refl

-- sets in a row
abbrev pub terms : List Set → Stack → Stack
terms [] ρ = ρ
terms (p ∷ ps) ρ = tm p ∷ terms ps ρ

pub scan_terms : (ps : List Set) (ρ : Stack) (bs : List ℕ) →
    seen (scan lexer (terms ps ρ) bs) ≡ cond (fits ps bs) (grow (length ps) (seen (scan lexer ρ (drop (length ps) bs)))) none
unfolding scan step
scan_terms [] ρ bs = refl
scan_terms (p ∷ ps) ρ [] = refl
scan_terms (p ∷ ps) ρ (b ∷ bs) = go (hits_byte p b) refl (scan_terms ps ρ bs)
  where
    R : Seen
    R = seen (scan lexer ρ (drop (length ps) bs))

    grown : (x : Bool) → or_that (more (cond x (grow (length ps) R) none)) none ≡ cond x (more (grow (length ps) R)) none
    grown true = or_none (more (grow (length ps) R))
    grown false = refl

    go : (x : Bool) → hits_byte p b ≡ x → seen (scan lexer (terms ps ρ) bs) ≡ cond (fits ps bs) (grow (length ps) R) none →
        seen (scan lexer (tm p ∷ terms ps ρ) (b ∷ bs)) ≡ cond (x && fits ps bs) (more (grow (length ps) R)) none
    go true q r = scan_took (tm p ∷ terms ps ρ) (terms ps ρ) b bs (taken b p (terms ps ρ) (subst T (sym q) tt)) ∙ rw r (grown (fits ps bs))
    go false q r = rw q refl

-- where n bytes were read, more than none
abbrev pub after : ℕ → Stack → List ℕ → Seen
after zero ρ bs = none
after (suc n) ρ bs = grow (suc n) (seen (scan lexer ρ (drop (suc n) bs)))

-- a byte is taken, and sets must fit
pub led : (ps : List Set) (σ ρ : Stack) (b : ℕ) (bs : List ℕ) → step lexer σ (some b) ≡ took (tok b ∷ []) (terms ps ρ) → scan lexer σ [] ≡ none →
    seen (scan lexer σ (b ∷ bs)) ≡ after (sized ps bs) ρ (b ∷ bs)
led ps σ ρ b bs q e = scan_took σ (terms ps ρ) b bs q ∙ rw (e, scan_terms ps ρ bs) (go (fits ps bs))
  where
    R : Seen
    R = seen (scan lexer ρ (drop (length ps) bs))

    go : (x : Bool) → or_that (more (cond x (grow (length ps) R) none)) none ≡ after (cond x (suc (length ps)) 0) ρ (b ∷ bs)
    go true = or_none (more (grow (length ps) R))
    go false = refl
