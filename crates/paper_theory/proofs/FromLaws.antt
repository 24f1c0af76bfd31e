-- Where the tokens of a text lie: each within the text, one after another.
use mathlib.Core.Path.{◌≡◌, refl, sym, ap, ◌∙◌, subst}
use mathlib.Core.Bool.{Bool, true, false}
use mathlib.Core.List.{List, [], ◌∷◌}
use mathlib.Core.Option.{Option, none, some}
use Prim.Native.Nat.{ℕ, zero, suc, ◌+◌, ◌-◌, ◌≤◌, ◌<◌, zero-le, suc-le-suc}
use native.Mathlib.Nat.{le_of_suc-le-suc, not-suc-le-zero}
use native.Mathlib.Omega.{arith}
use lib.ListN.{length, drop, length-drop}
use lib.Seq.{drop-drop}
use Rattle.paper.specs.Grammar.{Sym, nt, Ev}
use Rattle.paper.specs.Lexical.{What, is, ignored, comment, Piece}
use Rattle.paper.specs.Tokens.{Tok, Text, at_end, bad, token, what_of, line_end}
use Rattle.paper.specs.Reading.{tokens_of, place_of}
use Rattle.paper.proofs.Machine.{Tables, Step, took, emptied, refused, spent, step}
use Rattle.paper.proofs.Longest.{scan, Match, here, longer, further}
use Rattle.paper.proofs.LexTables.{lexer}
use Rattle.paper.proofs.Lexing.{text, from, found, shown, or_bad}
use Rattle.paper_theory.proofs.LexingLaws.{piece_byte, rounds}

-- what is read is within the bytes
module _ {N P C A : Type 0} (G : Tables N P C A) where
  abbrev Within : ℕ → Option (Match C A) → Type 0
  Within n none = Unit {0}
  Within n (some m) = m.size ≤ n

  here_within : (n : ℕ) (s : Step N P C A) → Within n (here G s)
  here_within n (took es σ) = tt
  here_within n (emptied es) = zero-le
  here_within n refused = tt
  here_within n spent = tt

  longer_within : (n : ℕ) (es : List (Ev C A)) (o o' : Option (Match C A)) → Within n o → Within (suc n) o' → Within (suc n) (longer G es o o')
  longer_within n es none o' h h' = h'
  longer_within n es (some m) o' h h' = suc-le-suc h

  scan_within : (bs : List C) (σ : List (Sym N P A)) → Within (length bs) (scan G σ bs)
  unfolding scan
  scan_within [] σ = here_within 0 (step G σ none)
  scan_within (b ∷ bs) σ = go (step G σ (some b)) (λ (σ' : List (Sym N P A)). scan_within bs σ')
    where
      rest : Within (suc (length bs)) (here G (step G σ none))
      rest = here_within (suc (length bs)) (step G σ none)

      go : (s : Step N P C A) → ((σ' : List (Sym N P A)) → Within (length bs) (scan G σ' bs)) → Within (suc (length bs)) (further G (λ σ'. scan G σ' bs) s (here G (step G σ none)))
      go (took es σ') f = longer_within (length bs) es (scan G σ' bs) (here G (step G σ none)) (f σ') rest
      go (emptied es) f = rest
      go refused f = rest
      go spent f = rest

pub piece_within : (bs : List ℕ) (m : Match ℕ What) → scan lexer (nt Piece ∷ []) bs ≡ some m → m.size ≤ length bs
piece_within bs m q = subst (λ (o : Option (Match ℕ What)). Within lexer (length bs) o) q (scan_within lexer bs (nt Piece ∷ []))

-- what is at the offset p or later, in the bytes s
abbrev Laid : List ℕ → ℕ → Text → Type 0
Laid s p (at_end n) = n ≡ length s
Laid s p (bad n) = (p ≤ n) × (n < length s)
Laid s p (token k t) = (p ≤ k.start) × (k.start < k.stop) × (k.stop ≤ length s) × (t ≡ from s k.stop)

laid_before : (s : List ℕ) (p q : ℕ) (t : Text) → p ≤ q → Laid s q t → Laid s p t
laid_before s p q (at_end n) h l = l
laid_before s p q (bad n) h l = (omega (arith, l.0), l.1)
laid_before s p q (token k t) h l = (omega (arith, l.0), l.1, l.2, l.3)

-- one round, where the next ones are known
laid_step : (k p : ℕ) (s : List ℕ) → p ≤ length s → length s < p + suc k → ((q : ℕ) → q ≤ length s → length s < q + k → Laid s q (text k q (drop q s))) →
    (bs : List ℕ) → drop p s ≡ bs → Laid s p (text (suc k) p bs)
unfolding text from
laid_step k p s h h' below [] e = let z : length s - p ≡ 0 = sym (length-drop p s) ∙ ap (λ (l : List ℕ). length l) e in omega arith
laid_step k p s h h' below (b ∷ bs) e = pick (scan lexer (nt Piece ∷ []) (b ∷ bs)) refl
  where
    size : length s - p ≡ suc (length bs)
    size = sym (length-drop p s) ∙ ap (λ (l : List ℕ). length l) e

    dropped : (n : ℕ) → drop n (b ∷ bs) ≡ drop (p + n) s
    dropped n = ap (λ (l : List ℕ). drop n l) (sym e) ∙ drop-drop n p s

    later : (n : ℕ) → 0 < n → n ≤ suc (length bs) → Laid s (p + n) (text k (p + n) (drop n (b ∷ bs)))
    later n a l = rw (dropped n) (below (p + n) (omega (arith, size)) (omega arith))

    onward : (n : ℕ) → 0 < n → n ≤ suc (length bs) → text k (p + n) (drop n (b ∷ bs)) ≡ from s (p + n)
    onward n a l = rw (dropped n) (rounds k (suc (length s)) (p + n) (drop (p + n) s) (simp length-drop (omega (arith, size))) (simp length-drop (omega arith)))

    line : (c : Bool) (n : ℕ) → 0 < n → n ≤ suc (length bs) → Laid s p (or_bad c p (text k (p + n) (drop n (b ∷ bs))))
    line true n a l = laid_before s p (p + n) (text k (p + n) (drop n (b ∷ bs))) (omega arith) (later n a l)
    line false n a l = (omega arith, omega (arith, size))

    by_kind : (w : What) (n : ℕ) → 0 < n → n ≤ suc (length bs) → Laid s p (shown w p n (b ∷ bs) (text k (p + n) (drop n (b ∷ bs))))
    by_kind (is c) n a l = (omega arith, omega arith, omega (arith, size), onward n a l)
    by_kind ignored n a l = laid_before s p (p + n) (text k (p + n) (drop n (b ∷ bs))) (omega arith) (later n a l)
    by_kind comment n a l = line (line_end (drop n (b ∷ bs))) n a l

    pick : (o : Option (Match ℕ What)) → scan lexer (nt Piece ∷ []) (b ∷ bs) ≡ o → Laid s p (found (λ n. text k (p + n) (drop n (b ∷ bs))) p (b ∷ bs) o)
    pick none q = (omega arith, omega (arith, size))
    pick (some m) q = by_kind (what_of m.events) m.size (piece_byte (b ∷ bs) m q) (piece_within (b ∷ bs) m q)

laid : (k p : ℕ) (s : List ℕ) → p ≤ length s → length s < p + k → Laid s p (text k p (drop p s))
laid zero p s h h' = let z : ⊥ = omega arith in absurd z
laid (suc k) p s h h' = laid_step k p s h h' (λ q l l'. laid k q s l l') (drop p s) refl

from_laid : (s : List ℕ) (p : ℕ) (t : Text) → p ≤ length s → from s p ≡ t → Laid s p t
unfolding from
from_laid s p t h e = subst (λ (t : Text). Laid s p t) e (laid (suc (length s)) p s h (omega arith))

-- a token lies at or behind the offset, and has a byte at least; the rest is what is read from its end
pub from_token : (s : List ℕ) (p : ℕ) (k : Tok) (t : Text) → p ≤ length s → from s p ≡ token k t → (p ≤ k.start) × (k.start < k.stop) × (k.stop ≤ length s) × (t ≡ from s k.stop)
from_token s p k t h e = from_laid s p (token k t) h e

pub from_over : (s : List ℕ) (p n : ℕ) → p ≤ length s → from s p ≡ at_end n → n ≡ length s
from_over s p n h e = from_laid s p (at_end n) h e

pub from_bad : (s : List ℕ) (p n : ℕ) → p ≤ length s → from s p ≡ bad n → (p ≤ n) × (n < length s)
from_bad s p n h e = from_laid s p (bad n) h e

-- one after another, from p on, and not behind the end
abbrev Ordered : ℕ → ℕ → Text → Type 0
Ordered e p (at_end n) = (p ≤ n) × (n ≤ e)
Ordered e p (bad n) = (p ≤ n) × (n ≤ e)
Ordered e p (token k t) = (p ≤ k.start) × (k.start < k.stop) × Ordered e k.stop t

ordered : (s : List ℕ) (t : Text) (p : ℕ) → p ≤ length s → from s p ≡ t → Ordered (length s) p t
ordered s (at_end n) p h e = let r = from_over s p n h e in (omega arith, omega arith)
ordered s (bad n) p h e = let r = from_bad s p n h e in (r.0, omega (arith, r.1))
ordered s (token k t) p h e = let r = from_token s p k t h e in (r.0, r.1, ordered s t k.stop r.2 (sym r.3))

place_in : (e : ℕ) (t : Text) (p j : ℕ) → Ordered e p t → (p ≤ place_of j t) × (place_of j t ≤ e)
unfolding place_of
place_in e (at_end n) p j r = r
place_in e (bad n) p j r = r
place_in e (token k t) p zero r = let z = place_in e t k.stop 0 r.2 in (r.0, omega (arith, z.0, z.1, r.1))
place_in e (token k t) p (suc j) r = let z = place_in e t k.stop j r.2 in (omega (arith, z.0, r.0, r.1), z.1)

rises : (e : ℕ) (t : Text) (p j k : ℕ) → Ordered e p t → j < k → k ≤ length (tokens_of t) → place_of j t < place_of k t
unfolding place_of tokens_of
rises e (at_end n) p j k r h h' = let z : ⊥ = omega arith in absurd z
rises e (bad n) p j k r h h' = let z : ⊥ = omega arith in absurd z
rises e (token x t) p j zero r h h' = absurd (not-suc-le-zero h)
rises e (token x t) p zero (suc k) r h h' = let z = place_in e t x.stop k r.2 in omega (arith, z.0, r.1)
rises e (token x t) p (suc j) (suc k) r h h' = rises e t x.stop j k r.2 (le_of_suc-le-suc h) (le_of_suc-le-suc h')

-- the places are within the text, and strictly increasing
pub place_within : (s : List ℕ) (p j : ℕ) → p ≤ length s → (p ≤ place_of j (from s p)) × (place_of j (from s p) ≤ length s)
place_within s p j h = place_in (length s) (from s p) p j (ordered s (from s p) p h refl)

pub places_rise : (s : List ℕ) (p j k : ℕ) → p ≤ length s → j < k → k ≤ length (tokens_of (from s p)) → place_of j (from s p) < place_of k (from s p)
places_rise s p j k h l l' = rises (length s) (from s p) p j k (ordered s (from s p) p h refl) l l'
