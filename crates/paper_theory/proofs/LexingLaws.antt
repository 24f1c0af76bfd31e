-- What the machine finds at each place is the longest piece, and a byte at least.
use mathlib.Core.Path.{◌≡◌, refl, ap, ◌∙◌, subst}
use mathlib.Core.List.{List, [], ◌∷◌}
use mathlib.Core.Option.{Option, none, some}
use Prim.Native.Nat.{ℕ, zero, suc, ◌+◌, ◌≤◌, ◌<◌, zero-le, suc-le-suc}
use native.Mathlib.Omega.{arith}
use lib.ListN.{length, take, drop, take-append-drop, length-drop}
use Rattle.paper.specs.Grammar.{nt, Ev}
use Rattle.paper.specs.Lexical.{What, Piece}
use Rattle.paper.specs.Tokens.{Text, what_of, Starts}
use Rattle.paper.proofs.Longest.{Match, scan}
use Rattle.paper.proofs.LexTables.{lexer}
use Rattle.paper.proofs.Lexing.{shown, found, text}
use Rattle.paper_theory.proofs.Theory.{derives_null}
use Rattle.paper_theory.proofs.LongestLaws.{Best, best}
use Rattle.paper_theory.proofs.LexChecked.{fits_l}
use Rattle.paper_theory.proofs.LexSame.{lexical→factored, factored→lexical}

-- EXACT: what `scan` finds is the longest piece, and where it finds none no piece starts
pub piece : (bs : List ℕ) → Best fits_l (nt Piece ∷ []) bs (scan lexer (nt Piece ∷ []) bs)
piece bs = best fits_l bs (nt Piece ∷ []) (λ t h. absurd h, tt)

-- no piece starts, or the longest that does
unfoldable pub Found : List ℕ → Option (Match ℕ What) → Type 0
Found bs none = (p : List ℕ) (es : List (Ev ℕ What)) → Starts bs p es → ⊥
Found bs (some m) = Starts bs (take m.size bs) m.events × ((p : List ℕ) (es : List (Ev ℕ What)) → Starts bs p es → length p ≤ m.size)

pub longest : (bs : List ℕ) → Found bs (scan lexer (nt Piece ∷ []) bs)
unfolding Found
longest bs = go (scan lexer (nt Piece ∷ []) bs) (piece bs)
  where
    go : (o : Option (Match ℕ What)) → Best fits_l (nt Piece ∷ []) bs o → Found bs o
    go none h = λ p es s. h p s.0.0 s.0.1 (es, lexical→factored s.1, s.2)
    go (some m) h = (
      ((drop m.size bs, take-append-drop m.size bs), factored→lexical h.0, h.1),
      λ p es s. h.2 p s.0.0 s.0.1 (es, lexical→factored s.1, s.2),
    )

-- a piece has a byte at least
pub piece_byte : (bs : List ℕ) (m : Match ℕ What) → scan lexer (nt Piece ∷ []) bs ≡ some m → 0 < m.size
piece_byte bs m q = go m.size refl
  where
    b : Best fits_l (nt Piece ∷ []) bs (some m)
    b = subst (λ (o : Option (Match ℕ What)). Best fits_l (nt Piece ∷ []) bs o) q (piece bs)

    go : (n : ℕ) → m.size ≡ n → 0 < n
    go zero e = absurd (derives_null fits_l b.0 (b.1 ∙ ap (λ (n : ℕ). take n bs) e))
    go (suc n) e = suc-le-suc zero-le

-- so the rounds do not matter, where there are more than bytes
pub rounds : (k j at : ℕ) (bs : List ℕ) → length bs < k → length bs < j → text k at bs ≡ text j at bs
unfolding text
rounds zero j at bs h h' = let z : ⊥ = omega arith in absurd z
rounds (suc k) zero at bs h h' = let z : ⊥ = omega arith in absurd z
rounds (suc k) (suc j) at [] h h' = refl
rounds (suc k) (suc j) at (b ∷ bs) h h' = go (scan lexer (nt Piece ∷ []) (b ∷ bs)) refl (λ (n : ℕ) (l : length (drop n (b ∷ bs)) < k) (l' : length (drop n (b ∷ bs)) < j). rounds k j (at + n) (drop n (b ∷ bs)) l l')
  where
    fewer : (n : ℕ) (i : ℕ) → 0 < n → length (b ∷ bs) < suc i → length (drop n (b ∷ bs)) < i
    fewer n i z l = simp length-drop (omega arith)

    go : (o : Option (Match ℕ What)) → scan lexer (nt Piece ∷ []) (b ∷ bs) ≡ o → ((n : ℕ) → length (drop n (b ∷ bs)) < k → length (drop n (b ∷ bs)) < j → text k (at + n) (drop n (b ∷ bs)) ≡ text j (at + n) (drop n (b ∷ bs))) →
        found (λ n. text k (at + n) (drop n (b ∷ bs))) at (b ∷ bs) o ≡ found (λ n. text j (at + n) (drop n (b ∷ bs))) at (b ∷ bs) o
    go none e f = refl
    go (some m) e f = let z = piece_byte (b ∷ bs) m e in ap (λ (t : Text). shown (what_of m.events) at m.size (b ∷ bs) t) (f m.size (fewer m.size k z h) (fewer m.size j z h'))
