-- One round of the tokens of a text: what stands at an offset, and the tokens from its end on.
use mathlib.Core.Path.{◌≡◌, refl, sym, ap, ◌∙◌}
use mathlib.Core.Bool.{Bool, true, false, cond}
use mathlib.Core.List.{List, [], ◌∷◌}
use mathlib.Core.Option.{Option, none, some}
use Prim.Native.Nat.{ℕ, suc, ◌+◌, ◌-◌, ◌≤◌, ◌<◌}
use native.Mathlib.Omega.{arith}
use lib.ListN.{length, drop, length-drop, drop_of_length-le}
use lib.Seq.{drop-drop}
use Rattle.paper.specs.Grammar.{nt}
use Rattle.paper.specs.Lexical.{What, is, ignored, comment, Piece}
use Rattle.paper.specs.Tokens.{Text, at_end, what_of, line_end}
use Rattle.paper.proofs.Longest.{Match, scan}
use Rattle.paper.proofs.LexTables.{lexer}
use Rattle.paper.proofs.Lexing.{text, from, found, shown, or_bad}
use Rattle.paper_theory.proofs.LexingLaws.{piece_byte, rounds}
use Rattle.text_scan.specs.Piece.{piece_at, ignored_here, ignored_of, as_ignored}

pub piece_is : (bs : List ℕ) → scan lexer (nt Piece ∷ []) bs ≡ piece_at bs
unfolding piece_at
piece_is bs = refl

-- where a byte stands at p, the tokens from p on are those of the piece there, and those from its end on
pub unroll : (s : List ℕ) (p : ℕ) → p < length s → from s p ≡ found (λ n. from s (p + n)) p (drop p s) (piece_at (drop p s))
unfolding from text piece_at
unroll s p h = go (drop p s) refl
  where
    rest : (n : ℕ) (bs : List ℕ) → drop p s ≡ bs → 0 < n → text (length s) (p + n) (drop n bs) ≡ text (suc (length s)) (p + n) (drop (p + n) s)
    rest n bs e z = rw (← e, drop-drop n p s) (rounds (length s) (suc (length s)) (p + n) (drop (p + n) s) (simp length-drop (omega arith)) (simp length-drop (omega arith)))

    pick : (b : ℕ) (bs : List ℕ) → drop p s ≡ b ∷ bs → (o : Option (Match ℕ What)) → scan lexer (nt Piece ∷ []) (b ∷ bs) ≡ o →
        found (λ n. text (length s) (p + n) (drop n (b ∷ bs))) p (b ∷ bs) o ≡ found (λ n. text (suc (length s)) (p + n) (drop (p + n) s)) p (b ∷ bs) o
    pick b bs e none q = refl
    pick b bs e (some m) q = ap (λ (t : Text). shown (what_of m.events) p m.size (b ∷ bs) t) (rest m.size (b ∷ bs) e (piece_byte (b ∷ bs) m q))

    go : (bs : List ℕ) → drop p s ≡ bs → text (suc (length s)) p bs ≡ found (λ n. text (suc (length s)) (p + n) (drop (p + n) s)) p bs (scan lexer (nt Piece ∷ []) bs)
    go [] e = let z : length s - p ≡ 0 = sym (length-drop p s) ∙ ap (λ (l : List ℕ). length l) e in let f : ⊥ = omega arith in absurd f
    go (b ∷ bs) e = pick b bs e (scan lexer (nt Piece ∷ []) (b ∷ bs)) refl

-- at the end there is none
pub from_end : (s : List ℕ) (p : ℕ) → length s ≤ p → from s p ≡ at_end p
unfolding from text
from_end s p h = rw (drop_of_length-le s h)

-- an ignored piece is passed over
pub from_skip : (s : List ℕ) (p n : ℕ) → p < length s → ignored_here (drop p s) ≡ n → (n ≡ 0 → ⊥) → from s p ≡ from s (p + n)
unfolding ignored_here
from_skip s p n h e z = unroll s p h ∙ go (piece_at (drop p s)) e
  where
    line : (b : Bool) (k : ℕ) → cond b k 0 ≡ n → or_bad b p (from s (p + k)) ≡ from s (p + n)
    line true k e = ap (λ (j : ℕ). from s (p + j)) e
    line false k e = absurd (z (sym e))

    by_what : (w : What) (k : ℕ) → as_ignored w k (drop p s) ≡ n → shown w p k (drop p s) (from s (p + k)) ≡ from s (p + n)
    by_what (is c) k e = absurd (z (sym e))
    by_what ignored k e = ap (λ (j : ℕ). from s (p + j)) e
    by_what comment k e = line (line_end (drop k (drop p s))) k e

    go : (o : Option (Match ℕ What)) → ignored_of (drop p s) o ≡ n → found (λ k. from s (p + k)) p (drop p s) o ≡ from s (p + n)
    go none e = absurd (z (sym e))
    go (some m) e = by_what (what_of m.events) m.size e
