-- Each text has its tokens, and in one way only: those that `from` gives.
use mathlib.Core.Path.{◌≡◌, refl, sym, ap, ◌∙◌, subst}
use mathlib.Core.Bool.{Bool, true, false, not}
use mathlib.Core.List.{List, [], ◌∷◌}
use mathlib.Core.Option.{Option, none, some}
use Prim.Native.Nat.{ℕ, zero, suc, ◌+◌, ◌≤◌, ◌<◌, zero-le, suc-le-suc}
use native.Mathlib.Nat.{le_antisymm}
use native.Mathlib.Omega.{arith}
use lib.Dec.{T}
use lib.ListN.{length, take, drop, length-drop, length-append}
use lib.Seq.{length-take-le, take_at}
use Rattle.paper.specs.Grammar.{nt}
use Rattle.paper.specs.Lexical.{What, is, ignored, comment, Piece}
use Rattle.paper.specs.Tokens.{Text, bad, token, classed, what_of, Longest, line_end, Tokens, ends, starts_none, skips, comments, bad_comment, tokens}
use Rattle.paper_theory.proofs.Theory.{derives_null, unique}
use Rattle.paper.proofs.Longest.{scan, Match}
use Rattle.paper.proofs.LexTables.{lexer}
use Rattle.paper_theory.proofs.LexChecked.{fits_l}
use Rattle.paper_theory.proofs.LexSame.{lexical→factored}
use Rattle.paper.proofs.Lexing.{text, from, found, shown, or_bad}
use Rattle.paper_theory.proofs.LexingLaws.{Found, longest, piece_byte, rounds}
use Rattle.paper_theory.proofs.FromLaws.{piece_within}

-- what the machine finds is the longest piece
longest_is : (bs : List ℕ) (m : Match ℕ What) → scan lexer (nt Piece ∷ []) bs ≡ some m → Longest bs (take m.size bs) (what_of m.events)
unfolding Found
longest_is bs m q = record { events = m.events; starts = f.0; what = refl; most = λ p es s. rw (length-take-le m.size bs (piece_within bs m q)) (f.1 p es s) }
  where
    f : Found bs (some m)
    f = subst (λ (o : Option (Match ℕ What)). Found bs o) q (longest bs)

module _ (at : ℕ) (bs : List ℕ) (n : ℕ) (k : ℕ) (size : length (take n bs) ≡ n) (rest : Tokens (at + n) (drop n bs) (text k (at + n) (drop n bs))) where
  later : Tokens (at + length (take n bs)) (drop (length (take n bs)) bs) (text k (at + n) (drop n bs))
  later = rw size rest

  line : Longest bs (take n bs) comment → (b : Bool) → line_end (drop n bs) ≡ b → Tokens at bs (or_bad b at (text k (at + n) (drop n bs)))
  line l true e = comments (take n bs) l (rw (size, e) tt) later
  line l false e = bad_comment (take n bs) l (rw (size, e) tt)

  by_kind : (w : What) → Longest bs (take n bs) w → Tokens at bs (shown w at n bs (text k (at + n) (drop n bs)))
  by_kind (is c) l = subst (λ (z : ℕ). Tokens at bs (token (record { class = classed c (take n bs); start = at; stop = at + z }) (text k (at + n) (drop n bs)))) size (tokens (take n bs) c l later)
  by_kind ignored l = skips (take n bs) l later
  by_kind comment l = line l (line_end (drop n bs)) refl

pub text_tokens : (k at : ℕ) (bs : List ℕ) → length bs < k → Tokens at bs (text k at bs)
unfolding text Found
text_tokens zero at bs h = let z : ⊥ = omega arith in absurd z
text_tokens (suc k) at [] h = ends
text_tokens (suc k) at (b ∷ bs) h = go (scan lexer (nt Piece ∷ []) (b ∷ bs)) refl (longest (b ∷ bs)) (λ (n : ℕ) (l : length (drop n (b ∷ bs)) < k). text_tokens k (at + n) (drop n (b ∷ bs)) l)
  where
    fewer : (n : ℕ) → 0 < n → length (drop n (b ∷ bs)) < k
    fewer n l = simp length-drop (omega arith)

    go : (o : Option (Match ℕ What)) → scan lexer (nt Piece ∷ []) (b ∷ bs) ≡ o → Found (b ∷ bs) o →
        ((n : ℕ) → length (drop n (b ∷ bs)) < k → Tokens (at + n) (drop n (b ∷ bs)) (text k (at + n) (drop n (b ∷ bs)))) → Tokens at (b ∷ bs) (found (λ n. text k (at + n) (drop n (b ∷ bs))) at (b ∷ bs) o)
    go none q l f = starts_none l
    go (some m) q l f = by_kind at (b ∷ bs) m.size k (length-take-le m.size (b ∷ bs) (piece_within (b ∷ bs) m q)) (f m.size (fewer m.size (piece_byte (b ∷ bs) m q))) (what_of m.events) (longest_is (b ∷ bs) m q)

-- every text has its tokens
pub tokens_are : (s : List ℕ) → Tokens 0 s (from s 0)
unfolding from
tokens_are s = text_tokens (suc (length s)) 0 s (omega arith)

-- no piece is empty
filled : (bs p : List ℕ) (w : What) → Longest bs p w → 0 < length p
filled bs [] w l = absurd (derives_null fits_l (lexical→factored l.starts.1) l.starts.2)
filled bs (x ∷ p) w l = suc-le-suc zero-le

-- what the machine finds, where p is the longest piece
abbrev Is : List ℕ → List ℕ → What → Option (Match ℕ What) → Type 0
Is bs p w none = ⊥
Is bs p w (some m) = (m.size ≡ length p) × (what_of m.events ≡ w)

found_is : (bs p : List ℕ) (w : What) → Longest bs p w → Is bs p w (scan lexer (nt Piece ∷ []) bs)
unfolding Found
found_is bs p w l = go (scan lexer (nt Piece ∷ []) bs) refl (longest bs)
  where
    begins : (n : ℕ) → n ≡ length p → take n bs ≡ p
    begins n e = subst (λ (z : List ℕ). take n z ≡ p) l.starts.0.1 (take_at p l.starts.0.0 n (sym e))

    go : (o : Option (Match ℕ What)) → scan lexer (nt Piece ∷ []) bs ≡ o → Found bs o → Is bs p w o
    go none q f = f p l.events l.starts
    go (some m) q f = (size, ap what_of (unique fits_l (λ t h. absurd h, tt) (lexical→factored f.0.1) (lexical→factored l.starts.1) (f.0.2 ∙ begins m.size size ∙ sym l.starts.2)) ∙ l.what)
      where
        size : m.size ≡ length p
        size = le_antisymm (subst (λ (n : ℕ). n ≤ length p) (length-take-le m.size bs (piece_within bs m q)) (l.most (take m.size bs) m.events f.0)) (f.1 p l.events l.starts)

-- so the function takes it
text_longest : (k at b : ℕ) (bs p : List ℕ) (w : What) → Longest (b ∷ bs) p w → text (suc k) at (b ∷ bs) ≡ shown w at (length p) (b ∷ bs) (text k (at + length p) (drop (length p) (b ∷ bs)))
unfolding text
text_longest k at b bs p w l = go (scan lexer (nt Piece ∷ []) (b ∷ bs)) (found_is (b ∷ bs) p w l)
  where
    go : (o : Option (Match ℕ What)) → Is (b ∷ bs) p w o → found (λ n. text k (at + n) (drop n (b ∷ bs))) at (b ∷ bs) o ≡ shown w at (length p) (b ∷ bs) (text k (at + length p) (drop (length p) (b ∷ bs)))
    go none h = absurd h
    go (some m) h = rw (h.0, h.1) refl

-- as much again with the rounds that the bytes left need
text_shown : (at : ℕ) (bs p : List ℕ) (w : What) → Longest bs p w → text (suc (length bs)) at bs ≡ shown w at (length p) bs (text (suc (length (drop (length p) bs))) (at + length p) (drop (length p) bs))
text_shown at [] p w l = let a = filled [] p w l in let z : ⊥ = omega (arith, a, short) in absurd z
  where
    short : length p ≤ 0
    short = let e = sym (length-append p l.starts.0.0) ∙ ap (λ (z : List ℕ). length z) l.starts.0.1 in omega (arith, e)
text_shown at (b ∷ bs) p w l =
    text_longest (length (b ∷ bs)) at b bs p w l ∙
    ap (λ (t : Text). shown w at (length p) (b ∷ bs) t) (rounds (length (b ∷ bs)) (suc (length (drop (length p) (b ∷ bs)))) (at + length p) (drop (length p) (b ∷ bs)) fewer (omega arith))
  where
    fewer : length (drop (length p) (b ∷ bs)) < length (b ∷ bs)
    fewer = let a = filled (b ∷ bs) p w l in simp length-drop (omega (arith, a))

begins : (bs p : List ℕ) (w : What) → Longest bs p w → take (length p) bs ≡ p
begins bs p w l = subst (λ (z : List ℕ). take (length p) z ≡ p) l.starts.0.1 (take_at p l.starts.0.0 (length p) refl)

line_over : (b : Bool) (at : ℕ) (t : Text) → T b → or_bad b at t ≡ t
line_over true at t h = refl
line_over false at t h = absurd h

line_bad : (b : Bool) (at : ℕ) (t : Text) → T (not b) → or_bad b at t ≡ bad at
line_bad true at t h = absurd h
line_bad false at t h = refl

-- the tokens are those that the function gives
pub tokens_text : {at : ℕ} {bs : List ℕ} {t : Text} → Tokens at bs t → t ≡ text (suc (length bs)) at bs
unfolding text Found
tokens_text ends = refl
tokens_text (starts_none {at} {b} {bs} h) = go (scan lexer (nt Piece ∷ []) (b ∷ bs)) (longest (b ∷ bs))
  where
    go : (o : Option (Match ℕ What)) → Found (b ∷ bs) o → bad at ≡ found (λ n. text (length (b ∷ bs)) (at + n) (drop n (b ∷ bs))) at (b ∷ bs) o
    go none f = refl
    go (some m) f = absurd (h (take m.size (b ∷ bs)) m.events f.0)
tokens_text (skips {at} {bs} p l d) = tokens_text d ∙ sym (text_shown at bs p ignored l)
tokens_text (comments {at} {bs} p l e d) = tokens_text d ∙ sym (text_shown at bs p comment l ∙ line_over (line_end (drop (length p) bs)) at (text (suc (length (drop (length p) bs))) (at + length p) (drop (length p) bs)) e)
tokens_text (bad_comment {at} {bs} p l e) = sym (text_shown at bs p comment l ∙ line_bad (line_end (drop (length p) bs)) at (text (suc (length (drop (length p) bs))) (at + length p) (drop (length p) bs)) e)
tokens_text (tokens {at} {bs} p c l d) =
    ap (λ (t : Text). token (record { class = classed c p; start = at; stop = at + length p }) t) (tokens_text d) ∙
    ap (λ (z : List ℕ). token (record { class = classed c z; start = at; stop = at + length p }) (text (suc (length (drop (length p) bs))) (at + length p) (drop (length p) bs))) (sym (begins bs p (is c) l)) ∙
    sym (text_shown at bs p (is c) l)

-- in one way only
pub tokens_one : {at : ℕ} {bs : List ℕ} {t t' : Text} → Tokens at bs t → Tokens at bs t' → t ≡ t'
tokens_one a b = tokens_text a ∙ sym (tokens_text b)

pub tokens_from : {s : List ℕ} {t : Text} → Tokens 0 s t → t ≡ from s 0
unfolding from
tokens_from a = tokens_text a
