-- Behind what is ignored stands the first token, or bytes that start none, or the end.
use mathlib.Core.Path.{◌≡◌, refl, sym, ap, ◌∙◌}
use mathlib.Core.Bool.{Bool, true, false, cond}
use mathlib.Core.List.{List, [], ◌∷◌}
use mathlib.Core.Option.{Option, none, some}
use Prim.Native.Nat.{ℕ, ◌+◌, ◌<◌, ◌≤◌}
use native.Mathlib.Omega.{arith}
use lib.ListN.{length, take, drop, length-drop}
use Rattle.std.specs.Prelude.{Err}
use Rattle.paper.specs.Grammar.{nt}
use Rattle.paper.specs.Lexical.{What, is, ignored, comment, Piece}
use Rattle.paper.specs.Tokens.{what_of, line_end}
use Rattle.paper.proofs.Longest.{Match, scan}
use Rattle.paper.proofs.LexTables.{lexer}
use Rattle.paper.proofs.Lexing.{from, found, shown, or_bad}
use Rattle.paper_theory.proofs.LexingLaws.{piece_byte}
use Rattle.paper_theory.proofs.FromLaws.{piece_within}
use Rattle.text_scan.specs.Head.{head_of, token_read}
use Rattle.text_scan.specs.Piece.{piece_at, token_here, token_of, as_token, ignored_here, ignored_of, as_ignored}
use Rattle.text_tokens.proofs.KindLaws.{classed_kind}
use Rattle.text_tokens.proofs.Unroll.{piece_is, unroll, from_end}

ignored_within : (bs : List ℕ) → ignored_here bs ≤ length bs
unfolding ignored_here
ignored_within bs = go (piece_at bs) (piece_is bs)
  where
    line : (b : Bool) (n : ℕ) → n ≤ length bs → cond b n 0 ≤ length bs
    line true n h = h
    line false n h = omega arith

    by_what : (w : What) (n : ℕ) → n ≤ length bs → as_ignored w n bs ≤ length bs
    by_what (is c) n h = omega arith
    by_what ignored n h = h
    by_what comment n h = line (line_end (drop n bs)) n h

    go : (o : Option (Match ℕ What)) → scan lexer (nt Piece ∷ []) bs ≡ o → ignored_of bs o ≤ length bs
    go none e = omega arith
    go (some m) e = by_what (what_of m.events) m.size (piece_within bs m e)

-- an ignored piece ends within the text
pub ignored_in : (s : List ℕ) (i : ℕ) → i ≤ length s → i + ignored_here (drop i s) ≤ length s
ignored_in s i h = omega (arith, ignored_within (drop i s), length-drop i s)

-- nothing that is ignored begins as a token does
token_kept : (at : ℕ) (bs : List ℕ) (k a e : ℕ) → token_here at bs ≡ token_read k a e → ignored_here bs ≡ 0
unfolding ignored_here token_here
token_kept at bs k a e q = go (piece_at bs) q
  where
    by_what : (w : What) (n : ℕ) → as_token w at n ≡ token_read k a e → as_ignored w n bs ≡ 0
    by_what (is c) n z = refl
    by_what ignored n z = let x : ◌≡◌ {A = ℕ} 0 1 = cc in let y : ⊥ = omega arith in absurd y
    by_what comment n z = let x : ◌≡◌ {A = ℕ} 0 1 = cc in let y : ⊥ = omega arith in absurd y

    go : (o : Option (Match ℕ What)) → token_of at o ≡ token_read k a e → ignored_of bs o ≡ 0
    go none z = refl
    go (some m) z = by_what (what_of m.events) m.size z

module _ (s : List ℕ) (p : ℕ) where
  pub here_end : length s ≤ p → token_read 0 p p ≡ head_of (from s p)
  here_end k = rw (from_end s p k)

  -- where nothing is ignored the token that stands there is the first
  pub here_token : p < length s → ignored_here (drop p s) ≡ 0 → token_here p (drop p s) ≡ head_of (from s p)
  unfolding ignored_here token_here
  here_token h z = rw (unroll s p h) (go (piece_at (drop p s)) (piece_is (drop p s)) z)
    where
      line : (b : Bool) (n : ℕ) → 0 < n → cond b n 0 ≡ 0 → Err p ≡ head_of (or_bad b p (from s (p + n)))
      line true n l e = let y : ⊥ = omega arith in absurd y
      line false n l e = refl

      by_what : (w : What) (n : ℕ) → 0 < n → as_ignored w n (drop p s) ≡ 0 → as_token w p n ≡ head_of (shown w p n (drop p s) (from s (p + n)))
      by_what (is c) n l e = ap (λ (k : ℕ). token_read k p (p + n)) (sym (classed_kind c (take n (drop p s))))
      by_what ignored n l e = let y : ⊥ = omega arith in absurd y
      by_what comment n l e = line (line_end (drop n (drop p s))) n l e

      go : (o : Option (Match ℕ What)) → scan lexer (nt Piece ∷ []) (drop p s) ≡ o → ignored_of (drop p s) o ≡ 0 → token_of p o ≡ head_of (found (λ n. from s (p + n)) p (drop p s) o)
      go none q e = refl
      go (some m) q e = by_what (what_of m.events) m.size (piece_byte (drop p s) m q) e

  pub here_found : (k a e : ℕ) → p < length s → token_read k a e ≡ token_here p (drop p s) → token_read k a e ≡ head_of (from s p)
  here_found k a e h q = q ∙ here_token h (token_kept p (drop p s) k a e (sym q))
