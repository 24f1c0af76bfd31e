-- The tokens of a text lie one behind the other, and each has the bytes of a piece of its class.
use mathlib.Core.Path.{◌≡◌, refl, sym, ap, ◌∙◌, subst}
use mathlib.Core.Bool.{Bool, true, false}
use mathlib.Core.List.{List, [], ◌∷◌, ◌++◌}
use Prim.Native.Nat.{ℕ, suc, ◌+◌, ◌-◌, ◌≤◌}
use native.Mathlib.Omega.{arith}
use lib.Dec.{T}
use lib.ListN.{length, take, drop, length-append, length-drop}
use lib.Seq.{take_at, drop-drop}
use Rattle.paper.specs.Grammar.{Sym, nt, tm, act, Ev, toks, Derives, done, take as take-token, note, by}
use Rattle.paper.specs.Language.{Class, same_c, is_name_class, n_query, n_mutation, n_subscription, n_fragment, n_on, n_true, n_false, n_null, n_other}
use Rattle.paper.specs.Lexical.{Lex, Set, What, is, lexical, hits_byte, quote, StringValue, StringCharacter+}
use Rattle.paper.specs.Tokens.{Tok, Text, same, or_else, name_class, classed, Longest, Tokens, ends, starts_none, skips, comments, bad_comment, tokens}
use Rattle.paper.specs.Reading.{tokens_of}
use Rattle.paper_theory.proofs.Same.{by_two}
use mathlib.Core.Logic.{◌⊎◌, inl, inr}
use Rattle.value_strings.proofs.TokenSpells.{StringToken}
use Rattle.value_texts.proofs.Spanning.{Rise}

-- the bytes of s from one offset up to another
abbrev pub bytes_of : List ℕ → ℕ → ℕ → List ℕ
bytes_of s a e = take (e - a) (drop a s)

-- a piece of the text s, the longest where it stands
pub record Lies (s : List ℕ) (k : Tok) : Type 0 where
  pub piece : Class
  pub behind : List ℕ
  pub longest : Longest behind (bytes_of s k.start k.stop) (is piece)
  pub class_is : k.class ≡ classed piece (bytes_of s k.start k.stop)
  pub size : length (bytes_of s k.start k.stop) + k.start ≡ k.stop

piece_size : (bs p : List ℕ) (w : What) → Longest bs p w → length p ≤ length bs
piece_size bs p w l = subst (λ (z : List ℕ). length p ≤ length z) l.starts.0.1 (omega (arith, length-append p l.starts.0.0))

piece_first : (bs p : List ℕ) (w : What) → Longest bs p w → take (length p) bs ≡ p
piece_first bs p w l = subst (λ (z : List ℕ). take (length p) z ≡ p) l.starts.0.1 (take_at p l.starts.0.0 (length p) refl)

module _ (s : List ℕ) where
  -- bs stands at the offset
  record Stands (at : ℕ) (bs : List ℕ) : Type 0 where
    is : drop at s ≡ bs
    within : at ≤ length s

  stands_later : (at : ℕ) (bs p : List ℕ) (w : What) → Longest bs p w → Stands at bs → Stands (at + length p) (drop (length p) bs)
  stands_later at bs p w l h = record {
    is = sym (drop-drop (length p) at s) ∙ ap (drop (length p)) h.is;
    within = omega (arith, piece_size bs p w l, ap length h.is, length-drop at s, h.within);
  }

  token_lies : (at : ℕ) (bs p : List ℕ) (c : Class) → Longest bs p (is c) → Stands at bs → Lies s (record { class = classed c p; start = at; stop = at + length p })
  token_lies at bs p c l h =
      let e : at + length p - at ≡ length p = omega arith in
      let q : bytes_of s at (at + length p) ≡ p = ap (λ (n : ℕ). take n (drop at s)) e ∙ ap (take (length p)) h.is ∙ piece_first bs p (is c) l in
      record {
        piece = c;
        behind = bs;
        longest = subst (λ (z : List ℕ). Longest bs z (is c)) (sym q) l;
        class_is = ap (classed c) (sym q);
        size = let z = ap length q in omega arith;
      }

  tokens_rise : {at : ℕ} {bs : List ℕ} {t : Text} (a : ℕ) → a ≤ at → Stands at bs → Tokens at bs t → Rise (length s) (Lies s) a (tokens_of t)
  unfolding tokens_of
  tokens_rise a u h ends = omega (arith, h.within)
  tokens_rise a u h (starts_none n) = omega (arith, h.within)
  tokens_rise {at} {bs} a u h (skips p g r) = tokens_rise a (omega arith) (stands_later at bs p _ g h) r
  tokens_rise {at} {bs} a u h (comments p g e r) = tokens_rise a (omega arith) (stands_later at bs p _ g h) r
  tokens_rise a u h (bad_comment p g e) = omega (arith, h.within)
  tokens_rise {at} {bs} a u h (tokens p c g r) = (u, omega arith, token_lies at bs p c g h, tokens_rise (at + length p) (omega arith) (stands_later at bs p (is c) g h) r)

  pub text_rises : {t : Text} → Tokens 0 s t → Rise (length s) (Lies s) 0 (tokens_of t)
  text_rises k = tokens_rise 0 (omega arith) (record { is = refl; within = omega arith }) k

-- a token of a number's or string's class is a piece of that class
or_name : (b : Bool) (x y : Class) → T (is_name_class x) → T (is_name_class y) → T (is_name_class (or_else b x y))
or_name true x y h k = h
or_name false x y h k = k

name_class_is : (w : List ℕ) → T (is_name_class (name_class w))
name_class_is w =
    or_name (same w (113 ∷ 117 ∷ 101 ∷ 114 ∷ 121 ∷ [])) n_query _ tt
    (or_name (same w (109 ∷ 117 ∷ 116 ∷ 97 ∷ 116 ∷ 105 ∷ 111 ∷ 110 ∷ [])) n_mutation _ tt
    (or_name (same w (115 ∷ 117 ∷ 98 ∷ 115 ∷ 99 ∷ 114 ∷ 105 ∷ 112 ∷ 116 ∷ 105 ∷ 111 ∷ 110 ∷ [])) n_subscription _ tt
    (or_name (same w (102 ∷ 114 ∷ 97 ∷ 103 ∷ 109 ∷ 101 ∷ 110 ∷ 116 ∷ [])) n_fragment _ tt
    (or_name (same w (111 ∷ 110 ∷ [])) n_on _ tt
    (or_name (same w (116 ∷ 114 ∷ 117 ∷ 101 ∷ [])) n_true _ tt
    (or_name (same w (102 ∷ 97 ∷ 108 ∷ 115 ∷ 101 ∷ [])) n_false _ tt
    (or_name (same w (110 ∷ 117 ∷ 108 ∷ 108 ∷ [])) n_null n_other tt tt)))))))

piece_class : (c d : Class) (w : List ℕ) → (T (is_name_class d) → ⊥) → classed c w ≡ d → c ≡ d
piece_class c d w h q = go (same_c c n_other) q
  where
    go : (b : Bool) → or_else b (name_class w) c ≡ d → c ≡ d
    go true q = absurd (h (subst (λ (x : Class). T (is_name_class x)) q (name_class_is w)))
    go false q = q

pub lies_piece : (s : List ℕ) (k : Tok) (d : Class) → (T (is_name_class d) → ⊥) → Lies s k → k.class ≡ d → (bs : List ℕ) × Longest bs (bytes_of s k.start k.stop) (is d)
lies_piece s k d h l q =
    (l.behind, subst (λ (c : Class). Longest l.behind (bytes_of s k.start k.stop) (is c)) (piece_class l.piece d (bytes_of s k.start k.stop) h (sym l.class_is ∙ q)) l.longest)

-- a string token has two bytes at least
abbrev terminals : List (Sym Lex Set What) → ℕ
terminals [] = 0
terminals (nt n ∷ ss) = terminals ss
terminals (tm p ∷ ss) = suc (terminals ss)
terminals (act w ∷ ss) = terminals ss

terminals_behind : (α ss : List (Sym Lex Set What)) → terminals ss ≤ terminals (α ++ ss)
terminals_behind [] ss = omega arith
terminals_behind (nt n ∷ α) ss = terminals_behind α ss
terminals_behind (tm p ∷ α) ss = omega (arith, terminals_behind α ss)
terminals_behind (act w ∷ α) ss = terminals_behind α ss

terminals_taken : {ss : List (Sym Lex Set What)} {es : List (Ev ℕ What)} → Derives lexical hits_byte ss es → terminals ss ≤ length (toks es)
unfolding toks
terminals_taken done = omega arith
terminals_taken (take-token h d) = omega (arith, terminals_taken d)
terminals_taken (note d) = terminals_taken d
terminals_taken (by {α} {ss} m d) = omega (arith, terminals_behind α ss, terminals_taken d)

pub string_size : (p : List ℕ) → StringToken p → 2 ≤ length p
unfolding lexical
string_size p t = subst (λ (z : List ℕ). 2 ≤ length z) t.2 (go (by_two lexical hits_byte {n = StringValue} refl t.1))
  where
    go : Derives lexical hits_byte (tm quote ∷ tm quote ∷ []) t.0 ⊎ Derives lexical hits_byte (tm quote ∷ nt StringCharacter+ ∷ tm quote ∷ []) t.0 → 2 ≤ length (toks t.0)
    go (inl d) = terminals_taken d
    go (inr d) = terminals_taken d
