-- What a piece can be, told by its first byte: of one that begins so, each mark is of one sort.
use mathlib.Core.Path.{◌≡◌, refl, subst}
use mathlib.Core.Bool.{Bool, true, false, ◌&&◌, ◌||◌, not}
use mathlib.Core.List.{List, [], ◌∷◌, ◌++◌}
use mathlib.Core.Option.{Option, none, some}
use Prim.Native.Nat.{ℕ, ◌<◌}
use native.Mathlib.Omega.{arith}
use lib.Dec.{T, eqb, eqb→eq}
use Rattle.std.specs.Prelude.{Err}
use Rattle.paper.specs.Grammar.{nt, tm, act, Ev, tok, mark, Derives, done, take, note, by}
use Rattle.paper.specs.Language.{int, float}
use Rattle.paper.specs.Lexical.{Lex, Set, What, is, ignored, comment, Piece, Number, NumberRest, lexical, hits_byte, letter, digit, span}
use Rattle.paper.specs.Tokens.{what_of}
use Rattle.paper.proofs.Machine.{Step, took, emptied, refused, spent, step, enter, choose}
use Rattle.paper.proofs.Bools.{and_l, and_r, and_i}
use Rattle.paper_theory.proofs.Theory.{none≢some, Kept, kept_step}
use Rattle.paper_theory.proofs.Test.{all, all_at, all_mem, implies, implies_out}
use Rattle.paper.proofs.Longest.{Match, scan, longer, further}
use Rattle.paper_theory.proofs.LongestLaws.{Best, best}
use Rattle.paper.proofs.LexTables.{lexer, lex_factored, all_l, num_l, at_l, same_l}
use Rattle.paper_theory.proofs.LexChecked.{fits_l, follow_l}
use Rattle.text_scan.specs.Piece.{piece_at, token_here, token_of, as_token, ignored_here, ignored_of, as_ignored}
use Rattle.text_tokens.specs.Skip.{is_punctuator}
use Rattle.text_characters.proofs.ByteLaws.{from_all}
use Rattle.text_scan.proofs.ReadLaws.{Stack}
use Rattle.text_tokens.proofs.StepLaws.{end_piece}

-- the parts that write no mark
abbrev silent : Lex → Bool
silent n = not (same_l Piece n || (same_l Number n || same_l NumberRest n))

abbrev silent_s : Stack → Bool
silent_s [] = true
silent_s (nt n ∷ ss) = silent n && silent_s ss
silent_s (tm p ∷ ss) = silent_s ss
silent_s (act w ∷ ss) = false

silent_prods : (n : Lex) → T (implies (silent n) (all silent_s (lex_factored n)))
unfolding lex_factored lexical
silent_prods n = all_at (λ m. implies (silent m) (all silent_s (lex_factored m))) all_l (num_l n) tt (at_l n)

abbrev pub is_token : What → Bool
is_token (is c) = true
is_token ignored = false
is_token comment = false

module _ (good : What → Bool) where
  abbrev numbers : Lex → Bool
  numbers n = same_l NumberRest n && (good (is int) && good (is float))

  abbrev or_s : Bool → Bool → Bool → Bool
  or_s true a b = a
  or_s false a b = b

  -- the first mark that a stack writes is good
  abbrev good_s : Stack → Bool
  good_s [] = false
  good_s (nt n ∷ ss) = or_s (silent n) (good_s ss) (numbers n)
  good_s (tm p ∷ ss) = good_s ss
  good_s (act w ∷ ss) = good w

  good_silent : (xs ys : Stack) → T (silent_s xs) → T (good_s ys) → T (good_s (xs ++ ys))
  good_silent [] ys h k = k
  good_silent (nt n ∷ xs) ys h k = go (silent n) h (λ (t : T (silent_s xs)). good_silent xs ys t k)
    where
      go : (b : Bool) → T (b && silent_s xs) → (T (silent_s xs) → T (good_s (xs ++ ys))) → T (or_s b (good_s (xs ++ ys)) (numbers n))
      go true t f = f t
      go false t f = absurd t
  good_silent (tm p ∷ xs) ys h k = good_silent xs ys h k
  good_silent (act w ∷ xs) ys h k = absurd h

  good_append : (xs ys : Stack) → T (good_s xs) → T (good_s (xs ++ ys))
  good_append [] ys h = absurd h
  good_append (nt n ∷ xs) ys h = go (silent n) h (λ (t : T (good_s xs)). good_append xs ys t)
    where
      go : (b : Bool) → T (or_s b (good_s xs) (numbers n)) → (T (good_s xs) → T (good_s (xs ++ ys))) → T (or_s b (good_s (xs ++ ys)) (numbers n))
      go true t f = f t
      go false t f = t
  good_append (tm p ∷ xs) ys h = good_append xs ys h
  good_append (act w ∷ xs) ys h = h

  numbers_prods : (n : Lex) → T (numbers n) → T (all good_s (lex_factored n))
  unfolding lex_factored lexical
  numbers_prods n h = subst (λ (m : Lex). T (all good_s (lex_factored m))) rest (and_i (good (is int)) (good (is float) && (good (is float) && true)) i (and_i (good (is float)) (good (is float) && true) f (and_i (good (is float)) true f tt)))
    where
      both : T (good (is int) && good (is float))
      both = and_r (same_l NumberRest n) (good (is int) && good (is float)) h

      i : T (good (is int))
      i = and_l (good (is int)) (good (is float)) both

      f : T (good (is float))
      f = and_r (good (is int)) (good (is float)) both

      rest : NumberRest ≡ n
      rest = let q : num_l NumberRest ≡ num_l n = eqb→eq (num_l NumberRest) (num_l n) (and_l (same_l NumberRest n) (good (is int) && good (is float)) h) in cc (at_l NumberRest, at_l n)

  good_derives : {σ : Stack} {es : List (Ev ℕ What)} → Derives lex_factored hits_byte σ es → T (good_s σ) → T (good (what_of es))
  good_derives done h = absurd h
  good_derives (take t d) h = good_derives d h
  good_derives (note d) h = h
  good_derives (by {n} {α} {ss} m d) h = good_derives d (go (silent n) (silent_prods n) h)
    where
      go : (b : Bool) → T (implies b (all silent_s (lex_factored n))) → T (or_s b (good_s ss) (numbers n)) → T (good_s (α ++ ss))
      go true q t = good_silent α ss (all_mem silent_s q m) t
      go false q t = good_append α ss (all_mem good_s (numbers_prods n t) m)

  scan_good : (bs : List ℕ) (σ : Stack) → Kept lexer follow_l σ → T (good_s σ) → (m : Match ℕ What) → scan lexer σ bs ≡ some m → T (good (what_of m.events))
  scan_good bs σ k h m q = good_derives b.0 h
    where
      b : Best fits_l σ bs (some m)
      b = subst (λ (o : Option (Match ℕ What)). Best fits_l σ bs o) q (best fits_l bs σ k)

  -- the same of a step: it writes no mark, and the first mark behind it is good
  abbrev bare : List (Ev ℕ What) → Bool
  bare [] = true
  bare (tok c ∷ es) = bare es
  bare (mark w ∷ es) = false

  abbrev good_step : Step Lex Set ℕ What → Bool
  good_step (took es σ) = bare es && good_s σ
  good_step (emptied es) = false
  good_step refused = true
  good_step spent = false

  bare_what : (es fs : List (Ev ℕ What)) → T (bare es) → what_of (es ++ fs) ≡ what_of fs
  bare_what [] fs h = refl
  bare_what (tok c ∷ es) fs h = bare_what es fs h
  bare_what (mark w ∷ es) fs h = absurd h

  piece_good : (b : ℕ) (bs : List ℕ) → T (good_step (step lexer (nt Piece ∷ []) (some b))) → (m : Match ℕ What) → scan lexer (nt Piece ∷ []) (b ∷ bs) ≡ some m → T (good (what_of m.events))
  unfolding scan
  piece_good b bs h m q = go (step lexer (nt Piece ∷ []) (some b)) refl h (rw end_piece at q)
    where
      deep : (es : List (Ev ℕ What)) (σ : Stack) → T (bare es) → ((m : Match ℕ What) → scan lexer σ bs ≡ some m → T (good (what_of m.events))) →
          (o : Option (Match ℕ What)) → scan lexer σ bs ≡ o → longer lexer es o none ≡ some m → T (good (what_of m.events))
      deep es σ t f none e z = absurd (none≢some z)
      deep es σ t f (some k) e z =
          let w : es ++ k.events ≡ m.events = cc in
          subst (λ (fs : List (Ev ℕ What)). T (good (what_of fs))) w (rw (bare_what es k.events t) (f k e))

      go : (s : Step Lex Set ℕ What) → step lexer (nt Piece ∷ []) (some b) ≡ s → T (good_step s) → further lexer (λ σ'. scan lexer σ' bs) s none ≡ some m → T (good (what_of m.events))
      go (took es σ) e t z = deep es σ (and_l (bare es) (good_s σ) t) (scan_good bs σ (kept_step fits_l (nt Piece ∷ []) b (λ u k. absurd k, tt) e) (and_r (bare es) (good_s σ) t)) (scan lexer σ bs) refl z
      go (emptied es) e t z = absurd t
      go refused e t z = absurd (none≢some z)
      go spent e t z = absurd t

abbrev pub no_token : What → Bool
no_token w = not (is_token w)

-- no token begins so
pub not_token : (b at : ℕ) (bs : List ℕ) → T (good_step no_token (step lexer (nt Piece ∷ []) (some b))) → token_here at (b ∷ bs) ≡ Err at
unfolding token_here piece_at
not_token b at bs h = go (scan lexer (nt Piece ∷ []) (b ∷ bs)) refl
  where
    by_what : (w : What) (n : ℕ) → T (no_token w) → as_token w at n ≡ Err at
    by_what (is c) n t = absurd t
    by_what ignored n t = refl
    by_what comment n t = refl

    go : (o : Option (Match ℕ What)) → scan lexer (nt Piece ∷ []) (b ∷ bs) ≡ o → token_of at o ≡ Err at
    go none e = refl
    go (some m) e = by_what (what_of m.events) m.size (piece_good no_token b bs h m e)

-- nothing ignored begins so
pub not_ignored : (b : ℕ) (bs : List ℕ) → T (good_step is_token (step lexer (nt Piece ∷ []) (some b))) → ignored_here (b ∷ bs) ≡ 0
unfolding ignored_here piece_at
not_ignored b bs h = go (scan lexer (nt Piece ∷ []) (b ∷ bs)) refl
  where
    by_what : (w : What) (n : ℕ) → T (is_token w) → as_ignored w n (b ∷ bs) ≡ 0
    by_what (is c) n t = refl
    by_what ignored n t = absurd t
    by_what comment n t = absurd t

    go : (o : Option (Match ℕ What)) → scan lexer (nt Piece ∷ []) (b ∷ bs) ≡ o → ignored_of (b ∷ bs) o ≡ 0
    go none e = refl
    go (some m) e = by_what (what_of m.events) m.size (piece_good is_token b bs h m e)

-- of the 256 bytes: those that begin neither a token nor a number
abbrev begins_token : ℕ → Bool
begins_token b = hits_byte letter b || (hits_byte digit b || (is_punctuator b || (eqb b 34 || (eqb b 46 || eqb b 45))))

pub bad_byte : (b : ℕ) → b < 256 → T (not (begins_token b)) → (at : ℕ) (bs : List ℕ) → token_here at (b ∷ bs) ≡ Err at
unfolding step enter choose lex_factored lexical is_punctuator
bad_byte b h t at bs =
    not_token b at bs (implies_out (not (begins_token b)) (good_step no_token (step lexer (nt Piece ∷ []) (some b)))
    (from_all 0 256 (λ k. implies (not (begins_token k)) (good_step no_token (step lexer (nt Piece ∷ []) (some k)))) tt b (omega arith) (omega arith)) t)

-- those that begin nothing ignored
abbrev pub blank : Set
blank = span 0x09 0x0a ∷ span 0x0d 0x0d ∷ span 0x20 0x20 ∷ span 0x23 0x23 ∷ span 0x2c 0x2c ∷ span 0xef 0xef ∷ []

pub kept_byte : (b : ℕ) → b < 256 → hits_byte blank b ≡ false → (bs : List ℕ) → ignored_here (b ∷ bs) ≡ 0
unfolding step enter choose lex_factored lexical
kept_byte b h q bs =
    not_ignored b bs (implies_out (not (hits_byte blank b)) (good_step is_token (step lexer (nt Piece ∷ []) (some b)))
    (from_all 0 256 (λ k. implies (not (hits_byte blank k)) (good_step is_token (step lexer (nt Piece ∷ []) (some k)))) tt b (omega arith) (omega arith)) (rw q tt))
