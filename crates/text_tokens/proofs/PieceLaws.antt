-- What stands at the front of some bytes, told by the first of them: names, punctuators, the spread, and what is ignored.
use mathlib.Core.Path.{◌≡◌, refl, sym, ap, ◌∙◌, subst}
use mathlib.Core.Bool.{Bool, true, false, cond, ◌||◌}
use mathlib.Core.List.{List, [], ◌∷◌}
use mathlib.Core.Option.{some}
use Prim.Native.Nat.{ℕ, suc, ◌+◌, ◌-◌, ◌<◌, ◌≤◌}
use native.Mathlib.Omega.{arith}
use borrow.Author.Tests.{ne_eqb, eqb-true, eqb-false}
use lib.Dec.{eqb}
use lib.ListN.{length, get_or, drop, length-drop}
use Rattle.std.specs.Prelude.{Err}
use Rattle.paper.specs.Grammar.{nt, tm, act, tok}
use Rattle.paper.specs.Language.{Class, bang, dollar, paren_l, paren_r, spread, colon, equals, at_sign, bracket_l, bracket_r, brace_l, bar, brace_r, n_other}
use Rattle.paper.specs.Lexical.{Set, What, span, is, ignored, Piece, letter, letter_or_digit, lexical, hits_byte}
use Rattle.paper.proofs.Machine.{took, step, enter, choose}
use Rattle.paper.proofs.LexTables.{lexer, lex_factored}
use Rattle.text_scan.specs.Head.{kind_of, token_read}
use Rattle.text_scan.specs.Piece.{token_here, ignored_here}
use Rattle.text_scan.specs.Run.{run_of}
use Rattle.text_tokens.specs.Skip.{among, punctuators, is_punctuator, blanks, is_blank}
use Rattle.text_characters.proofs.ByteLaws.{front, bytes_agree}
use Rattle.text_tokens.proofs.NumberParts.{miss_one}
use Rattle.text_scan.proofs.ReadLaws.{Stack, Read, Nothing, read_take, read_mark, read_run, nothing_take, nothing_refused, nothing_end, read_token, nothing_token, read_ignored, nothing_ignored}
use Rattle.text_tokens.proofs.StepLaws.{taken, missed, end_tm, end_piece, repeats_name, step_letter}
use Rattle.text_tokens.proofs.WhatLaws.{blank, kept_byte}

-- a name goes to the last of its characters
pub name_here : (b at : ℕ) (bs : List ℕ) → hits_byte letter b ≡ true → token_here at (b ∷ bs) ≡ token_read 1 at (at + suc (run_of letter_or_digit bs + 0))
name_here b at bs h = read_token (b ∷ bs) (read_take (step_letter b h) (read_run repeats_name (act (is n_other) ∷ []) bs 0 (is n_other) (read_mark (is n_other) (drop (run_of letter_or_digit bs) bs)))) at

-- a fact of each number of a list, at one that is among them
abbrev Every : (ℕ → Type 0) → List ℕ → Type 0
Every P [] = Unit {0}
Every P (m ∷ ms) = P m × Every P ms

among_every : (P : ℕ → Type 0) (ms : List ℕ) → Every P ms → (b : ℕ) → among ms b ≡ true → P b
among_every P [] t b h = let z : ◌≡◌ {A = ℕ} 0 1 = cc in let y : ⊥ = omega arith in absurd y
among_every P (m ∷ ms) t b h = go (eqb b m) refl h (λ (k : among ms b ≡ true). among_every P ms t.1 b k)
  where
    go : (v : Bool) → eqb b m ≡ v → cond v true (among ms b) ≡ true → (among ms b ≡ true → P b) → P b
    go true q k f = subst P (sym (eqb-true b m q)) t.0
    go false q k f = f k

-- a punctuator of one byte
Mark : ℕ → Type 0
Mark b = (c : Class) × (kind_of c ≡ b) × (step lexer (nt Piece ∷ []) (some b) ≡ took (tok b ∷ []) (act (is c) ∷ []))

marks : (b : ℕ) → is_punctuator b ≡ true → Mark b
unfolding step enter choose lex_factored lexical is_punctuator Mark
marks b h =
    among_every Mark punctuators (
      (brace_l, refl, refl),
      (
        (brace_r, refl, refl),
        (
          (paren_l, refl, refl),
          (
            (paren_r, refl, refl),
            (
              (colon, refl, refl),
              (
                (dollar, refl, refl),
                ((at_sign, refl, refl), ((bracket_l, refl, refl), ((bracket_r, refl, refl), ((bang, refl, refl), ((equals, refl, refl), ((bar, refl, refl), tt)))))),
              ),
            ),
          ),
        ),
      ),
    ) b h

pub mark_here : (b at : ℕ) (bs : List ℕ) → is_punctuator b ≡ true → token_here at (b ∷ bs) ≡ token_read b at (at + 1)
unfolding Mark
mark_here b at bs h = let m = marks b h in read_token (b ∷ bs) (read_take m.2 (read_mark (is m.0) bs)) at ∙ ap (λ (k : ℕ). token_read k at (at + 1)) m.1

-- a byte that is ignored by itself
Blank : ℕ → Type 0
Blank b = step lexer (nt Piece ∷ []) (some b) ≡ took (tok b ∷ []) (act ignored ∷ [])

blank_step : (b : ℕ) → is_blank b ≡ true → Blank b
unfolding step enter choose lex_factored lexical is_blank Blank
blank_step b h = among_every Blank blanks (refl, (refl, (refl, (refl, (refl, tt))))) b h

blank_here : (b : ℕ) (bs : List ℕ) → is_blank b ≡ true → ignored_here (b ∷ bs) ≡ 1
unfolding Blank
blank_here b bs h = read_ignored _ (read_take (blank_step b h) (read_mark ignored bs))

-- two bytes, v and u, and nothing else
abbrev one : ℕ → Set
one v = span v v ∷ []

module _ (v u : ℕ) (w : What) where
  abbrev Two : Stack
  Two = tm (one v) ∷ tm (one u) ∷ act w ∷ []

  abbrev Second : Stack
  Second = tm (one u) ∷ act w ∷ []

  two_yes : (bs : List ℕ) → hits_byte (one v) v ≡ true → hits_byte (one u) u ≡ true → Read Two (v ∷ u ∷ bs) 2 w
  two_yes bs h k = read_take (taken v (one v) Second h) (read_take (taken u (one u) (act w ∷ []) k) (read_mark w bs))

  two_first : (b : ℕ) (bs : List ℕ) → (b ≡ v → ⊥) → Nothing Two (b ∷ bs)
  two_first b bs h = nothing_refused (missed b (one v) Second (miss_one v b h)) (end_tm (one v) Second)

  two_second : (b : ℕ) (bs : List ℕ) → hits_byte (one v) v ≡ true → (b ≡ u → ⊥) → Nothing Two (v ∷ b ∷ bs)
  two_second b bs k h =
      nothing_take (taken v (one v) Second k) (end_tm (one v) Second) (nothing_refused (missed b (one u) (act w ∷ []) (miss_one u b h)) (end_tm (one u) (act w ∷ [])))

  two_short : (bs : List ℕ) → length bs < 2 → Nothing Two bs
  two_short [] h = nothing_end (end_tm (one v) Second)
  two_short (b ∷ []) h = go (hits_byte (one v) b) refl
    where
      go : (t : Bool) → hits_byte (one v) b ≡ t → Nothing Two (b ∷ [])
      go true q = nothing_take (taken b (one v) Second q) (end_tm (one v) Second) (nothing_end (end_tm (one u) (act w ∷ [])))
      go false q = nothing_refused (missed b (one v) Second q) (end_tm (one v) Second)
  two_short (b ∷ c ∷ bs) h = let z : ⊥ = omega arith in absurd z

-- three dots, and no fewer
dots : step lexer (nt Piece ∷ []) (some 46) ≡ took (tok 46 ∷ []) (Two 46 46 (is spread))
unfolding step enter choose lex_factored lexical
dots = refl

-- the byte order mark
order : step lexer (nt Piece ∷ []) (some 239) ≡ took (tok 239 ∷ []) (Two 187 191 ignored)
unfolding step enter choose lex_factored lexical
order = refl

-- the bytes that begin what is ignored
abbrev listed : ℕ → Bool
listed b = is_blank b || (eqb b 35 || eqb b 239)

module _ (s : List ℕ) (i : ℕ) (h : i < length s) where
  abbrev At : ℕ → ℕ
  At k = get_or s (i + k) 0

  from_at : (k : ℕ) → get_or s i 0 ≡ k → drop i s ≡ k ∷ drop (i + 1) s
  from_at k q = front s i h ∙ ap (λ (b : ℕ). b ∷ drop (i + 1) s) q

  next_at : i + 1 < length s → drop (i + 1) s ≡ At 1 ∷ drop (i + 1 + 1) s
  next_at l = front s (i + 1) l

  third_at : i + 2 < length s → drop (i + 1 + 1) s ≡ At 2 ∷ drop (i + 2 + 1) s
  third_at l = let k : i + 1 + 1 ≡ i + 2 = omega arith in rw k (front s (i + 2) l)

  short : length s - i < 3 → length (drop (i + 1) s) < 2
  short l = simp length-drop (omega arith)

  pub spread_short : get_or s i 0 ≡ 46 → length s - i < 3 → Err i ≡ token_here i (drop i s)
  spread_short q l = sym (rw (from_at 46 q) (nothing_token (46 ∷ drop (i + 1) s) (nothing_take dots end_piece (two_short 46 46 (is spread) (drop (i + 1) s) (short l))) i))

  pub spread_yes : get_or s i 0 ≡ 46 → 3 ≤ length s - i → At 1 ≡ 46 → At 2 ≡ 46 → token_read 5 i (i + 3) ≡ token_here i (drop i s)
  spread_yes q l a b = sym (rw (from_at 46 q, next_at (omega arith), third_at (omega arith), a, b) (read_token _ (read_take dots (two_yes 46 46 (is spread) (drop (i + 2 + 1) s) refl refl)) i))

  pub spread_third : get_or s i 0 ≡ 46 → 3 ≤ length s - i → At 1 ≡ 46 → (At 2 ≡ 46 → ⊥) → Err i ≡ token_here i (drop i s)
  spread_third q l a b = sym (rw (from_at 46 q, next_at (omega arith), third_at (omega arith), a) (nothing_token _ (nothing_take dots end_piece (two_second 46 46 (is spread) (At 2) (drop (i + 2 + 1) s) refl b)) i))

  pub spread_second : get_or s i 0 ≡ 46 → 3 ≤ length s - i → (At 1 ≡ 46 → ⊥) → Err i ≡ token_here i (drop i s)
  spread_second q l a = sym (rw (from_at 46 q, next_at (omega arith)) (nothing_token _ (nothing_take dots end_piece (two_first 46 46 (is spread) (At 1) (drop (i + 1 + 1) s) a)) i))

  pub order_short : get_or s i 0 ≡ 239 → length s - i < 3 → 0 ≡ ignored_here (drop i s)
  order_short q l = sym (rw (from_at 239 q) (nothing_ignored _ (nothing_take order end_piece (two_short 187 191 ignored (drop (i + 1) s) (short l)))))

  pub order_second : get_or s i 0 ≡ 239 → 3 ≤ length s - i → (At 1 ≡ 187 → ⊥) → 0 ≡ ignored_here (drop i s)
  order_second q l a = sym (rw (from_at 239 q, next_at (omega arith)) (nothing_ignored _ (nothing_take order end_piece (two_first 187 191 ignored (At 1) (drop (i + 1 + 1) s) a))))

  order_yes : get_or s i 0 ≡ 239 → 3 ≤ length s - i → At 1 ≡ 187 → At 2 ≡ 191 → 3 ≡ ignored_here (drop i s)
  order_yes q l a b = sym (rw (from_at 239 q, next_at (omega arith), third_at (omega arith), a, b) (read_ignored _ (read_take order (two_yes 187 191 ignored (drop (i + 2 + 1) s) refl refl))))

  order_no : get_or s i 0 ≡ 239 → 3 ≤ length s - i → At 1 ≡ 187 → (At 2 ≡ 191 → ⊥) → 0 ≡ ignored_here (drop i s)
  order_no q l a b = sym (rw (from_at 239 q, next_at (omega arith), third_at (omega arith), a) (nothing_ignored _ (nothing_take order end_piece (two_second 187 191 ignored (At 2) (drop (i + 2 + 1) s) refl b))))

  pub order_third : get_or s i 0 ≡ 239 → 3 ≤ length s - i → At 1 ≡ 187 → cond (eqb (At 2) 191) 3 0 ≡ ignored_here (drop i s)
  order_third q l a = go (eqb (At 2) 191) refl
    where
      go : (t : Bool) → eqb (At 2) 191 ≡ t → cond t 3 0 ≡ ignored_here (drop i s)
      go true e = order_yes q l a (eqb-true (At 2) 191 e)
      go false e = order_no q l a (eqb-false (At 2) 191 e)

  -- a blank, and any other byte that begins nothing that is ignored
  pub blank_at : is_blank (get_or s i 0) ≡ true → ignored_here (drop i s) ≡ 1
  blank_at q = rw (front s i h) (blank_here (get_or s i 0) (drop (i + 1) s) q)

  pub no_blank : get_or s i 0 < 256 → is_blank (get_or s i 0) ≡ false → (get_or s i 0 ≡ 35 → ⊥) → (get_or s i 0 ≡ 239 → ⊥) → 0 ≡ ignored_here (drop i s)
  unfolding is_blank
  no_blank l a f g =
      let q = bytes_agree listed (hits_byte blank) 0 256 tt (get_or s i 0) (omega arith) (omega arith) in
      let n : listed (get_or s i 0) ≡ false = rw (a, ne_eqb _ _ f, ne_eqb _ _ g) in
      sym (rw (front s i h) (kept_byte (get_or s i 0) l (sym q ∙ n) (drop (i + 1) s)))

  -- a name and a punctuator at a place
  pub name_at : (e : ℕ) → hits_byte letter (get_or s i 0) ≡ true → e ≡ i + 1 + run_of letter_or_digit (drop (i + 1) s) → token_read 1 i e ≡ token_here i (drop i s)
  name_at e q z = sym (rw (front s i h) (name_here (get_or s i 0) i (drop (i + 1) s) q ∙ ap (λ (k : ℕ). token_read 1 i k) (omega arith)))

  pub mark_at : is_punctuator (get_or s i 0) ≡ true → token_read (get_or s i 0) i (i + 1) ≡ token_here i (drop i s)
  mark_at q = sym (rw (front s i h) (mark_here (get_or s i 0) i (drop (i + 1) s) q))
