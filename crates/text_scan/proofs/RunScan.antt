-- What the machine reads of the characters of a string and of a comment, one after the other.
-- Assumes nothing.
use mathlib.Core.Path.{◌≡◌, refl, sym, ap, ◌∙◌, subst}
use mathlib.Core.Bool.{Bool, true, false, ◌&&◌, ◌||◌}
use mathlib.Core.List.{List, [], ◌∷◌, Memᴰ}
use mathlib.Core.Option.{none, some}
use mathlib.Core.Logic.{◌⊎◌, inl, inr}
use Prim.Native.Nat.{ℕ, zero, suc}
use native.Mathlib.Omega.{arith}
use lib.Dec.{T, leb, ltb, leb→le}
use lib.ListN.{drop}
use Rattle.paper.specs.Grammar.{nt, tm, act}
use Rattle.paper.specs.Language.{string}
use Rattle.paper.specs.Lexical.{Lex, What, span, is, comment, lexical, hits_byte, quote, StringCharacter, StringCharacter*, CommentCharacter, CommentCharacter*}
use Rattle.paper.proofs.Machine.{step, choose, enter}
use Rattle.paper_theory.proofs.Theory.{step_by, choose_first, choose_null}
use Rattle.paper.proofs.Bools.{or_l, or_cases, and_l, and_r}
use Rattle.paper.proofs.Longest.{scan}
use Rattle.paper.proofs.LexTables.{lexer, lex_factored}
use Rattle.paper_theory.proofs.LexChecked.{fits_l}
use Rattle.text_characters.specs.Characters.{character_size}
use Rattle.text_scan.specs.Parts.{part_size}
use Rattle.text_scan.proofs.ReadLaws.{Stack}
use Rattle.text_scan.proofs.ScanLaws.{Seen, seen, more, grow, or_that, or_none, scan_same, scan_or, after}
use Rattle.text_scan.proofs.CharacterScan.{is_true, is_false, not_true, scan_comment_character, scan_string_character, character_none, part_none}

-- a repetition r of the part n
module _ (r n : Lex) (stop : Memᴰ [] (lex_factored r)) (go_on : Memᴰ (nt n ∷ nt r ∷ []) (lex_factored r)) (firsts : (b : ℕ) → lexer.first r b ≡ lexer.first n b) (σ : Stack) where
  star_off : (b : ℕ) (bs : List ℕ) → choose lexer r none ≡ some [] → lexer.first n b ≡ false → scan lexer (nt r ∷ σ) (b ∷ bs) ≡ scan lexer σ (b ∷ bs)
  star_off b bs e q =
      scan_same (nt r ∷ σ) σ b bs (step_by fits_l r (some b) σ (choose_null fits_l r b stop tt (is_false (lexer.first r b) (firsts b ∙ q)))) (step_by fits_l r none σ e)

  star_on : (b : ℕ) (bs : List ℕ) (size : ℕ) → scan lexer (nt n ∷ nt r ∷ σ) [] ≡ none → seen (scan lexer (nt n ∷ nt r ∷ σ) (b ∷ bs)) ≡ after size (nt r ∷ σ) (b ∷ bs) → lexer.first n b ≡ true →
      seen (scan lexer (nt r ∷ σ) (b ∷ bs)) ≡ or_that (after size (nt r ∷ σ) (b ∷ bs)) (seen (scan lexer (nt r ∷ σ) []))
  star_on b bs size e h q =
      scan_or (nt r ∷ σ) (nt n ∷ nt r ∷ σ) b bs
      (step_by fits_l r (some b) σ (choose_first fits_l r b go_on (or_l (lexer.first n b) (lexer.null n && (lexer.first r b || (lexer.null r && false))) (is_true (lexer.first n b) q)))) e ∙
      ap (λ o. or_that o (seen (scan lexer (nt r ∷ σ) []))) h

-- after a string's first quote, and after a comment's #
abbrev pub in_string : Stack
in_string = nt StringCharacter* ∷ tm quote ∷ act (is string) ∷ []

abbrev pub in_comment : Stack
in_comment = nt CommentCharacter* ∷ act comment ∷ []

no_zero : {n : ℕ} → ◌≡◌ {A = ℕ} 0 (suc n) → ⊥
no_zero q = omega arith

-- a set of one byte hits no other
only : (a b : ℕ) → T (hits_byte (span a a ∷ []) b) → b ≡ a
only a b t = go (or_cases (leb a b && leb b a) false (and_r (ltb b 256) ((leb a b && leb b a) || false) t))
  where
    go : T (leb a b && leb b a) ⊎ T false → b ≡ a
    go (inl k) = let l = leb→le a b (and_l (leb a b) (leb b a) k) in let m = leb→le b a (and_r (leb a b) (leb b a) k) in omega arith
    go (inr k) = absurd k

-- a string: a part of it, the quote, or none of both
string_on : (b : ℕ) (bs : List ℕ) → lexer.first StringCharacter b ≡ true → seen (scan lexer in_string (b ∷ bs)) ≡ after (part_size (b ∷ bs)) in_string (b ∷ bs)
unfolding scan step enter choose lexical lex_factored
string_on b bs q =
    star_on StringCharacter* StringCharacter (Memᴰ.head refl) (Memᴰ.tail (Memᴰ.head refl)) (λ c. refl) (tm quote ∷ act (is string) ∷ []) b bs (part_size (b ∷ bs)) refl
    (scan_string_character in_string (b ∷ bs)) q ∙
    or_none (after (part_size (b ∷ bs)) in_string (b ∷ bs))

string_off : (b : ℕ) (bs : List ℕ) → lexer.first StringCharacter b ≡ false → scan lexer in_string (b ∷ bs) ≡ scan lexer (tm quote ∷ act (is string) ∷ []) (b ∷ bs)
unfolding choose lexical lex_factored
string_off b bs q = star_off StringCharacter* StringCharacter (Memᴰ.head refl) (Memᴰ.tail (Memᴰ.head refl)) (λ c. refl) (tm quote ∷ act (is string) ∷ []) b bs refl q

pub string_end : seen (scan lexer in_string []) ≡ none
unfolding scan step enter choose lexical lex_factored
string_end = refl

pub string_quote : (bs : List ℕ) → seen (scan lexer in_string (34 ∷ bs)) ≡ some (1, is string)
unfolding scan step
string_quote bs = ap seen (string_off 34 bs refl) ∙ last bs
  where
    last : (cs : List ℕ) → seen (scan lexer (tm quote ∷ act (is string) ∷ []) (34 ∷ cs)) ≡ some (1, is string)
    last [] = refl
    last (c ∷ cs) = refl

pub string_more : (bs : List ℕ) (n : ℕ) → part_size bs ≡ suc n → seen (scan lexer in_string bs) ≡ grow (suc n) (seen (scan lexer in_string (drop (suc n) bs)))
unfolding part_size
string_more [] n e = absurd (no_zero e)
string_more (b ∷ bs) n e = go (lexer.first StringCharacter b) refl
  where
    go : (x : Bool) → lexer.first StringCharacter b ≡ x → seen (scan lexer in_string (b ∷ bs)) ≡ grow (suc n) (seen (scan lexer in_string (drop (suc n) (b ∷ bs))))
    go true q = string_on b bs q ∙ ap (λ (k : ℕ). after k in_string (b ∷ bs)) e
    go false q = absurd (no_zero (sym (part_none b bs q) ∙ e))

pub string_stop : (b : ℕ) (bs : List ℕ) → part_size (b ∷ bs) ≡ 0 → (b ≡ 34 → ⊥) → seen (scan lexer in_string (b ∷ bs)) ≡ none
unfolding scan step
string_stop b bs e h = go (lexer.first StringCharacter b) refl
  where
    go : (x : Bool) → lexer.first StringCharacter b ≡ x → seen (scan lexer in_string (b ∷ bs)) ≡ none
    go true q = string_on b bs q ∙ ap (λ (k : ℕ). after k in_string (b ∷ bs)) e
    go false q = ap seen (string_off b bs q) ∙ rw (not_quote) refl
      where
        not_quote : hits_byte quote b ≡ false
        not_quote = not_true (hits_byte quote b) (λ t. h (only 34 b t))

-- a comment: a character of it, or it ends
comment_over : (bs : List ℕ) → seen (scan lexer (act comment ∷ []) bs) ≡ some (0, comment)
unfolding scan step
comment_over [] = refl
comment_over (b ∷ bs) = refl

pub comment_end : seen (scan lexer in_comment []) ≡ some (0, comment)
unfolding scan step enter choose lexical lex_factored
comment_end = refl

comment_on : (b : ℕ) (bs : List ℕ) → lexer.first CommentCharacter b ≡ true → seen (scan lexer in_comment (b ∷ bs)) ≡ or_that (after (character_size (b ∷ bs)) in_comment (b ∷ bs)) (some (0, comment))
unfolding scan step enter choose lexical lex_factored
comment_on b bs q =
    star_on CommentCharacter* CommentCharacter (Memᴰ.head refl) (Memᴰ.tail (Memᴰ.head refl)) (λ c. refl) (act comment ∷ []) b bs (character_size (b ∷ bs)) refl
    (scan_comment_character in_comment (b ∷ bs)) q

comment_off : (b : ℕ) (bs : List ℕ) → lexer.first CommentCharacter b ≡ false → seen (scan lexer in_comment (b ∷ bs)) ≡ some (0, comment)
unfolding choose lexical lex_factored
comment_off b bs q =
    ap seen (star_off CommentCharacter* CommentCharacter (Memᴰ.head refl) (Memᴰ.tail (Memᴰ.head refl)) (λ c. refl) (act comment ∷ []) b bs refl q) ∙
    comment_over (b ∷ bs)

-- a comment is read in any case
abbrev IsSome : Seen → Type 0
IsSome none = ⊥
IsSome (some m) = Unit {0}

or_some : (o : Seen) (m : ℕ × What) → IsSome (or_that o (some m))
or_some none m = tt
or_some (some k) m = tt

some_comment : (bs : List ℕ) → IsSome (seen (scan lexer in_comment bs))
some_comment [] = subst IsSome (sym comment_end) tt
some_comment (b ∷ bs) = go (lexer.first CommentCharacter b) refl
  where
    go : (x : Bool) → lexer.first CommentCharacter b ≡ x → IsSome (seen (scan lexer in_comment (b ∷ bs)))
    go true q = subst IsSome (sym (comment_on b bs q)) (or_some (after (character_size (b ∷ bs)) in_comment (b ∷ bs)) (0, comment))
    go false q = subst IsSome (sym (comment_off b bs q)) tt

or_grown : (n : ℕ) (o p : Seen) → IsSome o → or_that (grow n o) p ≡ grow n o
or_grown n none p h = absurd h
or_grown zero (some m) p h = refl
or_grown (suc n) (some m) p h = go (grow n (some m)) (grown n)
  where
    go : (o : Seen) → IsSome o → or_that (more o) p ≡ more o
    go none k = absurd k
    go (some k) t = refl

    more_some : (o : Seen) → IsSome o → IsSome (more o)
    more_some none k = k
    more_some (some k) t = tt

    grown : (k : ℕ) → IsSome (grow k (some m))
    grown zero = tt
    grown (suc k) = more_some (grow k (some m)) (grown k)

pub comment_more : (bs : List ℕ) (n : ℕ) → character_size bs ≡ suc n → seen (scan lexer in_comment bs) ≡ grow (suc n) (seen (scan lexer in_comment (drop (suc n) bs)))
unfolding character_size
comment_more [] n e = absurd (no_zero e)
comment_more (b ∷ bs) n e = go (lexer.first CommentCharacter b) refl
  where
    go : (x : Bool) → lexer.first CommentCharacter b ≡ x → seen (scan lexer in_comment (b ∷ bs)) ≡ grow (suc n) (seen (scan lexer in_comment (drop (suc n) (b ∷ bs))))
    go true q =
        comment_on b bs q ∙ ap (λ (k : ℕ). or_that (after k in_comment (b ∷ bs)) (some (0, comment))) e ∙
        or_grown (suc n) (seen (scan lexer in_comment (drop (suc n) (b ∷ bs)))) (some (0, comment)) (some_comment (drop (suc n) (b ∷ bs)))
    go false q = absurd (no_zero (sym (character_none b bs q) ∙ e))

pub comment_stop : (bs : List ℕ) → character_size bs ≡ 0 → seen (scan lexer in_comment bs) ≡ some (0, comment)
comment_stop [] e = comment_end
comment_stop (b ∷ bs) e = go (lexer.first CommentCharacter b) refl
  where
    go : (x : Bool) → lexer.first CommentCharacter b ≡ x → seen (scan lexer in_comment (b ∷ bs)) ≡ some (0, comment)
    go true q = comment_on b bs q ∙ ap (λ (k : ℕ). or_that (after k in_comment (b ∷ bs)) (some (0, comment))) e
    go false q = comment_off b bs q
