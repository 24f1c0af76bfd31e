-- What the machine reads at a character of a comment or a string: as many bytes as its size says, and then the rest.
-- Assumes nothing.
use mathlib.Core.Path.{◌≡◌, refl, sym, ap, ◌∙◌, subst}
use mathlib.Core.Bool.{Bool, true, false, ◌&&◌, cond}
use mathlib.Core.List.{List, [], ◌∷◌, ◌++◌, Memᴰ}
use mathlib.Core.Option.{none, some}
use Prim.Native.Nat.{ℕ, zero, suc}
use lib.Dec.{T}
use Rattle.paper.specs.Grammar.{nt, tm, tok}
use Rattle.paper.specs.Lexical.{Lex, Set, lexical, hits_byte, plain, commented, backslash, escaped, u, hex, lead2, e0, lead3, ed, tail, tail_high, tail_low}
use Rattle.paper.specs.Lexical.{Wide, Escape, StringCharacter, CommentCharacter}
use Rattle.paper.proofs.Machine.{took, step, choose, enter}
use Rattle.paper_theory.proofs.Theory.{step_by, step_none, choose_first}
use Rattle.paper.proofs.Bools.{or_l}
use Rattle.paper.proofs.Longest.{scan}
use Rattle.paper.proofs.LexTables.{lexer, lex_factored}
use Rattle.paper_theory.proofs.LexChecked.{fits_l}
use Rattle.text_characters.specs.Characters.{sized, wide_size, character_size}
use Rattle.text_scan.specs.Parts.{escaped_size, with_one, part_size, four_hex}
use Rattle.text_scan.proofs.ReadLaws.{Stack}
use Rattle.text_scan.proofs.ScanLaws.{seen, more, or_that, or_none, scan_took, scan_refused, scan_same, taken, after, led}

pub is_true : (x : Bool) → x ≡ true → T x
is_true x q = subst T (sym q) tt

pub is_false : (x : Bool) → x ≡ false → T x → ⊥
is_false x q t = subst T q t

pub not_true : (x : Bool) → (T x → ⊥) → x ≡ false
not_true true f = absurd (f tt)
not_true false f = refl

-- a part one of whose productions begins with a set that hits b
begun : (n : Lex) (p : Set) (ss ρ : Stack) (b : ℕ) → Memᴰ (tm p ∷ ss) (lex_factored n) → hits_byte p b ≡ true → step lexer (nt n ∷ ρ) (some b) ≡ took (tok b ∷ []) (ss ++ ρ)
begun n p ss ρ b m q = step_by fits_l n (some b) ρ (choose_first fits_l n b m (is_true (hits_byte p b) q)) ∙ taken b p (ss ++ ρ) (is_true (hits_byte p b) q)

-- a part one of whose productions is another part, which can begin with b
entered : (n m : Lex) (ρ : Stack) (b : ℕ) → Memᴰ (nt m ∷ []) (lex_factored n) → lexer.first m b ≡ true → step lexer (nt n ∷ ρ) (some b) ≡ step lexer (nt m ∷ ρ) (some b)
entered n m ρ b k q = step_by fits_l n (some b) ρ (choose_first fits_l n b k (or_l (lexer.first m b) (lexer.null m && false) (is_true (lexer.first m b) q)))

-- a part that cannot begin with b has no production that does
miss : (n : Lex) (p : Set) (ss : Stack) (b : ℕ) → Memᴰ (tm p ∷ ss) (lex_factored n) → lexer.first n b ≡ false → hits_byte p b ≡ false
miss n p ss b m q = not_true (hits_byte p b) (λ t. is_false (lexer.first n b) q (fits_l.first_closed n b m t))

miss_part : (n k : Lex) (b : ℕ) → Memᴰ (nt k ∷ []) (lex_factored n) → lexer.first n b ≡ false → lexer.first k b ≡ false
miss_part n k b m q = not_true (lexer.first k b) (λ t. is_false (lexer.first n b) q (fits_l.first_closed n b m (or_l (lexer.first k b) (lexer.null k && false) t)))

pub scan_wide : (ρ : Stack) (bs : List ℕ) → seen (scan lexer (nt Wide ∷ ρ) bs) ≡ after (wide_size bs) ρ bs
unfolding scan step enter choose lexical lex_factored wide_size
scan_wide ρ [] = refl
scan_wide ρ (b ∷ bs) = go (hits_byte lead2 b) (hits_byte e0 b) (hits_byte lead3 b) (hits_byte ed b) refl refl refl refl
  where
    go : (w x y z : Bool) → hits_byte lead2 b ≡ w → hits_byte e0 b ≡ x → hits_byte lead3 b ≡ y → hits_byte ed b ≡ z →
        seen (scan lexer (nt Wide ∷ ρ) (b ∷ bs)) ≡
        after (cond w (sized (tail ∷ []) bs) (cond x (sized (tail_high ∷ tail ∷ []) bs) (cond y (sized (tail ∷ tail ∷ []) bs) (cond z (sized (tail_low ∷ tail ∷ []) bs) 0)))) ρ (b ∷ bs)
    go true x y z p q r s = led (tail ∷ []) (nt Wide ∷ ρ) ρ b bs (begun Wide lead2 (tm tail ∷ []) ρ b (Memᴰ.head refl) p) refl
    go false true y z p q r s = led (tail_high ∷ tail ∷ []) (nt Wide ∷ ρ) ρ b bs (begun Wide e0 (tm tail_high ∷ tm tail ∷ []) ρ b (Memᴰ.tail (Memᴰ.head refl)) q) refl
    go false false true z p q r s =
        led (tail ∷ tail ∷ []) (nt Wide ∷ ρ) ρ b bs (begun Wide lead3 (tm tail ∷ tm tail ∷ []) ρ b (Memᴰ.tail (Memᴰ.tail (Memᴰ.head refl))) r) refl
    go false false false true p q r s =
        led (tail_low ∷ tail ∷ []) (nt Wide ∷ ρ) ρ b bs (begun Wide ed (tm tail_low ∷ tm tail ∷ []) ρ b (Memᴰ.tail (Memᴰ.tail (Memᴰ.tail (Memᴰ.head refl)))) s) refl
    go false false false false p q r s = ap seen (scan_refused (nt Wide ∷ ρ) b bs (step_none fits_l Wide (some b) ρ (rw (p, q, r, s) refl)))

-- where no character of more than one byte can begin, none has a size
wide_none : (b : ℕ) (bs : List ℕ) → lexer.first Wide b ≡ false → wide_size (b ∷ bs) ≡ 0
unfolding lexical lex_factored wide_size
wide_none b bs q = rw (missed lead2 (tm tail ∷ []) (Memᴰ.head refl), missed e0 (tm tail_high ∷ tm tail ∷ []) (Memᴰ.tail (Memᴰ.head refl)), missed lead3 (tm tail ∷ tm tail ∷ []) (Memᴰ.tail (Memᴰ.tail (Memᴰ.head refl))), missed ed (tm tail_low ∷ tm tail ∷ []) (Memᴰ.tail (Memᴰ.tail (Memᴰ.tail (Memᴰ.head refl)))))
  where
    missed : (p : Set) (ss : Stack) → Memᴰ (tm p ∷ ss) (lex_factored Wide) → hits_byte p b ≡ false
    missed p ss m = miss Wide p ss b m q

pub scan_escape : (ρ : Stack) (bs : List ℕ) → seen (scan lexer (nt Escape ∷ ρ) bs) ≡ after (escaped_size bs) ρ bs
unfolding scan step enter choose lexical lex_factored escaped_size
scan_escape ρ [] = refl
scan_escape ρ (b ∷ bs) = go (hits_byte escaped b) (hits_byte u b) refl refl
  where
    go : (x y : Bool) → hits_byte escaped b ≡ x → hits_byte u b ≡ y →
        seen (scan lexer (nt Escape ∷ ρ) (b ∷ bs)) ≡ after (cond x 1 (cond y (sized four_hex bs) 0)) ρ (b ∷ bs)
    go true y p q = led [] (nt Escape ∷ ρ) ρ b bs (begun Escape escaped [] ρ b (Memᴰ.head refl) p) refl
    go false true p q =
        led four_hex (nt Escape ∷ ρ) ρ b bs (begun Escape u (tm hex ∷ tm hex ∷ tm hex ∷ tm hex ∷ []) ρ b (Memᴰ.tail (Memᴰ.head refl)) q) refl
    go false false p q = ap seen (scan_refused (nt Escape ∷ ρ) b bs (step_none fits_l Escape (some b) ρ (rw (p, q) refl)))

pub scan_comment_character : (ρ : Stack) (bs : List ℕ) → seen (scan lexer (nt CommentCharacter ∷ ρ) bs) ≡ after (character_size bs) ρ bs
unfolding scan step enter choose lexical lex_factored character_size
scan_comment_character ρ [] = refl
scan_comment_character ρ (b ∷ bs) = go (hits_byte commented b) (lexer.first Wide b) refl refl
  where
    go : (x y : Bool) → hits_byte commented b ≡ x → lexer.first Wide b ≡ y → seen (scan lexer (nt CommentCharacter ∷ ρ) (b ∷ bs)) ≡ after (cond x 1 (wide_size (b ∷ bs))) ρ (b ∷ bs)
    go true y p q = led [] (nt CommentCharacter ∷ ρ) ρ b bs (begun CommentCharacter commented [] ρ b (Memᴰ.head refl) p) refl
    go false true p q =
        ap seen (scan_same (nt CommentCharacter ∷ ρ) (nt Wide ∷ ρ) b bs (entered CommentCharacter Wide ρ b (Memᴰ.tail (Memᴰ.head refl)) q) refl) ∙ scan_wide ρ (b ∷ bs)
    go false false p q =
        ap seen (scan_refused (nt CommentCharacter ∷ ρ) b bs (step_none fits_l CommentCharacter (some b) ρ (rw (p, q) refl))) ∙
        sym (ap (λ (n : ℕ). after n ρ (b ∷ bs)) (wide_none b bs q))

pub scan_string_character : (ρ : Stack) (bs : List ℕ) → seen (scan lexer (nt StringCharacter ∷ ρ) bs) ≡ after (part_size bs) ρ bs
unfolding scan step enter choose lexical lex_factored part_size
scan_string_character ρ [] = refl
scan_string_character ρ (b ∷ bs) = go (hits_byte plain b) (hits_byte backslash b) (lexer.first Wide b) refl refl refl
  where
    escape : (n : ℕ) → or_that (more (after n ρ bs)) none ≡ after (with_one n) ρ (b ∷ bs)
    escape zero = refl
    escape (suc n) = or_none (more (after (suc n) ρ bs))

    go : (x y z : Bool) → hits_byte plain b ≡ x → hits_byte backslash b ≡ y → lexer.first Wide b ≡ z →
        seen (scan lexer (nt StringCharacter ∷ ρ) (b ∷ bs)) ≡ after (cond x 1 (cond y (with_one (escaped_size bs)) (wide_size (b ∷ bs)))) ρ (b ∷ bs)
    go true y z p q r = led [] (nt StringCharacter ∷ ρ) ρ b bs (begun StringCharacter plain [] ρ b (Memᴰ.head refl) p) refl
    go false true z p q r =
        scan_took (nt StringCharacter ∷ ρ) (nt Escape ∷ ρ) b bs (begun StringCharacter backslash (nt Escape ∷ []) ρ b (Memᴰ.tail (Memᴰ.tail (Memᴰ.head refl))) q) ∙
        rw (scan_escape ρ bs) (escape (escaped_size bs))
    go false false true p q r =
        ap seen (scan_same (nt StringCharacter ∷ ρ) (nt Wide ∷ ρ) b bs (entered StringCharacter Wide ρ b (Memᴰ.tail (Memᴰ.head refl)) r) refl) ∙ scan_wide ρ (b ∷ bs)
    go false false false p q r =
        ap seen (scan_refused (nt StringCharacter ∷ ρ) b bs (step_none fits_l StringCharacter (some b) ρ (rw (p, q, r) refl))) ∙
        sym (ap (λ (n : ℕ). after n ρ (b ∷ bs)) (wide_none b bs r))

-- where no character can begin, none has a size
pub character_none : (b : ℕ) (bs : List ℕ) → lexer.first CommentCharacter b ≡ false → character_size (b ∷ bs) ≡ 0
unfolding lexical lex_factored character_size
character_none b bs q =
    rw (miss CommentCharacter commented [] b (Memᴰ.head refl) q)
    (wide_none b bs (miss_part CommentCharacter Wide b (Memᴰ.tail (Memᴰ.head refl)) q))

pub part_none : (b : ℕ) (bs : List ℕ) → lexer.first StringCharacter b ≡ false → part_size (b ∷ bs) ≡ 0
unfolding lexical lex_factored part_size
part_none b bs q =
    rw (miss StringCharacter plain [] b (Memᴰ.head refl) q, miss StringCharacter backslash (nt Escape ∷ []) b (Memᴰ.tail (Memᴰ.tail (Memᴰ.head refl))) q)
    (wide_none b bs (miss_part StringCharacter Wide b (Memᴰ.tail (Memᴰ.head refl)) q))
