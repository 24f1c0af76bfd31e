-- The kinds of tokens: a name has kind 1, no token has kind 0, and what a piece of the lexical language can be.
use mathlib.Core.Path.{◌≡◌, refl, subst}
use mathlib.Core.Bool.{Bool, true, false, ◌&&◌, ◌||◌, not}
use mathlib.Core.List.{List, [], ◌∷◌, ◌++◌}
use mathlib.Core.Option.{Option, some}
use Prim.Native.Nat.{ℕ, ◌<◌}
use native.Mathlib.Omega.{arith}
use lib.Dec.{T}
use Rattle.paper.specs.Grammar.{Sym, nt, tm, act, Ev, Derives, done, take, note, by}
use Rattle.paper.specs.Language.{Class, same_c, is_name_class, bang, dollar, paren_l, paren_r, spread, colon, equals, at_sign, bracket_l, bracket_r, brace_l, bar, brace_r, n_query, n_mutation, n_subscription, n_fragment, n_on, n_true, n_false, n_null, n_other, int, float, string}
use Rattle.paper.specs.Lexical.{Lex, Set, What, is, ignored, comment, Piece, lexical, hits_byte}
use Rattle.paper.specs.Tokens.{or_else, same, name_class, classed, what_of}
use Rattle.paper.proofs.Bools.{and_l, and_r, and_i}
use Rattle.paper_theory.proofs.Test.{all, all_at, all_mem}
use Rattle.paper.proofs.Longest.{Match, scan}
use Rattle.paper_theory.proofs.LongestLaws.{Best}
use Rattle.paper.proofs.LexTables.{lexer, lex_factored, all_l, num_l, at_l}
use Rattle.paper_theory.proofs.LexChecked.{fits_l}
use Rattle.paper_theory.proofs.LexingLaws.{piece}
use Rattle.text_scan.specs.Head.{kind_of}

or_kind : (b : Bool) (c d : Class) → kind_of c ≡ 1 → kind_of d ≡ 1 → kind_of (or_else b c d) ≡ 1
or_kind true c d h k = h
or_kind false c d h k = k

-- a name is of kind 1
pub name_kind : (w : List ℕ) → kind_of (name_class w) ≡ 1
name_kind w =
    or_kind (same w (113 ∷ 117 ∷ 101 ∷ 114 ∷ 121 ∷ [])) n_query _ refl
    (or_kind (same w (109 ∷ 117 ∷ 116 ∷ 97 ∷ 116 ∷ 105 ∷ 111 ∷ 110 ∷ [])) n_mutation _ refl
    (or_kind (same w (115 ∷ 117 ∷ 98 ∷ 115 ∷ 99 ∷ 114 ∷ 105 ∷ 112 ∷ 116 ∷ 105 ∷ 111 ∷ 110 ∷ [])) n_subscription _ refl
    (or_kind (same w (102 ∷ 114 ∷ 97 ∷ 103 ∷ 109 ∷ 101 ∷ 110 ∷ 116 ∷ [])) n_fragment _ refl
    (or_kind (same w (111 ∷ 110 ∷ [])) n_on _ refl
    (or_kind (same w (116 ∷ 114 ∷ 117 ∷ 101 ∷ [])) n_true _ refl
    (or_kind (same w (102 ∷ 97 ∷ 108 ∷ 115 ∷ 101 ∷ [])) n_false _ refl
    (or_kind (same w (110 ∷ 117 ∷ 108 ∷ 108 ∷ [])) n_null n_other refl refl)))))))

-- so the bytes of a token do not change its kind
pub classed_kind : (c : Class) (w : List ℕ) → kind_of (classed c w) ≡ kind_of c
classed_kind bang w = refl
classed_kind dollar w = refl
classed_kind paren_l w = refl
classed_kind paren_r w = refl
classed_kind spread w = refl
classed_kind colon w = refl
classed_kind equals w = refl
classed_kind at_sign w = refl
classed_kind bracket_l w = refl
classed_kind bracket_r w = refl
classed_kind brace_l w = refl
classed_kind bar w = refl
classed_kind brace_r w = refl
classed_kind n_query w = refl
classed_kind n_mutation w = refl
classed_kind n_subscription w = refl
classed_kind n_fragment w = refl
classed_kind n_on w = refl
classed_kind n_true w = refl
classed_kind n_false w = refl
classed_kind n_null w = refl
classed_kind n_other w = name_kind w
classed_kind int w = refl
classed_kind float w = refl
classed_kind string w = refl

-- only the end has kind 0
pub kind_some : (c : Class) → 0 < kind_of c
kind_some bang = omega arith
kind_some dollar = omega arith
kind_some paren_l = omega arith
kind_some paren_r = omega arith
kind_some spread = omega arith
kind_some colon = omega arith
kind_some equals = omega arith
kind_some at_sign = omega arith
kind_some bracket_l = omega arith
kind_some bracket_r = omega arith
kind_some brace_l = omega arith
kind_some bar = omega arith
kind_some brace_r = omega arith
kind_some n_query = omega arith
kind_some n_mutation = omega arith
kind_some n_subscription = omega arith
kind_some n_fragment = omega arith
kind_some n_on = omega arith
kind_some n_true = omega arith
kind_some n_false = omega arith
kind_some n_null = omega arith
kind_some n_other = omega arith
kind_some int = omega arith
kind_some float = omega arith
kind_some string = omega arith

-- what a piece may be: a name is told by its bytes alone
abbrev pub plain : What → Bool
plain (is c) = not (is_name_class c) || same_c c n_other
plain ignored = true
plain comment = true

-- so a token of kind 1 has the class of its bytes
pub plain_name : (c : Class) (w : List ℕ) → T (plain (is c)) → kind_of c ≡ 1 → classed c w ≡ name_class w
plain_name bang w t h = let z : ⊥ = omega arith in absurd z
plain_name dollar w t h = let z : ⊥ = omega arith in absurd z
plain_name paren_l w t h = let z : ⊥ = omega arith in absurd z
plain_name paren_r w t h = let z : ⊥ = omega arith in absurd z
plain_name spread w t h = let z : ⊥ = omega arith in absurd z
plain_name colon w t h = let z : ⊥ = omega arith in absurd z
plain_name equals w t h = let z : ⊥ = omega arith in absurd z
plain_name at_sign w t h = let z : ⊥ = omega arith in absurd z
plain_name bracket_l w t h = let z : ⊥ = omega arith in absurd z
plain_name bracket_r w t h = let z : ⊥ = omega arith in absurd z
plain_name brace_l w t h = let z : ⊥ = omega arith in absurd z
plain_name bar w t h = let z : ⊥ = omega arith in absurd z
plain_name brace_r w t h = let z : ⊥ = omega arith in absurd z
plain_name n_query w t h = absurd t
plain_name n_mutation w t h = absurd t
plain_name n_subscription w t h = absurd t
plain_name n_fragment w t h = absurd t
plain_name n_on w t h = absurd t
plain_name n_true w t h = absurd t
plain_name n_false w t h = absurd t
plain_name n_null w t h = absurd t
plain_name n_other w t h = refl
plain_name int w t h = let z : ⊥ = omega arith in absurd z
plain_name float w t h = let z : ⊥ = omega arith in absurd z
plain_name string w t h = let z : ⊥ = omega arith in absurd z

abbrev plain_s : List (Sym Lex Set What) → Bool
plain_s [] = true
plain_s (nt n ∷ ss) = plain_s ss
plain_s (tm p ∷ ss) = plain_s ss
plain_s (act w ∷ ss) = plain w && plain_s ss

plain_append : (xs ys : List (Sym Lex Set What)) → T (plain_s xs) → T (plain_s ys) → T (plain_s (xs ++ ys))
plain_append [] ys h k = k
plain_append (nt n ∷ xs) ys h k = plain_append xs ys h k
plain_append (tm p ∷ xs) ys h k = plain_append xs ys h k
plain_append (act w ∷ xs) ys h k = and_i (plain w) (plain_s (xs ++ ys)) (and_l (plain w) (plain_s xs) h) (plain_append xs ys (and_r (plain w) (plain_s xs) h) k)

plain_prods : (n : Lex) → T (all plain_s (lex_factored n))
unfolding lex_factored lexical
plain_prods n = all_at (λ m. all plain_s (lex_factored m)) all_l (num_l n) tt (at_l n)

plain_derives : {σ : List (Sym Lex Set What)} {es : List (Ev ℕ What)} → Derives lex_factored hits_byte σ es → T (plain_s σ) → T (plain (what_of es))
plain_derives done h = tt
plain_derives (take t d) h = plain_derives d h
plain_derives (note {a} {ss} d) h = and_l (plain a) (plain_s ss) h
plain_derives (by {n} {α} {ss} m d) h = plain_derives d (plain_append α ss (all_mem plain_s (plain_prods n) m) h)

pub plain_piece : (bs : List ℕ) (m : Match ℕ What) → scan lexer (nt Piece ∷ []) bs ≡ some m → T (plain (what_of m.events))
plain_piece bs m q = plain_derives b.0 tt
  where
    b : Best fits_l (nt Piece ∷ []) bs (some m)
    b = subst (λ (o : Option (Match ℕ What)). Best fits_l (nt Piece ∷ []) bs o) q (piece bs)
