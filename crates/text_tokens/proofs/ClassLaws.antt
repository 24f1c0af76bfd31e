-- The class of a token, told by its kind and, for a name, by its word.
use mathlib.Core.Path.{◌≡◌, refl}
use mathlib.Core.Bool.{cond}
use Prim.Native.Nat.{ℕ, ◌<◌}
use native.Mathlib.Omega.{arith}
use lib.Dec.{eqb}
use Rattle.paper.specs.Language.{Class, bang, dollar, paren_l, paren_r, spread, colon, equals, at_sign, bracket_l, bracket_r, brace_l, bar, brace_r, n_query, n_mutation, n_subscription, n_fragment, n_on, n_true, n_false, n_null, n_other, int, float, string}
use Rattle.text_scan.specs.Head.{kind_of, word_number}

-- the class of a kind that is no name's; the last stands for all other numbers
abbrev pub class_of_kind : ℕ → Class
class_of_kind k =
    cond (eqb k (kind_of int)) int
    (cond (eqb k (kind_of float)) float
    (cond (eqb k (kind_of string)) string
    (cond (eqb k (kind_of spread)) spread
    (cond (eqb k (kind_of bang)) bang
    (cond (eqb k (kind_of dollar)) dollar
    (cond (eqb k (kind_of paren_l)) paren_l
    (cond (eqb k (kind_of paren_r)) paren_r
    (cond (eqb k (kind_of colon)) colon
    (cond (eqb k (kind_of equals)) equals
    (cond (eqb k (kind_of at_sign)) at_sign
    (cond (eqb k (kind_of bracket_l)) bracket_l
    (cond (eqb k (kind_of bracket_r)) bracket_r
    (cond (eqb k (kind_of brace_l)) brace_l
    (cond (eqb k (kind_of bar)) bar brace_r))))))))))))))

pub kind_class : (c : Class) → 1 < kind_of c → c ≡ class_of_kind (kind_of c)
kind_class bang h = refl
kind_class dollar h = refl
kind_class paren_l h = refl
kind_class paren_r h = refl
kind_class spread h = refl
kind_class colon h = refl
kind_class equals h = refl
kind_class at_sign h = refl
kind_class bracket_l h = refl
kind_class bracket_r h = refl
kind_class brace_l h = refl
kind_class bar h = refl
kind_class brace_r h = refl
kind_class n_query h = let z : ⊥ = omega arith in absurd z
kind_class n_mutation h = let z : ⊥ = omega arith in absurd z
kind_class n_subscription h = let z : ⊥ = omega arith in absurd z
kind_class n_fragment h = let z : ⊥ = omega arith in absurd z
kind_class n_on h = let z : ⊥ = omega arith in absurd z
kind_class n_true h = let z : ⊥ = omega arith in absurd z
kind_class n_false h = let z : ⊥ = omega arith in absurd z
kind_class n_null h = let z : ⊥ = omega arith in absurd z
kind_class n_other h = let z : ⊥ = omega arith in absurd z
kind_class int h = refl
kind_class float h = refl
kind_class string h = refl

-- the class of a word
abbrev pub class_of_word : ℕ → Class
class_of_word n =
    cond (eqb n 1) n_query
    (cond (eqb n 2) n_mutation
    (cond (eqb n 3) n_subscription
    (cond (eqb n 4) n_fragment
    (cond (eqb n 5) n_on
    (cond (eqb n 6) n_true
    (cond (eqb n 7) n_false
    (cond (eqb n 8) n_null n_other)))))))

pub word_class : (c : Class) → kind_of c ≡ 1 → c ≡ class_of_word (word_number c)
word_class bang h = let z : ⊥ = omega arith in absurd z
word_class dollar h = let z : ⊥ = omega arith in absurd z
word_class paren_l h = let z : ⊥ = omega arith in absurd z
word_class paren_r h = let z : ⊥ = omega arith in absurd z
word_class spread h = let z : ⊥ = omega arith in absurd z
word_class colon h = let z : ⊥ = omega arith in absurd z
word_class equals h = let z : ⊥ = omega arith in absurd z
word_class at_sign h = let z : ⊥ = omega arith in absurd z
word_class bracket_l h = let z : ⊥ = omega arith in absurd z
word_class bracket_r h = let z : ⊥ = omega arith in absurd z
word_class brace_l h = let z : ⊥ = omega arith in absurd z
word_class bar h = let z : ⊥ = omega arith in absurd z
word_class brace_r h = let z : ⊥ = omega arith in absurd z
word_class n_query h = refl
word_class n_mutation h = refl
word_class n_subscription h = refl
word_class n_fragment h = refl
word_class n_on h = refl
word_class n_true h = refl
word_class n_false h = refl
word_class n_null h = refl
word_class n_other h = refl
word_class int h = let z : ⊥ = omega arith in absurd z
word_class float h = let z : ⊥ = omega arith in absurd z
word_class string h = let z : ⊥ = omega arith in absurd z
