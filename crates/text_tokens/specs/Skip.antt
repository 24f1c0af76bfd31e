-- The punctuators of one byte, the blanks, and where other tokens may stand.
use Rattle.std.specs.Prelude.{◌≡◌, Bool, true, false, cond, List, [], ◌∷◌, ℕ, ◌<◌, eqb, length, get_or}
use Rattle.paper.specs.Language.{bang, dollar, paren_l, paren_r, colon, equals, at_sign, bracket_l, bracket_r, brace_l, bar, brace_r}
use Rattle.paper.specs.Lexical.{letter, hits_byte}
use Rattle.text_scan.specs.Head.{kind_of}

abbrev pub among : List ℕ → ℕ → Bool
among [] b = false
among (m ∷ ms) b = cond (eqb b m) true (among ms b)

-- the punctuators of one byte, each its own kind: { } ( ) : $ @ [ ] ! = |
abbrev pub punctuators : List ℕ
punctuators = kind_of brace_l ∷ kind_of brace_r ∷ kind_of paren_l ∷ kind_of paren_r ∷ kind_of colon ∷ kind_of dollar ∷ kind_of at_sign ∷ kind_of bracket_l ∷ kind_of bracket_r ∷ kind_of bang ∷ kind_of equals ∷ kind_of bar ∷ []

unfoldable pub is_punctuator : ℕ → Bool
is_punctuator b = among punctuators b

-- the bytes that are ignored by themselves: space, newline, comma, carriage return, tab
abbrev pub blanks : List ℕ
blanks = 32 ∷ 10 ∷ 44 ∷ 13 ∷ 9 ∷ []

unfoldable pub is_blank : ℕ → Bool
is_blank b = among blanks b

-- a byte stands at `at`, and it begins no name and no punctuator of one byte
pub record Other (s : List ℕ) (at : ℕ) : Type 0 where
  pub within : at < length s
  pub no_letter : hits_byte letter (get_or s at 0) ≡ false
  pub no_mark : is_punctuator (get_or s at 0) ≡ false

-- a byte stands at `at`, and it begins no name, no punctuator and no string
pub record Numeric (s : List ℕ) (at : ℕ) : Type 0 where
  pub within : at < length s
  pub no_letter : hits_byte letter (get_or s at 0) ≡ false
  pub no_mark : is_punctuator (get_or s at 0) ≡ false
  pub no_quote : get_or s at 0 ≡ 34 → ⊥
  pub no_dot : get_or s at 0 ≡ 46 → ⊥
