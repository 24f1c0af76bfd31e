-- Type references and their texts.
-- States: 01, "The type table": "20 is a type reference's text with nothing ignored in it"; "16, 17 and 21 to 25 hold one name".
-- Assumes nothing.
use Rattle.std.specs.Prelude.{Bool, true, false, not, ◌&&◌, cond, List, [], ◌∷◌, ℕ, zero, suc, length, take, drop, eqb}
use Rattle.std.proofs.Math.Option.{Option, none, some}
use Rattle.paper.specs.Lexical.{letter, letter_or_digit, in_set}
use Rattle.paper.specs.Tokens.{same}
use Rattle.paper_table.specs.Lists.{all_of, first_at}

-- the text is a name: the draft's, one byte at least
unfoldable pub is_name : List ℕ → Bool
is_name [] = false
is_name (b ∷ bs) = in_set letter b && all_of (in_set letter_or_digit) bs

-- A type reference (draft 2.11): a name, a list `[..]`, or Non-Null `..!` of one that is not Non-Null itself.
pub data Ref : Type 0 where
  named : List ℕ → Ref
  list_of non_null : Ref → Ref

-- its name, all wrappers taken off
abbrev pub base_of : Ref → List ℕ
base_of (named n) = n
base_of (list_of r) = base_of r
base_of (non_null r) = base_of r

abbrev pub is_non_null : Ref → Bool
is_non_null (named n) = false
is_non_null (list_of r) = false
is_non_null (non_null r) = true

-- the same name under the same wrappers
unfoldable pub same_ref : Ref → Ref → Bool
same_ref (named a) (named b) = same a b
same_ref (named a) (list_of s) = false
same_ref (named a) (non_null s) = false
same_ref (list_of r) (named b) = false
same_ref (list_of r) (list_of s) = same_ref r s
same_ref (list_of r) (non_null s) = false
same_ref (non_null r) (named b) = false
same_ref (non_null r) (list_of s) = false
same_ref (non_null r) (non_null s) = same_ref r s

-- `!`, `[`, `]`
abbrev pub byte_bang : ℕ
byte_bang = 0x21

abbrev pub byte_bracket_l : ℕ
byte_bracket_l = 0x5b

abbrev pub byte_bracket_r : ℕ
byte_bracket_r = 0x5d

-- a reference that a text begins with, and the text behind it; or the text begins with none
pub data ReadRef : Type 0 where
  got : Ref → List ℕ → ReadRef
  no_reference : ReadRef

-- the `!` behind a reference, if there is one
unfoldable pub marked : Ref → List ℕ → ReadRef
marked r [] = got r []
marked r (b ∷ s) = cond (eqb b byte_bang) (got (non_null r) s) (got r (b ∷ s))

-- the `]` behind a list's item
unfoldable pub closed : ReadRef → ReadRef
closed no_reference = no_reference
closed (got r []) = no_reference
closed (got r (b ∷ s)) = cond (eqb b byte_bracket_r) (marked (list_of r) s) no_reference

-- how many bytes of a name the text begins with
abbrev pub name_size : List ℕ → ℕ
name_size s = first_at (λ b. not (in_set letter_or_digit b)) s

-- the name that a text begins with
unfoldable pub read_name : List ℕ → ReadRef
read_name s = cond (is_name (take (name_size s) s)) (marked (named (take (name_size s) s)) (drop (name_size s) s)) no_reference

-- the reference that a text begins with; the first number bounds how deep lists go, and the text's length is enough
unfoldable pub ref_from : ℕ → List ℕ → ReadRef
ref_from zero s = no_reference
ref_from (suc f) [] = no_reference
ref_from (suc f) (b ∷ s) = elim (eqb b byte_bracket_l) [ true ↦ closed (ref_from f s) | false ↦ read_name (b ∷ s) ]

-- nothing stands behind it
unfoldable pub whole_ref : ReadRef → Option Ref
whole_ref no_reference = none
whole_ref (got r []) = some r
whole_ref (got r (b ∷ s)) = none

-- the reference whose text this is
unfoldable pub ref_of : List ℕ → Option Ref
ref_of s = whole_ref (ref_from (length s) s)

abbrev pub found : {A : Type 0} → Option A → Bool
found none = false
found (some x) = true

abbrev pub is_reference : List ℕ → Bool
is_reference s = found (ref_of s)
