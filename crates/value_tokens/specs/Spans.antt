-- Rows and their tokens.
-- Assumes nothing.
use Rattle.std.specs.Prelude.{◌≡◌, Bool, ◌&&◌, ◌||◌, List, ℕ, ◌+◌, ◌≤◌, ◌<◌, length, eqb, ltb, Result, Err}
use Rattle.paper.specs.Numbers.{kind_variable, kind_integer, kind_float, kind_string, kind_list, most_text}
use Rattle.paper_query.specs.Constructs.{Doc, kind_of}
use Rattle.query_rows.specs.Rowed.{cell, Sized}
use Rattle.paper_values.specs.ValueNumbers.{reason_kind}
use Rattle.paper_values.specs.Characters.{characters_of}
use Rattle.paper_values.specs.Values.{At}
use Rattle.paper_values.specs.Kinds.{Kind}
use Rattle.paper_values.specs.Coercion.{integer_at, float_at, string_at}
use Rattle.paper_values.specs.RowValues.{token_at}
use Rattle.value_leaves.specs.Leaves.{sort_of, Leaf}

-- the lent numbers hold n rows that lie in the bytes s, strings with their quotes
pub record Spanned (s rows : List ℕ) (n : ℕ) : Type 0 where
  pub short : length s ≤ most_text
  pub sized : Sized rows n
  pub order : (i : ℕ) → i < n → cell rows i 1 ≤ cell rows i 2
  pub within : (i : ℕ) → i < n → cell rows i 2 ≤ length s
  pub quotes : (i : ℕ) → i < n → cell rows i 0 ≡ kind_string → cell rows i 1 + 2 ≤ cell rows i 2

-- every kind that is no other value's is an object's; it has fields where an input object is due, whose sort is 8
abbrev pub is_object_kind : ℕ → Bool
is_object_kind k = ltb k kind_variable || ltb kind_list k

abbrev pub takes_fields : ℕ → ℕ → Bool
takes_fields kind sort = eqb sort 8 && is_object_kind kind

-- what a number or string token of row i answers; reason 1 for another row
pub record Tokened (d : Doc) (i sort limit from : ℕ) (p p' : List ℕ) (r : Result ℕ ℕ) : Type 0 where
  pub int : kind_of d i ≡ kind_integer → (k : Kind) (a : At) → sort_of k ≡ sort → Leaf limit (integer_at a (token_at 0 d i) k) from p p' r
  pub decimal : kind_of d i ≡ kind_float → (k : Kind) (a : At) → sort_of k ≡ sort → Leaf limit (float_at a (token_at 0 d i) k) from p p' r
  pub text : kind_of d i ≡ kind_string → (k : Kind) (a : At) → sort_of k ≡ sort → Leaf limit (string_at a (token_at 0 d i) (characters_of (token_at 0 d i)) k) from p p' r
  pub other : (kind_of d i ≡ kind_integer → ⊥) → (kind_of d i ≡ kind_float → ⊥) → (kind_of d i ≡ kind_string → ⊥) → r ≡ Err reason_kind
