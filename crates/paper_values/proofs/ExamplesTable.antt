-- Every kind of token at every kind of type, every reason and every result tag, by computation.
-- Assumes nothing.
use mathlib.Core.Path.{◌≡◌, refl}
use mathlib.Core.Bool.{true, false}
use mathlib.Core.Option.{none, some}
use mathlib.Core.List.{List, [], ◌∷◌, ◌++◌, map}
use Prim.Native.Nat.{ℕ}
use Rattle.paper_table.specs.Lists.{bytes, any_of, first_at, gather}
use Rattle.paper_table.specs.TableNumbers.{tag_scalar, tag_enum, tag_input_object, tag_argument, tag_enum_value}
use Rattle.paper_table.specs.References.{Ref, named, list_of, non_null}
use Rattle.paper_table.specs.Types.{Table, built_ins, meaning}
use Rattle.paper_values.specs.NumberTokens.{value_from, int_of, float_content}
use Rattle.paper_values.specs.Values.{At, Value, integer, float, string, boolean, null, enum, list, object, no_values, item, no_entries, entry, Tree, Null, Bits, Decimal, Text, Truth, Member, Many, Fields, Token, no_more, also, no_pairs, pair, Out, Got, No}
use Rattle.paper_values.specs.Kinds.{kind_of_type}
use Rattle.paper_values.specs.Computed.{coerce}
use Rattle.paper_values.specs.Encoding.{encode}

-- input In {b: Int}, scalar S, enum E {A}
abbrev types : Table
types =
    record { tag = tag_input_object; name = bytes "In"; implements = []; members = record { tag = tag_argument; name = bytes "b"; type = named (bytes "Int"); arguments = [] } ∷ [] } ∷
    record { tag = tag_scalar; name = bytes "S"; implements = []; members = [] } ∷
    record { tag = tag_enum; name = bytes "E"; implements = []; members = record { tag = tag_enum_value; name = bytes "A"; type = named []; arguments = [] } ∷ [] } ∷
    []

-- the row i of the document
abbrev here : ℕ → At
here i = record { text = 0; row = i }

abbrev give : Ref → Value → Out Tree
give r v = coerce (kind_of_type types) (λ n. none) v r

-- at each kind of type: Int, Float, String, Boolean, ID, an own scalar, an enum, an input object
abbrev kinds : List (List ℕ)
kinds = bytes "Int" ∷ bytes "Float" ∷ bytes "String" ∷ bytes "Boolean" ∷ bytes "ID" ∷ bytes "S" ∷ bytes "E" ∷ bytes "In" ∷ []

abbrev at_each : Value → List (Out Tree)
at_each v = map (λ n. give (named n) v) kinds

-- `7`, `1.5`, `"a"`, `true`, `null`, `A`, `[7]` and `{b: 7}`, each in row 3
abbrev quoted : List ℕ
quoted = 0x22 ∷ 97 ∷ 0x22 ∷ []

abbrev tokens : List Value
tokens =
    integer (here 3) (bytes "7") ∷
    float (here 3) (bytes "1.5") ∷
    string (here 3) quoted (some (bytes "a")) ∷
    boolean (here 3) true ∷
    null (here 3) ∷
    enum (here 3) (bytes "A") ∷
    list (here 3) (item (integer (here 4) (bytes "7")) no_values) ∷
    object (here 3) (entry (here 4) (bytes "b") (integer (here 5) (bytes "7")) no_entries) ∷
    []

-- reason 1, and null
abbrev no : Out Tree
no = No (here 3) 1

abbrev nil : Out Tree
nil = Got Null

-- a line for each kind of token, in the order of the kinds of type
pub every_token_at_every_kind :
    map at_each tokens ≡
    (Got (Bits 7) ∷ Got (Decimal (bytes "7.0")) ∷ no ∷ no ∷ Got (Text (bytes "7")) ∷ Got (Token (bytes "7")) ∷ no ∷ no ∷ []) ∷
    (no ∷ Got (Decimal (bytes "1.5")) ∷ no ∷ no ∷ no ∷ Got (Token (bytes "1.5")) ∷ no ∷ no ∷ []) ∷
    (no ∷ no ∷ Got (Text (bytes "a")) ∷ no ∷ Got (Text (bytes "a")) ∷ Got (Token quoted) ∷ no ∷ no ∷ []) ∷
    (no ∷ no ∷ no ∷ Got (Truth true) ∷ no ∷ Got (Token (bytes "true")) ∷ no ∷ no ∷ []) ∷
    (nil ∷ nil ∷ nil ∷ nil ∷ nil ∷ nil ∷ nil ∷ nil ∷ []) ∷
    (no ∷ no ∷ no ∷ no ∷ no ∷ no ∷ Got (Member (bytes "A")) ∷ no ∷ []) ∷
    (no ∷ no ∷ no ∷ no ∷ no ∷ no ∷ no ∷ no ∷ []) ∷
    (no ∷ no ∷ no ∷ no ∷ no ∷ no ∷ no ∷ Got (Fields (pair (bytes "b") (Bits 7) no_pairs)) ∷ []) ∷
    []
unfolding coerce kind_of_type built_ins meaning any_of first_at gather int_of float_content value_from
every_token_at_every_kind = refl

-- a list and an object where they are due, and a value as a list of one
pub in_lists :
    give (list_of (named (bytes "Int"))) (list (here 3) (item (integer (here 4) (bytes "7")) (item (null (here 5)) no_values))) ∷
    give (list_of (named (bytes "In"))) (object (here 3) no_entries) ∷
    give (non_null (list_of (named (bytes "Boolean")))) (boolean (here 3) false) ∷
    [] ≡
    Got (Many (also (Bits 7) (also Null no_more))) ∷ Got (Many (also (Fields no_pairs) no_more)) ∷ Got (Many (also (Truth false) no_more)) ∷ []
unfolding coerce kind_of_type built_ins meaning any_of first_at gather int_of float_content value_from
in_lists = refl

-- reasons 1 to 8, in order; each at its own place
abbrev needed : Table
needed =
    record { tag = tag_input_object; name = bytes "In"; implements = []; members = record { tag = tag_argument; name = bytes "b"; type = non_null (named (bytes "Int")); arguments = [] } ∷ [] } ∷
    record { tag = tag_enum; name = bytes "E"; implements = []; members = record { tag = tag_enum_value; name = bytes "A"; type = named []; arguments = [] } ∷ [] } ∷
    []

abbrev ask : Ref → Value → Out Tree
ask r v = coerce (kind_of_type needed) (λ n. none) v r

abbrev seven : ℕ → Value
seven i = integer (here i) (bytes "7")

pub every_reason :
    ask (named (bytes "Int")) (float (here 3) (bytes "1.0")) ∷
    ask (named (bytes "Int")) (integer (here 3) (bytes "2147483648")) ∷
    ask (named (bytes "In")) (object (here 3) no_entries) ∷
    ask (non_null (named (bytes "Int"))) (null (here 3)) ∷
    ask (named (bytes "In")) (object (here 3) (entry (here 4) (bytes "b") (seven 5) (entry (here 6) (bytes "z") (seven 7) no_entries))) ∷
    ask (named (bytes "In")) (object (here 3) (entry (here 4) (bytes "b") (seven 5) (entry (here 6) (bytes "b") (seven 7) no_entries))) ∷
    ask (named (bytes "E")) (enum (here 3) (bytes "B")) ∷
    ask (named (bytes "String")) (string (here 3) (0x22 ∷ 0x5c ∷ (bytes "uD800" ++ (0x22 ∷ []))) none) ∷
    [] ≡
    No (here 3) 1 ∷ No (here 3) 2 ∷ No (here 3) 3 ∷ No (here 3) 4 ∷ No (here 6) 5 ∷ No (here 6) 6 ∷ No (here 3) 7 ∷ No (here 3) 8 ∷ []
unfolding coerce kind_of_type built_ins meaning any_of first_at gather int_of float_content value_from
every_reason = refl

-- tags 32 to 41, in order (40 in a 39)
pub every_tag :
    encode Null ∷
    encode (Bits 2147483648) ∷
    encode (Decimal (bytes "7.0")) ∷
    encode (Text (bytes "a")) ∷
    encode (Truth true) ∷
    encode (Truth false) ∷
    encode (Member (bytes "A")) ∷
    encode (Many (also Null (also (Bits 258) no_more))) ∷
    encode (Fields (pair (bytes "b") Null no_pairs)) ∷
    encode (Token (bytes "1.5")) ∷
    [] ≡
    (32 ∷ 0 ∷ 0 ∷ []) ∷
    (33 ∷ 0 ∷ 4 ∷ 128 ∷ 0 ∷ 0 ∷ 0 ∷ []) ∷
    (34 ∷ 0 ∷ 3 ∷ 55 ∷ 46 ∷ 48 ∷ []) ∷
    (35 ∷ 0 ∷ 1 ∷ 97 ∷ []) ∷
    (36 ∷ 0 ∷ 1 ∷ 1 ∷ []) ∷
    (36 ∷ 0 ∷ 1 ∷ 0 ∷ []) ∷
    (37 ∷ 0 ∷ 1 ∷ 65 ∷ []) ∷
    (38 ∷ 0 ∷ 10 ∷ 32 ∷ 0 ∷ 0 ∷ 33 ∷ 0 ∷ 4 ∷ 0 ∷ 0 ∷ 1 ∷ 2 ∷ []) ∷
    (39 ∷ 0 ∷ 10 ∷ 40 ∷ 0 ∷ 7 ∷ 16 ∷ 0 ∷ 1 ∷ 98 ∷ 32 ∷ 0 ∷ 0 ∷ []) ∷
    (41 ∷ 0 ∷ 3 ∷ 49 ∷ 46 ∷ 53 ∷ []) ∷
    []
unfolding encode
every_tag = refl
