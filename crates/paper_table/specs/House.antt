-- House fields, and where a table's framing is wrong.
-- States: 01, "The type table", first paragraph: "House fields: one tag byte, two length bytes (high first), content ..."; row 7 of the refusals.
-- Assumes nothing.
use Rattle.std.specs.Prelude.{Bool, true, false, not, ◌&&◌, ◌||◌, cond, List, [], ◌∷◌, ◌++◌, ℕ, zero, suc, ◌+◌, ◌*◌, length, take, drop, leb, eqb}
use Rattle.std.proofs.Math.Option.{Option, none, some}
use Rattle.paper_table.specs.TableNumbers.{tag_scalar, tag_object, tag_interface, tag_union, tag_enum, tag_input_object, tag_directive, tag_roots, tag_name, tag_implements, tag_field, tag_argument, tag_reference, tag_union_member, tag_enum_value, tag_query_root, tag_mutation_root, tag_subscription_root}
use Rattle.paper_table.specs.Lists.{any_of, only_if}
use Rattle.paper_table.specs.References.{is_name, is_reference}

-- A house field in some bytes: the offset of its tag byte, its tag, its content; or the offset of bytes that are no whole field.
pub data HouseField : Type 0 where
  house_field : ℕ → ℕ → List ℕ → HouseField
  cut : ℕ → HouseField

-- the fields of bytes that stand at the offset `at`; the first number bounds how many, and the bytes' length is enough
unfoldable pub house_fields_from : ℕ → ℕ → List ℕ → List HouseField
house_fields_from zero at s = []
house_fields_from (suc f) at [] = []
house_fields_from (suc f) at (tag ∷ []) = cut at ∷ []
house_fields_from (suc f) at (tag ∷ high ∷ []) = cut at ∷ []
house_fields_from (suc f) at (tag ∷ high ∷ low ∷ s) =
    let n : ℕ = 256 * high + low in
    elim (leb n (length s)) [ true ↦ house_field at tag (take n s) ∷ house_fields_from f (at + 3 + n) (drop n s) | false ↦ cut at ∷ [] ]

abbrev pub house_fields : ℕ → List ℕ → List HouseField
house_fields at s = house_fields_from (length s) at s

-- the fields in a field at the offset `at`, behind its tag and length
abbrev pub house_fields_in : ℕ → List ℕ → List HouseField
house_fields_in at s = house_fields (at + 3) s

-- A place for fields of one tag in a holder: one is due, at most one may be there, or any number.
pub data Slot : Type 0 where
  one at_most_one many : ℕ → Slot

-- What a field's content is: a name, a type reference's text, or fields in the order of these slots; or there is no such tag.
pub data Content : Type 0 where
  a_name a_reference no_tag : Content
  holds : List Slot → Content

pub data Entry : Type 0 where
  entry : ℕ → Content → Entry

-- each tag and what it holds
unfoldable pub contents : List Entry
contents =
    entry tag_scalar (holds (one tag_name ∷ [])) ∷
    entry tag_object (holds (one tag_name ∷ many tag_implements ∷ many tag_field ∷ [])) ∷
    entry tag_interface (holds (one tag_name ∷ many tag_field ∷ [])) ∷
    entry tag_union (holds (one tag_name ∷ many tag_union_member ∷ [])) ∷
    entry tag_enum (holds (one tag_name ∷ many tag_enum_value ∷ [])) ∷
    entry tag_input_object (holds (one tag_name ∷ many tag_argument ∷ [])) ∷
    entry tag_directive (holds (one tag_name ∷ many tag_argument ∷ [])) ∷
    entry tag_roots (holds (one tag_query_root ∷ at_most_one tag_mutation_root ∷ at_most_one tag_subscription_root ∷ [])) ∷
    entry tag_field (holds (one tag_name ∷ one tag_reference ∷ many tag_argument ∷ [])) ∷
    entry tag_argument (holds (one tag_name ∷ one tag_reference ∷ [])) ∷
    entry tag_name a_name ∷
    entry tag_implements a_name ∷
    entry tag_reference a_reference ∷
    entry tag_union_member a_name ∷
    entry tag_enum_value a_name ∷
    entry tag_query_root a_name ∷
    entry tag_mutation_root a_name ∷
    entry tag_subscription_root a_name ∷
    []

unfoldable pub look_up : ℕ → List Entry → Content
look_up tag [] = no_tag
look_up tag (entry k c ∷ es) = cond (eqb tag k) c (look_up tag es)

abbrev pub content_of : ℕ → Content
content_of tag = look_up tag contents

abbrev pub is_for : ℕ → Slot → Bool
is_for tag (one k) = eqb tag k
is_for tag (at_most_one k) = eqb tag k
is_for tag (many k) = eqb tag k

-- a field of this tag is in place: one of the slots still open is for it
abbrev pub in_place : ℕ → List Slot → Bool
in_place tag slots = any_of (is_for tag) slots

-- The slots open behind a field in place: none "due" before it, and not its own "where once is due".
unfoldable pub open_after : ℕ → List Slot → List Slot
open_after tag [] = []
open_after tag (one k ∷ ss) = cond (eqb tag k) ss (open_after tag ss)
open_after tag (at_most_one k ∷ ss) = cond (eqb tag k) ss (open_after tag ss)
open_after tag (many k ∷ ss) = cond (eqb tag k) (many k ∷ ss) (open_after tag ss)

-- behind a field out of place they are as before it
abbrev pub open_behind : ℕ → List Slot → List Slot
open_behind tag slots = cond (in_place tag slots) (open_after tag slots) slots

abbrev pub tag_is : ℕ → HouseField → Bool
tag_is k (house_field at tag s) = eqb tag k
tag_is k (cut at) = false

-- a field is missing: one is due and there is none
abbrev pub lacked_by : List HouseField → Slot → Bool
lacked_by ps (one k) = not (any_of (tag_is k) ps)
lacked_by ps (at_most_one k) = false
lacked_by ps (many k) = false

abbrev pub lacks_house_field : List Slot → List HouseField → Bool
lacks_house_field slots ps = any_of (lacked_by ps) slots

-- Some offsets in a field, by its own offset, its tag, its content.
abbrev pub Offsets : Type 0
Offsets = ℕ → ℕ → List ℕ → List ℕ

-- the wrong ones among a holder's fields: its own, of one out of place or not whole; else those in it
unfoldable pub in_order : Offsets → List Slot → List HouseField → List ℕ
in_order inner slots [] = []
in_order inner slots (cut at ∷ ps) = at ∷ in_order inner slots ps
in_order inner slots (house_field at tag s ∷ ps) = cond (in_place tag slots) (inner at tag s) (at ∷ []) ++ in_order inner (open_behind tag slots) ps

-- "a missing field is told at a holder that is right otherwise"
abbrev pub or_lacking : ℕ → Bool → List ℕ → List ℕ
or_lacking at lacking [] = only_if lacking at
or_lacking at lacking (w ∷ ws) = w ∷ ws

-- a field's by its content
unfoldable pub by_content : Offsets → ℕ → List ℕ → Content → List ℕ
by_content inner at s no_tag = at ∷ []
by_content inner at s a_name = only_if (not (is_name s)) at
by_content inner at s a_reference = only_if (not (is_reference s)) at
by_content inner at s (holds slots) = or_lacking at (lacks_house_field slots (house_fields_in at s)) (in_order inner slots (house_fields_in at s))

-- the first number bounds how deep fields stand in one another
unfoldable pub wrongs : ℕ → Offsets
wrongs zero at tag s = at ∷ []
wrongs (suc d) at tag s = by_content (wrongs d) at s (content_of tag)

-- a record, a field of it, its argument, its name
abbrev pub most_deep : ℕ
most_deep = 4

-- "Records: 1 scalar .. 8 roots (at most one)", in any order; `roots` is whether an 8 may still come
abbrev pub record_in_place : Bool → ℕ → Bool
record_in_place roots tag = leb tag_scalar tag && leb tag tag_roots && (not (eqb tag tag_roots) || roots)

-- the wrong offsets of a table
unfoldable pub table_wrongs : Bool → List HouseField → List ℕ
table_wrongs roots [] = []
table_wrongs roots (cut at ∷ ps) = at ∷ table_wrongs roots ps
table_wrongs roots (house_field at tag s ∷ ps) =
    cond (record_in_place roots tag) (wrongs most_deep at tag s) (at ∷ []) ++ table_wrongs (roots && not (eqb tag tag_roots)) ps

-- the smallest of some offsets
abbrev pub smaller : ℕ → Option ℕ → Option ℕ
smaller w none = some w
smaller w (some v) = some (cond (leb w v) w v)

unfoldable pub smallest : List ℕ → Option ℕ
smallest [] = none
smallest (w ∷ ws) = smaller w (smallest ws)

-- Refusal 7: the smallest wrong offset, if there is one.
unfoldable pub framing_offset : List ℕ → Option ℕ
framing_offset s = smallest (table_wrongs true (house_fields 0 s))
