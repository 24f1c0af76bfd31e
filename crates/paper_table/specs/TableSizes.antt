-- The counts of a table, and the first over its size.
-- States: 01, "Sizes and refusals": "Table: 256 top-level records, 64 members and 64 implemented names each, 16 arguments per field, 7 wrappers (`[` or `!`)
-- per type reference"; row 8 of the refusals.
-- Assumes nothing.
use Rattle.std.specs.Prelude.{Bool, ◌&&◌, ◌||◌, cond, List, [], ◌∷◌, ◌++◌, map, ℕ, zero, suc, ◌+◌, pred, leb, eqb}
use Rattle.std.proofs.Math.Option.{Option}
use Rattle.paper.specs.Numbers.{most_wrappers}
use Rattle.paper_table.specs.TableNumbers.{most_records, most_members, most_implemented, most_arguments, tag_scalar, tag_roots, tag_implements, tag_field, tag_argument, tag_subscription_root}
use Rattle.paper_table.specs.Lists.{any_of, only_if}
use Rattle.paper_table.specs.References.{byte_bang, byte_bracket_l}
use Rattle.paper_table.specs.House.{HouseField, house_field, cut, house_fields, house_fields_in, Content, a_name, a_reference, no_tag, holds, content_of, Offsets, most_deep, smallest}

-- How many fields of the tags from one to another may still come.
pub data Room : Type 0 where
  room : ℕ → ℕ → ℕ → Room

abbrev pub counts_towards : ℕ → Room → Bool
counts_towards tag (room from to n) = leb from tag && leb tag to

abbrev pub is_over : ℕ → Room → Bool
is_over tag (room from to n) = counts_towards tag (room from to n) && eqb n 0

abbrev pub less_room : ℕ → Room → Room
less_room tag (room from to n) = room from to (cond (counts_towards tag (room from to n)) (pred n) n)

-- a table's records
abbrev pub room_in_table : List Room
room_in_table = room tag_scalar tag_roots most_records ∷ []

-- a record's implemented names and members, a field's arguments
unfoldable pub room_in : ℕ → List Room
room_in tag =
    cond (leb tag tag_roots) (room tag_implements tag_implements most_implemented ∷ room tag_field tag_subscription_root most_members ∷ [])
    (cond (eqb tag tag_field) (room tag_argument tag_argument most_arguments ∷ []) [])

-- the offsets over a size among a holder's fields: each field with no room left, and those in it
unfoldable pub overs_in : Offsets → List Room → List HouseField → List ℕ
overs_in inner rooms [] = []
overs_in inner rooms (cut at ∷ ps) = overs_in inner rooms ps
overs_in inner rooms (house_field at tag s ∷ ps) = only_if (any_of (is_over tag) rooms) at ++ (inner at tag s ++ overs_in inner (map (less_room tag) rooms) ps)

-- the offsets of the wrappers over n in a reference's text at the offset `at`
abbrev pub is_wrapper : ℕ → Bool
is_wrapper b = eqb b byte_bracket_l || eqb b byte_bang

unfoldable pub wrappers_over : ℕ → ℕ → List ℕ → List ℕ
wrappers_over n at [] = []
wrappers_over n at (b ∷ s) = only_if (is_wrapper b && eqb n 0) at ++ wrappers_over (cond (is_wrapper b) (pred n) n) (at + 1) s

-- the offsets over a size in a field, by its content
unfoldable pub overs_by : Offsets → ℕ → ℕ → List ℕ → Content → List ℕ
overs_by inner at tag s no_tag = []
overs_by inner at tag s a_name = []
overs_by inner at tag s a_reference = wrappers_over most_wrappers (at + 3) s
overs_by inner at tag s (holds slots) = overs_in inner (room_in tag) (house_fields_in at s)

-- the first number bounds how deep fields stand in one another
unfoldable pub overs : ℕ → Offsets
overs zero at tag s = []
overs (suc d) at tag s = overs_by (overs d) at tag s (content_of tag)

-- Refusal 8: "offset of the first over it".
unfoldable pub counts_offset : List ℕ → Option ℕ
counts_offset s = smallest (overs_in (overs most_deep) room_in_table (house_fields 0 s))
