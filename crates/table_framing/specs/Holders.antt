-- What a field's content is, as the code has it.
-- Assumes nothing.
use Rattle.std.specs.Prelude.{◌≡◌, Bool, true, false, not, ◌&&◌, ◌||◌, cond, List, [], ◌∷◌, ℕ, suc, ◌+◌, ◌*◌, leb, eqb}
use Rattle.paper_table.specs.TableNumbers.{tag_reference, tag_implements, tag_enum_value}
use Rattle.paper_table.specs.Lists.{any_of}
use Rattle.paper_table.specs.House.{HouseField, Slot, one, at_most_one, many, a_name, a_reference, no_tag, holds, content_of, in_place, tag_is, lacks_house_field}
use Rattle.table_framing.specs.declared.Holding.{Holding}
use Rattle.table_framing.specs.declared.Holding.TheVariants.{Name, Reference, Fields, Nothing}

-- One order of all tags in which every holder's slots rise: by number, but a reference (20) comes before the arguments (19).
abbrev pub rank : ℕ → ℕ
rank k = cond (eqb k tag_reference) 37 (2 * k)

-- a slot of this tag is for any number of fields, in every holder that has one
abbrev pub is_many : ℕ → Bool
is_many k = leb tag_implements k && leb k tag_enum_value && not (eqb k tag_reference)

-- behind a field of this tag: the least rank that is in place
abbrev pub least_after : ℕ → ℕ
least_after k = cond (is_many k) (rank k) (rank k + 1)

-- a field of this tag is in place from the least rank on, in a holder of these
abbrev pub placed : ℕ → ℕ → ℕ → ℕ → ℕ → Bool
placed first from to least k = leb least (rank k) && (eqb k first || leb from k && leb k to)

abbrev pub slot_tag : Slot → ℕ
slot_tag (one k) = k
slot_tag (at_most_one k) = k
slot_tag (many k) = k

abbrev pub slot_many : Slot → Bool
slot_many (one k) = false
slot_many (at_most_one k) = false
slot_many (many k) = true

abbrev pub agrees : Bool → Bool → Bool
agrees true b = b
agrees false b = not b

-- slots that rise in this order, from the rank m on, and are for many where their tag is
unfoldable pub ranked : ℕ → List Slot → Bool
ranked m [] = true
ranked m (s ∷ ss) = leb m (rank (slot_tag s)) && (agrees (slot_many s) (is_many (slot_tag s)) && ranked (suc (rank (slot_tag s))) ss)

-- the slots of a rank from m on
unfoldable pub open_from : ℕ → List Slot → List Slot
open_from m [] = []
open_from m (s ∷ ss) = cond (leb m (rank (slot_tag s))) (s ∷ open_from m ss) (open_from m ss)

-- a tag's content is fields: these are due, and the others are of tags from one to another
pub record Holder (tag first second from to : ℕ) : Type 0 where
  pub slots : List Slot
  pub is : content_of tag ≡ holds slots
  pub known : (k : ℕ) → in_place k slots ≡ eqb k first || leb from k && leb k to
  pub dues : (ps : List HouseField) → lacks_house_field slots ps ≡ not (any_of (tag_is first) ps) || not (any_of (tag_is second) ps)
  pub rises : ranked 0 slots ≡ true

abbrev pub HoldsAs : ℕ → Holding → Type 0
HoldsAs tag Name = content_of tag ≡ a_name
HoldsAs tag Reference = content_of tag ≡ a_reference
HoldsAs tag Nothing = content_of tag ≡ no_tag
HoldsAs tag (Fields first second from to) = Holder tag first second from to
