-- What the quick judge of a record answers of its fields.
-- Assumes nothing.
use Rattle.std.specs.Prelude.{◌≡◌, List, [], ℕ}
use Rattle.paper_table.specs.House.{Slot, house_fields_in, content_of, holds, in_order, wrongs}
use Rattle.paper_table.specs.TableSizes.{room_in, overs_in, overs}

-- each field of a record is in place, with nothing wrong in it and nothing over a size; a field that is due may be missing
pub record Members (at tag : ℕ) (s : List ℕ) : Type 0 where
  pub slots : List Slot
  pub is : content_of tag ≡ holds slots
  pub ordered : in_order (wrongs 3) slots (house_fields_in at s) ≡ []
  pub within : overs_in (overs 3) (room_in tag) (house_fields_in at s) ≡ []
