-- One house field, by places of the table.
-- Assumes nothing.
use Rattle.std.specs.Prelude.{◌≡◌, cond, Option, Some, None, List, [], ◌∷◌, ℕ, ◌+◌, ◌-◌, ◌*◌, ◌≤◌, length, get_or, leb, ltb}
use Rattle.std.proofs.Math.Seq.{slice}
use Rattle.paper_table.specs.TableNumbers.{most_table}
use Rattle.paper_table.specs.House.{HouseField, house_field, cut, house_fields}
use Rattle.paper_table.specs.Types.{text_of}
use Rattle.table_fields.specs.declared.Field.{Field}

-- a part of a table, from one place up to another
pub record Bounds (t : List ℕ) (start end : ℕ) : Type 0 where
  pub order : start ≤ end
  pub within : end ≤ length t
  pub most : length t ≤ most_table

-- the two length bytes of a field, high first
abbrev pub size_at : List ℕ → ℕ → ℕ
size_at t at = 256 * get_or t (at + 1) 0 + get_or t (at + 2) 0

-- the field at a place, in a content that ends at `end`
abbrev pub field_at : List ℕ → ℕ → ℕ → Option Field
field_at t at end =
    cond (ltb (end - at) 3) None
    (cond (leb (size_at t at) (end - at - 3)) (Some (record { tag = get_or t at 0; start = at + 3; end = at + 3 + size_at t at })) None)

-- the fields from a place on, by what is read there
abbrev pub pieces_by : List ℕ → ℕ → ℕ → Option Field → List HouseField
pieces_by t at end (Some f) = house_field at f.tag (slice f.start f.end t) ∷ house_fields f.end (slice f.end end t)
pieces_by t at end None = cut at ∷ []

-- from `from` up to `to` stands the content of the first field of a tag, among those from `at` on; no bytes if there is none
pub record Finds (t : List ℕ) (at end tag from to : ℕ) : Type 0 where
  pub text : slice from to t ≡ text_of tag (house_fields at (slice at end t))
  pub begins : at ≤ from
  pub order : from ≤ to
  pub within : to ≤ end
