-- A field as one number; what is asked of a table.
-- Assumes nothing.
use Rattle.std.specs.Prelude.{◌≡◌, Bool, true, ◌||◌, cond, List, ℕ, ◌-◌, ◌≤◌, ◌<◌}
use Rattle.paper_table.specs.Lists.{all_of}
use Rattle.paper_table.specs.Types.{Member, Definition, Table, table_of, is_object, is_interface}
use Rattle.paper_table.specs.Rule7NoType.{is_field}
use Rattle.paper_query.specs.Enclosing.{FieldIs, typename, member, missing, unknown, selections_type}
use Rattle.table_entries.specs.Entries.{MemberStands}
use Rattle.query_types.specs.Coded.{type_coded}

-- the number of a field that is no member
abbrev pub field_unknown : ℕ
field_unknown = 0

abbrev pub field_missing : ℕ
field_missing = 1

abbrev pub field_typename : ℕ
field_typename = 2

-- a member's is its entry's, so much more
abbrev pub field_first : ℕ
field_first = 3

pub record MemberKept (t book es : List ℕ) (m : Member) (at : ℕ) : Type 0 where
  pub first : field_first ≤ at
  pub stands : MemberStands t book es (at - field_first)
  pub is : stands.member ≡ m

abbrev pub Kept : List ℕ → List ℕ → List ℕ → FieldIs → ℕ → Type 0
Kept t book es unknown at = at ≡ field_unknown
Kept t book es missing at = at ≡ field_missing
Kept t book es typename at = at ≡ field_typename
Kept t book es (member m) at = MemberKept t book es m at

-- this number is that field
pub record FieldKept (t book es : List ℕ) (f : FieldIs) (at : ℕ) : Type 0 where
  pub kept : Kept t book es f at

-- a number that is a member's has an entry
abbrev pub FieldStands : List ℕ → List ℕ → List ℕ → ℕ → Type 0
FieldStands t book es at = field_typename < at → MemberStands t book es (at - field_first)

-- c is the type that the selections of this field are of
abbrev pub FieldTyped : List ℕ → List ℕ → List ℕ → ℕ → ℕ → Type 0
FieldTyped t book es at c = (f : FieldIs) → FieldKept t book es f at → type_coded c ≡ selections_type (table_of t) f

-- the members of objects and interfaces are fields
abbrev pub fields_only : Definition → Bool
fields_only d = cond (is_object d || is_interface d) (all_of is_field d.members) true

abbrev pub Fielded : Table → Type 0
Fielded t = all_of fields_only t ≡ true
