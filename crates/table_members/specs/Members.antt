-- What stands in a content of a table, by its places: the members of a record, the arguments of a member, the names a record implements.
-- Assumes nothing.
use Rattle.std.specs.Prelude.{◌≡◌, Bool, ◌||◌, cond, Option, Some, None, List, [], ◌∷◌, ℕ, ◌+◌, ◌-◌, ◌%◌, ◌≤◌, length, leb, eqb}
use Rattle.std.proofs.Math.Option.{Option as Optional, none, some}
use Rattle.std.proofs.Math.Seq.{slice}
use Rattle.paper_table.specs.TableNumbers.{tag_field, tag_argument, tag_union_member}
use Rattle.paper_table.specs.Lists.{find, gather}
use Rattle.paper_table.specs.References.{Ref, base_of}
use Rattle.paper_table.specs.House.{HouseField, house_field, cut, house_fields}
use Rattle.paper_table.specs.Types.{Argument, Member, Definition, name_in, type_in, name_only, argument_of, member_of, implemented_of, member_named, argument_named}
use Rattle.table_fields.specs.declared.Field.{Field}
use Rattle.table_fields.specs.Wrappers.{pack_of, pack_limit}
use Rattle.table_book.specs.Book.{part}

-- the fields of the content from `start` up to `end`
abbrev pub fields_in : List ℕ → ℕ → ℕ → List HouseField
fields_in t start end = house_fields start (slice start end t)

-- what they are as a record's, a member's, a definition's
abbrev pub members_in : List ℕ → ℕ → ℕ → List Member
members_in t start end = gather member_of (fields_in t start end)

abbrev pub arguments_in : List ℕ → ℕ → ℕ → List Argument
arguments_in t start end = gather argument_of (fields_in t start end)

abbrev pub implemented_in : List ℕ → ℕ → ℕ → List (List ℕ)
implemented_in t start end = gather implemented_of (fields_in t start end)

-- the argument, the member, the definition of a field with this content
abbrev pub argument_from : List ℕ → ℕ → ℕ → Argument
argument_from t start end = record { name = name_in (fields_in t start end); type = type_in (fields_in t start end) }

abbrev pub field_from : List ℕ → ℕ → ℕ → Member
field_from t start end = record { tag = tag_field; name = name_in (fields_in t start end); type = type_in (fields_in t start end); arguments = arguments_in t start end }

abbrev pub input_from : List ℕ → ℕ → ℕ → Member
input_from t start end = record { tag = tag_argument; name = name_in (fields_in t start end); type = type_in (fields_in t start end); arguments = [] }

unfoldable pub member_from : List ℕ → ℕ → ℕ → ℕ → Member
member_from t tag start end = cond (eqb tag tag_field) (field_from t start end) (cond (eqb tag tag_argument) (input_from t start end) (name_only tag (slice start end t)))

abbrev pub definition_from : List ℕ → ℕ → ℕ → ℕ → Definition
definition_from t tag start end =
    record { tag = tag; name = name_in (fields_in t start end); implements = implemented_in t start end; members = members_in t start end }

-- the tags of members
abbrev pub is_member : ℕ → Bool
is_member tag = eqb tag tag_field || (eqb tag tag_argument || leb tag_union_member tag)

-- the fields from the first of this tag on
unfoldable pub from_tag : ℕ → List HouseField → List HouseField
from_tag k [] = []
from_tag k (cut at ∷ ps) = from_tag k ps
from_tag k (house_field at tag s ∷ ps) = cond (eqb tag k) (house_field at tag s ∷ ps) (from_tag k ps)

-- where a content lies that was found from `at` on
pub record Lies (at end start stop : ℕ) : Type 0 where
  pub begins : at + 3 ≤ start
  pub order : start ≤ stop
  pub within : stop ≤ end

-- the first one from `at` on was found there, and these are the others
pub record First {A : Type 0} (at end start stop : ℕ) (all : List A) (one : A) (others : List A) : Type 0 where
  pub lies : Lies at end start stop
  pub all_are : all ≡ one ∷ others

abbrev pub NextTag : List ℕ → ℕ → ℕ → ℕ → Option Field → Type 0
NextTag t at end k (Some f) = First at end f.start f.end (from_tag k (fields_in t at end)) (house_field (f.start - 3) k (slice f.start f.end t)) (fields_in t f.end end)
NextTag t at end k None = from_tag k (fields_in t at end) ≡ []

abbrev pub NextMember : List ℕ → ℕ → ℕ → Option Field → Type 0
NextMember t at end (Some f) = First at end f.start f.end (members_in t at end) (member_from t f.tag f.start f.end) (members_in t f.end end)
NextMember t at end None = members_in t at end ≡ []

abbrev pub NextArgument : List ℕ → ℕ → ℕ → Option Field → Type 0
NextArgument t at end (Some f) = First at end f.start f.end (arguments_in t at end) (argument_from t f.start f.end) (arguments_in t f.end end)
NextArgument t at end None = arguments_in t at end ≡ []

abbrev pub NextImplemented : List ℕ → ℕ → ℕ → Option Field → Type 0
NextImplemented t at end (Some f) = First at end f.start f.end (implemented_in t at end) (part t f.start (f.end - f.start)) (implemented_in t f.end end)
NextImplemented t at end None = implemented_in t at end ≡ []

-- n bytes of the table from `at` on are this text
pub record Named (t : List ℕ) (at n : ℕ) (text : List ℕ) : Type 0 where
  pub is : part t at n ≡ text
  pub within : at + n ≤ length t

-- these bytes are the name of this reference, and this number its wrappers, of more than seven the outer seven
pub record Typed (t : List ℕ) (at n wrappers : ℕ) (ref : Ref) : Type 0 where
  pub base : part t at n ≡ base_of ref
  pub packs : wrappers ≡ pack_of ref % pack_limit
  pub within : at + n ≤ length t

-- a member's arguments stand from r up to its end
pub record ArgumentsFrom (t : List ℕ) (tag start end r : ℕ) : Type 0 where
  pub are : arguments_in t r end ≡ (member_from t tag start end).arguments
  pub order : r ≤ end

-- the first so named was found there
pub record Finds {A : Type 0} (at end start stop : ℕ) (sought : Optional A) (one : A) : Type 0 where
  pub lies : Lies at end start stop
  pub is : sought ≡ some one

abbrev pub FindMember : List ℕ → ℕ → ℕ → List ℕ → Option Field → Type 0
FindMember t at end n (Some f) = Finds at end f.start f.end (find (member_named n) (members_in t at end)) (member_from t f.tag f.start f.end)
FindMember t at end n None = find (member_named n) (members_in t at end) ≡ none

abbrev pub FindArgument : List ℕ → ℕ → ℕ → List ℕ → Option Field → Type 0
FindArgument t at end n (Some f) = Finds at end f.start f.end (find (argument_named n) (arguments_in t at end)) (argument_from t f.start f.end)
FindArgument t at end n None = find (argument_named n) (arguments_in t at end) ≡ none
