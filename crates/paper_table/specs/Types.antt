-- A table as types: its definitions with their members and references, and what a name means.
-- States: 01, "The type table": "A name means the first type so named. The five built-in scalars, skip and include are always known."
-- Assumes nothing.
use Rattle.std.specs.Prelude.{Bool, ◌&&◌, ◌||◌, cond, false, List, [], ◌∷◌, ℕ, get_or, leb, eqb}
use Rattle.std.proofs.Math.Option.{Option, none, some}
use Rattle.paper.specs.Tokens.{same}
use Rattle.paper_table.specs.TableNumbers.{tag_scalar, tag_object, tag_interface, tag_union, tag_enum, tag_input_object, tag_directive, tag_roots, tag_name, tag_implements, tag_field, tag_argument, tag_reference, tag_union_member, tag_query_root}
use Rattle.paper_table.specs.Lists.{bytes, any_of, first_at, find, gather, only_if}
use Rattle.paper_table.specs.References.{Ref, named, ref_of}
use Rattle.paper_table.specs.House.{HouseField, house_field, cut, house_fields, house_fields_in}

-- a field's argument
pub record Argument : Type 0 where
  pub name : List ℕ
  pub type : Ref

-- a member: a field (18), an input field or a directive's argument (19), a union's member (21), an enum's value (22), a root (23 to 25);
-- a type have 18 and 19 alone, arguments 18 alone
pub record Member : Type 0 where
  pub tag : ℕ
  pub name : List ℕ
  pub type : Ref
  pub arguments : List Argument

-- a record: its tag, its name (none in 8), the names it implements, its members
pub record Definition : Type 0 where
  pub tag : ℕ
  pub name : List ℕ
  pub implements : List (List ℕ)
  pub members : List Member

abbrev pub Table : Type 0
Table = List Definition

-- What a table's bytes write.
-- the content of the first field with this tag, no bytes if there is none
unfoldable pub text_of : ℕ → List HouseField → List ℕ
text_of k [] = []
text_of k (cut at ∷ ps) = text_of k ps
text_of k (house_field at tag s ∷ ps) = cond (eqb tag k) s (text_of k ps)

-- where there is no reference, one to a type of no name
abbrev pub or_none : Option Ref → Ref
or_none none = named []
or_none (some r) = r

abbrev pub name_in : List HouseField → List ℕ
name_in ps = text_of tag_name ps

abbrev pub type_in : List HouseField → Ref
type_in ps = or_none (ref_of (text_of tag_reference ps))

-- an argument of the content s, at the offset `at`
abbrev pub argument_in : ℕ → List ℕ → Argument
argument_in at s = record { name = name_in (house_fields_in at s); type = type_in (house_fields_in at s) }

abbrev pub argument_of : HouseField → List Argument
argument_of (cut at) = []
argument_of (house_field at tag s) = only_if (eqb tag tag_argument) (argument_in at s)

-- a field; an input field or a directive's argument; a member that is one name
abbrev pub field_in : ℕ → List ℕ → Member
field_in at s = record { tag = tag_field; name = name_in (house_fields_in at s); type = type_in (house_fields_in at s); arguments = gather argument_of (house_fields_in at s) }

abbrev pub input_in : ℕ → List ℕ → Member
input_in at s = record { tag = tag_argument; name = name_in (house_fields_in at s); type = type_in (house_fields_in at s); arguments = [] }

abbrev pub name_only : ℕ → List ℕ → Member
name_only tag s = record { tag = tag; name = s; type = named []; arguments = [] }

unfoldable pub member_of : HouseField → List Member
member_of (cut at) = []
member_of (house_field at tag s) =
    cond (eqb tag tag_field) (field_in at s ∷ [])
    (cond (eqb tag tag_argument) (input_in at s ∷ [])
    (only_if (leb tag_union_member tag) (name_only tag s)))

abbrev pub implemented_of : HouseField → List (List ℕ)
implemented_of (cut at) = []
implemented_of (house_field at tag s) = only_if (eqb tag tag_implements) s

-- a record
abbrev pub definition_in : ℕ → ℕ → List ℕ → Definition
definition_in at tag s = record { tag = tag; name = name_in (house_fields_in at s); implements = gather implemented_of (house_fields_in at s); members = gather member_of (house_fields_in at s) }

unfoldable pub definition_of : HouseField → List Definition
definition_of (cut at) = []
definition_of (house_field at tag s) = definition_in at tag s ∷ []

unfoldable pub table_of : List ℕ → Table
table_of s = gather definition_of (house_fields 0 s)

-- What a definition is.
abbrev pub is_object : Definition → Bool
is_object d = eqb d.tag tag_object

abbrev pub is_interface : Definition → Bool
is_interface d = eqb d.tag tag_interface

abbrev pub is_union : Definition → Bool
is_union d = eqb d.tag tag_union

abbrev pub is_enum : Definition → Bool
is_enum d = eqb d.tag tag_enum

abbrev pub is_input_object : Definition → Bool
is_input_object d = eqb d.tag tag_input_object

abbrev pub is_directive : Definition → Bool
is_directive d = eqb d.tag tag_directive

abbrev pub is_roots : Definition → Bool
is_roots d = eqb d.tag tag_roots

-- a type: 1 to 6
abbrev pub is_type : Definition → Bool
is_type d = leb d.tag tag_input_object

-- a name that begins `__`
abbrev pub is_reserved : List ℕ → Bool
is_reserved [] = false
is_reserved (a ∷ []) = false
is_reserved (a ∷ b ∷ s) = eqb a 0x5f && eqb b 0x5f

-- a member, an argument of this name
abbrev pub member_named : List ℕ → Member → Bool
member_named n e = same e.name n

abbrev pub argument_named : List ℕ → Argument → Bool
argument_named n x = same x.name n

-- an object, interface or union
abbrev pub is_composite : Definition → Bool
is_composite d = leb tag_object d.tag && leb d.tag tag_union

abbrev pub type_named : List ℕ → Definition → Bool
type_named n d = is_type d && same d.name n

abbrev pub directive_named : List ℕ → Definition → Bool
directive_named n d = is_directive d && same d.name n

-- the five built-in scalars
unfoldable pub built_ins : List (List ℕ)
built_ins = bytes "Int" ∷ bytes "Float" ∷ bytes "String" ∷ bytes "Boolean" ∷ bytes "ID" ∷ []

abbrev pub is_built_in : List ℕ → Bool
is_built_in n = any_of (same n) built_ins

unfoldable pub built_in_directives : List (List ℕ)
built_in_directives = bytes "skip" ∷ bytes "include" ∷ []

-- What a name means: a built-in scalar, the type that is the table's definition of a number, or nothing.
pub data Meaning : Type 0 where
  built_in no_meaning : Meaning
  definition : ℕ → Meaning

-- the built-ins come before the table
unfoldable pub meaning : Table → List ℕ → Meaning
meaning t n = cond (is_built_in n) built_in (cond (any_of (type_named n) t) (definition (first_at (type_named n) t)) no_meaning)

-- a definition of this tag and nothing else: a built-in scalar's, and, with tag 0, that of no type
abbrev pub blank_definition : ℕ → Definition
blank_definition tag = record { tag = tag; name = []; implements = []; members = [] }

abbrev pub tag_nothing : ℕ
tag_nothing = 0

abbrev pub definition_by : Table → Meaning → Definition
definition_by t built_in = blank_definition tag_scalar
definition_by t no_meaning = blank_definition tag_nothing
definition_by t (definition i) = get_or t i (blank_definition tag_nothing)

-- the definition that a name means
abbrev pub meant : Table → List ℕ → Definition
meant t n = definition_by t (meaning t n)

-- a name of no type
abbrev pub is_unknown : Definition → Bool
is_unknown d = eqb d.tag tag_nothing

-- The roots: record 8's members. "Without record 8, `Query` is the only root."
abbrev pub roots_in : Option Definition → List Member
roots_in none = name_only tag_query_root (bytes "Query") ∷ []
roots_in (some d) = d.members

unfoldable pub roots_of : Table → List Member
roots_of t = roots_in (find is_roots t)

-- The interface or union a can be the object o: o names the interface, or the union names o.
unfoldable pub can_be : Table → List ℕ → List ℕ → Bool
can_be t a o =
    is_object (meant t o) &&
    (is_interface (meant t a) && any_of (same a) (meant t o).implements ||
    is_union (meant t a) && any_of (λ m. same o m.name) (meant t a).members)
