-- A place's type as two numbers.
-- Assumes nothing.
use Rattle.std.specs.Prelude.{◌≡◌, Bool, true, not, ◌&&◌, cond, List, ℕ, suc, ◌-◌, ◌≤◌, eqb, leb}
use Rattle.std.proofs.Math.Option.{Option, none, some}
use Rattle.paper.specs.Numbers.{most_wrappers}
use Rattle.paper_table.specs.TableNumbers.{tag_object, tag_union}
use Rattle.paper_table.specs.Lists.{bytes, all_of, find}
use Rattle.paper_table.specs.References.{Ref}
use Rattle.paper_table.specs.Types.{Argument, Member, tag_nothing, argument_named}
use Rattle.paper_table.proofs.ReferenceSizes.{wrappers as wrapperCount}
use Rattle.paper_query.specs.Enclosing.{then}
use Rattle.paper_query.specs.PlaceTypes.{Shape, shape, shape_of, item_of}
use Rattle.table_book.specs.Book.{part}
use Rattle.table_entries.specs.Entries.{Roomy, entry_base, entry_extent, cell, Entry, MemberEntry}
use Rattle.query_place_types.specs.declared.Place.{Place}

-- the first number: the type is not known; it is Boolean, whose name need not stand in the table; else it is that of an entry, so much more
abbrev pub place_unknown : ℕ
place_unknown = 0

abbrev pub place_boolean : ℕ
place_boolean = 1

abbrev pub place_first : ℕ
place_first = 2

-- the base of entry e's type
abbrev pub base_at : List ℕ → List ℕ → ℕ → List ℕ
base_at t es e = part t (cell es e entry_base) (cell es e entry_extent)

-- the type that a place is
unfoldable pub coded : List ℕ → List ℕ → Place → Option Shape
coded t es p =
    cond (eqb p.at place_unknown) none
    (cond (eqb p.at place_boolean) (some (shape (bytes "Boolean") p.wrappers)) (some (shape (base_at t es (p.at - place_first)) p.wrappers)))

-- entry e is of some name and type
pub record EntryStands (t book es : List ℕ) (e : ℕ) : Type 0 where
  pub most : Roomy es (suc e)
  pub name : List ℕ
  pub type : Ref
  pub is : Entry t book es e name type

-- with some book; of some table
pub record BookedEntry (t es : List ℕ) (e : ℕ) : Type 0 where
  pub book : List ℕ
  pub stands : EntryStands t book es e

abbrev pub SomeEntry : List ℕ → ℕ → Type 0
SomeEntry es e = (t : List ℕ) × BookedEntry t es e

-- a place that is an entry's: it stands
abbrev pub Within : List ℕ → List ℕ → List ℕ → Place → Type 0
Within t book es p = place_first ≤ p.at → EntryStands t book es (p.at - place_first)

abbrev pub Based : List ℕ → List ℕ → Place → Type 0
Based t es p = place_first ≤ p.at → BookedEntry t es (p.at - place_first)

-- the place p is this type
pub record Keeps (t book es : List ℕ) (x : Option Shape) (p : Place) : Type 0 where
  pub is : x ≡ coded t es p
  pub within : Within t book es p

-- r is the items' type of p, whatever the table
abbrev pub Items : Place → Place → Type 0
Items p r = (t book es : List ℕ) → Within t book es p → Keeps t book es (then (coded t es p) item_of) r

-- at most seven wrappers
abbrev pub slim : Ref → Bool
slim r = leb (wrapperCount r) most_wrappers

abbrev pub slim_argument : Argument → Bool
slim_argument x = slim x.type

-- the type of what was found
abbrev pub argument_shape : Option Argument → Option Shape
argument_shape o = then o (λ x. some (shape_of x.type))

abbrev pub member_shape : Option Member → Option Shape
member_shape o = then o (λ e. some (shape_of e.type))

-- r is the type of entry e, whatever the table
abbrev pub EntryPlace : List ℕ → ℕ → Place → Type 0
EntryPlace es e r = (t book name : List ℕ) (type : Ref) → Entry t book es e name type → slim type ≡ true → Keeps t book es (some (shape_of type)) r

-- r is the type of the argument of this name, of the member with entry e
abbrev pub ArgumentPlace : List ℕ → List ℕ → List ℕ → ℕ → List ℕ → Place → Type 0
ArgumentPlace t book es e n r =
    (m : Member) → MemberEntry t book es e m → all_of slim_argument m.arguments ≡ true → Keeps t book es (argument_shape (find (argument_named n) m.arguments)) r

-- the tags of scalars, enums and input objects, among those of types
abbrev pub input_tag : ℕ → Bool
input_tag tag = not (eqb tag tag_nothing) && not (leb tag_object tag && leb tag tag_union)
