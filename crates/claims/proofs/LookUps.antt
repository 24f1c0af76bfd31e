-- Facts of the library's own: the functions by which the calls look up what stands in a table and in a document meet their contracts.
-- No promise to a caller of the library; what later calls stand on.
-- Assumes nothing.
use mathlib.Core.Path.{◌≡◌}
use mathlib.Core.List.{List}
use Prim.Native.Nat.{ℕ, ◌<◌}
use Rattle.paper_table.specs.TableNumbers.{tag_field}
use Rattle.table_book.specs.Book.{count_in}
use Rattle.table_members.specs.Members.{members_in, arguments_in, member_from}
use Rattle.table_types.specs.Booked.{Booked, start_in, end_in, definition_on}
use Rattle.table_types.proofs.fill.Statement as fill
use Rattle.table_types.proofs.fill.Met as fill-met
use Rattle.table_types.proofs.meaning_of.Statement as meaning-of
use Rattle.table_types.proofs.meaning_of.Met as meaning-of-met
use Rattle.table_types.proofs.tag_meant.Statement as tag-meant
use Rattle.table_types.proofs.tag_meant.Met as tag-meant-met
use Rattle.table_types.proofs.can_be.Statement as can-be
use Rattle.table_types.proofs.can_be.Met as can-be-met
use Rattle.table_types.proofs.is_sub_type.Statement as is-sub-type
use Rattle.table_types.proofs.is_sub_type.Met as is-sub-type-met
use Rattle.table_members.proofs.find_member.Statement as find-member
use Rattle.table_members.proofs.find_member.Met as find-member-met
use Rattle.table_members.proofs.find_argument.Statement as find-argument
use Rattle.table_members.proofs.find_argument.Met as find-argument-met
use Rattle.query_rule_3.proofs.first_called.Statement as first-called
use Rattle.query_rule_3.proofs.first_called.Met as first-called-met
use Rattle.query_reach.proofs.reach.Statement as reach
use Rattle.query_reach.proofs.reach.Met as reach-met
use Rattle.query_reach.proofs.reaches.Statement as reaches
use Rattle.query_reach.proofs.reaches.Met as reaches-met
use Rattle.query_reach.proofs.circles.Statement as circles
use Rattle.query_reach.proofs.circles.Met as circles-met
use Rattle.query_inside.proofs.enclose.Statement as enclose
use Rattle.query_inside.proofs.enclose.Met as enclose-met
use Rattle.query_places.proofs.places.Statement as places
use Rattle.query_places.proofs.places.Met as places-met
use Rattle.query_rules_10_11.proofs.definition_of.Statement as definition-of
use Rattle.query_rules_10_11.proofs.definition_of.Met as definition-of-met
use Rattle.claims.proofs.LookedLaws as looked

-- ---- LOOKING UP IN A TABLE: what the calls that take a table stand on. Their contracts also speak of places in the bytes (`crates/table_members/specs`) and of
-- a book of the definitions (`crates/table_types/specs`).

-- `table_types::fill` makes the book of a table of at most 256 records, by which the others look up: `Booked`.
pub table_book_meets : {M : Type 1} → fill.statement M
table_book_meets = fill-met.met

-- `table_types::meaning_of` and `table_types::tag_meant`: what a name means (`meaning`), and the tag of that type (`meant`).
pub type_by_name_meets : {M : Type 1} → meaning-of.statement M
type_by_name_meets = meaning-of-met.met

pub type_tag_by_name_meets : {M : Type 1} → tag-meant.statement M
type_tag_by_name_meets = tag-meant-met.met

-- `table_types::can_be`: whether an interface or union can be an object (`can_be`).
pub can_be_meets : {M : Type 1} → can-be.statement M
can_be_meets = can-be-met.met

-- `table_types::is_sub_type`: the test `sub_test` of two references in the table.
pub is_sub_type_meets : {M : Type 1} → is-sub-type.statement M
is_sub_type_meets = is-sub-type-met.met

-- `table_members::find_member` and `table_members::find_argument`: the first member of a definition, the first argument of a field, that has a name. Both go by
-- the place of a content in the table; the content of definition i, which the book has, holds that definition's members, and a field's its arguments.
pub member_by_name_meets : {M : Type 1} → find-member.statement M
member_by_name_meets = find-member-met.met

pub argument_by_name_meets : {M : Type 1} → find-argument.statement M
argument_by_name_meets = find-argument-met.met

pub definition_members : (t book : List ℕ) → Booked t book → (i : ℕ) → i < count_in book → members_in t (start_in book i) (end_in book i) ≡ (definition_on t i).members
definition_members = looked.definition_members

pub field_arguments : (t : List ℕ) (start stop : ℕ) → arguments_in t start stop ≡ (member_from t tag_field start stop).arguments
field_arguments = looked.field_arguments

-- ---- LOOKING UP IN A DOCUMENT: what coercion and planning stand on. Their contracts speak of `doc_of` the lent rows (`crates/query_rows/specs`).

-- `query_rule_3::first_called`: the first row of a kind and a name; of kind 1, the operation of a name.
pub row_by_name_meets : {M : Type 1} → first-called.statement M
row_by_name_meets = first-called-met.met

-- Reaching as it is computed is the relation: `query_reach::reach` marks the fragments that some spread which a definition reaches spreads,
-- `query_reach::reaches` decides `Reaches` for a row, `query_reach::circles` decides rule 8.
pub reach_meets : {M : Type 1} → reach.statement M
reach_meets = reach-met.met

pub reaches_meets : {M : Type 1} → reaches.statement M
reaches_meets = reaches-met.met

pub circles_meets : {M : Type 1} → circles.statement M
circles_meets = circles-met.met

-- `query_inside::enclose` keeps the type inside each row and what each field is (`type_inside`, `field_at`); `query_places::places` the type due at each argument,
-- object field and value (`place`).
pub enclose_meets : {M : Type 1} → enclose.statement M
enclose_meets = enclose-met.met

pub places_meets : {M : Type 1} → places.statement M
places_meets = places-met.met

-- `query_rules_10_11::definition_of`: the first definition, by an operation, of a variable.
pub variable_definition_meets : {M : Type 1} → definition-of.statement M
variable_definition_meets = definition-of-met.met
