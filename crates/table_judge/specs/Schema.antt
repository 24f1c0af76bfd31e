-- The rules by their numbers, and what is said of their places.
-- Assumes nothing.
use Rattle.std.specs.Prelude.{◌≡◌, Bool, true, false, cond, ◌⊎◌, Result, Ok, Err, List, ℕ, ◌+◌, length, leb, eqb}
use Prim.{Unit}
use Rattle.paper_table.specs.TableNumbers.{no_place, rule_reserved_name, rule_name_known, rule_no_members, rule_name_repeated, rule_reserved_member, rule_enum_value, rule_no_type, rule_base, rule_not_object_or_interface, rule_implemented_twice, rule_field_missing, rule_field_type, rule_argument_missing, rule_argument_type, rule_root}
use Rattle.paper_table.specs.Lists.{all_of}
use Rattle.paper_table.specs.Types.{Table, table_of}
use Rattle.paper_table.specs.Places.{Rule}
use Rattle.paper_table.specs.Rule1ReservedName.{reserved_name}
use Rattle.paper_table.specs.Rule2NameKnown.{name_known}
use Rattle.paper_table.specs.Rule3NoMembers.{no_members}
use Rattle.paper_table.specs.Rule4NameRepeated.{name_repeated}
use Rattle.paper_table.specs.Rule5ReservedMember.{reserved_member}
use Rattle.paper_table.specs.Rule6EnumValue.{enum_value}
use Rattle.paper_table.specs.Rule7NoType.{no_type}
use Rattle.paper_table.specs.Rule8Base.{wrong_base}
use Rattle.paper_table.specs.Rule9NotObjectOrInterface.{not_object_or_interface}
use Rattle.paper_table.specs.Rule10ImplementedTwice.{implemented_twice}
use Rattle.paper_table.specs.Rule11FieldMissing.{interface_field_missing}
use Rattle.paper_table.specs.Rule12FieldType.{field_type}
use Rattle.paper_table.specs.Rule13ArgumentMissing.{interface_argument_missing}
use Rattle.paper_table.specs.Rule14ArgumentType.{argument_type}
use Rattle.paper_table.specs.Rule15ArgumentExtra.{argument_extra}
use Rattle.paper_table.specs.Rule16Root.{root_not_object, query_not_object}
use Rattle.paper_table.specs.declared.TableAnswer.{TableAnswer}
use Rattle.paper_table.specs.declared.TableAnswer.TheVariants.{Accepted, Breaks}
use Rattle.table_book.specs.Book.{book_size}
use Rattle.table_types.specs.Booked.{Booked, definition_on, start_in, end_in}
use Rattle.table_listing.specs.Listed.{Listed}
use Rattle.table_types.specs.Sizes.{Slim, few_members}
use Rattle.table_rules_11_15_quick.specs.Keeping.{AllKept}
use Rattle.table_places.specs.declared.Place.{Place as CodePlace}

-- 1 to 8; 9 to 16
unfoldable pub early_rule : ℕ → Rule
early_rule k =
    cond (eqb k rule_reserved_name) reserved_name
    (cond (eqb k rule_name_known) name_known
    (cond (eqb k rule_no_members) no_members
    (cond (eqb k rule_name_repeated) name_repeated
    (cond (eqb k rule_reserved_member) reserved_member
    (cond (eqb k rule_enum_value) enum_value
    (cond (eqb k rule_no_type) no_type
    wrong_base))))))

-- 11 to 15
unfoldable pub promise_rule : ℕ → Rule
promise_rule k =
    cond (eqb k rule_field_missing) interface_field_missing
    (cond (eqb k rule_field_type) field_type
    (cond (eqb k rule_argument_missing) interface_argument_missing
    (cond (eqb k rule_argument_type) argument_type
    argument_extra)))

unfoldable pub late_rule : ℕ → Rule
late_rule k =
    cond (eqb k rule_not_object_or_interface) not_object_or_interface
    (cond (eqb k rule_implemented_twice) implemented_twice
    (cond (eqb k rule_root) root_not_object
    (promise_rule k)))

unfoldable pub rule_of : ℕ → Rule
rule_of k = cond (leb k rule_base) (early_rule k) (late_rule k)

-- the rule after number k: the next, or the first behind 4 to 8 or 11 to 15 where these are kept
abbrev pub NextRule : Bool → Bool → ℕ → ℕ → Type 0
NextRule clean promising k r =
    (r ≡ k + 1) ⊎ (((k ≡ rule_no_members) × (clean ≡ true) × (r ≡ rule_not_object_or_interface)) ⊎ ((k ≡ rule_implemented_twice) × (promising ≡ false) × (r ≡ rule_root)))

-- a rule's first place in definition i, as the answer shows it
abbrev pub shown_at : ℕ → ℕ → Result (Unit {0}) CodePlace → TableAnswer
shown_at i k (Ok x) = Accepted
shown_at i k (Err q) = Breaks i k q.member q.part q.argument

-- without record 8, where `Query` is the only root
abbrev pub query_answer : Table → TableAnswer
query_answer t = cond (query_not_object t) (Breaks (length t) rule_root no_place no_place no_place) Accepted

-- what is asked of a table: its book, and its sizes
pub record Checkable (t book : List ℕ) : Type 0 where
  pub booked : Booked t book
  pub slim : Slim (table_of t)
  pub few : all_of few_members (table_of t) ≡ true

-- definition i's members are listed, or it keeps the rules that need the list
pub record Promising (t book listed : List ℕ) (i : ℕ) (r : Bool) : Type 0 where
  pub cells : length listed ≡ book_size
  pub lists : r ≡ true → Listed t listed (start_in book i) (end_in book i)
  pub keeps : r ≡ false → AllKept (table_of t) i (definition_on t i)

-- what is said, and the list may be used again
pub record Answered (listed : List ℕ) (r said : TableAnswer) : Type 0 where
  pub is : r ≡ said
  pub cells : length listed ≡ book_size
