-- The breaks of a table, the least of them, and what is said of a table.
-- States: 01, "The type table": "Shown is the least break by definition, rule, member, part, argument; 65,535 is none"; "Sizes and refusals": rows 7, 8 and 9, and their order.
-- Assumes nothing.
use Rattle.std.specs.Prelude.{Bool, true, false, ◌&&◌, ◌||◌, cond, List, [], ◌∷◌, ◌++◌, map, ℕ, length, ltb, eqb}
use Rattle.std.proofs.Math.Option.{Option, none, some}
use Rattle.paper.specs.Numbers.{accepted, refuse_too_many}
use Rattle.paper_table.specs.TableNumbers.{refuse_framing, refuse_schema, rule_reserved_name, rule_name_known, rule_no_members, rule_name_repeated, rule_reserved_member, rule_enum_value, rule_no_type, rule_base, rule_not_object_or_interface, rule_implemented_twice, rule_field_missing, rule_field_type, rule_argument_missing, rule_argument_type, rule_argument_extra, rule_root}
use Rattle.paper_table.specs.Lists.{gather, each, only_if}
use Rattle.paper_table.specs.House.{framing_offset}
use Rattle.paper_table.specs.TableSizes.{counts_offset}
use Rattle.paper_table.specs.Types.{Definition, Table, table_of}
use Rattle.paper_table.specs.Places.{Place, whole_of, Rule}
use Rattle.paper_table.specs.Rule1ReservedName.{reserved_name}
use Rattle.paper_table.specs.Rule2NameKnown.{name_known}
use Rattle.paper_table.specs.Rule3NoMembers.{no_members}
use Rattle.paper_table.specs.Rule4NameRepeated.{name_repeated}
use Rattle.paper_table.specs.Rule5ReservedMember.{reserved_member}
use Rattle.paper_table.specs.Rule6EnumValue.{enum_value}
use Rattle.paper_table.specs.Rule7NoType.{no_type}
use Rattle.paper_table.specs.Rule8Base.{wrong_base}
use Rattle.paper_table.specs.Rule9NotObjectOrInterface.{not_object_or_interface}
use Rattle.paper_table.specs.Rule10ImplementedTwice.{implemented_twice}
use Rattle.paper_table.specs.Rule11FieldMissing.{interface_field_missing}
use Rattle.paper_table.specs.Rule12FieldType.{field_type}
use Rattle.paper_table.specs.Rule13ArgumentMissing.{interface_argument_missing}
use Rattle.paper_table.specs.Rule14ArgumentType.{argument_type}
use Rattle.paper_table.specs.Rule15ArgumentExtra.{argument_extra}
use Rattle.paper_table.specs.Rule16Root.{root_not_object, query_not_object}
use Rattle.paper_table.specs.declared.TableAnswer.{TableAnswer}
use Rattle.paper_table.specs.declared.TableAnswer.TheVariants.{Accepted, Framing, TooMany, Breaks}

-- each rule by its number
pub record Numbered : Type 0 where
  pub number : ℕ
  pub rule : Rule

abbrev pub numbered : ℕ → Rule → Numbered
numbered n q = record { number = n; rule = q }

unfoldable pub rules : List Numbered
rules =
    numbered rule_reserved_name reserved_name ∷
    numbered rule_name_known name_known ∷
    numbered rule_no_members no_members ∷
    numbered rule_name_repeated name_repeated ∷
    numbered rule_reserved_member reserved_member ∷
    numbered rule_enum_value enum_value ∷
    numbered rule_no_type no_type ∷
    numbered rule_base wrong_base ∷
    numbered rule_not_object_or_interface not_object_or_interface ∷
    numbered rule_implemented_twice implemented_twice ∷
    numbered rule_field_missing interface_field_missing ∷
    numbered rule_field_type field_type ∷
    numbered rule_argument_missing interface_argument_missing ∷
    numbered rule_argument_type argument_type ∷
    numbered rule_argument_extra argument_extra ∷
    numbered rule_root root_not_object ∷
    []

-- a break: a rule's place in the definition of a number
pub record Break : Type 0 where
  pub definition : ℕ
  pub rule : ℕ
  pub place : Place

abbrev pub break : ℕ → ℕ → Place → Break
break i k q = record { definition = i; rule = k; place = q }

-- all breaks of a table, in this order
abbrev pub breaks_of_rule : Table → ℕ → Definition → Numbered → List Break
breaks_of_rule t i d n = map (break i n.number) (n.rule t i d)

unfoldable pub breaks_of : Table → ℕ → Definition → List Break
breaks_of t i d = gather (breaks_of_rule t i d) rules

unfoldable pub breaks : Table → List Break
breaks t = each (breaks_of t) t ++ only_if (query_not_object t) (break (length t) rule_root whole_of)

-- what is shown of a break
abbrev pub numbers_of : Break → List ℕ
numbers_of b = b.definition ∷ b.rule ∷ b.place.member ∷ b.place.part ∷ b.place.argument ∷ []

-- not after: as the numbers shown compare, from the first on
unfoldable pub not_after : List ℕ → List ℕ → Bool
not_after [] ys = true
not_after (x ∷ xs) [] = false
not_after (x ∷ xs) (y ∷ ys) = ltb x y || eqb x y && not_after xs ys

abbrev pub lesser : Break → Option Break → Option Break
lesser b none = some b
lesser b (some c) = some (cond (not_after (numbers_of b) (numbers_of c)) b c)

-- the least of some breaks
unfoldable pub least_break : List Break → Option Break
least_break [] = none
least_break (b ∷ bs) = lesser b (least_break bs)

-- "table 7, 8, 9"
unfoldable pub table_answer : Option ℕ → Option ℕ → Option Break → TableAnswer
table_answer (some at) over broken = Framing at
table_answer none (some at) broken = TooMany at
table_answer none none (some b) = Breaks b.definition b.rule b.place.member b.place.part b.place.argument
table_answer none none none = Accepted

-- What is said of a table's bytes.
unfoldable pub judge : List ℕ → TableAnswer
judge s = table_answer (framing_offset s) (counts_offset s) (least_break (breaks (table_of s)))

-- the column "No."
abbrev pub table_number : TableAnswer → ℕ
table_number Accepted = accepted
table_number (Framing at) = refuse_framing
table_number (TooMany at) = refuse_too_many
table_number (Breaks definition rule member part argument) = refuse_schema

-- the column "Shown"
abbrev pub table_shown : TableAnswer → List ℕ
table_shown Accepted = []
table_shown (Framing at) = at ∷ []
table_shown (TooMany at) = at ∷ []
table_shown (Breaks definition rule member part argument) = definition ∷ rule ∷ member ∷ part ∷ argument ∷ []
