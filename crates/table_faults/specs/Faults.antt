-- The tests of the rules that ask each member, and each argument of a member, by the rule's number.
-- Assumes nothing.
use Rattle.std.specs.Prelude.{Bool, false, cond, List, ℕ, eqb}
use Rattle.paper_table.specs.TableNumbers.{rule_name_repeated, rule_reserved_member, rule_enum_value, rule_no_type, rule_base}
use Rattle.paper_table.specs.Types.{Argument, Member, Table, is_unknown, is_reserved, member_named, argument_named, is_composite}
use Rattle.paper_table.specs.Lists.{earlier}
use Rattle.paper_table.specs.Rule6EnumValue.{is_no_enum_value}
use Rattle.paper_table.specs.Rule7NoType.{base_meant, member_type_unknown}
use Rattle.paper_table.specs.Rule8Base.{member_base_wrong}
use Rattle.paper_table.specs.Rule9NotObjectOrInterface.{member_no_object}

-- member m, one of these, breaks the rule of this number: 4 to 8; of any other, its name is no object's
unfoldable pub member_fails : ℕ → Table → List Member → ℕ → Member → Bool
member_fails rule t ms m e =
    cond (eqb rule rule_no_type) (member_type_unknown t m e)
    (cond (eqb rule rule_base) (member_base_wrong t m e)
    (cond (eqb rule rule_name_repeated) (earlier (member_named e.name) m ms)
    (cond (eqb rule rule_reserved_member) (is_reserved e.name)
    (cond (eqb rule rule_enum_value) (is_no_enum_value m e) (member_no_object t m e)))))

-- argument a, one of these, breaks the rule of this number: 4, 5, 7, 8; no argument breaks any other
unfoldable pub argument_fails : ℕ → Table → List Argument → ℕ → Argument → Bool
argument_fails rule t xs a x =
    cond (eqb rule rule_no_type) (is_unknown (base_meant t x.type))
    (cond (eqb rule rule_base) (is_composite (base_meant t x.type))
    (cond (eqb rule rule_name_repeated) (earlier (argument_named x.name) a xs)
    (cond (eqb rule rule_reserved_member) (is_reserved x.name) false)))
