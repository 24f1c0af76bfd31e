-- Which test each rule asks of a member and of an argument.
use mathlib.Core.Path.{◌≡◌, refl, sym}
use mathlib.Core.Bool.{false}
use mathlib.Core.List.{List}
use Prim.Native.Nat.{ℕ}
use borrow.Author.Tests.{eq-eqb, ne_eqb}
use Rattle.paper_table.specs.TableNumbers.{rule_name_repeated, rule_reserved_member, rule_enum_value, rule_no_type, rule_base}
use Rattle.paper_table.specs.Types.{Argument, Member, Table, is_unknown, is_reserved, member_named, argument_named, is_composite}
use Rattle.paper_table.specs.Lists.{earlier}
use Rattle.paper_table.specs.Rule6EnumValue.{is_no_enum_value}
use Rattle.paper_table.specs.Rule7NoType.{base_meant, member_type_unknown}
use Rattle.paper_table.specs.Rule8Base.{member_base_wrong}
use Rattle.paper_table.specs.Rule9NotObjectOrInterface.{member_no_object}
use Rattle.table_faults.specs.Faults.{member_fails, argument_fails}

module _ (rule : ℕ) (t : Table) (ms : List Member) (m : ℕ) (e : Member) where
  pub member_seven : rule ≡ rule_no_type → member_type_unknown t m e ≡ member_fails rule t ms m e
  unfolding member_fails
  member_seven k = sym (rw (eq-eqb rule rule_no_type k) refl)

  module _ (n7 : rule ≡ rule_no_type → ⊥) where
    pub member_eight : rule ≡ rule_base → member_base_wrong t m e ≡ member_fails rule t ms m e
    unfolding member_fails
    member_eight k = sym (rw (ne_eqb rule rule_no_type n7, eq-eqb rule rule_base k) refl)

    module _ (n8 : rule ≡ rule_base → ⊥) where
      pub member_four : rule ≡ rule_name_repeated → earlier (member_named e.name) m ms ≡ member_fails rule t ms m e
      unfolding member_fails
      member_four k = sym (rw (ne_eqb rule rule_no_type n7, ne_eqb rule rule_base n8, eq-eqb rule rule_name_repeated k) refl)

      module _ (n4 : rule ≡ rule_name_repeated → ⊥) where
        pub member_five : rule ≡ rule_reserved_member → is_reserved e.name ≡ member_fails rule t ms m e
        unfolding member_fails
        member_five k = sym (rw (ne_eqb rule rule_no_type n7, ne_eqb rule rule_base n8, ne_eqb rule rule_name_repeated n4, eq-eqb rule rule_reserved_member k) refl)

        module _ (n5 : rule ≡ rule_reserved_member → ⊥) where
          pub member_six : rule ≡ rule_enum_value → is_no_enum_value m e ≡ member_fails rule t ms m e
          unfolding member_fails
          member_six k = sym (rw (ne_eqb rule rule_no_type n7, ne_eqb rule rule_base n8, ne_eqb rule rule_name_repeated n4, ne_eqb rule rule_reserved_member n5, eq-eqb rule rule_enum_value k) refl)

          pub member_other : (rule ≡ rule_enum_value → ⊥) → member_no_object t m e ≡ member_fails rule t ms m e
          unfolding member_fails
          member_other n6 = sym (rw (ne_eqb rule rule_no_type n7, ne_eqb rule rule_base n8, ne_eqb rule rule_name_repeated n4, ne_eqb rule rule_reserved_member n5, ne_eqb rule rule_enum_value n6) refl)

module _ (rule : ℕ) (t : Table) (xs : List Argument) (a : ℕ) (x : Argument) where
  pub argument_seven : rule ≡ rule_no_type → is_unknown (base_meant t x.type) ≡ argument_fails rule t xs a x
  unfolding argument_fails
  argument_seven k = sym (rw (eq-eqb rule rule_no_type k) refl)

  module _ (n7 : rule ≡ rule_no_type → ⊥) where
    pub argument_eight : rule ≡ rule_base → is_composite (base_meant t x.type) ≡ argument_fails rule t xs a x
    unfolding argument_fails
    argument_eight k = sym (rw (ne_eqb rule rule_no_type n7, eq-eqb rule rule_base k) refl)

    module _ (n8 : rule ≡ rule_base → ⊥) where
      pub argument_four : rule ≡ rule_name_repeated → earlier (argument_named x.name) a xs ≡ argument_fails rule t xs a x
      unfolding argument_fails
      argument_four k = sym (rw (ne_eqb rule rule_no_type n7, ne_eqb rule rule_base n8, eq-eqb rule rule_name_repeated k) refl)

      module _ (n4 : rule ≡ rule_name_repeated → ⊥) where
        pub argument_five : rule ≡ rule_reserved_member → is_reserved x.name ≡ argument_fails rule t xs a x
        unfolding argument_fails
        argument_five k = sym (rw (ne_eqb rule rule_no_type n7, ne_eqb rule rule_base n8, ne_eqb rule rule_name_repeated n4, eq-eqb rule rule_reserved_member k) refl)

        pub argument_other : (rule ≡ rule_reserved_member → ⊥) → false ≡ argument_fails rule t xs a x
        unfolding argument_fails
        argument_other n5 = sym (rw (ne_eqb rule rule_no_type n7, ne_eqb rule rule_base n8, ne_eqb rule rule_name_repeated n4, ne_eqb rule rule_reserved_member n5) refl)
