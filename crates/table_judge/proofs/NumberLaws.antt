-- Which rule a number means.
use mathlib.Core.Path.{◌≡◌, refl}
use mathlib.Core.Bool.{Bool, true, false, cond}
use mathlib.Core.List.{[]}
use Prim.Native.Nat.{ℕ, ◌≤◌, ◌<◌}
use lib.Dec.{eqb}
use borrow.Author.Tests.{eq-eqb, ne_eqb, le-leb, lt-leb}
use Rattle.paper_table.specs.Promises.{promised, promised_by}
use Rattle.paper_table.specs.Rule1ReservedName.{reserved_name}
use Rattle.paper_table.specs.Rule2NameKnown.{name_known}
use Rattle.paper_table.specs.Rule3NoMembers.{no_members}
use Rattle.paper_table.specs.Rule4NameRepeated.{name_repeated}
use Rattle.paper_table.specs.Rule5ReservedMember.{reserved_member}
use Rattle.paper_table.specs.Rule6EnumValue.{enum_value}
use Rattle.paper_table.specs.Rule7NoType.{no_type}
use Rattle.paper_table.specs.Rule8Base.{wrong_base}
use Rattle.paper_table.specs.Rule9NotObjectOrInterface.{not_object_or_interface}
use Rattle.paper_table.specs.Rule10ImplementedTwice.{implemented_twice}
use Rattle.paper_table.specs.Rule11FieldMissing.{interface_field_missing, missing_breaks}
use Rattle.paper_table.specs.Rule12FieldType.{field_type, type_breaks}
use Rattle.paper_table.specs.Rule13ArgumentMissing.{interface_argument_missing, argument_breaks}
use Rattle.paper_table.specs.Rule14ArgumentType.{argument_type, argument_type_breaks}
use Rattle.paper_table.specs.Rule15ArgumentExtra.{argument_extra, extra_breaks}
use Rattle.paper_table.specs.Rule16Root.{root_not_object}
use Rattle.paper_table.specs.Types.{Definition, Table}
use Rattle.paper_table.proofs.ListsLaws.{each_from_nil}
use Rattle.table_rules_11_15_quick.specs.Keeping.{AllKept}
use Rattle.table_judge.specs.Schema.{early_rule, promise_rule, late_rule, rule_of}

module _ (k : ℕ) where
  pub early_1 : k ≡ 1 → early_rule k ≡ reserved_name
  unfolding early_rule
  early_1 e = rw (eq-eqb k 1 e) refl

  pub early_2 : (k ≡ 1 → ⊥) → k ≡ 2 → early_rule k ≡ name_known
  unfolding early_rule
  early_2 n1 e = rw (ne_eqb k 1 n1, eq-eqb k 2 e) refl

  pub early_3 : (k ≡ 1 → ⊥) → (k ≡ 2 → ⊥) → k ≡ 3 → early_rule k ≡ no_members
  unfolding early_rule
  early_3 n1 n2 e = rw (ne_eqb k 1 n1, ne_eqb k 2 n2, eq-eqb k 3 e) refl

  pub early_4 : (k ≡ 1 → ⊥) → (k ≡ 2 → ⊥) → (k ≡ 3 → ⊥) → k ≡ 4 → early_rule k ≡ name_repeated
  unfolding early_rule
  early_4 n1 n2 n3 e = rw (ne_eqb k 1 n1, ne_eqb k 2 n2, ne_eqb k 3 n3, eq-eqb k 4 e) refl

  pub early_5 : (k ≡ 1 → ⊥) → (k ≡ 2 → ⊥) → (k ≡ 3 → ⊥) → (k ≡ 4 → ⊥) → k ≡ 5 → early_rule k ≡ reserved_member
  unfolding early_rule
  early_5 n1 n2 n3 n4 e = rw (ne_eqb k 1 n1, ne_eqb k 2 n2, ne_eqb k 3 n3, ne_eqb k 4 n4, eq-eqb k 5 e) refl

  pub early_6 : (k ≡ 1 → ⊥) → (k ≡ 2 → ⊥) → (k ≡ 3 → ⊥) → (k ≡ 4 → ⊥) → (k ≡ 5 → ⊥) → k ≡ 6 → early_rule k ≡ enum_value
  unfolding early_rule
  early_6 n1 n2 n3 n4 n5 e = rw (ne_eqb k 1 n1, ne_eqb k 2 n2, ne_eqb k 3 n3, ne_eqb k 4 n4, ne_eqb k 5 n5, eq-eqb k 6 e) refl

  pub early_7 : (k ≡ 1 → ⊥) → (k ≡ 2 → ⊥) → (k ≡ 3 → ⊥) → (k ≡ 4 → ⊥) → (k ≡ 5 → ⊥) → (k ≡ 6 → ⊥) → k ≡ 7 → early_rule k ≡ no_type
  unfolding early_rule
  early_7 n1 n2 n3 n4 n5 n6 e = rw (ne_eqb k 1 n1, ne_eqb k 2 n2, ne_eqb k 3 n3, ne_eqb k 4 n4, ne_eqb k 5 n5, ne_eqb k 6 n6, eq-eqb k 7 e) refl

  pub early_8 : (k ≡ 1 → ⊥) → (k ≡ 2 → ⊥) → (k ≡ 3 → ⊥) → (k ≡ 4 → ⊥) → (k ≡ 5 → ⊥) → (k ≡ 6 → ⊥) → (k ≡ 7 → ⊥) → early_rule k ≡ wrong_base
  unfolding early_rule
  early_8 n1 n2 n3 n4 n5 n6 n7 = rw (ne_eqb k 1 n1, ne_eqb k 2 n2, ne_eqb k 3 n3, ne_eqb k 4 n4, ne_eqb k 5 n5, ne_eqb k 6 n6, ne_eqb k 7 n7) refl

module _ (k : ℕ) where
  pub promise_11 : k ≡ 11 → promise_rule k ≡ interface_field_missing
  unfolding promise_rule
  promise_11 e = rw (eq-eqb k 11 e) refl

  pub promise_12 : (k ≡ 11 → ⊥) → k ≡ 12 → promise_rule k ≡ field_type
  unfolding promise_rule
  promise_12 n11 e = rw (ne_eqb k 11 n11, eq-eqb k 12 e) refl

  pub promise_13 : (k ≡ 11 → ⊥) → (k ≡ 12 → ⊥) → k ≡ 13 → promise_rule k ≡ interface_argument_missing
  unfolding promise_rule
  promise_13 n11 n12 e = rw (ne_eqb k 11 n11, ne_eqb k 12 n12, eq-eqb k 13 e) refl

  pub promise_14 : (k ≡ 11 → ⊥) → (k ≡ 12 → ⊥) → (k ≡ 13 → ⊥) → k ≡ 14 → promise_rule k ≡ argument_type
  unfolding promise_rule
  promise_14 n11 n12 n13 e = rw (ne_eqb k 11 n11, ne_eqb k 12 n12, ne_eqb k 13 n13, eq-eqb k 14 e) refl

  pub promise_other : (k ≡ 11 → ⊥) → (k ≡ 12 → ⊥) → (k ≡ 13 → ⊥) → (k ≡ 14 → ⊥) → promise_rule k ≡ argument_extra
  unfolding promise_rule
  promise_other n11 n12 n13 n14 = rw (ne_eqb k 11 n11, ne_eqb k 12 n12, ne_eqb k 13 n13, ne_eqb k 14 n14) refl

module _ (k : ℕ) where
  pub late_9 : k ≡ 9 → late_rule k ≡ not_object_or_interface
  unfolding late_rule
  late_9 e = rw (eq-eqb k 9 e) refl

  pub late_10 : (k ≡ 9 → ⊥) → k ≡ 10 → late_rule k ≡ implemented_twice
  unfolding late_rule
  late_10 n9 e = rw (ne_eqb k 9 n9, eq-eqb k 10 e) refl

  pub late_16 : (k ≡ 9 → ⊥) → (k ≡ 10 → ⊥) → k ≡ 16 → late_rule k ≡ root_not_object
  unfolding late_rule
  late_16 n9 n10 e = rw (ne_eqb k 9 n9, ne_eqb k 10 n10, eq-eqb k 16 e) refl

  pub late_other : (k ≡ 9 → ⊥) → (k ≡ 10 → ⊥) → (k ≡ 16 → ⊥) → late_rule k ≡ promise_rule k
  unfolding late_rule
  late_other n9 n10 n16 = rw (ne_eqb k 9 n9, ne_eqb k 10 n10, ne_eqb k 16 n16) refl

module _ (k : ℕ) where
  pub rule_early : k ≤ 8 → rule_of k ≡ early_rule k
  unfolding rule_of
  rule_early h = rw (le-leb k 8 h) refl

  pub rule_late : 8 < k → rule_of k ≡ late_rule k
  unfolding rule_of
  rule_late h = rw (lt-leb k 8 h) refl

-- where the five are kept, each is
pub promise_kept : (k : ℕ) (t : Table) (i : ℕ) (d : Definition) → AllKept t i d → promise_rule k t i d ≡ []
unfolding promise_rule
promise_kept k t i d h = go (eqb k 11) (eqb k 12) (eqb k 13) (eqb k 14)
  where
    go : (a b c e : Bool) → (cond a interface_field_missing (cond b field_type (cond c interface_argument_missing (cond e argument_type argument_extra)))) t i d ≡ []
    go true b c e = h.field_missing
    go false true c e = h.field_type_is
    go false false true e = h.argument_missing
    go false false false true = h.argument_type_is
    go false false false false = h.argument_extra_is

pub nothing_promised : (t : Table) (i : ℕ) (d : Definition) → d.implements ≡ [] → AllKept t i d
unfolding interface_field_missing field_type interface_argument_missing argument_type argument_extra promised
nothing_promised t i d e = record {
  field_missing = rw e (each_from_nil 0 (promised_by (missing_breaks d) t));
  field_type_is = rw e (each_from_nil 0 (promised_by (type_breaks t d) t));
  argument_missing = rw e (each_from_nil 0 (promised_by (argument_breaks d) t));
  argument_type_is = rw e (each_from_nil 0 (promised_by (argument_type_breaks d) t));
  argument_extra_is = rw e (each_from_nil 0 (promised_by (extra_breaks d) t));
}
