-- What each rule asks of a definition: nothing, the definition itself, its members, or the names it implements.
use mathlib.Core.Path.{◌≡◌, refl, sym, ap}
use mathlib.Core.Bool.{Bool, true, false, ◌&&◌, ◌||◌}
use mathlib.Core.List.{List, [], ◌∷◌, ◌++◌}
use Prim.Native.Nat.{ℕ, suc, ◌≤◌, ◌<◌}
use lib.ListN.{length}
use lib.Dec.{eqb}
use native.Mathlib.Omega.{arith}
use borrow.Author.Tests.{eq-eqb, ne_eqb, eqb-true, le-leb, lt-leb}
use Rattle.paper_table.specs.Lists.{each_from, each, only_if}
use Rattle.paper_table.specs.Types.{Argument, Member, Definition, Table, is_reserved}
use Rattle.paper_table.specs.Places.{Place, whole_of, member_at, argument_at, argument_places, member_places}
use Rattle.paper_table.specs.Rule1ReservedName.{reserved_name}
use Rattle.paper_table.specs.Rule2NameKnown.{type_known, directive_known, name_known}
use Rattle.paper_table.specs.Rule3NoMembers.{no_members}
use Rattle.paper_table.specs.Rule4NameRepeated.{name_repeated}
use Rattle.paper_table.specs.Rule5ReservedMember.{reserved_member}
use Rattle.paper_table.specs.Rule6EnumValue.{is_no_enum_value, enum_value}
use Rattle.paper_table.specs.Rule7NoType.{no_type}
use Rattle.paper_table.specs.Rule8Base.{wrong_base}
use Rattle.paper_table.specs.Rule9NotObjectOrInterface.{member_no_object, not_object_or_interface}
use Rattle.paper_table.specs.Rule10ImplementedTwice.{implemented_twice}
use Rattle.paper_table.specs.Rule16Root.{root_not_object}
use Rattle.table_bases.specs.Meanings.{implemented_fails}
use Rattle.table_faults.specs.Faults.{member_fails, argument_fails}
use Rattle.table_walks.specs.Walks.{members_at, implemented_at}

module _ {A B : Type 0} where
  each_same : (f g : ℕ → A → List B) → ((i : ℕ) (x : A) → f i x ≡ g i x) → (i : ℕ) (xs : List A) → each_from i f xs ≡ each_from i g xs
  unfolding each_from
  each_same f g h i [] = refl
  each_same f g h i (x ∷ xs) = rw (h i x) (ap (λ (ys : List B). g i x ++ ys) (each_same f g h (suc i) xs))

  each_nothing : (f : ℕ → A → List B) → ((i : ℕ) (x : A) → f i x ≡ []) → (i : ℕ) (xs : List A) → each_from i f xs ≡ []
  unfolding each_from
  each_nothing f h i [] = refl
  each_nothing f h i (x ∷ xs) = rw (h i x) (each_nothing f h (suc i) xs)

-- where no argument fails, the members alone are told
members_only : (t : Table) (fails : ℕ → Member → Bool) (argument_fails : Member → ℕ → Argument → Bool) → ((e : Member) (a : ℕ) (x : Argument) → argument_fails e a x ≡ false)
    → (ms : List Member) → each (λ m e. only_if (fails m e) (member_at m)) ms ≡ each (member_places fails argument_fails) ms
members_only t fails argument_fails h ms = each_same (λ m e. only_if (fails m e) (member_at m)) (member_places fails argument_fails) at 0 ms
  where
    none_of : (m : ℕ) (e : Member) → argument_places argument_fails m e ≡ []
    none_of m e = each_nothing (λ a x. only_if (argument_fails e a x) (argument_at m a)) (λ a x. rw (h e a x) refl) 0 e.arguments

    at : (m : ℕ) (e : Member) → only_if (fails m e) (member_at m) ≡ member_places fails argument_fails m e
    at m e = sym (ap (λ (ps : List Place). ps ++ only_if (fails m e) (member_at m)) (none_of m e))

module _ (t : Table) (i : ℕ) (d : Definition) where
  pub rule_1 : reserved_name t i d ≡ only_if (is_reserved d.name) whole_of
  unfolding reserved_name
  rule_1 = refl

  pub rule_2_type : d.tag ≤ 6 → name_known t i d ≡ only_if (type_known t i d) whole_of
  unfolding name_known
  rule_2_type h = rw (le-leb d.tag 6 h) (go (type_known t i d) (eqb d.tag 7) refl)
    where
      go : (b c : Bool) → eqb d.tag 7 ≡ c → only_if (b || c && directive_known t i d) whole_of ≡ only_if b whole_of
      go true c e = refl
      go false true e = absurd (let k : d.tag ≡ 7 = eqb-true d.tag 7 e in omega arith)
      go false false e = refl

  pub rule_2_directive : 6 < d.tag → d.tag ≡ 7 → name_known t i d ≡ only_if (directive_known t i d) whole_of
  unfolding name_known
  rule_2_directive h e = rw (lt-leb d.tag 6 h, eq-eqb d.tag 7 e) refl

  pub rule_2_other : 6 < d.tag → (d.tag ≡ 7 → ⊥) → name_known t i d ≡ []
  unfolding name_known
  rule_2_other h n = rw (lt-leb d.tag 6 h, ne_eqb d.tag 7 n) refl

  pub rule_3_low : d.tag < 2 → no_members t i d ≡ []
  unfolding no_members
  rule_3_low h = rw (lt-leb 2 d.tag h) refl

  pub rule_3_high : 2 ≤ d.tag → 6 < d.tag → no_members t i d ≡ []
  unfolding no_members
  rule_3_high l h = rw (le-leb 2 d.tag l, lt-leb d.tag 6 h) refl

  pub rule_3_type : 2 ≤ d.tag → d.tag ≤ 6 → no_members t i d ≡ only_if (eqb (length d.members) 0) whole_of
  unfolding no_members
  rule_3_type l h = rw (le-leb 2 d.tag l, le-leb d.tag 6 h) refl

  pub rule_4_roots : d.tag ≡ 8 → name_repeated t i d ≡ []
  unfolding name_repeated
  rule_4_roots e = rw (eq-eqb d.tag 8 e) refl

  pub rule_4 : (d.tag ≡ 8 → ⊥) → name_repeated t i d ≡ members_at 4 t d.members
  unfolding name_repeated member_fails argument_fails
  rule_4 n = rw (ne_eqb d.tag 8 n) refl

  pub rule_5_object : d.tag ≡ 2 → reserved_member t i d ≡ members_at 5 t d.members
  unfolding reserved_member member_fails argument_fails
  rule_5_object e = rw (eq-eqb d.tag 2 e) refl

  pub rule_5_interface : (d.tag ≡ 2 → ⊥) → d.tag ≡ 3 → reserved_member t i d ≡ members_at 5 t d.members
  unfolding reserved_member member_fails argument_fails
  rule_5_interface n e = rw (ne_eqb d.tag 2 n, eq-eqb d.tag 3 e) refl

  pub rule_5_other : (d.tag ≡ 2 → ⊥) → (d.tag ≡ 3 → ⊥) → reserved_member t i d ≡ []
  unfolding reserved_member
  rule_5_other n k = rw (ne_eqb d.tag 2 n, ne_eqb d.tag 3 k) refl

  pub rule_6 : d.tag ≡ 5 → enum_value t i d ≡ members_at 6 t d.members
  unfolding enum_value member_fails argument_fails
  rule_6 e = rw (eq-eqb d.tag 5 e) (members_only t is_no_enum_value (λ e. argument_fails 6 t e.arguments) (λ e a x. refl) d.members)

  pub rule_6_other : (d.tag ≡ 5 → ⊥) → enum_value t i d ≡ []
  unfolding enum_value
  rule_6_other n = rw (ne_eqb d.tag 5 n) refl

  pub rule_7 : no_type t i d ≡ members_at 7 t d.members
  unfolding no_type member_fails argument_fails
  rule_7 = refl

  pub rule_8 : wrong_base t i d ≡ members_at 8 t d.members
  unfolding wrong_base member_fails argument_fails
  rule_8 = refl

  pub rule_9_union : d.tag ≡ 4 → not_object_or_interface t i d ≡ members_at 9 t d.members
  unfolding not_object_or_interface member_fails argument_fails
  rule_9_union e = rw (eq-eqb d.tag 4 e) (members_only t (member_no_object t) (λ e. argument_fails 9 t e.arguments) (λ e a x. refl) d.members)

  pub rule_9 : (d.tag ≡ 4 → ⊥) → not_object_or_interface t i d ≡ implemented_at 9 t d.implements
  unfolding not_object_or_interface implemented_fails
  rule_9 n = rw (ne_eqb d.tag 4 n) refl

  pub rule_10 : implemented_twice t i d ≡ implemented_at 10 t d.implements
  unfolding implemented_twice implemented_fails
  rule_10 = refl

  pub rule_16 : d.tag ≡ 8 → root_not_object t i d ≡ members_at 16 t d.members
  unfolding root_not_object member_fails argument_fails
  rule_16 e = rw (eq-eqb d.tag 8 e) (members_only t (member_no_object t) (λ e. argument_fails 16 t e.arguments) (λ e a x. refl) d.members)

  pub rule_16_other : (d.tag ≡ 8 → ⊥) → root_not_object t i d ≡ []
  unfolding root_not_object
  rule_16_other n = rw (ne_eqb d.tag 8 n) refl
