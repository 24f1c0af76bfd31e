-- Each rule's places stand in their order.
use mathlib.Core.Path.{◌≡◌, refl, subst}
use mathlib.Core.Bool.{Bool, true, false, ◌&&◌, ◌||◌, cond}
use mathlib.Core.Option.{Option, none, some}
use mathlib.Core.List.{List, [], ◌∷◌}
use Prim.Native.Nat.{ℕ, suc, ◌+◌, ◌≤◌, ◌<◌}
use native.Mathlib.Nat.{le_refl}
use native.Mathlib.Omega.{arith}
use lib.ListN.{length}
use lib.Dec.{ltb, eqb}
use borrow.Author.Tests.{ltb-true, ltb-false}
use Rattle.paper_table.specs.TableNumbers.{no_place}
use Rattle.paper_table.specs.Lists.{each_from, each, only_if}
use Rattle.paper_table.specs.Types.{Argument, Member, Definition, Table, is_object, is_interface, is_union, is_enum, is_directive, is_roots, is_type, meant, is_reserved}
use Rattle.paper_table.specs.Places.{Place, whole_of, member_at, argument_at, part_at, part_argument_at, Rule, members_that, argument_places, member_places, members_or_arguments_that, implemented_that}
use Rattle.paper_table.specs.Promises.{FieldBreaks, promised_by, promised, own, if_any}
use Rattle.paper_table.specs.Rule1ReservedName.{reserved_name}
use Rattle.paper_table.specs.Rule2NameKnown.{type_known, directive_known, name_known}
use Rattle.paper_table.specs.Rule3NoMembers.{needs_members, no_members}
use Rattle.paper_table.specs.Rule4NameRepeated.{member_repeats, argument_repeats, name_repeated}
use Rattle.paper_table.specs.Rule5ReservedMember.{member_reserved, argument_reserved, reserved_member}
use Rattle.paper_table.specs.Rule6EnumValue.{is_no_enum_value, enum_value}
use Rattle.paper_table.specs.Rule7NoType.{member_type_unknown, argument_type_unknown, no_type}
use Rattle.paper_table.specs.Rule8Base.{member_base_wrong, argument_base_wrong, wrong_base}
use Rattle.paper_table.specs.Rule9NotObjectOrInterface.{member_no_object, no_interface, not_object_or_interface}
use Rattle.paper_table.specs.Rule10ImplementedTwice.{implemented_before, implemented_twice}
use Rattle.paper_table.specs.Rule11FieldMissing.{lacks_field, missing_breaks, interface_field_missing}
use Rattle.paper_table.specs.Rule12FieldType.{no_sub_type, type_breaks, field_type}
use Rattle.paper_table.specs.Rule13ArgumentMissing.{lacks_argument, argument_breaks, interface_argument_missing}
use Rattle.paper_table.specs.Rule14ArgumentType.{types_differ, own_argument, argument_type_breaks, argument_type}
use Rattle.paper_table.specs.Rule15ArgumentExtra.{is_extra, extra_breaks, argument_extra}
use Rattle.paper_table.specs.Rule16Root.{root_not_object}
use Rattle.paper_table.proofs.Every.{Every, no_more, one_more}
use Rattle.paper_table.proofs.Before.{Before, empty, less, same, before_refl, Rise, done, rise_lower, rise_higher, rise_append, rise_one}

abbrev Any' : {A : Type 0} → A → Type 0
Any' x = Unit {0}

every_any : {A : Type 0} (xs : List A) → Every Any' xs
every_any [] = no_more
every_any (x ∷ xs) = one_more tt (every_any xs)

-- the numbers of a member's arguments come before "none"
abbrev pub Fits : Member → Type 0
Fits e = length e.arguments ≤ no_place

below : (n : ℕ) → n < suc n
below n = le_refl (suc n)

at_most : (n k : ℕ) (xs : List ℕ) → n ≤ k → Before (n ∷ []) (k ∷ xs)
at_most n k xs h = go (ltb n k) refl
  where
    equal : k ≤ n → n ≡ k
    equal g = omega arith

    go : (b : Bool) → ltb n k ≡ b → Before (n ∷ []) (k ∷ xs)
    go true q = less (ltb-true n k q)
    go false q = same (equal (ltb-false n k q)) empty

-- what each element gives lies between its number and the next
pub each_rises : {A B : Type 0} (key : B → List ℕ) (pre : List ℕ → List ℕ) (P : A → Type 0) (f : ℕ → A → List B)
    → ((i : ℕ) (x : A) → P x → Rise key (pre (i ∷ [])) (f i x) (pre (suc i ∷ [])))
    → (i : ℕ) (xs : List A) → Every P xs → (n : ℕ) → i + length xs ≡ n → Rise key (pre (i ∷ [])) (each_from i f xs) (pre (n ∷ []))
unfolding each_from
each_rises key pre P f h i [] no_more n e = done (subst (λ (k : ℕ). Before (pre (i ∷ [])) (pre (k ∷ []))) (let g : i ≡ n = omega arith in g) (before_refl _))
each_rises key pre P f h i (x ∷ xs) (one_more p ps) n e = rise_append key (h i x p) (each_rises key pre P f h (suc i) xs ps n (omega arith))

-- of all elements, from number 0
each_all : {A B : Type 0} (key : B → List ℕ) (pre : List ℕ → List ℕ) (f : ℕ → A → List B)
    → ((i : ℕ) (x : A) → Rise key (pre (i ∷ [])) (f i x) (pre (suc i ∷ []))) → (xs : List A) → Rise key (pre (0 ∷ [])) (each f xs) (pre ((0 + length xs) ∷ []))
each_all key pre f h xs = each_rises key pre Any' f (λ i x u. h i x) 0 xs (every_any xs) (0 + length xs) refl

abbrev pub key_of : Place → List ℕ
key_of q = q.member ∷ q.part ∷ q.argument ∷ []

-- places in their order
abbrev pub Ordered : List Place → Type 0
Ordered qs = (hi : List ℕ) × Rise key_of [] qs hi

whole_ordered : (b : Bool) → Ordered (only_if b whole_of)
whole_ordered b = (key_of whole_of, rise_one key_of b whole_of empty (before_refl _))

nil_ordered : Ordered []
nil_ordered = ([], done empty)

if_ordered : (b : Bool) (qs rs : List Place) → Ordered qs → Ordered rs → Ordered (cond b qs rs)
if_ordered true qs rs h k = h
if_ordered false qs rs h k = k

members_ordered : (fails : ℕ → Member → Bool) (d : Definition) → Ordered (members_that fails d)
members_ordered fails d =
    (_, rise_lower key_of empty (each_all key_of (λ k. k) (λ m e. only_if (fails m e) (member_at m)) (λ m e. rise_one key_of (fails m e) (member_at m) (same refl empty) (less (below m))) d.members))

implemented_ordered : (fails : ℕ → List ℕ → Bool) (d : Definition) → Ordered (implemented_that fails d)
implemented_ordered fails d =
    (_, rise_lower key_of empty (each_all key_of (λ k. k) (λ m n. only_if (fails m n) (member_at m)) (λ m n. rise_one key_of (fails m n) (member_at m) (same refl empty) (less (below m))) d.implements))

module _ (fails : ℕ → Member → Bool) (argument_fails : Member → ℕ → Argument → Bool) where
  arguments_rise : (m : ℕ) (e : Member) → Rise key_of (m ∷ no_place ∷ 0 ∷ []) (argument_places argument_fails m e) (m ∷ no_place ∷ (0 + length e.arguments) ∷ [])
  arguments_rise m e =
      each_all key_of (λ k. m ∷ no_place ∷ k) (λ a x. only_if (argument_fails e a x) (argument_at m a))
      (λ a x. rise_one key_of (argument_fails e a x) (argument_at m a) (same refl (same refl (same refl empty))) (same refl (same refl (less (below a))))) e.arguments

  member_rises : (m : ℕ) (e : Member) → Fits e → Rise key_of (m ∷ []) (member_places fails argument_fails m e) (suc m ∷ [])
  member_rises m e h =
      rise_append key_of (rise_lower key_of (same refl empty) (arguments_rise m e))
      (rise_one key_of (fails m e) (member_at m) (same refl (same refl (at_most (0 + length e.arguments) no_place [] (let k : 0 + length e.arguments ≤ no_place = omega arith in k)))) (less (below m)))

  members_or_arguments_ordered : (d : Definition) → Every Fits d.members → Ordered (members_or_arguments_that fails argument_fails d)
  members_or_arguments_ordered d fits =
      (_, rise_lower key_of empty (each_rises key_of (λ k. k) Fits (member_places fails argument_fails) member_rises 0 d.members fits (0 + length d.members) refl))

-- what is asked of an interface's field lies between it and the next
abbrev Asks : FieldBreaks → Type 0
Asks ask = (m p : ℕ) (f : Member) → Rise key_of (m ∷ p ∷ []) (ask m p f) (m ∷ suc p ∷ [])

promised_ordered : (ask : FieldBreaks) → Asks ask → (t : Table) (d : Definition) → Ordered (promised ask t d)
unfolding promised
promised_ordered ask h t d = (_, rise_lower key_of empty (each_all key_of (λ k. k) (promised_by ask t) (λ m n. of m n (is_interface (meant t n))) d.implements))
  where
    of : (m : ℕ) (n : List ℕ) (b : Bool) → Rise key_of (m ∷ []) (cond b (each (ask m) (meant t n).members) []) (suc m ∷ [])
    of m n true = rise_lower key_of (same refl empty) (rise_higher key_of (each_all key_of (λ k. m ∷ k) (ask m) (h m) (meant t n).members) (less (below m)))
    of m n false = done (less (below m))

one_part : (b : Bool) (m p : ℕ) → Rise key_of (m ∷ p ∷ []) (only_if b (part_at m p)) (m ∷ suc p ∷ [])
one_part b m p = rise_one key_of b (part_at m p) (same refl (same refl empty)) (same refl (less (below p)))

one_argument : (b : Bool) (m p a : ℕ) → Rise key_of (m ∷ p ∷ a ∷ []) (only_if b (part_argument_at m p a)) (m ∷ p ∷ suc a ∷ [])
one_argument b m p a = rise_one key_of b (part_argument_at m p a) (same refl (same refl (same refl empty))) (same refl (same refl (less (below a))))

if_any_is : {A : Type 0} {lo hi : List ℕ} → Before lo hi → (o : Option A) (f : A → List Place) → ((x : A) → Rise key_of lo (f x) hi) → Rise key_of lo (if_any o f) hi
if_any_is b none f h = done b
if_any_is b (some x) f h = h x

next_part : (m p : ℕ) → Before (m ∷ p ∷ []) (m ∷ suc p ∷ [])
next_part m p = same refl (less (below p))

arguments_of : (m p : ℕ) (f : ℕ → Argument → List Place) → ((a : ℕ) (x : Argument) → Rise key_of (m ∷ p ∷ a ∷ []) (f a x) (m ∷ p ∷ suc a ∷ []))
    → (xs : List Argument) → Rise key_of (m ∷ p ∷ []) (each f xs) (m ∷ suc p ∷ [])
arguments_of m p f h xs = rise_lower key_of (same refl (same refl empty)) (rise_higher key_of (each_all key_of (λ k. m ∷ p ∷ k) f h xs) (same refl (less (below p))))

-- The sixteen rules.
abbrev pub RuleOrdered : Rule → Type 0
RuleOrdered rule = (t : Table) (i : ℕ) (d : Definition) → Every Fits d.members → Ordered (rule t i d)

pub reserved_name_ordered : RuleOrdered reserved_name
unfolding reserved_name
reserved_name_ordered t i d fits = whole_ordered (is_reserved d.name)

pub name_known_ordered : RuleOrdered name_known
unfolding name_known
name_known_ordered t i d fits = whole_ordered (is_type d && type_known t i d || is_directive d && directive_known t i d)

pub no_members_ordered : RuleOrdered no_members
unfolding no_members
no_members_ordered t i d fits = whole_ordered (needs_members d && eqb (length d.members) 0)

pub name_repeated_ordered : RuleOrdered name_repeated
unfolding name_repeated
name_repeated_ordered t i d fits = if_ordered (is_roots d) _ _ nil_ordered (members_or_arguments_ordered (member_repeats d) argument_repeats d fits)

pub reserved_member_ordered : RuleOrdered reserved_member
unfolding reserved_member
reserved_member_ordered t i d fits = if_ordered (is_object d || is_interface d) _ _ (members_or_arguments_ordered member_reserved argument_reserved d fits) nil_ordered

pub enum_value_ordered : RuleOrdered enum_value
unfolding enum_value
enum_value_ordered t i d fits = if_ordered (is_enum d) _ _ (members_ordered is_no_enum_value d) nil_ordered

pub no_type_ordered : RuleOrdered no_type
unfolding no_type
no_type_ordered t i d fits = members_or_arguments_ordered (member_type_unknown t) (argument_type_unknown t) d fits

pub wrong_base_ordered : RuleOrdered wrong_base
unfolding wrong_base
wrong_base_ordered t i d fits = members_or_arguments_ordered (member_base_wrong t) (argument_base_wrong t) d fits

pub not_object_or_interface_ordered : RuleOrdered not_object_or_interface
unfolding not_object_or_interface
not_object_or_interface_ordered t i d fits = if_ordered (is_union d) _ _ (members_ordered (member_no_object t) d) (implemented_ordered (no_interface t) d)

pub implemented_twice_ordered : RuleOrdered implemented_twice
unfolding implemented_twice
implemented_twice_ordered t i d fits = implemented_ordered (implemented_before d) d

pub field_missing_ordered : RuleOrdered interface_field_missing
unfolding interface_field_missing
field_missing_ordered t i d fits = promised_ordered (missing_breaks d) (λ m p f. one_part (lacks_field d f) m p) t d

pub field_type_ordered : RuleOrdered field_type
unfolding field_type
field_type_ordered t i d fits = promised_ordered (type_breaks t d) (λ m p f. if_any_is (next_part m p) (own d f) _ (λ e. one_part (no_sub_type t f e) m p)) t d

pub argument_missing_ordered : RuleOrdered interface_argument_missing
unfolding interface_argument_missing
argument_missing_ordered t i d fits =
    promised_ordered (argument_breaks d) (λ m p f. if_any_is (next_part m p) (own d f) _ (λ e. arguments_of m p _ (λ a x. one_argument (lacks_argument e x) m p a) f.arguments)) t d

pub argument_type_ordered : RuleOrdered argument_type
unfolding argument_type
argument_type_ordered t i d fits =
    promised_ordered (argument_type_breaks d) (λ m p f. if_any_is (next_part m p) (own d f) _ (λ e.
    arguments_of m p _ (λ a x. if_any_is (same refl (same refl (less (below a)))) (own_argument e x) _ (λ y. one_argument (types_differ x y) m p a)) f.arguments)) t d

pub argument_extra_ordered : RuleOrdered argument_extra
unfolding argument_extra
argument_extra_ordered t i d fits =
    promised_ordered (extra_breaks d) (λ m p f. if_any_is (next_part m p) (own d f) _ (λ e. arguments_of m p _ (λ a y. one_argument (is_extra f y) m p a) e.arguments)) t d

pub root_not_object_ordered : RuleOrdered root_not_object
unfolding root_not_object
root_not_object_ordered t i d fits = if_ordered (is_roots d) _ _ (members_ordered (member_no_object t) d) nil_ordered
