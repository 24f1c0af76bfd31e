-- What a table whose framing is right holds: names that are names, references that are references, and in each record the members due there.
use mathlib.Core.Path.{◌≡◌, refl, sym, subst}
use mathlib.Core.Bool.{Bool, true, false, not, ◌&&◌, false≢true}
use mathlib.Core.Option.{Option, none, some}
use mathlib.Core.List.{List, [], ◌∷◌, cons≢nil}
use Prim.Native.Nat.{ℕ, suc}
use lib.Dec.{leb}
use Rattle.paper_table.specs.TableNumbers.{tag_scalar, tag_object, tag_interface, tag_union, tag_enum, tag_input_object, tag_directive, tag_roots, tag_name, tag_implements, tag_field, tag_argument, tag_reference, tag_union_member, tag_enum_value, tag_query_root, tag_mutation_root, tag_subscription_root}
use Rattle.paper_table.specs.Lists.{any_of, gather, only_if}
use Rattle.paper_table.specs.References.{is_name, Ref, ref_of, found, is_reference}
use Rattle.paper_table.specs.House.{HouseField, house_field, house_fields_in, Slot, one, at_most_one, many, a_name, a_reference, holds, contents, look_up, content_of, lacks_house_field, Offsets, in_order, or_lacking, by_content, wrongs, most_deep}
use Rattle.paper_table.specs.Types.{Argument, Member, Definition, text_of, name_in, type_in, argument_of, field_in, input_in, name_only, member_of, implemented_of, definition_in}
use Rattle.paper_table.proofs.ReferenceTexts.{Written, ref_of_sound}
use Rattle.paper_table.proofs.Every.{Every, no_more, one_more, every_append}
use Rattle.paper_table.proofs.Filled.{Filled, filled, the_one, not_there, once, slot_tag, distinct, filled_complete}

-- A field that is right, by its content.
lacking_inv : (at : ℕ) (b : Bool) (ws : List ℕ) → or_lacking at b ws ≡ [] → (ws ≡ []) × (b ≡ false)
lacking_inv at true [] e = absurd (cons≢nil e)
lacking_inv at false [] e = (refl, refl)
lacking_inv at b (w ∷ ws) e = absurd (cons≢nil e)

pub holder_right : (d at tag : ℕ) (s : List ℕ) (ss : List Slot) → content_of tag ≡ holds ss → distinct ss ≡ true → wrongs (suc d) at tag s ≡ [] → Filled (wrongs d) ss (house_fields_in at s)
unfolding wrongs by_content
holder_right d at tag s ss c n e =
    let z = lacking_inv at (lacks_house_field ss (house_fields_in at s)) (in_order (wrongs d) ss (house_fields_in at s)) (rw c at e) in
    filled_complete (wrongs d) ss n (house_fields_in at s) z.0 z.1

only_inv : (b : Bool) (at : ℕ) → only_if (not b) at ≡ [] → b ≡ true
only_inv true at e = refl
only_inv false at e = absurd (cons≢nil e)

pub name_right : (d at tag : ℕ) (s : List ℕ) → content_of tag ≡ a_name → wrongs (suc d) at tag s ≡ [] → is_name s ≡ true
unfolding wrongs by_content
name_right d at tag s c e = only_inv (is_name s) at (rw c at e)

found_inv : (o : Option Ref) → found o ≡ true → (r : Ref) × (o ≡ some r)
found_inv none e = absurd (false≢true e)
found_inv (some r) e = (r, refl)

pub reference_right : (d at tag : ℕ) (s : List ℕ) → content_of tag ≡ a_reference → wrongs (suc d) at tag s ≡ [] → (r : Ref) × (ref_of s ≡ some r)
unfolding wrongs by_content
reference_right d at tag s c e = found_inv (ref_of s) (only_inv (is_reference s) at (rw c at e))

-- what a right holder's fields give
pub filled_gather : {B : Type 0} (inner : Offsets) (Q : B → Type 0) (g : HouseField → List B) {ss : List Slot} {ps : List HouseField}
    → Every (λ x. (at : ℕ) (s : List ℕ) → inner at (slot_tag x) s ≡ [] → Every Q (g (house_field at (slot_tag x) s))) ss → Filled inner ss ps → Every Q (gather g ps)
unfolding gather
filled_gather inner Q g h filled = no_more
filled_gather inner Q g (one_more h hs) (the_one {at = at} {s = s} e f) = every_append (h at s e) (filled_gather inner Q g hs f)
filled_gather inner Q g (one_more h hs) (not_there f) = filled_gather inner Q g hs f
filled_gather inner Q g (one_more h hs) (once {at = at} {s = s} e f) = every_append (h at s e) (filled_gather inner Q g hs f)
filled_gather inner Q g (one_more h hs) (Filled.no_more f) = filled_gather inner Q g hs f
filled_gather inner Q g (one_more h hs) (Filled.once_more {at = at} {s = s} e f) = every_append (h at s e) (filled_gather inner Q g (one_more h hs) f)

-- Arguments, members and records of a right table.
pub record RightArgument (x : Argument) : Type 0 where
  pub name : is_name x.name ≡ true
  pub type : Written x.type

-- a field with its arguments; an input field; a name
pub data RightMember : Member → Type 0 where
  a_field : {e : Member} → e.tag ≡ tag_field → is_name e.name ≡ true → Written e.type → Every RightArgument e.arguments → RightMember e
  an_input : {e : Member} → e.tag ≡ tag_argument → is_name e.name ≡ true → Written e.type → e.arguments ≡ [] → RightMember e
  by_a_name : {e : Member} (k : ℕ) → e.tag ≡ k → is_name e.name ≡ true → e.arguments ≡ [] → RightMember e

-- a name and a reference, the first two fields of 18 and 19
abbrev Typed : List HouseField → Type 0
Typed ps = (is_name (name_in ps) ≡ true) × Written (type_in ps)

typed : (d : ℕ) {ss : List Slot} {ps : List HouseField} → Filled (wrongs (suc d)) (one tag_name ∷ one tag_reference ∷ ss) ps → Typed ps
unfolding text_of contents look_up
typed d (the_one {at = at} {s = n} e (the_one {at = at'} {s = s} e' f)) =
    let z = reference_right d at' tag_reference s refl e' in
    (name_right d at tag_name n refl e, rw z.1 (ref_of_sound s z.0 z.1).0)

argument_right : (d at : ℕ) (s : List ℕ) → wrongs (suc (suc d)) at tag_argument s ≡ [] → Typed (house_fields_in at s)
unfolding contents look_up any_of
argument_right d at s e = typed d (holder_right (suc d) at tag_argument s (one tag_name ∷ one tag_reference ∷ []) refl refl e)

-- the arguments of a right field
arguments_right : (d : ℕ) {ps : List HouseField} → Filled (wrongs (suc (suc d))) (one tag_name ∷ one tag_reference ∷ many tag_argument ∷ []) ps → Every RightArgument (gather argument_of ps)
arguments_right d f =
    filled_gather (wrongs (suc (suc d))) RightArgument argument_of
    (one_more (λ at s e. no_more) (one_more (λ at s e. no_more) (one_more (λ at s e. let z = argument_right d at s e in one_more (record { name = z.0; type = z.1 }) no_more) no_more))) f

field_right : (d at : ℕ) (s : List ℕ) → wrongs (suc (suc (suc d))) at tag_field s ≡ [] → RightMember (field_in at s)
unfolding contents look_up any_of
field_right d at s e =
    let f = holder_right (suc (suc d)) at tag_field s (one tag_name ∷ one tag_reference ∷ many tag_argument ∷ []) refl refl e in
    let z = typed (suc d) f in
    a_field refl z.0 z.1 (arguments_right d f)

input_right : (d at : ℕ) (s : List ℕ) → wrongs (suc (suc d)) at tag_argument s ≡ [] → RightMember (input_in at s)
input_right d at s e = let z = argument_right d at s e in an_input refl z.0 z.1 refl

-- a member of this tag
abbrev MemberOf : ℕ → Member → Type 0
MemberOf k e = (e.tag ≡ k) × RightMember e

abbrev pub Named : Definition → Type 0
Named d = is_name d.name ≡ true

abbrev pub IsName : List ℕ → Type 0
IsName n = is_name n ≡ true

-- a root: one of the three tags
abbrev pub RootMember : Member → Type 0
RootMember e = (leb tag_query_root e.tag && leb e.tag tag_subscription_root ≡ true) × RightMember e

pub data RightDefinition (d : Definition) : Type 0 where
  a_scalar : d.tag ≡ tag_scalar → Named d → d.implements ≡ [] → d.members ≡ [] → RightDefinition d
  an_object : d.tag ≡ tag_object → Named d → Every IsName d.implements → Every (MemberOf tag_field) d.members → RightDefinition d
  an_interface : d.tag ≡ tag_interface → Named d → d.implements ≡ [] → Every (MemberOf tag_field) d.members → RightDefinition d
  a_union : d.tag ≡ tag_union → Named d → d.implements ≡ [] → Every (MemberOf tag_union_member) d.members → RightDefinition d
  an_enum : d.tag ≡ tag_enum → Named d → d.implements ≡ [] → Every (MemberOf tag_enum_value) d.members → RightDefinition d
  an_input_object : d.tag ≡ tag_input_object → Named d → d.implements ≡ [] → Every (MemberOf tag_argument) d.members → RightDefinition d
  a_directive : d.tag ≡ tag_directive → Named d → d.implements ≡ [] → Every (MemberOf tag_argument) d.members → RightDefinition d
  the_roots : d.tag ≡ tag_roots → d.name ≡ [] → d.implements ≡ [] → Every RootMember d.members → RightDefinition d

nothing_in : {A : Type 0} {xs : List A} → Every (λ x. ⊥) xs → xs ≡ []
nothing_in no_more = refl
nothing_in (one_more h hs) = absurd h

-- the name, a record's first field
name_of_is : (d : ℕ) {ss : List Slot} {ps : List HouseField} → Filled (wrongs (suc d)) (one tag_name ∷ ss) ps → is_name (name_in ps) ≡ true
unfolding text_of contents look_up
name_of_is d (the_one {at = at} {s = n} e f) = name_right d at tag_name n refl e

-- a record with its name and members of one tag
module _ (k : ℕ) (members : (at : ℕ) (s : List ℕ) → wrongs 3 at k s ≡ [] → Every (MemberOf k) (member_of (house_field at k s))) (plain : (at : ℕ) (s : List ℕ) → implemented_of (house_field at k s) ≡ []) where
  members_right : {ps : List HouseField} → Filled (wrongs 3) (one tag_name ∷ many k ∷ []) ps → Every (MemberOf k) (gather member_of ps)
  unfolding member_of
  members_right f = filled_gather (wrongs 3) (MemberOf k) member_of (one_more (λ at s e. no_more) (one_more members no_more)) f

  none_implemented : {ps : List HouseField} → Filled (wrongs 3) (one tag_name ∷ many k ∷ []) ps → gather implemented_of ps ≡ []
  none_implemented f =
      nothing_in (filled_gather (wrongs 3) (λ x. ⊥) implemented_of (one_more (λ at s e. no_more) (one_more (λ at s e. subst (Every (λ x. ⊥)) (sym (plain at s)) no_more) no_more)) f)

fields_right : (at : ℕ) (s : List ℕ) → wrongs 3 at tag_field s ≡ [] → Every (MemberOf tag_field) (member_of (house_field at tag_field s))
unfolding member_of
fields_right at s e = one_more (refl, field_right 0 at s e) no_more

inputs_right : (at : ℕ) (s : List ℕ) → wrongs 3 at tag_argument s ≡ [] → Every (MemberOf tag_argument) (member_of (house_field at tag_argument s))
unfolding member_of
inputs_right at s e = one_more (refl, input_right 1 at s e) no_more

union_members_right : (at : ℕ) (s : List ℕ) → wrongs 3 at tag_union_member s ≡ [] → Every (MemberOf tag_union_member) (member_of (house_field at tag_union_member s))
unfolding member_of contents look_up
union_members_right at s e = one_more (refl, by_a_name tag_union_member refl (name_right 2 at tag_union_member s refl e) refl) no_more

values_right : (at : ℕ) (s : List ℕ) → wrongs 3 at tag_enum_value s ≡ [] → Every (MemberOf tag_enum_value) (member_of (house_field at tag_enum_value s))
unfolding member_of contents look_up
values_right at s e = one_more (refl, by_a_name tag_enum_value refl (name_right 2 at tag_enum_value s refl e) refl) no_more

root_right : (at : ℕ) (k : ℕ) (s : List ℕ) → content_of k ≡ a_name → leb tag_query_root k && leb k tag_subscription_root ≡ true → wrongs 3 at k s ≡ [] → RootMember (name_only k s)
root_right at k s c b e = (b, by_a_name k refl (name_right 2 at k s c e) refl)

-- Each kind of record.
pub scalar_right : (at : ℕ) (s : List ℕ) → wrongs most_deep at tag_scalar s ≡ [] → RightDefinition (definition_in at tag_scalar s)
unfolding contents look_up any_of member_of
scalar_right at s e =
    let f = holder_right 3 at tag_scalar s (one tag_name ∷ []) refl refl e in
    a_scalar refl (name_of_is 2 f)
    (nothing_in (filled_gather (wrongs 3) (λ x. ⊥) implemented_of (one_more (λ at s e. no_more) no_more) f))
    (nothing_in (filled_gather (wrongs 3) (λ x. ⊥) member_of (one_more (λ at s e. no_more) no_more) f))

pub object_right : (at : ℕ) (s : List ℕ) → wrongs most_deep at tag_object s ≡ [] → RightDefinition (definition_in at tag_object s)
unfolding contents look_up any_of member_of
object_right at s e =
    let f = holder_right 3 at tag_object s (one tag_name ∷ many tag_implements ∷ many tag_field ∷ []) refl refl e in
    an_object refl (name_of_is 2 f)
    (filled_gather (wrongs 3) IsName implemented_of (one_more (λ at s e. no_more) (one_more (λ at s e. one_more (name_right 2 at tag_implements s refl e) no_more) (one_more (λ at s e. no_more) no_more))) f)
    (filled_gather (wrongs 3) (MemberOf tag_field) member_of (one_more (λ at s e. no_more) (one_more (λ at s e. no_more) (one_more fields_right no_more))) f)

pub interface_right : (at : ℕ) (s : List ℕ) → wrongs most_deep at tag_interface s ≡ [] → RightDefinition (definition_in at tag_interface s)
unfolding contents look_up any_of
interface_right at s e =
    let f = holder_right 3 at tag_interface s (one tag_name ∷ many tag_field ∷ []) refl refl e in
    an_interface refl (name_of_is 2 f) (none_implemented tag_field fields_right (λ at s. refl) f) (members_right tag_field fields_right (λ at s. refl) f)

pub union_right : (at : ℕ) (s : List ℕ) → wrongs most_deep at tag_union s ≡ [] → RightDefinition (definition_in at tag_union s)
unfolding contents look_up any_of
union_right at s e =
    let f = holder_right 3 at tag_union s (one tag_name ∷ many tag_union_member ∷ []) refl refl e in
    a_union refl (name_of_is 2 f) (none_implemented tag_union_member union_members_right (λ at s. refl) f) (members_right tag_union_member union_members_right (λ at s. refl) f)

pub enum_right : (at : ℕ) (s : List ℕ) → wrongs most_deep at tag_enum s ≡ [] → RightDefinition (definition_in at tag_enum s)
unfolding contents look_up any_of
enum_right at s e =
    let f = holder_right 3 at tag_enum s (one tag_name ∷ many tag_enum_value ∷ []) refl refl e in
    an_enum refl (name_of_is 2 f) (none_implemented tag_enum_value values_right (λ at s. refl) f) (members_right tag_enum_value values_right (λ at s. refl) f)

pub input_object_right : (at : ℕ) (s : List ℕ) → wrongs most_deep at tag_input_object s ≡ [] → RightDefinition (definition_in at tag_input_object s)
unfolding contents look_up any_of
input_object_right at s e =
    let f = holder_right 3 at tag_input_object s (one tag_name ∷ many tag_argument ∷ []) refl refl e in
    an_input_object refl (name_of_is 2 f) (none_implemented tag_argument inputs_right (λ at s. refl) f) (members_right tag_argument inputs_right (λ at s. refl) f)

pub directive_right_is : (at : ℕ) (s : List ℕ) → wrongs most_deep at tag_directive s ≡ [] → RightDefinition (definition_in at tag_directive s)
unfolding contents look_up any_of
directive_right_is at s e =
    let f = holder_right 3 at tag_directive s (one tag_name ∷ many tag_argument ∷ []) refl refl e in
    a_directive refl (name_of_is 2 f) (none_implemented tag_argument inputs_right (λ at s. refl) f) (members_right tag_argument inputs_right (λ at s. refl) f)

no_name : {inner : Offsets} {ps : List HouseField} → Filled inner (one tag_query_root ∷ at_most_one tag_mutation_root ∷ at_most_one tag_subscription_root ∷ []) ps → name_in ps ≡ []
unfolding text_of
no_name (the_one e (not_there (not_there filled))) = refl
no_name (the_one e (not_there (once e' filled))) = refl
no_name (the_one e (once e' (not_there filled))) = refl
no_name (the_one e (once e' (once e'' filled))) = refl

pub roots_right : (at : ℕ) (s : List ℕ) → wrongs most_deep at tag_roots s ≡ [] → RightDefinition (definition_in at tag_roots s)
unfolding contents look_up any_of member_of
roots_right at s e =
    let f = holder_right 3 at tag_roots s (one tag_query_root ∷ at_most_one tag_mutation_root ∷ at_most_one tag_subscription_root ∷ []) refl refl e in
    the_roots refl (no_name f)
    (nothing_in (filled_gather (wrongs 3) (λ x. ⊥) implemented_of (one_more (λ at s e. no_more) (one_more (λ at s e. no_more) (one_more (λ at s e. no_more) no_more))) f))
    (filled_gather (wrongs 3) RootMember member_of
    (one_more (λ at s e. one_more (root_right at tag_query_root s refl refl e) no_more)
    (one_more (λ at s e. one_more (root_right at tag_mutation_root s refl refl e) no_more)
    (one_more (λ at s e. one_more (root_right at tag_subscription_root s refl refl e) no_more) no_more))) f)
