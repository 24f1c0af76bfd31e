-- What it is that a definition keeps the rules 11 to 15, said of each argument, field and implemented name.
-- Assumes nothing.
use Rattle.std.specs.Prelude.{◌≡◌, Bool, true, false, not, ◌&&◌, Option, Some, None, List, [], ◌∷◌, ℕ, ◌/◌, ◌%◌, ◌^◌, ◌≤◌, ◌<◌, get_or}
use Rattle.std.proofs.Math.Option.{some}
use Prim.{Unit}
use Rattle.paper.specs.Numbers.{most_wrappers}
use Rattle.paper_table.specs.Lists.{any_of, find}
use Rattle.paper_table.specs.References.{Ref, named, is_non_null, same_ref}
use Rattle.paper_table.specs.Types.{Argument, Member, Definition, Table, table_of, is_interface, meant, can_be, member_named, argument_named}
use Rattle.paper_table.specs.Rule11FieldMissing.{interface_field_missing}
use Rattle.paper_table.specs.Rule12FieldType.{no_sub_type, field_type}
use Rattle.paper_table.specs.Rule13ArgumentMissing.{interface_argument_missing}
use Rattle.paper_table.specs.Rule14ArgumentType.{argument_type}
use Rattle.paper_table.specs.Rule15ArgumentExtra.{argument_extra}
use Rattle.paper_table.specs.SubTypes.{sub_test}
use Rattle.paper_table.proofs.ReferenceSizes.{wrappers as wrapperCount}
use Rattle.table_members.specs.Members.{Typed}

-- each element of a list
abbrev pub Every : {A : Type 0} → (A → Type 0) → List A → Type 0
Every P [] = Unit
Every P (x ∷ xs) = P x × Every P xs

-- 13, 14: the interface's argument x is among the own field's arguments ys, with the same type
pub record ArgumentKept (ys : List Argument) (x : Argument) : Type 0 where
  pub other : Argument
  pub other_is : find (argument_named x.name) ys ≡ some other
  pub type_is : same_ref other.type x.type ≡ true

-- 15: the own field's argument y is among the interface's xs, or not Non-Null
abbrev pub ExtraKept : List Argument → Argument → Type 0
ExtraKept xs y = is_non_null y.type && not (any_of (argument_named y.name) xs) ≡ false

-- 12 to 15 of the interface's field f and the definition's own e
pub record OwnKept (t : Table) (f e : Member) : Type 0 where
  pub type_is : no_sub_type t f e ≡ false
  pub arguments : Every (ArgumentKept e.arguments) f.arguments
  pub extras : Every (ExtraKept f.arguments) e.arguments

-- 11 to 15 of the interface's field f and a definition of the members es
pub record FieldKept (t : Table) (es : List Member) (f : Member) : Type 0 where
  pub own : Member
  pub own_is : find (member_named f.name) es ≡ some own
  pub keeps : OwnKept t f own

-- of an implemented name
abbrev pub NameKept : Table → List Member → List ℕ → Type 0
NameKept t es n = is_interface (meant t n) ≡ true → Every (FieldKept t es) (meant t n).members

-- none of the five rules is broken
pub record AllKept (t : Table) (i : ℕ) (d : Definition) : Type 0 where
  pub field_missing : interface_field_missing t i d ≡ []
  pub field_type_is : field_type t i d ≡ []
  pub argument_missing : interface_argument_missing t i d ≡ []
  pub argument_type_is : argument_type t i d ≡ []
  pub argument_extra_is : argument_extra t i d ≡ []

-- if q is true the first reference is a sub-type of the second, of two with at most seven wrappers
abbrev pub SubKept : List ℕ → ℕ → ℕ → ℕ → ℕ → ℕ → ℕ → Bool → Type 0
SubKept t at n o at' n' i q =
    (r s : Ref) → Typed t at n o r → Typed t at' n' i s → wrapperCount r ≤ most_wrappers → wrapperCount s ≤ most_wrappers
    → q ≡ true → sub_test (can_be (table_of t)) r s ≡ true

-- the bits of a number mark the own field's arguments ys whose name is among the interface's xs
abbrev pub no_argument : Argument
no_argument = record { name = []; type = named [] }

abbrev pub bit_of : ℕ → ℕ → ℕ
bit_of marks k = marks / 2 ^ k % 2

abbrev pub Marks : List Argument → List Argument → ℕ → Type 0
Marks xs ys marks = (k : ℕ) → bit_of marks k ≡ 1 → any_of (argument_named (get_or ys k no_argument).name) xs ≡ true

-- where so marked, each own argument is kept if the answer is true
abbrev pub ExtrasKept : List Argument → ℕ → Bool → Type 0
ExtrasKept ys marks r = (xs : List Argument) → Marks xs ys marks → r ≡ true → Every (ExtraKept xs) ys

-- the interface's argument x is kept by number k of the own field's ys
pub record MatchedBy (ys : List Argument) (x : Argument) (k : ℕ) : Type 0 where
  pub kept : ArgumentKept ys x
  pub name_is : (get_or ys k no_argument).name ≡ x.name
  pub small : k < 32

abbrev pub MatchedAs : List Argument → Argument → Option ℕ → Type 0
MatchedAs ys x (Some k) = MatchedBy ys x k
MatchedAs ys x None = Unit
