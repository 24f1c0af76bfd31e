-- What it is that a definition keeps the rules 4 to 8, said of each member and argument; how names are noted.
-- Assumes nothing.
use Rattle.std.specs.Prelude.{◌≡◌, Bool, true, false, cond, ◌⊎◌, List, [], ◌∷◌, ℕ, suc, ◌+◌, ◌-◌, ◌*◌, ◌%◌, length, get_or, eqb, ltb}
use Prim.{Unit}
use Rattle.paper.specs.Tokens.{same}
use Rattle.paper_table.specs.Types.{Argument, Member, Definition, Table, is_unknown, is_reserved, is_composite}
use Rattle.paper_table.specs.Lists.{earlier}
use Rattle.paper_table.specs.Rule4NameRepeated.{name_repeated}
use Rattle.paper_table.specs.Rule5ReservedMember.{reserved_member}
use Rattle.paper_table.specs.Rule6EnumValue.{is_no_enum_value, enum_value}
use Rattle.paper_table.specs.Rule7NoType.{base_meant, member_type_unknown, no_type}
use Rattle.paper_table.specs.Rule8Base.{member_base_wrong, wrong_base}
use Rattle.table_types.specs.Booked.{is_composite_tag}

-- each element of a list, with its number, counted from i
abbrev pub EveryFrom : {A : Type 0} → (ℕ → A → Type 0) → ℕ → List A → Type 0
EveryFrom P i [] = Unit
EveryFrom P i (x ∷ xs) = P i x × EveryFrom P (suc i) xs

abbrev pub member_name : Member → List ℕ
member_name e = e.name

abbrev pub argument_name : Argument → List ℕ
argument_name x = x.name

-- one of the first m has this name
abbrev pub Before : {A : Type 0} → (A → List ℕ) → List A → ℕ → List ℕ → Bool
Before name xs m n = earlier (λ x. same (name x) n) m xs

-- argument a, one of these: 4, 5, 7, 8
pub record ArgumentSound (t : Table) (xs : List Argument) (a : ℕ) (x : Argument) : Type 0 where
  pub first : Before argument_name xs a x.name ≡ false
  pub own : is_reserved x.name ≡ false
  pub known : is_unknown (base_meant t x.type) ≡ false
  pub input : is_composite (base_meant t x.type) ≡ false

-- the type of a member: 7, 8
pub record BaseSound (t : Table) (e : Member) : Type 0 where
  pub known : member_type_unknown t 0 e ≡ false
  pub right : member_base_wrong t 0 e ≡ false

-- member m, one of these: 4 to 8
pub record MemberSound (t : Table) (ms : List Member) (m : ℕ) (e : Member) : Type 0 where
  pub first : Before member_name ms m e.name ≡ false
  pub own : is_reserved e.name ≡ false
  pub value : is_no_enum_value m e ≡ false
  pub base : BaseSound t e
  pub arguments : EveryFrom (ArgumentSound t e.arguments) 0 e.arguments

-- none of the five rules is broken
pub record Sound (t : Table) (i : ℕ) (d : Definition) : Type 0 where
  pub name_repeated_is : name_repeated t i d ≡ []
  pub reserved_member_is : reserved_member t i d ≡ []
  pub enum_value_is : enum_value t i d ≡ []
  pub no_type_is : no_type t i d ≡ []
  pub wrong_base_is : wrong_base t i d ≡ []

-- the tag of a type that an argument may have
pub record InputTag (k : ℕ) : Type 0 where
  pub known : eqb k 0 ≡ false
  pub input : is_composite_tag k ≡ false

-- the cell in which a name is noted: by its length, its first byte and of a long one its last six, else its last two, and what each of these counts
abbrev pub cells : ℕ
cells = 256

abbrev pub long : ℕ
long = 6

abbrev pub tail_limit : ℕ
tail_limit = 65536

abbrev pub sixth_last : ℕ
sixth_last = 43

abbrev pub fifth_last : ℕ
fifth_last = 41

abbrev pub fourth_last : ℕ
fourth_last = 61

abbrev pub third_last : ℕ
third_last = 107

abbrev pub second_last : ℕ
second_last = 7

abbrev pub last : ℕ
last = 17

-- what members' names are noted by
abbrev pub member_mark : ℕ
member_mark = 1

-- the four bytes from j on, before the last two; the length, the first byte and the last two
abbrev pub tail_at : List ℕ → ℕ → ℕ
tail_at s j = sixth_last * get_or s j 0 + fifth_last * get_or s (j + 1) 0 + fourth_last * get_or s (j + 2) 0 + third_last * get_or s (j + 3) 0

abbrev pub ends_of : List ℕ → ℕ
ends_of n = length n + get_or n 0 0 + second_last * get_or n (length n - 2) 0 + last * get_or n (length n - 1) 0

unfoldable pub cell_of : List ℕ → ℕ
cell_of n =
    cond (eqb (length n) 0) 0
    (cond (eqb (length n) 1) (get_or n 0 0 % cells)
    (cond (ltb (length n) long) (ends_of n % cells) ((ends_of n + tail_at n (length n - long)) % cells)))

-- the cells of the first m names hold this mark
abbrev pub Seen : {A : Type 0} → (A → List ℕ) → List A → ℕ → List ℕ → ℕ → Type 0
Seen name xs m seen mark = (n : List ℕ) → Before name xs m n ≡ true → get_or seen (cell_of n) 0 ≡ mark

-- a name is noted; if r is false its cell had another mark
pub record Noted (old new : List ℕ) (mark : ℕ) (n : List ℕ) (r : Bool) : Type 0 where
  pub size : length new ≡ cells
  pub told : r ≡ false → get_or old (cell_of n) 0 ≡ mark → ⊥
  pub here : get_or new (cell_of n) 0 ≡ mark
  pub kept : (k : ℕ) → get_or old k 0 ≡ mark → get_or new k 0 ≡ mark

-- if r is true, and the first m names were noted, this is so, and the name n is noted with them
abbrev pub Onward : {A : Type 0} → (A → List ℕ) → List A → ℕ → List ℕ → List ℕ → ℕ → Type 0
Onward name xs m n new mark = (y : List ℕ) → (Before name xs m y ≡ true) ⊎ (y ≡ n) → get_or new (cell_of y) 0 ≡ mark

pub record Told {A : Type 0} (name : A → List ℕ) (P : Type 0) (xs : List A) (m : ℕ) (n old new : List ℕ) (mark : ℕ) (r : Bool) : Type 0 where
  pub size : length new ≡ cells
  pub so : Seen name xs m old mark → r ≡ true → P
  pub onward : Seen name xs m old mark → r ≡ true → Onward name xs m n new mark
