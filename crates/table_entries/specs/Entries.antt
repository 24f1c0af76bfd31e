-- The entries of a table: what their numbers say of the table's members and arguments.
-- Assumes nothing.
use Rattle.std.specs.Prelude.{◌≡◌, Bool, true, ◌&&◌, ◌||◌, cond, Option, Some, None, List, [], ◌∷◌, ℕ, suc, ◌+◌, ◌-◌, ◌*◌, ◌/◌, ◌%◌, ◌≤◌, ◌<◌, length, get_or, leb, eqb}
use Rattle.std.proofs.Math.Option.{none, some}
use Rattle.paper_table.specs.TableNumbers.{tag_scalar, tag_object, tag_interface, tag_input_object, tag_directive}
use Rattle.paper_table.specs.Lists.{find}
use Rattle.paper_table.specs.References.{Ref, base_of}
use Rattle.paper_table.specs.Types.{Argument, Member, Definition, Table, table_of, meant, name_in, type_in, member_named, argument_named}
use Rattle.table_book.specs.Book.{part, count_in}
use Rattle.table_members.specs.Members.{fields_in, arguments_in, member_from, Named, Typed, ArgumentsFrom}
use Rattle.table_types.specs.Booked.{Booked, NumberMeant, kind_in, definition_on}
use Rattle.table_entries.specs.declared.Header.{Header}

-- how many entries a table of so many bytes has at most, if its framing is right (proofs/Most); the most of all, which no entry has as its number
abbrev pub entry_bytes : ℕ
entry_bytes = 11

abbrev pub most_entries : ℕ → ℕ
most_entries size = size / entry_bytes

abbrev pub room_entries : ℕ
room_entries = 2978

-- how many cells stand before the entries: cell i says where those of definition i begin, cell i + 1 where they end (257 cells, made up to whole entries)
abbrev pub cells_before : ℕ
cells_before = 264

-- how many cells each entry has, and where they begin
abbrev pub cells_each : ℕ
cells_each = 8

abbrev pub entry_at : ℕ → ℕ
entry_at e = cells_before + cells_each * e

-- how many cells there must be for a table of so many bytes; a list may be longer
abbrev pub cells_for : ℕ → ℕ
cells_for size = entry_at (most_entries size)

-- up to how many bytes a table is small, or of middle size
abbrev pub small_table : ℕ
small_table = 748

abbrev pub middle_table : ℕ
middle_table = 4096

-- entries up to number e lie in the list, and are no more than there may be
pub record Roomy (es : List ℕ) (e : ℕ) : Type 0 where
  pub cells : entry_at e ≤ length es
  pub most : e ≤ room_entries

-- an entry's cells: its key, the place and size of its name, the place and size of its base's name, its wrappers, the entry beside it, the number of the
-- definition that its base means
abbrev pub entry_key : ℕ
entry_key = 0

abbrev pub entry_name : ℕ
entry_name = 1

abbrev pub entry_size : ℕ
entry_size = 2

abbrev pub entry_base : ℕ
entry_base = 3

abbrev pub entry_extent : ℕ
entry_extent = 4

abbrev pub entry_wrappers : ℕ
entry_wrappers = 5

abbrev pub entry_next : ℕ
entry_next = 6

abbrev pub entry_meant : ℕ
entry_meant = 7

abbrev pub cell : List ℕ → ℕ → ℕ → ℕ
cell es e j = get_or es (entry_at e + j) 0

-- where the next entry beside e stands; where the entries of definition i begin
abbrev pub next_of : List ℕ → ℕ → ℕ
next_of es e = cell es e entry_next

abbrev pub first_of : List ℕ → ℕ → ℕ
first_of es i = get_or es i 0

-- how many values a byte has
abbrev pub byte_values : ℕ
byte_values = 256

-- what bytes and the size of a name count in its key
abbrev pub key_values : ℕ
key_values = 65536

abbrev pub key_sizes : ℕ
key_sizes = 64

abbrev pub second : ℕ
second = 79

abbrev pub third : ℕ
third = 6241

abbrev pub fourth : ℕ
fourth = 34287

abbrev pub first : ℕ
first = 21697

abbrev pub size : ℕ
size = 10127

-- the byte so far from a name's end, or its first
abbrev pub last_but : ℕ → List ℕ → ℕ
last_but k n = get_or n (length n - k) 0

-- a short number of a name, by its last four bytes, its first, and its size
unfoldable pub key_of : List ℕ → ℕ
key_of n = (last_but 1 n + second * last_but 2 n + third * last_but 3 n + fourth * last_but 4 n + first * get_or n 0 0 + size * (length n % key_sizes)) % key_values

-- what stands for a definition's number where a name means a built-in scalar, or no type
abbrev pub built_in : ℕ
built_in = 256

abbrev pub no_type : ℕ
no_type = 257

-- the tag of what a number stands for
abbrev pub kind_meant : List ℕ → ℕ → ℕ
kind_meant book k = cond (eqb k built_in) tag_scalar (kind_in book k)

-- k stands for what the name n means
pub record Means (t book n : List ℕ) (k : ℕ) : Type 0 where
  pub number : NumberMeant t book n k
  pub kind : kind_meant book k ≡ (meant (table_of t) n).tag

-- entry e is of this name and type
pub record Entry (t book es : List ℕ) (e : ℕ) (name : List ℕ) (type : Ref) : Type 0 where
  pub key_is : cell es e entry_key ≡ key_of name
  pub named : Named t (cell es e entry_name) (cell es e entry_size) name
  pub typed : Typed t (cell es e entry_base) (cell es e entry_extent) (cell es e entry_wrappers) type
  pub means : Means t book (base_of type) (cell es e entry_meant)

-- from e up to f stand the entries of this list, one beside the other
abbrev pub Run : {A : Type 0} → (ℕ → A → Type 0) → List ℕ → ℕ → ℕ → List A → Type 0
Run P es e f [] = e ≡ f
Run P es e f (x ∷ xs) = P e x × (e < next_of es e) × Run P es (next_of es e) f xs

pub record ArgumentEntry (t book es : List ℕ) (e : ℕ) (a : Argument) : Type 0 where
  pub entry : Entry t book es e a.name a.type
  pub next : next_of es e ≡ suc e

-- a member's arguments stand behind it
pub record MemberEntry (t book es : List ℕ) (e : ℕ) (m : Member) : Type 0 where
  pub entry : Entry t book es e m.name m.type
  pub arguments : Run (ArgumentEntry t book es) es (suc e) (next_of es e) m.arguments

abbrev pub Members : List ℕ → List ℕ → List ℕ → ℕ → ℕ → List Member → Type 0
Members t book es e f ms = Run (MemberEntry t book es) es e f ms

-- the definitions whose members have types
abbrev pub has_types : ℕ → Bool
has_types tag = leb tag_object tag && (leb tag tag_interface || leb tag_input_object tag && leb tag tag_directive)

-- the entries are the table's
pub record Entered (t book es : List ℕ) : Type 0 where
  pub most : (i : ℕ) → i ≤ count_in book → Roomy es (first_of es i)
  pub are : (i : ℕ) → i < count_in book → has_types (definition_on t i).tag ≡ true → Members t book es (first_of es i) (first_of es (suc i)) (definition_on t i).members

-- how many there are
abbrev pub entries_of : List Member → ℕ
entries_of [] = 0
entries_of (m ∷ ms) = suc (length m.arguments) + entries_of ms

abbrev pub entries_in : Definition → ℕ
entries_in d = cond (has_types d.tag) (entries_of d.members) 0

unfoldable pub entries_on : Table → ℕ
entries_on [] = 0
entries_on (d ∷ ds) = entries_in d + entries_on ds

pub record Enterable (t book es : List ℕ) : Type 0 where
  pub booked : Booked t book
  pub few : Roomy es (entries_on (table_of t))

-- r is the entry of the first member of the name n, among those from entry `from` up to `end`; `end` if there is none
pub record Hit (t book es : List ℕ) (end : ℕ) (n : List ℕ) (ms : List Member) (r : ℕ) : Type 0 where
  pub found : r < end → (m : Member) × (find (member_named n) ms ≡ some m) × MemberEntry t book es r m × (r < next_of es r) × (next_of es r ≤ end) × Roomy es (next_of es r)
  pub none_is : end ≤ r → find (member_named n) ms ≡ none
  pub within : r ≤ end

pub record HitArgument (t book es : List ℕ) (end : ℕ) (n : List ℕ) (xs : List Argument) (r : ℕ) : Type 0 where
  pub found : r < end → (a : Argument) × (find (argument_named n) xs ≡ some a) × Entry t book es r a.name a.type × Roomy es (suc r)
  pub none_is : end ≤ r → find (argument_named n) xs ≡ none

-- a member's entry stands there
pub record MemberStands (t book es : List ℕ) (e : ℕ) : Type 0 where
  pub member : Member
  pub is : MemberEntry t book es e member
  pub on : e < next_of es e
  pub most : Roomy es (next_of es e)

abbrev pub ArgumentAnswer : List ℕ → List ℕ → List ℕ → ℕ → List ℕ → ℕ → Type 0
ArgumentAnswer t book es e n r = (m : Member) → MemberEntry t book es e m → HitArgument t book es room_entries n m.arguments r

-- whatever table entry e is of: this is its type, this the number of the definition that its base means
abbrev pub TypeAnswer : List ℕ → ℕ → ℕ → ℕ → ℕ → Type 0
TypeAnswer es e at n wrappers = (t book name : List ℕ) (type : Ref) → Entry t book es e name type → Typed t at n wrappers type

abbrev pub MeantAnswer : List ℕ → ℕ → ℕ → Type 0
MeantAnswer es e r = (t book name : List ℕ) (type : Ref) → Entry t book es e name type → NumberMeant t book (base_of type) r

abbrev pub KindAnswer : List ℕ → List ℕ → ℕ → ℕ → Type 0
KindAnswer book es e r = (t name : List ℕ) (type : Ref) → Entry t book es e name type → r ≡ (meant (table_of t) (base_of type)).tag

-- entry e's name, which its key is of
abbrev pub name_at : List ℕ → List ℕ → ℕ → List ℕ
name_at t es e = part t (cell es e entry_name) (cell es e entry_size)

pub record NameStands (t es : List ℕ) (e : ℕ) : Type 0 where
  pub most : Roomy es (suc e)
  pub within : cell es e entry_name + cell es e entry_size ≤ length t
  pub key_is : cell es e entry_key ≡ key_of (name_at t es e)

-- a list of entries stands there; what is found in any that does
pub record Standing (t book es : List ℕ) (e f : ℕ) : Type 0 where
  pub members : List Member
  pub are : Members t book es e f members
  pub most : Roomy es f

abbrev pub FindAnswer : List ℕ → List ℕ → List ℕ → ℕ → ℕ → List ℕ → ℕ → Type 0
FindAnswer t book es from end n r = (ms : List Member) → Members t book es from end ms → Hit t book es end n ms r

-- entry e alone is written, with these numbers
pub record Put (old es : List ℕ) (e key name size base extent wrappers next meant : ℕ) : Type 0 where
  pub cells : length es ≡ length old
  pub key_is : cell es e entry_key ≡ key
  pub name_is : cell es e entry_name ≡ name
  pub size_is : cell es e entry_size ≡ size
  pub base_is : cell es e entry_base ≡ base
  pub extent_is : cell es e entry_extent ≡ extent
  pub wrappers_are : cell es e entry_wrappers ≡ wrappers
  pub next_is : cell es e entry_next ≡ next
  pub meant_is : cell es e entry_meant ≡ meant
  pub before : (k : ℕ) → k < entry_at e → get_or es k 0 ≡ get_or old k 0
  pub behind : (k : ℕ) → entry_at (suc e) ≤ k → get_or es k 0 ≡ get_or old k 0

-- entry e alone is written, of this name and type
pub record Entering (t book old es : List ℕ) (e next : ℕ) (name : List ℕ) (type : Ref) : Type 0 where
  pub cells : length es ≡ length old
  pub entry : Entry t book es e name type
  pub next_is : next_of es e ≡ next
  pub before : (k : ℕ) → k < entry_at e → get_or es k 0 ≡ get_or old k 0
  pub behind : (k : ℕ) → entry_at (suc e) ≤ k → get_or es k 0 ≡ get_or old k 0

-- whatever the name and the type are that stand there
abbrev pub HeaderEntered : List ℕ → List ℕ → List ℕ → List ℕ → ℕ → ℕ → ℕ → ℕ → ℕ → ℕ → ℕ → Type 0
HeaderEntered t book old es e next at n base extent wrappers = (name : List ℕ) (type : Ref) → Named t at n name → Typed t base extent wrappers type → Entering t book old es e next name type

-- a content's name, type and arguments
pub record HeaderIn (t : List ℕ) (start end name size base extent wrappers from : ℕ) : Type 0 where
  pub named : Named t name size (name_in (fields_in t start end))
  pub typed : Typed t base extent wrappers (type_in (fields_in t start end))
  pub arguments : arguments_in t from end ≡ arguments_in t start end
  pub order : from ≤ end

abbrev pub QuickRead : List ℕ → ℕ → ℕ → Option Header → Type 0
QuickRead t start end (Some h) = HeaderIn t start end h.name h.size h.base h.extent h.wrappers h.from
QuickRead t start end None = Unit {0}

-- a member's
pub record HeaderRead (t : List ℕ) (tag start end name size base extent wrappers from : ℕ) : Type 0 where
  pub named : Named t name size (member_from t tag start end).name
  pub typed : Typed t base extent wrappers (member_from t tag start end).type
  pub arguments : ArgumentsFrom t tag start end from

-- from entry e on are written those of this list, so many
pub record Written {A : Type 0} (P : List ℕ → ℕ → A → Type 0) (weight : List A → ℕ) (old es : List ℕ) (e f : ℕ) (xs : List A) : Type 0 where
  pub cells : length es ≡ length old
  pub before : (k : ℕ) → k < entry_at e → get_or es k 0 ≡ get_or old k 0
  pub run : Run (P es) es e f xs
  pub size : f ≡ e + weight xs

-- from entry e on is written this one, up to f
pub record One {A : Type 0} (P : List ℕ → ℕ → A → Type 0) (old es : List ℕ) (e f : ℕ) (x : A) : Type 0 where
  pub cells : length es ≡ length old
  pub before : (k : ℕ) → k < entry_at e → get_or es k 0 ≡ get_or old k 0
  pub is : P es e x
  pub next_is : next_of es e ≡ f

pub record MemberWritten (t book old es : List ℕ) (e f : ℕ) (m : Member) : Type 0 where
  pub one : One (MemberEntry t book) old es e f m
  pub size : f ≡ e + suc (length m.arguments)

pub record DefinitionWritten (t book old es : List ℕ) (e f : ℕ) (d : Definition) : Type 0 where
  pub cells : length es ≡ length old
  pub before : (k : ℕ) → k < entry_at e → get_or es k 0 ≡ get_or old k 0
  pub run : has_types d.tag ≡ true → Members t book es e f d.members
  pub size : f ≡ e + entries_in d

abbrev pub ArgumentsWritten : List ℕ → List ℕ → List ℕ → List ℕ → ℕ → ℕ → List Argument → Type 0
ArgumentsWritten t book old es e f xs = Written (ArgumentEntry t book) length old es e f xs

abbrev pub MembersWritten : List ℕ → List ℕ → List ℕ → List ℕ → ℕ → ℕ → List Member → Type 0
MembersWritten t book old es e f ms = Written (MemberEntry t book) entries_of old es e f ms

-- entry e stands behind those of a list, which stand from `from` on; whether none of them has its name
pub record Here (t book es : List ℕ) (from e : ℕ) : Type 0 where
  pub before : List Member
  pub are : Members t book es from e before
  pub name : List ℕ
  pub type : Ref
  pub is : Entry t book es e name type
  pub most : Roomy es (suc e)

abbrev pub NewAnswer : List ℕ → List ℕ → List ℕ → ℕ → ℕ → Bool → Type 0
NewAnswer t book es from e r = (before : List Member) (name : List ℕ) (type : Ref) → Members t book es from e before → Entry t book es e name type → r ≡ true → find (member_named name) before ≡ none
