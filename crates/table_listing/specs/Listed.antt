-- The book of a record's members: what its numbers say.
-- Assumes nothing.
use Rattle.std.specs.Prelude.{◌≡◌, List, [], ℕ, ◌+◌, ◌≤◌, ◌<◌, length, get_or}
use Rattle.paper_table.specs.Types.{Member, name_only, tag_nothing}
use Rattle.table_fields.specs.Fields.{Bounds}
use Rattle.table_book.specs.Book.{part, room, cell_name, cell_size, book_size, count_in, Indexed}
use Rattle.table_members.specs.Members.{members_in, member_from, Lies}
use Rattle.table_types.specs.Booked.{start_in, end_in, SameEntry}

-- a tag is a byte
abbrev pub most_tag : ℕ
most_tag = 255

-- the record's member of a number
abbrev pub member_on : List ℕ → ℕ → ℕ → ℕ → Member
member_on t from end i = get_or (members_in t from end) i (name_only tag_nothing [])

-- entry i of the book is this member of the record with the content from `from` up to `end`
pub record Entered (t book : List ℕ) (from end i : ℕ) (m : Member) : Type 0 where
  pub is : m ≡ member_from t (get_or book i 0) (start_in book i) (end_in book i)
  pub lies : Lies from end (start_in book i) (end_in book i)
  pub small : get_or book i 0 ≤ most_tag
  pub name : part t (get_or book (cell_name + i) 0) (get_or book (cell_size + i) 0) ≡ m.name
  pub name_within : get_or book (cell_name + i) 0 + get_or book (cell_size + i) 0 ≤ length t

-- the book is that of the record's members, and can be searched
pub record Listed (t book : List ℕ) (from end : ℕ) : Type 0 where
  pub count : count_in book ≡ length (members_in t from end)
  pub entered : (i : ℕ) → i < count_in book → Entered t book from end i (member_on t from end i)
  pub indexed : Indexed t book

-- what is asked of a record whose members are to be listed
pub record Listable (t book : List ℕ) (from end : ℕ) : Type 0 where
  pub bounds : Bounds t from end
  pub cells : length book ≡ book_size
  pub few : length (members_in t from end) ≤ room

-- entry i alone is written, with the member of this tag and content
pub record Entering (t old book : List ℕ) (i tag start stop : ℕ) : Type 0 where
  pub cells : length book ≡ length old
  pub tag_is : get_or book i 0 ≡ tag
  pub start_is : start_in book i ≡ start
  pub end_is : end_in book i ≡ stop
  pub name : part t (get_or book (cell_name + i) 0) (get_or book (cell_size + i) 0) ≡ (member_from t tag start stop).name
  pub name_within : get_or book (cell_name + i) 0 + get_or book (cell_size + i) 0 ≤ length t
  pub others : (j : ℕ) → j < i → SameEntry old book j

-- the members are in the book, and so many
pub record Collected (t book : List ℕ) (from end count : ℕ) : Type 0 where
  pub cells : length book ≡ book_size
  pub count_is : count ≡ length (members_in t from end)
  pub entered : (i : ℕ) → i < count → Entered t book from end i (member_on t from end i)
