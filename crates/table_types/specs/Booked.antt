-- The book of a table: what its numbers say of the table's definitions; what is asked of it.
-- Assumes nothing.
use Rattle.std.specs.Prelude.{◌≡◌, Bool, ◌&&◌, cond, List, map, ℕ, ◌+◌, ◌≤◌, ◌<◌, length, get_or, leb, ltb}
use Rattle.paper.specs.Numbers.{most_wrappers}
use Rattle.paper_table.specs.TableNumbers.{most_table, tag_scalar, tag_object, tag_union}
use Rattle.paper_table.specs.References.{Ref}
use Rattle.paper_table.specs.Types.{Definition, table_of, blank_definition, tag_nothing, Meaning, built_in, no_meaning, definition, meaning, meant, can_be}
use Rattle.paper_table.specs.SubTypes.{sub_test}
use Rattle.paper_table.proofs.ReferenceSizes.{wrappers as wrapperCount}
use Rattle.table_book.specs.Book.{Key, key, part, room, cell_name, cell_size, cell_start, cell_end, book_size, count_in, keys_of, Indexed}
use Rattle.table_members.specs.Members.{definition_from, Typed}
use Rattle.table_types.specs.declared.Meant.{Meant}
use Rattle.table_types.specs.declared.Meant.TheVariants.{BuiltIn, Definition as Defined, Nothing}

-- what a definition is looked for by
abbrev pub key_of : Definition → Key
key_of d = key d.tag d.name

abbrev pub start_in : List ℕ → ℕ → ℕ
start_in book i = get_or book (cell_start + i) 0

abbrev pub end_in : List ℕ → ℕ → ℕ
end_in book i = get_or book (cell_end + i) 0

-- the table's definition of a number
abbrev pub definition_on : List ℕ → ℕ → Definition
definition_on t i = get_or (table_of t) i (blank_definition tag_nothing)

-- entry i of the book is this definition of the table t: its tag, its content, its name
pub record Entered (t book : List ℕ) (i : ℕ) (d : Definition) : Type 0 where
  pub is : d ≡ definition_from t (get_or book i 0) (start_in book i) (end_in book i)
  pub order : start_in book i ≤ end_in book i
  pub within : end_in book i ≤ length t
  pub name : part t (get_or book (cell_name + i) 0) (get_or book (cell_size + i) 0) ≡ d.name
  pub name_within : get_or book (cell_name + i) 0 + get_or book (cell_size + i) 0 ≤ length t

-- entry j is as it was
pub record SameEntry (old book : List ℕ) (j : ℕ) : Type 0 where
  pub kind : get_or book j 0 ≡ get_or old j 0
  pub name : get_or book (cell_name + j) 0 ≡ get_or old (cell_name + j) 0
  pub size : get_or book (cell_size + j) 0 ≡ get_or old (cell_size + j) 0
  pub start : start_in book j ≡ start_in old j
  pub end : end_in book j ≡ end_in old j

-- the book is that of the table t, and can be searched
pub record Booked (t book : List ℕ) : Type 0 where
  pub short : length t ≤ most_table
  pub count : count_in book ≡ length (table_of t)
  pub entered : (i : ℕ) → i < count_in book → Entered t book i (definition_on t i)
  pub keys : keys_of t book ≡ map key_of (table_of t)
  pub indexed : Indexed t book

-- what is asked of a table that is to be booked
pub record Bookable (t book : List ℕ) : Type 0 where
  pub short : length t ≤ most_table
  pub cells : length book ≡ book_size
  pub few : length (table_of t) ≤ room

-- entry i alone is written, with these numbers
pub record Put (old book : List ℕ) (i tag name size start end : ℕ) : Type 0 where
  pub cells : length book ≡ length old
  pub tag_is : get_or book i 0 ≡ tag
  pub name_is : get_or book (cell_name + i) 0 ≡ name
  pub size_is : get_or book (cell_size + i) 0 ≡ size
  pub start_is : start_in book i ≡ start
  pub end_is : end_in book i ≡ end
  pub others : (j : ℕ) → j < i → SameEntry old book j

-- entry i alone is written, with the record of this tag and content
pub record Entering (t old book : List ℕ) (i tag start end : ℕ) : Type 0 where
  pub cells : length book ≡ length old
  pub entered : Entered t book i (definition_from t tag start end)
  pub others : (j : ℕ) → j < i → SameEntry old book j

-- the definitions are in the book, and so many
pub record Recorded (t book : List ℕ) (count : ℕ) : Type 0 where
  pub cells : length book ≡ book_size
  pub count_is : count ≡ length (table_of t)
  pub entered : (i : ℕ) → i < count → Entered t book i (definition_on t i)

-- a meaning as the code has it
abbrev pub spoken : Meaning → Meant
spoken built_in = BuiltIn
spoken no_meaning = Nothing
spoken (definition i) = Defined i

-- entry i's kind, 0 if there is no such entry
abbrev pub kind_in : List ℕ → ℕ → ℕ
kind_in book i = cond (ltb i (count_in book)) (get_or book i 0) tag_nothing

-- the tag of an object, interface or union
abbrev pub is_composite_tag : ℕ → Bool
is_composite_tag k = leb tag_object k && leb k tag_union

-- i is the number of the definition that the name n means; if there is no such entry it means a built-in scalar or nothing
pub record NumberMeant (t book n : List ℕ) (i : ℕ) : Type 0 where
  pub number : i < count_in book → meaning (table_of t) n ≡ definition i
  pub is : i < count_in book → meant (table_of t) n ≡ definition_on t i
  pub none : count_in book ≤ i → (meant (table_of t) n).tag ≤ tag_scalar

-- q answers whether the first reference is a sub-type of the second, of two with at most seven wrappers
abbrev pub SubTyped : List ℕ → ℕ → ℕ → ℕ → ℕ → ℕ → ℕ → Bool → Type 0
SubTyped t at n o at' n' i q =
    (r s : Ref) → Typed t at n o r → Typed t at' n' i s → wrapperCount r ≤ most_wrappers → wrapperCount s ≤ most_wrappers
    → q ≡ sub_test (can_be (table_of t)) r s
