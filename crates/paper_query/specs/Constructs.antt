-- A document's constructs: its rows, and the names that its bytes spell.
-- States: 01, "Reading a document": a row's kind, parent, name and extra.
-- Assumes nothing.
use Rattle.std.specs.Prelude.{Bool, ◌&&◌, List, ℕ, length, take, drop, get_or, eqb, leb}
use Rattle.paper.specs.Numbers.{no_parent, kind_fragment, kind_field, kind_inline, kind_variable, kind_object}
use Rattle.paper.specs.Tokens.{same}
use Rattle.paper.specs.Rows.{Row}
use Rattle.paper_table.specs.Lists.{any_of, first_at, each, only_if}

-- a document that was read: its bytes and its rows
pub record Doc : Type 0 where
  pub bytes : List ℕ
  pub rows : List Row

abbrev pub count : Doc → ℕ
count d = length d.rows

-- row i; where there is none, a row of no kind
abbrev pub no_row : Row
no_row = record { kind = 0; start = 0; end = 0; parent = no_parent; name_start = 0; name_length = 0; extra = 0 }

abbrev pub row_of : Doc → ℕ → Row
row_of d i = get_or d.rows i no_row

abbrev pub kind_of : Doc → ℕ → ℕ
kind_of d i = (row_of d i).kind

abbrev pub parent_of : Doc → ℕ → ℕ
parent_of d i = (row_of d i).parent

abbrev pub extra_of : Doc → ℕ → ℕ
extra_of d i = (row_of d i).extra

-- the name of a row: its bytes in the document
abbrev pub spelt : Doc → Row → List ℕ
spelt d r = take r.name_length (drop r.name_start d.bytes)

abbrev pub name_of : Doc → ℕ → List ℕ
name_of d i = spelt d (row_of d i)

-- What a row is.
abbrev pub is : ℕ → Row → Bool
is k r = eqb r.kind k

-- a selection: a field, a spread, an inline fragment
abbrev pub is_selection : Row → Bool
is_selection r = leb kind_field r.kind && leb r.kind kind_inline

-- a value: from a variable to an object
abbrev pub is_value : Row → Bool
is_value r = leb kind_variable r.kind && leb r.kind kind_object

-- of this name; right below row p
abbrev pub called : Doc → List ℕ → Row → Bool
called d n r = same (spelt d r) n

abbrev pub below : ℕ → Row → Bool
below p r = eqb r.parent p

-- the numbers of the rows that pass, in order
unfoldable pub numbers_where : (Row → Bool) → Doc → List ℕ
numbers_where p d = each (λ i r. only_if (p r) i) d.rows

-- the first fragment of a name, the count of rows if there is none; there is one
abbrev pub fragment_called : Doc → List ℕ → Row → Bool
fragment_called d n r = is kind_fragment r && called d n r

unfoldable pub fragment_named : Doc → List ℕ → ℕ
fragment_named d n = first_at (fragment_called d n) d.rows

unfoldable pub has_fragment : Doc → List ℕ → Bool
has_fragment d n = any_of (fragment_called d n) d.rows
