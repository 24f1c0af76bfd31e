-- The rows of a text: read off the marks of its derivation and its tokens, from left to right.
-- States: 01, "Reading a document": "Rows have seven 32-bit numbers ...". They stand in order of start.
-- Assumes nothing.
use Rattle.std.specs.Prelude.{List, [], ◌∷◌, ◌++◌, ℕ, zero, suc, ◌+◌, ◌-◌, ◌*◌, length}
use Rattle.paper.specs.Grammar.{Ev, tok, mark}
use Rattle.paper.specs.Numbers.{no_parent}
use Rattle.paper.specs.Language.{Class, Mark, row, kind, named, wrapper, wrap, end}
use Rattle.paper.specs.Tokens.{Tok}

pub record Row : Type 0 where
  pub kind : ℕ
  pub start : ℕ
  pub end : ℕ
  pub parent : ℕ
  pub name_start : ℕ
  pub name_length : ℕ
  pub extra : ℕ

-- the rows begun so far, the numbers of those that are open, the innermost first, and the last token's end
pub record Book : Type 0 where
  pub rows : List Row
  pub open' : List ℕ
  pub stop : ℕ

abbrev pub empty_book : Book
empty_book = record { rows = []; open' = []; stop = 0 }

-- row n of a list changed
abbrev pub change : (Row → Row) → ℕ → List Row → List Row
change f n [] = []
change f zero (r ∷ rs) = f r ∷ rs
change f (suc n) (r ∷ rs) = r ∷ change f n rs

-- the innermost open row, or 2,048
abbrev pub top : List ℕ → ℕ
top [] = no_parent
top (n ∷ ns) = n

abbrev pub pop : List ℕ → List ℕ
pop [] = []
pop (n ∷ ns) = ns

-- the next token's ends
abbrev pub start_of : List Tok → ℕ
start_of [] = 0
start_of (t ∷ ts) = t.start

abbrev pub stop_of : List Tok → ℕ
stop_of [] = 0
stop_of (t ∷ ts) = t.stop

abbrev pub on_top : (Row → Row) → Book → Book
on_top f b = record { rows = change f (top b.open') b.rows; open' = b.open'; stop = b.stop }

abbrev pub begun : ℕ → ℕ → Row
begun at parent = record { kind = 0; start = at; end = 0; parent = parent; name_start = 0; name_length = 0; extra = 0 }

abbrev pub of_kind : ℕ → ℕ → Row → Row
of_kind k x r = record { kind = k; start = r.start; end = r.end; parent = r.parent; name_start = r.name_start; name_length = r.name_length; extra = x }

abbrev pub with_name : ℕ → ℕ → Row → Row
with_name a e r = record { kind = r.kind; start = r.start; end = r.end; parent = r.parent; name_start = a; name_length = e - a; extra = r.extra }

-- the wrappers so far go two bits up
abbrev pub wrapped : ℕ → Row → Row
wrapped w r = record { kind = r.kind; start = r.start; end = r.end; parent = r.parent; name_start = r.name_start; name_length = r.name_length; extra = r.extra * 4 + w }

abbrev pub stopping : ℕ → Row → Row
stopping e r = record { kind = r.kind; start = r.start; end = e; parent = r.parent; name_start = r.name_start; name_length = r.name_length; extra = r.extra }

-- what a mark does, where ts are the tokens not yet taken
abbrev pub at_mark : Mark → List Tok → Book → Book
at_mark row ts b = record { rows = b.rows ++ (begun (start_of ts) (top b.open') ∷ []); open' = length b.rows ∷ b.open'; stop = b.stop }
at_mark (kind k x) ts b = on_top (of_kind k x) b
at_mark named ts b = on_top (with_name (start_of ts) (stop_of ts)) b
at_mark wrapper ts b = b
at_mark (wrap w) ts b = on_top (wrapped w) b
at_mark end ts b = record { rows = change (stopping b.stop) (top b.open') b.rows; open' = pop b.open'; stop = b.stop }

abbrev pub taken : List Tok → Book → Book
taken [] b = b
taken (t ∷ ts) b = record { rows = b.rows; open' = b.open'; stop = t.stop }

abbrev pub rest : List Tok → List Tok
rest [] = []
rest (t ∷ ts) = ts

unfoldable pub book : List (Ev Class Mark) → List Tok → Book → Book
book [] ts b = b
book (tok c ∷ es) ts b = book es (rest ts) (taken ts b)
book (mark m ∷ es) ts b = book es ts (at_mark m ts b)

-- the rows of a text with the events es and the tokens ts
unfoldable pub rows_of : List (Ev Class Mark) → List Tok → List Row
rows_of es ts = (book es ts empty_book).rows

-- seven numbers a row
abbrev pub cells_of : Row → List ℕ
cells_of r = r.kind ∷ r.start ∷ r.end ∷ r.parent ∷ r.name_start ∷ r.name_length ∷ r.extra ∷ []

unfoldable pub flat : List Row → List ℕ
flat [] = []
flat (r ∷ rs) = cells_of r ++ flat rs
