-- Rows that are alike: of one kind and name, beside each other, or of one kind right below a row.
-- Assumes nothing.
use Rattle.std.specs.Prelude.{Bool, ◌&&◌, List, ℕ, get_or}
use Rattle.paper.specs.Rows.{Row}
use Rattle.paper_table.specs.Lists.{first_at}
use Rattle.paper_query.specs.Constructs.{Doc, no_row, is, called, below, kind_of, parent_of, name_of}
use Rattle.query_links.specs.Links.{next_with, Family}

-- of kind k and of the name m
abbrev pub kind_called : Doc → ℕ → List ℕ → Row → Bool
kind_called d k m r = is k r && called d m r

-- beside row i, or that row, with its kind and name; the first such
abbrev pub is_like : Doc → ℕ → Row → Bool
is_like d i r = is (kind_of d i) r && (below (parent_of d i) r && called d (name_of d i) r)

abbrev pub first_like : Doc → ℕ → ℕ
first_like d i = first_at (is_like d i) d.rows

-- of kind k right below row p; the first such
abbrev pub is_below : ℕ → ℕ → Row → Bool
is_below k p r = is k r && below p r

abbrev pub first_below : List Row → ℕ → ℕ → ℕ
first_below rs k p = next_with (is_below k p) rs 0

-- after each row the next beside it, as in a family
pub record Beside (rs : List Row) (next : List ℕ) : Type 0 where
  pub first : List ℕ
  pub family : Family rs first next

-- the first of kind k from row j on, of that row and those beside it
abbrev pub next_beside : List Row → ℕ → ℕ → ℕ
next_beside rs k j = next_with (is_below k (get_or rs j no_row).parent) rs j
