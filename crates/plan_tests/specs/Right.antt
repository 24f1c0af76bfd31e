-- The planner's first pass: a table of twelve numbers a row (plan_steps has their meaning), and what it is made from.
-- Assumes nothing.
use Rattle.std.specs.Prelude.{◌≡◌, Bool, true, false, not, ◌||◌, List, [], ◌∷◌, ℕ, ◌+◌, ◌*◌, ◌≤◌, ◌<◌, Option, Some, None, length, get_or, take, drop, eqb}
use Rattle.std.proofs.Math.Option.{Option as Maybe, none, some}
use Rattle.std.proofs.lemmas.List.Edits.{sets}
use Rattle.paper.specs.Numbers.{most_rows, kind_spread}
use Rattle.paper_table.specs.Types.{table_of}
use Rattle.paper_query.specs.Constructs.{is, is_selection, name_of, fragment_named}
use Rattle.table_types.specs.Booked.{Booked}
use Rattle.query_rows.specs.Rowed.{row_in, rows_in, doc_of, Rowed}
use Rattle.query_links.specs.Links.{Family, Kinds}
use Rattle.paper_plan.specs.Collecting.{field, View}
use Rattle.paper_plan.specs.Planning.{Test, Step, tests, content, dropped}
use Rattle.paper_plan.specs.Selecting.{by_numbers, set_of}
use Rattle.paper_plan.specs.PlanNumbers.{step_unless_applies, step_if_met}
use Rattle.plan_keys.specs.Keyed.{Keyed}
use Rattle.plan_rows.specs.Ranks.{is_fragment, RanksTo}
use Rattle.plan_conditions.specs.declared.IfValue.{IfValue}
use Rattle.plan_conditions.specs.declared.IfValue.TheVariants.{Literal, Variable}
use Rattle.plan_steps.specs.Table.{tests_from}

-- a row's numbers, and what a row is
abbrev pub row_cells : ℕ
row_cells = 12

abbrev pub what_none : ℕ
what_none = 0

abbrev pub what_field : ℕ
what_field = 1

abbrev pub what_nested : ℕ
what_nested = 2

abbrev pub what_dropped : ℕ
what_dropped = 3

abbrev pub cells_of : List ℕ → ℕ → List ℕ
cells_of t r = take row_cells (drop (row_cells * r) t)

-- A document made ready: the table's book, the rows and their links, the fragments' ranks, the keys' numbers; each spread has its fragment.
pub record Given (t book s rows : List ℕ) (n : ℕ) (first next firstk nextk ranks keys : List ℕ) : Type 0 where
  pub booked : Booked t book
  pub rowed : Rowed s rows n
  pub family : Family (rows_in rows n) first next
  pub kinds : Kinds (rows_in rows n) firstk nextk
  pub ranked : RanksTo is_fragment (rows_in rows n) ranks n
  pub keyed : Keyed (doc_of s rows n) keys
  pub spreads : (i : ℕ) → is kind_spread (row_in rows n i) ≡ true → fragment_named (doc_of s rows n) (name_of (doc_of s rows n) i) < n

-- What the `if` of a directive writes: a variable's test, or nothing; whether it drops the selection; a number that fits.
abbrev pub Small : Option IfValue → Type 0
Small None = Unit {0}
Small (Some (Literal b)) = Unit {0}
Small (Some (Variable v)) = v ≤ most_rows

abbrev pub PutIf : List ℕ → ℕ → ℕ → Option IfValue → List ℕ → ℕ → Type 0
PutIf old m k None new r = (new ≡ old) × (r ≡ m)
PutIf old m k (Some (Literal b)) new r = (new ≡ old) × (r ≡ m)
PutIf old m k (Some (Variable v)) new r = (new ≡ sets old (4 + 2 * m) (k ∷ v ∷ [])) × (r ≡ m + 1)

abbrev pub skip_drops_by : Option IfValue → Bool
skip_drops_by None = false
skip_drops_by (Some (Literal b)) = b
skip_drops_by (Some (Variable v)) = false

abbrev pub include_drops_by : Option IfValue → Bool
include_drops_by None = false
include_drops_by (Some (Literal b)) = not b
include_drops_by (Some (Variable v)) = false

abbrev pub drops_by : Option IfValue → Option IfValue → Bool
drops_by s i = skip_drops_by s || include_drops_by i

-- What a spread and an inline fragment write behind m tests.
abbrev pub spread_row : List ℕ → ℕ → ℕ → ℕ → ℕ → ℕ → List ℕ
spread_row row m above number type f =
    sets (sets (sets row (4 + 2 * m) (step_if_met ∷ number ∷ [])) (4 + 2 * (m + 1)) (step_unless_applies ∷ type ∷ [])) 0 (what_nested ∷ above ∷ f ∷ (m + 2) ∷ [])

abbrev pub inline_row : List ℕ → ℕ → ℕ → ℕ → Maybe ℕ → List ℕ
inline_row row m above i none = sets row 0 (what_nested ∷ above ∷ i ∷ m ∷ [])
inline_row row m above i (some type) = sets (sets row (4 + 2 * m) (step_unless_applies ∷ type ∷ [])) 0 (what_nested ∷ above ∷ i ∷ (m + 1) ∷ [])

-- the row holds m tests so far
pub record TestsAre (row : List ℕ) (m : ℕ) (ts : List Test) : Type 0 where
  pub size : length row ≡ row_cells
  pub are : tests_from row 4 m ≡ ts
  pub kinds : (j : ℕ) → j < m → (1 ≤ get_or row (4 + 2 * j) 0) × (get_or row (4 + 2 * j) 0 ≤ 4)

-- the twelve numbers of row r, by the view v of the document, its parent, and whether it is a selection; `set` gives a row's selections
pub record Right (v : View ℕ) (set : ℕ → List ℕ) (r above : ℕ) (selects : Bool) (row : List ℕ) : Type 0 where
  pub size : length row ≡ row_cells
  pub its_above : get_or row 1 0 ≡ above
  pub few : get_or row 3 0 ≤ 4
  pub held : get_or row 2 0 ≤ most_rows
  pub no_selection : selects ≡ false → get_or row 0 0 ≡ 0
  pub selection : selects ≡ true → get_or row 0 0 ≡ 0 → ⊥
  pub drops : selects ≡ true → eqb (get_or row 0 0) 3 ≡ dropped (v.skip r) (v.include r)
  pub kinds : (j : ℕ) → j < get_or row 3 0 → (1 ≤ get_or row (4 + 2 * j) 0) × (get_or row (4 + 2 * j) 0 ≤ 4)
  pub its_tests : selects ≡ true → (get_or row 0 0 ≡ 3 → ⊥) → tests_from row 4 (get_or row 3 0) ≡ tests v r
  pub a_field : selects ≡ true → get_or row 0 0 ≡ 1 → v.sort r ≡ field (get_or row 2 0)
  pub nested : selects ≡ true → (get_or row 0 0 ≡ 1 → ⊥) → (get_or row 0 0 ≡ 3 → ⊥)
      → ((at : ℕ) (inner : ℕ → List ℕ → List Step) → content v inner at r (v.sort r) ≡ inner at (set (get_or row 2 0)))

-- the same of row r of a document and its operation o
abbrev pub RightRow : List ℕ → List ℕ → List ℕ → ℕ → ℕ → ℕ → List ℕ → Type 0
RightRow t s rows n o r row = Right (by_numbers (table_of t) (doc_of s rows n) o) (set_of (doc_of s rows n)) r (row_in rows n r).parent (is_selection (row_in rows n r)) row

-- the first i rows of the table are right
abbrev pub TableTo : List ℕ → List ℕ → List ℕ → ℕ → ℕ → List ℕ → ℕ → Type 0
TableTo t s rows n o cells i = (r : ℕ) → r < i → RightRow t s rows n o r (cells_of cells r)
