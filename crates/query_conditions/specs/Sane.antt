-- What every accepted document keeps to, so that the numbers in its plans stay in their ranges.
-- States: 01, "Query rules", rules 4, 9 and 10, and "Sizes and refusals": "64 fragments; 64 variables per operation", as plans need them.
-- Assumes nothing.
use Rattle.std.specs.Prelude.{◌≡◌, true, List, ℕ, ◌<◌}
use Rattle.std.proofs.Math.Option.{some}
use Rattle.paper.specs.Numbers.{most_fragments, most_variables, kind_fragment}
use Rattle.paper_table.specs.Lists.{bytes}
use Rattle.paper_table.specs.Types.{Table, is_composite}
use Rattle.paper_query.specs.Constructs.{Doc, row_of, is, is_selection, has_fragment}
use Rattle.paper_query.specs.Enclosing.{definition_at, condition_of}
use Rattle.paper_query.specs.Reaching.{Reaches}
use Rattle.paper_plan.specs.Collecting.{variable}
use Rattle.paper_plan.specs.Selecting.{fragment_number, type_on, type_if, if_of}

pub record Sane (t : Table) (d : Doc) (op : ℕ) : Type 0 where
  -- a fragment definition's type condition is an object, interface or union of the table
  pub on_output : (f : ℕ) → is kind_fragment (row_of d f) ≡ true → is_composite (definition_at t (type_on t d (condition_of d f))) ≡ true
  -- so is a selection's (an inline fragment's), where it has one
  pub inline_output : (i k : ℕ) → type_if t d (condition_of d i) ≡ some k → is_selection (row_of d i) ≡ true → is_composite (definition_at t k) ≡ true
  -- the variable of a @skip or @include of a selection that the operation reaches is one of its first 64
  pub skip_below : (i v : ℕ) → Reaches d op i → is_selection (row_of d i) ≡ true → if_of d op (bytes "skip") i ≡ variable v → v < most_variables
  pub include_below : (i v : ℕ) → Reaches d op i → is_selection (row_of d i) ≡ true → if_of d op (bytes "include") i ≡ variable v → v < most_variables
  -- a fragment that is spread has a number below 64
  pub fragment_below : (f : List ℕ) → has_fragment d f ≡ true → fragment_number d f < most_fragments
