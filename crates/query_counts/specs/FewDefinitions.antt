-- A document with no more definitions than the sizes allow, counted in its rows.
-- States: 01, "Sizes and refusals": "64 fragments; 64 variables per operation".
-- Assumes nothing.
use Rattle.std.specs.Prelude.{◌&&◌, ℕ, ◌≤◌, length}
use Rattle.paper.specs.Numbers.{most_fragments, most_variables, kind_fragment, kind_variable_definition}
use Rattle.paper_query.specs.Constructs.{Doc, is, below, numbers_where}

pub record FewDefinitions (d : Doc) : Type 0 where
  -- an operation's row has at most 64 variable definitions right below it; so has any other row
  pub variables : (op : ℕ) → length (numbers_where (λ r. is kind_variable_definition r && below op r) d) ≤ most_variables
  -- at most 64 rows are fragment definitions
  pub fragments : length (numbers_where (is kind_fragment) d) ≤ most_fragments
