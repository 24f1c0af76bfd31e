-- 10 variable not defined by an operation that reaches it. (At fault if some operation that reaches it does not define it.)
use Rattle.std.specs.Prelude.{Bool, not, ◌&&◌, List, ℕ, T}
use Rattle.paper.specs.Numbers.{kind_operation, kind_variable, kind_variable_definition}
use Rattle.paper.specs.Rows.{Row}
use Rattle.paper_table.specs.Lists.{any_of}
use Rattle.paper_query.specs.Constructs.{Doc, is, called, below, row_of, name_of}
use Rattle.paper_query.specs.Reaching.{Reaches}

-- a definition of the variable n by the operation of row o
abbrev pub defines_it : Doc → ℕ → List ℕ → Row → Bool
defines_it d o n r = is kind_variable_definition r && (below o r && called d n r)

unfoldable pub defines : Doc → ℕ → List ℕ → Bool
defines d o n = any_of (defines_it d o n) d.rows

pub record Undefined (d : Doc) (i : ℕ) : Type 0 where
  pub variable : T (is kind_variable (row_of d i))
  pub operation : ℕ
  pub is_operation : T (is kind_operation (row_of d operation))
  pub reaches : Reaches d operation i
  pub undefined : T (not (defines d operation (name_of d i)))
