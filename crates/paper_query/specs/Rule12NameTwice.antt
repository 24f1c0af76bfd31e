-- 12 argument or variable name repeated. (Arguments and definitions beside each other; the later.)
use Rattle.std.specs.Prelude.{Bool, ◌&&◌, ◌||◌, ℕ}
use Rattle.paper.specs.Numbers.{kind_argument, kind_variable_definition}
use Rattle.paper_table.specs.Lists.{earlier}
use Rattle.paper_query.specs.Constructs.{Doc, is, called, below, row_of, kind_of, parent_of, name_of}

unfoldable pub name_twice : Doc → ℕ → Bool
name_twice d i =
    (is kind_argument (row_of d i) || is kind_variable_definition (row_of d i)) &&
    earlier (λ r. is (kind_of d i) r && (below (parent_of d i) r && called d (name_of d i) r)) i d.rows
