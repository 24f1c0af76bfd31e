-- 13 operation kind without a root.
use Rattle.std.specs.Prelude.{Bool, not, ◌&&◌, ℕ}
use Rattle.paper.specs.Numbers.{kind_operation}
use Rattle.paper_table.specs.References.{found}
use Rattle.paper_table.specs.Types.{Table}
use Rattle.paper_query.specs.Constructs.{Doc, is, row_of, extra_of}
use Rattle.paper_query.specs.Enclosing.{root_of}

unfoldable pub no_root : Table → Doc → ℕ → Bool
no_root t d i = is kind_operation (row_of d i) && not (found (root_of t (extra_of d i)))
