-- 2 unnamed operation beside another. (Each unnamed one is at fault.)
use Rattle.std.specs.Prelude.{Bool, not, ◌&&◌, ◌||◌, ℕ, suc, drop}
use Rattle.paper.specs.Numbers.{kind_operation}
use Rattle.paper_table.specs.Lists.{any_of, earlier}
use Rattle.paper_query.specs.Constructs.{Doc, is, row_of}
use Rattle.paper_query.specs.Rule1OperationRepeated.{is_named}

unfoldable pub operation_unnamed : Doc → ℕ → Bool
operation_unnamed d i =
    is kind_operation (row_of d i) && (not (is_named (row_of d i)) &&
    (earlier (is kind_operation) i d.rows || any_of (is kind_operation) (drop (suc i) d.rows)))
