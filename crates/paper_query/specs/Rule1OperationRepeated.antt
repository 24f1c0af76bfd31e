-- 1 operation name repeated. (The later; operations of all three kinds share their names.)
use Rattle.std.specs.Prelude.{Bool, not, ◌&&◌, ℕ, eqb}
use Rattle.paper.specs.Numbers.{kind_operation}
use Rattle.paper.specs.Rows.{Row}
use Rattle.paper_table.specs.Lists.{earlier}
use Rattle.paper_query.specs.Constructs.{Doc, is, called, row_of, name_of}

-- an unnamed operation's name has no bytes
abbrev pub is_named : Row → Bool
is_named r = not (eqb r.name_length 0)

unfoldable pub operation_repeated : Doc → ℕ → Bool
operation_repeated d i =
    is kind_operation (row_of d i) && (is_named (row_of d i) && earlier (λ r. is kind_operation r && called d (name_of d i) r) i d.rows)
