-- 3 fragment name repeated. (The later.)
use Rattle.std.specs.Prelude.{Bool, ◌&&◌, ℕ}
use Rattle.paper.specs.Numbers.{kind_fragment}
use Rattle.paper_table.specs.Lists.{earlier}
use Rattle.paper_query.specs.Constructs.{Doc, is, row_of, name_of, fragment_called}

unfoldable pub fragment_repeated : Doc → ℕ → Bool
fragment_repeated d i = is kind_fragment (row_of d i) && earlier (fragment_called d (name_of d i)) i d.rows
