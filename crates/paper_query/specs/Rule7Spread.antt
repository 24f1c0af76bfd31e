-- 7 spread of no fragment.
use Rattle.std.specs.Prelude.{Bool, not, ◌&&◌, ℕ}
use Rattle.paper.specs.Numbers.{kind_spread}
use Rattle.paper_query.specs.Constructs.{Doc, is, row_of, name_of, has_fragment}

unfoldable pub spread_of_none : Doc → ℕ → Bool
spread_of_none d i = is kind_spread (row_of d i) && not (has_fragment d (name_of d i))
