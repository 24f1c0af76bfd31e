-- 10. Interface implemented twice.
use Rattle.std.specs.Prelude.{Bool, List, ℕ}
use Rattle.paper.specs.Tokens.{same}
use Rattle.paper_table.specs.Lists.{earlier}
use Rattle.paper_table.specs.Types.{Definition}
use Rattle.paper_table.specs.Places.{Rule, implemented_that}

abbrev pub implemented_before : Definition → ℕ → List ℕ → Bool
implemented_before d m n = earlier (same n) m d.implements

unfoldable pub implemented_twice : Rule
implemented_twice t i d = implemented_that (implemented_before d) d
