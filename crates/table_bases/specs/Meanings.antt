-- The test of an implemented name, by the rule's number.
-- Assumes nothing.
use Rattle.std.specs.Prelude.{Bool, cond, List, ℕ, eqb}
use Rattle.paper.specs.Tokens.{same}
use Rattle.paper_table.specs.TableNumbers.{rule_implemented_twice}
use Rattle.paper_table.specs.Types.{Table}
use Rattle.paper_table.specs.Lists.{earlier}
use Rattle.paper_table.specs.Rule9NotObjectOrInterface.{no_interface}

-- implemented name m, one of these, breaks the rule of this number: 10; of any other, it is no interface's
unfoldable pub implemented_fails : ℕ → Table → List (List ℕ) → ℕ → List ℕ → Bool
implemented_fails rule t ns m n = cond (eqb rule rule_implemented_twice) (earlier (same n) m ns) (no_interface t m n)
