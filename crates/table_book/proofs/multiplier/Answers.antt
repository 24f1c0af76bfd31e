-- One sum, cut down.
use mathlib.Core.Path.{ap}
use native.Mathlib.Omega.{arith}
use Rattle.table_book.specs.Book.{multiplier_of}
use Rattle.table_book.proofs.multiplier.Goals as goal

pub returns : goal.returns
returns c = (ap multiplier_of c.wide.ensures, omega arith)
