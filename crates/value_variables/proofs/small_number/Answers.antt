-- `value_variables::small_number` meets its contract.
use mathlib.Core.Path.{refl}
use borrow.Author.Tests.{le-leb, lt-leb}
use Rattle.value_variables.proofs.small_number.Goals as goal

pub returns-then-number-le-MOST_NUMBER : goal.returns-then-number-le-MOST_NUMBER
returns-then-number-le-MOST_NUMBER c = rw (le-leb _ _ c.if-number-le-MOST_NUMBER.true) refl

pub returns : goal.returns
returns c = rw (lt-leb _ _ c.if-number-le-MOST_NUMBER.false) refl
