-- What the judging of a table answers and leaves.
-- Assumes nothing.
use Rattle.std.specs.Prelude.{◌≡◌, List, ℕ}
use Rattle.paper_table.specs.Judging.{judge}
use Rattle.paper_table.specs.declared.TableAnswer.{TableAnswer}
use Rattle.paper_table.specs.declared.TableAnswer.TheVariants.{Accepted}
use Rattle.table_types.specs.Booked.{Booked}

-- the answer to a table; where it is accepted, the book is the table's
pub record Judges (t book : List ℕ) (r : TableAnswer) : Type 0 where
  pub is : r ≡ judge t
  pub booked : r ≡ Accepted → Booked t book
