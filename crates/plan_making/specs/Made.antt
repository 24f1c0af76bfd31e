-- A plan that is made, or that has too many steps; what is asked of its document, and what is made ready for it.
-- Assumes nothing.
use Rattle.std.specs.Prelude.{◌≡◌, true, List, ◌++◌, ◌⊎◌, ℕ, suc, ◌*◌, ◌-◌, ◌≤◌, ◌<◌, length, replicate}
use Rattle.paper.specs.Numbers.{kind_operation}
use Rattle.paper_table.specs.Types.{Table}
use Rattle.paper_query.specs.Constructs.{Doc, row_of, is}
use Rattle.table_types.specs.Booked.{Booked}
use Rattle.query_rows.specs.Rowed.{rows_in, doc_of, Rowed, room_of}
use Rattle.query_links.specs.Links.{Family}
use Rattle.paper_plan.specs.Selecting.{BlockRows, plan_for}
use Rattle.paper_plan.specs.PlanNumbers.{plan_size, most_steps, plan_numbers}
use Rattle.plan_theory.proofs.Plannable.{Plannable}
use Rattle.plan_blocks.specs.Blocks.{BlocksTo}
use Rattle.plan_tests.specs.Right.{TableTo}

-- the plan's numbers, then zeros; or it has more steps than there may be
pub record PlanFits (t : Table) (d : Doc) (o : ℕ) (blocks p : List ℕ) (r : ℕ) : Type 0 where
  pub end : r ≡ length (plan_for t d o blocks).steps
  pub top : r ≤ most_steps
  pub written : p ≡ plan_numbers (plan_for t d o blocks) ++ replicate (plan_size - length (plan_numbers (plan_for t d o blocks))) 0

pub record PlanOver (t : Table) (d : Doc) (o : ℕ) (blocks : List ℕ) (r : ℕ) : Type 0 where
  pub told : r ≡ suc most_steps
  pub many : most_steps < length (plan_for t d o blocks).steps

pub record PlanMade (t : Table) (d : Doc) (o : ℕ) (p : List ℕ) (r : ℕ) : Type 0 where
  pub blocks : List ℕ
  pub their : BlockRows d o blocks
  pub made : PlanFits t d o blocks p r ⊎ PlanOver t d o blocks r

-- a document that can be planned, and its operation's row
pub record Asked (t book s rows : List ℕ) (n o : ℕ) : Type 0 where
  pub booked : Booked t book
  pub rowed : Rowed s rows n
  pub plannable : Plannable (doc_of s rows n)
  pub operation : is kind_operation (row_of (doc_of s rows n) o) ≡ true

-- room for one number a row
abbrev pub Room : ℕ → List ℕ → Type 0
Room n l = length l ≡ room_of n

-- the links, the table and the blocks' rows
pub record Prepared (t s rows : List ℕ) (n o : ℕ) (first next cells out : List ℕ) (m : ℕ) : Type 0 where
  pub family : Family (rows_in rows n) first next
  pub long : 12 * n ≤ length cells
  pub table : TableTo t s rows n o cells n
  pub outs : n ≤ length out
  pub blocks : BlocksTo (doc_of s rows n) o out m n
