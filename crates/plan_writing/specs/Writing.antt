-- The plan's numbers as the planner writes them: the blocks of some rows, one after the other, by a table of the document's rows.
-- Assumes nothing.
use Rattle.std.specs.Prelude.{◌≡◌, List, [], ◌∷◌, ◌++◌, ◌⊎◌, ℕ, suc, ◌+◌, ◌*◌, ◌-◌, ◌≤◌, ◌<◌, length, get_or, drop, replicate}
use Rattle.std.proofs.lemmas.List.Edits.{sets}
use Rattle.paper.specs.Numbers.{most_rows}
use Rattle.paper_plan.specs.PlanNumbers.{plan_size, most_steps, most_blocks}
use Rattle.plan_steps.specs.Table.{Raw, flat_raw, arg, expand_of, Chained}
use Rattle.plan_steps.specs.Table.{count as testCount}

-- the steps of the blocks of the rows hs, from step `at` on; and where each begins. No selection stands deeper than there are rows.
module _ (t : List ℕ) (n : ℕ) where
  unfoldable pub raw_program : ℕ → List ℕ → List Raw
  raw_program at [] = []
  raw_program at (h ∷ hs) = let s = expand_of t n (n + 1) at h in s ++ raw_program (at + length s) hs

  unfoldable pub raw_firsts : ℕ → List ℕ → List ℕ
  raw_firsts at [] = []
  raw_firsts at (h ∷ hs) = let s = expand_of t n (n + 1) at h in at ∷ raw_firsts (at + length s) hs

-- what is asked of the table and the chains of its rows
pub record Tables (t : List ℕ) (n : ℕ) (first next : List ℕ) : Type 0 where
  pub table : 12 * n ≤ length t
  pub rows : n ≤ most_rows
  pub few : (r : ℕ) → r < n → testCount t r ≤ 4
  pub held : (r : ℕ) → r < n → arg t r ≤ most_rows
  pub chained : Chained t n first next

-- what is asked of the blocks' rows: o, then the first m of a list
pub record Holders (o : ℕ) (out : List ℕ) (m : ℕ) : Type 0 where
  pub within : m ≤ length out
  pub few : m < most_blocks
  pub operation : o ≤ most_rows
  pub held : (b : ℕ) → b < m → get_or out b 0 ≤ most_rows

-- counts of blocks and steps, the blocks' first steps, the steps, each with zeros up to its size
abbrev pub plan_cells : ℕ → ℕ → List ℕ → List ℕ → List ℕ
plan_cells blocks steps firsts cells =
    blocks ∷ steps ∷ ((firsts ++ replicate (most_blocks - length firsts) 0) ++ (cells ++ replicate (3 * most_steps - length cells) 0))

-- the plan of the blocks hs is written; or it has more steps than there may be
pub record Fits (t : List ℕ) (n : ℕ) (hs p : List ℕ) (r : ℕ) : Type 0 where
  pub end : r ≡ length (raw_program t n 0 hs)
  pub top : r ≤ most_steps
  pub written : p ≡ plan_cells (length hs) r (raw_firsts t n 0 hs) (flat_raw (raw_program t n 0 hs))

pub record Over (t : List ℕ) (n : ℕ) (hs : List ℕ) (r : ℕ) : Type 0 where
  pub told : r ≡ suc most_steps
  pub many : most_steps < length (raw_program t n 0 hs)

abbrev pub Writes : List ℕ → ℕ → List ℕ → List ℕ → ℕ → Type 0
Writes t n hs p r = Fits t n hs p r ⊎ Over t n hs r

-- before block b: the blocks before it are written into a buffer of zeros
pub record Going (t : List ℕ) (n : ℕ) (hs p : List ℕ) (at b : ℕ) : Type 0 where
  pub most : b ≤ length hs
  pub top : at ≤ most_steps
  pub firsts : List ℕ
  pub raws : List Raw
  pub reached : at ≡ length raws
  pub count : length firsts ≡ b
  pub size : length p ≡ plan_size
  pub cells : p ≡ sets (sets (replicate plan_size 0) 2 firsts) 2050 (flat_raw raws)
  pub steps_rest : raw_program t n 0 hs ≡ raws ++ raw_program t n at (drop b hs)
  pub firsts_rest : raw_firsts t n 0 hs ≡ firsts ++ raw_firsts t n at (drop b hs)

-- all blocks, or too many steps
abbrev pub Blocks : List ℕ → ℕ → List ℕ → List ℕ → ℕ → Type 0
Blocks t n hs p r = Going t n hs p r (length hs) ⊎ Over t n hs r
