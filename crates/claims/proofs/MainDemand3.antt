-- Around demand 3 of `Main`, over `gw_plan` and `gw_walk` together, in the manner of `Main`: each theorem is stated in full, and its proof is one name.
-- What the words mean, and is to be believed, stands in `crates/paper_plan/specs`, and in the specs that `Main` names.
-- Assumes nothing.
use mathlib.Core.Path.{◌≡◌}
use mathlib.Core.Bool.{Bool, true}
use mathlib.Core.List.{List, [], ◌∷◌, map}
use mathlib.Core.Logic.{◌⊎◌}
use Prim.Native.Nat.{ℕ, ◌≤◌, ◌<◌}
use lib.Dec.{eqb}
use lib.ListN.{length, get_or}
use Rattle.paper.specs.Numbers.{report_size}
use Rattle.paper.specs.Rows.{Row}
use Rattle.paper.specs.Calls.{filled}
use Rattle.paper_table.specs.Types.{table_of, is_object}
use Rattle.paper_query.specs.Constructs.{count}
use Rattle.paper_query.specs.Enclosing.{definition_at}
use Rattle.paper_query.specs.DocumentCalls.{read}
use Rattle.paper_query.specs.Opening.{AcceptedDocument, Opened, opens}
use Rattle.paper_plan.specs.Collecting.{Grouped, elem}
use Rattle.paper_plan.specs.Planning.{plan_of}
use Rattle.paper_plan.specs.PlanNumbers.{blocks_in, WellFormed}
use Rattle.paper_plan.specs.PlanCalls.{Planned}
use Rattle.paper_plan.specs.Selecting.{Name, set_of, by_numbers, Collects, pairs_of, BlockRows, block_in, plan_for}
use Rattle.paper_plan.specs.LentPlan.{is_one, pair_numbers}
use Rattle.paper_plan.specs.WalkNumbers.{most_pairs, most_walked, pairs_size, variables_size}
use Rattle.paper_plan.specs.WalkCalls.{WalkLent, Walked}
use Rattle.plan_theory.proofs.Demand3 as collection
use Rattle.claims.proofs.Demand3Laws as demand
use Rattle.claims.proofs.DepthLaws as depth

-- Every plan that `gw_plan` makes is well-formed.
pub plan_is_well_formed : {table document name plan report plan' report' : List ℕ} → Planned table document name plan report plan' report' 0 → WellFormed (table_of table) plan'
plan_is_well_formed = demand.plan_formed

-- It is the plan of the operation that the name means in a document that is accepted; its blocks are the operation and the fields with selections that it reaches.
pub plan_has_blocks : {table document name plan report plan' report' : List ℕ} → Planned table document name plan report plan' report' 0 →
    (rs : List Row) × (op : ℕ) × (rows : List ℕ) × Opened table document name (opens rs op) × BlockRows (read document rs) op rows × (blocks_in plan' ≡ length rows)
plan_has_blocks = demand.plan_opened

-- There is one such operation, and one such list of blocks.
pub plan_blocks_one : {table document name : List ℕ} {rs rs' : List Row} {op op' : ℕ} {rows rows' : List ℕ} → Opened table document name (opens rs op) → Opened table document name (opens rs' op') →
    BlockRows (read document rs) op rows → BlockRows (read document rs') op' rows' → (rs ≡ rs') × (op ≡ op') × (rows ≡ rows')
plan_blocks_one = demand.opened_blocks_one

-- Demand 3 by rows: of the operation or fields whose blocks are walked. (`Main` has it by blocks.)
pub demand_3_rows : {table document name plan report plan' report' : List ℕ} → Planned table document name plan report plan' report' 0 →
    (rs : List Row) (op : ℕ) (rows : List ℕ) → Opened table document name (opens rs op) → BlockRows (read document rs) op rows →
    (object : ℕ) (holders variables : List ℕ) → is_object (definition_at (table_of table) object) ≡ true → length holders ≤ most_walked →
    ((j : ℕ) → j < length holders → elem eqb (get_or holders j 0) rows ≡ true) →
    variables_size ≤ length variables → (pairs walked pairs' walked' : List ℕ) (a : ℕ) → WalkLent pairs walked → Walked table plan' object (map (block_in rows) holders) variables pairs walked pairs' walked' a →
    (g : Grouped Name) × Collects (table_of table) (read document rs) op (is_one variables) object holders g
    × ((h : Grouped Name) → Collects (table_of table) (read document rs) op (is_one variables) object holders h → g ≡ h)
    × (((length (pairs_of (read document rs) g) ≤ most_pairs) × (a ≡ 0) × (pairs' ≡ filled pairs_size (pair_numbers (pairs_of (read document rs) g)) pairs)
    × (walked' ≡ filled report_size (0 ∷ length (pairs_of (read document rs) g) ∷ []) walked))
    ⊎ ((most_pairs < length (pairs_of (read document rs) g)) × (a ≡ 15) × (pairs' ≡ filled pairs_size [] pairs) × (walked' ≡ filled report_size (15 ∷ []) walked)))
demand_3_rows = demand.by_rows

-- The draft's CollectFields on an accepted document: for every operation, object type, variable values and merged selection sets it gives a result, and one only.
pub collect_fields_some : (table document : List ℕ) (rs : List Row) → AcceptedDocument table document rs → (op : ℕ) (vars : ℕ → Bool) (object : ℕ) (holders : List ℕ) →
    (g : Grouped Name) × Collects (table_of table) (read document rs) op vars object holders g
collect_fields_some = collection.collection_some

pub collect_fields_one : (table document : List ℕ) (rs : List Row) → AcceptedDocument table document rs → (op : ℕ) (vars : ℕ → Bool) (object : ℕ) (holders : List ℕ) (g h : Grouped Name) →
    Collects (table_of table) (read document rs) op vars object holders g → Collects (table_of table) (read document rs) op vars object holders h → g ≡ h
collect_fields_one = collection.collection_one

-- A plan's steps do not depend on the bound that `plan_for` sets to how deep fragments and inline fragments stand in one another: any higher one gives the same plan.
pub plan_at_any_depth : (table document : List ℕ) (rs : List Row) → AcceptedDocument table document rs → (op : ℕ) (rows : List ℕ) (k : ℕ) → count (read document rs) < k →
    plan_of (by_numbers (table_of table) (read document rs) op) k (map (set_of (read document rs)) rows) ≡ plan_for (table_of table) (read document rs) op rows
plan_at_any_depth = depth.any_depth
