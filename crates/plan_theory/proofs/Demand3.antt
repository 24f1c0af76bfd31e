-- Demand 3, on bytes: a table, a document and an operation's name that open an operation; the plan with its blocks; a walk.
use mathlib.Core.Path.{◌≡◌}
use mathlib.Core.Bool.{Bool}
use mathlib.Core.List.{List, map}
use Prim.Native.Nat.{ℕ}
use Rattle.paper.specs.Rows.{Row}
use Rattle.paper_table.specs.Types.{table_of}
use Rattle.paper_query.specs.DocumentCalls.{read}
use Rattle.paper_plan.specs.Applies.{applies}
use Rattle.paper_plan.specs.Collecting.{Grouped}
use Rattle.paper_plan.specs.Planning.{walk_answer}
use Rattle.paper_plan.specs.Selecting.{Name, Collects, pairs_of, block_in, plan_for}
use Rattle.paper_query.specs.Opening.{AcceptedDocument}
use Rattle.plan_theory.proofs.Document.{Among, walk_collects, collects_some}
use Rattle.plan_theory.proofs.Ones.{collects_one}
use Rattle.plan_theory.proofs.Accepted.{accepted_plannable}

module _ (table document : List ℕ) (rs : List Row) (a : AcceptedDocument table document rs) (op : ℕ) (vars : ℕ → Bool) (o : ℕ) where
  -- the draft's field collection gives one thing: groups, by response key
  pub collection_some : (holders : List ℕ) → (g : Grouped Name) × Collects (table_of table) (read document rs) op vars o holders g
  collection_some holders = collects_some (table_of table) (read document rs) op (accepted_plannable table document rs a) vars o holders

  pub collection_one : (holders : List ℕ) (g h : Grouped Name) → Collects (table_of table) (read document rs) op vars o holders g → Collects (table_of table) (read document rs) op vars o holders h → g ≡ h
  collection_one = collects_one (table_of table) (read document rs) op (accepted_plannable table document rs a) vars o

  -- and the walk of the plan over the holders' blocks answers its pairs; `rows` are the plan's blocks, op ∷ .., any list that has the holders
  pub walk_answers : (rows holders : List ℕ) → Among rows holders → (g : Grouped Name) → Collects (table_of table) (read document rs) op vars o holders g
      → walk_answer vars (λ k. applies (table_of table) k o) (plan_for (table_of table) (read document rs) op rows) (map (block_in rows) holders) ≡ pairs_of (read document rs) g
  walk_answers rows holders w = walk_collects (table_of table) (read document rs) op (accepted_plannable table document rs a) vars o rows holders w
