-- The numbers that a plan leaves in its buffer are well-formed, and a walk of them leaves what the draft's field collection gives.
use mathlib.Core.Path.{◌≡◌, refl, sym, ap, ◌∙◌, subst}
use mathlib.Core.Bool.{true}
use mathlib.Core.Logic.{◌⊎◌}
use mathlib.Core.List.{List, [], ◌∷◌, ◌++◌, map, append_assoc}
use Prim.Native.Nat.{ℕ, suc, ◌-◌, ◌≤◌, ◌<◌}
use native.Mathlib.Omega.{arith}
use lib.ListN.{length, get_or, drop, replicate, length-append, length-replicate, length-map}
use Rattle.paper.specs.Numbers.{kind_operation}
use Rattle.paper.specs.Rows.{Row}
use Rattle.paper.specs.Calls.{filled}
use Rattle.paper_table.specs.TableNumbers.{most_table}
use Rattle.paper_table.specs.Types.{Table, table_of, is_object}
use Rattle.paper_query.specs.Constructs.{Doc, row_of, is}
use Rattle.paper_query.specs.Enclosing.{definition_at}
use Rattle.paper_query.specs.DocumentCalls.{read, Short}
use Rattle.paper_query.specs.Opening.{AcceptedDocument, Opened, opens, opened}
use Rattle.paper_plan.specs.Collecting.{Grouped}
use Rattle.paper_plan.specs.Planning.{Plan}
use Rattle.paper_plan.specs.PlanNumbers.{plan_size, most_steps, plan_numbers, blocks_in, WellFormed}
use Rattle.paper_plan.specs.PlanCalls.{PlanIs}
use Rattle.paper_plan.specs.Selecting.{Name, Collects, pairs_of, BlockRows, block_in, plan_for}
use Rattle.paper_plan.specs.LentPlan.{is_one}
use Rattle.paper_plan.specs.WalkNumbers.{most_walked, variables_size}
use Rattle.paper_plan.specs.WalkCalls.{WalkLent, Walked}
use Rattle.plan_theory.proofs.Document.{Among}
use Rattle.plan_theory.proofs.Accepted.{accepted_plannable}
use Rattle.plan_theory.proofs.Demand3.{collection_some, collection_one}
use Rattle.plan_theory.proofs.PlanCallsOne.{plan_one}
use Rattle.plan_answer.proofs.PlanLaws.{meant_operation}
use Rattle.plan_walk_answer.proofs.CollectsLaws.{Leaves, Refuses, walked_collects}
use Rattle.query_conditions.proofs.SaneLaws.{accepted_sane}
use Rattle.plan_wellformed.proofs.BlockLists.{elem_at, blocks_back}
use Rattle.plan_wellformed.proofs.PlanFormed.{blocks_count, plan_formed}

-- the draft's field collection of the holders' selection sets gives one thing, and the walk's call leaves its pairs, or refuses them as too many
abbrev pub Collected : Table → Doc → ℕ → ℕ → List ℕ → List ℕ → List ℕ → List ℕ → List ℕ → List ℕ → ℕ → Type 0
Collected t d op object holders variables pairs report pairs' report' n =
    (g : Grouped Name) × Collects t d op (is_one variables) object holders g × ((h : Grouped Name) → Collects t d op (is_one variables) object holders h → g ≡ h)
    × (Leaves (pairs_of d g) pairs report pairs' report' n ⊎ Refuses (pairs_of d g) pairs report pairs' report' n)

-- what opens is accepted, and its operation is one
opened_document : {table document name : List ℕ} {rs : List Row} {op : ℕ} → Opened table document name (opens rs op) → AcceptedDocument table document rs
opened_document (opened a e) = a

opened_operation : {table document name : List ℕ} {rs : List Row} {op : ℕ} → Opened table document name (opens rs op) → is kind_operation (row_of (read document rs) op) ≡ true
opened_operation {document = document} {name = name} {rs = rs} {op = op} (opened a e) = meant_operation (read document rs) name op e

rows_among : (rows blocks : List ℕ) → ((j : ℕ) → j < length blocks → get_or blocks j 0 < length rows) → Among rows (map (λ b. get_or rows b 0) blocks)
rows_among rows [] f = tt
rows_among rows (b ∷ bs) f = (elem_at rows b (f 0 (omega arith)), rows_among rows bs (λ j l. f (suc j) (omega arith)))

-- an operation and its blocks, as opened from the inputs
module _ (table document name plan : List ℕ) (rs : List Row) (op : ℕ) (rows : List ℕ) (o : Opened table document name (opens rs op)) (w : BlockRows (read document rs) op rows) where
  abbrev doc : Doc
  doc = read document rs

  abbrev the : Plan
  the = plan_for (table_of table) doc op rows

  abbrev zeros : List ℕ
  zeros = replicate (plan_size - length (plan_numbers the)) 0

  -- the buffer, with the plan's numbers in front
  more_are : filled plan_size (plan_numbers the) plan ≡ plan_numbers the ++ (zeros ++ drop plan_size plan)
  more_are = append_assoc (plan_numbers the) zeros (drop plan_size plan)

  blocks_in_is : blocks_in (filled plan_size (plan_numbers the) plan) ≡ length rows
  blocks_in_is = blocks_count (table_of table) doc op (accepted_plannable table document rs (opened_document o)) (accepted_sane table document rs (opened_document o) op (opened_operation o)) (opened_operation o) rows w []

  module _ (few : length the.steps ≤ most_steps) where
    formed : WellFormed (table_of table) (plan_numbers the ++ (zeros ++ drop plan_size plan))
    formed =
        plan_formed (table_of table) doc op (accepted_plannable table document rs (opened_document o)) (accepted_sane table document rs (opened_document o) op (opened_operation o)) (opened_operation o) rows w (zeros ++ drop plan_size plan) few
        (omega (arith, length-append (plan_numbers the) (zeros ++ drop plan_size plan), length-append zeros (drop plan_size plan), length-replicate {A = ℕ} (plan_size - length (plan_numbers the)) 0))

    module _ (short : length table ≤ most_table) (object : ℕ) (variables : List ℕ) (is-object : is_object (definition_at (table_of table) object) ≡ true) (long : variables_size ≤ length variables)
        (pairs report pairs' report' : List ℕ) (n : ℕ) (lent : WalkLent pairs report) where
      made_collects : (holders : List ℕ) → Among rows holders → length holders ≤ most_walked → Walked table (filled plan_size (plan_numbers the) plan) object (map (block_in rows) holders) variables pairs report pairs' report' n →
          Collected (table_of table) doc op object holders variables pairs report pairs' report' n
      made_collects holders a f c =
          let x = opened_document o in
          let g = collection_some table document rs x op (is_one variables) object holders in (
            g.0,
            g.1,
            λ h q. collection_one table document rs x op (is_one variables) object holders g.0 h g.1 q,
            walked_collects table document rs x op rows (zeros ++ drop plan_size plan) object holders variables a formed is-object f long g.0 g.1 pairs report pairs' report' n lent short
                (subst (λ (l : List ℕ). Walked table l object (map (block_in rows) holders) variables pairs report pairs' report' n) more_are c),
          )

-- what a call leaves that makes a plan
pub record Made (table document name plan plan' : List ℕ) : Type 0 where
  pub made : Plan
  pub is : PlanIs table document name made
  pub few : length made.steps ≤ most_steps
  pub short : Short table document
  pub written : plan' ≡ filled plan_size (plan_numbers made) plan

module _ (table document name plan plan' : List ℕ) (m : Made table document name plan plan') where
  module _ (rs : List Row) (op : ℕ) (rows : List ℕ) (o : Opened table document name (opens rs op)) (w : BlockRows (read document rs) op rows) where
    abbrev plan_of : Plan
    plan_of = plan_for (table_of table) (read document rs) op rows

    -- there is one plan
    same : m.made ≡ plan_of
    same = plan_one m.is (record { rows = rs; operation = op; blocks = rows; opened = o; their = w; is = refl })

    left : plan' ≡ filled plan_size (plan_numbers plan_of) plan
    left = m.written ∙ ap (λ (p : Plan). filled plan_size (plan_numbers p) plan) same

    few_steps : length plan_of.steps ≤ most_steps
    few_steps = omega (arith, m.few, ap (λ (p : Plan). length p.steps) same)

    pub made_blocks : blocks_in plan' ≡ length rows
    made_blocks = ap blocks_in left ∙ blocks_in_is table document name plan rs op rows o w

    made_formed : WellFormed (table_of table) plan'
    made_formed = subst (WellFormed (table_of table)) (sym (left ∙ more_are table document name plan rs op rows o w)) (formed table document name plan rs op rows o w few_steps)

    module _ (object : ℕ) (variables : List ℕ) (is-object : is_object (definition_at (table_of table) object) ≡ true) (long : variables_size ≤ length variables)
        (pairs report pairs' report' : List ℕ) (n : ℕ) (lent : WalkLent pairs report) where
      -- by the rows of fields, or the operation's, that have blocks
      pub planned_rows : (holders : List ℕ) → Among rows holders → length holders ≤ most_walked → Walked table plan' object (map (block_in rows) holders) variables pairs report pairs' report' n →
          Collected (table_of table) (read document rs) op object holders variables pairs report pairs' report' n
      planned_rows holders a f c =
          made_collects table document name plan rs op rows o w few_steps m.short.1 object variables is-object long pairs report pairs' report' n lent holders a f
          (subst (λ (l : List ℕ). Walked table l object (map (block_in rows) holders) variables pairs report pairs' report' n) left c)

      -- by the blocks' numbers
      pub planned_blocks : (blocks : List ℕ) → length blocks ≤ most_walked → ((j : ℕ) → j < length blocks → get_or blocks j 0 < blocks_in plan') → Walked table plan' object blocks variables pairs report pairs' report' n →
          Collected (table_of table) (read document rs) op object (map (λ b. get_or rows b 0) blocks) variables pairs report pairs' report' n
      planned_blocks blocks f k c =
          let known : (j : ℕ) → j < length blocks → get_or blocks j 0 < length rows = λ j l. omega (arith, k j l, made_blocks) in
          planned_rows (map (λ b. get_or rows b 0) blocks) (rows_among rows blocks known) (omega (arith, length-map blocks (λ b. get_or rows b 0)))
          (subst (λ (l : List ℕ). Walked table plan' object l variables pairs report pairs' report' n) (sym (blocks_back (read document rs) op (opened_operation o) rows w blocks known)) c)

  pub planned_formed : WellFormed (table_of table) plan'
  planned_formed = made_formed m.is.rows m.is.operation m.is.blocks m.is.opened m.is.their
