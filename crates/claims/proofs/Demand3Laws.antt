-- Demand 3 from what `gw_plan` leaves: where it answers 0 it left a plan of the operation that the name means.
use mathlib.Core.Path.{◌≡◌, refl, sym, subst}
use mathlib.Core.Bool.{true}
use mathlib.Core.List.{List, map}
use Prim.Native.Nat.{ℕ, ◌≤◌, ◌<◌}
use native.Mathlib.Omega.{arith}
use lib.ListN.{length, get_or}
use lib.Dec.{eqb}
use Rattle.paper.specs.Rows.{Row}
use Rattle.paper_table.specs.Types.{table_of, is_object}
use Rattle.paper_query.specs.Enclosing.{definition_at}
use Rattle.paper_query.specs.DocumentCalls.{read}
use Rattle.paper_query.specs.Opening.{Opened, opens}
use Rattle.paper_query.proofs.OpeningOne.{opened_one}
use Rattle.paper_plan.specs.Collecting.{elem}
use Rattle.paper_plan.specs.PlanNumbers.{blocks_in, WellFormed}
use Rattle.paper_plan.specs.PlanCalls.{Planned, short_report, short_plan, long_document, long_table, refuses_opening, too_many_steps, plans}
use Rattle.paper_plan.specs.Selecting.{BlockRows, block_in}
use Rattle.paper_plan.specs.WalkNumbers.{most_walked, variables_size}
use Rattle.paper_plan.specs.WalkCalls.{WalkLent, Walked}
use Rattle.plan_theory.proofs.Ones.{blocks_one}
use Rattle.plan_wellformed.proofs.BothCalls.{Made, Collected, made_blocks, planned_rows, planned_blocks, planned_formed}
use Rattle.claims.proofs.CoercionsStops.{opening_stops}
use Rattle.claims.proofs.WalksLaws.{among}

planned_made : {table document name plan report plan' report' : List ℕ} {a : ℕ} → Planned table document name plan report plan' report' a → a ≡ 0 → Made table document name plan plan'
planned_made (short_report h e f) z = absurd (let y : ⊥ = omega arith in y)
planned_made (short_plan h w e f) z = absurd (let y : ⊥ = omega arith in y)
planned_made (long_document l w e f) z = absurd (let y : ⊥ = omega arith in y)
planned_made (long_table l v w e f) z = absurd (let y : ⊥ = omega arith in y)
planned_made (refuses_opening l s o e f) z = absurd (let y : ⊥ = omega (arith, (opening_stops o).0) in y)
planned_made (too_many_steps l s p m e f) z = absurd (let y : ⊥ = omega arith in y)
planned_made (plans {p} l s i m e f) z = record { made = p; is = i; few = m; short = s; written = e }

module _ {table document name plan report plan' report' : List ℕ} (c : Planned table document name plan report plan' report' 0) where
  m : Made table document name plan plan'
  m = planned_made c refl

  pub plan_formed : WellFormed (table_of table) plan'
  plan_formed = planned_formed table document name plan plan' m

  -- the operation and its blocks
  pub plan_opened : (rs : List Row) × (op : ℕ) × (rows : List ℕ) × Opened table document name (opens rs op) × BlockRows (read document rs) op rows × (blocks_in plan' ≡ length rows)
  plan_opened = let i = m.is in (i.rows, i.operation, i.blocks, i.opened, i.their, made_blocks table document name plan plan' m i.rows i.operation i.blocks i.opened i.their)

  module _ (rs : List Row) (op : ℕ) (rows : List ℕ) (o : Opened table document name (opens rs op)) (w : BlockRows (read document rs) op rows) (object : ℕ) where
    pub by_blocks : (blocks variables : List ℕ) → is_object (definition_at (table_of table) object) ≡ true → length blocks ≤ most_walked → ((j : ℕ) → j < length blocks → get_or blocks j 0 < blocks_in plan') →
        variables_size ≤ length variables → (pairs walked pairs' walked' : List ℕ) (a : ℕ) → WalkLent pairs walked → Walked table plan' object blocks variables pairs walked pairs' walked' a →
        Collected (table_of table) (read document rs) op object (map (λ b. get_or rows b 0) blocks) variables pairs walked pairs' walked' a
    by_blocks blocks variables i f k v pairs walked pairs' walked' a l = planned_blocks table document name plan plan' m rs op rows o w object variables i v pairs walked pairs' walked' a l blocks f k

    pub by_rows : (holders variables : List ℕ) → is_object (definition_at (table_of table) object) ≡ true → length holders ≤ most_walked → ((j : ℕ) → j < length holders → elem eqb (get_or holders j 0) rows ≡ true) →
        variables_size ≤ length variables → (pairs walked pairs' walked' : List ℕ) (a : ℕ) → WalkLent pairs walked → Walked table plan' object (map (block_in rows) holders) variables pairs walked pairs' walked' a →
        Collected (table_of table) (read document rs) op object holders variables pairs walked pairs' walked' a
    by_rows holders variables i f k v pairs walked pairs' walked' a l =
        planned_rows table document name plan plan' m rs op rows o w object variables i v pairs walked pairs' walked' a l holders (among rows holders k) f

-- there is one operation of a name, and it has one list of blocks
opens_inj : {rs rs' : List Row} {op op' : ℕ} → opens rs op ≡ opens rs' op' → (rs ≡ rs') × (op ≡ op')
opens_inj e = (cc, cc)

pub opened_blocks_one : {table document name : List ℕ} {rs rs' : List Row} {op op' : ℕ} {rows rows' : List ℕ} → Opened table document name (opens rs op) → Opened table document name (opens rs' op') →
    BlockRows (read document rs) op rows → BlockRows (read document rs') op' rows' → (rs ≡ rs') × (op ≡ op') × (rows ≡ rows')
opened_blocks_one {document = document} {rs = rs} {rs' = rs'} {op = op} {rows = rows} {rows' = rows'} o o' w w' =
    let e = opens_inj (opened_one o o') in
    let v : BlockRows (read document rs) op rows' =
    subst (λ (x : List Row). BlockRows (read document x) op rows') (sym e.0) (subst (λ (x : ℕ). BlockRows (read document rs') x rows') (sym e.1) w') in
    (e.0, e.1, blocks_one (read document rs) op rows rows' w v)
