-- From what is made ready to what the writing asks, and from what is written to the plan.
use mathlib.Core.Path.{◌≡◌, refl, sym, ap, ◌∙◌}
use mathlib.Core.Bool.{true}
use mathlib.Core.List.{List, ◌∷◌, ◌++◌, map}
use mathlib.Core.Logic.{◌⊎◌, inl, inr}
use Prim.Native.Nat.{ℕ, suc, ◌+◌, ◌*◌, ◌-◌, ◌≤◌, ◌<◌}
use native.Mathlib.Omega.{arith}
use lib.ListN.{length, get_or, take, replicate}
use lib.Seq.{length-take-le}
use Rattle.paper.specs.Numbers.{kind_operation, kind_spread}
use Rattle.paper_table.specs.Types.{table_of}
use Rattle.paper_query.specs.Constructs.{Doc, is, name_of, fragment_named}
use Rattle.query_rows.specs.Rowed.{row_in, doc_of}
use Rattle.query_rows.proofs.RowsIn.{rows_count}
use Rattle.query_spreads.specs.Owners.{Defines}
use Rattle.paper_plan.specs.Planning.{Plan, plan_of}
use Rattle.paper_plan.specs.Selecting.{by_numbers, set_of, plan_for}
use Rattle.paper_plan.specs.PlanNumbers.{plan_size, most_blocks, plan_numbers}
use Rattle.plan_theory.proofs.Plannable.{in_range, fragment_is}
use Rattle.plan_blocks.proofs.BlockLaws.{blocks_rows}
use Rattle.plan_steps.proofs.Chains.{chained_family}
use Rattle.plan_tests.proofs.TableLaws.{table_above, table_few, table_held, table_kinds, table_set_is, table_tabled}
use Rattle.plan_writing.specs.Writing.{raw_program, Tables, Holders, Writes}
use Rattle.plan_writing.proofs.Numbers.{plan_steps_count, plan_cells_is}
use Rattle.plan_making.specs.Made.{PlanFits, PlanOver, PlanMade, Asked, Prepared}
use Rattle.plan_making.proofs.BlockCounts.{blocks_few, block_low}

module _ (t book s rows : List ℕ) (n o : ℕ) (a : Asked t book s rows n o) where
  abbrev d : Doc
  d = doc_of s rows n

  pub operation_low : o < n
  operation_low = let l = in_range d kind_operation o refl a.operation in omega (arith, l, rows_count rows n)

  pub operation_defines : Defines d o
  operation_defines = rw a.operation tt

  pub spreads_known : (i : ℕ) → is kind_spread (row_in rows n i) ≡ true → fragment_named d (name_of d i) < n
  spreads_known i e = let l = (fragment_is d (name_of d i) (a.plannable.spreads i e)).0 in omega (arith, l, rows_count rows n)

  module _ (first next cells out : List ℕ) (m : ℕ) (w : Prepared t s rows n o first next cells out m) where
    pub prepared_tables : Tables cells n first next
    prepared_tables = record {
      table = w.long;
      rows = a.rowed.few;
      few = table_few t s rows n o cells w.table;
      held = table_held t s rows n o cells w.table;
      chained = chained_family cells rows first next n a.rowed.few w.family (table_above t s rows n o cells w.table);
    }

    pub prepared_holders : Holders o out m
    prepared_holders =
        let few = blocks_few d o a.operation out m n (rows_count rows n) w.outs w.blocks in
        record {
          within = omega (arith, w.outs, few);
          few = omega (arith, few, a.rowed.few);
          operation = omega (arith, operation_low, a.rowed.few);
          held = λ b h. let l = block_low d o a.operation out m n (rows_count rows n) w.outs w.blocks b h in omega (arith, l, a.rowed.few);
        }

    kinds : (r j : ℕ) → r < n → j < get_or cells (12 * r + 3) 0 → (1 ≤ get_or cells (12 * r + 4 + 2 * j) 0) × (get_or cells (12 * r + 4 + 2 * j) 0 ≤ 4)
    kinds r j l h = table_kinds t s rows n o cells w.table r j l h

    made_is : plan_of (by_numbers (table_of t) d o) (suc n) (map (set_of d) (o ∷ take m out)) ≡ plan_for (table_of t) d o (o ∷ take m out)
    made_is = ap (λ (k : ℕ). plan_of (by_numbers (table_of t) d o) (suc k) (map (set_of d) (o ∷ take m out))) (sym (rows_count rows n))

    few_blocks : length (o ∷ take m out) ≤ most_blocks
    few_blocks = let q = prepared_holders in omega (arith, q.few, length-take-le m out q.within)

    steps_count : length (raw_program cells n 0 (o ∷ take m out)) ≡ length (plan_for (table_of t) d o (o ∷ take m out)).steps
    steps_count =
        plan_steps_count cells n kinds (by_numbers (table_of t) d o) (table_tabled t s rows n o cells w.table) (set_of d) (table_set_is t s rows n o cells w.table) (o ∷ take m out)
        ∙ ap (λ (p : Plan). length p.steps) made_is

    pub prepared_made : (p : List ℕ) (r : ℕ) → Writes cells n (o ∷ take m out) p r → PlanMade (table_of t) d o p r
    prepared_made p r q = record { blocks = o ∷ take m out; their = blocks_rows d o out m n (rows_count rows n) w.blocks; made = go q }
      where
        go : Writes cells n (o ∷ take m out) p r → PlanFits (table_of t) d o (o ∷ take m out) p r ⊎ PlanOver (table_of t) d o (o ∷ take m out) r
        go (inl f) = inl (record {
          end = f.end ∙ steps_count;
          top = f.top;
          written =
              f.written
              ∙ plan_cells_is cells n kinds (by_numbers (table_of t) d o) (table_tabled t s rows n o cells w.table) (set_of d) (table_set_is t s rows n o cells w.table) (o ∷ take m out) r f.end few_blocks
              ∙ ap (λ (p : Plan). plan_numbers p ++ replicate (plan_size - length (plan_numbers p)) 0) made_is;
        })
        go (inr f) = inr (record { told = f.told; many = let e = steps_count in omega (arith, f.many, e) })
