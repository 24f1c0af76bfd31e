use mathlib.Core.Path.{sym, ap, ◌∙◌}
use Prim.Native.Nat.{ℕ}
use native.Mathlib.Omega.{arith}
use mathlib.Core.Bool.{◌&&◌}
use mathlib.Core.List.{[], ◌∷◌}
use lib.Dec.{leb}
use lib.Seq.{sets}
use Rattle.paper.proofs.Bools.{not_false, not_true}
use Rattle.paper.specs.Numbers.{kind_field, kind_inline}
use Rattle.paper_table.specs.Lists.{bytes}
use Rattle.paper_table.specs.Types.{table_of}
use Rattle.query_rows.specs.Rowed.{doc_of}
use Rattle.query_rows.proofs.RowsIn.{rows_count, rowed_sized}
use Rattle.paper_plan.specs.Selecting.{if_of, by_numbers, set_of}
use Rattle.plan_tests.proofs.RightLaws.{right_none, right_dropped, drops_coded, dropped_by, once_size, both_tests}
use Rattle.plan_tests.proofs.TableLaws.{small_coded}
use Rattle.plan_tests.proofs.FewLaws.{parent_few}
use mathlib.Core.Bool.{not}
use Rattle.plan_tests.proofs.fill_row.Goals as goal

pub kind_of-requires : goal.kind_of-requires
kind_of-requires c = rowed_sized c.requires.0.rowed

pub parent_of-requires : goal.parent_of-requires
parent_of-requires c = rowed_sized c.requires.0.rowed

pub put_head-requires : goal.put_head-requires
put_head-requires c = (c.requires.3, omega (arith, c.parent_of.ensures, parent_few c.args.s.now c.args.rows.now c.args.n c.args.i c.requires.0.rowed c.requires.1), omega arith, omega arith)

pub returns-then-not-is_selection : goal.returns-then-not-is_selection
returns-then-not-is_selection c = right_none (by_numbers (table_of c.args.t.now) (doc_of c.args.s.now c.args.rows.now c.args.n) c.args.o) (set_of (doc_of c.args.s.now c.args.rows.now c.args.n)) c.args.i _ _ c.args.row.now _ c.requires.3 (sym (c.is_selection.ensures ∙ ap (λ (k : ℕ). leb kind_field k && leb k kind_inline) c.kind_of.ensures) ∙ not_true _ (ap not c.if-not-is_selection.true)) (c.put_head.ensures ∙ ap (λ (x : ℕ). sets c.args.row.now 0 (0 ∷ x ∷ 0 ∷ 0 ∷ [])) c.parent_of.ensures)

pub condition-skip-requires : goal.condition-skip-requires
condition-skip-requires c = (c.requires.0.rowed, c.requires.0.family, c.requires.1, omega arith, c.requires.2)

pub condition-include-requires : goal.condition-include-requires
condition-include-requires c = (c.requires.0.rowed, c.requires.0.family, c.requires.1, omega arith, c.requires.2)

pub parent_of-requires-then-drops : goal.parent_of-requires-then-drops
parent_of-requires-then-drops c = rowed_sized c.requires.0.rowed

pub put_head-requires-then-drops : goal.put_head-requires-then-drops
put_head-requires-then-drops c = (c.requires.3, omega (arith, c.parent_of-then-drops.ensures, parent_few c.args.s.now c.args.rows.now c.args.n c.args.i c.requires.0.rowed c.requires.1), omega arith, omega arith)

pub returns-then-drops : goal.returns-then-drops
returns-then-drops c = right_dropped (by_numbers (table_of c.args.t.now) (doc_of c.args.s.now c.args.rows.now c.args.n) c.args.o) (set_of (doc_of c.args.s.now c.args.rows.now c.args.n)) c.args.i _ _ c.args.row.now _ c.requires.3 (sym (c.is_selection.ensures ∙ ap (λ (k : ℕ). leb kind_field k && leb k kind_inline) c.kind_of.ensures) ∙ not_false _ (ap not c.if-not-is_selection.false)) (sym (drops_coded (if_of (doc_of c.args.s.now c.args.rows.now c.args.n) c.args.o (bytes "skip") c.args.i) (if_of (doc_of c.args.s.now c.args.rows.now c.args.n) c.args.o (bytes "include") c.args.i)) ∙ sym (dropped_by _ _ _ _ c.condition-skip.ensures c.condition-include.ensures) ∙ sym c.drops.ensures ∙ c.if-drops.true) (c.put_head-then-drops.ensures ∙ ap (λ (x : ℕ). sets c.args.row.now 0 (3 ∷ x ∷ 0 ∷ 0 ∷ [])) c.parent_of-then-drops.ensures)

pub put_if-k-requires : goal.put_if-k-requires
put_if-k-requires c = (c.requires.3, omega arith, small_coded (doc_of c.args.s.now c.args.rows.now c.args.n) c.args.o (omega (arith, c.requires.0.rowed.few, rows_count c.args.rows.now c.args.n)) (bytes "skip") c.args.i _ c.condition-skip.ensures)

pub put_if-m-requires : goal.put_if-m-requires
put_if-m-requires c = let w = once_size (if_of (doc_of c.args.s.now c.args.rows.now c.args.n) c.args.o (bytes "skip") c.args.i) (if_of (doc_of c.args.s.now c.args.rows.now c.args.n) c.args.o (bytes "include") c.args.i) _ _ c.condition-skip.ensures c.condition-include.ensures c.args.row.now _ [] _ 0 c.requires.3 c.put_if-k.ensures in (w.0, omega (arith, w.1), small_coded (doc_of c.args.s.now c.args.rows.now c.args.n) c.args.o (omega (arith, c.requires.0.rowed.few, rows_count c.args.rows.now c.args.n)) (bytes "include") c.args.i _ c.condition-include.ensures)

pub fill_kept-requires : goal.fill_kept-requires
fill_kept-requires c = let w = (both_tests (if_of (doc_of c.args.s.now c.args.rows.now c.args.n) c.args.o (bytes "skip") c.args.i) (if_of (doc_of c.args.s.now c.args.rows.now c.args.n) c.args.o (bytes "include") c.args.i) _ _ c.condition-skip.ensures c.condition-include.ensures c.args.row.now _ _ _ _ c.requires.3 c.put_if-k.ensures c.put_if-m.ensures) in (c.requires.0, c.requires.1, sym (c.is_selection.ensures ∙ ap (λ (k : ℕ). leb kind_field k && leb k kind_inline) c.kind_of.ensures) ∙ not_false _ (ap not c.if-not-is_selection.false), w.1, w.0, sym (drops_coded (if_of (doc_of c.args.s.now c.args.rows.now c.args.n) c.args.o (bytes "skip") c.args.i) (if_of (doc_of c.args.s.now c.args.rows.now c.args.n) c.args.o (bytes "include") c.args.i)) ∙ sym (dropped_by _ _ _ _ c.condition-skip.ensures c.condition-include.ensures) ∙ sym c.drops.ensures ∙ c.if-drops.false)
