-- The walk over the entry's content.
use mathlib.Core.Path.{ap, ◌∙◌}
use mathlib.Core.List.{List, head?}
use Prim.Native.Nat.{ℕ}
use native.Mathlib.Omega.{arith}
use Rattle.paper_table.specs.Types.{table_of}
use Rattle.table_places.specs.Placed.{placed}
use Rattle.table_walks.specs.Walks.{implemented_at}
use Rattle.table_types.proofs.Entries.{bounds_entered, implemented_entered}
use Rattle.table_rules_1_10_16.proofs.implemented_of.Goals as goal

pub start_of-requires : goal.start_of-requires
start_of-requires c = (c.requires.0.indexed.held.cells, omega (arith, c.requires.0.indexed.held.most, c.requires.1))

pub end_of-requires : goal.end_of-requires
end_of-requires c = (c.requires.0.indexed.held.cells, omega (arith, c.requires.0.indexed.held.most, c.requires.1))

pub implemented_place-requires : goal.implemented_place-requires
implemented_place-requires c = (c.requires.0, bounds_entered c.args.t.now c.args.book.now c.requires.0 c.args.i c.requires.1 _ _ c.start_of.ensures c.end_of.ensures)

pub returns : goal.returns
returns c = c.implemented_place.ensures ∙ ap (λ (ms : List (List ℕ)). placed (head? (implemented_at c.args.rule (table_of c.args.t.now) ms))) (implemented_entered c.args.t.now c.args.book.now c.requires.0 c.args.i c.requires.1 _ _ c.start_of.ensures c.end_of.ensures)
