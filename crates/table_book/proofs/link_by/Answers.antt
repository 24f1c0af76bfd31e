-- From the last entry to the first: those from j on are linked.
use mathlib.Core.Path.{sym, ap, ◌∙◌}
use Prim.Native.Nat.{ℕ}
use native.Mathlib.Omega.{arith}
use Rattle.table_book.specs.Book.{part, hash_of}
use Rattle.table_book.proofs.Keys.{held_kept}
use Rattle.table_book.proofs.Linking.{linking_start, linking_room, linking_cells, linking_within, linking_more, linking_end, seed_kept, seed_set, linked_on}
use Rattle.table_book.proofs.link_by.Goals as goal

pub bounds-book-1793 : goal.bounds-book-1793
bounds-book-1793 c = omega (arith, c.requires.cells)

pub clear_heads-requires : goal.clear_heads-requires
clear_heads-requires c = (seed_kept c.args.book.now c.args.seed).cells ∙ c.requires.cells

pub count_of-j-requires : goal.count_of-j-requires
count_of-j-requires c = c.clear_heads.ensures.kept.cells ∙ (seed_kept c.args.book.now c.args.seed).cells ∙ c.requires.cells

pub loop-j-init : goal.loop-j-init
loop-j-init c = linking_start _ _ _ (held_kept _ _ _ (seed_kept c.args.book.now c.args.seed) c.requires) c.clear_heads.ensures c.count_of-j.ensures

pub name_of-requires : goal.name_of-requires
name_of-requires c = (linking_cells _ _ _ c.loop-j.invariant c.loop-j-test.true ∙ c.loop-j.invariant.held.cells, linking_room _ _ _ c.loop-j.invariant c.loop-j-test.true)

pub size_of-requires : goal.size_of-requires
size_of-requires c = (linking_cells _ _ _ c.loop-j.invariant c.loop-j-test.true ∙ c.loop-j.invariant.held.cells, linking_room _ _ _ c.loop-j.invariant c.loop-j-test.true)

pub hash-h-requires : goal.hash-h-requires
hash-h-requires c = linking_within _ _ _ c.loop-j.invariant c.loop-j-test.true c.name_of.ensures c.size_of.ensures

pub is_full-crowded-requires : goal.is_full-crowded-requires
is_full-crowded-requires c = (linking_cells _ _ _ c.loop-j.invariant c.loop-j-test.true ∙ c.loop-j.invariant.held.cells, (held_kept _ _ _ c.loop-j.invariant.kept c.loop-j.invariant.held).most, c.hash-h.ensures.1)

pub put_first-requires : goal.put_first-requires
put_first-requires c = (linking_cells _ _ _ c.loop-j.invariant c.loop-j-test.true ∙ c.loop-j.invariant.held.cells, c.hash-h.ensures.1, linking_room _ _ _ c.loop-j.invariant c.loop-j-test.true)

pub loop-j-preserved : goal.loop-j-preserved
loop-j-preserved c = linking_more _ _ _ c.loop-j.invariant c.loop-j-test.true c.name_of.ensures c.size_of.ensures (c.hash-h.ensures.0 ∙ ap (λ (x : ℕ). hash_of x (part c.args.t.now c.name_of.result c.size_of.result)) (sym (c.clear_heads.ensures.seed_is ∙ seed_set c.args.book.now c.args.seed c.requires.cells))) c.hash-h.ensures.1 c.put_first.ensures

pub shape_of-book : goal.shape_of-book
shape_of-book c = c.loop-j.invariant.kept.cells ∙ c.clear_heads.ensures.kept.cells ∙ (seed_kept c.args.book.now c.args.seed).cells

pub returns : goal.returns
returns c = linked_on (seed_kept c.args.book.now c.args.seed) (linking_end _ _ _ _ c.clear_heads.ensures c.loop-j.invariant (omega (arith, c.loop-j-test.false)))
