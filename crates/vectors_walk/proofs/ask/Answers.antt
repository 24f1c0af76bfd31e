-- `vectors_walk::ask` is safe: the blocks that are lent on are there.
use mathlib.Core.Path.{sym}
use Prim.Native.Nat.{ℕ}
use lib.Seq.{length-take-le}
use borrow.Author.Rules.{rules}
use Rattle.vectors_walk.proofs.ask.Goals as goal

pub slice_bounds-call-end-2 : goal.slice_bounds-call-end-2
slice_bounds-call-end-2 c = sym (length-take-le {A = ℕ} c.count-b.result c.fill_blocks.new.blocks c.if-blocks-b.false)
