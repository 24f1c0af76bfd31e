-- `vectors::read_some` meets its contract: what is read into the part stands at the start of the buffer.
use mathlib.Core.Path.{sym}
use Prim.Native.Nat.{ℕ}
use lib.Seq.{length-take-le}
use Rattle.vectors.proofs.PartLaws.{counts_whole}
use Rattle.vectors.proofs.read_some.Goals as goal

pub slice_bounds-read_full-end-2 : goal.slice_bounds-read_full-end-2
slice_bounds-read_full-end-2 c = sym (length-take-le {A = ℕ} c.args.n c.args.buf.now c.if-buf-n.false)

pub returns : goal.returns
returns c = counts_whole _ _ _ c.read_full.ensures
