-- One store: the number with that bit.
use native.Mathlib.Omega.{arith}
use Prim.Native.Nat.{◌%◌}
use Rattle.table_possible.proofs.BitLaws.{marked, one_shifted}
use Rattle.table_possible.proofs.mark.Goals as goal

pub returns : goal.returns
returns c = let a = c.args in
    marked a.bits.now a.i a.j _ c.requires.0 c.requires.1 c.requires.2 (one_shifted (a.i % 32) (omega arith))
