-- `value_variables::keep` meets its contract: seven stores.
use native.Mathlib.Omega.{arith}
use native.Mathlib.Numerals.{towards_suc}
use lib.ListN.{length-set}
use Rattle.value_variables.proofs.keep.Goals as goal

pub bounds-held-from-2 : goal.bounds-held-from-2
bounds-held-from-2 c = simp length-set (omega arith)

pub bounds-held-from-3 : goal.bounds-held-from-3
bounds-held-from-3 c = simp length-set (omega arith)

pub bounds-held-from-4 : goal.bounds-held-from-4
bounds-held-from-4 c = simp length-set (omega arith)

pub bounds-held-from-5 : goal.bounds-held-from-5
bounds-held-from-5 c = simp length-set (omega arith)

pub bounds-held-from-6 : goal.bounds-held-from-6
bounds-held-from-6 c = simp length-set (omega arith)

pub bounds-held-from-7 : goal.bounds-held-from-7
bounds-held-from-7 c = simp length-set (omega arith)

pub returns : goal.returns
returns c = rw c.small_number-number.ensures (simp towards_suc)
