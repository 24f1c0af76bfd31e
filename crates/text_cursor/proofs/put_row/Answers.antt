-- `text_cursor::put_row` meets its contract.
use native.Mathlib.Omega.{arith}
use native.Mathlib.Numerals.{towards_suc}
use lib.ListN.{length-set}
use Rattle.text_cursor.proofs.put_row.Goals as goal

pub bounds-rows-i-2 : goal.bounds-rows-i-2
bounds-rows-i-2 c = simp length-set (omega arith)

pub bounds-rows-i-3 : goal.bounds-rows-i-3
bounds-rows-i-3 c = simp length-set (omega arith)

pub bounds-rows-i-4 : goal.bounds-rows-i-4
bounds-rows-i-4 c = simp length-set (omega arith)

pub bounds-rows-i-5 : goal.bounds-rows-i-5
bounds-rows-i-5 c = simp length-set (omega arith)

pub bounds-rows-i-6 : goal.bounds-rows-i-6
bounds-rows-i-6 c = simp length-set (omega arith)

pub bounds-rows-i-7 : goal.bounds-rows-i-7
bounds-rows-i-7 c = simp length-set (omega arith)

pub returns : goal.returns
returns c = simp towards_suc
