-- The names of the variables, one after the other.
use mathlib.Core.Path.{◌≡◌, sym, ap, ◌∙◌}
use Prim.Native.Nat.{ℕ}
use native.Mathlib.Omega.{arith}
use Rattle.table_book.specs.Book.{part}
use Rattle.value_held.specs.Holding.{held_from}
use Rattle.value_held.proofs.HoldingLaws.{held_here, held_next, held_end}
use Rattle.value_held.proofs.find_held.Goals as goal

pub loop-j-init : goal.loop-j-init
loop-j-init c = let a = c.args in ap (λ (x : ℕ). held_from a.s.now a.held.now (part a.s.now a.at a.l) x 0) (omega arith)

pub is_text-requires : goal.is_text-requires
is_text-requires c = let a = c.args in (c.requires.1, rw (c.cell_of-a.ensures, c.cell_of-size.ensures) (c.requires.0.within c.loop-j.j c.loop-j-test.true))

pub returns-then-is_text : goal.returns-then-is_text
returns-then-is_text c = let a = c.args in sym (c.loop-j.invariant ∙ held_here a.s.now a.held.now (part a.s.now a.at a.l) a.many c.loop-j.j c.loop-j-test.true (rw (← c.cell_of-a.ensures, ← c.cell_of-size.ensures) (sym c.is_text.ensures ∙ c.if-is_text.true)))

pub loop-j-preserved : goal.loop-j-preserved
loop-j-preserved c = let a = c.args in c.loop-j.invariant ∙ held_next a.s.now a.held.now (part a.s.now a.at a.l) a.many c.loop-j.j c.loop-j-test.true (rw (← c.cell_of-a.ensures, ← c.cell_of-size.ensures) (sym c.is_text.ensures ∙ c.if-is_text.false))

pub returns : goal.returns
returns c = let a = c.args in let e : a.many ≡ c.loop-j.j = omega (arith, c.loop-j-test.false, c.loop-j.auto.j-end) in
    e ∙ sym (c.loop-j.invariant ∙ held_end a.s.now a.held.now (part a.s.now a.at a.l) a.many c.loop-j.j c.loop-j-test.false)
