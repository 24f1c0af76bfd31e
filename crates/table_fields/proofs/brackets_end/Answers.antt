-- From each byte on the brackets end at one place.
use mathlib.Core.Path.{◌≡◌, refl, ap, ◌∙◌}
use mathlib.Core.Bool.{Bool, not}
use Prim.Native.Nat.{ℕ}
use native.Mathlib.Omega.{arith}
use lib.Dec.{eqb}
use borrow.Author.Tests.{eq-eqb, ne_eqb}
use Rattle.paper_table.specs.References.{byte_bracket_l}
use Rattle.table_fields.proofs.NameLaws.{run_more, run_stop, run_end}
use Rattle.table_fields.proofs.brackets_end.Goals as goal

abbrev noBracket : ℕ → Bool
noBracket b = not (eqb b byte_bracket_l)

pub loop-i-init : goal.loop-i-init
loop-i-init c = refl

pub returns-then-t-i-ne-BYTE_BRACKET_L : goal.returns-then-t-i-ne-BYTE_BRACKET_L
returns-then-t-i-ne-BYTE_BRACKET_L c = run_stop noBracket c.args.t.now c.loop-i.i c.args.end c.requires.within c.loop-i-test.true (ap not (ne_eqb _ _ c.if-t-i-ne-BYTE_BRACKET_L.true)) ∙ c.loop-i.invariant

pub loop-i-preserved : goal.loop-i-preserved
loop-i-preserved c = run_more noBracket c.args.t.now c.loop-i.i c.args.end c.requires.within c.loop-i-test.true (ap not (eq-eqb _ _ c.if-t-i-ne-BYTE_BRACKET_L.false)) ∙ c.loop-i.invariant

pub returns : goal.returns
returns c =
    let e : c.args.end ≡ c.loop-i.i = omega (arith, c.loop-i-test.false, c.loop-i.auto.i-end c.requires.order) in
    e ∙ run_end noBracket c.args.t.now c.loop-i.i c.args.end c.requires.within c.loop-i-test.false ∙ c.loop-i.invariant
