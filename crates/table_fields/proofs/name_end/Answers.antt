-- From each byte on the name's bytes end at one place.
use mathlib.Core.Path.{◌≡◌, refl, sym, ap, ◌∙◌}
use mathlib.Core.Bool.{Bool, not}
use Prim.Native.Nat.{ℕ}
use native.Mathlib.Omega.{arith}
use lib.ListN.{get_or}
use Rattle.paper.specs.Lexical.{letter_or_digit, in_set}
use Rattle.text_characters.proofs.ByteLaws.{name_byte}
use Rattle.table_fields.proofs.NameLaws.{run_more, run_stop, run_end}
use Rattle.table_fields.proofs.name_end.Goals as goal

abbrev noName : ℕ → Bool
noName b = not (in_set letter_or_digit b)

pub loop-i-init : goal.loop-i-init
loop-i-init c = refl

pub returns-then-not-in_name : goal.returns-then-not-in_name
returns-then-not-in_name c = run_stop noName c.args.t.now c.loop-i.i c.args.end c.requires.within c.loop-i-test.true (ap not (sym (c.in_name.ensures ∙ name_byte (get_or c.args.t.now c.loop-i.i 0))) ∙ (ap not c.if-not-in_name.true)) ∙ c.loop-i.invariant

pub loop-i-preserved : goal.loop-i-preserved
loop-i-preserved c = run_more noName c.args.t.now c.loop-i.i c.args.end c.requires.within c.loop-i-test.true (ap not (sym (c.in_name.ensures ∙ name_byte (get_or c.args.t.now c.loop-i.i 0))) ∙ (ap not c.if-not-in_name.false)) ∙ c.loop-i.invariant

pub returns : goal.returns
returns c =
    let e : c.args.end ≡ c.loop-i.i = omega (arith, c.loop-i-test.false, c.loop-i.auto.i-end c.requires.order) in
    e ∙ run_end noName c.args.t.now c.loop-i.i c.args.end c.requires.within c.loop-i-test.false ∙ c.loop-i.invariant
