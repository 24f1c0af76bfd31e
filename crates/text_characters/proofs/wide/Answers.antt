-- `wide`: by the first byte, the bytes that are left, and the two after it.
use mathlib.Core.Path.{sym, refl, ◌∙◌}
use mathlib.Core.Bool.{true, false}
use native.Mathlib.Omega.{arith}
use Rattle.text_characters.proofs.CharacterLaws.{size_low, size_high, size_alone, size_two, size_pair, size_three}
use Rattle.text_characters.proofs.wide.Goals as goal

pub returns-then-b-lt194 : goal.returns-then-b-lt194
returns-then-b-lt194 c = size_low c.args.s.now c.args.i c.requires (omega arith)

pub returns-then-s-i : goal.returns-then-s-i
returns-then-s-i c = size_alone c.args.s.now c.args.i c.requires (omega arith) (omega (arith, c.shared_slice_known-2-1.given c.args.i))

pub returns-then-is_tail : goal.returns-then-is_tail
returns-then-is_tail c = size_two c.args.s.now c.args.i c.requires true (omega arith) (omega arith) (omega arith) (sym c.is_tail.ensures ∙ c.if-is_tail.true)

pub returns-then-b-lt224 : goal.returns-then-b-lt224
returns-then-b-lt224 c = size_two c.args.s.now c.args.i c.requires false (omega arith) (omega arith) (omega arith) (sym c.is_tail.ensures ∙ c.if-is_tail.false)

pub returns-then-s-i-2 : goal.returns-then-s-i-2
returns-then-s-i-2 c = size_pair c.args.s.now c.args.i c.requires (omega arith) (omega (arith, c.shared_slice_known-2-1.given c.args.i)) (omega arith) (omega arith)

pub returns-then-is_tail-2 : goal.returns-then-is_tail-2
returns-then-is_tail-2 c = size_three c.args.s.now c.args.i c.requires true true (omega arith) (omega arith) (omega arith) (sym c.is_second.ensures ∙ c.if-is_second.true) (sym c.is_tail-then-is_second.ensures ∙ c.if-is_tail-2.true)

pub returns-else-is_tail-2 : goal.returns-else-is_tail-2
returns-else-is_tail-2 c = size_three c.args.s.now c.args.i c.requires true false (omega arith) (omega arith) (omega arith) (sym c.is_second.ensures ∙ c.if-is_second.true) (sym c.is_tail-then-is_second.ensures ∙ c.if-is_tail-2.false)

pub returns-else-is_second : goal.returns-else-is_second
returns-else-is_second c = size_three c.args.s.now c.args.i c.requires false _ (omega arith) (omega arith) (omega arith) (sym c.is_second.ensures ∙ c.if-is_second.false) refl

pub returns-else-b-lt240 : goal.returns-else-b-lt240
returns-else-b-lt240 c = size_high c.args.s.now c.args.i c.requires (omega arith) (omega (arith, c.shared_slice_known-2-1.given c.args.i))
