-- `escape`: by the byte after the backslash.
use mathlib.Core.Path.{sym, ◌∙◌}
use mathlib.Core.Bool.{true, false}
use Prim.Native.Nat.{◌+◌}
use native.Mathlib.Omega.{arith}
use Rattle.text_scan.proofs.PartLaws.{escape_none, escape_u, escape_other}
use Rattle.text_scan.proofs.escape.Goals as goal

pub returns-then-s-i : goal.returns-then-s-i
returns-then-s-i c = escape_none c.args.s.now c.args.i c.if-s-i.true

pub returns-then-four_hex : goal.returns-then-four_hex
returns-then-four_hex c = escape_u c.args.s.now c.args.i (omega arith) true c.if-b-eq117.true (sym c.four_hex.ensures ∙ c.if-four_hex.true)

pub returns-then-b-eq117 : goal.returns-then-b-eq117
returns-then-b-eq117 c = escape_u c.args.s.now c.args.i (omega arith) false c.if-b-eq117.true (sym c.four_hex.ensures ∙ c.if-four_hex.false)

pub returns-then-is_escaped : goal.returns-then-is_escaped
returns-then-is_escaped c = escape_other c.args.s.now c.args.i (omega arith) true c.if-b-eq117.false (omega (arith, c.shared_slice_known-2-1.given (c.args.i + 1))) (sym c.is_escaped.ensures ∙ c.if-is_escaped.true)

pub returns : goal.returns
returns c = escape_other c.args.s.now c.args.i (omega arith) false c.if-b-eq117.false (omega (arith, c.shared_slice_known-2-1.given (c.args.i + 1))) (sym c.is_escaped.ensures ∙ c.if-is_escaped.false)
