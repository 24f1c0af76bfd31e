-- `value_numbers::put_float` meets its contract.
use mathlib.Core.Bool.{true, false}
use Rattle.value_numbers.proofs.FieldLaws.{float_as, float_put}
use Rattle.std.proofs.Common.{Some}
use Rattle.value_numbers.proofs.put_float.Goals as goal

pub returns-then-whole : goal.returns-then-whole
returns-then-whole c = let a = c.args in float_as a.limit a.from a.out.now _ a.s.now a.whole true c.put_whole.result c.if-whole.true c.put_whole.ensures

pub returns : goal.returns
returns c = let a = c.args in float_as a.limit a.from a.out.now _ a.s.now a.whole false (Some c.put_field.result) c.if-whole.false (float_put a.limit a.from a.out.now _ a.s.now _ c.put_field.ensures)
