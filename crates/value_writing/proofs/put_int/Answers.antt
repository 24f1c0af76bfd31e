-- `value_writing::put_int` meets its contract: its head, then its four bytes.
use mathlib.Core.Path.{refl, ap, ◌∙◌}
use mathlib.Core.List.{List}
use Prim.Native.Nat.{ℕ, ◌+◌}
use native.Mathlib.Omega.{arith}
use lib.Seq.{sets}
use Rattle.paper_values.specs.Written.{head_of, house_field_bytes, four_bytes}
use Rattle.paper_values.specs.ValueNumbers.{tag_int}
use Rattle.value_writing.proofs.StoreLaws.{sets_then}
use Rattle.value_writing.proofs.PlaceLaws.{put_in, put_over}
use Rattle.value_writing.proofs.put_int.Goals as goal

pub returns-then-limit-from : goal.returns-then-limit-from
returns-then-limit-from c = let a = c.args in put_over a.limit (house_field_bytes tag_int (four_bytes a.x)) a.from a.out.now a.out.now (omega (arith, c.if-limit-from.true))

pub returns : goal.returns
returns c = let a = c.args in
    put_in a.limit (house_field_bytes tag_int (four_bytes a.x)) a.from a.out.now _ (a.from + 7) refl (omega (arith, c.if-limit-from.false))
    (c.put_bits.ensures ∙ ap (λ (l : List ℕ). sets l (a.from + 3) (four_bytes a.x)) c.put_head.ensures
    ∙ sets_then a.out.now a.from (a.from + 3) (head_of tag_int 4) (four_bytes a.x) refl)
