-- `value_writing::put_field` meets its contract: its head, then its text.
use mathlib.Core.Path.{refl, ap, ◌∙◌}
use mathlib.Core.List.{List}
use Prim.Native.Nat.{ℕ, ◌+◌}
use native.Mathlib.Omega.{arith}
use lib.ListN.{length}
use lib.Seq.{sets}
use Rattle.paper_values.specs.Written.{head_of, house_field_bytes}
use Rattle.value_writing.proofs.StoreLaws.{sets_then}
use Rattle.value_writing.proofs.PlaceLaws.{put_in, put_over}
use Rattle.value_writing.proofs.put_field.Goals as goal

pub returns-then-limit-from : goal.returns-then-limit-from
returns-then-limit-from c = let a = c.args in put_over a.limit (house_field_bytes a.tag a.s.now) a.from a.out.now a.out.now (omega (arith, c.if-limit-from.true))

pub returns-then-limit-from-2 : goal.returns-then-limit-from-2
returns-then-limit-from-2 c = let a = c.args in put_over a.limit (house_field_bytes a.tag a.s.now) a.from a.out.now a.out.now (omega (arith, c.if-limit-from.false, c.if-limit-from-2.true))

pub returns : goal.returns
returns c = let a = c.args in
    put_in a.limit (house_field_bytes a.tag a.s.now) a.from a.out.now _ (a.from + 3 + length a.s.now) (omega arith) (omega (arith, c.if-limit-from.false, c.if-limit-from-2.false))
    (c.copy.ensures ∙ ap (λ (l : List ℕ). sets l (a.from + 3) a.s.now) c.put_head.ensures
    ∙ sets_then a.out.now a.from (a.from + 3) (head_of a.tag (length a.s.now)) a.s.now refl)
