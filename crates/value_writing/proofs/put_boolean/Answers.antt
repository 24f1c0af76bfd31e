-- `value_writing::put_boolean` meets its contract: a field of one byte.
use mathlib.Core.Path.{sym, ap}
use mathlib.Core.Bool.{Bool, cond}
use mathlib.Core.List.{[], ◌∷◌}
use Rattle.paper_values.specs.Written.{house_field_bytes}
use Rattle.paper_values.specs.ValueNumbers.{tag_boolean}
use Rattle.value_writing.proofs.PlaceLaws.{put_as}
use Rattle.value_writing.proofs.put_boolean.Goals as goal

pub returns-then-b : goal.returns-then-b
returns-then-b c = let a = c.args in put_as a.limit (house_field_bytes tag_boolean (1 ∷ [])) _ a.from a.out.now _ _ (ap (λ (b : Bool). house_field_bytes tag_boolean (cond b 1 0 ∷ [])) (sym c.if-b.true)) c.put_field.ensures

pub returns : goal.returns
returns c = let a = c.args in put_as a.limit (house_field_bytes tag_boolean (0 ∷ [])) _ a.from a.out.now _ _ (ap (λ (b : Bool). house_field_bytes tag_boolean (cond b 1 0 ∷ [])) (sym c.if-b.false)) c.put_field-2.ensures
