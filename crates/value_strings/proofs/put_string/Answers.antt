-- `value_strings::put_string` meets its contract: the characters behind three bytes that are kept free, then the head.
use mathlib.Core.Path.{◌∙◌}
use Prim.Native.Nat.{◌+◌}
use Rattle.value_writing.proofs.PlaceLaws.{place_least}
use Rattle.value_strings.proofs.StringField.{field_refused, field_order, field_least, field_put, inner_short}
use Rattle.value_strings.proofs.put_string.Goals as goal

pub put_characters-requires : goal.put_characters-requires
put_characters-requires c = let a = c.args in (
  record { least = c.requires.0.least; place = place_least a.limit (a.from + 3) c.place-first.result c.place-first.ensures; size = c.requires.0.size },
  inner_short a.text.now a.start a.end c.requires.1,
)

pub returns-in_err-at : goal.returns-in_err-at
returns-in_err-at c = let a = c.args in
    rw c.from_residual.ensures (field_refused a.limit a.from a.tag a.text.now a.start a.end c.requires.2 c.requires.3 c.place-first.result a.out.now _ _ c.put_characters.result c.in_err-at.was c.put_characters.ensures)

pub close-requires : goal.close-requires
close-requires c = let a = c.args in
    record {
      least = c.requires.0.least;
      end = field_least a.limit a.from a.tag a.text.now a.start a.end c.requires.2 c.requires.3 c.place-first.result a.out.now c.place-first.ensures _ c.put_characters.result _ c.in_ok-at.was c.put_characters.ensures;
      order = field_order a.limit a.from a.tag a.text.now a.start a.end c.requires.2 c.requires.3 c.place-first.result a.out.now c.place-first.ensures _ c.put_characters.result _ c.in_ok-at.was c.put_characters.ensures;
      size = c.put_characters.auto.out ∙ c.requires.0.size;
    }

pub returns : goal.returns
returns c = let a = c.args in
    field_put a.limit a.from a.tag a.text.now a.start a.end c.requires.2 c.requires.3 c.place-first.result a.out.now c.place-first.ensures _ c.put_characters.result _ c.in_ok-at.was c.put_characters.ensures _ _ c.close.ensures
