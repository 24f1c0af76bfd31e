-- `value_numbers::put_whole` meets its contract: the text and `.0` behind three bytes that are kept free, then the head.
use mathlib.Core.Path.{◌∙◌}
use mathlib.Core.List.{[], ◌∷◌, ◌++◌}
use Prim.Native.Nat.{◌+◌}
use Rattle.paper_values.specs.ValueNumbers.{tag_float}
use Rattle.value_writing.proofs.PlaceLaws.{place_least, put_place, put_then, put_closed, behind_order}
use Rattle.value_numbers.proofs.FieldLaws.{whole_beyond, whole_put}
use Rattle.value_numbers.proofs.put_whole.Goals as goal

pub returns-then-not-is_exact : goal.returns-then-not-is_exact
returns-then-not-is_exact c = let a = c.args in whole_beyond a.limit a.from a.out.now a.out.now a.s.now c.is_exact.result c.is_exact.ensures c.if-not-is_exact.true

pub put_bytes-point-requires : goal.put_bytes-point-requires
put_bytes-point-requires c = let a = c.args in record { least = c.requires.least; place = place_least a.limit (a.from + 3) c.place-first.result c.place-first.ensures; size = c.requires.size }

pub put_bytes-at-requires : goal.put_bytes-at-requires
put_bytes-at-requires c = let a = c.args in
    record { least = c.requires.least; place = put_place a.limit a.s.now c.place-first.result a.out.now _ _ c.put_bytes-point.ensures; size = c.put_bytes-point.auto.out ∙ c.requires.size }

pub close-requires : goal.close-requires
close-requires c = let a = c.args in
    let first = c.place-first.result in
    let p = put_then a.limit a.s.now (0x2e ∷ 0x30 ∷ []) first _ _ a.out.now _ _ c.put_bytes-point.ensures c.put_bytes-at.ensures in
    record {
      least = c.requires.least;
      end = put_place a.limit (a.s.now ++ (0x2e ∷ 0x30 ∷ [])) first a.out.now _ _ p;
      order = behind_order a.limit (a.s.now ++ (0x2e ∷ 0x30 ∷ [])) a.from first _ a.out.now _ c.place-first.ensures p;
      size = c.put_bytes-at.auto.out ∙ c.put_bytes-point.auto.out ∙ c.requires.size;
    }

pub returns : goal.returns
returns c = let a = c.args in
    let first = c.place-first.result in
    let p = put_then a.limit a.s.now (0x2e ∷ 0x30 ∷ []) first _ _ a.out.now _ _ c.put_bytes-point.ensures c.put_bytes-at.ensures in
    whole_put a.limit a.from a.out.now _ a.s.now c.is_exact.result _ c.is_exact.ensures c.if-not-is_exact.false
    (put_closed a.limit (a.s.now ++ (0x2e ∷ 0x30 ∷ [])) a.from tag_float first _ _ a.out.now _ _ c.place-first.ensures p c.close.ensures)
