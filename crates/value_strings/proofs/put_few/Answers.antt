-- `value_strings::put_few` meets its contract: one byte after the other.
use mathlib.Core.Path.{◌∙◌}
use mathlib.Core.List.{[], ◌∷◌}
use Prim.Native.Nat.{◌+◌}
use Rattle.value_writing.proofs.PlaceLaws.{place_least, put_as, put_place, put_then}
use Rattle.value_strings.proofs.SpellingTurn.{few_one, few_two, few_three}
use Rattle.value_strings.proofs.put_few.Goals as goal

pub returns-then-size-eq1 : goal.returns-then-size-eq1
returns-then-size-eq1 c = let a = c.args in put_as a.limit (a.a ∷ []) _ a.from a.out.now _ _ (few_one a.size a.a a.b a.c c.if-size-eq1.true) c.put_byte-first.ensures

pub put_byte-second-requires : goal.put_byte-second-requires
put_byte-second-requires c = let a = c.args in record { least = c.requires.least; place = put_place a.limit (a.a ∷ []) a.from a.out.now _ _ c.put_byte-first.ensures; size = c.put_byte-first.auto.out ∙ c.requires.size }

pub returns-then-size-eq2 : goal.returns-then-size-eq2
returns-then-size-eq2 c = let a = c.args in
    put_as a.limit (a.a ∷ a.b ∷ []) _ a.from a.out.now _ _ (few_two a.size a.a a.b a.c c.if-size-eq1.false c.if-size-eq2.true)
    (put_then a.limit (a.a ∷ []) (a.b ∷ []) a.from _ _ a.out.now _ _ c.put_byte-first.ensures c.put_byte-second.ensures)

pub put_byte-requires : goal.put_byte-requires
put_byte-requires c = let a = c.args in
    let first = c.put_byte-first.result in
    record { least = c.requires.least; place = place_least a.limit (first + 1) _ c.put_byte-second.ensures.0; size = c.put_byte-second.auto.out ∙ c.put_byte-first.auto.out ∙ c.requires.size }

pub returns : goal.returns
returns c = let a = c.args in
    put_as a.limit (a.a ∷ a.b ∷ a.c ∷ []) _ a.from a.out.now _ _ (few_three a.size a.a a.b a.c c.if-size-eq1.false c.if-size-eq2.false)
    (put_then a.limit (a.a ∷ a.b ∷ []) (a.c ∷ []) a.from _ _ a.out.now _ _
    (put_then a.limit (a.a ∷ []) (a.b ∷ []) a.from _ _ a.out.now _ _ c.put_byte-first.ensures c.put_byte-second.ensures)
    c.put_byte.ensures)
