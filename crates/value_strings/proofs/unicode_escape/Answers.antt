-- `value_strings::unicode_escape` meets its contract: four digits, high first.
use mathlib.Core.Path.{ap, ◌∙◌}
use Prim.Native.Nat.{ℕ, ◌+◌, ◌*◌}
use lib.ListN.{get_or}
use Rattle.paper_values.specs.Characters.{hex_value}
use Rattle.value_strings.proofs.ReadLaws.{unicode_short, unicode_is}
use Rattle.value_strings.proofs.unicode_escape.Goals as goal

pub returns-then-s-i-lt4 : goal.returns-then-s-i-lt4
returns-then-s-i-lt4 c = unicode_short c.args.s.now c.args.i c.requires c.if-s-i-lt4.true

pub returns : goal.returns
returns c = let s = c.args.s.now in
    let i = c.args.i in
    unicode_is s i _ c.in_utf8.result c.requires c.if-s-i-lt4.false
    (ap (λ (x : ℕ). 4096 * x + 256 * c.hex_value-b.result + 16 * c.hex_value-c.result + c.hex_value-d.result) c.hex_value-a.ensures.0
    ∙ ap (λ (x : ℕ). 4096 * hex_value (get_or s i 0) + 256 * x + 16 * c.hex_value-c.result + c.hex_value-d.result) c.hex_value-b.ensures.0
    ∙ ap (λ (x : ℕ). 4096 * hex_value (get_or s i 0) + 256 * hex_value (get_or s (i + 1) 0) + 16 * x + c.hex_value-d.result) c.hex_value-c.ensures.0
    ∙ ap (λ (x : ℕ). 4096 * hex_value (get_or s i 0) + 256 * hex_value (get_or s (i + 1) 0) + 16 * hex_value (get_or s (i + 2) 0) + x) c.hex_value-d.ensures.0)
    c.in_utf8.ensures
