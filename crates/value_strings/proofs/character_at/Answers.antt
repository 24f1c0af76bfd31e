-- `value_strings::character_at` meets its contract, by what stands at i and behind it.
use Rattle.value_strings.proofs.ReadLaws.{front_itself, front_end, front_unicode, front_short}
use Rattle.value_strings.proofs.character_at.Goals as goal

pub returns-then-b-ne92 : goal.returns-then-b-ne92
returns-then-b-ne92 c = let s = c.args.s.now in front_itself s c.args.i c.requires c.if-b-ne92.true

pub returns-then-s-i : goal.returns-then-s-i
returns-then-s-i c = let s = c.args.s.now in front_end s c.args.i c.requires c.if-b-ne92.false c.if-s-i.true

pub returns-then-e-eq117 : goal.returns-then-e-eq117
returns-then-e-eq117 c = let s = c.args.s.now in front_unicode s c.args.i c.requires c.if-b-ne92.false c.if-s-i.false c.if-e-eq117.true c.unicode_escape.result c.unicode_escape.ensures

pub returns : goal.returns
returns c = let s = c.args.s.now in front_short s c.args.i c.requires c.if-b-ne92.false c.if-s-i.false c.if-e-eq117.false c.short_escape.result c.short_escape.ensures
