-- Short names, then the two bytes.
use Rattle.table_names.proofs.NameLaws.{short_reserved, reserved_other, reserved_second}
use Rattle.table_names.proofs.is_reserved.Goals as goal

pub returns-then-n-lt2 : goal.returns-then-n-lt2
returns-then-n-lt2 c = short_reserved c.args.t.now c.args.at c.args.n c.if-n-lt2.true

pub returns-then-t-at-ne-UNDERSCORE : goal.returns-then-t-at-ne-UNDERSCORE
returns-then-t-at-ne-UNDERSCORE c = reserved_other c.args.t.now c.args.at c.args.n c.requires c.if-n-lt2.false c.if-t-at-ne-UNDERSCORE.true

pub returns : goal.returns
returns c = reserved_second c.args.t.now c.args.at c.args.n c.requires c.if-n-lt2.false c.if-t-at-ne-UNDERSCORE.false
