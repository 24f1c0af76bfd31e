-- `string`: by what stands where its characters end.
use Rattle.text_strings.proofs.StringLaws.{string_found, string_other, string_unended}
use Rattle.text_strings.proofs.string.Goals as goal

pub returns-then-s-e-eq34 : goal.returns-then-s-e-eq34
returns-then-s-e-eq34 c = string_found c.args.s.now c.args.at c.string_end-e.result c.requires.0 c.requires.1 c.string_end-e.ensures c.if-e-s.true c.if-s-e-eq34.true

pub returns-else-s-e-eq34 : goal.returns-else-s-e-eq34
returns-else-s-e-eq34 c = string_other c.args.s.now c.args.at c.string_end-e.result c.requires.0 c.requires.1 c.string_end-e.ensures c.if-e-s.true c.if-s-e-eq34.false

pub returns-else-e-s : goal.returns-else-e-s
returns-else-e-s c = string_unended c.args.s.now c.args.at c.string_end-e.result c.requires.0 c.requires.1 c.string_end-e.ensures c.if-e-s.false
