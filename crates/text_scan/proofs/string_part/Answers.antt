-- `string_part`: by the first byte.
use mathlib.Core.Path.{◌∙◌}
use native.Mathlib.Omega.{arith}
use Rattle.text_scan.proofs.PartLaws.{part_escape, part_quote, part_other}
use Rattle.text_scan.proofs.string_part.Goals as goal

pub returns-then-b-eq92 : goal.returns-then-b-eq92
returns-then-b-eq92 c = c.escape.ensures ∙ part_escape c.args.s.now c.args.i c.requires c.if-b-eq92.true

pub returns-then-b-eq34 : goal.returns-then-b-eq34
returns-then-b-eq34 c = part_quote c.args.s.now c.args.i c.requires c.if-b-eq34.true

pub returns : goal.returns
returns c = c.character.ensures ∙ part_other c.args.s.now c.args.i c.requires c.if-b-eq92.false c.if-b-eq34.false (omega (arith, c.shared_slice_known-2-1.given c.args.i))
