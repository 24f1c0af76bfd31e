-- A letter, and the bytes of names behind it go to the end.
use mathlib.Core.Path.{sym, ◌∙◌}
use native.Mathlib.Omega.{arith}
use Rattle.table_fields.proofs.BoundsLaws.{later}
use lib.ListN.{get_or}
use Rattle.text_characters.proofs.ByteLaws.{letter_byte}
use Rattle.table_fields.proofs.NameLaws.{name_none, name_no, name_by}
use Rattle.table_fields.proofs.is_name.Goals as goal

pub returns-then-start-end : goal.returns-then-start-end
returns-then-start-end c = name_none c.args.t.now c.args.start c.args.end c.requires.within (omega arith)

pub returns-then-not-starts_name : goal.returns-then-not-starts_name
returns-then-not-starts_name c = name_no c.args.t.now c.args.start c.args.end c.requires.within (omega (arith, c.if-start-end.false, c.requires.order)) (sym (c.starts_name.ensures ∙ letter_byte (get_or c.args.t.now c.args.start 0)) ∙ c.if-not-starts_name.true)

pub name_end-requires : goal.name_end-requires
name_end-requires c = later c.requires (omega (arith, c.if-start-end.false, c.requires.order))

pub returns : goal.returns
returns c = name_by c.args.t.now c.args.start c.args.end c.requires.within (omega (arith, c.if-start-end.false, c.requires.order)) (sym (c.starts_name.ensures ∙ letter_byte (get_or c.args.t.now c.args.start 0)) ∙ c.if-not-starts_name.false) _ c.name_end.ensures
