-- `character`: by the first byte.
use mathlib.Core.Path.{◌∙◌}
use native.Mathlib.Omega.{arith}
use Rattle.text_characters.proofs.CharacterLaws.{character_tab, character_low, character_plain, character_wide}
use Rattle.text_characters.proofs.character.Goals as goal

pub returns-then-b-eq9 : goal.returns-then-b-eq9
returns-then-b-eq9 c = character_tab c.args.s.now c.args.i c.requires (omega arith)

pub returns-then-b-lt32 : goal.returns-then-b-lt32
returns-then-b-lt32 c = character_low c.args.s.now c.args.i c.requires (omega arith) (omega arith)

pub returns-then-b-lt128 : goal.returns-then-b-lt128
returns-then-b-lt128 c = character_plain c.args.s.now c.args.i c.requires (omega arith) (omega arith)

pub returns : goal.returns
returns c = c.wide.ensures ∙ character_wide c.args.s.now c.args.i c.requires (omega arith) (omega (arith, c.shared_slice_known-2-1.given c.args.i))
