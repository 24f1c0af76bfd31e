-- Its name, then its type.
use mathlib.Core.Path.{◌≡◌, sym, ◌∙◌}
use mathlib.Core.Bool.{false}
use Rattle.paper_table.specs.Types.{table_of}
use Rattle.table_book.specs.Book.{part}
use Rattle.table_members.specs.Members.{arguments_in, argument_from}
use Rattle.table_rules_4_8_quick.specs.Sound.{argument_name, Before, ArgumentSound}
use Rattle.table_rules_4_8_quick.proofs.SoundLaws.{told_refused, told_more, argument_sound}
use Rattle.table_rules_4_8_quick.proofs.is_argument_sound.Goals as goal

pub returns-then-is_reserved : goal.returns-then-is_reserved
returns-then-is_reserved c = let a = c.args in
    told_refused argument_name _ _ _ a.seen.now a.seen.now a.mark _ c.requires.3

pub returns-then-not-is_argument_new : goal.returns-then-not-is_argument_new
returns-then-not-is_argument_new c = let a = c.args in
    told_refused argument_name _ _ _ a.seen.now _ a.mark _ c.is_argument_new.ensures.size

pub returns : goal.returns
returns c = let a = c.args in
    let xs = arguments_in a.t.now a.from a.end in
    let x = argument_from a.t.now a.start a.stop in
    let n = part a.t.now c.name_in-name.result.at c.name_in-name.result.size in
    told_more argument_name xs a.a n a.seen.now _ a.mark (Before argument_name xs a.a n ≡ false) (ArgumentSound (table_of a.t.now) xs a.a x) x.name c.is_argument_new.ensures c.if-not-is_argument_new.false c.name_in-name.ensures.is (λ z f. argument_sound (table_of a.t.now) xs a.a x n c.base_tag.result c.name_in-name.ensures.is c.base_tag.ensures (sym c.is_reserved.ensures ∙ c.if-is_reserved.false) f (c.is_input.ensures z))
