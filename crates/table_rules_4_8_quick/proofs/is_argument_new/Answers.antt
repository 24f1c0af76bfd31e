-- By the note; where the cell had the mark, by the arguments before.
use Rattle.table_book.specs.Book.{part}
use Rattle.table_members.specs.Members.{arguments_in}
use Rattle.table_rules_4_8_quick.specs.Sound.{argument_name}
use Rattle.table_rules_4_8_quick.proofs.SoundLaws.{told_new, told_asked}
use Rattle.table_rules_4_8_quick.proofs.is_argument_new.Goals as goal

pub returns-then-note : goal.returns-then-note
returns-then-note c = let a = c.args in
    told_asked argument_name (arguments_in a.t.now a.from a.end) a.a (part a.t.now a.at a.n) a.seen.now _ a.mark c.note.ensures c.is_argument_before.ensures

pub returns : goal.returns
returns c = let a = c.args in
    told_new argument_name (arguments_in a.t.now a.from a.end) a.a (part a.t.now a.at a.n) a.seen.now _ a.mark c.note.ensures c.if-note.false
