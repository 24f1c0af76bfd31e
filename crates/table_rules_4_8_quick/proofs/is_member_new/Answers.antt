-- By the note; where the cell had the mark, by the members before.
use Rattle.table_book.specs.Book.{part}
use Rattle.table_members.specs.Members.{members_in}
use Rattle.table_rules_4_8_quick.specs.Sound.{member_name}
use Rattle.table_rules_4_8_quick.proofs.SoundLaws.{told_new, told_asked}
use Rattle.table_rules_4_8_quick.proofs.is_member_new.Goals as goal

pub returns-then-note : goal.returns-then-note
returns-then-note c = let a = c.args in
    told_asked member_name (members_in a.t.now a.from a.end) a.m (part a.t.now a.at a.n) a.seen.now _ a.mark c.note.ensures c.is_member_before.ensures

pub returns : goal.returns
returns c = let a = c.args in
    told_new member_name (members_in a.t.now a.from a.end) a.m (part a.t.now a.at a.n) a.seen.now _ a.mark c.note.ensures c.if-note.false
