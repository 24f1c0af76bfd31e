-- Its name, its type, its arguments.
use mathlib.Core.Path.{◌≡◌, sym, ◌∙◌}
use mathlib.Core.Bool.{false}
use native.Mathlib.Omega.{arith}
use Rattle.paper_table.specs.Types.{table_of}
use Rattle.table_book.specs.Book.{part}
use Rattle.table_members.specs.Members.{members_in, member_from}
use Rattle.table_rules_4_8_quick.specs.Sound.{member_name, Before, MemberSound, member_mark}
use Rattle.table_rules_4_8_quick.proofs.SoundLaws.{told_refused, told_more, member_sound}
use Rattle.table_rules_4_8_quick.proofs.is_member_sound.Goals as goal

pub returns-then-is_reserved : goal.returns-then-is_reserved
returns-then-is_reserved c = let a = c.args in
    (told_refused member_name _ _ _ a.seen.now a.seen.now member_mark _ c.requires.3, c.requires.4)

pub returns-then-is_no_enum_value : goal.returns-then-is_no_enum_value
returns-then-is_no_enum_value c = let a = c.args in
    (told_refused member_name _ _ _ a.seen.now a.seen.now member_mark _ c.requires.3, c.requires.4)

pub returns-then-not-is_member_new : goal.returns-then-not-is_member_new
returns-then-not-is_member_new c = let a = c.args in
    (told_refused member_name _ _ _ a.seen.now _ member_mark _ c.is_member_new.ensures.size, c.requires.4)

pub returns-then-not-is_base_sound : goal.returns-then-not-is_base_sound
returns-then-not-is_base_sound c = let a = c.args in
    (told_refused member_name _ _ _ a.seen.now _ member_mark _ c.is_member_new.ensures.size, c.requires.4)

pub overflow_add-m : goal.overflow_add-m
overflow_add-m c = omega arith

pub overflow_cast-m : goal.overflow_cast-m
overflow_cast-m c = omega arith

pub returns : goal.returns
returns c = let a = c.args in
    let ms = members_in a.t.now a.from a.end in
    let x = member_from a.t.now a.tag a.start a.stop in
    let n = part a.t.now c.member_name-name.result.at c.member_name-name.result.size in
    (told_more member_name ms a.m n a.seen.now _ member_mark (Before member_name ms a.m n ≡ false) (MemberSound (table_of a.t.now) ms a.m x) x.name c.is_member_new.ensures c.if-not-is_member_new.false c.member_name-name.ensures.is (λ z f. member_sound (table_of a.t.now) ms a.m x n c.member_name-name.ensures.is (sym c.is_reserved.ensures ∙ c.if-is_reserved.false) (sym c.is_no_enum_value.ensures ∙ c.if-is_no_enum_value.false) f (c.is_base_sound.ensures c.if-not-is_base_sound.false) (c.are_arguments_sound.ensures.1 z)), c.are_arguments_sound.ensures.0)
