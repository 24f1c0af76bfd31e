-- The walk over the entry's content.
use mathlib.Core.Path.{refl, subst}
use mathlib.Core.List.{List}
use Rattle.paper_table.specs.Types.{Member, table_of}
use Rattle.table_types.specs.Booked.{definition_on}
use Rattle.table_types.proofs.Entries.{bounds_entered, members_entered}
use Rattle.table_types.proofs.Objects.{number_room}
use Rattle.table_rules_4_8_quick.specs.Sound.{EveryFrom, MemberSound}
use Rattle.table_rules_4_8_quick.proofs.SoundLaws.{all_sound}
use Rattle.table_rules_4_8_quick.proofs.is_sound.Goals as goal

pub start_of-requires : goal.start_of-requires
start_of-requires c = (c.requires.0.indexed.held.cells, number_room _ _ c.requires.0 _ c.requires.1)

pub end_of-requires : goal.end_of-requires
end_of-requires c = (c.requires.0.indexed.held.cells, number_room _ _ c.requires.0 _ c.requires.1)

pub are_members_sound-requires : goal.are_members_sound-requires
are_members_sound-requires c = let a = c.args in
    (c.requires.0, bounds_entered a.t.now a.book.now c.requires.0 a.i c.requires.1 _ _ c.start_of.ensures c.end_of.ensures, refl, refl)

pub returns : goal.returns
returns c = let a = c.args in
    let e = members_entered a.t.now a.book.now c.requires.0 a.i c.requires.1 _ _ c.start_of.ensures c.end_of.ensures in
    λ z. all_sound (table_of a.t.now) a.i (definition_on a.t.now a.i) (subst (λ (ms : List Member). EveryFrom (MemberSound (table_of a.t.now) ms) 0 ms) e (c.are_members_sound.ensures z))
