-- Member by member: if the others are sound, all are.
use mathlib.Core.Path.{◌≡◌}
use Prim.Native.Nat.{◌-◌}
use lib.ListN.{length}
use Rattle.paper_table.specs.Types.{table_of}
use Rattle.table_members.specs.Members.{members_in}
use Rattle.table_rules_4_8_quick.specs.Sound.{member_name, MemberSound, cells, member_mark}
use Rattle.table_rules_4_8_quick.proofs.SoundLaws.{Sounding}
use Rattle.table_rules_4_8_quick.proofs.are_members_sound.Given as goal

abbrev pub invariant-loop-f : goal.invariant-loop-f
invariant-loop-f l = Sounding member_name (MemberSound (table_of l.t) (members_in l.t l.from l.end)) l.seen member_mark l.from l.end l.i l.m (members_in l.t l.from l.end) (members_in l.t l.i l.end) × (length l.others ≡ cells)

abbrev pub decreases-loop-f : goal.decreases-loop-f
decreases-loop-f l = l.end - l.i
