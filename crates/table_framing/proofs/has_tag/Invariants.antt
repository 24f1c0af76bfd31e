-- Field by field: the tag is seen from each place on, or it is here.
use mathlib.Core.Path.{◌≡◌}
use Prim.Native.Nat.{◌-◌, ◌≤◌}
use lib.Seq.{slice}
use Rattle.paper_table.specs.Lists.{any_of}
use Rattle.paper_table.specs.House.{house_fields, tag_is}
use Rattle.table_framing.proofs.has_tag.Given as goal

abbrev pub invariant-loop-i : goal.invariant-loop-i
invariant-loop-i l = (any_of (tag_is l.tag) (house_fields l.i (slice l.i l.end l.t)) ≡ any_of (tag_is l.tag) (house_fields l.start (slice l.start l.end l.t))) × (l.i ≤ l.end)

abbrev pub decreases-loop-i : goal.decreases-loop-i
decreases-loop-i l = l.end - l.i
