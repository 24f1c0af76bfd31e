-- The list is as long as there is room for the rows.
use mathlib.Core.Path.{refl, ◌∙◌}
use native.Mathlib.Omega.{arith}
use Prim.Native.Nat.{ℕ}
use lib.ListN.{length-replicate}
use Rattle.query_rows.proofs.Rooms.{room_most}
use Rattle.query_links.specs.Links.{firsts_size}
use Rattle.value_fields.proofs.content_sized.Goals as goal

pub whole_as_slice-content_with : goal.whole_as_slice-content_with
whole_as_slice-content_with g c = omega (arith, c.requires.3, room_most c.args.n)

pub content_with-requires : goal.content_with-requires
content_with-requires g c = (c.requires.0, c.requires.1, c.requires.2, refl {a = firsts_size}, length-replicate {A = ℕ} g.row.ROOM 0 ∙ c.requires.3)
