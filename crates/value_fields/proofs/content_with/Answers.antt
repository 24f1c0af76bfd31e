-- By the type around it.
use mathlib.Core.Path.{sym}
use Rattle.query_rows.specs.Rowed.{doc_of}
use Rattle.query_rows.proofs.RowsIn.{rowed_sized}
use Rattle.value_fields.proofs.HoldsLaws.{contains_holds}
use Rattle.value_fields.proofs.content_with.Goals as goal

pub families-requires : goal.families-requires
families-requires c = (c.requires.2, c.requires.3, c.requires.4)

pub parent_of-p-requires : goal.parent_of-p-requires
parent_of-p-requires c = rowed_sized c.requires.2

pub type_inside-above-requires : goal.type_inside-above-requires
type_inside-above-requires c = (record { booked = c.requires.1; rowed = c.requires.2; family = c.families.ensures }, c.requires.0.fielded)

pub content_at-requires : goal.content_at-requires
content_at-requires c = (c.requires.1, c.requires.0.fielded, c.requires.2, rw (← c.parent_of-p.ensures) (sym c.type_inside-above.ensures))

pub returns : goal.returns
returns c = contains_holds c.args.t.now c.requires.0 (doc_of c.args.s.now c.args.rows.now c.args.n) c.args.i _ _ c.content_at.ensures
