use mathlib.Core.Path.{sym, ap, ◌∙◌}
use Prim.Native.Nat.{ℕ}
use native.Mathlib.Omega.{arith}
use lib.ListN.{replicate}
use Rattle.query_rows.specs.Rowed.{doc_of, room_of}
use Rattle.query_rows.proofs.RowsIn.{rows_count}
use Rattle.query_spreads.proofs.LinkLaws.{graph_of}
use Rattle.query_reach.proofs.MarkLaws.{stamped_up, stamped_none}
use Rattle.query_rows.proofs.Rooms.{room_enough}
use Rattle.plan_making.proofs.find_blocks.Goals as goal

pub clear-requires : goal.clear-requires
clear-requires c = omega arith

pub owners-requires : goal.owners-requires
owners-requires c = (c.requires.0, c.requires.4)

pub targets-requires : goal.targets-requires
targets-requires c = (c.requires.0, c.requires.2, c.requires.6)

pub spreads-requires : goal.spreads-requires
spreads-requires c = (c.requires.0, c.owners.ensures, omega (arith, c.requires.7, c.requires.0.few), c.requires.8)

pub reach-requires : goal.reach-requires
reach-requires c = (graph_of c.args.s.now c.args.rows.now c.args.n c.requires.0.few c.targets.ensures c.spreads.ensures, c.requires.3, stamped_up (stamped_none (doc_of c.args.s.now c.args.rows.now c.args.n) (c.clear.ensures ∙ ap (λ (k : ℕ). replicate k 0) (c.requires.5 ∙ ap room_of (sym (rows_count c.args.rows.now c.args.n))))) (omega arith), c.requires.9)

pub list_blocks-requires : goal.list_blocks-requires
list_blocks-requires c = (c.requires.0, c.requires.1, c.owners.ensures, c.reach.ensures, c.requires.3, omega (arith, c.target-1.given, c.requires.6, room_enough c.args.n c.requires.0.few))

pub shape_of-owner : goal.shape_of-owner
shape_of-owner c = c.owner-1.given

pub shape_of-mark : goal.shape_of-mark
shape_of-mark c = c.mark-2-1.given ∙ c.mark-1.given

pub shape_of-target : goal.shape_of-target
shape_of-target c = c.target-2-1.given ∙ c.target-1.given

pub shape_of-firsts : goal.shape_of-firsts
shape_of-firsts c = c.firsts-1.given

pub shape_of-nexts : goal.shape_of-nexts
shape_of-nexts c = c.nexts-1.given

pub shape_of-stack : goal.shape_of-stack
shape_of-stack c = c.stack-1.given

pub returns : goal.returns
returns c = c.list_blocks.ensures
