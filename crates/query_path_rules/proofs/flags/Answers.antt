-- From nothing, the fragments, then the variables.
use mathlib.Core.Path.{◌≡◌, sym, ap, ◌∙◌}
use Prim.Native.Nat.{ℕ}
use lib.ListN.{length, replicate}
use Rattle.paper_table.specs.Types.{table_of}
use Rattle.paper_query.specs.Constructs.{count}
use Rattle.query_rows.specs.Rowed.{doc_of, room_of}
use Rattle.query_rows.proofs.RowsIn.{rowed_sized, rows_count}
use Rattle.query_rows.proofs.Rooms.{room_rows}
use Rattle.query_reach_pass.specs.Marks.{Stamped}
use Rattle.query_reach.proofs.MarkLaws.{stamped_none}
use Rattle.query_alike.proofs.FlagsLaws.{flags_none}
use Rattle.query_path_rules.proofs.FlaggedLaws.{flagged}
use Rattle.query_path_rules.proofs.flags.Goals as goal

pub judge_fragments-requires : goal.judge_fragments-requires
judge_fragments-requires c =
    let no-flags : Stamped (doc_of c.args.s.now c.args.rows.now c.args.n) 0 c.clear.new.first = stamped_none _ (c.clear.ensures ∙ ap (λ (k : ℕ). replicate k 0) (c.requires.5 ∙ sym (room_rows _ _))) in
    let no_marks : Stamped (doc_of c.args.s.now c.args.rows.now c.args.n) 0 c.clear-2.new.first = stamped_none _ (c.clear-2.ensures ∙ ap (λ (k : ℕ). replicate k 0) (c.requires.3 ∙ sym (room_rows _ _))) in
    (rowed_sized c.requires.0.rowed, c.requires.1, c.requires.2, no_marks, c.requires.4, no-flags.size ∙ room_rows _ _)

pub judge_uses-requires : goal.judge_uses-requires
judge_uses-requires c =
    let no-flags : Stamped (doc_of c.args.s.now c.args.rows.now c.args.n) 0 c.clear.new.first = stamped_none _ (c.clear.ensures ∙ ap (λ (k : ℕ). replicate k 0) (c.requires.5 ∙ sym (room_rows _ _))) in
    let no_marks : Stamped (doc_of c.args.s.now c.args.rows.now c.args.n) 0 c.clear-2.new.first = stamped_none _ (c.clear-2.ensures ∙ ap (λ (k : ℕ). replicate k 0) (c.requires.3 ∙ sym (room_rows _ _))) in
    let marks : length c.judge_fragments.new.mark ≡ room_of (count (doc_of c.args.s.now c.args.rows.now c.args.n)) = c.judge_fragments.auto.mark ∙ no_marks.size in
    let no-marks-again : Stamped (doc_of c.args.s.now c.args.rows.now c.args.n) 0 c.clear-3.new.first = stamped_none _ (c.clear-3.ensures ∙ ap (λ (k : ℕ). replicate k 0) marks) in
    (c.requires.0, c.requires.1, c.requires.2, no-marks-again, c.judge_fragments.auto.stack ∙ c.requires.4, c.judge_fragments.ensures (table_of c.args.t.now) (flags_none (table_of c.args.t.now) (doc_of c.args.s.now c.args.rows.now c.args.n) _ no-flags))

pub shape_of-flag : goal.shape_of-flag
shape_of-flag c = c.judge_uses.ensures.size ∙ room_rows _ _ ∙ sym c.requires.5

pub returns : goal.returns
returns c = flagged (table_of c.args.t.now) (doc_of c.args.s.now c.args.rows.now c.args.n) c.args.n _ (sym (rows_count c.args.rows.now c.args.n)) c.judge_uses.ensures
