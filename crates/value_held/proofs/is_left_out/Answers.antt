-- By the levels left, the kind, and then the name.
use mathlib.Core.Path.{sym, ap, ◌∙◌}
use lib.Dec.{leb}
use Rattle.query_rows.specs.Rowed.{doc_of}
use Rattle.query_rows.proofs.RowsIn.{rowed_sized}
use Rattle.value_held.proofs.GivenLaws.{out_none, out_other, out_level}
use Rattle.value_held.proofs.is_left_out.Goals as goal

pub returns-then-levels-eq0 : goal.returns-then-levels-eq0
returns-then-levels-eq0 c = let a = c.args in λ vars g. out_none vars (doc_of a.s.now a.rows.now a.n) a.levels a.i c.if-levels-eq0.true

pub kind_of-requires : goal.kind_of-requires
kind_of-requires c = rowed_sized c.requires.0

pub returns-then-kind_of-ne-KIND_VARIABLE : goal.returns-then-kind_of-ne-KIND_VARIABLE
returns-then-kind_of-ne-KIND_VARIABLE c = let a = c.args in λ vars g. out_other vars (doc_of a.s.now a.rows.now a.n) a.levels a.i (λ e. c.if-kind_of-ne-KIND_VARIABLE.true (c.kind_of.ensures ∙ e))

pub held_at-requires : goal.held_at-requires
held_at-requires c = c.requires

pub returns : goal.returns
returns c = let a = c.args in λ vars g. out_level vars (doc_of a.s.now a.rows.now a.n) a.levels a.i c.if-levels-eq0.false (sym c.kind_of.ensures ∙ c.if-kind_of-ne-KIND_VARIABLE.false) _ (g _ ∙ ap (leb a.many) (sym c.held_at.ensures))
