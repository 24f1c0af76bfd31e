-- The record itself, or by the names.
use mathlib.Core.Path.{◌∙◌}
use native.Mathlib.Omega.{arith}
use Rattle.paper_table.specs.Types.{table_of}
use Rattle.plan_walk_types.proofs.FitLaws.{applies_self, applies_other}
use Rattle.plan_walk_types.proofs.does_apply.Goals as goal

pub returns-then-k-o : goal.returns-then-k-o
returns-then-k-o c = let a = c.args in
    applies_self (table_of a.t.now) a.k a.o c.if-k-o.true

pub can_be-requires : goal.can_be-requires
can_be-requires c = let a = c.args in let p = c.requires in
    (p.0, omega (arith, (p.0.entered a.k p.1).name_within, c.name_of.ensures, c.size_of.ensures), omega (arith, (p.0.entered a.o p.2).name_within, c.name_of-2.ensures, c.size_of-2.ensures))

pub returns : goal.returns
returns c = let a = c.args in let p = c.requires in
    c.can_be.ensures ∙ applies_other a.t.now a.book.now p.0 a.k a.o p.1 p.2 c.if-k-o.false _ _ _ _ c.name_of.ensures c.size_of.ensures c.name_of-2.ensures c.size_of-2.ensures
