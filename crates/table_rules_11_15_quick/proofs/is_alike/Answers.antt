-- Of one text.
use mathlib.Core.Path.{sym, ◌∙◌}
use native.Mathlib.Omega.{arith}
use Rattle.table_rules_11_15_quick.proofs.KeepingLaws.{alike_types}
use Rattle.table_rules_11_15_quick.proofs.is_alike.Goals as goal

pub overflow_sub-p : goal.overflow_sub-p
overflow_sub-p c = c.find_tag-p.ensures.order

pub overflow_sub-q : goal.overflow_sub-q
overflow_sub-q c = c.find_tag-q.ensures.order

pub is_text-requires : goal.is_text-requires
is_text-requires c = let f = c.find_tag-p.ensures in
    let g = c.find_tag-q.ensures in
    (omega (arith, f.order, f.within, c.requires.0.within), omega (arith, g.order, g.within, c.requires.1.within))

pub returns : goal.returns
returns c = let a = c.args in
    λ e. alike_types a.t.now a.start a.end a.from a.stop _ _ _ _ c.find_tag-p.ensures c.find_tag-q.ensures (sym c.is_text.ensures ∙ e)
