-- One thing after the other.
use mathlib.Core.Path.{sym, ◌∙◌}
use native.Mathlib.Omega.{arith}
use Rattle.query_rows.specs.Rowed.{doc_of}
use Rattle.query_rows.proofs.RowsIn.{name_within}
use Rattle.query_rule_9.proofs.DirectiveLaws.{known_name, parent_selection, right_unknown, right_elsewhere, right_repeated, right_once}
use Rattle.query_rule_9.proofs.is_right.Goals as goal

pub is_known_directive-requires : goal.is_known_directive-requires
is_known_directive-requires c = let a = c.args in
    omega (arith, c.name_of-at.ensures, c.size_of-l.ensures, name_within a.s.now a.rows.now a.n c.requires.0 a.i)

pub returns-then-not-is_known_directive : goal.returns-then-not-is_known_directive
returns-then-not-is_known_directive c = let a = c.args in
    right_unknown (doc_of a.s.now a.rows.now a.n) a.i (known_name a.s.now a.rows.now a.n a.i _ _ c.name_of-at.ensures c.size_of-l.ensures ∙ sym c.is_known_directive.ensures ∙ c.if-not-is_known_directive.true)

pub returns-then-not-is_selection : goal.returns-then-not-is_selection
returns-then-not-is_selection c = let a = c.args in
    right_elsewhere (doc_of a.s.now a.rows.now a.n) a.i (known_name a.s.now a.rows.now a.n a.i _ _ c.name_of-at.ensures c.size_of-l.ensures ∙ sym c.is_known_directive.ensures ∙ c.if-not-is_known_directive.false) (parent_selection a.rows.now a.n a.i _ c.parent_of-p.ensures ∙ sym c.is_selection.ensures ∙ c.if-not-is_selection.true)

pub returns-then-is_repeated : goal.returns-then-is_repeated
returns-then-is_repeated c = let a = c.args in
    right_repeated (doc_of a.s.now a.rows.now a.n) a.i (known_name a.s.now a.rows.now a.n a.i _ _ c.name_of-at.ensures c.size_of-l.ensures ∙ sym c.is_known_directive.ensures ∙ c.if-not-is_known_directive.false) (parent_selection a.rows.now a.n a.i _ c.parent_of-p.ensures ∙ sym c.is_selection.ensures ∙ c.if-not-is_selection.false) c.requires.3 (sym c.is_repeated.ensures ∙ c.if-is_repeated.true)

pub returns : goal.returns
returns c = let a = c.args in
    c.is_only_if.ensures ∙ right_once (doc_of a.s.now a.rows.now a.n) a.i (known_name a.s.now a.rows.now a.n a.i _ _ c.name_of-at.ensures c.size_of-l.ensures ∙ sym c.is_known_directive.ensures ∙ c.if-not-is_known_directive.false) (parent_selection a.rows.now a.n a.i _ c.parent_of-p.ensures ∙ sym c.is_selection.ensures ∙ c.if-not-is_selection.false) c.requires.3 (sym c.is_repeated.ensures ∙ c.if-is_repeated.false)
