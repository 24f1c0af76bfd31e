-- Another kind, or not right.
use mathlib.Core.Path.{sym, ◌∙◌}
use Rattle.query_rows.specs.Rowed.{doc_of}
use Rattle.query_rule_9.proofs.DirectiveLaws.{wrong_other, wrong_right}
use Rattle.query_rule_9.proofs.directive_wrong.Goals as goal

pub returns-then-kind_of-ne-KIND_DIRECTIVE : goal.returns-then-kind_of-ne-KIND_DIRECTIVE
returns-then-kind_of-ne-KIND_DIRECTIVE c = let a = c.args in
    wrong_other (doc_of a.s.now a.rows.now a.n) a.i (λ q. c.if-kind_of-ne-KIND_DIRECTIVE.true (c.kind_of.ensures ∙ q))

pub is_right-requires : goal.is_right-requires
is_right-requires c = let p = c.requires in
    (p.0, p.1, p.2, sym c.kind_of.ensures ∙ c.if-kind_of-ne-KIND_DIRECTIVE.false)

pub returns : goal.returns
returns c = let a = c.args in
    rw c.is_right.ensures (wrong_right (doc_of a.s.now a.rows.now a.n) a.i (sym c.kind_of.ensures ∙ c.if-kind_of-ne-KIND_DIRECTIVE.false))
