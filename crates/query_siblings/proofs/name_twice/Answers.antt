-- By its kind: an argument, a variable definition, another.
use mathlib.Core.Path.{sym, ◌∙◌}
use Rattle.query_rows.specs.Rowed.{doc_of}
use Rattle.query_siblings.proofs.TwiceLaws.{twice_argument, twice_variable, twice_other}
use Rattle.query_siblings.proofs.name_twice.Goals as goal

pub returns-then-k-eq-KIND_ARGUMENT : goal.returns-then-k-eq-KIND_ARGUMENT
returns-then-k-eq-KIND_ARGUMENT c = let a = c.args in
    c.is_repeated.ensures ∙ twice_argument (doc_of a.s.now a.rows.now a.n) a.i (sym c.kind_of-k.ensures ∙ c.if-k-eq-KIND_ARGUMENT.true)

pub returns-then-k-eq-KIND_VARIABLE_DEFINITION : goal.returns-then-k-eq-KIND_VARIABLE_DEFINITION
returns-then-k-eq-KIND_VARIABLE_DEFINITION c = let a = c.args in
    c.is_repeated-then-k-eq-KIND_VARIABLE_DEFINITION.ensures ∙ twice_variable (doc_of a.s.now a.rows.now a.n) a.i (λ q. c.if-k-eq-KIND_ARGUMENT.false (c.kind_of-k.ensures ∙ q)) (sym c.kind_of-k.ensures ∙ c.if-k-eq-KIND_VARIABLE_DEFINITION.true)

pub returns : goal.returns
returns c = let a = c.args in
    twice_other (doc_of a.s.now a.rows.now a.n) a.i (λ q. c.if-k-eq-KIND_ARGUMENT.false (c.kind_of-k.ensures ∙ q)) (λ q. c.if-k-eq-KIND_VARIABLE_DEFINITION.false (c.kind_of-k.ensures ∙ q))
