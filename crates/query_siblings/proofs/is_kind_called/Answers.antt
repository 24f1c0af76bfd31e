-- The kind first, then the name.
use mathlib.Core.Path.{sym, ◌∙◌}
use borrow.Author.Tests.{eq-eqb, ne_eqb}
use Rattle.query_siblings.proofs.is_kind_called.Goals as goal

pub returns-then-kind_of-k : goal.returns-then-kind_of-k
returns-then-kind_of-k c = let a = c.args in
    rw (ne_eqb _ _ (λ q. c.if-kind_of-k.true (c.kind_of.ensures ∙ q)))

pub returns : goal.returns
returns c = rw (eq-eqb _ _ (sym c.kind_of.ensures ∙ c.if-kind_of-k.false)) c.is_called.ensures
