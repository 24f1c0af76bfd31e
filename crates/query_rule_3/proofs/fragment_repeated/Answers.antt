-- Another kind, or by the first fragment of its name.
use mathlib.Core.Path.{sym, ap, ◌∙◌}
use Prim.Native.Nat.{ℕ}
use native.Mathlib.Omega.{arith}
use lib.Dec.{ltb}
use Rattle.query_rows.specs.Rowed.{doc_of}
use Rattle.query_rows.proofs.RowsIn.{rows_count}
use Rattle.query_rule_3.proofs.RuleLaws.{fragment_other, fragment_earlier}
use Rattle.query_rule_3.proofs.fragment_repeated.Goals as goal

pub returns-then-kind_of-ne-KIND_FRAGMENT : goal.returns-then-kind_of-ne-KIND_FRAGMENT
returns-then-kind_of-ne-KIND_FRAGMENT c = let a = c.args in
    fragment_other (doc_of a.s.now a.rows.now a.n) a.i (λ q. c.if-kind_of-ne-KIND_FRAGMENT.true (c.kind_of.ensures ∙ q))

pub returns : goal.returns
returns c = let a = c.args in
    ap (λ (x : ℕ). ltb x a.i) c.fragment_named.ensures ∙ fragment_earlier (doc_of a.s.now a.rows.now a.n) a.i (sym c.kind_of.ensures ∙ c.if-kind_of-ne-KIND_FRAGMENT.false) (omega (arith, c.requires.2, rows_count a.rows.now a.n))
