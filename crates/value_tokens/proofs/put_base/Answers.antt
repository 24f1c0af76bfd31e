-- By the row's kind.
use mathlib.Core.Path.{sym, ap, ◌∙◌}
use Prim.Native.Nat.{ℕ}
use native.Mathlib.Omega.{arith}
use lib.Dec.{eqb}
use Rattle.paper.specs.Numbers.{extra_true}
use Rattle.query_rows.specs.Rowed.{doc_of}
use Rattle.query_rows.proofs.RowsIn.{name_within}
use Rattle.value_tokens.proofs.TokenLaws.{base_boolean, base_enum, base_token, name_is}
use Rattle.value_tokens.proofs.put_base.Goals as goal

pub returns-then-kind-eq-KIND_BOOLEAN : goal.returns-then-kind-eq-KIND_BOOLEAN
returns-then-kind-eq-KIND_BOOLEAN c = let a = c.args in let d = doc_of a.s.now a.rows.now a.n in
    λ vars text read name q. base_boolean a.t.now a.book.now d a.i a.sort a.number a.limit a.from a.out.now _ _ vars text read name q _ (sym c.kind_of-kind.ensures ∙ c.if-kind-eq-KIND_BOOLEAN.true) (ap (λ (x : ℕ). eqb x extra_true) c.extra_of-extra.ensures) c.put_truth.ensures

pub put_enum-requires : goal.put_enum-requires
put_enum-requires c = let a = c.args in (c.requires.0, omega (arith, name_within a.s.now a.rows.now a.n c.requires.1 a.i, c.name_of-at.ensures, c.size_of-l.ensures), c.requires.3, c.requires.4)

pub returns-then-kind-eq-KIND_ENUM : goal.returns-then-kind-eq-KIND_ENUM
returns-then-kind-eq-KIND_ENUM c = let a = c.args in let d = doc_of a.s.now a.rows.now a.n in
    λ vars text read name q. base_enum a.t.now a.book.now d a.i a.sort a.number a.limit a.from a.out.now _ _ vars text read name q _ (sym c.kind_of-kind.ensures ∙ c.if-kind-eq-KIND_ENUM.true) (name_is a.s.now a.rows.now a.n a.i _ _ c.name_of-at.ensures c.size_of-l.ensures) c.put_enum.ensures

pub returns : goal.returns
returns c = let a = c.args in let d = doc_of a.s.now a.rows.now a.n in
    λ vars text read name q. base_token a.t.now a.book.now d a.i a.sort a.number a.limit a.from a.out.now _ _ vars text read name q c.put_token.ensures c.requires.5 c.requires.6 (λ e. c.if-kind-eq-KIND_BOOLEAN.false (c.kind_of-kind.ensures ∙ e)) (λ e. c.if-kind-eq-KIND_ENUM.false (c.kind_of-kind.ensures ∙ e)) c.requires.7
