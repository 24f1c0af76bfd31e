-- An earlier one is like row i if the first such is before it.
use mathlib.Core.Path.{ap, ◌∙◌}
use Prim.Native.Nat.{ℕ}
use native.Mathlib.Omega.{arith}
use lib.Dec.{ltb}
use Rattle.query_rows.specs.Rowed.{doc_of}
use Rattle.query_rows.proofs.RowsIn.{rows_count}
use Rattle.query_siblings.proofs.TwiceLaws.{like_earlier}
use Rattle.query_siblings.proofs.is_repeated.Goals as goal

pub returns : goal.returns
returns c = let a = c.args in
    ap (λ (x : ℕ). ltb x a.i) c.first_like.ensures ∙ like_earlier (doc_of a.s.now a.rows.now a.n) a.i (omega (arith, c.requires.2, rows_count a.rows.now a.n))
