-- By the number of the first.
use mathlib.Core.Path.{sym, ap, ◌∙◌}
use Prim.Native.Nat.{ℕ}
use lib.Dec.{ltb}
use Rattle.paper_table.specs.Types.{table_of, is_roots}
use Rattle.paper_table.proofs.ListsLaws.{any_first}
use Rattle.table_judge.proofs.has_roots.Goals as goal

pub returns : goal.returns
returns c = let a = c.args in
    ap (λ (k : ℕ). ltb k c.count_of.result) c.first_roots.ensures
    ∙ ap (ltb _) (c.count_of.ensures ∙ c.requires.count)
    ∙ sym (any_first is_roots (table_of a.t.now))
