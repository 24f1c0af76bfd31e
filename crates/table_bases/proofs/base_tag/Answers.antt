-- The reference's name, and what it means.
use mathlib.Core.Path.{ap, ◌∙◌}
use mathlib.Core.List.{List}
use Prim.Native.Nat.{ℕ}
use Rattle.paper_table.specs.Types.{table_of, meant}
use Rattle.table_bases.proofs.base_tag.Goals as goal

pub returns : goal.returns
returns c = c.tag_meant.ensures ∙ ap (λ (x : List ℕ). (meant (table_of c.args.t.now) x).tag) c.type_in-r.ensures.base
