-- By what is found.
use mathlib.Core.Path.{◌≡◌, sym, ap, ◌∙◌}
use mathlib.Core.List.{List}
use Prim.Native.Nat.{ℕ}
use Rattle.std.specs.Prelude.{Option, Some, None}
use Rattle.std.specs.Option.{is_some}
use Rattle.paper_table.specs.References.{found}
use Rattle.paper_table.specs.Types.{table_of}
use Rattle.paper_query.specs.Enclosing.{root_of}
use Rattle.query_roots.specs.declared.Root.{Root}
use Rattle.query_roots.specs.declared.Root.TheVariants.{Written, Query}
use Rattle.query_roots.specs.Rooted.{RootFinds}
use Rattle.query_roots.proofs.has_root.Goals as goal

seen : (t : List ℕ) (x : ℕ) (r : Option Root) → RootFinds t x r → is_some r ≡ found (root_of (table_of t) x)
seen t x (Some (Written tag start end)) h = sym (ap found h.is)
seen t x (Some Query) h = sym (ap found h)
seen t x None h = sym (ap found h)

pub returns : goal.returns
returns c = c.is_some.ensures ∙ seen c.args.t.now c.args.x _ c.find_root.ensures
