-- 6 leaf with selections, or other type without. (A leaf is a scalar or an enum; `__typename` is one.)
use Rattle.std.specs.Prelude.{Bool, true, false, not, ◌&&◌, ℕ}
use Rattle.paper.specs.Numbers.{kind_field}
use Rattle.paper_table.specs.Lists.{any_of}
use Rattle.paper_table.specs.References.{base_of}
use Rattle.paper_table.specs.Types.{Table, meant, is_composite}
use Rattle.paper_query.specs.Constructs.{Doc, is, is_selection, below, row_of}
use Rattle.paper_query.specs.Enclosing.{FieldIs, typename, member, missing, unknown, field_at}

unfoldable pub has_selections : Doc → ℕ → Bool
has_selections d i = any_of (λ r. is_selection r && below i r) d.rows

-- it has selections although it is a leaf, or has none although it is an object, interface or union
abbrev pub unlike : Table → FieldIs → Bool → Bool
unlike t typename selects = selects
unlike t (member e) true = not (is_composite (meant t (base_of e.type)))
unlike t (member e) false = is_composite (meant t (base_of e.type))
unlike t missing selects = false
unlike t unknown selects = false

unfoldable pub leaf_wrong : Table → Doc → ℕ → Bool
leaf_wrong t d i = is kind_field (row_of d i) && unlike t (field_at t d i) (has_selections d i)
