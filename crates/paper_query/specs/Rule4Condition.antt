-- 4 type condition not object, interface or union (its row). (Also of a name that means no type.)
use Rattle.std.specs.Prelude.{Bool, not, ◌&&◌, ◌||◌, ℕ}
use Rattle.paper.specs.Numbers.{kind_fragment, kind_inline, kind_type_reference}
use Rattle.paper.specs.Rows.{Row}
use Rattle.paper_table.specs.Types.{Table, meant, is_composite}
use Rattle.paper_query.specs.Constructs.{Doc, is, row_of, parent_of, name_of}

-- a fragment, whose type reference is a condition
abbrev pub is_fragment : Row → Bool
is_fragment r = is kind_fragment r || is kind_inline r

unfoldable pub condition_wrong : Table → Doc → ℕ → Bool
condition_wrong t d i = is kind_type_reference (row_of d i) && (is_fragment (row_of d (parent_of d i)) && not (is_composite (meant t (name_of d i))))
