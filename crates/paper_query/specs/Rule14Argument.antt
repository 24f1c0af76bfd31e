-- 14 argument unknown to the field. (The field is the enclosing type's; `__typename` has none.)
use Rattle.std.specs.Prelude.{Bool, true, false, not, ◌&&◌, List, ℕ}
use Rattle.paper.specs.Numbers.{kind_field, kind_argument}
use Rattle.paper_table.specs.Lists.{any_of}
use Rattle.paper_table.specs.Types.{Table, argument_named}
use Rattle.paper_query.specs.Constructs.{Doc, is, row_of, parent_of, name_of}
use Rattle.paper_query.specs.Enclosing.{FieldIs, typename, member, missing, unknown, field_at}

abbrev pub has_no_argument : FieldIs → List ℕ → Bool
has_no_argument typename n = true
has_no_argument (member e) n = not (any_of (argument_named n) e.arguments)
has_no_argument missing n = false
has_no_argument unknown n = false

unfoldable pub argument_unknown : Table → Doc → ℕ → Bool
argument_unknown t d i = is kind_argument (row_of d i) && (is kind_field (row_of d (parent_of d i)) && has_no_argument (field_at t d (parent_of d i)) (name_of d i))
