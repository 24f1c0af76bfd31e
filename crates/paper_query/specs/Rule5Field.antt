-- 5 field not of the enclosing type; `__typename` is of every one.
use Rattle.std.specs.Prelude.{Bool, true, false, ◌&&◌, ℕ}
use Rattle.paper.specs.Numbers.{kind_field}
use Rattle.paper_table.specs.Types.{Table}
use Rattle.paper_query.specs.Constructs.{Doc, is, row_of}
use Rattle.paper_query.specs.Enclosing.{FieldIs, typename, member, missing, unknown, field_at}

abbrev pub is_missing : FieldIs → Bool
is_missing typename = false
is_missing (member e) = false
is_missing missing = true
is_missing unknown = false

unfoldable pub field_not_of_type : Table → Doc → ℕ → Bool
field_not_of_type t d i = is kind_field (row_of d i) && is_missing (field_at t d i)
