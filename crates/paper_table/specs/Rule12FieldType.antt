-- 12. Field type not a sub-type.
use Rattle.std.specs.Prelude.{Bool, not}
use Rattle.paper_table.specs.Lists.{only_if}
use Rattle.paper_table.specs.Types.{Member, Definition, Table, can_be}
use Rattle.paper_table.specs.SubTypes.{sub_test}
use Rattle.paper_table.specs.Places.{part_at, Rule}
use Rattle.paper_table.specs.Promises.{FieldBreaks, promised, own, if_any}

abbrev pub no_sub_type : Table → Member → Member → Bool
no_sub_type t f e = not (sub_test (can_be t) e.type f.type)

abbrev pub type_breaks : Table → Definition → FieldBreaks
type_breaks t d m p f = if_any (own d f) (λ e. only_if (no_sub_type t f e) (part_at m p))

unfoldable pub field_type : Rule
field_type t i d = promised (type_breaks t d) t d
