-- 1. Type or directive name begins `__`.
use Rattle.paper_table.specs.Lists.{only_if}
use Rattle.paper_table.specs.Types.{is_reserved}
use Rattle.paper_table.specs.Places.{whole_of, Rule}

unfoldable pub reserved_name : Rule
reserved_name t i d = only_if (is_reserved d.name) whole_of
