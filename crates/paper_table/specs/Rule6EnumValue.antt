-- 6. Enum value `true`, `false`, `null`.
use Rattle.std.specs.Prelude.{Bool, cond, List, [], ◌∷◌, ℕ}
use Rattle.paper.specs.Tokens.{same}
use Rattle.paper_table.specs.Lists.{bytes, any_of}
use Rattle.paper_table.specs.Types.{Member, is_enum}
use Rattle.paper_table.specs.Places.{Rule, members_that}

unfoldable pub no_enum_values : List (List ℕ)
no_enum_values = bytes "true" ∷ bytes "false" ∷ bytes "null" ∷ []

abbrev pub is_no_enum_value : ℕ → Member → Bool
is_no_enum_value m e = any_of (same e.name) no_enum_values

unfoldable pub enum_value : Rule
enum_value t i d = cond (is_enum d) (members_that is_no_enum_value d) []
