-- The lists among a type's wrappers, and lists of one.
-- Assumes nothing.
use Rattle.std.specs.Prelude.{◌≡◌, List, ℕ, zero, suc, ◌+◌, ◌*◌, ◌≤◌, ◌<◌, length}
use Rattle.paper_table.specs.References.{Ref, named, list_of, non_null}
use Rattle.table_fields.specs.Wrappers.{pack_limit}
use Rattle.paper_values.specs.Values.{Tree, Many, no_more, also, Out, Got, and_then}
use Rattle.value_writing.specs.Writing.{most_limit}

-- the lists among a type's wrappers; the type without Non-Null outside
abbrev pub lists_of : Ref → ℕ
lists_of (named n) = 0
lists_of (list_of r) = suc (lists_of r)
lists_of (non_null r) = lists_of r

abbrev pub nullable_of : Ref → Ref
nullable_of (named n) = named n
nullable_of (list_of r) = list_of r
nullable_of (non_null r) = nullable_of r

-- a value in m lists of one, each in the other
abbrev pub ones : ℕ → Out Tree → Out Tree
ones zero o = o
ones (suc m) o = and_then (ones m o) (λ x. Got (Many (also x no_more)))

-- the heads of m lists may be put, three bytes each from `from` on, before content that stands behind them, up to `at`
pub record Inside (limit from m at : ℕ) (d : List ℕ) : Type 0 where
  pub least : limit ≤ most_limit
  pub place : from ≤ limit + 1
  pub few : m < pack_limit
  pub end : at ≤ limit + 1
  pub order : at ≤ limit → from + 3 * m ≤ at
  pub size : length d ≡ limit
