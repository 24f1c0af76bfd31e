-- What stands right below a variable definition, and the answer of the code that looks for its default.
-- Assumes nothing.
use Rattle.std.specs.Prelude.{Bool, ◌&&◌, ℕ, Option as Maybe, Some, None}
use Rattle.std.proofs.Math.Option.{Option, none, some}
use Rattle.paper.specs.Numbers.{kind_type_reference}
use Rattle.paper.specs.Rows.{Row}
use Rattle.paper_query.specs.Constructs.{is, below, is_value}

-- a value, and a type reference, right below row v
abbrev pub is_default : ℕ → Row → Bool
is_default v r = is_value r && below v r

abbrev pub is_declared : ℕ → Row → Bool
is_declared v r = is kind_type_reference r && below v r

abbrev pub told : Option ℕ → Maybe ℕ
told none = None
told (some i) = Some i
