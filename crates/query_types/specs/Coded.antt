-- A type with selections as one number.
-- Assumes nothing.
use Rattle.std.specs.Prelude.{◌≡◌, ℕ, zero, suc}
use Rattle.std.proofs.Math.Option.{Option, none, some}
use Rattle.paper_table.specs.Types.{Table}
use Rattle.paper_query.proofs.EnclosingLaws.{Composite}

-- 0 is no type, others are one more than a definition's number
abbrev pub type_coded : ℕ → Option ℕ
type_coded zero = none
type_coded (suc k) = some k

-- the type, if it is one, is an object, interface or union of the table
abbrev pub TypeKnown : Table → ℕ → Type 0
TypeKnown t c = (k : ℕ) → type_coded c ≡ some k → Composite t k
