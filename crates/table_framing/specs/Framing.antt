-- The code's answers on framing.
-- Assumes nothing.
use Rattle.std.specs.Prelude.{Bool, false, not, Result, Ok, Err, ◌&&◌, List, ℕ, eqb}
use Prim.{Unit, tt}
use Rattle.std.proofs.Math.Option.{Option, none, some}
use Rattle.paper_table.specs.TableNumbers.{tag_roots}
use Rattle.paper_table.specs.References.{is_name, is_reference}
use Rattle.table_framing.specs.declared.Holding.{Holding}
use Rattle.table_framing.specs.declared.Holding.TheVariants.{Name, Reference, Fields, Nothing}

-- the first wrong offset, if there is one
abbrev pub told : Option ℕ → Result (Unit {0}) ℕ
told none = Ok tt
told (some at) = Err at

-- a content that is no fields is right
abbrev pub is_leaf : Holding → List ℕ → Bool
is_leaf Name s = is_name s
is_leaf Reference s = is_reference s
is_leaf (Fields first second from to) s = false
is_leaf Nothing s = false

-- behind a record of this tag an 8 may still come
abbrev pub roots_after : Bool → ℕ → Bool
roots_after roots k = roots && not (eqb k tag_roots)
