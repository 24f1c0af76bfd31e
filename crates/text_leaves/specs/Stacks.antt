-- The symbols that the readers of values and entries read.
use Rattle.std.specs.Prelude.{◌≡◌, Bool, true, false, ◌⊎◌, [], ◌∷◌, ℕ}
use Rattle.paper.specs.Grammar.{nt, tm, act}
use Rattle.paper.specs.Numbers.{kind_argument, kind_object_field}
use Rattle.paper.specs.Language.{the, row, kind, named, end, Part, Value, ConstValue, Name, colon}
use Rattle.paper.proofs.Going.{Stack}

abbrev pub value_part : Bool → Part
value_part true = ConstValue
value_part false = Value

abbrev pub value_stack : Bool → Stack
value_stack constant = nt (value_part constant) ∷ []

-- Argument, ObjectField and ConstObjectField: the production of each, by its kind
abbrev pub entry_stack : ℕ → Bool → Stack
entry_stack k constant = act row ∷ act (kind k 0) ∷ act named ∷ nt Name ∷ tm (the colon) ∷ nt (value_part constant) ∷ act end ∷ []

-- the kinds of rows that an entry has
abbrev pub EntryKind : ℕ → Type 0
EntryKind k = (k ≡ kind_argument) ⊎ (k ≡ kind_object_field)
