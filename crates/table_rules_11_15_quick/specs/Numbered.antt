-- What is said of a name that is looked up among a field's arguments, with its number.
-- Assumes nothing.
use Rattle.std.specs.Prelude.{◌≡◌, Bool, Option, Some, None, List, ℕ, ◌<◌, length}
use Rattle.std.proofs.Math.Option.{none, some}
use Rattle.paper_table.specs.Lists.{first_at, find}
use Rattle.paper_table.specs.Types.{Argument, argument_named}
use Rattle.table_fields.specs.Fields.{Bounds}
use Rattle.table_members.specs.Members.{argument_from}
use Rattle.table_rules_11_15_quick.specs.declared.Argument.{Argument as AnArgument}

-- the first of a list that passes is this one, of this number
pub record FirstOf {A : Type 0} (p : A → Bool) (xs : List A) (number : ℕ) (one : A) : Type 0 where
  pub number_is : number ≡ first_at p xs
  pub below : number < length xs
  pub is : find p xs ≡ some one

-- the first argument of the name n is the one with this content
pub record ArgumentAt (t : List ℕ) (arguments : List Argument) (n : List ℕ) (number start end : ℕ) : Type 0 where
  pub first : FirstOf (argument_named n) arguments number (argument_from t start end)
  pub bounds : Bounds t start end

abbrev pub ArgumentSought : List ℕ → List Argument → List ℕ → Option AnArgument → Type 0
ArgumentSought t arguments n (Some a) = ArgumentAt t arguments n a.number a.start a.end
ArgumentSought t arguments n None = find (argument_named n) arguments ≡ none
