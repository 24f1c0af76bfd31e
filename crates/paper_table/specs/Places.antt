-- Places in a definition, and what a schema rule is: of a definition, the places that break it.
-- States: 01, "The type table": "An implemented name's member is its place among these, also in rules 11 to 15; there part is the interface's field,
-- argument counted in it (15: in the object's). A directive's members are its arguments, record 8's its roots."
-- Assumes nothing.
use Rattle.std.specs.Prelude.{Bool, List, ◌++◌, ℕ}
use Rattle.paper_table.specs.TableNumbers.{no_place}
use Rattle.paper_table.specs.Lists.{each, only_if}
use Rattle.paper_table.specs.Types.{Argument, Member, Definition, Table}

-- a place in a definition; 65,535 is none
pub record Place : Type 0 where
  pub member : ℕ
  pub part : ℕ
  pub argument : ℕ

-- the definition itself; its member m, or implemented name; an argument of the member; of an implemented name the interface's field p, its argument a
abbrev pub whole_of : Place
whole_of = record { member = no_place; part = no_place; argument = no_place }

abbrev pub member_at : ℕ → Place
member_at m = record { member = m; part = no_place; argument = no_place }

abbrev pub argument_at : ℕ → ℕ → Place
argument_at m a = record { member = m; part = no_place; argument = a }

abbrev pub part_at : ℕ → ℕ → Place
part_at m p = record { member = m; part = p; argument = no_place }

abbrev pub part_argument_at : ℕ → ℕ → ℕ → Place
part_argument_at m p a = record { member = m; part = p; argument = a }

-- A rule: where the table's definition of a number breaks it, in order.
abbrev pub Rule : Type 0
Rule = Table → ℕ → Definition → List Place

-- the members that fail
abbrev pub members_that : (ℕ → Member → Bool) → Definition → List Place
members_that fails d = each (λ m e. only_if (fails m e) (member_at m)) d.members

-- the members and arguments that fail; a member's arguments come before itself, since 65,535 is more than any number
abbrev pub argument_places : (Member → ℕ → Argument → Bool) → ℕ → Member → List Place
argument_places argument_fails m e = each (λ a x. only_if (argument_fails e a x) (argument_at m a)) e.arguments

abbrev pub member_places : (ℕ → Member → Bool) → (Member → ℕ → Argument → Bool) → ℕ → Member → List Place
member_places fails argument_fails m e = argument_places argument_fails m e ++ only_if (fails m e) (member_at m)

abbrev pub members_or_arguments_that : (ℕ → Member → Bool) → (Member → ℕ → Argument → Bool) → Definition → List Place
members_or_arguments_that fails argument_fails d = each (member_places fails argument_fails) d.members

-- the implemented names that fail
abbrev pub implemented_that : (ℕ → List ℕ → Bool) → Definition → List Place
implemented_that fails d = each (λ m n. only_if (fails m n) (member_at m)) d.implements
