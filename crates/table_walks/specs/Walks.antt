-- The places of members, arguments and implemented names that break a rule, by the rule's number.
-- Assumes nothing.
use Rattle.std.specs.Prelude.{List, ℕ}
use Rattle.paper_table.specs.Lists.{each, only_if}
use Rattle.paper_table.specs.Types.{Member, Table}
use Rattle.paper_table.specs.Places.{Place, member_at, argument_places, member_places}
use Rattle.table_bases.specs.Meanings.{implemented_fails}
use Rattle.table_faults.specs.Faults.{member_fails, argument_fails}

-- of member m the arguments, and the member behind them, one of these members
abbrev pub arguments_at : ℕ → Table → ℕ → Member → List Place
arguments_at rule t m e = argument_places (λ e. argument_fails rule t e.arguments) m e

abbrev pub member_and_arguments_at : ℕ → Table → List Member → ℕ → Member → List Place
member_and_arguments_at rule t ms m e = member_places (member_fails rule t ms) (λ e. argument_fails rule t e.arguments) m e

-- of all members
abbrev pub members_at : ℕ → Table → List Member → List Place
members_at rule t ms = each (member_and_arguments_at rule t ms) ms

-- of all implemented names
abbrev pub name_at : ℕ → Table → List (List ℕ) → ℕ → List ℕ → List Place
name_at rule t ns m n = only_if (implemented_fails rule t ns m n) (member_at m)

abbrev pub implemented_at : ℕ → Table → List (List ℕ) → List Place
implemented_at rule t ns = each (name_at rule t ns) ns
