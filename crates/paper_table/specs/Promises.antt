-- For rules 11 to 15: what an interface promises of the definitions that implement it.
-- Assumes nothing.
use Rattle.std.specs.Prelude.{cond, List, [], ℕ}
use Rattle.std.proofs.Math.Option.{Option, none, some}
use Rattle.paper_table.specs.Lists.{find, each}
use Rattle.paper_table.specs.Types.{Member, Definition, Table, is_interface, meant, member_named}
use Rattle.paper_table.specs.Places.{Place}

-- For 11 to 15: what is asked of each field f, number p, of each interface that the definition implements, number m.
abbrev pub FieldBreaks : Type 0
FieldBreaks = ℕ → ℕ → Member → List Place

abbrev pub promised_by : FieldBreaks → Table → ℕ → List ℕ → List Place
promised_by ask t m n = cond (is_interface (meant t n)) (each (ask m) (meant t n).members) []

unfoldable pub promised : FieldBreaks → Table → Definition → List Place
promised ask t d = each (promised_by ask t) d.implements

-- the definition's own field of that name, the first
abbrev pub own : Definition → Member → Option Member
own d f = find (member_named f.name) d.members

-- what is asked of it, if there is one
abbrev pub if_any : {A B : Type 0} → Option A → (A → List B) → List B
if_any none f = []
if_any (some x) f = f x
