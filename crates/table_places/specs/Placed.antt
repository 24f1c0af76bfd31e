-- What an answer on a definition's places means.
-- Assumes nothing.
use Rattle.std.specs.Prelude.{Result, Ok, Err}
use Prim.{Unit, tt}
use Rattle.std.proofs.Math.Option.{Option, none, some}
use Rattle.paper_table.specs.Places.{Place}
use Rattle.table_places.specs.declared.Place.{Place as CodePlace}

-- a place, as the code has it
abbrev pub code_place : Place → CodePlace
code_place q = record { member = q.member; part = q.part; argument = q.argument }

-- a rule's first place, if there is one, as the code has it
abbrev pub placed : Option Place → Result (Unit {0}) CodePlace
placed none = Ok tt
placed (some q) = Err (code_place q)
