use native.Mathlib.Omega.{arith}
use mathlib.Core.Path.{◌≡◌, sym, ap, ◌∙◌}
use mathlib.Core.List.{List, head?}
use Rattle.paper_table.specs.Types.{table_of}
use Rattle.paper_table.specs.Places.{Place}
use Rattle.paper_table.specs.Promises.{promised_by, promised}
use Rattle.table_places.specs.Placed.{placed}
use Rattle.paper_table.specs.Lists.{each}
use Rattle.table_members.specs.Members.{members_in, implemented_in}
use Rattle.table_types.specs.Booked.{definition_on}
use Rattle.table_rules_11_15.specs.Asked.{asked_of}
use Rattle.table_types.proofs.SlimLaws.{entry_slim}
use Rattle.table_rules_11_15.proofs.MeantLaws.{entry_bounds, entry_asked}
use Rattle.table_rules_11_15.proofs.broken.Goals as goal

pub start_of-requires : goal.start_of-requires
start_of-requires c = let h = c.requires.0.indexed.held in (h.cells, omega (arith, c.requires.2, h.most))

pub end_of-requires : goal.end_of-requires
end_of-requires c = let h = c.requires.0.indexed.held in (h.cells, omega (arith, c.requires.2, h.most))

pub first_place-requires : goal.first_place-requires
first_place-requires c = let a = c.args in
    let p = c.requires in (
      p.0,
      p.1,
      rw (c.start_of.ensures, c.end_of.ensures) (entry_bounds a.t.now a.book.now p.0 a.i p.2),
      rw (c.start_of.ensures, c.end_of.ensures) (entry_slim a.t.now a.book.now p.0 p.1 a.i p.2),
      rw (c.start_of.ensures, c.end_of.ensures) p.3,
    )

pub returns : goal.returns
returns c = let a = c.args in
    let t = a.t.now in
    let z : each (promised_by (asked_of a.rule (table_of t) (members_in t c.start_of.result c.end_of.result)) (table_of t)) (implemented_in t c.start_of.result c.end_of.result)
    ≡ promised (asked_of a.rule (table_of t) (definition_on t a.i).members) (table_of t) (definition_on t a.i) =
    rw (c.start_of.ensures, c.end_of.ensures) (sym (entry_asked t a.book.now c.requires.0 a.rule a.i c.requires.2)) in
    c.first_place.ensures ∙ ap (λ (qs : List Place). placed (head? qs)) z
