use native.Mathlib.Omega.{arith}
use mathlib.Core.Path.{◌≡◌, sym, ap, ◌∙◌}
use mathlib.Core.List.{List, head?}
use Rattle.paper_table.specs.Types.{table_of}
use Rattle.paper_table.specs.Places.{Place}
use Rattle.paper_table.specs.Promises.{promised_by}
use Rattle.table_places.specs.Placed.{placed}
use Prim.Native.Nat.{◌-◌, ◌<◌}
use Rattle.paper_table.specs.Lists.{each}
use Rattle.table_book.specs.Book.{part, count_in}
use Rattle.table_members.specs.Members.{members_in}
use Rattle.table_rules_11_15.specs.Asked.{asked_of}
use Rattle.table_types.proofs.SlimLaws.{entry_slim}
use Rattle.table_rules_11_15.proofs.MeantLaws.{entry_bounds, kind_below, meant_other, meant_interface}
use Rattle.table_rules_11_15.proofs.name_place.Goals as goal

pub overflow_sub-end : goal.overflow_sub-end
overflow_sub-end c = c.requires.2.order

pub number_meant-k-requires : goal.number_meant-k-requires
number_meant-k-requires c = let p = c.requires in
    (p.0, omega (arith, p.2.order, p.2.within))

pub kind_in-requires : goal.kind_in-requires
kind_in-requires c = let h = c.requires.0.indexed.held in (h.cells, h.most)

pub returns-then-kind_in-ne-RECORD_INTERFACE : goal.returns-then-kind_in-ne-RECORD_INTERFACE
returns-then-kind_in-ne-RECORD_INTERFACE c = let a = c.args in
    meant_other a.t.now a.book.now c.requires.0 (asked_of a.rule (table_of a.t.now) (members_in a.t.now a.from a.stop)) (part a.t.now a.at (a.end - a.at)) a.member c.number_meant-k.result c.number_meant-k.ensures
    (λ q. c.if-kind_in-ne-RECORD_INTERFACE.true (c.kind_in.ensures ∙ q))

pub start_of-requires : goal.start_of-requires
start_of-requires c =
    let below : c.number_meant-k.result < count_in c.args.book.now = kind_below c.args.t.now c.args.book.now c.requires.0 c.number_meant-k.result (sym c.kind_in.ensures ∙ c.if-kind_in-ne-RECORD_INTERFACE.false) in
    let h = c.requires.0.indexed.held in (h.cells, omega (arith, below, h.most))

pub end_of-requires : goal.end_of-requires
end_of-requires c =
    let below : c.number_meant-k.result < count_in c.args.book.now = kind_below c.args.t.now c.args.book.now c.requires.0 c.number_meant-k.result (sym c.kind_in.ensures ∙ c.if-kind_in-ne-RECORD_INTERFACE.false) in
    let h = c.requires.0.indexed.held in (h.cells, omega (arith, below, h.most))

pub interface_place-requires : goal.interface_place-requires
interface_place-requires c =
    let below : c.number_meant-k.result < count_in c.args.book.now = kind_below c.args.t.now c.args.book.now c.requires.0 c.number_meant-k.result (sym c.kind_in.ensures ∙ c.if-kind_in-ne-RECORD_INTERFACE.false) in
    let a = c.args in
    let p = c.requires in
    let k = c.number_meant-k.result in
    let h = below in (
      p.0,
      rw (c.start_of.ensures, c.end_of.ensures) (entry_bounds a.t.now a.book.now p.0 k h),
      p.3,
      rw (c.start_of.ensures, c.end_of.ensures) (entry_slim a.t.now a.book.now p.0 p.1 k h),
      p.4,
      p.5,
    )

pub returns : goal.returns
returns c = let a = c.args in
    let ask = asked_of a.rule (table_of a.t.now) (members_in a.t.now a.from a.stop) in
    let n = part a.t.now a.at (a.end - a.at) in
    let z : each (ask a.member) (members_in a.t.now c.start_of.result c.end_of.result) ≡ promised_by ask (table_of a.t.now) a.member n =
    rw (c.start_of.ensures, c.end_of.ensures) (sym (meant_interface a.t.now a.book.now c.requires.0 ask n a.member c.number_meant-k.result c.number_meant-k.ensures (sym c.kind_in.ensures ∙ c.if-kind_in-ne-RECORD_INTERFACE.false))) in
    c.interface_place.ensures ∙ ap (λ (qs : List Place). placed (head? qs)) z
