-- The arguments first, then the member before them, so that nothing is written twice.
use mathlib.Core.Path.{ap}
use mathlib.Core.List.{List}
use lib.ListN.{length}
use Rattle.paper_table.specs.Types.{Argument}
use Rattle.table_members.specs.Members.{member_from}
use Rattle.table_entries.proofs.Runs.{roomy_less, roomy_same}
use Rattle.table_entries.proofs.Writes.{member_written}
use native.Mathlib.Omega.{arith}
use Rattle.table_entries.proofs.enter_member.Goals as goal

pub enter_arguments-next-requires : goal.enter_arguments-next-requires
enter_arguments-next-requires c = let p = c.requires in
    let f = c.read_header-h.ensures.arguments in
    (record { order = f.order; within = p.0.within; most = p.0.most }, p.1, roomy_less p.2 (omega (arith, ap (λ (xs : List Argument). length xs) f.are)))

pub enter_header-requires : goal.enter_header-requires
enter_header-requires c = let p = c.requires in
    let h = c.read_header-h.ensures in
    let w = c.enter_arguments-next.ensures in
    (p.1, roomy_same p.2 (omega arith) w.cells, omega (arith, w.size, ap (λ (xs : List Argument). length xs) h.arguments.are, p.2.most), h.named.within, h.typed.within, omega (arith, h.typed.packs))

pub returns : goal.returns
returns c = let a = c.args in
    let h = c.read_header-h.ensures in
    member_written a.t.now a.book.now a.es.now _ _ a.e _ (member_from a.t.now a.tag a.start a.end) _ h.arguments.are c.enter_arguments-next.ensures (c.enter_header.ensures _ _ h.named h.typed)
