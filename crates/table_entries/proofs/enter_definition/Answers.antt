-- By the definition's kind: its members, or nothing.
use mathlib.Core.Path.{ap, ◌∙◌}
use Rattle.table_types.specs.Booked.{definition_on}
use Rattle.table_types.proofs.Entries.{bounds_entered, members_entered}
use Rattle.table_entries.specs.Entries.{entries_of}
use Rattle.table_entries.proofs.Runs.{roomy_less}
use Rattle.table_entries.proofs.Spans.{typed_is, none_written, some_entries, some_written}
use native.Mathlib.Omega.{arith}
use Rattle.table_entries.proofs.enter_definition.Goals as goal

pub returns-then-not-has_types : goal.returns-then-not-has_types
returns-then-not-has_types c = let a = c.args in
    let p = c.requires in
    none_written _ _ _ _ _ (typed_is a.t.now a.book.now p.0 a.i p.1 c.kind_of.ensures c.has_types.ensures ∙ c.if-not-has_types.true)

pub enter_members-requires : goal.enter_members-requires
enter_members-requires c = let a = c.args in
    let p = c.requires in
    let s = c.start_of-start.ensures in
    let e = c.end_of-end.ensures in
    let q = typed_is a.t.now a.book.now p.0 a.i p.1 c.kind_of.ensures c.has_types.ensures ∙ c.if-not-has_types.false in
    let m = members_entered a.t.now a.book.now p.0 a.i p.1 _ _ s e in
    (bounds_entered a.t.now a.book.now p.0 a.i p.1 _ _ s e, p.0, roomy_less p.2 (omega (arith, some_entries (definition_on a.t.now a.i) q, ap entries_of m)))

pub returns : goal.returns
returns c = let a = c.args in
    let p = c.requires in
    let q = typed_is a.t.now a.book.now p.0 a.i p.1 c.kind_of.ensures c.has_types.ensures ∙ c.if-not-has_types.false in
    let m = members_entered a.t.now a.book.now p.0 a.i p.1 _ _ c.start_of-start.ensures c.end_of-end.ensures in
    some_written _ _ _ _ _ _ _ _ q m c.enter_members.ensures
