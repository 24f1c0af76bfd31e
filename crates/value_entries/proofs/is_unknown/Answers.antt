-- An entry, and then its name among those of what is due.
use mathlib.Core.Path.{sym, ◌∙◌}
use mathlib.Core.Bool.{not}
use native.Mathlib.Omega.{arith}
use Rattle.paper_table.specs.Lists.{any_of}
use Rattle.paper_query.specs.Constructs.{name_of}
use Rattle.query_rows.specs.Rowed.{doc_of}
use Rattle.query_rows.proofs.RowsIn.{name_within}
use Rattle.value_entries.specs.Entered.{is_entry, due_named, dues_by}
use Rattle.value_entries.proofs.EntryLaws.{and_off, not_known, not_unknown}
use Rattle.value_entries.proofs.DueLaws.{due_here}
use Rattle.value_entries.proofs.is_unknown.Goals as goal

pub returns-then-not-is_entry : goal.returns-then-not-is_entry
returns-then-not-is_entry c = let a = c.args in let d = doc_of a.s.now a.rows.now a.n in
    and_off (is_entry d a.kind a.h a.c) (not (any_of (due_named (name_of d a.c)) (dues_by a.kind a.t.now a.start a.end))) (sym c.is_entry.ensures ∙ c.if-not-is_entry.true)

pub has_due-requires : goal.has_due-requires
has_due-requires c = let a = c.args in
    (c.requires.0, omega (arith, name_within a.s.now a.rows.now a.n c.requires.1 a.c, c.name_of-at.ensures, c.size_of-l.ensures))

pub returns-then-has_due : goal.returns-then-has_due
returns-then-has_due c = let a = c.args in let d = doc_of a.s.now a.rows.now a.n in
    not_known (is_entry d a.kind a.h a.c) (any_of (due_named (name_of d a.c)) (dues_by a.kind a.t.now a.start a.end)) _ (sym c.is_entry.ensures ∙ c.if-not-is_entry.false) (due_here (dues_by a.kind a.t.now a.start a.end) a.s.now _ _ _ _ _ c.name_of-at.ensures c.size_of-l.ensures c.has_due.ensures) c.if-has_due.true

pub returns : goal.returns
returns c = let a = c.args in let d = doc_of a.s.now a.rows.now a.n in
    not_unknown (is_entry d a.kind a.h a.c) (any_of (due_named (name_of d a.c)) (dues_by a.kind a.t.now a.start a.end)) _ (sym c.is_entry.ensures ∙ c.if-not-is_entry.false) (due_here (dues_by a.kind a.t.now a.start a.end) a.s.now _ _ _ _ _ c.name_of-at.ensures c.size_of-l.ensures c.has_due.ensures) c.if-has_due.false
