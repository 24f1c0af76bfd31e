-- An entry, and then its name.
use mathlib.Core.Path.{sym, ◌∙◌}
use Prim.Native.Nat.{◌+◌, ◌-◌}
use Rattle.paper.specs.Tokens.{same}
use Rattle.paper_table.specs.Lists.{any_of}
use Rattle.paper_query.specs.Constructs.{name_of}
use Rattle.query_rows.specs.Rowed.{doc_of}
use Rattle.value_entries.specs.Entered.{is_entry, names_before}
use Rattle.value_entries.proofs.EntryLaws.{and_off, and_on}
use Rattle.value_entries.proofs.is_repeated.Goals as goal

pub is_entry-requires : goal.is_entry-requires
is_entry-requires c = c.requires.0.rowed

pub returns-then-not-is_entry : goal.returns-then-not-is_entry
returns-then-not-is_entry c = let a = c.args in let d = doc_of a.s.now a.rows.now a.n in
    and_off (is_entry d a.kind a.h a.c) (any_of (same (name_of d a.c)) (names_before d a.kind a.h (a.c - (a.h + 1)))) (sym c.is_entry.ensures ∙ c.if-not-is_entry.true)

pub returns : goal.returns
returns c = let a = c.args in let d = doc_of a.s.now a.rows.now a.n in
    and_on (is_entry d a.kind a.h a.c) (any_of (same (name_of d a.c)) (names_before d a.kind a.h (a.c - (a.h + 1)))) _ (sym c.is_entry.ensures ∙ c.if-not-is_entry.false) c.is_seen.ensures
