-- An entry, and then its name.
use mathlib.Core.Path.{sym, ◌∙◌}
use Rattle.paper.specs.Tokens.{same}
use Rattle.paper_query.specs.Constructs.{name_of}
use Rattle.query_rows.specs.Rowed.{doc_of}
use Rattle.value_entries.specs.Entered.{is_entry}
use Rattle.value_entries.proofs.EntryLaws.{and_off, and_on}
use Rattle.value_entries.proofs.is_twin.Goals as goal

pub returns-then-not-is_entry : goal.returns-then-not-is_entry
returns-then-not-is_entry c = let a = c.args in let d = doc_of a.s.now a.rows.now a.n in
    and_off (is_entry d a.kind a.h a.j) (same (name_of d a.c) (name_of d a.j)) (sym c.is_entry.ensures ∙ c.if-not-is_entry.true)

pub returns : goal.returns
returns c = let a = c.args in let d = doc_of a.s.now a.rows.now a.n in
    and_on (is_entry d a.kind a.h a.j) (same (name_of d a.c) (name_of d a.j)) _ (sym c.is_entry.ensures ∙ c.if-not-is_entry.false) c.same_names.ensures
