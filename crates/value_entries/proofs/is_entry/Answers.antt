-- By its parent, and then its kind.
use mathlib.Core.Path.{sym, ap, ◌∙◌}
use lib.Dec.{eqb}
use borrow.Author.Tests.{eq-eqb, ne_eqb}
use Rattle.paper_query.specs.Constructs.{kind_of, parent_of}
use Rattle.query_rows.specs.Rowed.{doc_of}
use Rattle.value_entries.proofs.EntryLaws.{and_off, and_on}
use Rattle.value_entries.proofs.is_entry.Goals as goal

pub returns-then-parent_of-h : goal.returns-then-parent_of-h
returns-then-parent_of-h c = let a = c.args in let d = doc_of a.s.now a.rows.now a.n in
    and_off (eqb (parent_of d a.c) a.h) (eqb (kind_of d a.c) a.kind) (ne_eqb (parent_of d a.c) a.h (λ e. c.if-parent_of-h.true (c.parent_of.ensures ∙ e)))

pub returns : goal.returns
returns c = let a = c.args in let d = doc_of a.s.now a.rows.now a.n in
    and_on (eqb (parent_of d a.c) a.h) (eqb (kind_of d a.c) a.kind) _ (eq-eqb (parent_of d a.c) a.h (sym c.parent_of.ensures ∙ c.if-parent_of-h.false)) (ap (λ x. eqb x a.kind) c.kind_of.ensures)
