-- By the entry's number.
use mathlib.Core.Path.{sym, ◌∙◌}
use Rattle.table_entries.proofs.Meanings.{kind_built_in, kind_other}
use Rattle.table_entries.proofs.kind_by.Goals as goal

pub returns-then-k-eq-BUILT_IN : goal.returns-then-k-eq-BUILT_IN
returns-then-k-eq-BUILT_IN c = λ t name type x. kind_built_in c.args.book.now _ (sym c.cell_of-k.ensures ∙ c.if-k-eq-BUILT_IN.true) ∙ x.means.kind

pub returns : goal.returns
returns c = λ t name type x. c.kind_in.ensures ∙ rw c.cell_of-k.ensures (kind_other c.args.book.now _ (λ z. c.if-k-eq-BUILT_IN.false (c.cell_of-k.ensures ∙ z))) ∙ x.means.kind
