-- A name, or no deeper.
use borrow.Author.Tests.{eq-eqb, ne_eqb}
use Rattle.paper_table.specs.TableNumbers.{tag_name}
use Rattle.table_sizes.proofs.is_plain.Goals as goal

pub returns-then-tag-eq-TAG_NAME : goal.returns-then-tag-eq-TAG_NAME
returns-then-tag-eq-TAG_NAME c = rw (eq-eqb c.args.tag tag_name c.if-tag-eq-TAG_NAME.true)

pub returns : goal.returns
returns c = rw (ne_eqb c.args.tag tag_name c.if-tag-eq-TAG_NAME.false)
