-- Only a reference's text has a size of its own.
use mathlib.Core.Path.{◌∙◌}
use Rattle.table_sizes.proofs.leaf_over.Goals as goal

pub returns-in-Reference : goal.returns-in-Reference
returns-in-Reference c = c.wrapper_over.ensures ∙ rw c.in-Reference.is
