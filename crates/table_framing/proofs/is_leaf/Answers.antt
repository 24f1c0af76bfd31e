-- A name or a reference's text.
use mathlib.Core.Path.{◌∙◌}
use Rattle.table_framing.proofs.is_leaf.Goals as goal

pub returns-in-Name : goal.returns-in-Name
returns-in-Name c = c.is_name.ensures ∙ rw c.in-Name.is

pub returns-in-Reference : goal.returns-in-Reference
returns-in-Reference c = c.is_reference.ensures ∙ rw c.in-Reference.is
