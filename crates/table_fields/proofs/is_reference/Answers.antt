-- There is a reference if one is read.
use mathlib.Core.Path.{◌∙◌}
use Rattle.table_fields.proofs.RefLaws.{read_is}
use Rattle.table_fields.proofs.is_reference.Goals as goal

pub returns : goal.returns
returns c = c.is_some.ensures ∙ read_is c.args.t.now c.args.start c.args.end _ c.read_reference.ensures
