-- By the type inside the parent, which stands before the row.
use Rattle.value_fields.proofs.+type_inside.Given as goal

abbrev pub decreases-type_inside : goal.decreases-type_inside
decreases-type_inside l = l.i
