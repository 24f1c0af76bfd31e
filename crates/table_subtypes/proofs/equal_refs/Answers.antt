-- By the two cases.
use Rattle.table_subtypes.proofs.equal_refs.Goals as goal

pub returns-then-alike : goal.returns-then-alike
returns-then-alike c = rw c.if-alike.true
