-- By the test.
use Rattle.paper_table.specs.Places.{whole_of}
use Rattle.table_walks.proofs.Walked.{only_true, only_false}
use Rattle.table_rules_1_10_16.proofs.whole.Goals as goal

pub returns-then-broken : goal.returns-then-broken
returns-then-broken c = only_true _ whole_of c.if-broken.true

pub returns : goal.returns
returns c = only_false _ whole_of c.if-broken.false
