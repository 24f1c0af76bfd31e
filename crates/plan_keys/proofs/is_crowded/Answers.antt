-- It looks at no more links than it may.
use Rattle.plan_keys.proofs.is_crowded.Goals as goal

pub loop-k-init : goal.loop-k-init
loop-k-init c = tt

pub loop-k-preserved : goal.loop-k-preserved
loop-k-preserved c = tt
