-- Fragment by fragment, along the rows of that kind.
use Prim.Native.Nat.{◌-◌}
use Rattle.query_rows.specs.Rowed.{doc_of}
use Rattle.query_alike.proofs.FlagsLaws.{FragmentLoop}
use Rattle.query_path_rules.proofs.judge_fragments.Given as goal

abbrev pub invariant-loop-f : goal.invariant-loop-f
invariant-loop-f l = FragmentLoop (doc_of l.s l.rows l.n) l.initial.flag l.flag l.mark l.stack l.f

abbrev pub decreases-loop-f : goal.decreases-loop-f
decreases-loop-f l = l.n - l.f
