use Rattle.query_rows.specs.Rowed.{rows_in}
use Rattle.plan_rows.specs.Ranks.{is_fragment}
use Rattle.plan_rows.proofs.RankLaws.{Ranked}
use Rattle.plan_rows.proofs.rank_fragments.Given as goal

abbrev pub invariant-loop-i : goal.invariant-loop-i
invariant-loop-i l = Ranked is_fragment (rows_in l.rows l.n) l.initial.ranks l.ranks l.k l.i
