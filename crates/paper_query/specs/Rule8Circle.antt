-- 8 fragment that reaches itself (its definition). (Those on the circle, whether an operation reaches them or not.)
use Rattle.std.specs.Prelude.{ℕ, T}
use Rattle.paper.specs.Numbers.{kind_fragment}
use Rattle.paper_query.specs.Constructs.{Doc, is, row_of}
use Rattle.paper_query.specs.Reaching.{Circles}

pub record ReachesItself (d : Doc) (i : ℕ) : Type 0 where
  pub fragment : T (is kind_fragment (row_of d i))
  pub circles : Circles d i
