-- As the search from it tells.
use mathlib.Core.Path.{refl, sym, ◌∙◌}
use mathlib.Core.Bool.{true≢false}
use Rattle.query_rows.specs.Rowed.{doc_of}
use Rattle.query_alike.proofs.FlagsLaws.{circled_by}
use Rattle.query_path_rules.proofs.circle_of.Goals as goal

pub circles-requires : goal.circles-requires
circles-requires c = c.requires

pub returns-then-circles : goal.returns-then-circles
returns-then-circles c = (circled_by (doc_of c.args.s.now c.args.rows.now c.args.n) c.args.i c.circles.result 8 c.circles.ensures.0 (λ e. refl) (λ e. absurd (true≢false (sym c.if-circles.true ∙ e))), c.circles.ensures.1)

pub returns : goal.returns
returns c = (circled_by (doc_of c.args.s.now c.args.rows.now c.args.n) c.args.i c.circles.result 0 c.circles.ensures.0 (λ e. absurd (true≢false (sym e ∙ c.if-circles.false))) (λ e. refl), c.circles.ensures.1)
