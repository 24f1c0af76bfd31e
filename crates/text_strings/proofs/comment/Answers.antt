-- `comment`: by what stands where its characters end.
use native.Mathlib.Omega.{arith}
use Rattle.text_scan.proofs.CharacterRuns.{run_past}
use Rattle.text_strings.proofs.StringLaws.{comment_whole, comment_lf, comment_cr, comment_bad}
use Rattle.text_strings.proofs.comment.Goals as goal

pub returns-then-s-e : goal.returns-then-s-e
returns-then-s-e c = comment_whole c.args.s.now c.args.i c.comment_end-e.result c.requires.0 c.requires.1 c.comment_end-e.ensures (omega arith)

pub overflow_sub-result-then-after-eq10 : goal.overflow_sub-result-then-after-eq10
overflow_sub-result-then-after-eq10 c = omega (arith, run_past c.comment_end-e.ensures.runs)

pub returns-then-after-eq10 : goal.returns-then-after-eq10
returns-then-after-eq10 c = comment_lf c.args.s.now c.args.i c.comment_end-e.result c.requires.0 c.requires.1 c.comment_end-e.ensures (omega arith) (omega arith)

pub overflow_sub-result-then-after-eq13 : goal.overflow_sub-result-then-after-eq13
overflow_sub-result-then-after-eq13 c = omega (arith, run_past c.comment_end-e.ensures.runs)

pub returns-then-after-eq13 : goal.returns-then-after-eq13
returns-then-after-eq13 c = comment_cr c.args.s.now c.args.i c.comment_end-e.result c.requires.0 c.requires.1 c.comment_end-e.ensures (omega arith) (omega arith)

pub returns : goal.returns
returns c = comment_bad c.args.s.now c.args.i c.comment_end-e.result c.requires.0 c.requires.1 c.comment_end-e.ensures (omega arith) (omega arith) (omega arith)
