-- `value_variables::in_order` meets its contract: before row v the definitions before it are coerced.
use mathlib.Core.Path.{refl, sym, ◌∙◌}
use Rattle.std.proofs.lemmas.Result.{err_from_is_err_and}
use Rattle.query_rows.proofs.RowsIn.{rowed_sized}
use Rattle.value_variables.proofs.LoopLaws.{going_start, going_on, going_held, going_many, going_step, going_stop, going_end}
use Rattle.value_variables.proofs.in_order.Goals as goal

pub loop-v-init : goal.loop-v-init
loop-v-init c = (going_start c.args.t.now c.args.book.now c.args.s.now c.args.rows.now c.args.n c.args.s1.now c.args.rows1.now c.args.n1 c.args.limit c.args.from c.args.op c.args.out.now c.args.held.now c.requires.3 c.requires.2 c.requires.1, refl, refl)

pub is_definition-requires : goal.is_definition-requires
is_definition-requires c = rowed_sized c.requires.0.ready.treed.rowed

pub loop-v-preserved-then-not-is_definition : goal.loop-v-preserved-then-not-is_definition
loop-v-preserved-then-not-is_definition c = (going_on c.args.t.now c.args.book.now c.args.s.now c.args.rows.now c.args.n c.args.s1.now c.args.rows1.now c.args.n1 c.args.limit c.args.from c.args.op c.args.out.now c.loop-v.held c.loop-v.out c.loop-v.at c.loop-v.many c.loop-v.v c.loop-v.invariant.0 c.loop-v-test.true (sym c.is_definition.ensures ∙ c.if-not-is_definition.true), c.loop-v.invariant.1, c.loop-v.invariant.2)

pub variable-requires : goal.variable-requires
variable-requires c = (c.requires.0, c.loop-v-test.true, going_held c.args.t.now c.args.book.now c.args.s.now c.args.rows.now c.args.n c.args.s1.now c.args.rows1.now c.args.n1 c.args.limit c.args.from c.args.op c.args.out.now c.loop-v.held c.loop-v.out c.loop-v.at c.loop-v.many c.loop-v.v c.loop-v.invariant.0 c.loop-v-test.true (sym c.is_definition.ensures ∙ c.if-not-is_definition.false), c.loop-v.invariant.0.room, going_many c.args.t.now c.args.book.now c.args.s.now c.args.rows.now c.args.n c.args.s1.now c.args.rows1.now c.args.n1 c.args.limit c.args.from c.args.op c.args.out.now c.loop-v.held c.loop-v.out c.loop-v.at c.loop-v.many c.loop-v.v c.loop-v.invariant.0 c.loop-v-test.true (sym c.is_definition.ensures ∙ c.if-not-is_definition.false))

pub shape_of-held-in_err-w : goal.shape_of-held-in_err-w
shape_of-held-in_err-w c = c.variable.auto.held ∙ c.loop-v.invariant.1

pub shape_of-out-in_err-w : goal.shape_of-out-in_err-w
shape_of-out-in_err-w c = c.variable.auto.out ∙ c.loop-v.invariant.2

pub returns-in_err-w : goal.returns-in_err-w
returns-in_err-w c = let q = err_from_is_err_and c.from_residual.result c.from_residual.ensures.1 in rw (q.1, q.2, ← c.in_err-w.was) (going_stop c.args.t.now c.args.book.now c.args.s.now c.args.rows.now c.args.n c.args.s1.now c.args.rows1.now c.args.n1 c.args.limit c.args.from c.args.op c.args.out.now c.loop-v.held c.loop-v.out c.loop-v.at c.loop-v.many c.loop-v.v c.loop-v.invariant.0 c.loop-v-test.true (sym c.is_definition.ensures ∙ c.if-not-is_definition.false) _ _ _ c.variable.ensures.0 c.variable.ensures.1 _ c.in_err-w.was)

pub loop-v-preserved : goal.loop-v-preserved
loop-v-preserved c = (going_step c.args.t.now c.args.book.now c.args.s.now c.args.rows.now c.args.n c.args.s1.now c.args.rows1.now c.args.n1 c.args.limit c.args.from c.args.op c.args.out.now c.loop-v.held c.loop-v.out c.loop-v.at c.loop-v.many c.loop-v.v c.loop-v.invariant.0 c.loop-v-test.true (sym c.is_definition.ensures ∙ c.if-not-is_definition.false) _ _ _ c.variable.ensures.0 c.variable.ensures.1 _ c.variable.ensures.2 c.in_ok-w.was c.variable.auto.out, c.variable.auto.held ∙ c.loop-v.invariant.1, c.variable.auto.out ∙ c.loop-v.invariant.2)

pub shape_of-held : goal.shape_of-held
shape_of-held c = c.loop-v.invariant.1

pub shape_of-out : goal.shape_of-out
shape_of-out c = c.loop-v.invariant.2

pub returns : goal.returns
returns c = going_end c.args.t.now c.args.book.now c.args.s.now c.args.rows.now c.args.n c.args.s1.now c.args.rows1.now c.args.n1 c.args.limit c.args.from c.args.op c.args.out.now c.loop-v.held c.loop-v.out c.loop-v.at c.loop-v.many c.loop-v.v c.loop-v.invariant.0 c.loop-v-test.false
