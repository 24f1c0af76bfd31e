-- Few bytes beside the name, or the wrappers counted.
use mathlib.Core.Path.{sym, ◌∙◌}
use mathlib.Core.Bool.{false≢true}
use native.Mathlib.Omega.{arith}
use Rattle.table_fields.specs.Wrappers.{Refers}
use Rattle.table_framing_quick_types.proofs.FineLaws.{refers, few_beside, few_counted}
use Rattle.table_framing_quick_types.proofs.is_usual_reference.Goals as goal

pub returns-in_default : goal.returns-in_default
returns-in_default c = λ z. absurd (false≢true z)

pub overflow_sub-r : goal.overflow_sub-r
overflow_sub-r c =
    let read : Refers c.args.t.now c.args.start c.args.end c.in-Some.r.start c.in-Some.r.end c.in-Some.r.wrappers = refers c.args.t.now c.args.start c.args.end _ _ c.in-Some.is c.read_reference.ensures in
    let q = read in omega (arith, q.begins)

pub overflow_sub-end : goal.overflow_sub-end
overflow_sub-end c =
    let read : Refers c.args.t.now c.args.start c.args.end c.in-Some.r.start c.in-Some.r.end c.in-Some.r.wrappers = refers c.args.t.now c.args.start c.args.end _ _ c.in-Some.is c.read_reference.ensures in
    let q = read in omega (arith, q.within)

pub overflow_add-r : goal.overflow_add-r
overflow_add-r c =
    let read : Refers c.args.t.now c.args.start c.args.end c.in-Some.r.start c.in-Some.r.end c.in-Some.r.wrappers = refers c.args.t.now c.args.start c.args.end _ _ c.in-Some.is c.read_reference.ensures in
    let q = read in omega (arith, q.begins, q.order, q.within, c.requires.within, c.requires.most)

pub returns-then-r-start : goal.returns-then-r-start
returns-then-r-start c =
    let read : Refers c.args.t.now c.args.start c.args.end c.in-Some.r.start c.in-Some.r.end c.in-Some.r.wrappers = refers c.args.t.now c.args.start c.args.end _ _ c.in-Some.is c.read_reference.ensures in
    λ z. few_beside c.args.t.now c.args.start c.args.end _ _ _ c.requires.within read c.if-r-start.true

pub returns : goal.returns
returns c =
    let read : Refers c.args.t.now c.args.start c.args.end c.in-Some.r.start c.in-Some.r.end c.in-Some.r.wrappers = refers c.args.t.now c.args.start c.args.end _ _ c.in-Some.is c.read_reference.ensures in
    λ z. few_counted c.args.t.now c.args.start c.args.end _ _ _ c.requires.within read _ c.wrapper_over.ensures (sym c.is_ok.ensures.value ∙ z)
