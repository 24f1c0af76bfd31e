-- `value_results::put_variables` meets its contract: the pairs behind the head of one object.
use mathlib.Core.Path.{◌∙◌, ap}
use Rattle.std.proofs.Common.{Err}
use native.Mathlib.Omega.{arith}
use Rattle.paper_values.specs.Values.{Fields, Got}
use Rattle.paper_values.specs.ValueNumbers.{most_coerced}
use Rattle.query_rows.specs.Rowed.{doc_of}
use Rattle.query_rows.proofs.RowsIn.{rows_count}
use Rattle.value_results.specs.Results.{coerced_variables}
use Rattle.value_results.proofs.RefusedLaws.{variables_rows}
use Rattle.value_results.proofs.ResultLaws.{told_valued, told_refused, told_row, valued_behind, valued_object, by_answer}
use Rattle.value_results.proofs.put_variables.Goals as goal

pub coerce_variables-r-requires : goal.coerce_variables-r-requires
coerce_variables-r-requires c = let p = c.requires in
    (p.0, p.1.few, p.1.held_size, record { least = omega arith; place = omega (arith, c.place-from.ensures); size = p.1.out_size })

pub close-requires : goal.close-requires
close-requires c = let a = c.args in
    let p = c.requires in
    valued_behind (told_valued a.t.now a.book.now a.s.now a.rows.now a.n a.s1.now a.rows1.now a.n1 most_coerced _ a.out.now _ _ _ (coerced_variables a.t.now (doc_of a.s.now a.rows.now a.n) a.op (doc_of a.s1.now a.rows1.now a.n1)) _ c.coerce_variables-r.ensures c.in-Ok.is) c.place-from.ensures (c.coerce_variables-r.auto.out ∙ p.1.out_size)

pub refused-requires : goal.refused-requires
refused-requires c = let a = c.args in
    let p = c.requires in
    told_row a.t.now a.book.now a.s.now a.rows.now a.n a.s1.now a.rows1.now a.n1 most_coerced _ a.out.now _ _ _ (coerced_variables a.t.now (doc_of a.s.now a.rows.now a.n) a.op (doc_of a.s1.now a.rows1.now a.n1)) _ (variables_rows a.t.now (doc_of a.s.now a.rows.now a.n) a.op (doc_of a.s1.now a.rows1.now a.n1) (omega (arith, p.0.ready.treed.rowed.few, rows_count a.rows.now a.n)) (omega (arith, p.0.ready1.treed.rowed.few, rows_count a.rows1.now a.n1))) c.coerce_variables-r.ensures c.in-Err.is

pub returns-in-Ok : goal.returns-in-Ok
returns-in-Ok c = let a = c.args in
    let p = c.requires in
    valued_object (told_valued a.t.now a.book.now a.s.now a.rows.now a.n a.s1.now a.rows1.now a.n1 most_coerced _ a.out.now _ _ _ (coerced_variables a.t.now (doc_of a.s.now a.rows.now a.n) a.op (doc_of a.s1.now a.rows1.now a.n1)) _ c.coerce_variables-r.ensures c.in-Ok.is) _ _ c.place-from.ensures p.1.out_size c.close.ensures

pub returns-in-Err : goal.returns-in-Err
returns-in-Err c = let a = c.args in
    by_answer (ap Err c.refused.ensures) (told_refused a.t.now a.book.now a.s.now a.rows.now a.n a.s1.now a.rows1.now a.n1 most_coerced _ a.out.now _ _ _ (coerced_variables a.t.now (doc_of a.s.now a.rows.now a.n) a.op (doc_of a.s1.now a.rows1.now a.n1)) (λ ps. Got (Fields ps)) _ _ c.coerce_variables-r.ensures c.in-Err.is)
