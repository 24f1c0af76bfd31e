-- `value_results::put_held` meets its contract: the arguments as an object of their definitions.
use mathlib.Core.Path.{ap}
use native.Mathlib.Omega.{arith}
use Rattle.std.proofs.Common.{Err}
use Rattle.paper.specs.Numbers.{input_document}
use Rattle.value_results.proofs.ResultLaws.{dues_slim, serves_there, argued_gives, argued_refuses, argued_within, by_answer}
use Rattle.value_results.proofs.put_held.Goals as goal

pub object-c-requires : goal.object-c-requires
object-c-requires c = let a = c.args in
    let p = c.requires in
    (p.0, serves_there a.t.now a.s.now a.rows.now a.n a.i a.start a.end p.1, p.1.holds.bounds, dues_slim a.t.now a.s.now a.rows.now a.n a.i a.start a.end p.1, record { least = omega arith; place = omega arith; size = p.3 }, p.2)

pub refused-requires : goal.refused-requires
refused-requires c = let a = c.args in
    let p = c.requires in
    argued_within a.t.now a.s.now a.rows.now a.n a.i a.start a.end p.1 p.2.pairs a.out.now _ _ (c.object-c.ensures input_document p.2.pairs p.2.holds) _ p.0.treed.rowed.few c.in-Err.is

pub returns-in-Ok : goal.returns-in-Ok
returns-in-Ok c = let a = c.args in
    let p = c.requires in
    λ ps h. argued_gives a.t.now a.s.now a.rows.now a.n a.i a.start a.end p.1 ps a.out.now _ _ (c.object-c.ensures input_document ps h) _ p.3 c.in-Ok.is

pub returns-in-Err : goal.returns-in-Err
returns-in-Err c = let a = c.args in
    let p = c.requires in
    λ ps h. by_answer (ap Err c.refused.ensures) (argued_refuses a.t.now a.s.now a.rows.now a.n a.i a.start a.end p.1 ps a.out.now _ _ (c.object-c.ensures input_document ps h) _ _ c.in-Err.is)
