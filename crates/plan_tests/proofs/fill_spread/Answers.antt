use mathlib.Core.Path.{ap, ◌∙◌}
use Prim.Native.Nat.{ℕ}
use native.Mathlib.Omega.{arith}
use Rattle.paper_table.specs.Types.{table_of}
use Rattle.paper_query.specs.Enclosing.{condition_of}
use Rattle.query_rows.specs.Rowed.{rows_in, doc_of}
use Rattle.paper_plan.specs.Selecting.{type_on}
use Rattle.plan_rows.specs.Ranks.{is_fragment}
use Rattle.plan_rows.proofs.RankLaws.{rank_most}
use Rattle.plan_tests.proofs.RightLaws.{spread_written}
use Rattle.plan_tests.proofs.TableLaws.{fragment_ranked, fragment_rank_is}
use Rattle.plan_tests.proofs.FewLaws.{on_few}
use Rattle.plan_tests.proofs.fill_spread.Goals as goal

pub fragment_named-f-requires : goal.fragment_named-f-requires
fragment_named-f-requires c = (c.requires.0.rowed, c.requires.0.kinds, c.requires.1)

pub link_of-number-requires : goal.link_of-number-requires
link_of-number-requires c = omega (arith, c.requires.0.ranked.long, c.requires.0.spreads c.args.i c.requires.2, c.fragment_named-f.ensures)

pub type_on-type_number-requires : goal.type_on-type_number-requires
type_on-type_number-requires c = (c.requires.0.booked, c.requires.0.rowed, c.requires.0.family, omega (arith, c.requires.0.spreads c.args.i c.requires.2, c.fragment_named-f.ensures))

pub overflow_cast-number : goal.overflow_cast-number
overflow_cast-number c = let h = c.requires.0.spreads c.args.i c.requires.2 in let e = fragment_ranked (doc_of c.args.s.now c.args.rows.now c.args.n) _ _ c.args.n c.requires.0.ranked h c.fragment_named-f.ensures c.link_of-number.ensures in omega (arith, h, c.fragment_named-f.ensures, c.requires.0.rowed.few, rank_most is_fragment (rows_in c.args.rows.now c.args.n) c.fragment_named-f.result, fragment_rank_is (doc_of c.args.s.now c.args.rows.now c.args.n) _ _ c.args.n c.requires.0.ranked h c.fragment_named-f.ensures c.link_of-number.ensures)

pub put_test-requires : goal.put_test-requires
put_test-requires c = let h = c.requires.0.spreads c.args.i c.requires.2 in (c.requires.5, omega (arith, c.requires.3), omega (arith, h, c.fragment_named-f.ensures, c.requires.0.rowed.few, rank_most is_fragment (rows_in c.args.rows.now c.args.n) c.fragment_named-f.result, fragment_rank_is (doc_of c.args.s.now c.args.rows.now c.args.n) _ _ c.args.n c.requires.0.ranked h c.fragment_named-f.ensures c.link_of-number.ensures))

pub put_test-requires-2 : goal.put_test-requires-2
put_test-requires-2 c = (omega (arith, c.row-1.given, c.requires.5), omega (arith, c.requires.3), omega (arith, c.type_on-type_number.ensures, on_few c.args.t.now c.args.book.now c.requires.0.booked (doc_of c.args.s.now c.args.rows.now c.args.n) (condition_of (doc_of c.args.s.now c.args.rows.now c.args.n) c.fragment_named-f.result)))

pub overflow_cast-f : goal.overflow_cast-f
overflow_cast-f c = omega (arith, c.requires.0.spreads c.args.i c.requires.2, c.fragment_named-f.ensures, c.requires.0.rowed.few)

pub put_head-requires : goal.put_head-requires
put_head-requires c = (omega (arith, c.row-2-1.given, c.row-1.given, c.requires.5), c.requires.4, omega (arith, c.requires.0.spreads c.args.i c.requires.2, c.fragment_named-f.ensures, c.requires.0.rowed.few), omega (arith, c.requires.3))

pub returns : goal.returns
returns c = spread_written c.args.row.now _ _ _ c.args.m c.args.above _ _ _ _ _ _ (fragment_ranked (doc_of c.args.s.now c.args.rows.now c.args.n) _ _ c.args.n c.requires.0.ranked (c.requires.0.spreads c.args.i c.requires.2) c.fragment_named-f.ensures c.link_of-number.ensures) (c.type_on-type_number.ensures ∙ ap (λ (f : ℕ). type_on (table_of c.args.t.now) (doc_of c.args.s.now c.args.rows.now c.args.n) (condition_of (doc_of c.args.s.now c.args.rows.now c.args.n) f)) c.fragment_named-f.ensures) c.fragment_named-f.ensures c.put_test.ensures c.put_test-2.ensures c.put_head.ensures
