-- By the definition that the base of the object's type means.
use mathlib.Core.Path.{sym, ◌∙◌}
use native.Mathlib.Omega.{arith}
use Rattle.paper_query.specs.Constructs.{name_of}
use Rattle.query_rows.specs.Rowed.{doc_of}
use Rattle.query_due_types.proofs.FittedLaws.{slim_at}
use Rattle.query_due_types.proofs.PlaceCases.{input_of_none, input_of_other, input_below, input_typed, input_of_object}
use Rattle.query_due_types.proofs.input_place.Goals as goal

pub returns-then-p-lt-PLACE_FIRST : goal.returns-then-p-lt-PLACE_FIRST
returns-then-p-lt-PLACE_FIRST c = input_of_none c.args.t.now c.args.book.now c.args.es.now c.requires.1 (name_of (doc_of c.args.s.now c.args.rows.now c.args.n) c.args.i) c.args.p c.unknown.result c.if-p-lt-PLACE_FIRST.true c.unknown.ensures

pub meant_by-k-requires : goal.meant_by-k-requires
meant_by-k-requires c = let w = c.requires.4 (omega arith) in
    w.most

pub returns-then-kind_in : goal.returns-then-kind_in
returns-then-kind_in c = input_of_other c.args.t.now c.args.book.now c.args.es.now c.requires.1 (name_of (doc_of c.args.s.now c.args.rows.now c.args.n) c.args.i) c.args.p c.unknown-then-kind_in.result (omega arith) c.requires.4 c.meant_by-k.result c.meant_by-k.ensures (λ z. c.if-kind_in.true (c.kind_in.ensures ∙ z)) c.unknown-then-kind_in.ensures

pub input_typed-requires : goal.input_typed-requires
input_typed-requires c = let e = sym c.kind_in.ensures ∙ c.if-kind_in.false in
    (c.requires.1, c.requires.2, input_below c.args.t.now c.args.book.now c.args.es.now c.requires.1 (name_of (doc_of c.args.s.now c.args.rows.now c.args.n) c.args.i) c.args.p c.args.p (omega arith) c.requires.4 c.meant_by-k.result c.meant_by-k.ensures e, input_typed c.args.t.now c.args.book.now c.args.es.now c.requires.1 (name_of (doc_of c.args.s.now c.args.rows.now c.args.n) c.args.i) c.args.p c.args.p (omega arith) c.requires.4 c.meant_by-k.result c.meant_by-k.ensures e, slim_at c.args.t.now c.requires.0 c.meant_by-k.result, c.requires.3)

pub returns : goal.returns
returns c = input_of_object c.args.t.now c.args.book.now c.args.es.now c.requires.1 (name_of (doc_of c.args.s.now c.args.rows.now c.args.n) c.args.i) c.args.p c.input_typed.result (omega arith) c.requires.4 c.meant_by-k.result c.meant_by-k.ensures (sym c.kind_in.ensures ∙ c.if-kind_in.false) c.input_typed.ensures
