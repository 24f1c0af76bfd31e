-- By the number.
use native.Mathlib.Omega.{arith}
use Rattle.table_entries.proofs.Runs.{roomy_less}
use Rattle.query_fields.proofs.FieldLaws.{leaf_type, member_type}
use Rattle.query_fields.proofs.field_type.Goals as goal

pub returns-then-at-le-FIELD_TYPENAME : goal.returns-then-at-le-FIELD_TYPENAME
returns-then-at-le-FIELD_TYPENAME c = leaf_type c.args.t.now c.args.book.now c.args.es.now c.args.at c.if-at-le-FIELD_TYPENAME.true

pub meant_by-k-requires : goal.meant_by-k-requires
meant_by-k-requires c = let w = c.requires.1 (omega (arith, c.if-at-le-FIELD_TYPENAME.false)) in
    roomy_less w.most w.on

pub returns : goal.returns
returns c = let a = c.args in
    member_type a.t.now a.book.now a.es.now a.at c.requires.0 c.if-at-le-FIELD_TYPENAME.false c.if_composite.result c.meant_by-k.result c.meant_by-k.ensures c.if_composite.ensures
