-- By the name of the reference right below.
use mathlib.Core.Path.{sym, ◌∙◌}
use native.Mathlib.Omega.{arith}
use Rattle.paper_table.specs.Types.{table_of}
use Rattle.query_rows.specs.Rowed.{doc_of}
use Rattle.query_rows.proofs.RowsIn.{rowed_sized, rows_count, name_within}
use Rattle.query_places.proofs.DeclaredLaws.{no_definition, no_reference, referred}
use Rattle.query_places.proofs.no_input_type.Goals as goal

pub kind_of-requires : goal.kind_of-requires
kind_of-requires c = rowed_sized c.requires.1

pub returns-then-kind_of-ne-KIND_VARIABLE_DEFINITION : goal.returns-then-kind_of-ne-KIND_VARIABLE_DEFINITION
returns-then-kind_of-ne-KIND_VARIABLE_DEFINITION c = no_definition (table_of c.args.t.now) (doc_of c.args.s.now c.args.rows.now c.args.n) c.args.i (λ z. c.if-kind_of-ne-KIND_VARIABLE_DEFINITION.true (c.kind_of.ensures ∙ z))

pub first_below-r-requires : goal.first_below-r-requires
first_below-r-requires c = (rowed_sized c.requires.1, c.requires.2, c.requires.3)

pub returns-then-n-r : goal.returns-then-n-r
returns-then-n-r c = no_reference (table_of c.args.t.now) (doc_of c.args.s.now c.args.rows.now c.args.n) c.args.i (sym c.kind_of.ensures ∙ c.if-kind_of-ne-KIND_VARIABLE_DEFINITION.false) c.first_below-r.result c.first_below-r.ensures (omega (arith, rows_count c.args.rows.now c.args.n, c.if-n-r.true))

pub name_of-requires : goal.name_of-requires
name_of-requires c = rowed_sized c.requires.1

pub size_of-requires : goal.size_of-requires
size_of-requires c = rowed_sized c.requires.1

pub tag_meant-requires : goal.tag_meant-requires
tag_meant-requires c = (c.requires.0, rw (c.name_of.ensures, c.size_of.ensures) (name_within c.args.s.now c.args.rows.now c.args.n c.requires.1 c.first_below-r.result))

pub returns : goal.returns
returns c = referred (table_of c.args.t.now) (doc_of c.args.s.now c.args.rows.now c.args.n) c.args.i (sym c.kind_of.ensures ∙ c.if-kind_of-ne-KIND_VARIABLE_DEFINITION.false) c.first_below-r.result c.first_below-r.ensures c.tag_meant.result (omega (arith, rows_count c.args.rows.now c.args.n, c.if-n-r.false)) (rw (← c.name_of.ensures, ← c.size_of.ensures) c.tag_meant.ensures) c.is_input.ensures
