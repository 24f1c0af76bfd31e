-- By the row's kind, its parent's, and what its name means.
use mathlib.Core.Path.{◌≡◌, sym, ap, ◌∙◌}
use mathlib.Core.Bool.{◌&&◌, ◌||◌}
use Prim.Native.Nat.{ℕ}
use lib.Dec.{eqb, leb}
use Rattle.paper.specs.Numbers.{kind_fragment, kind_inline, kind_type_reference}
use Rattle.paper_table.specs.TableNumbers.{tag_object, tag_union}
use Rattle.paper_table.specs.Types.{meant, table_of}
use Rattle.paper_query.specs.Constructs.{row_of, parent_of, name_of}
use Rattle.paper_query.specs.Rule4Condition.{is_fragment}
use Rattle.query_rows.specs.Rowed.{row_in, doc_of}
use Rattle.query_rows.proofs.RowsIn.{rowed_sized, name_within}
use Rattle.query_rules_4_13.proofs.RuleLaws.{condition_other, condition_elsewhere, condition_judged}
use Rattle.query_rules_4_13.proofs.condition_wrong.Goals as goal

pub kind_of-requires : goal.kind_of-requires
kind_of-requires c = rowed_sized c.requires.1

pub returns-then-kind_of-ne-KIND_TYPE_REFERENCE : goal.returns-then-kind_of-ne-KIND_TYPE_REFERENCE
returns-then-kind_of-ne-KIND_TYPE_REFERENCE c = let a = c.args in
    condition_other (table_of a.t.now) (doc_of a.s.now a.rows.now a.n) a.i (λ z. c.if-kind_of-ne-KIND_TYPE_REFERENCE.true (c.kind_of.ensures ∙ z))

pub parent_of-requires : goal.parent_of-requires
parent_of-requires c = rowed_sized c.requires.1

pub kind_of-requires-2 : goal.kind_of-requires-2
kind_of-requires-2 c = rowed_sized c.requires.1

pub returns-then-not-is_fragment : goal.returns-then-not-is_fragment
returns-then-not-is_fragment c =
    let kind : (row_in c.args.rows.now c.args.n c.args.i).kind ≡ kind_type_reference = sym c.kind_of.ensures ∙ c.if-kind_of-ne-KIND_TYPE_REFERENCE.false in
    let parent : is_fragment (row_of (doc_of c.args.s.now c.args.rows.now c.args.n) (parent_of (doc_of c.args.s.now c.args.rows.now c.args.n) c.args.i)) ≡ c.is_fragment.result = let a = c.args in
    sym (c.is_fragment.ensures ∙ ap (λ (k : ℕ). eqb k kind_fragment || eqb k kind_inline) (c.kind_of-2.ensures ∙ ap (λ (p : ℕ). (row_in a.rows.now a.n p).kind) c.parent_of.ensures)) in
    let a = c.args in
    condition_elsewhere (table_of a.t.now) (doc_of a.s.now a.rows.now a.n) a.i kind (parent ∙ c.if-not-is_fragment.true)

pub name_of-requires : goal.name_of-requires
name_of-requires c = rowed_sized c.requires.1

pub size_of-requires : goal.size_of-requires
size_of-requires c = rowed_sized c.requires.1

pub tag_meant-tag-requires : goal.tag_meant-tag-requires
tag_meant-tag-requires c = let a = c.args in
    let g = c.requires in
    (g.0, rw (c.name_of.ensures, c.size_of.ensures) (name_within a.s.now a.rows.now a.n g.1 a.i))

pub returns : goal.returns
returns c =
    let kind : (row_in c.args.rows.now c.args.n c.args.i).kind ≡ kind_type_reference = sym c.kind_of.ensures ∙ c.if-kind_of-ne-KIND_TYPE_REFERENCE.false in
    let parent : is_fragment (row_of (doc_of c.args.s.now c.args.rows.now c.args.n) (parent_of (doc_of c.args.s.now c.args.rows.now c.args.n) c.args.i)) ≡ c.is_fragment.result = let a = c.args in
    sym (c.is_fragment.ensures ∙ ap (λ (k : ℕ). eqb k kind_fragment || eqb k kind_inline) (c.kind_of-2.ensures ∙ ap (λ (p : ℕ). (row_in a.rows.now a.n p).kind) c.parent_of.ensures)) in
    let meant-tag : c.tag_meant-tag.result ≡ (meant (table_of c.args.t.now) (name_of (doc_of c.args.s.now c.args.rows.now c.args.n) c.args.i)).tag = rw (← c.name_of.ensures, ← c.size_of.ensures) c.tag_meant-tag.ensures in
    let a = c.args in
    condition_judged (table_of a.t.now) (doc_of a.s.now a.rows.now a.n) a.i kind (parent ∙ c.if-not-is_fragment.false) (c.is_composite.ensures ∙ ap (λ (k : ℕ). leb tag_object k && leb k tag_union) meant-tag)
