-- By record 8 and by what `Query` means.
use mathlib.Core.Path.{◌≡◌, sym, ap, ◌∙◌}
use Prim.Native.Nat.{ℕ}
use native.Mathlib.Omega.{arith}
use Rattle.paper_table.specs.TableNumbers.{no_place, rule_root}
use Rattle.paper_table.specs.Lists.{bytes}
use Rattle.paper_table.specs.Types.{table_of, meant}
use Rattle.paper_table.specs.declared.TableAnswer.TheVariants.{Breaks}
use Rattle.table_types.proofs.Meanings.{query_own, tag_first}
use Rattle.table_judge.proofs.BreakLaws.{query_roots, query_object, query_other}
use Rattle.table_judge.proofs.query_break.Goals as goal

pub returns-then-has_roots : goal.returns-then-has_roots
returns-then-has_roots c = query_roots (table_of c.args.t.now) (sym c.has_roots.ensures ∙ c.if-has_roots.true)

pub returns-then-kind_in-eq-RECORD_OBJECT : goal.returns-then-kind_in-eq-RECORD_OBJECT
returns-then-kind_in-eq-RECORD_OBJECT c =
    let query-tag : c.kind_in.result ≡ (meant (table_of c.args.t.now) (bytes "Query")).tag = c.kind_in.ensures ∙ tag_first c.args.t.now c.args.book.now c.requires (bytes "Query") c.first_query.ensures query_own in
    query_object (table_of c.args.t.now) (sym c.has_roots.ensures ∙ c.if-has_roots.false) (sym query-tag ∙ c.if-kind_in-eq-RECORD_OBJECT.true)

pub count_of-requires : goal.count_of-requires
count_of-requires c = c.requires.indexed.held.cells

pub returns : goal.returns
returns c =
    let query-tag : c.kind_in.result ≡ (meant (table_of c.args.t.now) (bytes "Query")).tag = c.kind_in.ensures ∙ tag_first c.args.t.now c.args.book.now c.requires (bytes "Query") c.first_query.ensures query_own in
    ap (λ (n : ℕ). Breaks n rule_root no_place no_place no_place) (c.count_of.ensures ∙ c.requires.count) ∙ query_other (table_of c.args.t.now) (sym c.has_roots.ensures ∙ c.if-has_roots.false) (λ e. c.if-kind_in-eq-RECORD_OBJECT.false (query-tag ∙ e))

pub overflow_cast-result : goal.overflow_cast-result
overflow_cast-result c = omega (arith, c.count_of.ensures, c.requires.indexed.held.most)
