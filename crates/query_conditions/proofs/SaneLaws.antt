-- Every accepted document keeps to what its plans need: by rules 4, 9 and 10, by what stands right below what in its rows, and by the sizes.
use mathlib.Core.Path.{◌≡◌, subst}
use mathlib.Core.Bool.{true}
use mathlib.Core.List.{List}
use Prim.Native.Nat.{ℕ, ◌<◌}
use Rattle.paper.specs.Numbers.{most_variables, kind_operation}
use Rattle.paper.specs.Language.{Document}
use Rattle.paper.specs.Tokens.{Text}
use Rattle.paper.specs.Rows.{Row}
use Rattle.paper.specs.Reading.{rows_are, TextAnswer}
use Rattle.paper.proofs.Bools.{T→eq, eq→t as holds}
use Rattle.paper_table.specs.Lists.{bytes}
use Rattle.paper_table.specs.Types.{Table, table_of}
use Rattle.paper_query.specs.Constructs.{Doc, row_of, name_of, is}
use Rattle.paper_query.specs.Reaching.{Reaches}
use Rattle.paper_query.specs.Rule10Undefined.{defines}
use Rattle.paper_query.specs.QueryRules.{Judged}
use Rattle.paper_query.specs.DocumentCalls.{read}
use Rattle.paper_query.specs.Opening.{AcceptedDocument}
use Rattle.paper_query.specs.declared.QueryAnswer.TheVariants.{Fits}
use Rattle.paper_plan.specs.Collecting.{variable}
use Rattle.paper_plan.specs.Selecting.{Name, if_of}
use Rattle.query_counts.proofs.FewNumbers.{said_variable, said_fragment}
use Rattle.query_conditions.specs.Sane.{Sane}
use Rattle.query_conditions.proofs.BelowRows.{said_below}
use Rattle.query_conditions.proofs.Conditions.{on_right, inline_right}
use Rattle.query_conditions.proofs.Choices.{given_variable, given_defined}

-- the variable that a directive is given
if_below : (t : Table) (document : List ℕ) {text : Text} {rs : List Row} → TextAnswer Document text (rows_are rs) → Judged t (read document rs) Fits → (op : ℕ) → is kind_operation (row_of (read document rs) op) ≡ true
    → (x : Name) (i v : ℕ) → Reaches (read document rs) op i → if_of (read document rs) op x i ≡ variable v → v < most_variables
if_below t document {rs = rs} s j op o x i v r e =
    let d = read document rs in
    let g = given_variable t d j (said_below s) op i v x e in
    subst (λ (n : ℕ). n < most_variables) g.number (said_variable s document op (name_of d g.value) (T→eq (defines d op (name_of d g.value)) (given_defined t d j (said_below s) op i v (holds (is kind_operation (row_of d op)) o) r g)))

pub accepted_sane : (table document : List ℕ) (rs : List Row) → AcceptedDocument table document rs → (op : ℕ) → is kind_operation (row_of (read document rs) op) ≡ true → Sane (table_of table) (read document rs) op
accepted_sane table document rs a op o = record {
  on_output = on_right t d a.judged (said_below a.said);
  inline_output = inline_right t d a.judged (said_below a.said);
  skip_below = λ i v r s e. if_below t document a.said a.judged op o (bytes "skip") i v r e;
  include_below = λ i v r s e. if_below t document a.said a.judged op o (bytes "include") i v r e;
  fragment_below = said_fragment a.said document;
}
  where
    t : Table
    t = table_of table

    d : Doc
    d = read document rs
