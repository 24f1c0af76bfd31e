-- Of a text that was read: its rows stand as the search below a row asks, and the row behind a variable definition is the type that it declares.
use mathlib.Core.Path.{◌≡◌, sym, ◌∙◌}
use mathlib.Core.List.{List}
use Prim.Native.Nat.{ℕ, ◌+◌, ◌<◌}
use native.Mathlib.Omega.{arith}
use borrow.Author.Tests.{eq-eqb}
use Rattle.paper.specs.Language.{Part, Document}
use Rattle.paper.specs.Numbers.{kind_variable_definition}
use Rattle.paper_table.specs.Lists.{first_at}
use Rattle.query_rows.specs.Rowed.{rows_in, row_in}
use Rattle.query_rows.proofs.RowsIn.{rows_count}
use Rattle.query_rows.proofs.ReadRows.{Taken}
use Rattle.query_subtrees.specs.Past.{Pasts}
use Rattle.query_subtrees.proofs.Nesting.{taken_nested}
use Rattle.value_entries.specs.Entered.{Treed}
use Rattle.value_texts.proofs.Defining.{taken_defined}
use Rattle.value_definitions.specs.Definitions.{is_declared}
use Rattle.value_definitions.proofs.SeekLaws.{seeks_start, seeks_here, declared_below, declared_is}

pub taken_treed : (p : Part) (s rows past : List ℕ) (n : ℕ) → Taken p s rows n → Pasts (rows_in rows n) past → Treed s rows n past
taken_treed p s rows past n t h = record { rowed = t.rowed; pasts = h; nested = taken_nested p s rows n t }

-- a definition has one
pub declared_next : (s rows : List ℕ) (n v : ℕ) → Taken Document s rows n → v < n → (row_in rows n v).kind ≡ kind_variable_definition → v + 1 ≡ first_at (is_declared v) (rows_in rows n)
declared_next s rows n v t h e =
    let d = taken_defined Document tt s rows n t v e in
    seeks_here (is_declared v) v (declared_below v) s rows n t.rowed h (v + 1) (seeks_start (is_declared v) v (declared_below v) s rows n t.rowed h) (omega (arith, d.there, rows_count rows n))
    (sym (declared_is v (row_in rows n (v + 1)) d.kind_is) ∙ eq-eqb (row_in rows n (v + 1)).parent v d.parent_is)
