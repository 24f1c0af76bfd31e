-- The numbers of the table are small: rows, keys and fragments by the rows, types by the book.
use mathlib.Core.Path.{◌≡◌, refl}
use mathlib.Core.Logic.{◌⊎◌, inl, inr}
use mathlib.Core.Option.{Option, none, some}
use mathlib.Core.List.{List}
use Prim.Native.Nat.{ℕ, ◌≤◌, ◌<◌}
use native.Mathlib.Omega.{arith}
use lib.ListN.{get_or}
use borrow.Author.Tests.{eq-eqb}
use Rattle.paper.specs.Numbers.{most_rows, no_parent, kind_field}
use Rattle.paper.specs.Rows.{Row}
use Rattle.paper_table.specs.Types.{table_of}
use Rattle.paper_query.specs.Constructs.{Doc}
use Rattle.paper_query.specs.Enclosing.{composite_of}
use Rattle.paper_query.proofs.EnclosingLaws.{composite_is}
use Rattle.table_types.specs.Booked.{Booked}
use Rattle.query_types.proofs.CompositeLaws.{output_below}
use Rattle.query_rows.specs.Rowed.{row_in, doc_of, Rowed}
use Rattle.query_rows.proofs.RowsIn.{rows_count, parent_before}
use Rattle.paper_plan.specs.Selecting.{or_count, type_number, type_on}
use Rattle.plan_keys.specs.Keyed.{Keyed}
use Rattle.plan_tests.proofs.TableLaws.{key_most}

module _ (s rows : List ℕ) (n i : ℕ) (r : Rowed s rows n) (h : i < n) where
  pub parent_few : (row_in rows n i).parent ≤ most_rows
  parent_few = go (parent_before s rows n r i h)
    where
      go : ((row_in rows n i).parent < i) ⊎ ((row_in rows n i).parent ≡ no_parent) → (row_in rows n i).parent ≤ most_rows
      go (inl l) = omega (arith, l, r.few)
      go (inr e) = omega (arith, e)

  pub key_few : (t keys : List ℕ) → Keyed (doc_of s rows n) keys → (row_in rows n i).kind ≡ kind_field → get_or keys i 0 ≤ most_rows
  key_few t keys k e =
      omega (arith, k.right i (omega (arith, rows_count rows n)) (eq-eqb (row_in rows n i).kind kind_field e), key_most (table_of t) (doc_of s rows n) 0 i, rows_count rows n, r.few)

module _ (t book : List ℕ) (b : Booked t book) where
  pub type_few : (name : List ℕ) → type_number (table_of t) name ≤ most_rows
  type_few name = go (composite_of (table_of t) name) refl
    where
      go : (c : Option ℕ) → composite_of (table_of t) name ≡ c → or_count (table_of t) c ≤ most_rows
      go none e = omega (arith, b.count, b.indexed.held.most)
      go (some k) e = omega (arith, output_below t book b k (composite_is (table_of t) name k e), b.indexed.held.most)

  pub on_few : (d : Doc) (c : Option Row) → type_on (table_of t) d c ≤ most_rows
  on_few d none = omega (arith, b.count, b.indexed.held.most)
  on_few d (some r) = type_few (Rattle.paper_query.specs.Constructs.spelt d r)
