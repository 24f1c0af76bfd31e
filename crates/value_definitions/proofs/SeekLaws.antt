-- A search among the rows right below a row, each over its own subtree.
use mathlib.Core.Path.{◌≡◌, refl, sym, ap, ◌∙◌}
use mathlib.Core.Logic.{◌⊎◌, inl, inr}
use mathlib.Core.Bool.{Bool, true, false}
use mathlib.Core.List.{List}
use Prim.Native.Nat.{ℕ, zero, suc, ◌+◌, ◌<◌, ◌≤◌}
use native.Mathlib.Decide.{dec_lt}
use native.Mathlib.Omega.{arith}
use lib.Dec.{eqb}
use borrow.Author.Tests.{eqb-true, lt-ltb, le-ltb, eq-eqb, ne_eqb, lt-leb, le-leb}
use Rattle.paper.proofs.Bools.{and_right as and_second}
use Rattle.paper.specs.Numbers.{no_parent, kind_type_reference, kind_variable, kind_object}
use Rattle.paper.specs.Rows.{Row}
use Rattle.paper_table.specs.Lists.{first_at}
use Rattle.paper_query.specs.Constructs.{no_row, below, is, is_value}
use Rattle.query_rows.specs.Rowed.{rows_in, row_in, doc_of, Rowed}
use Rattle.query_rows.proofs.RowsIn.{rows_count, parent_before}
use Rattle.query_links.specs.Links.{next_with}
use Rattle.query_links.proofs.Nexts.{next_here, next_step, next_least, next_most, next_passes, next_all, next_jump}
use Rattle.paper_values.specs.DocumentDues.{default_row}
use Rattle.query_subtrees.specs.Past.{leaves, past_of, Nested}
use Rattle.query_subtrees.proofs.Hops.{leaves_before}
use Rattle.query_subtrees.proofs.PastLaws.{past_after, past_child}
use Rattle.value_definitions.specs.Definitions.{is_default, is_declared, told}
use Rattle.std.proofs.Common.{Some, None}

-- the search stands at row j
pub record Seeks (p : Row → Bool) (v : ℕ) (rows : List ℕ) (n j : ℕ) : Type 0 where
  pub after : v < j
  pub most : j ≤ n
  pub same : next_with p (rows_in rows n) j ≡ first_at p (rows_in rows n)

-- what passes stands right below row v
module _ (p : Row → Bool) (v : ℕ) (only : (r : Row) → p r ≡ true → r.parent ≡ v) (s rows : List ℕ) (n : ℕ) (w : Rowed s rows n) (low : v < n) where
  fails : (r : Row) → (r.parent ≡ v → ⊥) → p r ≡ false
  fails r h = go (p r) refl
    where
      go : (b : Bool) → p r ≡ b → p r ≡ false
      go true e = absurd (h (only r e))
      go false e = e

  -- none up to row v, since a parent stands before
  before : (j : ℕ) → j ≤ v + 1 → next_with p (rows_in rows n) j ≡ first_at p (rows_in rows n)
  before zero h = next_all p (rows_in rows n)
  before (suc j) h = next_step p (rows_in rows n) no_row j (omega (arith, rows_count rows n)) (fails (row_in rows n j) (λ e. other e (parent_before s rows n w j (omega arith)))) ∙ before j (omega arith)
    where
      other : (row_in rows n j).parent ≡ v → ((row_in rows n j).parent < j) ⊎ ((row_in rows n j).parent ≡ no_parent) → ⊥
      other e (inl l) = omega arith
      other e (inr q) = omega (arith, w.few)

  pub seeks_start : Seeks p v rows n (v + 1)
  seeks_start = record { after = omega arith; most = omega arith; same = before (v + 1) (omega arith) }

  pub seeks_here : (j : ℕ) → Seeks p v rows n j → j < n → p (row_in rows n j) ≡ true → j ≡ first_at p (rows_in rows n)
  seeks_here j k h e = next_here p (rows_in rows n) no_row j (omega (arith, rows_count rows n)) e ∙ k.same

  pub seeks_next : (j i : ℕ) → Seeks p v rows n j → j < n → p (row_in rows n j) ≡ false → i ≡ past_of (rows_in rows n) j → i ≤ n → Seeks p v rows n i
  seeks_next j i k h e q u = record {
    after = omega (arith, k.after, past_after (rows_in rows n) j);
    most = u;
    same =
        ap (next_with p (rows_in rows n)) q
        ∙ next_jump (leaves j) p (λ r t. sym (leaves_before j r (omega (arith, only r t, k.after)))) (rows_in rows n) (suc j)
        ∙ next_step p (rows_in rows n) no_row j (omega (arith, rows_count rows n)) e ∙ k.same;
  }

  -- none behind the subtree
  pub seeks_end : Nested (rows_in rows n) → (j e : ℕ) → Seeks p v rows n j → e ≡ past_of (rows_in rows n) v → e ≤ j → n ≡ first_at p (rows_in rows n)
  seeks_end t j e k q u = go (dec_lt (next_with p (rows_in rows n) j) n)
    where
      i : ℕ
      i = next_with p (rows_in rows n) j

      go : Dec (i < n) → n ≡ first_at p (rows_in rows n)
      go (yes l) =
          let m = only (row_in rows n i) (next_passes p (rows_in rows n) no_row j (omega (arith, rows_count rows n))) in
          absurd (omega (arith, u, q, k.after, next_least p (rows_in rows n) j, past_child (rows_in rows n) v t (omega (arith, rows_count rows n, w.few)) i (omega (arith, rows_count rows n)) (omega (arith, k.after, next_least p (rows_in rows n) j)) m))
      go (no l) = omega (arith, k.same, k.most, next_most p (rows_in rows n) j (omega (arith, rows_count rows n, k.most)), rows_count rows n)

pub default_below : (v : ℕ) (r : Row) → is_default v r ≡ true → r.parent ≡ v
default_below v r e = eqb-true r.parent v (and_second (is_value r) (below v r) e)

pub declared_below : (v : ℕ) (r : Row) → is_declared v r ≡ true → r.parent ≡ v
declared_below v r e = eqb-true r.parent v (and_second (is kind_type_reference r) (below v r) e)

-- the tests of a row
pub default_less : (v : ℕ) (r : Row) → r.kind < kind_variable → false ≡ is_default v r
default_less v r h = rw (lt-leb kind_variable r.kind h)

pub default_more : (v : ℕ) (r : Row) → kind_variable ≤ r.kind → kind_object < r.kind → false ≡ is_default v r
default_more v r l h = rw (le-leb kind_variable r.kind l, lt-leb r.kind kind_object h)

pub default_is : (v : ℕ) (r : Row) → kind_variable ≤ r.kind → r.kind ≤ kind_object → eqb r.parent v ≡ is_default v r
default_is v r l h = rw (le-leb kind_variable r.kind l, le-leb r.kind kind_object h)

pub declared_other : (v : ℕ) (r : Row) → (r.kind ≡ kind_type_reference → ⊥) → false ≡ is_declared v r
declared_other v r h = rw (ne_eqb r.kind kind_type_reference h)

pub declared_is : (v : ℕ) (r : Row) → r.kind ≡ kind_type_reference → eqb r.parent v ≡ is_declared v r
declared_is v r h = rw (eq-eqb r.kind kind_type_reference h)

-- the default of a definition
module _ (s rows : List ℕ) (n v i : ℕ) (e : i ≡ first_at (is_default v) (rows_in rows n)) where
  pub default_row_is : i < n → Some i ≡ told (default_row (doc_of s rows n) v)
  default_row_is h = rw (← e, rows_count rows n, lt-ltb i n h) refl

  pub default_none : n ≤ i → None ≡ told (default_row (doc_of s rows n) v)
  default_none h = rw (← e, rows_count rows n, le-ltb i n h) refl
