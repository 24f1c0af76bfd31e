-- A fragment's type condition, and the type inside an operation or a fragment.
use mathlib.Core.Path.{◌≡◌, refl, sym, ap, fun_ext, ◌∙◌}
use mathlib.Core.Bool.{Bool, true, false, ◌&&◌, cond}
use mathlib.Core.Option.{Option, none, some}
use mathlib.Core.List.{List}
use Prim.Native.Nat.{ℕ, ◌<◌, ◌≤◌}
use native.Mathlib.Omega.{arith}
use Rattle.paper.specs.Numbers.{kind_operation, kind_fragment, kind_inline, kind_type_reference}
use Rattle.paper.specs.Rows.{Row}
use Rattle.paper_table.specs.Lists.{find}
use Rattle.paper_table.specs.Types.{table_of}
use Rattle.paper_query.specs.Constructs.{no_row, is, below}
use Rattle.paper_query.specs.Enclosing.{then, composite_of, root_of, condition_of, conditioned, type_inside_from}
use Rattle.paper_query.proofs.EnclosingLaws.{from_operation, from_fragment, from_inline}
use Rattle.table_book.specs.Book.{part}
use Rattle.query_rows.specs.Rowed.{row_in, rows_in, doc_of}
use Rattle.query_rows.proofs.RowsIn.{rows_count}
use Rattle.query_links.proofs.Nexts.{find_yes, find_no}
use Rattle.query_siblings.specs.Alike.{is_below, first_below}
use Rattle.query_types.specs.Coded.{type_coded}

both : (b c : Bool) → cond b c false ≡ (b && c)
both true c = refl
both false c = refl

-- by the row where the condition stands
module _ (t s rows : List ℕ) (n i j : ℕ) (e : j ≡ first_below (rows_in rows n) kind_type_reference i) (above : Option ℕ) where
  found_at : condition_of (doc_of s rows n) i ≡ find (is_below kind_type_reference i) (rows_in rows n)
  unfolding condition_of
  found_at = ap (λ (p : Row → Bool). find p (rows_in rows n)) (fun_ext (λ r. both (is kind_type_reference r) (below i r)))

  pub unconditioned : n ≤ j → above ≡ conditioned (table_of t) (doc_of s rows n) above (condition_of (doc_of s rows n) i)
  unconditioned h =
      rw (found_at ∙ find_no (is_below kind_type_reference i) (rows_in rows n) 0 (omega (arith, e, rows_count rows n)))

  condition_is : j < n → condition_of (doc_of s rows n) i ≡ some (row_in rows n j)
  condition_is h =
      found_at ∙ find_yes (is_below kind_type_reference i) (rows_in rows n) no_row 0 (omega (arith, e, rows_count rows n))
      ∙ ap (λ (k : ℕ). some (row_in rows n k)) (sym e)

  pub condition_typed : {r : Option ℕ} (at size : ℕ) → j < n → at ≡ (row_in rows n j).name_start → size ≡ (row_in rows n j).name_length → r ≡ composite_of (table_of t) (part s at size)
      → r ≡ conditioned (table_of t) (doc_of s rows n) above (condition_of (doc_of s rows n) i)
  condition_typed at size h p q f = f ∙ rw (condition_is h, p, q)

-- by the row's kind
module _ (t s rows : List ℕ) (n i above : ℕ) {r : Option ℕ} where
  pub operation_typed : (x : ℕ) → (row_in rows n i).kind ≡ kind_operation → x ≡ (row_in rows n i).extra → r ≡ then (root_of (table_of t) x) (λ m. composite_of (table_of t) m.name)
      → r ≡ type_inside_from (table_of t) (doc_of s rows n) i (type_coded above)
  operation_typed x k p f = f ∙ rw p (sym (from_operation (table_of t) (doc_of s rows n) i (type_coded above) k))

  pub fragment_typed : (row_in rows n i).kind ≡ kind_fragment → r ≡ conditioned (table_of t) (doc_of s rows n) none (condition_of (doc_of s rows n) i)
      → r ≡ type_inside_from (table_of t) (doc_of s rows n) i (type_coded above)
  fragment_typed k f = f ∙ sym (from_fragment (table_of t) (doc_of s rows n) i (type_coded above) k)

  pub inline_typed : (row_in rows n i).kind ≡ kind_inline → r ≡ conditioned (table_of t) (doc_of s rows n) (type_coded above) (condition_of (doc_of s rows n) i)
      → r ≡ type_inside_from (table_of t) (doc_of s rows n) i (type_coded above)
  inline_typed k f = f ∙ sym (from_inline (table_of t) (doc_of s rows n) i (type_coded above) k)
