-- One law for each answer on a row.
use mathlib.Core.Path.{◌≡◌, refl, sym, subst, ◌∙◌}
use mathlib.Core.Bool.{Bool, true, false}
use mathlib.Core.List.{List}
use Prim.Native.Nat.{ℕ, ◌<◌}
use native.Mathlib.Omega.{arith}
use lib.Dec.{eqb}
use borrow.Author.Tests.{eqb-true, eq-eqb}
use Rattle.paper.proofs.Bools.{T→eq as T_true}
use Rattle.paper.specs.Numbers.{kind_field}
use Rattle.paper_table.specs.Types.{table_of}
use Rattle.paper_query.specs.Constructs.{Doc, is, kind_of}
use Rattle.paper_query.specs.Enclosing.{field_at}
use Rattle.paper_query.specs.Reaching.{Reaches}
use Rattle.query_rows.specs.Rowed.{row_in, doc_of, Decides}
use Rattle.query_rows.proofs.RowsIn.{rows_count}
use Rattle.query_spreads.proofs.OwnerLaws.{row_within}
use Rattle.value_fields.specs.Wants.{Holds, Wants}
use Rattle.value_fields.specs.declared.Span.{Span}
use Rattle.std.proofs.Common.{Some, None}

-- a field's row is one of the document's
pub field_there : (s rows : List ℕ) (n i : ℕ) → (row_in rows n i).kind ≡ kind_field → i < n
field_there s rows n i e =
    let l = row_within (doc_of s rows n) (is kind_field) i refl (rw (eq-eqb (row_in rows n i).kind kind_field e) tt) in
    omega (arith, l, rows_count rows n)

module _ (t : List ℕ) (d : Doc) (op row : ℕ) {k : ℕ} (e : k ≡ kind_of d row) where
  pub wants_no_field : (k ≡ kind_field → ⊥) → Wants t d op row None
  wants_no_field h r = h (e ∙ eqb-true (kind_of d row) kind_field (T_true (eqb (kind_of d row) kind_field) r.field))

  pub wants_unreached : (b : Bool) → Decides b (Reaches d op row) → b ≡ false → Wants t d op row None
  wants_unreached b x h r = subst (λ (y : Bool). Decides y (Reaches d op row)) h x r.reached

  pub wants_reached : (b : Bool) (c : Span) → k ≡ kind_field → Decides b (Reaches d op row) → b ≡ true → Holds t (field_at (table_of t) d row) c.start c.end → Wants t d op row (Some c)
  wants_reached b c f x h w =
      (record { field = rw (eq-eqb (kind_of d row) kind_field (sym e ∙ f)) tt; reached = subst (λ (y : Bool). Decides y (Reaches d op row)) h x }, w)
