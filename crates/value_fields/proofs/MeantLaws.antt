-- The row that a name means is an operation's.
use mathlib.Core.Path.{◌≡◌, refl, ap, subst, ◌∙◌}
use mathlib.Core.Bool.{Bool, true, false, ◌&&◌, cond}
use mathlib.Core.Option.{Option, none, some}
use mathlib.Core.List.{List, [], ◌∷◌, ◌++◌}
use Prim.Native.Nat.{ℕ, suc, ◌+◌, ◌<◌}
use native.Mathlib.Omega.{arith}
use lib.ListN.{length, get_or}
use lib.Dec.{ltb}
use borrow.Author.Tests.{ltb-true, eqb-true}
use Rattle.paper.proofs.Bools.{and_left}
use Rattle.paper.specs.Numbers.{kind_operation}
use Rattle.paper.specs.Rows.{Row}
use Rattle.paper_table.specs.Lists.{first_at, each_from, only_if}
use Rattle.paper_query.specs.Constructs.{Doc, no_row, is, called, kind_of, row_of, numbers_where}
use Rattle.paper_query.specs.DocumentCalls.{read}
use Rattle.paper_query.specs.Opening.{only_one, if_below, operation_meant, opens, Opened}
use Rattle.paper_query.specs.Opening.Opened.{opened}
use Rattle.query_links.proofs.Nexts.{next_passes, next_all}

clash : {A : Type 0} (op : ℕ) → ◌≡◌ {A = Option ℕ} none (some op) → A
clash op e = let z : ◌≡◌ {A = ℕ} 0 1 = cc in absurd (omega arith)

-- the first of the numbers of rows that pass
module _ (p : Row → Bool) where
  passing_first : (rs : List Row) (j op : ℕ) (more : List ℕ) → each_from j (λ i r. only_if (p r) i) rs ≡ op ∷ more → (k : ℕ) × (op ≡ j + k) × (p (get_or rs k no_row) ≡ true)
  unfolding each_from
  passing_first [] j op more e = let k : 0 ≡ suc (length more) = ap length e in absurd (omega arith)
  passing_first (r ∷ rs) j op more e = go (p r) refl e (λ f. passing_first rs (suc j) op more f)
    where
      go : (b : Bool) → p r ≡ b → only_if b j ++ each_from (suc j) (λ i r. only_if (p r) i) rs ≡ op ∷ more
          → (each_from (suc j) (λ i r. only_if (p r) i) rs ≡ op ∷ more → (k : ℕ) × (op ≡ suc j + k) × (p (get_or rs k no_row) ≡ true))
          → (k : ℕ) × (op ≡ j + k) × (p (get_or (r ∷ rs) k no_row) ≡ true)
      go true q f ih = let z : j ≡ op = cc in (0, omega arith, q)
      go false q f ih = let x = ih f in (suc x.0, omega (arith, x.1), x.2)

  only_passes : (rs : List Row) (op : ℕ) → only_one (each_from 0 (λ i r. only_if (p r) i) rs) ≡ some op → p (get_or rs op no_row) ≡ true
  only_passes rs op e = go (each_from 0 (λ i r. only_if (p r) i) rs) refl e
    where
      go : (xs : List ℕ) → each_from 0 (λ i r. only_if (p r) i) rs ≡ xs → only_one xs ≡ some op → p (get_or rs op no_row) ≡ true
      go [] q f = clash op f
      go (i ∷ []) q f =
          let x = passing_first rs 0 i [] q in
          let z : i ≡ op = cc in
          let k : x.0 ≡ op = omega (arith, x.1, z) in
          subst (λ (m : ℕ). p (get_or rs m no_row) ≡ true) k x.2
      go (i ∷ j ∷ more) q f = clash op f

  below_passes : (rs : List Row) (op : ℕ) → if_below (length rs) (first_at p rs) ≡ some op → p (get_or rs op no_row) ≡ true
  below_passes rs op e = go (ltb (first_at p rs) (length rs)) refl e
    where
      go : (b : Bool) → ltb (first_at p rs) (length rs) ≡ b → cond b (some (first_at p rs)) none ≡ some op → p (get_or rs op no_row) ≡ true
      go true q f =
          let z : first_at p rs ≡ op = cc in
          let n = next_all p rs in
          let l : first_at p rs < length rs = ltb-true (first_at p rs) (length rs) q in
          subst (λ (m : ℕ). p (get_or rs m no_row) ≡ true) (n ∙ z) (next_passes p rs no_row 0 (rw n l))
      go false q f = clash op f

pub meant_operation : (d : Doc) (name : List ℕ) (op : ℕ) → operation_meant d name ≡ some op → kind_of d op ≡ kind_operation
unfolding numbers_where
meant_operation d [] op e = eqb-true (kind_of d op) kind_operation (only_passes (is kind_operation) d.rows op e)
meant_operation d (b ∷ bs) op e =
    eqb-true (kind_of d op) kind_operation
    (and_left (is kind_operation (row_of d op)) (called d (b ∷ bs) (row_of d op)) (below_passes (λ r. is kind_operation r && called d (b ∷ bs) r) d.rows op e))

-- so of an operation that is opened
pub opened_operation : {table document name : List ℕ} {rs : List Row} {op : ℕ} → Opened table document name (opens rs op) → kind_of (read document rs) op ≡ kind_operation
opened_operation {document = document} {name = name} {rs = rs} {op = op} (opened a e) = meant_operation (read document rs) name op e
