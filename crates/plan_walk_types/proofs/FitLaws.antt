-- By the names of the two records; a byte more.
use mathlib.Core.Path.{◌≡◌, refl, ap, ◌∙◌}
use mathlib.Core.Bool.{Bool, true, false, ◌&&◌}
use mathlib.Core.List.{List}
use Prim.Native.Nat.{ℕ, ◌+◌, ◌<◌, ◌≤◌}
use native.Mathlib.Decide.{dec_lt}
use native.Mathlib.Omega.{arith}
use lib.ListN.{length, get_or, set, length-set}
use lib.Seq.{get_or-set_same, get_or-set_other}
use lib.Dec.{eqb}
use borrow.Author.Tests.{lt-ltb, le-ltb, eq-eqb, ne_eqb}
use Rattle.paper_table.specs.Types.{Table, table_of, can_be}
use Rattle.table_book.specs.Book.{part, room, cell_name, cell_size, count_in}
use Rattle.table_types.specs.Booked.{Booked}
use Rattle.paper_plan.specs.Applies.{applies}
use Rattle.plan_walk_types.specs.Fits.{bit, fit, FitsTo}

pub applies_self : (t : Table) (k o : ℕ) → k ≡ o → true ≡ applies t k o
unfolding applies
applies_self t k o e = rw (eq-eqb k o e)

pub applies_other : (t book : List ℕ) (b : Booked t book) (k o : ℕ) → k < count_in book → o < count_in book → (k ≡ o → ⊥) → (a an c cn : ℕ) → a ≡ get_or book (cell_name + k) 0 → an ≡ get_or book (cell_size + k) 0 → c ≡ get_or book (cell_name + o) 0 → cn ≡ get_or book (cell_size + o) 0
    → can_be (table_of t) (part t a an) (part t c cn) ≡ applies (table_of t) k o
unfolding applies
applies_other t book b k o h l n a an c cn p q r s =
    rw (ne_eqb k o n, p, q, r, s, (b.entered k h).name, (b.entered o l).name)

module _ (t : Table) (k o : ℕ) where
  pub fit_yes : k < length t → true ≡ applies t k o → 1 ≡ fit t o k
  fit_yes h e = rw (lt-ltb k (length t) h, ← e)

  pub fit_no : k < length t → false ≡ applies t k o → 0 ≡ fit t o k
  fit_no h e = rw (lt-ltb k (length t) h, ← e)

  pub fit_none : length t ≤ k → 0 ≡ fit t o k
  fit_none h = rw (le-ltb k (length t) h)

pub fits_none : (t : Table) (o : ℕ) (fits : List ℕ) → length fits ≡ room → FitsTo t o fits 0
fits_none t o fits e = record { size = e; right = λ k h. absurd (omega arith) }

pub fits_more : (t : Table) (o : ℕ) (fits fits' : List ℕ) (k b : ℕ) → FitsTo t o fits k → k < room → b ≡ fit t o k → fits' ≡ set fits k b → FitsTo t o fits' (k + 1)
fits_more t o fits fits' k b f h e w = record {
  size = ap length w ∙ length-set fits k b ∙ f.size;
  right = λ j l. go j l (dec_lt j k);
}
  where
    go : (j : ℕ) → j < k + 1 → Dec (j < k) → get_or fits' j 0 ≡ fit t o j
    go j l (yes u) = rw w (get_or-set_other fits k j b 0 (λ z. absurd (omega arith)) ∙ f.right j u)
    go j l (no u) = let z : j ≡ k = omega arith in rw (w, z) (get_or-set_same fits k b 0 (omega (arith, f.size)) ∙ e)

-- what a walk reads: the byte is 1 exactly where there is such a record and its condition applies
pub fits_one : (t : Table) (o : ℕ) (fits : List ℕ) → FitsTo t o fits room → (k : ℕ) → k < room → k < length t → eqb (get_or fits k 0) 1 ≡ applies t k o
fits_one t o fits f k h l = ap (λ (b : ℕ). eqb b 1) (f.right k h) ∙ rw (lt-ltb k (length t) l) (go (applies t k o))
  where
    go : (b : Bool) → eqb (bit (true && b)) 1 ≡ b
    go true = refl
    go false = refl
