-- Values stored one behind the other; an entry's eight.
use mathlib.Core.Path.{◌≡◌, refl, ap, ◌∙◌}
use mathlib.Core.List.{List, [], ◌∷◌}
use Prim.Native.Nat.{ℕ, zero, suc, ◌+◌, ◌≤◌, ◌<◌}
use native.Mathlib.Omega.{arith}
use lib.ListN.{length, get_or, set, length-set}
use lib.Seq.{get_or-set_same, get_or-set_other}
use Rattle.paper_table.specs.References.{Ref}
use Rattle.table_book.specs.Book.{part}
use Rattle.table_members.specs.Members.{Named, Typed}
use Rattle.table_entries.specs.Entries.{cells_each, Roomy, entry_at, entry_key, entry_name, entry_size, entry_base, entry_extent, entry_wrappers, entry_next, entry_meant, cell, key_of, Means, Put, Entering}

abbrev pub stored_from : List ℕ → ℕ → ℕ → List ℕ → List ℕ
stored_from old i j [] = old
stored_from old i j (v ∷ vs) = stored_from (set old (i + j) v) i (suc j) vs

pub stored_length : (old : List ℕ) (i j : ℕ) (vs : List ℕ) → length (stored_from old i j vs) ≡ length old
stored_length old i j [] = refl
stored_length old i j (v ∷ vs) = stored_length (set old (i + j) v) i (suc j) vs ∙ length-set old (i + j) v

stored_before : (old : List ℕ) (i j : ℕ) (vs : List ℕ) (k : ℕ) → k < i + j → get_or (stored_from old i j vs) k 0 ≡ get_or old k 0
stored_before old i j [] k l = refl
stored_before old i j (v ∷ vs) k l = stored_before (set old (i + j) v) i (suc j) vs k (omega arith) ∙ get_or-set_other old (i + j) k v 0 (λ z. omega arith)

stored_behind : (old : List ℕ) (i j : ℕ) (vs : List ℕ) (k : ℕ) → i + j + length vs ≤ k → get_or (stored_from old i j vs) k 0 ≡ get_or old k 0
stored_behind old i j [] k l = refl
stored_behind old i j (v ∷ vs) k l = stored_behind (set old (i + j) v) i (suc j) vs k (omega arith) ∙ get_or-set_other old (i + j) k v 0 (λ z. omega arith)

stored_at : (old : List ℕ) (i j : ℕ) (vs : List ℕ) (m : ℕ) → m < length vs → i + j + length vs ≤ length old → get_or (stored_from old i j vs) (i + (j + m)) 0 ≡ get_or vs m 0
stored_at old i j [] m l h = absurd (omega arith)
stored_at old i j (v ∷ vs) zero l h =
    let z : i + (j + 0) ≡ i + j = omega arith in
    rw z (stored_before (set old (i + j) v) i (suc j) vs (i + j) (omega arith) ∙ get_or-set_same old (i + j) v 0 (omega arith))
stored_at old i j (v ∷ vs) (suc m) l h =
    let z : i + (j + suc m) ≡ i + (suc j + m) = omega arith in
    rw z (stored_at (set old (i + j) v) i (suc j) vs m (omega arith) (omega (arith, length-set old (i + j) v)))

module _ (old : List ℕ) (e : ℕ) (l : Roomy old (suc e)) (key name size base extent wrappers next meant : ℕ) where
  abbrev values : List ℕ
  values = key ∷ name ∷ size ∷ base ∷ extent ∷ wrappers ∷ next ∷ meant ∷ []

  abbrev made : List ℕ
  made = stored_from old (entry_at e) 0 values

  at : (m : ℕ) → m < cells_each → cell made e m ≡ get_or values m 0
  at m h = let z : 0 + m ≡ m = omega arith in rw z at (stored_at old (entry_at e) 0 values m h (omega (arith, l.cells)))

  pub put_is : Put old made e key name size base extent wrappers next meant
  put_is = record {
    cells = stored_length old (entry_at e) 0 values;
    key_is = at entry_key (omega arith);
    name_is = at entry_name (omega arith);
    size_is = at entry_size (omega arith);
    base_is = at entry_base (omega arith);
    extent_is = at entry_extent (omega arith);
    wrappers_are = at entry_wrappers (omega arith);
    next_is = at entry_next (omega arith);
    meant_is = at entry_meant (omega arith);
    before = λ k h. stored_before old (entry_at e) 0 values k (omega arith);
    behind = λ k h. stored_behind old (entry_at e) 0 values k (omega arith);
  }

pub entering_is : (t book old es : List ℕ) (e key at n base extent wrappers next meant : ℕ) (name : List ℕ) (type : Ref) → Named t at n name → Typed t base extent wrappers type
    → key ≡ key_of (part t at n) → Means t book (part t base extent) meant → Put old es e key at n base extent wrappers next meant → Entering t book old es e next name type
entering_is t book old es e key at n base extent wrappers next meant name type m r k u p = record {
  cells = p.cells;
  entry = record {
    key_is = p.key_is ∙ k ∙ ap key_of m.is;
    named = rw (p.name_is, p.size_is) m;
    typed = rw (p.base_is, p.extent_is, p.wrappers_are) r;
    means = rw (p.meant_is, ← r.base) u;
  };
  next_is = p.next_is;
  before = p.before;
  behind = p.behind;
}
