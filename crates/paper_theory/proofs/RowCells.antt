-- Rows as numbers: a number written into row i of the cells is a field of that row changed, and seven written behind the last are a row more.
-- Nothing is asked of i: beyond the rows neither side changes anything.
use mathlib.Core.Path.{◌≡◌, refl, sym, ap, ◌∙◌, subst}
use mathlib.Core.List.{List, [], ◌∷◌, ◌++◌}
use Prim.Native.Nat.{ℕ, zero, suc, ◌+◌, ◌*◌, ◌≤◌, ◌<◌}
use native.Mathlib.Nat.{le_of_suc-le-suc, not-suc-le-zero}
use native.Mathlib.Decide.{dec_lt}
use native.Mathlib.Omega.{arith}
use lib.ListN.{length, take, drop, set, get_or, length-append, length-set}
use lib.Seq.{sets, sets-eq, length-sets, take_at, take-set-lt, take-set-le, get_or-take, length-take-le}
use Rattle.paper.specs.Rows.{Row, change, begun, wrapped, cells_of, flat}

pub flat_length : (rs : List Row) → length (flat rs) ≡ 7 * length rs
unfolding flat
flat_length [] = refl
flat_length (r ∷ rs) = let h = flat_length rs in omega arith

pub flat_append : (rs qs : List Row) → flat (rs ++ qs) ≡ flat rs ++ flat qs
unfolding flat
flat_append [] qs = refl
flat_append (r ∷ rs) qs = ap (λ (z : List ℕ). cells_of r ++ z) (flat_append rs qs)

pub change_length : (f : Row → Row) (i : ℕ) (rs : List Row) → length (change f i rs) ≡ length rs
change_length f i [] = refl
change_length f zero (r ∷ rs) = refl
change_length f (suc i) (r ∷ rs) = ap suc (change_length f i rs)

change_out : (f : Row → Row) (i : ℕ) (rs : List Row) → length rs ≤ i → change f i rs ≡ rs
change_out f i [] h = refl
change_out f zero (r ∷ rs) h = absurd (not-suc-le-zero h)
change_out f (suc i) (r ∷ rs) h = ap (λ (z : List Row). r ∷ z) (change_out f i rs (le_of_suc-le-suc h))

pub change_change : (f g : Row → Row) (i : ℕ) (rs : List Row) → change g i (change f i rs) ≡ change (λ r. g (f r)) i rs
change_change f g i [] = refl
change_change f g zero (r ∷ rs) = refl
change_change f g (suc i) (r ∷ rs) = ap (λ (z : List Row). r ∷ z) (change_change f g i rs)

seven_up : (i j : ℕ) → 7 * suc i + j ≡ suc (suc (suc (suc (suc (suc (suc (7 * i + j)))))))
seven_up i j = omega arith

-- a number of one row
set_row : (f : Row → Row) (j v : ℕ) → ((r : Row) (q : List ℕ) → set (cells_of r ++ q) j v ≡ cells_of (f r) ++ q) →
    (rs : List Row) (i : ℕ) → i < length rs → set (flat rs) (7 * i + j) v ≡ flat (change f i rs)
unfolding flat
set_row f j v h [] i b = absurd (not-suc-le-zero b)
set_row f j v h (r ∷ rs) zero b = let e : 7 * zero + j ≡ j = omega arith in rw e (h r (flat rs))
set_row f j v h (r ∷ rs) (suc i) b = rw (seven_up i j) (ap (λ (z : List ℕ). cells_of r ++ z) (set_row f j v h rs i (le_of_suc-le-suc b)))

wrap_row : (w : ℕ) (rs : List Row) (i : ℕ) → i < length rs → set (flat rs) (7 * i + 6) (get_or (flat rs) (7 * i + 6) 0 * 4 + w) ≡ flat (change (wrapped w) i rs)
unfolding flat
wrap_row w [] i b = absurd (not-suc-le-zero b)
wrap_row w (r ∷ rs) zero b = refl
wrap_row w (r ∷ rs) (suc i) b = rw (seven_up i 6) (ap (λ (z : List ℕ). cells_of r ++ z) (wrap_row w rs i (le_of_suc-le-suc b)))

-- n rows stand in the cells
pub record Stand (n : ℕ) (cells : List ℕ) (rs : List Row) : Type 0 where
  pub count : n ≡ length rs
  pub room : 7 * n ≤ length cells
  pub are : take (7 * n) cells ≡ flat rs

pub stand_set : (f : Row → Row) (j v : ℕ) → j < 7 → ((r : Row) (q : List ℕ) → set (cells_of r ++ q) j v ≡ cells_of (f r) ++ q) →
    (i n : ℕ) (cells : List ℕ) (rs : List Row) → Stand n cells rs → Stand n (set cells (7 * i + j) v) (change f i rs)
stand_set f j v b h i n cells rs s =
    record { count = s.count ∙ sym (change_length f i rs); room = subst (λ (z : ℕ). 7 * n ≤ z) (sym (length-set cells (7 * i + j) v)) s.room; are = go (dec_lt i n) }
  where
    go : Dec (i < n) → take (7 * n) (set cells (7 * i + j) v) ≡ flat (change f i rs)
    go (yes p) =
        take-set-lt (7 * n) cells (7 * i + j) v (omega arith)
        ∙ ap (λ (z : List ℕ). set z (7 * i + j) v) s.are
        ∙ set_row f j v h rs i (let e = s.count in omega arith)
    go (no p) =
        take-set-le (7 * n) cells (7 * i + j) v (omega arith)
        ∙ s.are
        ∙ ap flat (sym (change_out f i rs (let e = s.count in omega arith)))

pub stand_wrap : (w i n : ℕ) (cells : List ℕ) (rs : List Row) → Stand n cells rs → Stand n (set cells (7 * i + 6) (get_or cells (7 * i + 6) 0 * 4 + w)) (change (wrapped w) i rs)
stand_wrap w i n cells rs s =
    record { count = s.count ∙ sym (change_length (wrapped w) i rs); room = subst (λ (z : ℕ). 7 * n ≤ z) (sym (length-set cells (7 * i + 6) v)) s.room; are = go (dec_lt i n) }
  where
    v : ℕ
    v = get_or cells (7 * i + 6) 0 * 4 + w

    go : Dec (i < n) → take (7 * n) (set cells (7 * i + 6) v) ≡ flat (change (wrapped w) i rs)
    go (yes p) =
        let same : get_or cells (7 * i + 6) 0 ≡ get_or (flat rs) (7 * i + 6) 0 = sym (get_or-take (7 * n) cells (7 * i + 6) 0 (omega arith)) ∙ ap (λ (z : List ℕ). get_or z (7 * i + 6) 0) s.are in
        take-set-lt (7 * n) cells (7 * i + 6) v (omega arith)
        ∙ ap (λ (z : List ℕ). set z (7 * i + 6) v) s.are
        ∙ ap (λ (z : ℕ). set (flat rs) (7 * i + 6) (z * 4 + w)) same
        ∙ wrap_row w rs i (let e = s.count in omega arith)
    go (no p) =
        take-set-le (7 * n) cells (7 * i + 6) v (omega arith)
        ∙ s.are
        ∙ ap flat (sym (change_out (wrapped w) i rs (let e = s.count in omega arith)))

pub stand_row : (at parent n : ℕ) (cells : List ℕ) (rs : List Row) → Stand n cells rs → 7 * (n + 1) ≤ length cells →
    Stand (n + 1) (sets cells (7 * n) (0 ∷ at ∷ 0 ∷ parent ∷ 0 ∷ 0 ∷ 0 ∷ [])) (rs ++ (begun at parent ∷ []))
unfolding flat
stand_row at parent n cells rs s b =
    record {
      count = let e = s.count in let l = length-append rs (begun at parent ∷ []) in omega arith;
      room = subst (λ (z : ℕ). 7 * (n + 1) ≤ z) (sym (length-sets cells (7 * n) vs)) b;
      are =
          ap (λ (z : List ℕ). take (7 * (n + 1)) z) (sets-eq vs cells (7 * n) (omega arith))
          ∙ take_at (take (7 * n) cells ++ vs) (drop (7 * n + 7) cells) (7 * (n + 1)) (let l = length-append (take (7 * n) cells) vs in let m = length-take-le (7 * n) cells s.room in omega arith)
          ∙ ap (λ (z : List ℕ). z ++ vs) s.are
          ∙ sym (flat_append rs (begun at parent ∷ []));
    }
  where
    vs : List ℕ
    vs = 0 ∷ at ∷ 0 ∷ parent ∷ 0 ∷ 0 ∷ 0 ∷ []
