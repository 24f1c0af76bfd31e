-- A bit that is set, and the others.
use mathlib.Core.Path.{◌≡◌, refl, sym, ap, ◌∙◌}
use mathlib.Core.Bool.{Bool, true, false}
use mathlib.Core.Logic.{◌⊎◌, inl, inr}
use mathlib.Core.List.{List}
use Prim.Native.Nat.{ℕ, zero, suc, ◌+◌, ◌*◌, ◌/◌, ◌%◌, ◌^◌, ◌<◌}
use native.Mathlib.Nat.{pow-suc, one-mul}
use native.Mathlib.Omega.{arith}
use lib.ListN.{length, get_or, set, length-set}
use lib.Seq.{get_or-set_same, get_or-set_other}
use lib.Dec.{eqb}
use lib.Pow.{shr-shr, shr_le, shl_exact}
use lib.Bits.{bit_or, or_step, or_shr}
use borrow.Author.Tests.{eqb-true, eqb-false}
use Rattle.table_book.specs.Book.{room}
use Rattle.table_possible.specs.Possible.{bits_size, cell_of, bit_at, Blank, Marked}

down : (n m : ℕ) → n / 2 ^ suc m ≡ n / 2 / 2 ^ m
down n m = ap (λ (x : ℕ). n / 2 ^ x) (let e : suc m ≡ 1 + m = omega arith in e) ∙ sym (shr-shr n 1 m)

-- of the number 2 ^ k no bit is set but number k
pub lone : (k m : ℕ) → 2 ^ k / 2 ^ m % 2 ≡ 1 → m ≡ k
lone zero zero e = refl
lone (suc k) zero e = absurd (omega (arith, e, pow-suc 2 k))
lone zero (suc m) e = let z : 1 / 2 ^ suc m ≡ 0 / 2 ^ m = down 1 m in absurd (omega (arith, e, z, shr_le 0 m))
lone (suc k) (suc m) e = ap suc (lone k m (ap (λ (x : ℕ). x / 2 ^ m % 2) half ∙ ap (λ (x : ℕ). x % 2) (sym (down (2 ^ suc k) m)) ∙ e))
  where
    half : 2 ^ k ≡ 2 ^ suc k / 2
    half = omega (arith, pow-suc 2 k)

-- a bit of two numbers joined is one of the first or of the second
pub bit_or_is : (a b m : ℕ) → bit_or a b / 2 ^ m % 2 ≡ 1 → (a / 2 ^ m % 2 ≡ 1) ⊎ (b / 2 ^ m % 2 ≡ 1)
bit_or_is a b m e = go (a / 2 ^ m) (b / 2 ^ m) (ap (λ (x : ℕ). x % 2) (sym (or_shr a b m)) ∙ e)
  where
    go : (x y : ℕ) → bit_or x y % 2 ≡ 1 → (x % 2 ≡ 1) ⊎ (y % 2 ≡ 1)
    go x y q = by (eqb (x % 2) 1) refl (eqb (y % 2) 1) refl
      where
        by : (c : Bool) → eqb (x % 2) 1 ≡ c → (d : Bool) → eqb (y % 2) 1 ≡ d → (x % 2 ≡ 1) ⊎ (y % 2 ≡ 1)
        by true f d g = inl (eqb-true (x % 2) 1 f)
        by false f true g = inr (eqb-true (y % 2) 1 g)
        by false f false g =
            let u : x % 2 ≡ 0 = omega (arith, eqb-false (x % 2) 1 f) in
            let v : y % 2 ≡ 0 = omega (arith, eqb-false (y % 2) 1 g) in
            let w : bit_or x y ≡ bit_or (x / 2) (y / 2) * 2 + 0 = or_step x y ∙ rw (u, v) in
            absurd (omega (arith, q, w))

module _ (bits : List ℕ) (i j v : ℕ) (e : length bits ≡ bits_size) (hi : i < room) (hj : j < room) (q : v ≡ 2 ^ (i % 32)) where
  abbrev old : ℕ
  old = get_or bits (cell_of i j) 0

  abbrev now : List ℕ
  now = set bits (cell_of i j) (bit_or old v)

  in_cell : (x y : ℕ) → x < room → y < room → bit_at now x y ≡ 1 → (bit_at bits x y ≡ 1) ⊎ ((x ≡ i) × (y ≡ j))
  in_cell x y hx hy b = go (eqb (cell_of x y) (cell_of i j)) refl
    where
      here : cell_of x y ≡ cell_of i j → (bit_at bits x y ≡ 1) ⊎ ((x ≡ i) × (y ≡ j))
      here f = by (bit_or_is old v (x % 32) (ap (λ (z : ℕ). z / 2 ^ (x % 32) % 2) (sym (get_or-set_same bits (cell_of i j) (bit_or old v) 0 (omega arith))) ∙ ap (λ (z : ℕ). get_or now z 0 / 2 ^ (x % 32) % 2) (sym f) ∙ b))
        where
          by : (old / 2 ^ (x % 32) % 2 ≡ 1) ⊎ (v / 2 ^ (x % 32) % 2 ≡ 1) → (bit_at bits x y ≡ 1) ⊎ ((x ≡ i) × (y ≡ j))
          by (inl u) = inl (ap (λ (z : ℕ). get_or bits z 0 / 2 ^ (x % 32) % 2) f ∙ u)
          by (inr u) =
              let w : x % 32 ≡ i % 32 = lone (i % 32) (x % 32) (ap (λ (z : ℕ). z / 2 ^ (x % 32) % 2) (sym q) ∙ u) in
              inr (omega (arith, f, w), omega (arith, f, w))

      go : (c : Bool) → eqb (cell_of x y) (cell_of i j) ≡ c → (bit_at bits x y ≡ 1) ⊎ ((x ≡ i) × (y ≡ j))
      go true f = here (eqb-true (cell_of x y) (cell_of i j) f)
      go false f =
          inl (ap (λ (z : ℕ). z / 2 ^ (x % 32) % 2) (sym (get_or-set_other bits (cell_of i j) (cell_of x y) (bit_or old v) 0 (λ z. eqb-false (cell_of x y) (cell_of i j) f z))) ∙ b)

  pub marked : Marked bits now i j
  marked = record { size = length-set bits (cell_of i j) (bit_or old v); set_are = in_cell }

-- no bit of a blank number is set
pub blank_bit : (bits : List ℕ) → Blank bits → (i j : ℕ) → bit_at bits i j ≡ 1 → ⊥
blank_bit bits b i j e = omega (arith, e, ap (λ (x : ℕ). x / 2 ^ (i % 32) % 2) (b.none_set (cell_of i j)), shr_le 0 (i % 32))

-- 1 shifted
pub one_shifted : (k : ℕ) → k < 32 → 1 * 2 ^ k % 4294967296 ≡ 2 ^ k
one_shifted k h = shl_exact {a = 1} 1 k 32 (omega arith) (omega arith) ∙ one-mul (2 ^ k)
