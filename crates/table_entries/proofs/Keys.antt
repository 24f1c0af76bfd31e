-- A name's key by its bytes.
use mathlib.Core.Path.{◌≡◌, refl, ap}
use mathlib.Core.Bool.{Bool, true, false}
use mathlib.Core.List.{List}
use Prim.Native.Nat.{ℕ, ◌+◌, ◌-◌, ◌*◌, ◌%◌, ◌≤◌, ◌<◌}
use native.Mathlib.Omega.{arith}
use lib.ListN.{length, get_or, length-take, length-drop}
use lib.Seq.{get_or-drop, get_or-take}
use Rattle.paper.specs.Tokens.{same}
use Rattle.paper_table.proofs.TextLaws.{same_sound}
use Rattle.table_book.specs.Book.{part}
use Rattle.table_entries.specs.Entries.{key_values, key_sizes, second, third, fourth, first, size, last_but, key_of}

module _ (s : List ℕ) (at n : ℕ) (h : at + n ≤ length s) where
  part_length : length (part s at n) ≡ n
  part_length = simp (length-take, length-drop) (omega arith)

  part_byte : (i : ℕ) → i < n → get_or (part s at n) i 0 ≡ get_or s (at + i) 0
  part_byte i l = rw (get_or-take, get_or-drop)

  pub key_none : n ≡ 0 → 0 ≡ key_of (part s at n)
  unfolding key_of
  key_none e = rw e

  last_is : (l : 0 < n) (k x : ℕ) → 0 < k → x ≡ get_or s (at + (n - k)) 0 → last_but k (part s at n) ≡ x
  last_is l k x o p = let a : get_or (part s at n) (n - k) 0 ≡ get_or s (at + (n - k)) 0 = part_byte (n - k) (omega arith) in rw (part_length, a, p)

  pub key_some : (l : 0 < n) (a b c d e : ℕ) → a ≡ get_or s (at + (n - 1)) 0 → b ≡ get_or s (at + (n - 2)) 0 → c ≡ get_or s (at + (n - 3)) 0 → d ≡ get_or s (at + (n - 4)) 0 → e ≡ get_or s (at + (n - n)) 0
      → (a + second * b + third * c + fourth * d + first * e + size * (n % key_sizes)) % key_values ≡ key_of (part s at n)
  unfolding key_of
  key_some l a b c d e p q r u v =
      let z : n - n ≡ 0 = omega arith in
      let y : get_or (part s at n) 0 0 ≡ e = rw z at (rw part_length at (last_is l n e l v)) in
      rw (last_is l 1 a (omega arith) p, last_is l 2 b (omega arith) q, last_is l 3 c (omega arith) r, last_is l 4 d (omega arith) u, y, part_length)

-- names of other keys are others
pub other_key : (x y : List ℕ) → (key_of x ≡ key_of y → ⊥) → same x y ≡ false
other_key x y h = go (same x y) refl
  where
    go : (b : Bool) → same x y ≡ b → same x y ≡ false
    go true e = absurd (h (ap key_of (same_sound x y e)))
    go false e = e
