-- Parts of a text, equal texts, and a name's bucket, byte by byte.
use mathlib.Core.Path.{◌≡◌, refl, sym, ap}
use mathlib.Core.Bool.{Bool, true, false}
use mathlib.Core.List.{List}
use Prim.Native.Nat.{ℕ, suc, ◌+◌, ◌*◌, ◌%◌, ◌<◌, ◌≤◌}
use native.Mathlib.Omega.{arith}
use lib.ListN.{length, drop, get_or, length-drop, drop_of_length-le}
use lib.Seq.{drop-cons, length-take-le}
use Rattle.paper.specs.Tokens.{same}
use Rattle.paper_table.proofs.TextLaws.{same_sound}
use Rattle.table_book.specs.Book.{part, hash_limit, hash_from}

-- one byte more of the bytes xs
pub hash_more : (xs : List ℕ) (i m h : ℕ) → i < length xs → hash_from m ((h + get_or xs i 0) * m % hash_limit) (drop (i + 1) xs) ≡ hash_from m h (drop i xs)
unfolding hash_from
hash_more xs i m h l = let e : i + 1 ≡ suc i = omega arith in rw (e, drop-cons xs i 0 l)

pub hash_end : (xs : List ℕ) (i m h : ℕ) → length xs ≤ i → h ≡ hash_from m h (drop i xs)
unfolding hash_from
hash_end xs i m h l = rw (drop_of_length-le xs {i = i} l)

-- texts of two lengths are not the same
pub same_lengths : (xs ys : List ℕ) → (length xs ≡ length ys → ⊥) → false ≡ same xs ys
same_lengths xs ys f = go (same xs ys) refl
  where
    go : (b : Bool) → same xs ys ≡ b → false ≡ same xs ys
    go true q = absurd (f (ap length (same_sound xs ys q)))
    go false q = sym q

pub length_part : (s : List ℕ) (a n : ℕ) → a + n ≤ length s → length (part s a n) ≡ n
length_part s a n h = length-take-le n (drop a s) (omega (arith, length-drop a s))
