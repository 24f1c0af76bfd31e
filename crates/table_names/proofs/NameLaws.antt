-- What the tests of names say, case by case.
use mathlib.Core.Path.{◌≡◌, refl, sym, ap, ◌∙◌}
use mathlib.Core.Bool.{Bool, true, false, ◌||◌, ◌&&◌}
use mathlib.Core.List.{List, [], ◌∷◌}
use Prim.Native.Nat.{ℕ, zero, suc, ◌+◌, ◌≤◌, ◌<◌}
use native.Mathlib.Omega.{arith}
use lib.ListN.{length, take, drop, get_or}
use lib.Seq.{drop-cons}
use lib.Dec.{eqb}
use borrow.Author.Tests.{eq-eqb, ne_eqb}
use Rattle.paper_table.specs.Lists.{any_of}
use Rattle.paper_table.specs.Types.{is_reserved}
use Rattle.table_book.specs.Book.{part}

-- the first two bytes of a part
part_two : (t : List ℕ) (at n : ℕ) → at + n ≤ length t → 2 ≤ n → (k : ℕ) × (n ≡ suc (suc k)) × (part t at n ≡ get_or t at 0 ∷ get_or t (at + 1) 0 ∷ take k (drop (suc (suc at)) t))
part_two t at zero h l = absurd (omega arith)
part_two t at (suc zero) h l = absurd (omega arith)
part_two t at (suc (suc k)) h l = (
  k,
  refl,
  ap (take (suc (suc k))) (drop-cons t at 0 (omega arith)) ∙ ap (λ (xs : List ℕ). get_or t at 0 ∷ take (suc k) xs) (drop-cons t (suc at) 0 (omega arith))
      ∙ ap (λ (x : ℕ). get_or t at 0 ∷ get_or t x 0 ∷ take k (drop (suc (suc at)) t)) (let e : suc at ≡ at + 1 = omega arith in e),
)

one_reserved : (xs : List ℕ) → false ≡ is_reserved (take 1 xs)
one_reserved [] = refl
one_reserved (a ∷ xs) = refl

pub short_reserved : (t : List ℕ) (at n : ℕ) → n < 2 → false ≡ is_reserved (part t at n)
short_reserved t at zero h = refl
short_reserved t at (suc zero) h = one_reserved (drop at t)
short_reserved t at (suc (suc n)) h = absurd (omega arith)

module _ (t : List ℕ) (at n : ℕ) (h : at + n ≤ length t) where
  pub reserved_two : 2 ≤ n → is_reserved (part t at n) ≡ (eqb (get_or t at 0) 0x5f && eqb (get_or t (at + 1) 0) 0x5f)
  reserved_two l = ap is_reserved (part_two t at n h l).2

  pub reserved_other : 2 ≤ n → (get_or t at 0 ≡ 0x5f → ⊥) → false ≡ is_reserved (part t at n)
  reserved_other l f = sym (reserved_two l ∙ rw (ne_eqb (get_or t at 0) 0x5f f))

  pub reserved_second : 2 ≤ n → get_or t at 0 ≡ 0x5f → eqb (get_or t (at + 1) 0) 0x5f ≡ is_reserved (part t at n)
  reserved_second l e = sym (reserved_two l ∙ rw (eq-eqb (get_or t at 0) 0x5f e))

-- one of some words
module _ {A : Type 0} (p : A → Bool) where
  pub word_here : (x : A) (xs : List A) → p x ≡ true → true ≡ any_of p (x ∷ xs)
  unfolding any_of
  word_here x xs e = sym (rw e refl)

  pub word_later : {b : Bool} (x : A) (xs : List A) → p x ≡ false → b ≡ any_of p xs → b ≡ any_of p (x ∷ xs)
  unfolding any_of
  word_later x xs e f = f ∙ sym (rw e refl)

  pub word_last : {b : Bool} (x : A) → b ≡ p x → b ≡ any_of p (x ∷ [])
  unfolding any_of
  word_last x e = e ∙ or_false (p x)
    where
      or_false : (q : Bool) → q ≡ (q || false)
      or_false true = refl
      or_false false = refl
