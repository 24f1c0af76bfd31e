-- A loop that goes on while the byte is of a set: what is left to count, at each place.
use mathlib.Core.Path.{◌≡◌, sym}
use mathlib.Core.Bool.{Bool, true, false, cond}
use mathlib.Core.List.{List, [], ◌∷◌}
use Prim.Native.Nat.{ℕ, suc, ◌+◌, ◌<◌, ◌≤◌}
use native.Mathlib.Nat.{add-zero, add_assoc}
use native.Mathlib.Omega.{arith}
use lib.ListN.{length, get_or, drop, drop_of_length-le}
use Rattle.paper.specs.Lexical.{Set, hits_byte}
use Rattle.text_scan.specs.Run.{run_of, starts_with}
use Rattle.text_characters.proofs.ByteLaws.{front}

module _ (p : Set) where
  pub run_yes : (b : ℕ) (bs : List ℕ) → hits_byte p b ≡ true → run_of p (b ∷ bs) ≡ 1 + run_of p bs
  unfolding run_of
  run_yes b bs t = rw t

  pub run_no : (b : ℕ) (bs : List ℕ) → hits_byte p b ≡ false → run_of p (b ∷ bs) ≡ 0
  unfolding run_of
  run_no b bs t = rw t

  pub run_within : (bs : List ℕ) → run_of p bs ≤ length bs
  unfolding run_of
  run_within [] = omega arith
  run_within (b ∷ bs) = go (hits_byte p b) (run_within bs)
    where
      go : (t : Bool) → run_of p bs ≤ length bs → cond t (1 + run_of p bs) 0 ≤ suc (length bs)
      go true h = omega arith
      go false h = omega arith

  module _ (s : List ℕ) (i : ℕ) where
    -- the byte at i is of the set: the run from i is one more than the run from i + 1
    pub run_more : i < length s → hits_byte p (get_or s i 0) ≡ true → i + 1 + run_of p (drop (i + 1) s) ≡ i + run_of p (drop i s)
    run_more h t = rw (front s i h, run_yes (get_or s i 0) (drop (i + 1) s) t) (add_assoc i 1 _)

    -- it is not, or the text ends: the run from i is over
    pub run_stop : i < length s → hits_byte p (get_or s i 0) ≡ false → i ≡ i + run_of p (drop i s)
    run_stop h t = rw (front s i h, run_no (get_or s i 0) (drop (i + 1) s) t) (sym (add-zero i))

    pub run_end : length s ≤ i → i ≡ i + run_of p (drop i s)
    unfolding run_of
    run_end h = rw (drop_of_length-le s h) (sym (add-zero i))

    -- whether a byte of the set stands at i
    pub starts_at : i < length s → starts_with p (drop i s) ≡ hits_byte p (get_or s i 0)
    starts_at h = rw (front s i h)

    pub starts_end : length s ≤ i → starts_with p (drop i s) ≡ false
    starts_end h = rw (drop_of_length-le s h)
