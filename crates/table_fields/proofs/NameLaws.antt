-- A name and the bytes of names, one after the other.
use mathlib.Core.Path.{◌≡◌, refl, ◌∙◌}
use mathlib.Core.Bool.{Bool, true, false, not, ◌&&◌, ◌||◌, cond}
use mathlib.Core.List.{List, [], ◌∷◌}
use Prim.Native.Nat.{ℕ, suc, ◌+◌, ◌≤◌, ◌<◌}
use native.Mathlib.Omega.{arith}
use lib.ListN.{length, take, get_or}
use lib.Seq.{slice, length-slice}
use lib.Dec.{eqb}
use borrow.Author.Tests.{eq-eqb, ne_eqb, eqb-true, eqb-false}
use Rattle.paper.specs.Lexical.{letter, letter_or_digit, in_set, within, span}
use Rattle.paper_table.specs.Lists.{all_of, first_at}
use Rattle.paper_table.specs.References.{is_name, name_size}
use Rattle.table_fields.proofs.FieldLaws.{slice_none, slice_next}

-- two tests of equal numbers, each of which follows from the other
eq_same : (a b c d : ℕ) → (a ≡ b → c ≡ d) → (c ≡ d → a ≡ b) → eqb a b ≡ eqb c d
eq_same a b c d f g = go (eqb c d) refl
  where
    go : (x : Bool) → eqb c d ≡ x → eqb a b ≡ x
    go true e = eq-eqb a b (g (eqb-true c d e))
    go false e = ne_eqb a b (λ h. eqb-false c d e (f h))

-- Where a run of bytes ends that pass: at the next, if this one passes; here, if it does not, or there is none.
module _ (p : ℕ → Bool) (t : List ℕ) (i end : ℕ) (w : end ≤ length t) where
  pub run_more : i < end → p (get_or t i 0) ≡ false → i + 1 + first_at p (slice (i + 1) end t) ≡ i + first_at p (slice i end t)
  unfolding first_at
  run_more h e = rw (slice_next t i end h w, e) (omega arith)

  pub run_stop : i < end → p (get_or t i 0) ≡ true → i ≡ i + first_at p (slice i end t)
  unfolding first_at
  run_stop h e = rw (slice_next t i end h w, e) (omega arith)

  pub run_end : end ≤ i → i ≡ i + first_at p (slice i end t)
  unfolding first_at
  run_end h = rw (slice_none t i end h w) (omega arith)

-- all bytes before the run's end pass, and if that is the text's end all do
pub run_all : (q : ℕ → Bool) (s : List ℕ) → all_of q (take (first_at (λ b. not (q b)) s) s) ≡ true
unfolding all_of first_at
run_all q [] = refl
run_all q (b ∷ s) = go (q b) refl (run_all q s)
  where
    go : (c : Bool) → q b ≡ c → all_of q (take (first_at (λ b. not (q b)) s) s) ≡ true → all_of q (take (cond (not c) 0 (suc (first_at (λ b. not (q b)) s))) (b ∷ s)) ≡ true
    go true e r = rw e r
    go false e r = refl

pub all_run : (q : ℕ → Bool) (s : List ℕ) → eqb (first_at (λ b. not (q b)) s) (length s) ≡ all_of q s
unfolding all_of first_at
all_run q [] = refl
all_run q (b ∷ s) = go (q b) (all_run q s)
  where
    go : (c : Bool) → eqb (first_at (λ b. not (q b)) s) (length s) ≡ all_of q s → eqb (cond (not c) 0 (suc (first_at (λ b. not (q b)) s))) (suc (length s)) ≡ c && all_of q s
    go true r = eq_same (suc (first_at (λ b. not (q b)) s)) (suc (length s)) (first_at (λ b. not (q b)) s) (length s) (λ e. omega arith) (λ e. omega arith) ∙ r
    go false r = ne_eqb 0 (suc (length s)) (λ e. omega arith)

-- what begins a name may stand in one
pub letter_goes : (b : ℕ) → in_set letter b ≡ true → in_set letter_or_digit b ≡ true
letter_goes b e = go (within (span 0x30 0x39) b)
  where
    go : (c : Bool) → c || in_set letter b ≡ true
    go true = refl
    go false = e

module _ (t : List ℕ) (start end : ℕ) (w : end ≤ length t) where
  pub name_none : end ≤ start → false ≡ is_name (slice start end t)
  unfolding is_name
  name_none h = rw (slice_none t start end h w)

  pub name_no : start < end → in_set letter (get_or t start 0) ≡ false → false ≡ is_name (slice start end t)
  unfolding is_name
  name_no h e = rw (slice_next t start end h w, e)

  pub name_by : start < end → in_set letter (get_or t start 0) ≡ true → (stop : ℕ) → stop ≡ start + 1 + name_size (slice (start + 1) end t)
      → eqb stop end ≡ is_name (slice start end t)
  unfolding is_name
  name_by h e stop q =
      let m = name_size (slice (start + 1) end t) in
      eq_same stop end m (length (slice (start + 1) end t)) (λ k. omega (arith, length-slice (start + 1) end t w)) (λ k. omega (arith, length-slice (start + 1) end t w))
      ∙ all_run (in_set letter_or_digit) (slice (start + 1) end t) ∙ rw (slice_next t start end h w, e)
