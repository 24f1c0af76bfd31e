-- A loop over characters: one turn, and its two ends.
-- Assumes nothing.
use mathlib.Core.Path.{◌≡◌, refl, sym, ap, ◌∙◌}
use mathlib.Core.List.{List, []}
use Prim.Native.Nat.{ℕ, zero, suc, ◌+◌, ◌≤◌}
use native.Mathlib.Omega.{arith}
use lib.ListN.{length, drop, length-drop, drop_of_length-le}
use Rattle.text_characters.specs.Characters.{character_size}
use Rattle.text_scan.specs.Parts.{Runs, none_yet, one_more, Ended, part_size}
use Rattle.text_characters.proofs.CharacterLaws.{character_within}
use Rattle.text_scan.proofs.PartLaws.{part_within}

-- the loop begins
pub run_none : (f : List ℕ → ℕ) (s : List ℕ) (from : ℕ) → Runs f s from from
run_none f s from = none_yet refl

-- a character of n bytes at i
pub run_more : (f : List ℕ → ℕ) (s : List ℕ) (from i n : ℕ) → Runs f s from i → n ≡ f (drop i s) → (n ≡ 0 → ⊥) → Runs f s from (i + n)
run_more f s from i zero r e z = absurd (z refl)
run_more f s from i (suc n) r e z = one_more r n (sym e) refl

pub run_stop : (f : List ℕ → ℕ) (s : List ℕ) (from i n : ℕ) → Runs f s from i → i ≤ length s → n ≡ f (drop i s) → n ≡ 0 → Ended f s from i
run_stop f s from i n r l e z = record { runs = r; within = l; stops = sym e ∙ z }

pub run_over : (f : List ℕ → ℕ) (s : List ℕ) (from i : ℕ) → f [] ≡ 0 → Runs f s from i → i ≤ length s → length s ≤ i → Ended f s from i
run_over f s from i e r l k = record { runs = r; within = l; stops = ap f (drop_of_length-le s k) ∙ e }

pub no_part : part_size [] ≡ 0
unfolding part_size
no_part = refl

pub no_character : character_size [] ≡ 0
unfolding character_size
no_character = refl

pub part_fits : (s : List ℕ) (i n : ℕ) → i ≤ length s → n ≡ part_size (drop i s) → i + n ≤ length s
part_fits s i n h e = omega (arith, simp length-drop at (part_within (drop i s)))

pub character_fits : (s : List ℕ) (i n : ℕ) → i ≤ length s → n ≡ character_size (drop i s) → i + n ≤ length s
character_fits s i n h e = omega (arith, simp length-drop at (character_within (drop i s)))

-- the end lies behind the start
pub run_past : {f : List ℕ → ℕ} {s : List ℕ} {from i : ℕ} → Runs f s from i → from ≤ i
run_past (none_yet e) = omega arith
run_past (one_more r n e q) = let h = run_past r in omega arith
