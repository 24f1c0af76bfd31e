-- The number of a reference's wrappers holds seven, and so all of a reference that is within its size; with the base name it tells the reference.
use mathlib.Core.Path.{◌≡◌, refl, ap}
use mathlib.Core.Bool.{true, false≢true}
use mathlib.Core.Option.{none}
use mathlib.Core.List.{List, head?}
use Prim.Native.Nat.{ℕ, zero, suc, ◌+◌, ◌*◌, ◌≤◌, ◌<◌}
use native.Mathlib.Omega.{arith}
use lib.Seq.{slice}
use Rattle.paper.specs.Numbers.{most_wrappers}
use Rattle.paper.specs.Tokens.{same}
use Rattle.paper_table.specs.References.{Ref, named, list_of, non_null, base_of, same_ref}
use Rattle.paper_table.specs.TableSizes.{wrappers_over}
use Rattle.paper_table.proofs.ReferenceSizes.{wrappers, ref_of_marks, over_none}
use Rattle.table_fields.specs.Wrappers.{pack_of, pack_limit, Refers}

-- the numbers that n wrappers need
abbrev limit : ℕ → ℕ
limit zero = 1
limit (suc n) = 4 * limit n

limit_some : (n : ℕ) → 0 < limit n
limit_some zero = omega arith
limit_some (suc n) = let h = limit_some n in omega arith

pack_below : (n : ℕ) (r : Ref) → wrappers r ≤ n → pack_of r < limit n
unfolding pack_of
pack_below n (named a) h = limit_some n
pack_below zero (list_of r) h = absurd (omega arith)
pack_below zero (non_null r) h = absurd (omega arith)
pack_below (suc n) (list_of r) h = let k = pack_below n r (omega arith) in omega arith
pack_below (suc n) (non_null r) h = let k = pack_below n r (omega arith) in omega arith

pub pack_fits : (r : Ref) → wrappers r ≤ most_wrappers → pack_of r < pack_limit
pack_fits r h = pack_below most_wrappers r h

-- what is read of a reference's text within its size is all of its wrappers
pub packs_all : (t : List ℕ) (start end from to n at : ℕ) (r : Refers t start end from to n) → head? (wrappers_over most_wrappers at (slice start end t)) ≡ none → n ≡ pack_of r.ref
packs_all t start end from to n at r e =
    let m = over_none most_wrappers at (slice start end t) e in
    let q = ref_of_marks (slice start end t) r.ref r.is in
    let k : pack_of r.ref < pack_limit = pack_fits r.ref (omega arith) in
    omega (arith, r.packs, k)

-- two references are the same exactly where their wrappers and their base names are
pub same_ref_is : (r s : Ref) → pack_of r ≡ pack_of s → same (base_of r) (base_of s) ≡ true → same_ref r s ≡ true
unfolding pack_of same_ref
same_ref_is (named a) (named b) e h = h
same_ref_is (named a) (list_of s) e h = absurd (omega arith)
same_ref_is (named a) (non_null s) e h = absurd (omega arith)
same_ref_is (list_of r) (named b) e h = absurd (omega arith)
same_ref_is (list_of r) (list_of s) e h = same_ref_is r s (omega arith) h
same_ref_is (list_of r) (non_null s) e h = absurd (omega arith)
same_ref_is (non_null r) (named b) e h = absurd (omega arith)
same_ref_is (non_null r) (list_of s) e h = absurd (omega arith)
same_ref_is (non_null r) (non_null s) e h = same_ref_is r s (omega arith) h

pub same_pack : (r s : Ref) → same_ref r s ≡ true → pack_of r ≡ pack_of s
unfolding pack_of same_ref
same_pack (named a) (named b) e = refl
same_pack (named a) (list_of s) e = absurd (false≢true e)
same_pack (named a) (non_null s) e = absurd (false≢true e)
same_pack (list_of r) (named b) e = absurd (false≢true e)
same_pack (list_of r) (list_of s) e = ap (λ (x : ℕ). 4 * x + 1) (same_pack r s e)
same_pack (list_of r) (non_null s) e = absurd (false≢true e)
same_pack (non_null r) (named b) e = absurd (false≢true e)
same_pack (non_null r) (list_of s) e = absurd (false≢true e)
same_pack (non_null r) (non_null s) e = ap (λ (x : ℕ). 4 * x + 2) (same_pack r s e)

pub same_base : (r s : Ref) → same_ref r s ≡ true → same (base_of r) (base_of s) ≡ true
unfolding same_ref
same_base (named a) (named b) e = e
same_base (named a) (list_of s) e = absurd (false≢true e)
same_base (named a) (non_null s) e = absurd (false≢true e)
same_base (list_of r) (named b) e = absurd (false≢true e)
same_base (list_of r) (list_of s) e = same_base r s e
same_base (list_of r) (non_null s) e = absurd (false≢true e)
same_base (non_null r) (named b) e = absurd (false≢true e)
same_base (non_null r) (list_of s) e = absurd (false≢true e)
same_base (non_null r) (non_null s) e = same_base r s e
