-- When the counts are not over their sizes.
use mathlib.Core.Path.{◌≡◌, refl}
use mathlib.Core.Bool.{true, false, ◌||◌}
use Prim.Native.Nat.{ℕ, ◌≤◌, ◌<◌}
use lib.Dec.{ltb}
use borrow.Author.Tests.{ltb-false, lt-ltb, le-ltb}
use Rattle.paper.proofs.Bools.{or_no_left as or_left, or_no_right as or_right}
use Rattle.paper.specs.Numbers.{most_fragments, most_variables, most_wrappers}
use Rattle.paper.specs.Sizes.{Counts, over_counts}
use Rattle.text_references.specs.Types.{wrapped_by}

-- the counts are not over if and only if each is not
pub fine_parts : (q : Counts) → over_counts q ≡ false → (q.fragments ≤ most_fragments) × (q.variables ≤ most_variables) × (q.wrappers ≤ most_wrappers)
fine_parts q e =
    let f = or_left (ltb most_fragments q.fragments) (ltb most_variables q.variables || ltb most_wrappers q.wrappers) e in
    let g = or_right (ltb most_fragments q.fragments) (ltb most_variables q.variables || ltb most_wrappers q.wrappers) e in
    let v = or_left (ltb most_variables q.variables) (ltb most_wrappers q.wrappers) g in
    let w = or_right (ltb most_variables q.variables) (ltb most_wrappers q.wrappers) g in
    (ltb-false most_fragments q.fragments f, ltb-false most_variables q.variables v, ltb-false most_wrappers q.wrappers w)

pub parts_fine : (q : Counts) → q.fragments ≤ most_fragments → q.variables ≤ most_variables → q.wrappers ≤ most_wrappers → over_counts q ≡ false
parts_fine q f v w = rw (le-ltb most_fragments q.fragments f, le-ltb most_variables q.variables v, le-ltb most_wrappers q.wrappers w) refl

pub over_fragments : (q : Counts) → most_fragments < q.fragments → over_counts q ≡ true
over_fragments q f = rw (lt-ltb most_fragments q.fragments f) refl

pub over_variables : (q : Counts) → q.fragments ≤ most_fragments → most_variables < q.variables → over_counts q ≡ true
over_variables q f v = rw (le-ltb most_fragments q.fragments f, lt-ltb most_variables q.variables v) refl

pub over_wrappers : (q : Counts) → q.fragments ≤ most_fragments → q.variables ≤ most_variables → most_wrappers < q.wrappers → over_counts q ≡ true
over_wrappers q f v w = rw (le-ltb most_fragments q.fragments f, le-ltb most_variables q.variables v, lt-ltb most_wrappers q.wrappers w) refl

-- with other wrappers
pub wrapped_fine : (q : Counts) (k : ℕ) → over_counts q ≡ false → k ≤ most_wrappers → over_counts (wrapped_by k q) ≡ false
wrapped_fine q k e h = let p = fine_parts q e in parts_fine (wrapped_by k q) p.0 p.1 h

pub wrapped_over : (q : Counts) (k : ℕ) → over_counts q ≡ false → most_wrappers < k → over_counts (wrapped_by k q) ≡ true
wrapped_over q k e h = let p = fine_parts q e in over_wrappers (wrapped_by k q) p.0 p.1 h
