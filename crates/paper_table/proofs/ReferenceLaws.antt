-- A type reference's text from front to back: opening brackets, the name, then the marks `]` and `!` behind it. And `ref_of` takes exactly the references' texts.
use mathlib.Core.Path.{◌≡◌, refl}
use mathlib.Core.Bool.{Bool, true, false, not, ◌&&◌, cond}
use mathlib.Core.Option.{Option, none, some}
use mathlib.Core.List.{List, [], ◌∷◌}
use Prim.Native.Nat.{ℕ, zero, suc, ◌≤◌}
use native.Mathlib.Omega.{arith}
use lib.ListN.{length, take, drop}
use lib.Dec.{eqb}
use Rattle.paper_table.specs.References.{is_name, Ref, named, list_of, non_null, byte_bang, byte_bracket_l, byte_bracket_r, ReadRef, got, no_reference, marked, closed, name_size, read_name, ref_from, whole_ref, ref_of}

-- the marks behind a reference r: k brackets are open, and `last` is whether a `!` stands just before
unfoldable pub behind : ℕ → Bool → Ref → List ℕ → Option Ref
behind zero last r [] = some r
behind (suc k) last r [] = none
behind zero last r (b ∷ s) = cond (eqb b byte_bang && not last) (behind zero true (non_null r) s) none
behind (suc k) last r (b ∷ s) = cond (eqb b byte_bang && not last) (behind (suc k) true (non_null r) s) (cond (eqb b byte_bracket_r) (behind k false (list_of r) s) none)

-- the name, and the marks behind it
unfoldable pub name_then : ℕ → List ℕ → Option Ref
name_then k s = cond (is_name (take (name_size s) s)) (behind k false (named (take (name_size s) s)) (drop (name_size s) s)) none

-- k brackets are open
unfoldable pub opened : ℕ → List ℕ → Option Ref
opened k [] = none
opened k (b ∷ s) = cond (eqb b byte_bracket_l) (opened (suc k) s) (name_then k (b ∷ s))

-- the same by the definition: what is read, closed k times
closings : ℕ → ReadRef → Option Ref
closings zero q = whole_ref q
closings (suc k) q = closings k (closed q)

closings_bad : (k : ℕ) → closings k no_reference ≡ none
unfolding closings whole_ref closed
closings_bad zero = refl
closings_bad (suc k) = closings_bad k

and_false : (b : Bool) → b && false ≡ false
and_false true = refl
and_false false = refl

abbrev Both : List ℕ → Type 0
Both s = ((k : ℕ) (r : Ref) → closings k (got r s) ≡ behind k true r s) × ((k : ℕ) (r : Ref) → closings k (marked r s) ≡ behind k false r s)

both_more : (b : ℕ) (s : List ℕ) → Both s → Both (b ∷ s)
unfolding closings whole_ref closed marked behind
both_more b s ih = (one, λ k r. two k r (eqb b byte_bang) refl)
  where
    close : (k : ℕ) (r : Ref) (c : Bool) → closings k (cond c (marked (list_of r) s) no_reference) ≡ cond c (behind k false (list_of r) s) none
    close k r true = ih.1 k (list_of r)
    close k r false = closings_bad k

    one : (k : ℕ) (r : Ref) → closings k (got r (b ∷ s)) ≡ behind k true r (b ∷ s)
    one zero r = rw (and_false (eqb b byte_bang))
    one (suc k) r = rw (and_false (eqb b byte_bang)) (close k r (eqb b byte_bracket_r))

    two : (k : ℕ) (r : Ref) (c : Bool) → eqb b byte_bang ≡ c → closings k (marked r (b ∷ s)) ≡ behind k false r (b ∷ s)
    two zero r true q = rw q (ih.0 zero (non_null r))
    two zero r false q = rw q
    two (suc k) r true q = rw q (ih.0 (suc k) (non_null r))
    two (suc k) r false q = rw q (close k r (eqb b byte_bracket_r))

closings_both : (s : List ℕ) → Both s
unfolding closings whole_ref closed marked behind
closings_both [] = (nothing, nothing_marked)
  where
    nothing : (k : ℕ) (r : Ref) → closings k (got r []) ≡ behind k true r []
    nothing zero r = refl
    nothing (suc k) r = closings_bad k

    nothing_marked : (k : ℕ) (r : Ref) → closings k (got r []) ≡ behind k false r []
    nothing_marked zero r = refl
    nothing_marked (suc k) r = closings_bad k
closings_both (b ∷ s) = both_more b s (closings_both s)

ref_from_opened : (f k : ℕ) (s : List ℕ) → length s ≤ f → closings k (ref_from f s) ≡ opened k s
unfolding ref_from opened name_then read_name closings
ref_from_opened zero k [] h = closings_bad k
ref_from_opened zero k (b ∷ s) h = absurd (omega arith)
ref_from_opened (suc f) k [] h = closings_bad k
ref_from_opened (suc f) k (b ∷ s) h = go (eqb b byte_bracket_l) (ref_from_opened f (suc k) s (omega arith))
  where
    name : (c : Bool) → closings k (cond c (marked (named (take (name_size (b ∷ s)) (b ∷ s))) (drop (name_size (b ∷ s)) (b ∷ s))) no_reference)
        ≡ cond c (behind k false (named (take (name_size (b ∷ s)) (b ∷ s))) (drop (name_size (b ∷ s)) (b ∷ s))) none
    name true = (closings_both (drop (name_size (b ∷ s)) (b ∷ s))).1 k (named (take (name_size (b ∷ s)) (b ∷ s)))
    name false = closings_bad k

    go : (c : Bool) → closings (suc k) (ref_from f s) ≡ opened (suc k) s
        → closings k (elim c [ true ↦ closed (ref_from f s) | false ↦ read_name (b ∷ s) ]) ≡ cond c (opened (suc k) s) (name_then k (b ∷ s))
    go true e = e
    go false e = name (is_name (take (name_size (b ∷ s)) (b ∷ s)))

-- A reference's text from front to back.
pub ref_of_walk : (s : List ℕ) → ref_of s ≡ opened 0 s
unfolding ref_of closings
ref_of_walk s = ref_from_opened (length s) 0 s (omega arith)
