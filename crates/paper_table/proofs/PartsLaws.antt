-- Parts of a table's bytes: the house fields from an offset on, by the bytes that stand there.
use mathlib.Core.Path.{◌≡◌, refl, ap, ◌∙◌}
use mathlib.Core.List.{List, [], ◌∷◌}
use Prim.Native.Nat.{ℕ, zero, suc, ◌+◌, ◌-◌, ◌*◌, ◌≤◌, ◌<◌}
use native.Mathlib.Omega.{arith}
use lib.ListN.{length, take, drop, get_or, length-drop}
use lib.Seq.{drop-cons, length-take-le, take-take, drop-drop}
use Rattle.paper_table.specs.House.{house_field, cut, house_fields}
use Rattle.paper_table.proofs.PiecesLaws.{pieces_nil, pieces_one, pieces_two, pieces_cut, pieces_field}

-- the n bytes of a text from `at` on
abbrev pub part : List ℕ → ℕ → ℕ → List ℕ
part s at n = take n (drop at s)

pub part_size : (s : List ℕ) (at n : ℕ) → at + n ≤ length s → length (part s at n) ≡ n
part_size s at n h = length-take-le n (drop at s) (omega (arith, length-drop at s))

pub part_cons : (s : List ℕ) (at n : ℕ) → at < length s → part s at (suc n) ≡ get_or s at 0 ∷ part s (suc at) n
part_cons s at n h = rw (drop-cons s at 0 h)

pub part_take : (s : List ℕ) (at m n : ℕ) → n ≤ m → take n (part s at m) ≡ part s at n
part_take s at m n h = take-take n m (drop at s) h

drop_take : (n m : ℕ) (l : List ℕ) → drop n (take m l) ≡ take (m - n) (drop n l)
drop_take zero m l = ap (λ (x : ℕ). take x l) (let e : m ≡ m - 0 = omega arith in e)
drop_take (suc n) zero l = let e : 0 - suc n ≡ 0 = omega arith in rw e
drop_take (suc n) (suc m) [] = go (suc m - suc n)
  where
    go : (k : ℕ) → ◌≡◌ {A = List ℕ} [] (take k [])
    go zero = refl
    go (suc k) = refl
drop_take (suc n) (suc m) (x ∷ l) = let e : suc m - suc n ≡ m - n = omega arith in rw e (drop_take n m l)

pub part_drop : (s : List ℕ) (at m n : ℕ) → drop n (part s at m) ≡ part s (at + n) (m - n)
part_drop s at m n = drop_take n m (drop at s) ∙ ap (take (m - n)) (drop-drop n at s)

-- the length that a field at `at` gives
abbrev pub size_at : List ℕ → ℕ → ℕ
size_at t at = 256 * get_or t (at + 1) 0 + get_or t (at + 2) 0

-- the fields of a content from `at` to `to`: none at its end
pub pieces_end : (t : List ℕ) (at to : ℕ) → to ≤ at → house_fields at (part t at (to - at)) ≡ []
pieces_end t at to h = ap (λ (n : ℕ). house_fields at (part t at n)) (let e : to - at ≡ 0 = omega arith in e) ∙ pieces_nil at

three : (t : List ℕ) (at k : ℕ) → at + 3 + k ≤ length t → part t at (suc (suc (suc k))) ≡ get_or t at 0 ∷ get_or t (at + 1) 0 ∷ get_or t (at + 2) 0 ∷ part t (at + 3) k
three t at k h =
    let e : at + 1 ≡ suc at = omega arith in
    let g : at + 2 ≡ suc (suc at) = omega arith in
    let i : at + 3 ≡ suc (suc (suc at)) = omega arith in
    rw (e, g, i, part_cons t at (suc (suc k)) (omega arith), part_cons t (suc at) (suc k) (omega arith), part_cons t (suc (suc at)) k (omega arith))

three_to : (t : List ℕ) (at to : ℕ) → at + 3 ≤ to → to ≤ length t → part t at (to - at) ≡ get_or t at 0 ∷ get_or t (at + 1) 0 ∷ get_or t (at + 2) 0 ∷ part t (at + 3) (to - (at + 3))
three_to t at to h w = ap (part t at) (let e : to - at ≡ suc (suc (suc (to - (at + 3)))) = omega arith in e) ∙ three t at (to - (at + 3)) (omega arith)

-- fewer than three bytes: no whole field
pub pieces_short : (t : List ℕ) (at to : ℕ) → at < to → to < at + 3 → to ≤ length t → house_fields at (part t at (to - at)) ≡ cut at ∷ []
pieces_short t at to h k w = go (to - at) refl
  where
    go : (m : ℕ) → to - at ≡ m → house_fields at (part t at m) ≡ cut at ∷ []
    go zero e = absurd (omega arith)
    go (suc zero) e = ap (house_fields at) (part_cons t at 0 (omega arith)) ∙ pieces_one at (get_or t at 0)
    go (suc (suc zero)) e =
        ap (house_fields at) (part_cons t at 1 (omega arith) ∙ ap (λ (s : List ℕ). get_or t at 0 ∷ s) (part_cons t (suc at) 0 (omega arith))) ∙ pieces_two at (get_or t at 0) (get_or t (suc at) 0)
    go (suc (suc (suc m))) e = absurd (omega arith)

-- a length that goes past the end
pub pieces_long : (t : List ℕ) (at to : ℕ) → at + 3 ≤ to → to < at + 3 + size_at t at → to ≤ length t → house_fields at (part t at (to - at)) ≡ cut at ∷ []
pieces_long t at to h k w =
    ap (house_fields at) (three_to t at to h w)
    ∙ pieces_cut at (get_or t at 0) (get_or t (at + 1) 0) (get_or t (at + 2) 0) (part t (at + 3) (to - (at + 3))) (let e = part_size t (at + 3) (to - (at + 3)) (omega arith) in omega arith)

-- a whole field, and what stands behind it
pub pieces_at : (t : List ℕ) (at to n : ℕ) → size_at t at ≡ n → at + 3 + n ≤ to → to ≤ length t
    → house_fields at (part t at (to - at)) ≡ house_field at (get_or t at 0) (part t (at + 3) n) ∷ house_fields (at + 3 + n) (part t (at + 3 + n) (to - (at + 3 + n)))
pieces_at t at to n e h w =
    ap (house_fields at) (three_to t at to (omega arith) w)
    ∙ pieces_field at (get_or t at 0) (get_or t (at + 1) 0) (get_or t (at + 2) 0) n (part t (at + 3) (to - (at + 3))) e (let k = part_size t (at + 3) (to - (at + 3)) (omega arith) in omega arith)
    ∙ ap (λ (x : List ℕ). house_field at (get_or t at 0) x ∷ house_fields (at + 3 + n) (drop n (part t (at + 3) (to - (at + 3))))) (part_take t (at + 3) (to - (at + 3)) n (omega arith))
    ∙ ap (λ (x : List ℕ). house_field at (get_or t at 0) (part t (at + 3) n) ∷ house_fields (at + 3 + n) x)
    (part_drop t (at + 3) (to - (at + 3)) n ∙ ap (part t (at + 3 + n)) (let z : to - (at + 3) - n ≡ to - (at + 3 + n) = omega arith in z))
