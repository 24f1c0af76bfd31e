-- The measure of the planner's loop: how many turns it has left, at most. A row's turn counts for more than all turns of the level behind it.
use mathlib.Core.Path.{◌≡◌, refl, ap, ◌∙◌, subst}
use mathlib.Core.List.{List}
use Prim.Native.Nat.{ℕ, zero, suc, ◌+◌, ◌*◌, ◌-◌, ◌≤◌, ◌<◌}
use native.Mathlib.Omega.{arith}
use native.Mathlib.Nat.{mul-le-mul_right, suc-mul, add-mul}
use lib.ListN.{length, get_or, set}
use lib.Seq.{get_or-set_same, get_or-set_other}

-- what a turn counts for, with j levels to go
unfoldable pub weight : ℕ → ℕ → ℕ
weight n zero = 1
weight n (suc j) = (n + 2) * weight n j

-- what is left of the levels below: of each the rows behind its open row
unfoldable pub owed : ℕ → ℕ → List ℕ → ℕ → ℕ
owed n k rows zero = 0
owed n k rows (suc d) = owed n k rows d + (n - suc (get_or rows d 0)) * weight n (k - d)

abbrev pub turns : ℕ → ℕ → List ℕ → ℕ → ℕ → ℕ
turns n k rows d c = owed n k rows d + d + (n - c) * weight n (k - d)

weight_some : (n j : ℕ) → 1 ≤ weight n j
unfolding weight
weight_some n zero = omega arith
weight_some n (suc j) = let h : 1 ≤ weight n j = weight_some n j in let e = add-mul n 2 (weight n j) in omega (arith, h, e)

owed_frame : (n k : ℕ) (rows rows' : List ℕ) (d : ℕ) → ((i : ℕ) → i < d → get_or rows' i 0 ≡ get_or rows i 0) → owed n k rows' d ≡ owed n k rows d
unfolding owed
owed_frame n k rows rows' zero f = refl
owed_frame n k rows rows' (suc d) f =
    ap (λ (x : ℕ). x + (n - suc (get_or rows' d 0)) * weight n (k - d)) (owed_frame n k rows rows' d (λ i l. f i (omega arith)))
    ∙ ap (λ (x : ℕ). owed n k rows d + (n - suc x) * weight n (k - d)) (f d (omega arith))

-- to a later row of the level
pub turns_on : (n k : ℕ) (rows : List ℕ) (d c c' : ℕ) → c < n → c < c' → turns n k rows d c' < turns n k rows d c
turns_on n k rows d c c' h l =
    let w = weight n (k - d) in let low : suc (n - c') ≤ n - c = omega arith in
    let e : suc (n - c') * w ≤ (n - c) * w = mul-le-mul_right w low in
    omega (arith, e, suc-mul (n - c') w, weight_some n (k - d))

pub turns_next : (n k : ℕ) (rows : List ℕ) (d c : ℕ) {c' x : ℕ} → c < n → c' ≡ x → c < x → turns n k rows d c' < turns n k rows d c
turns_next n k rows d c {c'} h e l = turns_on n k rows d c c' h (omega (arith, e))

-- into the level behind row c
pub turns_in : (n k : ℕ) (rows : List ℕ) (d c c' : ℕ) → c < n → d < k → d < length rows → turns n k (set rows d c) (d + 1) c' < turns n k rows d c
unfolding owed weight
turns_in n k rows d c c' h l long =
    let w = weight n (k - suc d) in
    let one : suc d ≡ d + 1 = omega arith in
    let z : k - d ≡ suc (k - suc d) = omega arith in
    let y : n - c ≡ suc (n - suc c) = omega arith in
    let big : weight n (k - d) ≡ (n + 2) * w = ap (weight n) z in
    let own : owed n k (set rows d c) d ≡ owed n k rows d = owed_frame n k rows (set rows d c) d (λ i u. get_or-set_other rows d i c 0 (λ q. absurd (omega arith))) in
    let here : (n - suc (get_or (set rows d c) d 0)) * weight n (k - d) ≡ (n - suc c) * weight n (k - d) = ap (λ (x : ℕ). (n - suc x) * weight n (k - d)) (get_or-set_same rows d c 0 long) in
    let turn : (n - c) * weight n (k - d) ≡ suc (n - suc c) * weight n (k - d) = ap (λ (x : ℕ). x * weight n (k - d)) y in
    let low : n - c' ≤ n = omega arith in
    let most : (n - c') * w ≤ n * w = mul-le-mul_right w low in
    subst (λ (x : ℕ). turns n k (set rows d c) x c' < turns n k rows d c) one
    (omega (arith, own, here, turn, suc-mul (n - suc c) (weight n (k - d)), big, add-mul n 2 w, most, weight_some n (k - suc d)))

-- and out of it, when no row is left
turns_out : (n k : ℕ) (rows : List ℕ) (d c c' : ℕ) → get_or rows d 0 < c' → turns n k rows d c' < turns n k rows (suc d) c
unfolding owed
turns_out n k rows d c c' h =
    let low : n - c' ≤ n - suc (get_or rows d 0) = omega arith in
    let e : (n - c') * weight n (k - d) ≤ (n - suc (get_or rows d 0)) * weight n (k - d) = mul-le-mul_right (weight n (k - d)) low in
    omega (arith, e)

pub turns_back : (n k : ℕ) (rows : List ℕ) (d c : ℕ) {r c' x : ℕ} → (d ≡ 0 → ⊥) → r ≡ get_or rows (d - 1) 0 → c' ≡ x → r < x → turns n k rows (d - 1) c' < turns n k rows d c
turns_back n k rows d c {r} {c'} some-open er e l =
    let z : suc (d - 1) ≡ d = omega (arith, some-open) in subst (λ (y : ℕ). turns n k rows (d - 1) c' < turns n k rows y c) z (turns_out n k rows (d - 1) c c' (omega (arith, er, e)))
