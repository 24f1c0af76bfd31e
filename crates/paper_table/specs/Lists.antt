-- Words on lists and texts that the definitions of the type table share.
-- Assumes nothing.
use Rattle.std.specs.Prelude.{Bool, true, false, ◌&&◌, ◌||◌, cond, List, [], ◌∷◌, ◌++◌, ℕ, suc, take}
use Rattle.std.proofs.Math.Option.{Option, none, some}
use Prim.Native.Char.{code}
use Prim.Native.String.{String, [] as empty, ◌∷◌ as ◌then◌}

-- a quoted text's bytes, in ASCII
abbrev pub bytes : String → List ℕ
bytes empty = []
bytes (c then s) = code c ∷ bytes s

-- one element passes; each does
unfoldable pub any_of : {A : Type 0} → (A → Bool) → List A → Bool
any_of p [] = false
any_of p (x ∷ xs) = p x || any_of p xs

unfoldable pub all_of : {A : Type 0} → (A → Bool) → List A → Bool
all_of p [] = true
all_of p (x ∷ xs) = p x && all_of p xs

-- one before number i passes
abbrev pub earlier : {A : Type 0} → (A → Bool) → ℕ → List A → Bool
earlier p i xs = any_of p (take i xs)

-- how many stand before the first that passes; the list's length if none does
unfoldable pub first_at : {A : Type 0} → (A → Bool) → List A → ℕ
first_at p [] = 0
first_at p (x ∷ xs) = cond (p x) 0 (suc (first_at p xs))

-- the first that passes
unfoldable pub find : {A : Type 0} → (A → Bool) → List A → Option A
find p [] = none
find p (x ∷ xs) = cond (p x) (some x) (find p xs)

-- what f gives for each element, in order
unfoldable pub gather : {A B : Type 0} → (A → List B) → List A → List B
gather f [] = []
gather f (x ∷ xs) = f x ++ gather f xs

-- the same, where f is told the element's number too, counted from i, or from 0
unfoldable pub each_from : {A B : Type 0} → ℕ → (ℕ → A → List B) → List A → List B
each_from i f [] = []
each_from i f (x ∷ xs) = f i x ++ each_from (suc i) f xs

abbrev pub each : {A B : Type 0} → (ℕ → A → List B) → List A → List B
each f xs = each_from 0 f xs

-- the element if the test passes, else nothing
abbrev pub only_if : {A : Type 0} → Bool → A → List A
only_if b x = cond b (x ∷ []) []
