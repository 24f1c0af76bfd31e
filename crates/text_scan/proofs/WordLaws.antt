-- Which word a name is, by its length and by comparing its bytes with those of the words of that length.
-- Assumes nothing.
use mathlib.Core.Path.{◌≡◌, refl, sym, ap, ◌∙◌}
use mathlib.Core.Bool.{Bool, true, false, ◌&&◌, cond}
use mathlib.Core.List.{List, [], ◌∷◌}
use Prim.Native.Nat.{ℕ, suc, ◌-◌, ◌≤◌}
use native.Mathlib.Omega.{arith}
use lib.Dec.{eqb}
use lib.ListN.{length, take, drop, length-drop}
use lib.Seq.{length-take-le}
use Rattle.paper.specs.Language.{n_query, n_mutation, n_subscription, n_fragment, n_on, n_true, n_false, n_null, n_other}
use Rattle.paper.specs.Tokens.{same, or_else}
use Rattle.text_scan.specs.Head.{word_number, word_of}

-- words of different lengths are not the same
same_long : (w v : List ℕ) → (length w ≡ length v → ⊥) → same w v ≡ false
same_long [] [] h = absurd (h refl)
same_long [] (y ∷ ys) h = refl
same_long (x ∷ xs) [] h = refl
same_long (x ∷ xs) (y ∷ ys) h = go (eqb x y) (same_long xs ys (λ e. h (ap suc e)))
  where
    go : (b : Bool) → same xs ys ≡ false → b && same xs ys ≡ false
    go true q = q
    go false q = refl

abbrev pub a_query : List ℕ
a_query = 113 ∷ 117 ∷ 101 ∷ 114 ∷ 121 ∷ []

abbrev pub a_mutation : List ℕ
a_mutation = 109 ∷ 117 ∷ 116 ∷ 97 ∷ 116 ∷ 105 ∷ 111 ∷ 110 ∷ []

abbrev pub a_subscription : List ℕ
a_subscription = 115 ∷ 117 ∷ 98 ∷ 115 ∷ 99 ∷ 114 ∷ 105 ∷ 112 ∷ 116 ∷ 105 ∷ 111 ∷ 110 ∷ []

abbrev pub a_fragment : List ℕ
a_fragment = 102 ∷ 114 ∷ 97 ∷ 103 ∷ 109 ∷ 101 ∷ 110 ∷ 116 ∷ []

abbrev pub a_on : List ℕ
a_on = 111 ∷ 110 ∷ []

abbrev pub a_true : List ℕ
a_true = 116 ∷ 114 ∷ 117 ∷ 101 ∷ []

abbrev pub a_false : List ℕ
a_false = 102 ∷ 97 ∷ 108 ∷ 115 ∷ 101 ∷ []

abbrev pub a_null : List ℕ
a_null = 110 ∷ 117 ∷ 108 ∷ 108 ∷ []

-- the word, told by whether the name is each of the eight
abbrev word_by : (q m s f o t l n : Bool) → ℕ
word_by q m s f o t l n = word_number (or_else q n_query (or_else m n_mutation (or_else s n_subscription (or_else f n_fragment (or_else o n_on (or_else t n_true (or_else l n_false (or_else n n_null n_other))))))))

off : (w v : List ℕ) (n : ℕ) → length w ≡ n → (n ≡ length v → ⊥) → same w v ≡ false
off w v n e h = same_long w v (λ d. h (sym e ∙ d))

-- the name from `start` to `end`: one word of its length, or two
module _ (s : List ℕ) (start end : ℕ) (h : (start ≤ end) × (end ≤ length s)) where
  length_word : (n : ℕ) → end - start ≡ n → length (take n (drop start s)) ≡ n
  length_word n e = length-take-le n (drop start s) (let l : n ≤ length s - start = omega (arith, h.0, h.1) in rw (length-drop start s) l)

  pub word_2 : end - start ≡ 2 → (r : Bool) → same (take 2 (drop start s)) a_on ≡ r → cond r 5 0 ≡ word_of (take (end - start) (drop start s))
  unfolding word_of
  word_2 e r q =
      let w : List ℕ = take 2 (drop start s) in
      let l = length_word 2 e in
      rw (e, off w a_query 2 l (λ z. omega arith), off w a_mutation 2 l (λ z. omega arith), off w a_subscription 2 l (λ z. omega arith), off w a_fragment 2 l (λ z. omega arith), off w a_true 2 l (λ z. omega arith), off w a_false 2 l (λ z. omega arith), off w a_null 2 l (λ z. omega arith), q) (go r)
    where
      go : (b : Bool) → cond b 5 0 ≡ word_by false false false false b false false false
      go true = refl
      go false = refl

  pub word_12 : end - start ≡ 12 → (r : Bool) → same (take 12 (drop start s)) a_subscription ≡ r → cond r 3 0 ≡ word_of (take (end - start) (drop start s))
  unfolding word_of
  word_12 e r q =
      let w : List ℕ = take 12 (drop start s) in
      let l = length_word 12 e in
      rw (e, off w a_query 12 l (λ z. omega arith), off w a_mutation 12 l (λ z. omega arith), off w a_fragment 12 l (λ z. omega arith), off w a_on 12 l (λ z. omega arith), off w a_true 12 l (λ z. omega arith), off w a_false 12 l (λ z. omega arith), off w a_null 12 l (λ z. omega arith), q) (go r)
    where
      go : (b : Bool) → cond b 3 0 ≡ word_by false false b false false false false false
      go true = refl
      go false = refl

  pub word_4 : end - start ≡ 4 → (r p : Bool) → same (take 4 (drop start s)) a_true ≡ r → same (take 4 (drop start s)) a_null ≡ p →
      cond r 6 (cond p 8 0) ≡ word_of (take (end - start) (drop start s))
  unfolding word_of
  word_4 e r p q k =
      let w : List ℕ = take 4 (drop start s) in
      let l = length_word 4 e in
      rw (e, off w a_query 4 l (λ z. omega arith), off w a_mutation 4 l (λ z. omega arith), off w a_subscription 4 l (λ z. omega arith), off w a_fragment 4 l (λ z. omega arith), off w a_on 4 l (λ z. omega arith), off w a_false 4 l (λ z. omega arith), q, k) (go r p)
    where
      go : (a b : Bool) → cond a 6 (cond b 8 0) ≡ word_by false false false false false a false b
      go true b = refl
      go false true = refl
      go false false = refl

  pub word_5 : end - start ≡ 5 → (r p : Bool) → same (take 5 (drop start s)) a_query ≡ r → same (take 5 (drop start s)) a_false ≡ p →
      cond r 1 (cond p 7 0) ≡ word_of (take (end - start) (drop start s))
  unfolding word_of
  word_5 e r p q k =
      let w : List ℕ = take 5 (drop start s) in
      let l = length_word 5 e in
      rw (e, off w a_mutation 5 l (λ z. omega arith), off w a_subscription 5 l (λ z. omega arith), off w a_fragment 5 l (λ z. omega arith), off w a_on 5 l (λ z. omega arith), off w a_true 5 l (λ z. omega arith), off w a_null 5 l (λ z. omega arith), q, k) (go r p)
    where
      go : (a b : Bool) → cond a 1 (cond b 7 0) ≡ word_by a false false false false false b false
      go true b = refl
      go false true = refl
      go false false = refl

  pub word_8 : end - start ≡ 8 → (r p : Bool) → same (take 8 (drop start s)) a_mutation ≡ r → same (take 8 (drop start s)) a_fragment ≡ p →
      cond r 2 (cond p 4 0) ≡ word_of (take (end - start) (drop start s))
  unfolding word_of
  word_8 e r p q k =
      let w : List ℕ = take 8 (drop start s) in
      let l = length_word 8 e in
      rw (e, off w a_query 8 l (λ z. omega arith), off w a_subscription 8 l (λ z. omega arith), off w a_on 8 l (λ z. omega arith), off w a_true 8 l (λ z. omega arith), off w a_false 8 l (λ z. omega arith), off w a_null 8 l (λ z. omega arith), q, k) (go r p)
    where
      go : (a b : Bool) → cond a 2 (cond b 4 0) ≡ word_by false a false b false false false false
      go true b = refl
      go false true = refl
      go false false = refl

  pub word_none : (end - start ≡ 2 → ⊥) → (end - start ≡ 4 → ⊥) → (end - start ≡ 5 → ⊥) → (end - start ≡ 8 → ⊥) → (end - start ≡ 12 → ⊥) →
      0 ≡ word_of (take (end - start) (drop start s))
  unfolding word_of
  word_none a b c d e =
      let w : List ℕ = take (end - start) (drop start s) in
      let l = length_word (end - start) refl in
      rw (off w a_query (end - start) l c, off w a_mutation (end - start) l d, off w a_subscription (end - start) l e, off w a_fragment (end - start) l d, off w a_on (end - start) l a, off w a_true (end - start) l b, off w a_false (end - start) l c, off w a_null (end - start) l b)
