-- Which slots are open behind a field: those of a rank from some number on.
use mathlib.Core.Path.{◌≡◌, refl, sym, ap, ◌∙◌}
use mathlib.Core.Bool.{Bool, true, false, ◌&&◌, ◌||◌, cond, false≢true}
use mathlib.Core.List.{List, [], ◌∷◌}
use Prim.Native.Nat.{ℕ, suc, ◌+◌, ◌≤◌, ◌<◌}
use native.Mathlib.Omega.{arith}
use lib.Dec.{leb, eqb}
use borrow.Author.Tests.{le-leb, lt-leb, leb-true, eqb-true, eq-eqb}
use Rattle.paper.proofs.Bools.{and_left, and_right}
use Rattle.paper_table.specs.Lists.{any_of}
use Rattle.paper_table.specs.House.{Slot, one, at_most_one, many, is_for, in_place, open_after}
use Rattle.table_framing.specs.Holders.{rank, is_many, least_after, slot_tag, slot_many, agrees, ranked, open_from}

-- a slot by its tag and whether it is for many
for_tag : (k : ℕ) (s : Slot) → is_for k s ≡ eqb k (slot_tag s)
for_tag k (one t) = refl
for_tag k (at_most_one t) = refl
for_tag k (many t) = refl

after_cons : (k : ℕ) (s : Slot) (ss : List Slot) → open_after k (s ∷ ss) ≡ cond (eqb k (slot_tag s)) (cond (slot_many s) (s ∷ ss) ss) (open_after k ss)
unfolding open_after
after_cons k (one t) ss = refl
after_cons k (at_most_one t) ss = refl
after_cons k (many t) ss = refl

in_cons : (k : ℕ) (s : Slot) (ss : List Slot) → in_place k (s ∷ ss) ≡ eqb k (slot_tag s) || in_place k ss
unfolding any_of
in_cons k s ss = ap (λ (b : Bool). b || in_place k ss) (for_tag k s)

open_cons : (m : ℕ) (s : Slot) (ss : List Slot) → open_from m (s ∷ ss) ≡ cond (leb m (rank (slot_tag s))) (s ∷ open_from m ss) (open_from m ss)
unfolding open_from
open_cons m s ss = refl

-- a tag is in place among the open slots if it is among all, and of such a rank
pub in_open : (m k : ℕ) (ss : List Slot) → in_place k (open_from m ss) ≡ leb m (rank k) && in_place k ss
unfolding any_of open_from
in_open m k [] = none (leb m (rank k))
  where
    none : (x : Bool) → false ≡ x && false
    none true = refl
    none false = refl
in_open m k (s ∷ ss) = go (eqb k (slot_tag s)) refl (leb m (rank (slot_tag s))) refl (leb m (rank k)) refl (in_open m k ss)
  where
    like : eqb k (slot_tag s) ≡ true → leb m (rank k) ≡ leb m (rank (slot_tag s))
    like p = ap (λ (z : ℕ). leb m (rank z)) (eqb-true k (slot_tag s) p)

    go : (e : Bool) → eqb k (slot_tag s) ≡ e → (l : Bool) → leb m (rank (slot_tag s)) ≡ l → (x : Bool) → leb m (rank k) ≡ x
        → in_place k (open_from m ss) ≡ x && in_place k ss
        → in_place k (cond l (s ∷ open_from m ss) (open_from m ss)) ≡ x && in_place k (s ∷ ss)
    go true p true q true r ih = rw (for_tag k s, p)
    go true p true q false r ih = absurd (false≢true (sym r ∙ like p ∙ q))
    go true p false q true r ih = absurd (false≢true (sym q ∙ sym (like p) ∙ r))
    go true p false q false r ih = ih
    go false p true q x r ih = rw (for_tag k s, p) ih
    go false p false q x r ih = rw (for_tag k s, p) ih

-- what it is to rise: of the first slot, and of those behind it
module _ (n : ℕ) (s : Slot) (ss : List Slot) (r : ranked n (s ∷ ss) ≡ true) where
  first_rank : n ≤ rank (slot_tag s)
  unfolding ranked
  first_rank = leb-true n (rank (slot_tag s)) (and_left (leb n (rank (slot_tag s))) _ r)

  first_many : agrees (slot_many s) (is_many (slot_tag s)) ≡ true
  unfolding ranked
  first_many = and_left (agrees (slot_many s) (is_many (slot_tag s))) _ (and_right (leb n (rank (slot_tag s))) _ r)

  rest_ranked : ranked (suc (rank (slot_tag s))) ss ≡ true
  unfolding ranked
  rest_ranked = and_right (agrees (slot_many s) (is_many (slot_tag s))) _ (and_right (leb n (rank (slot_tag s))) _ r)

-- slots that rise from n on are all of a rank from n on
open_all : (m n : ℕ) (ss : List Slot) → m ≤ n → ranked n ss ≡ true → open_from m ss ≡ ss
unfolding open_from
open_all m n [] h r = refl
open_all m n (s ∷ ss) h r =
    let k = first_rank n s ss r in
    rw (le-leb m (rank (slot_tag s)) (omega arith)) (ap (λ (l : List Slot). s ∷ l) (open_all m (suc (rank (slot_tag s))) ss (omega arith) (rest_ranked n s ss r)))

in_rank : (n k : ℕ) (ss : List Slot) → ranked n ss ≡ true → in_place k ss ≡ true → n ≤ rank k
unfolding any_of
in_rank n k [] r e = absurd (false≢true e)
in_rank n k (s ∷ ss) r e = go (eqb k (slot_tag s)) refl (sym (in_cons k s ss) ∙ e) (λ q. in_rank (suc (rank (slot_tag s))) k ss (rest_ranked n s ss r) q)
  where
    go : (x : Bool) → eqb k (slot_tag s) ≡ x → eqb k (slot_tag s) || in_place k ss ≡ true → (in_place k ss ≡ true → suc (rank (slot_tag s)) ≤ rank k) → n ≤ rank k
    go true q f ih = rw (eqb-true k (slot_tag s) q) (first_rank n s ss r)
    go false q f ih = let h = ih (rw q at f) in let l = first_rank n s ss r in omega arith

least_over : (k : ℕ) → rank k ≤ least_after k
least_over k = go (is_many k)
  where
    go : (x : Bool) → rank k ≤ cond x (rank k) (rank k + 1)
    go true = omega arith
    go false = omega arith

at_first : (m n : ℕ) (s : Slot) (ss : List Slot) → ranked n (s ∷ ss) ≡ true → leb m (rank (slot_tag s)) ≡ true
    → open_after (slot_tag s) (open_from m (s ∷ ss)) ≡ open_from (least_after (slot_tag s)) (s ∷ ss)
at_first m n s ss r l =
    ap (open_after (slot_tag s)) (open_cons m s ss ∙ rw l (ap (λ (t : List Slot). s ∷ t) (open_all m (suc (rank (slot_tag s))) ss (let h = leb-true m (rank (slot_tag s)) l in omega arith) behind)))
    ∙ after_cons (slot_tag s) s ss ∙ rw (eq-eqb (slot_tag s) (slot_tag s) refl) (go (slot_many s) (is_many (slot_tag s)) (first_many n s ss r))
  where
    behind : ranked (suc (rank (slot_tag s))) ss ≡ true
    behind = rest_ranked n s ss r

    go : (x y : Bool) → agrees x y ≡ true → cond x (s ∷ ss) ss ≡ open_from (cond y (rank (slot_tag s)) (rank (slot_tag s) + 1)) (s ∷ ss)
    go true true e = sym (open_cons (rank (slot_tag s)) s ss ∙ rw (le-leb (rank (slot_tag s)) (rank (slot_tag s)) (omega arith)) (ap (λ (t : List Slot). s ∷ t) (open_all (rank (slot_tag s)) (suc (rank (slot_tag s))) ss (omega arith) behind)))
    go true false e = absurd (false≢true e)
    go false true e = absurd (false≢true e)
    go false false e = sym (open_cons (rank (slot_tag s) + 1) s ss ∙ rw (lt-leb (rank (slot_tag s) + 1) (rank (slot_tag s)) (omega arith)) (open_all (rank (slot_tag s) + 1) (suc (rank (slot_tag s))) ss (omega arith) behind))

at_later : (m k : ℕ) (s : Slot) (ss : List Slot) → eqb k (slot_tag s) ≡ false → rank (slot_tag s) < rank k → open_after k (open_from m ss) ≡ open_from (least_after k) ss
    → open_after k (open_from m (s ∷ ss)) ≡ open_from (least_after k) (s ∷ ss)
at_later m k s ss q h ih =
    ap (open_after k) (open_cons m s ss) ∙ go (leb m (rank (slot_tag s))) ∙ ih
    ∙ sym (open_cons (least_after k) s ss ∙ rw (lt-leb (least_after k) (rank (slot_tag s)) (let o = least_over k in omega arith)))
  where
    go : (x : Bool) → open_after k (cond x (s ∷ open_from m ss) (open_from m ss)) ≡ open_after k (open_from m ss)
    go true = after_cons k s (open_from m ss) ∙ rw q
    go false = refl

-- behind a field in place the slots of its own rank and more are open, its own if it is for many
pub open_after_is : (m n k : ℕ) (ss : List Slot) → ranked n ss ≡ true → leb m (rank k) ≡ true → in_place k ss ≡ true
    → open_after k (open_from m ss) ≡ open_from (least_after k) ss
unfolding any_of
open_after_is m n k [] r l e = absurd (false≢true e)
open_after_is m n k (s ∷ ss) r l e = go (eqb k (slot_tag s)) refl (λ q. open_after_is m (suc (rank (slot_tag s))) k ss (rest_ranked n s ss r) l q)
  where
    go : (x : Bool) → eqb k (slot_tag s) ≡ x → (in_place k ss ≡ true → open_after k (open_from m ss) ≡ open_from (least_after k) ss)
        → open_after k (open_from m (s ∷ ss)) ≡ open_from (least_after k) (s ∷ ss)
    go true q ih = let z = eqb-true k (slot_tag s) q in rw z (at_first m n s ss r (rw z at l))
    go false q ih = let f : in_place k ss ≡ true = rw q at (sym (in_cons k s ss) ∙ e) in at_later m k s ss q (in_rank (suc (rank (slot_tag s))) k ss (rest_ranked n s ss r) f) (ih f)

pub open_start : (ss : List Slot) → ss ≡ open_from 0 ss
unfolding open_from
open_start [] = refl
open_start (s ∷ ss) = rw (le-leb 0 (rank (slot_tag s)) (omega arith)) (ap (λ (l : List Slot). s ∷ l) (open_start ss))
