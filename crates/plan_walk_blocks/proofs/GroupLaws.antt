-- The pairs of a buffer, grouped.
use mathlib.Core.Path.{◌≡◌, refl, sym, ap, ◌∙◌, subst}
use mathlib.Core.Bool.{Bool, true, false, cond, ◌||◌}
use mathlib.Core.List.{List, [], ◌∷◌, ◌++◌, append_assoc, append-nil}
use Prim.Native.Nat.{ℕ, zero, suc, ◌+◌, ◌*◌, ◌-◌, ◌≤◌, ◌<◌}
use native.Mathlib.Omega.{arith}
use lib.ListN.{length, get_or, set, drop, length-append, length-set, take-append-drop}
use lib.Seq.{get_or-append-add}
use lib.Dec.{eqb}
use borrow.Author.Tests.{eq-eqb, ne_eqb}
use Rattle.paper_plan.specs.Collecting.{Grouped, append, Pair, with_key, pairs}
use Rattle.paper_plan.specs.Planning.{grouped}
use Rattle.plan_walk_steps.specs.Numbers.{Listed, pair_numbers}
use Rattle.plan_walk_steps.proofs.Laws.{listed_more}
use Rattle.plan_walk_steps.proofs.TwoPass.{by_key, runs, two_pass}
use Rattle.plan_walk_blocks.specs.Answers.{key_in, pairs_from, before}

-- whether a key came before, from the last pair down
module _ (f : List ℕ) (key j : ℕ) (h : 0 < j) where
  before_step : before f j key ≡ eqb key (key_in f (j - 1)) || before f (j - 1) key
  unfolding before
  before_step = go j h
    where
      go : (i : ℕ) → 0 < i → before f i key ≡ eqb key (key_in f (i - 1)) || before f (i - 1) key
      go zero l = absurd (omega arith)
      go (suc i) l = let z : i ≡ suc i - 1 = omega arith in ap (λ (k : ℕ). eqb key (key_in f k) || before f k key) z

  pub before_found : key_in f (j - 1) ≡ key → before f j key ≡ true
  before_found e = before_step ∙ rw (eq-eqb key (key_in f (j - 1)) (sym e))

  pub before_on : (key_in f (j - 1) ≡ key → ⊥) → before f j key ≡ before f (j - 1) key
  before_on n = before_step ∙ rw (ne_eqb key (key_in f (j - 1)) (λ q. n (sym q)))

pub before_none : (f : List ℕ) (key : ℕ) → before f 0 key ≡ false
unfolding before
before_none f key = refl

-- a pair, and those from the next on
pub pairs_next : (f : List ℕ) (j n : ℕ) → j < n → pairs_from f j (n - j) ≡ (get_or f (2 * j) 0, get_or f (2 * j + 1) 0) ∷ pairs_from f (j + 1) (n - (j + 1))
unfolding pairs_from
pairs_next f j n h =
    let z : n - j ≡ suc (n - (j + 1)) = omega arith in let y : suc j ≡ j + 1 = omega arith in
    ap (pairs_from f j) z ∙ ap (λ (k : ℕ). (get_or f (2 * j) 0, get_or f (2 * j + 1) 0) ∷ pairs_from f k (n - (j + 1))) y

pub pairs_none : (f : List ℕ) (j n : ℕ) → n ≤ j → pairs_from f j (n - j) ≡ []
unfolding pairs_from
pairs_none f j n h = let z : n - j ≡ 0 = omega arith in ap (pairs_from f j) z

-- the pairs of one key
pub record Emits (f : List ℕ) (i n key : ℕ) (out₀ : List ℕ) (m : ℕ) (out : List ℕ) (k j : ℕ) : Type 0 where
  pub low : i ≤ j
  pub high : j ≤ n
  pub size : length out ≡ length out₀
  pub room : k + length (by_key key (pairs_from f j (n - j))) ≤ 512
  pub state : (o : List Pair) → Listed out₀ m o → (l : List Pair) × Listed out k l × (l ++ by_key key (pairs_from f j (n - j)) ≡ o ++ by_key key (pairs_from f i (n - i)))

module _ (f : List ℕ) (i n key : ℕ) (out₀ : List ℕ) (m : ℕ) where
  pub emits_start : i ≤ n → m + length (by_key key (pairs_from f i (n - i))) ≤ 512 → Emits f i n key out₀ m out₀ m i
  emits_start h r = record { low = omega arith; high = h; size = refl; room = r; state = λ o w. (o, w, refl) }

  module _ (out : List ℕ) (k j : ℕ) (e : Emits f i n key out₀ m out k j) (h : j < n) where
    here : Pair
    here = (get_or f (2 * j) 0, get_or f (2 * j + 1) 0)

    rest : List Pair
    rest = by_key key (pairs_from f (j + 1) (n - (j + 1)))

    next_is : by_key key (pairs_from f j (n - j)) ≡ cond (eqb key (get_or f (2 * j) 0)) ((get_or f (2 * j) 0, get_or f (2 * j + 1) 0) ∷ by_key key (pairs_from f (j + 1) (n - (j + 1)))) (by_key key (pairs_from f (j + 1) (n - (j + 1))))
    next_is = ap (by_key key) (pairs_next f j n h)

    module _ (q : get_or f (2 * j) 0 ≡ key) where
      found_is : by_key key (pairs_from f j (n - j)) ≡ (key, get_or f (2 * j + 1) 0) ∷ by_key key (pairs_from f (j + 1) (n - (j + 1)))
      found_is =
          next_is ∙ ap (λ (b : Bool). cond b ((get_or f (2 * j) 0, get_or f (2 * j + 1) 0) ∷ by_key key (pairs_from f (j + 1) (n - (j + 1)))) (by_key key (pairs_from f (j + 1) (n - (j + 1))))) (eq-eqb key (get_or f (2 * j) 0) (sym q))
          ∙ ap (λ (a : ℕ). (a, get_or f (2 * j + 1) 0) ∷ by_key key (pairs_from f (j + 1) (n - (j + 1)))) q

      pub emits_below : k < 512
      emits_below = let z = ap length found_is in omega (arith, e.room, z)

      pub emits_found : 1024 ≤ length out₀ → Emits f i n key out₀ m (set (set out (2 * k) key) (2 * k + 1) (get_or f (2 * j + 1) 0)) (k + 1) (j + 1)
      emits_found long = record {
        low = omega (arith, e.low);
        high = omega arith;
        size = length-set (set out (2 * k) key) (2 * k + 1) (get_or f (2 * j + 1) 0) ∙ length-set out (2 * k) key ∙ e.size;
        room = let z = ap length found_is in omega (arith, e.room, z);
        state = λ o w. let s = e.state o w in (
          s.0 ++ ((key, get_or f (2 * j + 1) 0) ∷ []),
          listed_more out k key (get_or f (2 * j + 1) 0) s.0 (omega (arith, emits_below, e.size)) s.1,
          append_assoc s.0 ((key, get_or f (2 * j + 1) 0) ∷ []) (by_key key (pairs_from f (j + 1) (n - (j + 1)))) ∙ ap (λ (x : List Pair). s.0 ++ x) (sym found_is) ∙ s.2,
        );
      }

    pub emits_past : (get_or f (2 * j) 0 ≡ key → ⊥) → Emits f i n key out₀ m out k (j + 1)
    emits_past q =
        let g : by_key key (pairs_from f j (n - j)) ≡ by_key key (pairs_from f (j + 1) (n - (j + 1)))
        = next_is ∙ ap (λ (b : Bool). cond b ((get_or f (2 * j) 0, get_or f (2 * j + 1) 0) ∷ by_key key (pairs_from f (j + 1) (n - (j + 1)))) (by_key key (pairs_from f (j + 1) (n - (j + 1))))) (ne_eqb key (get_or f (2 * j) 0) (λ z. q (sym z))) in
        record {
          low = omega (arith, e.low);
          high = omega arith;
          size = e.size;
          room = let z = ap length g in omega (arith, e.room, z);
          state = λ o w. let s = e.state o w in (s.0, s.1, ap (λ (x : List Pair). s.0 ++ x) (sym g) ∙ s.2);
        }

  pub emits_end : (out : List ℕ) (k j : ℕ) → Emits f i n key out₀ m out k j → n ≤ j → (o : List Pair) → Listed out₀ m o → Listed out k (o ++ by_key key (pairs_from f i (n - i)))
  emits_end out k j e h o w =
      let s = e.state o w in
      subst (Listed out k) (sym (append-nil s.0) ∙ ap (λ (x : List Pair). s.0 ++ by_key key x) (sym (pairs_none f j n h)) ∙ s.2) s.1

-- grouping loses no pair
with_length : (k : ℕ) (rs : List ℕ) → length (with_key k rs) ≡ length rs
with_length k [] = refl
with_length k (r ∷ rs) = ap suc (with_length k rs)

append_length : (k r : ℕ) (g : Grouped ℕ) → length (pairs (append eqb k (r ∷ []) g)) ≡ suc (length (pairs g))
append_length k r [] = refl
append_length k r (x ∷ g) = go (eqb k x.0) (append_length k r g)
  where
    go : (b : Bool) → length (pairs (append eqb k (r ∷ []) g)) ≡ suc (length (pairs g))
        → length (pairs (cond b ((x.0, x.1 ++ (r ∷ [])) ∷ g) (x ∷ append eqb k (r ∷ []) g))) ≡ suc (length (with_key x.0 x.1 ++ pairs g))
    go true ih =
        omega (arith, length-append (with_key x.0 (x.1 ++ (r ∷ []))) (pairs g), with_length x.0 (x.1 ++ (r ∷ [])), length-append x.1 (r ∷ []), length-append (with_key x.0 x.1) (pairs g), with_length x.0 x.1)
    go false ih =
        omega (arith, ih, length-append (with_key x.0 x.1) (pairs (append eqb k (r ∷ []) g)), length-append (with_key x.0 x.1) (pairs g))

grouped_length : (g : Grouped ℕ) (l : List Pair) → length (pairs (grouped g l)) ≡ length (pairs g) + length l
grouped_length g [] = omega arith
grouped_length g (p ∷ l) = let a = grouped_length (append eqb p.0 (p.1 ∷ []) g) l in omega (arith, a, append_length p.0 p.1 g)

pub answer_length : (l : List Pair) → length (pairs (grouped [] l)) ≡ length l
answer_length l = let a = grouped_length [] l in omega (arith, a)

runs_length : (l : List Pair) → length (runs (λ k. false) l) ≡ length l
runs_length l = ap length (sym (two_pass l)) ∙ answer_length l

pairs_length : (f : List ℕ) (i n : ℕ) → length (pairs_from f i n) ≡ n
unfolding pairs_from
pairs_length f i zero = refl
pairs_length f i (suc n) = ap suc (pairs_length f (suc i) n)

-- the groups
pub record Groups (f : List ℕ) (n : ℕ) (out₀ out : List ℕ) (m i : ℕ) : Type 0 where
  pub high : i ≤ n
  pub size : length out ≡ length out₀
  pub done : List Pair
  pub listed : Listed out m done
  pub are : done ++ runs (before f i) (pairs_from f i (n - i)) ≡ runs (λ k. false) (pairs_from f 0 n)

runs_cons : (seen : ℕ → Bool) (p : Pair) (ps : List Pair) → runs seen (p ∷ ps) ≡ cond (seen p.0) [] (by_key p.0 (p ∷ ps)) ++ runs (λ k. eqb k p.0 || seen k) ps
unfolding runs
runs_cons seen p ps = refl

runs_nil : (seen : ℕ → Bool) → runs seen [] ≡ []
unfolding runs
runs_nil seen = refl

module _ (f : List ℕ) (n : ℕ) (out₀ : List ℕ) where
  pub groups_start : Groups f n out₀ out₀ 0 0
  unfolding before
  groups_start = let z : n - 0 ≡ n = omega arith in record {
    high = omega arith;
    size = refl;
    done = [];
    listed = record { said = refl; size = refl };
    are = ap (λ (k : ℕ). runs (λ x. false) (pairs_from f 0 k)) z;
  }

  module _ (out : List ℕ) (m i : ℕ) (g : Groups f n out₀ out m i) (h : i < n) where
    abbrev key : ℕ
    key = get_or f (2 * i) 0

    abbrev left : List Pair
    left = pairs_from f i (n - i)

    later : (b : Bool) → before f i (get_or f (2 * i) 0) ≡ b → runs (before f i) left ≡ cond b [] (by_key key left) ++ runs (before f (i + 1)) (pairs_from f (i + 1) (n - (i + 1)))
    unfolding before
    later b e =
        let y : suc i ≡ i + 1 = omega arith in
        ap (runs (before f i)) (pairs_next f i n h) ∙ runs_cons (before f i) (get_or f (2 * i) 0, get_or f (2 * i + 1) 0) (pairs_from f (i + 1) (n - (i + 1)))
        ∙ ap (λ (l : List Pair). cond (before f i (get_or f (2 * i) 0)) [] (by_key (get_or f (2 * i) 0) l) ++ runs (before f (suc i)) (pairs_from f (i + 1) (n - (i + 1)))) (sym (pairs_next f i n h))
        ∙ ap (λ (c : Bool). cond c [] (by_key (get_or f (2 * i) 0) left) ++ runs (before f (suc i)) (pairs_from f (i + 1) (n - (i + 1)))) e
        ∙ ap (λ (j : ℕ). cond b [] (by_key (get_or f (2 * i) 0) left) ++ runs (before f j) (pairs_from f (i + 1) (n - (i + 1)))) y

    pub groups_past : before f i (get_or f (2 * i) 0) ≡ true → Groups f n out₀ out m (i + 1)
    groups_past e = record { high = omega arith; size = g.size; done = g.done; listed = g.listed; are = ap (λ (l : List Pair). g.done ++ l) (sym (later true e)) ∙ g.are }

    module _ (e : before f i (get_or f (2 * i) 0) ≡ false) where
      whole : (g.done ++ by_key key left) ++ runs (before f (i + 1)) (pairs_from f (i + 1) (n - (i + 1))) ≡ runs (λ k. false) (pairs_from f 0 n)
      whole = append_assoc g.done (by_key key left) (runs (before f (i + 1)) (pairs_from f (i + 1) (n - (i + 1)))) ∙ ap (λ (l : List Pair). g.done ++ l) (sym (later false e)) ∙ g.are

      pub groups_room : n ≤ 512 → m + length (by_key (get_or f (2 * i) 0) (pairs_from f i (n - i))) ≤ 512
      groups_room r =
          let z = ap length whole in
          omega (arith, z, length-append (g.done ++ by_key key left) (runs (before f (i + 1)) (pairs_from f (i + 1) (n - (i + 1)))), length-append g.done (by_key key left), runs_length (pairs_from f 0 n), pairs_length f 0 n, g.listed.size)

      pub groups_more : (out' : List ℕ) (r : ℕ) → length out' ≡ length out → ((o : List Pair) → Listed out m o → Listed out' r (o ++ by_key (get_or f (2 * i) 0) (pairs_from f i (n - i)))) → Groups f n out₀ out' r (i + 1)
      groups_more out' r s w = record { high = omega arith; size = s ∙ g.size; done = g.done ++ by_key key left; listed = w g.done g.listed; are = whole }

  pub groups_end : (out : List ℕ) (m i : ℕ) → Groups f n out₀ out m i → n ≤ i → Listed out n (runs (λ k. false) (pairs_from f 0 n))
  groups_end out m i g h =
      let all : g.done ≡ runs (λ k. false) (pairs_from f 0 n)
      = sym (append-nil g.done) ∙ ap (λ (l : List Pair). g.done ++ l) (sym (ap (runs (before f i)) (pairs_none f i n h) ∙ runs_nil (before f i))) ∙ g.are in
      let z : m ≡ n = let y = ap length all in omega (arith, y, g.listed.size, runs_length (pairs_from f 0 n), pairs_length f 0 n) in
      subst (λ (k : ℕ). Listed out k (runs (λ x. false) (pairs_from f 0 n))) z (subst (Listed out m) all g.listed)

-- what a buffer lists
pairs_read : (pre : List ℕ) (l : List Pair) (more : List ℕ) (i : ℕ) → length pre ≡ 2 * i → pairs_from (pre ++ (pair_numbers l ++ more)) i (length l) ≡ l
unfolding pairs_from
pairs_read pre [] more i e = refl
pairs_read pre (p ∷ l) more i e =
    let a : 2 * i ≡ length pre + 0 = omega arith in
    let b : 2 * i + 1 ≡ length pre + 1 = omega arith in
    let size : length (pre ++ (p.0 ∷ p.1 ∷ [])) ≡ 2 * suc i = omega (arith, length-append pre (p.0 ∷ p.1 ∷ [])) in
    let ih = pairs_read (pre ++ (p.0 ∷ p.1 ∷ [])) l more (suc i) size in
    let one = ap (λ (k : ℕ). get_or (pre ++ (p.0 ∷ p.1 ∷ (pair_numbers l ++ more))) k 0) a ∙ get_or-append-add pre (p.0 ∷ p.1 ∷ (pair_numbers l ++ more)) 0 0 in
    let two = ap (λ (k : ℕ). get_or (pre ++ (p.0 ∷ p.1 ∷ (pair_numbers l ++ more))) k 0) b ∙ get_or-append-add pre (p.0 ∷ p.1 ∷ (pair_numbers l ++ more)) 1 0 in
    ap (λ (x : ℕ). (x, get_or (pre ++ (p.0 ∷ p.1 ∷ (pair_numbers l ++ more))) (2 * i + 1) 0) ∷ pairs_from (pre ++ (p.0 ∷ p.1 ∷ (pair_numbers l ++ more))) (suc i) (length l)) one
    ∙ ap (λ (x : ℕ). (p.0, x) ∷ pairs_from (pre ++ (p.0 ∷ p.1 ∷ (pair_numbers l ++ more))) (suc i) (length l)) two
    ∙ ap (λ (x : List Pair). p ∷ x) (ap (λ (y : List ℕ). pairs_from y (suc i) (length l)) (sym (append_assoc pre (p.0 ∷ p.1 ∷ []) (pair_numbers l ++ more))) ∙ ih)

pub pairs_listed : (f : List ℕ) (n : ℕ) (l : List Pair) → Listed f n l → pairs_from f 0 n ≡ l
pairs_listed f n l w =
    ap (λ (k : ℕ). pairs_from f 0 k) (sym w.size)
    ∙ ap (λ (y : List ℕ). pairs_from y 0 (length l)) (sym (take-append-drop (2 * n) f) ∙ ap (λ (y : List ℕ). y ++ drop (2 * n) f) w.said)
    ∙ pairs_read [] l (drop (2 * n) f) 0 (omega arith)
