-- Laws for the walk's code.
use mathlib.Core.Path.{◌≡◌, refl, sym, ap, ◌∙◌, subst}
use mathlib.Core.Bool.{Bool, true, false, cond, ◌||◌}
use mathlib.Core.List.{List, [], ◌∷◌, ◌++◌, append_assoc}
use Prim.Native.Nat.{ℕ, zero, suc, ◌+◌, ◌*◌, ◌-◌, ◌≤◌, ◌<◌}
use native.Mathlib.Omega.{arith}
use mathlib.Core.Logic.{◌⊎◌, inl, inr}
use lib.ListN.{length, get_or, take, set, length-append, length-set}
use lib.Seq.{take-suc-set, get_or-set_same, get_or-set_other}
use Rattle.plan_theory.proofs.Same.{arrived, now}
use lib.Dec.{eqb, ltb}
use borrow.Author.Tests.{eqb-true, eqb-false, ne_eqb, lt-ltb}
use Rattle.paper_plan.specs.Collecting.{elem, Pair}
use Rattle.paper_plan.specs.Planning.{Test, if_true, unless_true, unless_applies, if_met, Step, leave, list, State, says, marks_after, does, goal, walk}
use Rattle.plan_walk_steps.specs.Numbers.{test_of, step_of, step_at, steps_from, is_one, Marks, pair_numbers, Listed, Held, block_walk, Formed, Ready, Walked}

pub test_1 : (k a : ℕ) → k ≡ 1 → test_of k a ≡ if_true a
unfolding test_of
test_1 k a e = ap (λ (n : ℕ). test_of n a) e

pub test_2 : (k a : ℕ) → k ≡ 2 → test_of k a ≡ unless_true a
unfolding test_of
test_2 k a e = ap (λ (n : ℕ). test_of n a) e

pub test_3 : (k a : ℕ) → k ≡ 3 → test_of k a ≡ unless_applies a
unfolding test_of
test_3 k a e = ap (λ (n : ℕ). test_of n a) e

pub test_4 : (k a : ℕ) → k ≡ 4 → test_of k a ≡ if_met a
unfolding test_of
test_4 k a e = ap (λ (n : ℕ). test_of n a) e

-- ---- the walk, a step at a time

module _ (vars fits : List ℕ) where
  -- what is left of the walk at step i, from a state
  abbrev pub left : List ℕ → ℕ → ℕ → State → State
  left p end i s = walk (is_one vars) (is_one fits) (steps_from p i (end - i)) i 0 s

  passed : (m i j r e : ℕ) (p : List ℕ) (s : State) → j ≡ i + m → e ≡ m + r
      → walk (is_one vars) (is_one fits) (steps_from p i e) i j s ≡ walk (is_one vars) (is_one fits) (steps_from p j r) j 0 s
  unfolding walk steps_from
  passed zero i j r e p s q f =
      let ij : i ≡ j = omega arith in let er : e ≡ r = omega arith in
      ap (λ (n : ℕ). walk (is_one vars) (is_one fits) (steps_from p i n) i j s) er
      ∙ ap (λ (n : ℕ). walk (is_one vars) (is_one fits) (steps_from p n r) n j s) ij
      ∙ arrived (is_one vars) (is_one fits) (steps_from p j r) j j s (omega arith)
  passed (suc m) i j r e p s q f =
      let one : e ≡ suc (m + r) = omega arith in
      ap (λ (n : ℕ). walk (is_one vars) (is_one fits) (steps_from p i n) i j s) one
      ∙ ap (λ (b : Bool). cond b (walk (is_one vars) (is_one fits) (steps_from p (suc i) (m + r)) (suc i) j s)
      (walk (is_one vars) (is_one fits) (steps_from p (suc i) (m + r)) (suc i) (goal (is_one vars) (is_one fits) (step_at p i) s) (does (is_one vars) (is_one fits) (step_at p i) s))) (lt-ltb i j (omega arith))
      ∙ passed m (suc i) j r (m + r) p s (omega arith) refl

  -- one step, and where it goes
  pub turn : (p : List ℕ) (end i j : ℕ) (x : Step) (s : State) → i < end → i < j → j ≤ end → step_at p i ≡ x
      → (goal (is_one vars) (is_one fits) x s ≡ j) ⊎ ((goal (is_one vars) (is_one fits) x s ≡ 0) × (j ≡ i + 1))
      → left p end i s ≡ left p end j (does (is_one vars) (is_one fits) x s)
  unfolding steps_from
  turn p end i j x s h up within e g =
      let one : end - i ≡ suc (end - suc i) = omega arith in
      ap (λ (n : ℕ). walk (is_one vars) (is_one fits) (steps_from p i n) i 0 s) one
      ∙ now (is_one vars) (is_one fits) (step_at p i) (steps_from p (suc i) (end - suc i)) i s
      ∙ ap (λ (y : Step). walk (is_one vars) (is_one fits) (steps_from p (suc i) (end - suc i)) (suc i) (goal (is_one vars) (is_one fits) y s) (does (is_one vars) (is_one fits) y s)) e
      ∙ go g
    where
      go : (goal (is_one vars) (is_one fits) x s ≡ j) ⊎ ((goal (is_one vars) (is_one fits) x s ≡ 0) × (j ≡ i + 1))
          → walk (is_one vars) (is_one fits) (steps_from p (suc i) (end - suc i)) (suc i) (goal (is_one vars) (is_one fits) x s) (does (is_one vars) (is_one fits) x s) ≡ left p end j (does (is_one vars) (is_one fits) x s)
      go (inl q) = ap (λ (n : ℕ). walk (is_one vars) (is_one fits) (steps_from p (suc i) (end - suc i)) (suc i) n (does (is_one vars) (is_one fits) x s)) q
          ∙ passed (j - suc i) (suc i) j (end - j) (end - suc i) p (does (is_one vars) (is_one fits) x s) (omega arith) (omega arith)
      go (inr q) = let z : suc i ≡ j = omega (arith, q.1) in
          ap (λ (n : ℕ). walk (is_one vars) (is_one fits) (steps_from p (suc i) (end - suc i)) (suc i) n (does (is_one vars) (is_one fits) x s)) q.0
          ∙ ap (λ (n : ℕ). walk (is_one vars) (is_one fits) (steps_from p n (end - n)) n 0 (does (is_one vars) (is_one fits) x s)) z

  -- nothing listed is lost
  pub longer : (xs : List Step) (pc to : ℕ) (s : State) → length s.out ≤ length (walk (is_one vars) (is_one fits) xs pc to s).out
  unfolding walk
  longer [] pc to s = omega arith
  longer (x ∷ xs) pc to s = go (ltb pc to) x (longer xs (suc pc) to s) (longer xs (suc pc) (goal (is_one vars) (is_one fits) x s) (does (is_one vars) (is_one fits) x s))
    where
      go : (b : Bool) (y : Step) → length s.out ≤ length (walk (is_one vars) (is_one fits) xs (suc pc) to s).out
          → length (does (is_one vars) (is_one fits) y s).out ≤ length (walk (is_one vars) (is_one fits) xs (suc pc) (goal (is_one vars) (is_one fits) y s) (does (is_one vars) (is_one fits) y s)).out
          → length s.out ≤ length (cond b (walk (is_one vars) (is_one fits) xs (suc pc) to s) (walk (is_one vars) (is_one fits) xs (suc pc) (goal (is_one vars) (is_one fits) y s) (does (is_one vars) (is_one fits) y s))).out
      go true y h k = h
      go false (leave t n) h k = k
      go false (list a r) h k = omega (arith, k, length-append s.out ((a, r) ∷ []))

-- ---- steps by their kind

pub step_5 : (k a b : ℕ) → k ≡ 5 → step_of k a b ≡ list a b
unfolding step_of
step_5 k a b e = ap (λ (n : ℕ). step_of n a b) e

pub step_leave : (k a b : ℕ) → (k ≡ 5 → ⊥) → step_of k a b ≡ leave (test_of k a) b
unfolding step_of
step_leave k a b e = ap (λ (t : Bool). cond t (list a b) (leave (test_of k a) b)) (ne_eqb k 5 e)

-- marks change only where a fragment is met for the first time
pub same_marks : (vs as' : ℕ → Bool) (t : Test) (m : List ℕ) → says vs as' t m ≡ true → marks_after vs as' t m ≡ m
same_marks vs as' (if_true v) m h = refl
same_marks vs as' (unless_true v) m h = refl
same_marks vs as' (unless_applies v) m h = refl
same_marks vs as' (if_met f) m h = ap (λ (b : Bool). cond b m (f ∷ m)) h

pub new_mark : (vs as' : ℕ → Bool) (f : ℕ) (m : List ℕ) → says vs as' (if_met f) m ≡ false → marks_after vs as' (if_met f) m ≡ f ∷ m
new_mark vs as' f m h = ap (λ (b : Bool). cond b m (f ∷ m)) h

pub no_mark : (vs as' : ℕ → Bool) (k a : ℕ) (m : List ℕ) → 1 ≤ k → k ≤ 5 → (k ≡ 5 → ⊥) → (k ≡ 4 → ⊥) → marks_after vs as' (test_of k a) m ≡ m
no_mark vs as' k a m low high n5 n4 = go (eqb k 1) (eqb k 2) refl refl
  where
    go : (b c : Bool) → eqb k 1 ≡ b → eqb k 2 ≡ c → marks_after vs as' (test_of k a) m ≡ m
    go true c p q = ap (λ (t : Test). marks_after vs as' t m) (test_1 k a (eqb-true k 1 p))
    go false true p q = ap (λ (t : Test). marks_after vs as' t m) (test_2 k a (eqb-true k 2 q))
    go false false p q = ap (λ (t : Test). marks_after vs as' t m) (test_3 k a (omega (arith, eqb-false k 1 p, eqb-false k 2 q)))

-- ---- the buffers

pub marks_set : (m l : List ℕ) (f : ℕ) → f < length m → Marks m l → Marks (set m f 1) (f ∷ l)
marks_set m l f h k g low = go (eqb g f) refl
  where
    go : (b : Bool) → eqb g f ≡ b → is_one (set m f 1) g ≡ (eqb g f || elem eqb g l)
    go true q = let e : g ≡ f = eqb-true g f q in
        ap (λ (n : ℕ). eqb n 1) (ap (λ (n : ℕ). get_or (set m f 1) n 0) e ∙ get_or-set_same m f 1 0 h) ∙ ap (λ (b : Bool). b || elem eqb g l) (sym q)
    go false q = ap (λ (n : ℕ). eqb n 1) (get_or-set_other m f g 1 0 (eqb-false g f q)) ∙ k g low ∙ ap (λ (b : Bool). b || elem eqb g l) (sym q)

flat_append : (o q : List Pair) → pair_numbers (o ++ q) ≡ pair_numbers o ++ pair_numbers q
flat_append [] q = refl
flat_append (p ∷ o) q = ap (λ (x : List ℕ). p.0 ∷ p.1 ∷ x) (flat_append o q)

pub listed_more : (b : List ℕ) (n a r : ℕ) (o : List Pair) → 2 * n + 1 < length b → Listed b n o → Listed (set (set b (2 * n) a) (2 * n + 1) r) (n + 1) (o ++ ((a, r) ∷ []))
listed_more b n a r o h k = record {
  said =
      let two : 2 * (n + 1) ≡ suc (2 * n + 1) = omega arith in let one : 2 * n + 1 ≡ suc (2 * n) = omega arith in
      ap (λ (m : ℕ). take m (set (set b (2 * n) a) (2 * n + 1) r)) two
      ∙ take-suc-set (set b (2 * n) a) (2 * n + 1) r (simp length-set h)
      ∙ ap (λ (m : ℕ). take m (set b (2 * n) a) ++ (r ∷ [])) one
      ∙ ap (λ (x : List ℕ). x ++ (r ∷ [])) (take-suc-set b (2 * n) a (omega arith))
      ∙ append_assoc (take (2 * n) b) (a ∷ []) (r ∷ [])
      ∙ ap (λ (x : List ℕ). x ++ (a ∷ r ∷ [])) k.said
      ∙ sym (flat_append o ((a, r) ∷ []));
  size = length-append o ((a, r) ∷ []) ∙ ap (λ (m : ℕ). m + 1) k.size;
}

-- ---- the loop: from some state that the buffers hold, what is left of the walk gives what the whole gives

pub record Going (p : List ℕ) (from end : ℕ) (vars fits met₀ out₀ : List ℕ) (start : ℕ) (met out : List ℕ) (i n : ℕ) : Type 0 where
  pub above : from ≤ i
  pub below : i ≤ end
  pub few : n ≤ 512
  pub met_size : length met ≡ length met₀
  pub out_size : length out ≡ length out₀
  pub state : (l : List ℕ) (o : List Pair) → Marks met₀ l → Listed out₀ start o
      → (s : State) × Marks met s.met × Listed out n s.out × (left vars fits p end i s ≡ block_walk p from end vars fits l o)

module _ (p : List ℕ) (from end : ℕ) (vars fits met₀ out₀ : List ℕ) (start : ℕ) (ready : Ready p from end vars fits met₀ out₀ start) where
  abbrev pub Goes : List ℕ → List ℕ → ℕ → ℕ → Type 0
  Goes met out i n = Going p from end vars fits met₀ out₀ start met out i n

  pub goes_first : Goes met₀ out₀ from start
  goes_first = record {
    above = omega arith;
    below = ready.order;
    few = ready.few;
    met_size = refl;
    out_size = refl;
    state = λ l o m b. (record { met = l; out = o }, m, b, refl);
  }

  module _ (met out : List ℕ) (i n : ℕ) (goes : Goes met out i n) (h : i < end) where
    abbrev kind : ℕ
    kind = get_or p (2050 + 3 * i) 0

    abbrev first : ℕ
    first = get_or p (2051 + 3 * i) 0

    abbrev second : ℕ
    second = get_or p (2052 + 3 * i) 0

    pub formed : Formed p end i
    formed = ready.formed i goes.above h

    pub goes_listed : kind ≡ 5 → (n ≡ 512 → ⊥) → Goes met (set (set out (2 * n) first) (2 * n + 1) second) (i + 1) (n + 1)
    goes_listed k m = record {
      above = omega (arith, goes.above);
      below = omega arith;
      few = omega (arith, goes.few, m);
      met_size = goes.met_size;
      out_size = simp length-set goes.out_size;
      state = λ l o q b. let g = goes.state l o q b in let s = g.0 in (
        record { met = s.met; out = s.out ++ ((first, second) ∷ []) },
        g.1,
        listed_more out n first second s.out (omega (arith, goes.out_size, ready.out_long, goes.few, m)) g.2,
        sym (turn vars fits p end i (i + 1) (list first second) s h (omega arith) (omega arith) (step_5 kind first second k) (inr (refl, refl))) ∙ g.3,
      );
    }

    pub goes_left : (kind ≡ 5 → ⊥) → ((l : List ℕ) → Marks met l → true ≡ says (is_one vars) (is_one fits) (test_of kind first) l) → Goes met out second n
    goes_left k w = record {
      above = omega (arith, goes.above, formed.ahead k);
      below = formed.within k;
      few = goes.few;
      met_size = goes.met_size;
      out_size = goes.out_size;
      state = λ l o q b. let g = goes.state l o q b in let s = g.0 in let t = sym (w s.met g.1) in (
        s,
        g.1,
        g.2,
        sym (turn vars fits p end i second (leave (test_of kind first) second) s h (formed.ahead k) (formed.within k) (step_leave kind first second k) (inl (ap (λ (x : Bool). cond x second 0) t))
            ∙ ap (λ (x : List ℕ). left vars fits p end second record { met = x; out = s.out }) (same_marks (is_one vars) (is_one fits) (test_of kind first) s.met t)) ∙ g.3,
      );
    }

    -- a step that does not leave: the marks after it
    goes_on : (met' : List ℕ) → (kind ≡ 5 → ⊥) → length met' ≡ length met₀
        → ((l : List ℕ) → Marks met l → (says (is_one vars) (is_one fits) (test_of kind first) l ≡ false) × Marks met' (marks_after (is_one vars) (is_one fits) (test_of kind first) l)) → Goes met' out (i + 1) n
    goes_on met' k size w = record {
      above = omega (arith, goes.above);
      below = omega arith;
      few = goes.few;
      met_size = size;
      out_size = goes.out_size;
      state = λ l o q b. let g = goes.state l o q b in let s = g.0 in let t = w s.met g.1 in (
        record { met = marks_after (is_one vars) (is_one fits) (test_of kind first) s.met; out = s.out },
        t.1,
        g.2,
        sym (turn vars fits p end i (i + 1) (leave (test_of kind first) second) s h (omega arith) (omega arith) (step_leave kind first second k) (inr (ap (λ (x : Bool). cond x second 0) t.0, refl))) ∙ g.3,
      );
    }

    pub goes_marked : kind ≡ 4 → ((l : List ℕ) → Marks met l → false ≡ says (is_one vars) (is_one fits) (test_of kind first) l) → Goes (set met first 1) out (i + 1) n
    goes_marked k w =
        let not-5 : kind ≡ 5 → ⊥ = λ (e : kind ≡ 5). omega (arith, k) in let not-3 : kind ≡ 3 → ⊥ = λ (e : kind ≡ 3). omega (arith, k) in
        goes_on (set met first 1) not-5 (length-set met first 1 ∙ goes.met_size) λ l q.
        let t = sym (w l q) in let e : test_of kind first ≡ if_met first = test_4 kind first k in (
          t,
          subst (λ (x : List ℕ). Marks (set met first 1) x)
              (sym (ap (λ (y : Test). marks_after (is_one vars) (is_one fits) y l) e ∙ new_mark (is_one vars) (is_one fits) first l (ap (λ (y : Test). says (is_one vars) (is_one fits) y l) (sym e) ∙ t)))
              (marks_set met l first (omega (arith, formed.index not-3 not-5, goes.met_size, ready.met_long)) q),
        )

    pub goes_past : (kind ≡ 5 → ⊥) → (kind ≡ 4 → ⊥) → ((l : List ℕ) → Marks met l → false ≡ says (is_one vars) (is_one fits) (test_of kind first) l) → Goes met out (i + 1) n
    goes_past k k' w = goes_on met k goes.met_size λ l q.
        (sym (w l q), subst (λ (x : List ℕ). Marks met x) (sym (no_mark (is_one vars) (is_one fits) kind first l formed.low formed.high k k')) q)

    pub goes_over : kind ≡ 5 → n ≡ 512 → (met' out' : List ℕ) → Walked p from end vars fits met₀ out₀ start met' out' 513
    goes_over k m met' out' l o q b = let g = goes.state l o q b in let s = g.0 in
        inl (record {
          told = refl;
          many =
              let e : left vars fits p end (i + 1) record { met = s.met; out = s.out ++ ((first, second) ∷ []) } ≡ block_walk p from end vars fits l o
              = sym (turn vars fits p end i (i + 1) (list first second) s h (omega arith) (omega arith) (step_5 kind first second k) (inr (refl, refl))) ∙ g.3 in
              let z = longer vars fits (steps_from p (i + 1) (end - (i + 1))) (i + 1) 0 record { met = s.met; out = s.out ++ ((first, second) ∷ []) } in
              let y = ap (λ (x : State). length x.out) e in
              omega (arith, z, y, length-append s.out ((first, second) ∷ []), g.2.size, m);
        })

  pub goes_done : (met out : List ℕ) (i n : ℕ) → Goes met out i n → end ≤ i → Walked p from end vars fits met₀ out₀ start met out n
  unfolding steps_from walk
  goes_done met out i n goes h l o q b = let g = goes.state l o q b in
      let none_left : end - i ≡ 0 = omega arith in
      let e : g.0 ≡ block_walk p from end vars fits l o = sym (ap (λ (m : ℕ). walk (is_one vars) (is_one fits) (steps_from p i m) i 0 g.0) none_left) ∙ g.3 in
      inr (subst (λ (s : State). Held n met out s) e (record { marks = g.1; listed = g.2; few = goes.few }))
