-- A step's test, path by path; blocks and head make a well-formed plan, and it is one that can be walked.
use mathlib.Core.Path.{◌≡◌, sym, ap, ◌∙◌, subst}
use mathlib.Core.Bool.{Bool, true, false, true≢false}
use mathlib.Core.List.{List}
use Prim.Native.Nat.{ℕ, suc, ◌+◌, ◌≤◌, ◌<◌}
use native.Mathlib.Decide.{dec_lt}
use native.Mathlib.Omega.{arith}
use lib.ListN.{length, get_or}
use lib.Dec.{ltb, eqb}
use borrow.Author.Tests.{lt-ltb, le-ltb, ltb-true, ltb-false, eqb-true, eqb-false}
use Rattle.paper_table.specs.Types.{Table, table_of, is_composite}
use Rattle.paper_query.specs.Enclosing.{definition_at}
use Rattle.table_types.specs.Booked.{Booked}
use Rattle.query_rows.specs.Rowed.{Decides}
use Rattle.query_types.proofs.CompositeLaws.{output_below}
use Rattle.paper_plan.specs.PlanNumbers.{plan_size, most_blocks, most_steps, blocks_in, steps_in, first_in, end_in, kind_at, one_at, two_at, Formed, WellFormed}
use Rattle.plan_walk_steps.specs.Numbers.{Formed as Walks}
use Rattle.plan_walk_formed.specs.Blocks.{StepsFormed, BlockFormed, Headed, BlocksFormed}

module _ (t : Table) (p : List ℕ) (end i kind one two : ℕ) (k : kind ≡ kind_at p i) (a : one ≡ one_at p i) (b : two ≡ two_at p i) where
  pub five_two : kind ≡ 5 → one < 2048 → (r : Bool) → ltb two 2048 ≡ r → Decides r (Formed t p end i)
  five_two e h true q = record {
    low = omega (arith, k, e);
    high = omega (arith, k, e);
    variable_low = λ z. absurd (omega (arith, k, e));
    record_is = λ z. absurd (omega (arith, k, e));
    fragment_low = λ z. absurd (omega (arith, k, e));
    listed_low = λ z. (omega (arith, a), omega (arith, b, ltb-true two 2048 q));
    later = λ z. absurd (omega (arith, k, e));
    within = λ z. absurd (omega (arith, k, e));
  }
  five_two e h false q = λ f. let z : kind_at p i ≡ 5 = sym k ∙ e in let w = (f.listed_low z).1 in absurd (omega (arith, b, w, ltb-false two 2048 q))

  pub five_one : kind ≡ 5 → 2048 ≤ one → Formed t p end i → ⊥
  five_one e h f = let z : kind_at p i ≡ 5 = sym k ∙ e in let w = (f.listed_low z).0 in omega (arith, a, w)

  pub too_high : 5 < kind → Formed t p end i → ⊥
  too_high h f = omega (arith, k, f.high)

  pub not_later : (kind ≡ 5 → ⊥) → kind ≤ 5 → two ≤ i → Formed t p end i → ⊥
  not_later n l h f = let w = f.later (omega (arith, k, n)) in omega (arith, b, w)

  pub not_within : (kind ≡ 5 → ⊥) → kind ≤ 5 → end < two → Formed t p end i → ⊥
  not_within n l h f = let w = f.within (omega (arith, k, n)) in omega (arith, b, w)

  module _ (g : i < two) (h : two ≤ end) where
    pub three_is : kind ≡ 3 → (r : Bool) → is_composite (definition_at t one) ≡ r → Decides r (Formed t p end i)
    three_is e true q = record {
      low = omega (arith, k, e);
      high = omega (arith, k, e);
      variable_low = λ z. absurd (omega (arith, k, e));
      record_is = λ z. subst (λ (x : ℕ). is_composite (definition_at t x) ≡ true) a q;
      fragment_low = λ z. absurd (omega (arith, k, e));
      listed_low = λ z. absurd (omega (arith, k, e));
      later = λ z. omega (arith, b);
      within = λ z. omega (arith, b);
    }
    three_is e false q = λ f. true≢false (sym (f.record_is (sym k ∙ e)) ∙ ap (λ (x : ℕ). is_composite (definition_at t x)) (sym a) ∙ q)

    pub other_is : (kind ≡ 5 → ⊥) → kind ≤ 5 → (kind ≡ 3 → ⊥) → (kind ≡ 0 → ⊥) → (r : Bool) → ltb one 64 ≡ r → Decides r (Formed t p end i)
    other_is n l m o true q = record {
      low = omega (arith, k, o);
      high = omega (arith, k);
      variable_low = λ z. omega (arith, a, ltb-true one 64 q);
      record_is = λ z. absurd (m (k ∙ z));
      fragment_low = λ z. omega (arith, a, ltb-true one 64 q);
      listed_low = λ z. absurd (n (k ∙ z));
      later = λ z. omega (arith, b);
      within = λ z. omega (arith, b);
    }
    other_is n l m o false q = λ f. go f (dec_lt 2 kind)
      where
        go : Formed t p end i → Dec (2 < kind) → ⊥
        go f (yes w) = let z : kind_at p i ≡ 4 = omega (arith, k, n, m) in let y = f.fragment_low z in omega (arith, a, y, ltb-false one 64 q)
        go f (no w) = let z : kind_at p i ≤ 2 = omega (arith, k) in let y = f.variable_low z in omega (arith, a, y, ltb-false one 64 q)

  pub zero_is : kind ≡ 0 → Formed t p end i → ⊥
  zero_is e f = omega (arith, k, e, f.low)

-- step by step
pub steps_none : (t : Table) (p : List ℕ) (from end : ℕ) → (i : ℕ) → from ≤ i → i < from → Formed t p end i
steps_none t p from end i h l = absurd (omega arith)

pub steps_more : (t : Table) (p : List ℕ) (from end i : ℕ) → ((j : ℕ) → from ≤ j → j < i → Formed t p end j) → Formed t p end i → (j : ℕ) → from ≤ j → j < i + 1 → Formed t p end j
steps_more t p from end i f e j h l = go (dec_lt j i)
  where
    go : Dec (j < i) → Formed t p end j
    go (yes w) = f j h w
    go (no w) = let z : i ≡ j = omega arith in subst (Formed t p end) z e

pub blocks_more : (t : Table) (p : List ℕ) (i : ℕ) → ((j : ℕ) → j < i → BlockFormed t p j) → BlockFormed t p i → (j : ℕ) → j < i + 1 → BlockFormed t p j
blocks_more t p i f e j l = go (dec_lt j i)
  where
    go : Dec (j < i) → BlockFormed t p j
    go (yes w) = f j w
    go (no w) = let z : i ≡ j = omega arith in subst (BlockFormed t p) z e

-- the end of a block
pub end_next : (p : List ℕ) (b : ℕ) → suc b < blocks_in p → end_in p b ≡ first_in p (suc b)
end_next p b h = rw (lt-ltb (suc b) (blocks_in p) h)

pub end_last : (p : List ℕ) (b : ℕ) → blocks_in p ≤ suc b → end_in p b ≡ steps_in p
end_last p b h = rw (le-ltb (suc b) (blocks_in p) h)

-- a well-formed plan: its head and its blocks
pub well_formed : (t : Table) (p : List ℕ) → Headed p → BlocksFormed t p → WellFormed t p
well_formed t p h f = record {
  long = h.long;
  some = h.some;
  few_blocks = h.few_blocks;
  few_steps = h.few_steps;
  zeroth = h.zeroth;
  rising = λ b l. let w = (f b (omega arith)).order in omega (arith, w, end_next p b l);
  inside = λ b l. let w = (f b l).order in let v = (f b l).top in omega (arith, w, v);
  formed = λ b i l u v. (f b l).steps i u v;
}

pub formed_head : (t : Table) (p : List ℕ) → WellFormed t p → Headed p
formed_head t p w = record { long = w.long; some = w.some; few_blocks = w.few_blocks; few_steps = w.few_steps; zeroth = w.zeroth }

pub formed_blocks : (t : Table) (p : List ℕ) → WellFormed t p → BlocksFormed t p
formed_blocks t p w b h = go (dec_lt (suc b) (blocks_in p))
  where
    go : Dec (suc b < blocks_in p) → BlockFormed t p b
    go (yes l) = record {
      order = omega (arith, end_next p b l, w.rising b l);
      top = omega (arith, end_next p b l, w.inside (suc b) l);
      steps = λ i u v. w.formed b i h u v;
    }
    go (no l) = let e = end_last p b (omega arith) in record {
      order = omega (arith, e, w.inside b h);
      top = omega (arith, e);
      steps = λ i u v. w.formed b i h u v;
    }

-- what a walk asks of a step
pub formed_walks : (t book : List ℕ) → Booked t book → (p : List ℕ) (end i : ℕ) → Formed (table_of t) p end i → Walks p end i
formed_walks t book b p end i f = record {
  low = f.low;
  high = f.high;
  type = λ e. omega (arith, b.indexed.held.most, output_below t book b (one_at p i) (f.record_is e));
  index = λ m o. go m o (dec_lt 2 (kind_at p i));
  ahead = λ o. f.later (omega (arith, f.high, o));
  within = λ o. f.within (omega (arith, f.high, o));
}
  where
    go : (kind_at p i ≡ 3 → ⊥) → (kind_at p i ≡ 5 → ⊥) → Dec (2 < kind_at p i) → one_at p i < 64
    go m o (yes h) = f.fragment_low (omega (arith, f.high, m, o))
    go m o (no h) = f.variable_low (omega arith)

pub decided_yes : (P : Type 0) (b : Bool) → Decides b P → b ≡ true → P
decided_yes P true d e = d
decided_yes P false d e = absurd (true≢false (sym e))

pub decided_no : (P : Type 0) (b : Bool) → Decides b P → b ≡ false → P → ⊥
decided_no P true d e = λ x. true≢false e
decided_no P false d e = d

pub head_is : (p : List ℕ) → plan_size ≤ length p → (blocks_in p ≡ 0 → ⊥) → blocks_in p ≤ most_blocks → steps_in p ≤ most_steps → (r : Bool) → eqb (get_or p 2 0) 0 ≡ r → Decides r (Headed p)
head_is p l n f s true q = record { long = l; some = omega (arith, n); few_blocks = f; few_steps = s; zeroth = eqb-true (get_or p 2 0) 0 q }
head_is p l n f s false q = λ h. eqb-false (get_or p 2 0) 0 q h.zeroth

pub block_is : (t : Table) (p : List ℕ) (b a e : ℕ) → a ≡ first_in p b → e ≡ end_in p b → a ≤ e → e ≤ steps_in p → (r : Bool) → Decides r (StepsFormed t p a e) → Decides r (BlockFormed t p b)
block_is t p b a e f g h l true d = record {
  order = omega (arith, f, g);
  top = omega (arith, g);
  steps = subst (λ (x : ℕ). StepsFormed t p (first_in p b) x) g (subst (λ (x : ℕ). StepsFormed t p x e) f d);
}
block_is t p b a e f g h l false d = λ w. d (subst (λ (x : ℕ). StepsFormed t p x e) (sym f) (subst (λ (x : ℕ). StepsFormed t p (first_in p b) x) (sym g) w.steps))

pub formed_is : (t : Table) (p : List ℕ) → Headed p → (r : Bool) → Decides r (BlocksFormed t p) → Decides r (WellFormed t p)
formed_is t p h true d = well_formed t p h d
formed_is t p h false d = λ w. d (formed_blocks t p w)
