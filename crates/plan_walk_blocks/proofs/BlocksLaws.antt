-- Blocks as parts of the numbers; the walk block by block.
use mathlib.Core.Path.{◌≡◌, refl, sym, ap, ◌∙◌, subst}
use mathlib.Core.Logic.{◌⊎◌, inl, inr}
use mathlib.Core.List.{List, [], ◌∷◌}
use Prim.Native.Nat.{ℕ, zero, suc, ◌+◌, ◌-◌, ◌≤◌, ◌<◌}
use native.Mathlib.Nat.{zero-add}
use native.Mathlib.Decide.{dec_lt}
use native.Mathlib.Omega.{arith}
use lib.ListN.{length, get_or, take, drop, drop_of_length-le}
use lib.Seq.{drop-cons}
use Rattle.paper_plan.specs.Collecting.{Pair}
use Rattle.paper_plan.specs.Planning.{Step, State, block_of, walk, blocks}
use Rattle.paper_plan.specs.PlanNumbers.{blocks_in, steps_in, first_in, end_in, WellFormed}
use Rattle.paper_table.specs.Types.{table_of}
use Rattle.table_types.specs.Booked.{Booked}
use Rattle.plan_walk_steps.specs.Numbers.{Formed, Marks, Over, Held, Ready, Walked, is_one, steps_from, block_walk}
use Rattle.plan_walk_steps.proofs.Laws.{longer}
use Rattle.plan_walk_steps.proofs.PlanLaws.{steps_part}
use Rattle.plan_walk_formed.proofs.FormedLaws.{end_next, end_last, formed_blocks, formed_walks}
use Rattle.plan_walk_blocks.specs.Answers.{firsts_from, plan_in, Walkable, Room, after_block, Walks, after_all}

steps_length : (p : List ℕ) (i n : ℕ) → length (steps_from p i n) ≡ n
unfolding steps_from
steps_length p i zero = refl
steps_length p i (suc n) = ap suc (steps_length p (suc i) n)

firsts_at : (p : List ℕ) (k n b d : ℕ) → b < n → get_or (firsts_from p k n) b d ≡ first_in p (k + b)
unfolding firsts_from
firsts_at p k zero b d h = absurd (omega arith)
firsts_at p k (suc n) zero d h = let z : k ≡ k + 0 = omega arith in ap (first_in p) z
firsts_at p k (suc n) (suc b) d h = let z : suc k + b ≡ k + suc b = omega arith in firsts_at p (suc k) n b d (omega arith) ∙ ap (first_in p) z

firsts_end : (p : List ℕ) (k n b d : ℕ) → n ≤ b → get_or (firsts_from p k n) b d ≡ d
unfolding firsts_from
firsts_end p k zero b d h = refl
firsts_end p k (suc n) zero d h = absurd (omega arith)
firsts_end p k (suc n) (suc b) d h = firsts_end p (suc k) n b d (omega arith)

module _ (p : List ℕ) (w : Walkable p) (b : ℕ) (h : b < blocks_in p) where
  first_is : get_or (plan_in p).first b 0 ≡ first_in p b
  first_is = firsts_at p 0 (blocks_in p) b 0 h ∙ ap (first_in p) (zero-add b)

  next_is : get_or (plan_in p).first (suc b) (length (plan_in p).steps) ≡ end_in p b
  next_is = go (dec_lt (suc b) (blocks_in p))
    where
      go : Dec (suc b < blocks_in p) → get_or (plan_in p).first (suc b) (length (plan_in p).steps) ≡ end_in p b
      go (yes l) = firsts_at p 0 (blocks_in p) (suc b) (length (plan_in p).steps) l ∙ ap (first_in p) (zero-add (suc b)) ∙ sym (end_next p b l)
      go (no l) = firsts_end p 0 (blocks_in p) (suc b) (length (plan_in p).steps) (omega arith) ∙ steps_length p 0 (steps_in p) ∙ sym (end_last p b (omega arith))

  pub block_is : block_of (plan_in p) b ≡ steps_from p (first_in p b) (end_in p b - first_in p b)
  block_is =
      ap (λ (a : ℕ). take (get_or (plan_in p).first (suc b) (length (plan_in p).steps) - a) (drop a (plan_in p).steps)) first_is
      ∙ ap (λ (e : ℕ). take (e - first_in p b) (drop (first_in p b) (plan_in p).steps)) next_is
      ∙ steps_part p (steps_in p) (first_in p b) (end_in p b - first_in p b) 0 (omega (arith, w.order b h, w.top b h))
      ∙ ap (λ (i : ℕ). steps_from p i (end_in p b - first_in p b)) (zero-add (first_in p b))

  walked_is : (vars fits l : List ℕ) (o : List Pair) → block_walk p (first_in p b) (end_in p b) vars fits l o ≡ after_block p b vars fits record { met = l; out = o }
  walked_is vars fits l o =
      ap (λ (ss : List Step). walk (is_one vars) (is_one fits) ss (first_in p b) 0 record { met = l; out = o }) (sym block_is)
      ∙ ap (λ (a : ℕ). walk (is_one vars) (is_one fits) (block_of (plan_in p) b) a 0 record { met = l; out = o }) (sym first_is)

  pub block_ready : (vars fits met out : List ℕ) (n from end : ℕ) → from ≡ first_in p b → end ≡ end_in p b → Room vars fits met out → n ≤ 512 → Ready p from end vars fits met out n
  block_ready vars fits met out n from end e f r g = record {
    long = w.long;
    order = omega (arith, e, f, w.order b h);
    top = omega (arith, f, w.top b h, w.few_steps);
    vars_long = r.vars_long;
    fits_long = r.fits_long;
    met_long = r.met_long;
    out_long = r.out_long;
    few = g;
    formed = λ i u v. subst (λ (x : ℕ). Formed p x i) (sym f) (w.formed b h i (omega (arith, e)) (omega (arith, f)));
  }

  pub block_walks : (vars fits met out : List ℕ) (n from end : ℕ) (met' out' : List ℕ) (r : ℕ) → from ≡ first_in p b → end ≡ end_in p b → Walked p from end vars fits met out n met' out' r
      → Walks p b vars fits met out n met' out' r
  block_walks vars fits met out n from end met' out' r e f g l o q c =
      let s : block_walk p from end vars fits l o ≡ after_block p b vars fits record { met = l; out = o }
      = ap (λ (x : ℕ). block_walk p x end vars fits l o) e ∙ ap (λ (x : ℕ). block_walk p (first_in p b) x vars fits l o) f ∙ walked_is vars fits l o in
      subst (λ (x : State). Over r x ⊎ Held r met' out' x) s (g l o q c)

-- a well-formed plan can be walked
pub well_walkable : (t book p : List ℕ) → Booked t book → WellFormed (table_of t) p → Walkable p
well_walkable t book p b w = record {
  long = w.long;
  few_blocks = w.few_blocks;
  few_steps = w.few_steps;
  order = λ k h. (formed_blocks (table_of t) p w k h).order;
  top = λ k h. (formed_blocks (table_of t) p w k h).top;
  formed = λ k h i u v. formed_walks t book b p (end_in p k) i (w.formed k i h u v);
}

-- more blocks lose no pair
blocks_longer : (vars fits p : List ℕ) (bs : List ℕ) (s : State) → length s.out ≤ length (blocks (is_one vars) (is_one fits) (plan_in p) bs s).out
unfolding blocks
blocks_longer vars fits p [] s = omega arith
blocks_longer vars fits p (b ∷ bs) s =
    omega (arith, longer vars fits (block_of (plan_in p) b) (get_or (plan_in p).first b 0) 0 s, blocks_longer vars fits p bs (after_block p b vars fits s))

blocks_cons : (vars fits p : List ℕ) (b : ℕ) (bs : List ℕ) (s : State) → blocks (is_one vars) (is_one fits) (plan_in p) (b ∷ bs) s ≡ blocks (is_one vars) (is_one fits) (plan_in p) bs (after_block p b vars fits s)
unfolding blocks
blocks_cons vars fits p b bs s = refl

blocks_nil : (vars fits p : List ℕ) (s : State) → blocks (is_one vars) (is_one fits) (plan_in p) [] s ≡ s
unfolding blocks
blocks_nil vars fits p s = refl

-- the walk is at block j
pub record Going (p bs vars fits met out : List ℕ) (j n : ℕ) : Type 0 where
  pub state : State
  pub held : Held n met out state
  pub rest : blocks (is_one vars) (is_one fits) (plan_in p) (drop j bs) state ≡ after_all p bs vars fits

module _ (p bs vars fits : List ℕ) where
  pub going_start : (met out : List ℕ) → Marks met [] → Going p bs vars fits met out 0 0
  going_start met out m = record {
    state = record { met = []; out = [] };
    held = record { marks = m; listed = record { said = refl; size = refl }; few = omega arith };
    rest = refl;
  }

  module _ (met out : List ℕ) (j n : ℕ) (g : Going p bs vars fits met out j n) where
    on : j < length bs → blocks (is_one vars) (is_one fits) (plan_in p) (drop (suc j) bs) (after_block p (get_or bs j 0) vars fits g.state) ≡ after_all p bs vars fits
    on h =
        sym (ap (λ (xs : List ℕ). blocks (is_one vars) (is_one fits) (plan_in p) xs g.state) (drop-cons bs j 0 h) ∙ blocks_cons vars fits p (get_or bs j 0) (drop (suc j) bs) g.state) ∙ g.rest

    module _ (h : j < length bs) (met' out' : List ℕ) (r b : ℕ) (e : b ≡ get_or bs j 0) (w : Walks p b vars fits met out n met' out' r) where
      after : Over r (after_block p b vars fits g.state) ⊎ Held r met' out' (after_block p b vars fits g.state)
      after = w g.state.met g.state.out g.held.marks g.held.listed

      pub going_over : r ≡ 513 → Over r (after_all p bs vars fits)
      going_over q = go after
        where
          go : Over r (after_block p b vars fits g.state) ⊎ Held r met' out' (after_block p b vars fits g.state) → Over r (after_all p bs vars fits)
          go (inl x) = record {
            told = q;
            many =
                let z = blocks_longer vars fits p (drop (suc j) bs) (after_block p b vars fits g.state) in
                let y = ap (λ (k : ℕ). blocks (is_one vars) (is_one fits) (plan_in p) (drop (suc j) bs) (after_block p k vars fits g.state)) e ∙ on h in
                let v = ap (λ (s : State). length s.out) y in
                omega (arith, z, v, x.many);
          }
          go (inr x) = absurd (omega (arith, x.few))

      pub going_on : (r ≡ 513 → ⊥) → Going p bs vars fits met' out' (j + 1) r
      going_on q = go after
        where
          go : Over r (after_block p b vars fits g.state) ⊎ Held r met' out' (after_block p b vars fits g.state) → Going p bs vars fits met' out' (j + 1) r
          go (inl x) = absurd (q x.told)
          go (inr x) = let z : suc j ≡ j + 1 = omega arith in record {
            state = after_block p b vars fits g.state;
            held = x;
            rest =
                ap (λ (k : ℕ). blocks (is_one vars) (is_one fits) (plan_in p) (drop k bs) (after_block p b vars fits g.state)) (sym z)
                ∙ ap (λ (k : ℕ). blocks (is_one vars) (is_one fits) (plan_in p) (drop (suc j) bs) (after_block p k vars fits g.state)) e ∙ on h;
          }

    pub going_end : length bs ≤ j → Held n met out (after_all p bs vars fits)
    going_end h =
        subst (Held n met out)
        (sym (ap (λ (xs : List ℕ). blocks (is_one vars) (is_one fits) (plan_in p) xs g.state) (drop_of_length-le bs h) ∙ blocks_nil vars fits p g.state) ∙ g.rest) g.held
