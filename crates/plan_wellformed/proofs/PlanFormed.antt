-- Every plan of an accepted document is well-formed, with any numbers behind its own.
use mathlib.Core.Path.{◌≡◌, refl, sym, ap, ◌∙◌, subst}
use mathlib.Core.Bool.{Bool, true, cond}
use mathlib.Core.List.{List, [], ◌∷◌, ◌++◌, map}
use Prim.Native.Nat.{ℕ, zero, suc, ◌+◌, ◌≤◌, ◌<◌}
use native.Mathlib.Decide.{dec_lt}
use native.Mathlib.Omega.{arith}
use lib.ListN.{length, get_or, length-map, get_or-eq_default}
use borrow.Author.Tests.{lt-ltb, le-ltb}
use Rattle.paper.specs.Numbers.{kind_operation}
use Rattle.paper_table.specs.Types.{Table}
use Rattle.paper_query.specs.Constructs.{Doc, count, row_of, is}
use Rattle.paper_plan.specs.Collecting.{View}
use Rattle.paper_plan.specs.Planning.{Plan, plan, firsts}
use Rattle.paper_plan.specs.Selecting.{set_of, by_numbers, BlockRows, plan_for}
use Rattle.paper_plan.specs.PlanNumbers.{plan_size, most_steps, most_blocks, plan_numbers, steps_in, first_in, end_in, Formed, WellFormed}
use Rattle.plan_theory.proofs.Plannable.{Plannable}
use Rattle.plan_walk_steps.proofs.PlanLaws.{plan_first}
use Rattle.query_conditions.specs.Sane.{Sane}
use Rattle.plan_wellformed.proofs.RightSteps.{program_right}
use Rattle.plan_wellformed.proofs.Standing.{plan_stands}
use Rattle.plan_wellformed.proofs.Firsts.{first_rises, first_inside, block_formed}
use Rattle.plan_wellformed.proofs.BlockLists.{blocks_some, blocks_few, blocks_reached}

get_d_any : (xs : List ℕ) (n a b : ℕ) → n < length xs → get_or xs n a ≡ get_or xs n b
get_d_any [] n a b h = absurd (omega arith)
get_d_any (x ∷ xs) zero a b h = refl
get_d_any (x ∷ xs) (suc n) a b h = get_d_any xs n a b (omega arith)

firsts_length : (d : View ℕ) (k at : ℕ) (bs : List (List ℕ)) → length (firsts d k at bs) ≡ length bs
unfolding firsts
firsts_length d k at [] = refl
firsts_length d k at (b ∷ bs) = ap suc (firsts_length d k (at + length (plan d k at b)) bs)

first_zero : (d : View ℕ) (k : ℕ) (bs : List (List ℕ)) → get_or (firsts d k 0 bs) 0 0 ≡ 0
unfolding firsts
first_zero d k [] = refl
first_zero d k (b ∷ bs) = refl

-- a plan's numbers say where its blocks end
end_in_is : (p : Plan) (more : List ℕ) (b : ℕ) → length p.first ≤ most_blocks → end_in (plan_numbers p ++ more) b ≡ get_or p.first (suc b) (length p.steps)
end_in_is p more b few = go (dec_lt (suc b) (length p.first))
  where
    l : List ℕ
    l = plan_numbers p ++ more

    go : Dec (suc b < length p.first) → end_in l b ≡ get_or p.first (suc b) (length p.steps)
    go (yes h) = ap (λ (c : Bool). cond c (first_in l (suc b)) (steps_in l)) (lt-ltb (suc b) (length p.first) h) ∙ plan_first p few more (suc b) h ∙ get_d_any p.first (suc b) 0 (length p.steps) h
    go (no h) = ap (λ (c : Bool). cond c (first_in l (suc b)) (steps_in l)) (le-ltb (suc b) (length p.first) (omega arith)) ∙ sym (get_or-eq_default p.first (length p.steps) {n = suc b} (omega arith))

module _ (t : Table) (d : Doc) (op : ℕ) (ok : Plannable d) (sane : Sane t d op) (operation : is kind_operation (row_of d op) ≡ true) (rows : List ℕ) (w : BlockRows d op rows) (more : List ℕ) where
  abbrev the : Plan
  the = plan_for t d op rows

  abbrev numbers : List ℕ
  numbers = plan_numbers the ++ more

  abbrev sets : List (List ℕ)
  sets = map (set_of d) rows

  sets_count : length sets ≡ length rows
  sets_count = length-map rows (set_of d)

  pub blocks_count : length the.first ≡ length rows
  blocks_count = firsts_length (by_numbers t d op) (suc (count d)) 0 sets ∙ sets_count

  pub blocks_most : length the.first ≤ most_blocks
  blocks_most = omega (arith, blocks_count, blocks_few d op operation rows w, ok.few)

  abbrev first : ℕ → ℕ
  first b = get_or the.first b 0

  first_is : (b : ℕ) → b < length the.first → first_in numbers b ≡ first b
  first_is = plan_first the blocks_most more

  formed : (b i : ℕ) → b < length the.first → first_in numbers b ≤ i → i < end_in numbers b → Formed t numbers (end_in numbers b) i
  formed b i h l u =
      let e = end_in_is the more b blocks_most in
      subst (λ (n : ℕ). Formed t numbers n i) (sym e)
      (block_formed (by_numbers t d op) (suc (count d)) t numbers sets 0 b i (length the.steps) (plan_stands the more blocks_most)
      (program_right t d op ok sane (suc (count d)) 0 rows (blocks_reached d op operation rows w)) (omega (arith, blocks_count, sets_count)) (omega arith)
      (omega (arith, first_is b h)) (omega (arith, e)))

  -- at most 4,096 steps, and 14,338 numbers lent
  pub plan_formed : length the.steps ≤ most_steps → plan_size ≤ length numbers → WellFormed t numbers
  plan_formed few long = record {
    long = long;
    some = omega (arith, blocks_count, blocks_some d op operation rows w);
    few_blocks = blocks_most;
    few_steps = few;
    zeroth = first_is 0 (omega (arith, blocks_count, blocks_some d op operation rows w)) ∙ first_zero (by_numbers t d op) (suc (count d)) sets;
    rising = λ b h. omega (arith, first_is b (omega arith), first_is (suc b) h, first_rises (by_numbers t d op) (suc (count d)) sets 0 b (omega (arith, blocks_count, sets_count)));
    inside = λ b h. omega (arith, first_is b h, first_inside (by_numbers t d op) (suc (count d)) sets 0 b (omega (arith, blocks_count, sets_count)));
    formed = formed;
  }
