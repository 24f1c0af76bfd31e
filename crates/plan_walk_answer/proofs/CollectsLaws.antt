-- Demand 3 for `gw_walk`: given the numbers of an accepted document's plan, the call leaves the pairs of the draft's field collection, or answers 15 where they are over 512.
use mathlib.Core.Path.{◌≡◌, refl, sym, ap, ◌∙◌}
use mathlib.Core.Bool.{true}
use mathlib.Core.Logic.{◌⊎◌, inl, inr}
use mathlib.Core.List.{List, [], ◌∷◌, ◌++◌, map}
use Prim.Native.Nat.{ℕ, zero, suc, ◌+◌, ◌≤◌, ◌<◌}
use native.Mathlib.Omega.{arith}
use lib.ListN.{length, get_or, length-map}
use Rattle.paper.specs.Numbers.{report_size, accepted}
use Rattle.paper.specs.Rows.{Row}
use Rattle.paper.specs.Calls.{filled}
use Rattle.paper_table.specs.TableNumbers.{most_table}
use Rattle.paper_table.specs.Types.{table_of, is_object}
use Rattle.paper_query.specs.Constructs.{Doc}
use Rattle.paper_query.specs.Enclosing.{definition_at}
use Rattle.paper_query.specs.DocumentCalls.{read}
use Rattle.paper_query.specs.Opening.{AcceptedDocument}
use Rattle.paper_plan.specs.Applies.{applies}
use Rattle.paper_plan.specs.Collecting.{View, Grouped, Pair}
use Rattle.paper_plan.specs.Planning.{Plan, plan, firsts, walk_answer}
use Rattle.paper_plan.specs.PlanNumbers.{plan_numbers, blocks_in, WellFormed}
use Rattle.paper_plan.specs.Selecting.{Name, Collects, pairs_of, set_of, block_in, plan_for}
use Rattle.paper_plan.specs.LentPlan.{is_one, pair_numbers}
use Rattle.paper_plan.specs.WalkNumbers.{most_pairs, most_walked, pairs_size, variables_size, refuse_too_many_pairs}
use Rattle.paper_plan.specs.WalkCalls.{CanWalk, listed, WalkLent, Walked, short_report, short_pairs, long_table, refuses_table, refuses_walk, too_many_pairs, lists}
use Rattle.plan_theory.proofs.Document.{Among, block_at}
use Rattle.plan_theory.proofs.Demand3.{walk_answers}
use Rattle.plan_walk_blocks.proofs.AnswerLaws.{plan_in_is}

-- a plan has as many blocks as it is made of
firsts_length : (d : View ℕ) (k at : ℕ) (bs : List (List ℕ)) → length (firsts d k at bs) ≡ length bs
unfolding firsts
firsts_length d k at [] = refl
firsts_length d k at (b ∷ bs) = ap suc (firsts_length d k (at + length (plan d k at b)) bs)

-- and the blocks of the holders are among these
holders_known : (d : Doc) (rows holders : List ℕ) → Among rows holders → (j : ℕ) → j < length (map (block_in rows) holders) → get_or (map (block_in rows) holders) j 0 < length rows
holders_known d rows [] a j h = absurd (omega arith)
holders_known d rows (x ∷ xs) a zero h = (block_at d rows x a.0).0
holders_known d rows (x ∷ xs) a (suc j) h = holders_known d rows xs a.1 j (omega arith)

-- what the call leaves where the draft's field collection gives these pairs: the pairs and their count; or they are over 512
abbrev pub Leaves : List Pair → List ℕ → List ℕ → List ℕ → List ℕ → ℕ → Type 0
Leaves ps pairs report pairs' report' n =
    (length ps ≤ most_pairs) × (n ≡ accepted) × (pairs' ≡ filled pairs_size (pair_numbers ps) pairs) × (report' ≡ filled report_size (accepted ∷ length ps ∷ []) report)

abbrev pub Refuses : List Pair → List ℕ → List ℕ → List ℕ → List ℕ → ℕ → Type 0
Refuses ps pairs report pairs' report' n =
    (most_pairs < length ps) × (n ≡ refuse_too_many_pairs) × (pairs' ≡ filled pairs_size [] pairs) × (report' ≡ filled report_size (refuse_too_many_pairs ∷ []) report)

module _ (table document : List ℕ) (rs : List Row) (a : AcceptedDocument table document rs) (op : ℕ) (rows more : List ℕ) where
  -- the lent numbers: the plan's own, and any behind them
  abbrev lent : List ℕ
  lent = plan_numbers (plan_for (table_of table) (read document rs) op rows) ++ more

  module _ (object : ℕ) (holders variables : List ℕ) (among : Among rows holders) (formed : WellFormed (table_of table) lent) where
    abbrev blocks : List ℕ
    blocks = map (block_in rows) holders

    count : blocks_in lent ≡ length rows
    count = firsts_length _ _ 0 (map (set_of (read document rs)) rows) ∙ length-map rows (set_of (read document rs))

    known : (j : ℕ) → j < length blocks → get_or blocks j 0 < blocks_in lent
    known j h = omega (arith, count, holders_known (read document rs) rows holders among j h)

    asked : is_object (definition_at (table_of table) object) ≡ true → length holders ≤ most_walked → variables_size ≤ length variables → CanWalk (table_of table) lent object blocks variables
    asked o f v = record { well_formed = formed; known = known; object_record = o; few_blocks = omega (arith, length-map holders (block_in rows)); all_variables = v }

    -- what is listed is what the draft collects
    pub listed_collects : (g : Grouped Name) → Collects (table_of table) (read document rs) op (is_one variables) object holders g →
        listed (table_of table) lent object blocks variables ≡ pairs_of (read document rs) g
    listed_collects g c =
        ap (λ (p : Plan). walk_answer (is_one variables) (λ k. applies (table_of table) k object) p blocks)
        (plan_in_is (plan_for (table_of table) (read document rs) op rows) more formed.few_blocks)
        ∙ walk_answers table document rs a op (is_one variables) object rows holders among g c

    -- and the call leaves that, or refuses it as too much
    pub walked_collects : is_object (definition_at (table_of table) object) ≡ true → length holders ≤ most_walked → variables_size ≤ length variables →
        (g : Grouped Name) → Collects (table_of table) (read document rs) op (is_one variables) object holders g →
        (pairs report pairs' report' : List ℕ) (n : ℕ) → WalkLent pairs report → length table ≤ most_table → Walked table lent object blocks variables pairs report pairs' report' n →
        Leaves (pairs_of (read document rs) g) pairs report pairs' report' n ⊎ Refuses (pairs_of (read document rs) g) pairs report pairs' report' n
    walked_collects o f v g c pairs report pairs' report' n l s w = go w
      where
        same : listed (table_of table) lent object blocks variables ≡ pairs_of (read document rs) g
        same = listed_collects g c

        go : {m : ℕ} → Walked table lent object blocks variables pairs report pairs' report' m →
            Leaves (pairs_of (read document rs) g) pairs report pairs' report' m ⊎ Refuses (pairs_of (read document rs) g) pairs report pairs' report' m
        go (short_report h e k) = absurd (omega (arith, l.0))
        go (short_pairs h y e k) = absurd (omega (arith, l.1))
        go (long_table h y e k) = absurd (omega arith)
        go (refuses_table h y j z e k) = absurd (z (sym j ∙ a.table_right))
        go (refuses_walk h y z e k) = absurd (z (asked o f v))
        go (too_many_pairs h y z m e k) = inr (omega (arith, m, ap length same), refl, e, k)
        go (lists h y z m e k) = inl (
          omega (arith, m, ap length same),
          refl,
          e ∙ ap (λ (ps : List Pair). filled pairs_size (pair_numbers ps) pairs) same,
          k ∙ ap (λ (ps : List Pair). filled report_size (accepted ∷ length ps ∷ []) report) same,
        )
