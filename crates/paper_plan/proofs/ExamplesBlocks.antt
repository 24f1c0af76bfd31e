-- Whose the blocks of a plan are, of document D and of a document with a dropped field: these rows' and no others'.
-- States: 01, example (8): "D has .. 4 blocks"; "Plan and walk": "one for each field with selections ..., dropped or not, in row order" (READINGS 100, 101).
-- Assumes nothing.
use mathlib.Core.Path.{◌≡◌, refl, sym, ap, ◌∙◌, subst}
use mathlib.Core.Bool.{Bool, true, false, true≢false, not, ◌&&◌, ◌||◌}
use mathlib.Core.List.{List, [], ◌∷◌}
use Prim.Native.Nat.{ℕ, zero, suc, ◌<◌}
use native.Mathlib.Decide.{dec_lt}
use native.Mathlib.Omega.{arith}
use lib.ListN.{get_or-eq_default}
use lib.Dec.{eqb, lit<}
use borrow.Author.Tests.{eqb-true}
use Rattle.paper.proofs.Bools.{and_left as and_first, and_right as and_second}
use Rattle.paper.specs.Numbers.{kind_field}
use Rattle.paper.specs.Language.{Document, language}
use Rattle.paper.specs.Lexical.{lexical}
use Rattle.paper.specs.Rows.{book, rows_of}
use Rattle.paper.specs.Reading.{tokens_of}
use Rattle.paper.proofs.Machine.{enter, choose, step, run}
use Rattle.paper.proofs.Longest.{scan}
use Rattle.paper.proofs.Tables.{factored}
use Rattle.paper.proofs.LexTables.{lex_factored}
use Rattle.paper.proofs.Lexing.{text, from}
use Rattle.paper.proofs.Worked.{r, rows_by}
use Rattle.paper_table.specs.Lists.{bytes, first_at, find, each_from}
use Rattle.paper_query.specs.Constructs.{Doc, count, row_of, no_row, is, fragment_named, numbers_where}
use Rattle.paper_query.specs.Reaching.{itself, deeper, here, through}
use Rattle.paper_query.specs.DocumentCalls.{read}
use Rattle.paper_plan.specs.Collecting.{elem}
use Rattle.paper_plan.specs.Planning.{dropped}
use Rattle.paper_plan.specs.Selecting.{set_of, if_of, IsBlock, BlockRows}
use Rattle.paper_plan.proofs.ExamplesPlans.{D, blocks_d}

-- ---- how the blocks of a document whose every field with selections is reached are found

-- each number below n passes
abbrev pub up_to : (ℕ → Bool) → ℕ → Bool
up_to p zero = true
up_to p (suc n) = p n && up_to p n

pub up_to_is : (p : ℕ → Bool) (n : ℕ) → up_to p n ≡ true → (i : ℕ) → i < n → p i ≡ true
up_to_is p zero h i l = absurd (let z : i < 0 = l in omega arith)
up_to_is p (suc n) h i l = go (dec_lt i n) (λ (u : i < n). up_to_is p n (and_second (p n) (up_to p n) h) i u)
  where
    go : Dec (i < n) → (i < n → p i ≡ true) → p i ≡ true
    go (yes u) f = f u
    go (no u) f = let z : n ≡ i = omega arith in subst (λ (j : ℕ). p j ≡ true) z (and_first (p n) (up_to p n) h)

abbrev some : List ℕ → Bool
some [] = false
some (x ∷ xs) = true

some_there : (xs : List ℕ) → (xs ≡ [] → ⊥) → some xs ≡ true
some_there [] f = absurd (f refl)
some_there (x ∷ xs) f = refl

-- it holds of each of a list
abbrev Each : (ℕ → Type 0) → List ℕ → Type 0
Each P [] = Unit {0}
Each P (x ∷ xs) = P x × Each P xs

of_each : (P : ℕ → Type 0) (xs : List ℕ) → Each P xs → (i : ℕ) → elem eqb i xs ≡ true → P i
of_each P [] a i e = absurd (true≢false (sym e))
of_each P (x ∷ xs) a i e = go (eqb i x) refl (λ (u : elem eqb i xs ≡ true). of_each P xs a.1 i u)
  where
    go : (b : Bool) → eqb i x ≡ b → (elem eqb i xs ≡ true → P i) → P i
    go true q f = subst P (sym (eqb-true i x q)) a.0
    go false q f = f (sym (ap (λ (b : Bool). b || elem eqb i xs) q) ∙ e)

module _ (d : Doc) (op : ℕ) (fields : List ℕ) where
  -- row i is no field with selections, or it is listed
  abbrev listed : ℕ → Bool
  listed i = not (is kind_field (row_of d i) && some (set_of d i)) || elem eqb i fields

  pub all_listed : up_to listed (count d) ≡ true → (i : ℕ) → IsBlock d op i → elem eqb i fields ≡ true
  all_listed h i b = go (dec_lt i (count d))
    where
      go : Dec (i < count d) → elem eqb i fields ≡ true
      go (yes l) = rw (b.field_row, some_there (set_of d i) b.selections) at (up_to_is listed (count d) h i l)
      go (no l) = absurd (true≢false (sym b.field_row ∙ ap (is kind_field) (get_or-eq_default d.rows no_row {n = i} (omega arith))))

-- ---- (8): D's four blocks

pub blocks_of_d : BlockRows D 0 blocks_d
unfolding numbers_where each_from fragment_named first_at
blocks_of_d = record {
  fields = 1 ∷ 7 ∷ 16 ∷ [];
  are = refl;
  rising = ((lit< tt, (lit< tt, tt)), ((lit< tt, tt), (tt, tt)));
  sound = of_each (IsBlock D 0) (1 ∷ 7 ∷ 16 ∷ []) (
    record { field_row = refl; selections = λ e. let z : ◌≡◌ {A = ℕ} 0 1 = cc in omega arith; reached = here (deeper {i = 1} tt itself) },
    (
      record { field_row = refl; selections = λ e. let z : ◌≡◌ {A = ℕ} 0 1 = cc in omega arith; reached = here (deeper {i = 7} tt itself) },
      (
        record {
          field_row = refl;
          selections = λ e. let z : ◌≡◌ {A = ℕ} 0 1 = cc in omega arith;
          reached = through (here (deeper {i = 6} tt itself)) (record { spread = tt; named = refl; known = lit< tt }) (deeper {i = 16} tt itself);
        },
        tt,
      ),
    ),
  );
  complete = all_listed D 0 (1 ∷ 7 ∷ 16 ∷ []) refl;
}

-- ---- a dropped field has its block

abbrev pub skipping : Doc
skipping =
    read (bytes "{q @skip(if:true){a}}") (
    r 1 0 21 2048 0 0 0 ∷ r 3 1 20 0 1 1 0 ∷ r 7 3 17 1 4 4 0 ∷ r 6 9 16 2 9 2 0 ∷ r 24 12 16 3 0 0 1 ∷ r 3 18 19 1 18 1 0 ∷ [])

rows_of_skipping : rows_by Document skipping.bytes ≡ skipping.rows
unfolding from text scan step enter choose lexical lex_factored language factored run rows_of book tokens_of
rows_of_skipping = refl

pub blocks_of_skipping : BlockRows skipping 0 (0 ∷ 1 ∷ [])
unfolding numbers_where each_from fragment_named first_at
blocks_of_skipping = record {
  fields = 1 ∷ [];
  are = refl;
  rising = (tt, tt);
  sound = of_each (IsBlock skipping 0) (1 ∷ []) (record { field_row = refl; selections = λ e. let z : ◌≡◌ {A = ℕ} 0 1 = cc in omega arith; reached = here (deeper {i = 1} tt itself) }, tt);
  complete = all_listed skipping 0 (1 ∷ []) refl;
}

-- so blocks of the fields that are not dropped are other blocks
pub kept_blocks_differ : ((d : Doc) (op i : ℕ) → IsBlock d op i → dropped (if_of d op (bytes "skip") i) (if_of d op (bytes "include") i) ≡ false) → ⊥
unfolding if_of first_at find blocks_of_skipping
kept_blocks_differ h = true≢false (h skipping 0 1 (blocks_of_skipping.sound 1 refl))
