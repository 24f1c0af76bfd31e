-- The rows of an operation's blocks: it reaches each, they are no more than the document's rows, and each stands once. Its own row is no field's, and the others rise.
use mathlib.Core.Path.{◌≡◌, refl, sym, ap, ◌∙◌, subst}
use mathlib.Core.Bool.{Bool, true, cond}
use mathlib.Core.Logic.{◌⊎◌, inl, inr}
use mathlib.Core.List.{List, [], ◌∷◌, map}
use Prim.Native.Nat.{ℕ, zero, suc, ◌≤◌, ◌<◌}
use native.Mathlib.Omega.{arith}
use lib.ListN.{length, get_or}
use lib.Dec.{eqb}
use borrow.Author.Tests.{eqb-true, eq-eqb, ne_eqb}
use Rattle.paper.specs.Numbers.{kind_operation, kind_field}
use Rattle.paper_table.specs.Lists.{first_at}
use Rattle.paper_query.specs.Constructs.{Doc, count, row_of, is}
use Rattle.paper_query.specs.Reaching.{itself, Reaches, here}
use Rattle.paper_plan.specs.Collecting.{elem}
use Rattle.paper_plan.specs.Selecting.{IsBlock, Above, Rising, BlockRows, block_in}
use Rattle.plan_theory.proofs.NumbersOf.{or_l, or_r, or_case}
use Rattle.plan_theory.proofs.Plannable.{in_range}
use Rattle.plan_making.proofs.BlockCounts.{rising_but}

pub elem_at : (xs : List ℕ) (b : ℕ) → b < length xs → elem eqb (get_or xs b 0) xs ≡ true
elem_at [] b h = absurd (omega arith)
elem_at (x ∷ xs) zero h = or_l (elem eqb x xs) (eq-eqb x x refl)
elem_at (x ∷ xs) (suc b) h = or_r (eqb (get_or xs b 0) x) (elem_at xs b (omega arith))

above_at : (x : ℕ) (xs : List ℕ) (b : ℕ) → Above x xs → b < length xs → x < get_or xs b 0
above_at x [] b a h = absurd (omega arith)
above_at x (y ∷ ys) zero a h = a.0
above_at x (y ∷ ys) (suc b) a h = above_at x ys b a.1 (omega arith)

-- in a rising list each number stands once
rising_place : (xs : List ℕ) (b : ℕ) → Rising xs → b < length xs → first_at (eqb (get_or xs b 0)) xs ≡ b
unfolding first_at
rising_place [] b r h = absurd (omega arith)
rising_place (x ∷ xs) zero r h = ap (λ (c : Bool). cond c 0 (suc (first_at (eqb x) xs))) (eq-eqb x x refl)
rising_place (x ∷ xs) (suc b) r h =
    let y = get_or xs b 0 in
    let l : x < y = above_at x xs b r.0 (omega arith) in
    ap (λ (c : Bool). cond c 0 (suc (first_at (eqb y) xs))) (ne_eqb y x (λ e. omega arith)) ∙ ap suc (rising_place xs b r.1 (omega arith))

module _ (d : Doc) (op : ℕ) (operation : is kind_operation (row_of d op) ≡ true) (rows : List ℕ) (w : BlockRows d op rows) where
  no_block : IsBlock d op op → ⊥
  no_block b = omega (arith, eqb-true (row_of d op).kind kind_field b.field_row, eqb-true (row_of d op).kind kind_operation operation)

  size : length rows ≡ suc (length w.fields)
  size = ap length w.are

  pub blocks_some : 1 ≤ length rows
  blocks_some = omega (arith, size)

  pub blocks_few : length rows ≤ count d
  blocks_few =
      let l = in_range d kind_operation op refl operation in
      omega (arith, size, rising_but w.fields 0 (count d) op (omega arith) l w.rising (λ x e. (omega arith, in_range d kind_field x refl (w.sound x e).field_row)) (λ e. no_block (w.sound op e)))

  pub blocks_reached : (h : ℕ) → elem eqb h rows ≡ true → Reaches d op h
  blocks_reached h e = go (or_case (eqb h op) (elem eqb h w.fields) (sym (ap (elem eqb h) w.are) ∙ e))
    where
      go : (eqb h op ≡ true) ⊎ (elem eqb h w.fields ≡ true) → Reaches d op h
      go (inl q) = subst (Reaches d op) (sym (eqb-true h op q)) (here itself)
      go (inr q) = (w.sound h q).reached

  -- the block of a block's row is that block
  pub block_back : (b : ℕ) → b < length rows → block_in rows (get_or rows b 0) ≡ b
  unfolding first_at
  block_back b h = subst (λ (l : List ℕ). b < length l → block_in l (get_or l b 0) ≡ b) (sym w.are) (back b) h
    where
      back : (c : ℕ) → c < length (op ∷ w.fields) → block_in (op ∷ w.fields) (get_or (op ∷ w.fields) c 0) ≡ c
      back zero l = ap (λ (q : Bool). cond q 0 (suc (first_at (eqb op) w.fields))) (eq-eqb op op refl)
      back (suc c) l =
          let y = get_or w.fields c 0 in
          let other : y ≡ op → ⊥ = λ e. no_block (subst (IsBlock d op) e (w.sound y (elem_at w.fields c (omega arith)))) in
          ap (λ (q : Bool). cond q 0 (suc (first_at (eqb y) w.fields))) (ne_eqb y op other) ∙ ap suc (rising_place w.fields c w.rising (omega arith))

  -- so for every list of blocks there are rows whose blocks they are
  pub blocks_back : (blocks : List ℕ) → ((j : ℕ) → j < length blocks → get_or blocks j 0 < length rows) → map (block_in rows) (map (λ b. get_or rows b 0) blocks) ≡ blocks
  blocks_back [] f = refl
  blocks_back (b ∷ bs) f = ap (λ (n : ℕ). n ∷ map (block_in rows) (map (λ x. get_or rows x 0) bs)) (block_back b (f 0 (omega arith))) ∙ ap (λ (l : List ℕ). b ∷ l) (blocks_back bs (λ j l. f (suc j) (omega arith)))
