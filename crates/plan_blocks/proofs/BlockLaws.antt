-- A row more in the list of blocks.
use mathlib.Core.Path.{◌≡◌, refl, sym, ap, ◌∙◌, subst}
use mathlib.Core.Bool.{Bool, true, false, true≢false, ◌&&◌, ◌||◌}
use mathlib.Core.Logic.{◌⊎◌, inl, inr}
use mathlib.Core.List.{List, [], ◌∷◌, ◌++◌}
use Prim.Native.Nat.{ℕ, zero, suc, ◌+◌, ◌<◌}
use native.Mathlib.Numerals.{add-one}
use native.Mathlib.Decide.{dec_lt}
use native.Mathlib.Omega.{arith}
use lib.ListN.{length, take, get_or, set}
use lib.Seq.{take-suc-set}
use lib.Dec.{eqb}
use borrow.Author.Tests.{eqb-true, eq-eqb, ltb-true}
use Rattle.paper.proofs.Bools.{and_left as and_l, and_right as and_r}
use Rattle.paper.specs.Numbers.{kind_field}
use Rattle.paper.specs.Rows.{Row}
use Rattle.paper_table.specs.Lists.{any_of, first_at}
use Rattle.paper_table.proofs.ListsLaws.{any_first}
use Rattle.paper_query.specs.Constructs.{Doc, count, row_of, no_row, is_selection, below}
use Rattle.paper_query.specs.Reaching.{Reaches}
use Rattle.paper_query.specs.Rule6Leaf.{has_selections}
use Rattle.query_rows.specs.Rowed.{Decides}
use Rattle.query_links.proofs.Nexts.{next_passes, next_all}
use Rattle.paper_plan.specs.Collecting.{elem}
use Rattle.paper_plan.specs.Selecting.{set_of, IsBlock, Above, Rising, BlockRows}
use Rattle.plan_theory.proofs.Same.{clash}
use Rattle.plan_theory.proofs.NumbersOf.{where_kept, where_keeps, or_l, or_r, or_case}
use Rattle.plan_theory.proofs.Plannable.{in_range}
use Rattle.plan_blocks.specs.Blocks.{BlocksTo}

-- a field has selections, or its set is empty
pub selections_some : (d : Doc) (i : ℕ) → true ≡ has_selections d i → set_of d i ≡ [] → ⊥
unfolding has_selections
selections_some d i e z =
    let q : Row → Bool = λ r. is_selection r && below i r in
    let f = first_at q d.rows in
    let low : f < count d = ltb-true f (count d) (sym (any_first q d.rows) ∙ sym e) in
    let p : q (row_of d f) ≡ true = rw (next_all q d.rows) at (next_passes q d.rows no_row 0 (omega (arith, next_all q d.rows))) in
    let both : below i (row_of d f) && is_selection (row_of d f) ≡ true =
    rw (and_r (is_selection (row_of d f)) (below i (row_of d f)) p) (and_l (is_selection (row_of d f)) (below i (row_of d f)) p) in
    true≢false (sym (where_keeps (λ r. below i r && is_selection r) d f low both) ∙ ap (elem eqb f) z)

any_at : (p : Row → Bool) (rs : List Row) (k : ℕ) → k < length rs → p (get_or rs k no_row) ≡ true → any_of p rs ≡ true
unfolding any_of
any_at p [] k h e = absurd (omega arith)
any_at p (r ∷ rs) zero h e = or_l (any_of p rs) e
any_at p (r ∷ rs) (suc k) h e = or_r (p r) (any_at p rs k (omega arith) e)

pub selections_none : (d : Doc) (i : ℕ) → false ≡ has_selections d i → set_of d i ≡ []
unfolding has_selections
selections_none d i e = go (set_of d i) refl
  where
    go : (l : List ℕ) → set_of d i ≡ l → set_of d i ≡ []
    go [] q = q
    go (x ∷ l) q =
        let h : elem eqb x (set_of d i) ≡ true = ap (elem eqb x) q ∙ or_l (elem eqb x l) (eq-eqb x x refl) in
        let k = where_kept (λ r. below i r && is_selection r) d x h in
        let s : is_selection (row_of d x) ≡ true = and_r (below i (row_of d x)) (is_selection (row_of d x)) k.1 in
        let b : below i (row_of d x) ≡ true = and_l (below i (row_of d x)) (is_selection (row_of d x)) k.1 in
        let both : is_selection (row_of d x) && below i (row_of d x) ≡ true = ap (λ (u : Bool). u && below i (row_of d x)) s ∙ b in
        absurd (true≢false (sym (any_at (λ r. is_selection r && below i r) d.rows x k.0 both) ∙ sym e))

-- what decides whether a row has a block
module _ (d : Doc) (op i : ℕ) where
  pub block_no_field : ((row_of d i).kind ≡ kind_field → ⊥) → IsBlock d op i → ⊥
  block_no_field n b = n (eqb-true (row_of d i).kind kind_field b.field_row)

  pub block_no_set : false ≡ has_selections d i → IsBlock d op i → ⊥
  block_no_set e b = b.selections (selections_none d i e)

  pub block_by : (r : Bool) → (row_of d i).kind ≡ kind_field → true ≡ has_selections d i → Decides r (Reaches d op i) → Decides r (IsBlock d op i)
  block_by true k e h = record { field_row = eq-eqb (row_of d i).kind kind_field k; selections = selections_some d i e; reached = h }
  block_by false k e h = λ b. h b.reached

-- the list, one row more
rising_more : (xs : List ℕ) (i : ℕ) → Rising xs → ((j : ℕ) → elem eqb j xs ≡ true → j < i) → Rising (xs ++ (i ∷ []))
rising_more [] i r f = (tt, tt)
rising_more (x ∷ xs) i r f = (above_more x xs r.0 (f x (or_l (elem eqb x xs) (eq-eqb x x refl))), rising_more xs i r.1 (λ j h. f j (or_r (eqb j x) h)))
  where
    above_more : (y : ℕ) (ys : List ℕ) → Above y ys → y < i → Above y (ys ++ (i ∷ []))
    above_more y [] a l = (l, tt)
    above_more y (z ∷ ys) a l = (a.0, above_more y ys a.1 l)

elem_more : (j i : ℕ) (xs : List ℕ) → elem eqb j (xs ++ (i ∷ [])) ≡ true → (elem eqb j xs ≡ true) ⊎ (j ≡ i)
elem_more j i [] h = go (or_case (eqb j i) false h)
  where
    go : (eqb j i ≡ true) ⊎ (false ≡ true) → (elem eqb j [] ≡ true) ⊎ (j ≡ i)
    go (inl e) = inr (eqb-true j i e)
    go (inr e) = clash (sym e)
elem_more j i (x ∷ xs) h = go (or_case (eqb j x) (elem eqb j (xs ++ (i ∷ []))) h) (λ (u : elem eqb j (xs ++ (i ∷ [])) ≡ true). elem_more j i xs u)
  where
    up : (elem eqb j xs ≡ true) ⊎ (j ≡ i) → (elem eqb j (x ∷ xs) ≡ true) ⊎ (j ≡ i)
    up (inl u) = inl (or_r (eqb j x) u)
    up (inr u) = inr u

    go : (eqb j x ≡ true) ⊎ (elem eqb j (xs ++ (i ∷ [])) ≡ true) → (elem eqb j (xs ++ (i ∷ [])) ≡ true → (elem eqb j xs ≡ true) ⊎ (j ≡ i)) → (elem eqb j (x ∷ xs) ≡ true) ⊎ (j ≡ i)
    go (inl e) f = inl (or_l (elem eqb j xs) e)
    go (inr u) f = up (f u)

elem_left : (j i : ℕ) (xs : List ℕ) → elem eqb j xs ≡ true → elem eqb j (xs ++ (i ∷ [])) ≡ true
elem_left j i [] h = clash (sym h)
elem_left j i (x ∷ xs) h = go (or_case (eqb j x) (elem eqb j xs) h) (λ (u : elem eqb j xs ≡ true). elem_left j i xs u)
  where
    go : (eqb j x ≡ true) ⊎ (elem eqb j xs ≡ true) → (elem eqb j xs ≡ true → elem eqb j (xs ++ (i ∷ [])) ≡ true) → (eqb j x || elem eqb j (xs ++ (i ∷ []))) ≡ true
    go (inl e) f = or_l (elem eqb j (xs ++ (i ∷ []))) e
    go (inr u) f = or_r (eqb j x) (f u)

elem_last : (i : ℕ) (xs : List ℕ) → elem eqb i (xs ++ (i ∷ [])) ≡ true
elem_last i [] = or_l false (eq-eqb i i refl)
elem_last i (x ∷ xs) = or_r (eqb i x) (elem_last i xs)

module _ (d : Doc) (op : ℕ) where
  pub blocks_none : (out : List ℕ) → BlocksTo d op out 0 0
  blocks_none out = record { few = omega arith; rising = tt; low = λ j h. clash (sym h); sound = λ j h. clash (sym h); complete = λ j h. absurd (omega arith) }

  module _ (out : List ℕ) (m i : ℕ) (b : BlocksTo d op out m i) where
    pub blocks_skip : (IsBlock d op i → ⊥) → BlocksTo d op out m (i + 1)
    blocks_skip n = record { few = omega (arith, b.few); rising = b.rising; low = λ j h. omega (arith, b.low j h); sound = b.sound; complete = λ j h w. go j h w (dec_lt j i) }
      where
        go : (j : ℕ) → j < i + 1 → IsBlock d op j → Dec (j < i) → elem eqb j (take m out) ≡ true
        go j h w (yes u) = b.complete j u w
        go j h w (no u) = let z : j ≡ i = omega arith in absurd (n (subst (IsBlock d op) z w))

    pub blocks_add : IsBlock d op i → m < length out → (out' : List ℕ) → out' ≡ set out m i → BlocksTo d op out' (m + 1) (i + 1)
    blocks_add w l out' q = record {
      few = omega (arith, b.few);
      rising = subst Rising (sym e) (rising_more (take m out) i b.rising b.low);
      low = λ j h. below' j (back j h);
      sound = λ j h. holds j (back j h);
      complete = λ j h v. ap (elem eqb j) e ∙ found j h v (dec_lt j i);
    }
      where
        e : take (m + 1) out' ≡ take m out ++ (i ∷ [])
        e = rw (q, add-one m) (take-suc-set out m i l)

        back : (j : ℕ) → elem eqb j (take (m + 1) out') ≡ true → (elem eqb j (take m out) ≡ true) ⊎ (j ≡ i)
        back j h = elem_more j i (take m out) (ap (elem eqb j) (sym e) ∙ h)

        below' : (j : ℕ) → (elem eqb j (take m out) ≡ true) ⊎ (j ≡ i) → j < i + 1
        below' j (inl u) = omega (arith, b.low j u)
        below' j (inr u) = omega arith

        holds : (j : ℕ) → (elem eqb j (take m out) ≡ true) ⊎ (j ≡ i) → IsBlock d op j
        holds j (inl u) = b.sound j u
        holds j (inr u) = subst (IsBlock d op) (sym u) w

        found : (j : ℕ) → j < i + 1 → IsBlock d op j → Dec (j < i) → elem eqb j (take m out ++ (i ∷ [])) ≡ true
        found j h v (yes u) = elem_left j i (take m out) (b.complete j u v)
        found j h v (no u) = let z : j ≡ i = omega arith in rw z (elem_last i (take m out))

  -- all rows are looked at
  pub blocks_rows : (out : List ℕ) (m n : ℕ) → count d ≡ n → BlocksTo d op out m n → BlockRows d op (op ∷ take m out)
  blocks_rows out m n e b =
      record { fields = take m out; are = refl; rising = b.rising; sound = b.sound; complete = λ i w. b.complete i (let l = in_range d kind_field i refl w.field_row in omega arith) w }
