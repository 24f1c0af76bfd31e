-- What is known, at each stage of a variable definition, of the rows behind it and of the rows that are open.
use mathlib.Core.Path.{◌≡◌, refl, sym, ap, ◌∙◌, subst}
use mathlib.Core.Bool.{Bool, true, false, ◌&&◌, cond}
use mathlib.Core.List.{List, [], ◌∷◌, ◌++◌}
use Prim.Native.Nat.{ℕ, zero, suc, ◌+◌, ◌<◌, ◌≤◌}
use native.Mathlib.Decide.{dec_lt}
use native.Mathlib.Omega.{arith}
use lib.Dec.{T, eqb, leb, eqb→eq}
use lib.ListN.{length, length-append, get_or-append}
use lib.Seq.{get_or-append_seam}
use Rattle.paper.specs.Numbers.{no_parent, kind_type_reference, kind_variable, kind_object}
use Rattle.paper.specs.Language.{row, kind, named, wrapper, wrap, end}
use Rattle.paper.specs.Rows.{Row, change, top, pop, begun, of_kind}
use Rattle.paper_theory.proofs.RowCells.{change_length}
use Rattle.paper_query.specs.Constructs.{no_row, is_value}
use Rattle.value_texts.proofs.Changes.{at, change_here}
use Rattle.value_texts.proofs.Phases.{Syms}
use Rattle.value_texts.proofs.Spanning.{Down}
use Rattle.value_texts.proofs.Stages.{Stage, of_token, of_mark, run, is_gone, not_gone, opened, typing, typed, ready, given, filled, gone, wrong, deep}

abbrev pub NotIn : ℕ → List ℕ → Type 0
NotIn v [] = Unit {0}
NotIn v (o ∷ os) = (o ≡ v → ⊥) × NotIn v os

-- k open rows in row v, and it is open
abbrev pub Over : ℕ → ℕ → List ℕ → Type 0
Over v zero [] = ⊥
Over v zero (o ∷ os) = (o ≡ v) × NotIn v os
Over v (suc k) [] = ⊥
Over v (suc k) (o ∷ os) = (v < o) × Over v k os

pub down_out : (v w : ℕ) (os : List ℕ) → w ≤ v → Down w os → NotIn v os
down_out v w [] h d = tt
down_out v w (o ∷ os) h d = let l = d.0 in ((λ e. absurd (omega arith)), down_out v o os (omega arith) d.1)

-- what stands right below row v behind its type reference
abbrev pub Kid : ℕ → List Row → List Row → Type 0
Kid v rows end' = (j : ℕ) → v + 1 < j → j < length rows → (at rows j).parent ≡ v → (j ≡ v + 2) × T (is_value (at end' (v + 2)))

abbrev First : ℕ → List Row → Type 0
First v end' = (v + 1 < length end') × ((at end' (v + 1)).kind ≡ kind_type_reference) × ((at end' (v + 1)).parent ≡ v)

abbrev pub Sits : Stage → ℕ → List Row → List Row → List ℕ → Type 0
Sits opened v end' rows os = (length rows ≡ v + 1) × Over v 0 os
Sits typing v end' rows os = (length rows ≡ v + 2) × Over v 1 os × (top os ≡ v + 1) × ((at rows (v + 1)).parent ≡ v)
Sits typed v end' rows os = (length rows ≡ v + 2) × Over v 1 os × First v end'
Sits ready v end' rows os = (length rows ≡ v + 2) × Over v 0 os × First v end'
Sits given v end' rows os = (length rows ≡ v + 3) × Over v 1 os × First v end' × (top os ≡ v + 2)
Sits (deep k) v end' rows os = (v + 3 ≤ length rows) × Over v (suc k) os × First v end' × Kid v rows end'
Sits filled v end' rows os = (v + 3 ≤ length rows) × Over v 0 os × First v end' × Kid v rows end'
Sits gone v end' rows os = (v + 2 ≤ length rows) × NotIn v os × First v end' × Kid v rows end'
Sits wrong v end' rows os = ⊥

-- rows changed in what is not their parent
parent_change : (f : Row → Row) → ((r : Row) → (f r).parent ≡ r.parent) → (k i : ℕ) (rs : List Row) → (at (change f k rs) i).parent ≡ (at rs i).parent
parent_change f g k i [] = refl
parent_change f g zero zero (r ∷ rs) = g r
parent_change f g zero (suc i) (r ∷ rs) = refl
parent_change f g (suc k) zero (r ∷ rs) = refl
parent_change f g (suc k) (suc i) (r ∷ rs) = parent_change f g k i rs

module _ (f : Row → Row) (g : (r : Row) → (f r).parent ≡ r.parent) (k v : ℕ) (end' rows : List Row) (os : List ℕ) where
  kid_change : Kid v rows end' → Kid v (change f k rows) end'
  kid_change h j l u e = h j l (omega (arith, change_length f k rows)) (sym (parent_change f g k j rows) ∙ e)

  pub sits_change : (φ : Stage) → Sits φ v end' rows os → Sits φ v end' (change f k rows) os
  sits_change opened h = (change_length f k rows ∙ h.0, h.1)
  sits_change typing h = (change_length f k rows ∙ h.0, h.1, h.2, parent_change f g k (v + 1) rows ∙ h.3)
  sits_change typed h = (change_length f k rows ∙ h.0, h.1, h.2)
  sits_change ready h = (change_length f k rows ∙ h.0, h.1, h.2)
  sits_change given h = (change_length f k rows ∙ h.0, h.1, h.2, h.3)
  sits_change (deep j) h = (omega (arith, change_length f k rows, h.0), h.1, h.2, kid_change h.3)
  sits_change filled h = (omega (arith, change_length f k rows, h.0), h.1, h.2, kid_change h.3)
  sits_change gone h = (omega (arith, change_length f k rows, h.0), h.1, h.2, kid_change h.3)
  sits_change wrong h = h

over_top : (v : ℕ) (os : List ℕ) → Over v 0 os → top os ≡ v
over_top v [] h = absurd h
over_top v (o ∷ os) h = h.0

over_above : (v k : ℕ) (os : List ℕ) → Over v (suc k) os → top os ≡ v → ⊥
over_above v k [] h e = h
over_above v k (o ∷ os) h e = let l = h.0 in omega arith

out_top : (v : ℕ) (os : List ℕ) → v < no_parent → NotIn v os → top os ≡ v → ⊥
out_top v [] l h e = omega arith
out_top v (o ∷ os) l h e = h.0 e

kid_row : (v a p : ℕ) (end' rows : List Row) → (p ≡ v → ⊥) → Kid v rows end' → Kid v (rows ++ (begun a p ∷ [])) end'
kid_row v a p end' rows n h j l u e = go (dec_lt j (length rows))
  where
    go : Dec (j < length rows) → (j ≡ v + 2) × T (is_value (at end' (v + 2)))
    go (yes w) = h j l w (sym (ap (λ (r : Row). r.parent) (get_or-append rows (begun a p ∷ []) no_row j w)) ∙ e)
    go (no w) =
        let z : j ≡ length rows = omega (arith, length-append rows (begun a p ∷ [])) in
        absurd (n (sym (ap (λ (r : Row). r.parent) (subst (λ (i : ℕ). at (rows ++ (begun a p ∷ [])) i ≡ begun a p) (sym z) (get_or-append_seam rows (begun a p) [] no_row))) ∙ e))

module _ (ss : Syms) (v : ℕ) (small : v < no_parent) (end' rows : List Row) (os : List ℕ) where
  pub step_row : (a : ℕ) (φ : Stage) → T (is_gone (run ss (of_mark row φ))) → Sits φ v end' rows os → Sits (of_mark row φ) v end' (rows ++ (begun a (top os) ∷ [])) (length rows ∷ os)
  step_row a opened t h =
      let e = h.0 in
      let size = length-append rows (begun a (top os) ∷ []) in
      let z : length rows ≡ v + 1 = e in
      (omega arith, (omega arith, h.1), z, ap (λ (r : Row). r.parent) (subst (λ (i : ℕ). at (rows ++ (begun a (top os) ∷ [])) i ≡ begun a (top os)) z (get_or-append_seam rows (begun a (top os)) [] no_row)) ∙ over_top v os h.1)
  step_row a typing t h = absurd (not_gone ss t)
  step_row a typed t h = absurd (not_gone ss t)
  step_row a ready t h = let e = h.0 in let size = length-append rows (begun a (top os) ∷ []) in (omega arith, (omega arith, h.1), h.2, e)
  step_row a given t h = absurd (not_gone ss t)
  step_row a (deep k) t h =
      let e = h.0 in
      let size = length-append rows (begun a (top os) ∷ []) in
      (omega arith, (omega arith, h.1), h.2, kid_row v a (top os) end' rows (over_above v k os h.1) h.3)
  step_row a filled t h = absurd (not_gone ss t)
  step_row a gone t h =
      let e = h.0 in
      let size = length-append rows (begun a (top os) ∷ []) in
      (omega arith, ((λ z. absurd (omega arith)), h.1), h.2, kid_row v a (top os) end' rows (out_top v os small h.1) h.3)
  step_row a wrong t h = absurd h

  -- from here on kinds and parents are those of the end
  abbrev pub Later : ℕ → ℕ → Type 0
  Later j x = (i : ℕ) → i < length (change (of_kind j x) (top os) rows) → ((at (change (of_kind j x) (top os) rows) i).kind ≡ 0 → ⊥) →
      (i < length end') × ((at end' i).kind ≡ (at (change (of_kind j x) (top os) rows) i).kind) × ((at end' i).parent ≡ (at (change (of_kind j x) (top os) rows) i).parent)

  kinded_top : (j x i : ℕ) → top os ≡ i → i < length rows → (at (change (of_kind j x) (top os) rows) i).kind ≡ j
  kinded_top j x i e l = subst (λ (k : ℕ). (at (change (of_kind j x) (top os) rows) k).kind ≡ j) e (ap (λ (r : Row). r.kind) (change_here (of_kind j x) (top os) rows (omega arith)))

  typing_kind : (j x : ℕ) (c : Bool) → eqb j kind_type_reference ≡ c → T (is_gone (run ss (cond c typed wrong))) → Later j x → Sits typing v end' rows os → Sits (cond c typed wrong) v end' (change (of_kind j x) (top os) rows) os
  typing_kind j x false e t l h = absurd (not_gone ss t)
  typing_kind j x true e t l h =
      let z = eqb→eq j kind_type_reference (subst T (sym e) tt) in
      let n = h.0 in
      let size = change_length (of_kind j x) (top os) rows in
      let k = kinded_top j x (v + 1) h.2 (omega arith) in
      let q = l (v + 1) (omega arith) (λ u. absurd (omega arith)) in
      (omega arith, h.1, (q.0, q.1 ∙ k ∙ z, q.2 ∙ parent_change (of_kind j x) (λ r. refl) (top os) (v + 1) rows ∙ h.3))

  given_kind : (j x : ℕ) (c : Bool) → (leb kind_variable j && leb j kind_object) ≡ c → T (is_gone (run ss (cond c (deep 0) wrong))) → Later j x → Sits given v end' rows os → Sits (cond c (deep 0) wrong) v end' (change (of_kind j x) (top os) rows) os
  given_kind j x false e t l h = absurd (not_gone ss t)
  given_kind j x true e t l h =
      let n = h.0 in
      let size = change_length (of_kind j x) (top os) rows in
      let k = kinded_top j x (v + 2) h.3 (omega arith) in
      let q = l (v + 2) (omega arith) (λ u. not_zero (sym k ∙ u)) in
      let value : T (is_value (at end' (v + 2))) = subst (λ (i : ℕ). T (leb kind_variable i && leb i kind_object)) (sym (q.1 ∙ k)) (subst T (sym e) tt) in
      (omega arith, h.1, h.2, λ i a b p. (omega arith, value))
    where
      not_zero : j ≡ 0 → ⊥
      not_zero u = subst T (ap (λ (i : ℕ). leb kind_variable i && leb i kind_object) u) (subst T (sym e) tt)

  pub step_kind : (j x : ℕ) (φ : Stage) → T (is_gone (run ss (of_mark (kind j x) φ))) → Later j x → Sits φ v end' rows os → Sits (of_mark (kind j x) φ) v end' (change (of_kind j x) (top os) rows) os
  step_kind j x opened t l h = absurd (not_gone ss t)
  step_kind j x typing t l h = typing_kind j x (eqb j kind_type_reference) refl t l h
  step_kind j x typed t l h = absurd (not_gone ss t)
  step_kind j x ready t l h = absurd (not_gone ss t)
  step_kind j x given t l h = given_kind j x (leb kind_variable j && leb j kind_object) refl t l h
  step_kind j x (deep k) t l h = sits_change (of_kind j x) (λ r. refl) (top os) v end' rows os (deep k) h
  step_kind j x filled t l h = absurd (not_gone ss t)
  step_kind j x gone t l h = sits_change (of_kind j x) (λ r. refl) (top os) v end' rows os gone h
  step_kind j x wrong t l h = absurd h

  -- marks that leave rows and open rows as they are
  pub step_named : (φ : Stage) → T (is_gone (run ss (of_mark named φ))) → Sits φ v end' rows os → Sits (of_mark named φ) v end' rows os
  step_named opened t h = h
  step_named typing t h = absurd (not_gone ss t)
  step_named typed t h = h
  step_named ready t h = absurd (not_gone ss t)
  step_named given t h = absurd (not_gone ss t)
  step_named (deep k) t h = h
  step_named filled t h = absurd (not_gone ss t)
  step_named gone t h = h
  step_named wrong t h = absurd h

  pub step_wrapper : (φ : Stage) → T (is_gone (run ss (of_mark wrapper φ))) → Sits φ v end' rows os → Sits (of_mark wrapper φ) v end' rows os
  step_wrapper opened t h = absurd (not_gone ss t)
  step_wrapper typing t h = absurd (not_gone ss t)
  step_wrapper typed t h = h
  step_wrapper ready t h = absurd (not_gone ss t)
  step_wrapper given t h = absurd (not_gone ss t)
  step_wrapper (deep k) t h = h
  step_wrapper filled t h = absurd (not_gone ss t)
  step_wrapper gone t h = h
  step_wrapper wrong t h = absurd h

  pub step_wrap : (w : ℕ) (φ : Stage) → T (is_gone (run ss (of_mark (wrap w) φ))) → Sits φ v end' rows os → Sits (of_mark (wrap w) φ) v end' rows os
  step_wrap w opened t h = absurd (not_gone ss t)
  step_wrap w typing t h = absurd (not_gone ss t)
  step_wrap w typed t h = h
  step_wrap w ready t h = absurd (not_gone ss t)
  step_wrap w given t h = absurd (not_gone ss t)
  step_wrap w (deep k) t h = h
  step_wrap w filled t h = absurd (not_gone ss t)
  step_wrap w gone t h = h
  step_wrap w wrong t h = absurd h

  over_pop : (k : ℕ) (os : List ℕ) → Over v (suc k) os → Over v k (pop os)
  over_pop k [] h = absurd h
  over_pop k (o ∷ os) h = h.1

  over_out : (os : List ℕ) → Over v 0 os → NotIn v (pop os)
  over_out [] h = absurd h
  over_out (o ∷ os) h = h.1

  out_pop : (os : List ℕ) → NotIn v os → NotIn v (pop os)
  out_pop [] h = tt
  out_pop (o ∷ os) h = h.1

  pub step_end : (φ : Stage) → T (is_gone (run ss (of_mark end φ))) → Sits φ v end' rows os → Sits (of_mark end φ) v end' rows (pop os)
  step_end opened t h = absurd (not_gone ss t)
  step_end typing t h = absurd (not_gone ss t)
  step_end typed t h = (h.0, over_pop 0 os h.1, h.2)
  step_end ready t h = let e = h.0 in (omega arith, over_out os h.1, h.2, λ j l u p. absurd (omega arith))
  step_end given t h = absurd (not_gone ss t)
  step_end (deep zero) t h = (h.0, over_pop 0 os h.1, h.2, h.3)
  step_end (deep (suc k)) t h = (h.0, over_pop (suc k) os h.1, h.2, h.3)
  step_end filled t h = let e = h.0 in (omega arith, over_out os h.1, h.2, h.3)
  step_end gone t h = (h.0, out_pop os h.1, h.2, h.3)
  step_end wrong t h = absurd h

  pub step_token : (φ : Stage) → T (is_gone (run ss (of_token φ))) → Sits φ v end' rows os → Sits (of_token φ) v end' rows os
  step_token opened t h = h
  step_token typing t h = absurd (not_gone ss t)
  step_token typed t h = h
  step_token ready t h = h
  step_token given t h = absurd (not_gone ss t)
  step_token (deep k) t h = h
  step_token filled t h = h
  step_token gone t h = h
  step_token wrong t h = absurd h
