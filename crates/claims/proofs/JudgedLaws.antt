-- What is said of a table, in the paper's words alone: where 7 and 8 stand, and which break is shown.
use mathlib.Core.Path.{◌≡◌, refl, sym, ap, subst, ◌∙◌}
use mathlib.Core.Logic.{◌↔◌}
use mathlib.Core.Bool.{Bool, true, false, cond, true≢false}
use mathlib.Core.Option.{Option, none, some}
use mathlib.Core.List.Memᴰ
use mathlib.Core.List.{List, [], ◌∷◌, Memᴰ}
use Prim.Native.Nat.{ℕ, ◌≤◌}
use native.Mathlib.Omega.{arith}
use lib.Dec.{leb}
use lib.ListN.{get_or}
use borrow.Author.Tests.{leb-true, leb-false}
use Rattle.paper_table.specs.House.{house_fields, table_wrongs, most_deep, smaller, smallest, framing_offset}
use Rattle.paper_table.specs.TableSizes.{room_in_table, overs_in, overs, counts_offset}
use Rattle.paper_table.specs.Types.{table_of}
use Rattle.paper_table.specs.References.{Ref, ref_of}
use Rattle.paper_table.specs.SubTypes.{SubType, sub_test}
use Rattle.paper_table.specs.Judging.{Break, breaks, numbers_of, not_after, least_break, table_answer, judge, table_shown}
use Rattle.paper_table.specs.declared.TableAnswer.{TableAnswer}
use Rattle.paper_table.specs.declared.TableAnswer.TheVariants.{Accepted, Framing, TooMany, Breaks}
use Rattle.paper_table.proofs.Before.{Before, empty, less, same, before_complete, before_sound}
use Rattle.paper_table.proofs.LeastLaws.{least_member, least_least, least_none}
use Rattle.paper_table.proofs.BreaksLaws.{breaks_sound, breaks_complete, breaks_none, breaks_nil}
use Rattle.paper_table.proofs.JudgingLaws.{judge_framing, judge_too_many, judge_accepted, judge_breaks}
use Rattle.paper_table.proofs.SubTypesLaws.{sub_test_sound, sub_test_complete}
use Rattle.paper_table.proofs.ReferenceTexts.{ref_text, Written, ref_of_sound, ref_of_complete}

none≢some : {A : Type 0} {x : A} → ◌≡◌ {A = Option A} none (some x) → ⊥
none≢some e = true≢false cc

some_inj : {A : Type 0} {x y : A} → ◌≡◌ {A = Option A} (some x) (some y) → x ≡ y
some_inj e = cc

-- the smallest of some offsets is one of them
smallest_member : (ws : List ℕ) (at : ℕ) → smallest ws ≡ some at → Memᴰ at ws
unfolding smallest
smallest_member [] at e = absurd (none≢some e)
smallest_member (w ∷ ws) at e = go (smallest ws) refl e (λ (v : ℕ) (q : smallest ws ≡ some v). smallest_member ws v q)
  where
    go : (o : Option ℕ) → smallest ws ≡ o → smaller w o ≡ some at → ((v : ℕ) → smallest ws ≡ some v → Memᴰ v ws) → Memᴰ at (w ∷ ws)
    go none q e ih = Memᴰ.head (sym (some_inj e))
    go (some v) q e ih = pick (leb w v) e
      where
        pick : (t : Bool) → some (cond t w v) ≡ some at → Memᴰ at (w ∷ ws)
        pick true e = Memᴰ.head (sym (some_inj e))
        pick false e = Memᴰ.tail (ih at (q ∙ e))

-- there is a smallest one where there is one, and it is not greater
smallest_below : (ws : List ℕ) (at : ℕ) → Memᴰ at ws → (v : ℕ) × (smallest ws ≡ some v) × (v ≤ at)
unfolding smallest
smallest_below [] at m = absurd (Memᴰ.not-nil m)
smallest_below (w ∷ ws) at (Memᴰ.head p) = go (smallest ws)
  where
    go : (o : Option ℕ) → (v : ℕ) × (smaller w o ≡ some v) × (v ≤ at)
    go none = (w, refl, omega (arith, p))
    go (some x) = pick (leb w x) refl
      where
        pick : (t : Bool) → leb w x ≡ t → (v : ℕ) × (some (cond t w x) ≡ some v) × (v ≤ at)
        pick true q = (w, refl, omega (arith, p))
        pick false q = (x, refl, omega (arith, p, leb-false w x q))
smallest_below (w ∷ ws) at (Memᴰ.tail m) =
    let h = smallest_below ws at m in
    let k = h.2 in
    subst (λ (o : Option ℕ). (v : ℕ) × (smaller w o ≡ some v) × (v ≤ at)) (sym h.1) (pick h.0 k (leb w h.0) refl)
  where
    pick : (x : ℕ) → x ≤ at → (t : Bool) → leb w x ≡ t → (v : ℕ) × (some (cond t w x) ≡ some v) × (v ≤ at)
    pick x k true q = (w, refl, omega (arith, k, leb-true w x q))
    pick x k false q = (x, refl, k)

-- the smallest, exactly
smallest_exact : (ws : List ℕ) (at : ℕ) → (smallest ws ≡ some at) ↔ (Memᴰ at ws × ((w : ℕ) → Memᴰ w ws → at ≤ w))
smallest_exact ws at = (λ e. (smallest_member ws at e, λ w m. below w m e), λ h. same_as h.0 h.1)
  where
    below : (w : ℕ) → Memᴰ w ws → smallest ws ≡ some at → at ≤ w
    below w m e =
        let h = smallest_below ws w m in
        let q : h.0 ≡ at = some_inj (sym h.1 ∙ e) in
        omega (arith, q, h.2)

    same_as : Memᴰ at ws → ((w : ℕ) → Memᴰ w ws → at ≤ w) → smallest ws ≡ some at
    same_as m f =
        let h = smallest_below ws at m in
        let q : h.0 ≡ at = omega (arith, h.2, f h.0 (smallest_member ws h.0 h.1)) in
        h.1 ∙ ap some q

-- 7 stands at the smallest wrong offset
pub framing_stands : (s : List ℕ) (at : ℕ) →
    (judge s ≡ Framing at) ↔ (Memᴰ at (table_wrongs true (house_fields 0 s)) × ((w : ℕ) → Memᴰ w (table_wrongs true (house_fields 0 s)) → at ≤ w))
unfolding framing_offset
framing_stands s at =
    let j = judge_framing s at in
    let k = smallest_exact (table_wrongs true (house_fields 0 s)) at in
    (λ e. k.0 (j.0 e), λ h. j.1 (k.1 h))

-- 8, where no offset is wrong, at the smallest over a size
pub too_many_stands : (s : List ℕ) (at : ℕ) →
    (judge s ≡ TooMany at)
    ↔ ((framing_offset s ≡ none) × Memᴰ at (overs_in (overs most_deep) room_in_table (house_fields 0 s)) × ((w : ℕ) → Memᴰ w (overs_in (overs most_deep) room_in_table (house_fields 0 s)) → at ≤ w))
unfolding counts_offset
too_many_stands s at =
    let j = judge_too_many s at in
    let k = smallest_exact (overs_in (overs most_deep) room_in_table (house_fields 0 s)) at in
    (λ e. let q = j.0 e in let z = k.0 q.1 in (q.0, z.0, z.1), λ h. j.1 (h.0, k.1 (h.1, h.2)))

-- accepted, exactly
pub accepted_exactly : (s : List ℕ) → (judge s ≡ Accepted) ↔ ((framing_offset s ≡ none) × (counts_offset s ≡ none) × (breaks (table_of s) ≡ []))
accepted_exactly s =
    let j = judge_accepted s in
    (λ e. let q = j.0 e in (q.0, q.1, breaks_nil (table_of s) q.2), λ h. j.1 (h.0, h.1, breaks_none (table_of s) h.2))

-- two lists of numbers, neither after the other, are one
before_one : {xs ys : List ℕ} → Before xs ys → Before ys xs → xs ≡ ys
before_one empty empty = refl
before_one (less h) (less k) = let z : ⊥ = omega (arith, h, k) in absurd z
before_one (less h) (same e c) = let z : ⊥ = omega (arith, h, e) in absurd z
before_one (same e b) (less k) = let z : ⊥ = omega (arith, e, k) in absurd z
before_one (same {x = x} {ys = ys} e b) (same f c) = ap (λ (l : List ℕ). x ∷ l) (before_one b c) ∙ ap (λ (n : ℕ). n ∷ ys) e

-- the answer that shows these numbers
abbrev showing : List ℕ → TableAnswer
showing ns = Breaks (get_or ns 0 0) (get_or ns 1 0) (get_or ns 2 0) (get_or ns 3 0) (get_or ns 4 0)

-- 9 shows the least of the breaks
pub breaks_shown : (s : List ℕ) (i k m p a : ℕ) →
    (judge s ≡ Breaks i k m p a)
    ↔ ((framing_offset s ≡ none) × (counts_offset s ≡ none)
    × ((b : Break) × (numbers_of b ≡ i ∷ k ∷ m ∷ p ∷ a ∷ []) × Memᴰ b (breaks (table_of s)) × ((c : Break) → Memᴰ c (breaks (table_of s)) → not_after (numbers_of b) (numbers_of c) ≡ true)))
unfolding judge table_answer
breaks_shown s i k m p a = (to, from)
  where
    to : judge s ≡ Breaks i k m p a → (framing_offset s ≡ none) × (counts_offset s ≡ none)
        × ((b : Break) × (numbers_of b ≡ i ∷ k ∷ m ∷ p ∷ a ∷ []) × Memᴰ b (breaks (table_of s)) × ((c : Break) → Memᴰ c (breaks (table_of s)) → not_after (numbers_of b) (numbers_of c) ≡ true))
    to e =
        let j = judge_breaks s i k m p a e in
        let w = j.2 in
        (j.0, j.1, (w.least, sym (ap table_shown w.shows), breaks_complete (table_of s) w.least w.broken, λ c z. before_complete (w.first c (breaks_sound (table_of s) c z))))

    from : (framing_offset s ≡ none) × (counts_offset s ≡ none)
        × ((b : Break) × (numbers_of b ≡ i ∷ k ∷ m ∷ p ∷ a ∷ []) × Memᴰ b (breaks (table_of s)) × ((c : Break) → Memᴰ c (breaks (table_of s)) → not_after (numbers_of b) (numbers_of c) ≡ true))
        → judge s ≡ Breaks i k m p a
    from h = go (least_break (breaks (table_of s))) refl
      where
        go : (o : Option Break) → least_break (breaks (table_of s)) ≡ o → table_answer (framing_offset s) (counts_offset s) (least_break (breaks (table_of s))) ≡ Breaks i k m p a
        go none q = absurd (Memᴰ.not-nil (subst (λ (l : List Break). Memᴰ h.2.0 l) (least_none (breaks (table_of s)) q) h.2.2))
        go (some d) q =
            let b = h.2.0 in
            let e : numbers_of d ≡ numbers_of b
            = before_one (least_least (breaks (table_of s)) d q b h.2.2) (before_sound (numbers_of b) (numbers_of d) (h.2.3 d (least_member (breaks (table_of s)) d q))) in
            rw (h.0, h.1, q) (ap showing (e ∙ h.2.1))

-- the sub-type test, exactly
pub sub_type_exactly : (can : List ℕ → List ℕ → Bool) (r q : Ref) → (sub_test can r q ≡ true) ↔ SubType can r q
sub_type_exactly can r q = (sub_test_sound can r q, sub_test_complete can)

-- a type reference is read from its own text alone
reference_read : (s : List ℕ) (r : Ref) → Written r × (ref_text r ≡ s) → ref_of s ≡ some r
reference_read s r (w, e) = subst (λ (z : List ℕ). ref_of z ≡ some r) e (ref_of_complete r w)

pub reference_exactly : (s : List ℕ) (r : Ref) → (ref_of s ≡ some r) ↔ (Written r × (ref_text r ≡ s))
reference_exactly s r = (ref_of_sound s r, reference_read s r)
