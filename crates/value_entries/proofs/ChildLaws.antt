-- The children of a row, hop by hop over their subtrees, and what a loop over them keeps.
use mathlib.Core.Path.{◌≡◌, refl, sym, ap, ◌∙◌}
use mathlib.Core.Logic.{◌⊎◌, inl, inr}
use mathlib.Core.Bool.{Bool, true, false, true≢false, ◌&&◌, not}
use mathlib.Core.List.{List, []}
use Prim.Native.Nat.{ℕ, zero, suc, ◌+◌, ◌-◌, ◌≤◌, ◌<◌}
use native.Mathlib.Decide.{dec_lt}
use native.Mathlib.Numerals.{add-one}
use native.Mathlib.Omega.{arith}
use lib.ListN.{length}
use borrow.Author.Tests.{ne_eqb}
use Rattle.paper.specs.Numbers.{no_parent}
use Rattle.paper.specs.Tokens.{same}
use Rattle.paper_table.specs.Lists.{any_of}
use Rattle.paper_query.specs.Constructs.{Doc, parent_of, name_of}
use Rattle.query_rows.specs.Rowed.{row_in, rows_in, doc_of}
use Rattle.query_rows.proofs.RowsIn.{rows_count, parent_before}
use Rattle.query_subtrees.specs.Past.{past_of, Parented}
use Rattle.query_subtrees.proofs.PastLaws.{past_after, past_most, past_parents, past_child, past_hop, past_first}
use Rattle.paper_values.specs.Values.{Name, Value, Due}
use Rattle.paper_values.specs.Coercion.{heads, repeated_entry, unknown_entry}
use Rattle.paper_values.specs.RowValues.{entries_from}
use Rattle.value_entries.specs.Entered.{Treed, is_entry, names_before, entry_at, child_at, due_named}
use Rattle.value_entries.proofs.EntryLaws.{seen_later, seen_step, seen_start, repeated_on, repeated_start, unknown_on, entry_on, child_on, child_here, child_end, child_reached, passed}

-- ---- where the next child stands

-- over rows that are not right below h
module _ (d : Doc) (h n : ℕ) where
  child_skip : (c f : ℕ) → c + f ≤ n → ((j : ℕ) → c ≤ j → j < c + f → parent_of d j ≡ h → ⊥) → child_at d h (n - c) c ≡ child_at d h (n - (c + f)) (c + f)
  child_skip c zero l g = let z : c + 0 ≡ c = omega arith in rw z refl
  child_skip c (suc f) l g =
      let z : c + suc f ≡ c + f + 1 = omega arith in
      child_skip c f (omega arith) (λ j i m. g j i (omega arith)) ∙ child_on d h n (c + f) (omega arith) (g (c + f) (omega arith) (omega arith)) ∙ ap (λ (x : ℕ). child_at d h (n - x) x) (sym z)

  child_to : (c r : ℕ) → c ≤ r → r ≤ n → ((j : ℕ) → c ≤ j → j < r → parent_of d j ≡ h → ⊥) → child_at d h (n - c) c ≡ child_at d h (n - r) r
  child_to c r l m g = let z : c + (r - c) ≡ r = omega arith in child_skip c (r - c) (omega arith) (λ j i u. g j i (omega arith)) ∙ ap (λ (x : ℕ). child_at d h (n - x) x) z

  child_none : (c : ℕ) → c ≤ n → ((j : ℕ) → c ≤ j → j < n → parent_of d j ≡ h → ⊥) → n ≡ child_at d h (n - c) c
  child_none c l g = child_end d h n n (omega arith) ∙ sym (child_to c n l (omega arith) g)

module _ (s rows : List ℕ) (n : ℕ) (past : List ℕ) (w : Treed s rows n past) (h : ℕ) (low : h < n) where
  parented : Parented (rows_in rows n)
  parented i l q = go (parent_before s rows n w.rowed i (omega (arith, rows_count rows n)))
    where
      go : ((row_in rows n i).parent < i) ⊎ ((row_in rows n i).parent ≡ no_parent) → (row_in rows n i).parent < i
      go (inl u) = u
      go (inr u) = absurd (omega (arith, u, q))

  inside : h < length (rows_in rows n)
  inside = omega (arith, rows_count rows n)

  -- no row from past its subtree on is right below h
  beyond : (j : ℕ) → j < n → past_of (rows_in rows n) h ≤ j → parent_of (doc_of s rows n) j ≡ h → ⊥
  beyond j l m e = omega (arith, past_child (rows_in rows n) h w.nested (omega (arith, rows_count rows n, w.rowed.few)) j (omega (arith, rows_count rows n)) (omega (arith, past_after (rows_in rows n) h)) e)

  pub first_here : h + 1 < past_of (rows_in rows n) h → h + 1 ≡ child_at (doc_of s rows n) h (n - (h + 1)) (h + 1)
  first_here l =
      child_here (doc_of s rows n) h n (h + 1) (omega (arith, past_most (rows_in rows n) h inside, rows_count rows n))
      (ap (parent_of (doc_of s rows n)) (add-one h) ∙ past_first (rows_in rows n) h parented inside (omega arith))

  pub first_none : past_of (rows_in rows n) h ≤ h + 1 → n ≡ child_at (doc_of s rows n) h (n - (h + 1)) (h + 1)
  first_none l = child_none (doc_of s rows n) h n (h + 1) (omega arith) (λ j i m. beyond j m (omega arith))

  module _ (c : ℕ) (some : c < n) (child : (row_in rows n c).parent ≡ h) where
    behind : h < c
    behind = omega (arith, child, parented c (omega (arith, rows_count rows n)) (omega (arith, child, w.rowed.few)))

    -- what stands in c is not right below h
    within : (j : ℕ) → c + 1 ≤ j → j < past_of (rows_in rows n) c → parent_of (doc_of s rows n) j ≡ h → ⊥
    within j l m e = omega (arith, (past_parents (rows_in rows n) c j (omega arith) m).0, behind, e)

    pub next_here : past_of (rows_in rows n) c < past_of (rows_in rows n) h → past_of (rows_in rows n) c ≡ child_at (doc_of s rows n) h (n - (c + 1)) (c + 1)
    next_here l =
        let few : length (rows_in rows n) ≤ no_parent = omega (arith, rows_count rows n, w.rowed.few) in
        let here : c < past_of (rows_in rows n) h = past_child (rows_in rows n) h w.nested few c (omega (arith, rows_count rows n)) behind child in
        let most : past_of (rows_in rows n) c < n = omega (arith, past_most (rows_in rows n) h inside, rows_count rows n) in
        child_here (doc_of s rows n) h n (past_of (rows_in rows n) c) most (past_hop (rows_in rows n) h w.nested few c inside behind here child l)
        ∙ sym (child_to (doc_of s rows n) h n (c + 1) (past_of (rows_in rows n) c) (omega (arith, past_after (rows_in rows n) c)) (omega (arith, most)) within)

    pub next_none : past_of (rows_in rows n) h ≤ past_of (rows_in rows n) c → n ≡ child_at (doc_of s rows n) h (n - (c + 1)) (c + 1)
    next_none l = child_none (doc_of s rows n) h n (c + 1) (omega arith) (λ j i m. go j i m (dec_lt j (past_of (rows_in rows n) c)))
      where
        go : (j : ℕ) → c + 1 ≤ j → j < n → Dec (j < past_of (rows_in rows n) c) → parent_of (doc_of s rows n) j ≡ h → ⊥
        go j i m (yes u) = within j i u
        go j i m (no u) = beyond j m (omega (arith, l))

-- ---- a loop over the children

no_entry : (d : Doc) (k h c : ℕ) (b : Bool) → (parent_of d c ≡ h → ⊥) → is_entry d k h c && b ≡ false
no_entry d k h c b e = rw (ne_eqb (parent_of d c) h e) refl

-- the loop stands at row c: right below h, or past all rows
pub record Stands (d : Doc) (h n c : ℕ) : Type 0 where
  pub behind : h < c
  pub most : c ≤ n
  pub below : c < n → parent_of d c ≡ h

module _ (d : Doc) (h n c r : ℕ) (e : r ≡ child_at d h (n - (c + 1)) (c + 1)) where
  pub stands : h ≤ c → c < n → Stands d h n r
  stands l i =
      let p = child_reached d h (n - (c + 1)) (c + 1) in
      record { behind = omega (arith, e, p.least); most = omega (arith, e, p.most); below = λ m. ap (parent_of d) e ∙ p.below (omega (arith, e)) }

  pub stands_later : c < r
  stands_later = omega (arith, e, (child_reached d h (n - (c + 1)) (c + 1)).least)

  -- what only rows right below h change is the same at the next of them
  hop : {A : Type 0} (f : ℕ → A) → ((j : ℕ) → c < j → j < n → (parent_of d j ≡ h → ⊥) → f j ≡ f (j + 1)) → f (c + 1) ≡ f r
  hop f g = passed d h f (n - (c + 1)) (c + 1) (λ j l i. g j (omega arith) (omega arith)) ∙ ap f (sym e)

  module _ (k : ℕ) (l : h ≤ c) where
    seen_hop : (x : Name) → any_of (same x) (names_before d k h (c + 1 - (h + 1))) ≡ any_of (same x) (names_before d k h (r - (h + 1)))
    seen_hop x = hop (λ (j : ℕ). any_of (same x) (names_before d k h (j - (h + 1)))) (λ j i m q. sym (seen_step d k h x j (omega arith) ∙ rw (no_entry d k h j (same x (name_of d j)) q) refl))

    pub seen_next : (x : Name) → h < c → is_entry d k h c && same x (name_of d c) ≡ false → any_of (same x) (names_before d k h (c - (h + 1))) ≡ false → any_of (same x) (names_before d k h (r - (h + 1))) ≡ false
    seen_next x i f g = sym (seen_hop x) ∙ seen_step d k h x c i ∙ rw (f, g) refl

    module _ (text : ℕ) (read : ℕ → Value) where
      repeated_hop : repeated_entry (names_before d k h (c + 1 - (h + 1))) (heads (entries_from text d read k h (n - (c + 1)) (c + 1))) ≡ repeated_entry (names_before d k h (r - (h + 1))) (heads (entries_from text d read k h (n - r) r))
      repeated_hop = hop (λ (j : ℕ). repeated_entry (names_before d k h (j - (h + 1))) (heads (entries_from text d read k h (n - j) j))) (λ j i m q. repeated_on d k h text read n j (omega arith) m (no_entry d k h j (any_of (same (name_of d j)) (names_before d k h (j - (h + 1)))) q))

      pub repeated_next : h < c → c < n → is_entry d k h c && any_of (same (name_of d c)) (names_before d k h (c - (h + 1))) ≡ false →
          repeated_entry (names_before d k h (c - (h + 1))) (heads (entries_from text d read k h (n - c) c)) ≡ repeated_entry (names_before d k h (r - (h + 1))) (heads (entries_from text d read k h (n - r) r))
      repeated_next i m f = repeated_on d k h text read n c i m f ∙ repeated_hop

      pub unknown_hop : (ds : List Due) → unknown_entry ds (heads (entries_from text d read k h (n - (c + 1)) (c + 1))) ≡ unknown_entry ds (heads (entries_from text d read k h (n - r) r))
      unknown_hop ds = hop (λ (j : ℕ). unknown_entry ds (heads (entries_from text d read k h (n - j) j))) (λ j i m q. unknown_on d k h text read ds (any_of (due_named (name_of d j)) ds) j refl n m (no_entry d k h j (not (any_of (due_named (name_of d j)) ds)) q))

      pub unknown_next : (ds : List Due) → c < n → is_entry d k h c && not (any_of (due_named (name_of d c)) ds) ≡ false →
          unknown_entry ds (heads (entries_from text d read k h (n - c) c)) ≡ unknown_entry ds (heads (entries_from text d read k h (n - r) r))
      unknown_next ds m f = unknown_on d k h text read ds (any_of (due_named (name_of d c)) ds) c refl n m f ∙ unknown_hop ds

    pub entry_hop : (x : Name) → entry_at d k h x (n - (c + 1)) (c + 1) ≡ entry_at d k h x (n - r) r
    entry_hop x = hop (λ (j : ℕ). entry_at d k h x (n - j) j) (λ j i m q. entry_on d k h x n j m (no_entry d k h j (same (name_of d j) x) q))

    pub entry_next : (x : Name) → c < n → is_entry d k h c && same (name_of d c) x ≡ false → entry_at d k h x (n - c) c ≡ entry_at d k h x (n - r) r
    entry_next x m f = entry_on d k h x n c m f ∙ entry_hop x

-- from row h itself
module _ (d : Doc) (k h n r : ℕ) (e : r ≡ child_at d h (n - (h + 1)) (h + 1)) where
  pub seen_first : (x : Name) → any_of (same x) (names_before d k h (r - (h + 1))) ≡ false
  seen_first x = sym (seen_hop d h n h r e k (omega arith) x) ∙ seen_start d k h x

  pub repeated_first : (text : ℕ) (read : ℕ → Value) → repeated_entry [] (heads (entries_from text d read k h (n - (h + 1)) (h + 1))) ≡ repeated_entry (names_before d k h (r - (h + 1))) (heads (entries_from text d read k h (n - r) r))
  repeated_first text read = repeated_start d k h text read n ∙ repeated_hop d h n h r e k (omega arith) text read

-- whether a name is seen before row c, from whether it is before row j
module _ (d : Doc) (k h : ℕ) (x : Name) (j c : ℕ) where
  pub seen_yes : h < j → j < c → is_entry d k h j && same x (name_of d j) ≡ true → true ≡ any_of (same x) (names_before d k h (c - (h + 1)))
  seen_yes l m f = sym (seen_later d k h x (j + 1) c (omega arith) (seen_step d k h x j l ∙ rw f refl))

  pub seen_no : c ≤ j → any_of (same x) (names_before d k h (j - (h + 1))) ≡ false → false ≡ any_of (same x) (names_before d k h (c - (h + 1)))
  seen_no l f = go (any_of (same x) (names_before d k h (c - (h + 1)))) refl
    where
      go : (b : Bool) → any_of (same x) (names_before d k h (c - (h + 1))) ≡ b → false ≡ b
      go true q = absurd (true≢false (sym (seen_later d k h x c j l q) ∙ f))
      go false q = refl
