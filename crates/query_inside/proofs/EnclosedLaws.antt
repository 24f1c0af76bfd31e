-- What is kept of the rows, one row after the other; and that what is kept of rows of other kinds does not matter.
use mathlib.Core.Path.{◌≡◌, refl, sym, ap, subst, ◌∙◌}
use mathlib.Core.Logic.{◌⊎◌, ⊎_elim, inl, inr}
use mathlib.Core.Bool.{Bool, true, false, cond, true≢false}
use mathlib.Core.List.{List}
use Prim.Native.Nat.{ℕ, suc, ◌<◌, ◌≤◌}
use native.Mathlib.Decide.{dec_lt}
use native.Mathlib.Omega.{arith}
use lib.ListN.{length, get_or, set, length-set}
use lib.Seq.{get_or-set_same, get_or-set_other}
use Rattle.paper.specs.Numbers.{kind_field}
use Rattle.paper_table.specs.Types.{table_of}
use Rattle.paper_query.specs.Constructs.{name_of}
use Rattle.paper_query.specs.Enclosing.{type_inside, type_inside_from, enclosing, field_named, selections_type, field_at}
use Rattle.paper_query.proofs.Climbing.{ParentsBefore}
use Rattle.paper_query.proofs.EnclosingLaws.{inside_step, inside_is, from_other, from_field}
use Rattle.query_rows.specs.Rowed.{row_in, doc_of, Rowed, room_of}
use Rattle.query_rows.proofs.RowsIn.{rows_count, parent_before}
use Rattle.query_rows.proofs.Rooms.{room_enough}
use Rattle.query_types.specs.Coded.{type_coded, TypeKnown}
use Rattle.query_fields.specs.Kept.{FieldKept, FieldTyped}
use Rattle.query_inside.specs.Enclosed.{encloses, type_kept, EnclosedTo}
use Rattle.query_inside.proofs.KindLaws.{encloses_there, no_operation, no_fragment, no_field, no_inline}

-- parents stand before their rows
pub rowed_before : (s rows : List ℕ) (n : ℕ) → Rowed s rows n → ParentsBefore (doc_of s rows n)
rowed_before s rows n r i h =
    ⊎_elim (λ l. inl l) (λ e. inr (omega (arith, e, r.few, rows_count rows n))) (parent_before s rows n r i (omega (arith, h, rows_count rows n)))

module _ (t s rows : List ℕ) (n : ℕ) (r : Rowed s rows n) where
  step : (i : ℕ) → type_inside (table_of t) (doc_of s rows n) i ≡ type_inside_from (table_of t) (doc_of s rows n) i (enclosing (table_of t) (doc_of s rows n) i)
  step i = inside_step (table_of t) (doc_of s rows n) (rowed_before s rows n r) i

  module _ {m : ℕ} {book es inner at : List ℕ} (e : EnclosedTo t book es s rows n m inner at) where
    -- the type inside a row that is behind, or is not there
    pub kept_inside : (p : ℕ) → (p < m) ⊎ (n ≤ p) → type_inside (table_of t) (doc_of s rows n) p ≡ type_coded (type_kept rows n inner p)
    kept_inside p h = go (encloses (row_in rows n p).kind) refl
      where
        go : (b : Bool) → encloses (row_in rows n p).kind ≡ b → type_inside (table_of t) (doc_of s rows n) p ≡ type_coded (cond b (get_or inner p 0) 0)
        go true q = e.types p (⊎_elim (λ l. l) (λ l. let z = encloses_there rows n p q in absurd (omega arith)) h) q
        go false q =
            let k = (row_in rows n p).kind in
            step p ∙ from_other (table_of t) (doc_of s rows n) p (enclosing (table_of t) (doc_of s rows n) p) (no_operation k q) (no_fragment k q) (no_inline k q) (no_field k q)

    -- the type above a row, by its parent's number
    pub kept_above : (i p : ℕ) → i < n → i ≤ m → p ≡ (row_in rows n i).parent → enclosing (table_of t) (doc_of s rows n) i ≡ type_coded (type_kept rows n inner p)
    kept_above i p h l q =
        rw q (kept_inside (row_in rows n i).parent (⊎_elim (λ b. inl (omega arith)) (λ z. inr (omega (arith, z, r.few))) (parent_before s rows n r i h)))

  -- the type inside a field is that of its selections
  pub field_inside : (i : ℕ) → (row_in rows n i).kind ≡ kind_field → type_inside (table_of t) (doc_of s rows n) i ≡ selections_type (table_of t) (field_at (table_of t) (doc_of s rows n) i)
  field_inside i k = step i ∙ from_field (table_of t) (doc_of s rows n) i (enclosing (table_of t) (doc_of s rows n) i) k

  -- the type above is an object, interface or union
  pub above_known : (i above : ℕ) → enclosing (table_of t) (doc_of s rows n) i ≡ type_coded above → TypeKnown (table_of t) above
  above_known i above e k q = inside_is (table_of t) (doc_of s rows n) (row_in rows n i).parent k (e ∙ q)

  pub enclosed_begin : {book es inner at : List ℕ} → length inner ≡ room_of n → length at ≡ room_of n → EnclosedTo t book es s rows n 0 inner at
  enclosed_begin a b = record {
    inners = a;
    ats = b;
    types = λ i h. absurd (omega arith);
    fields = λ i h. absurd (omega arith);
  }

  module _ (i : ℕ) (l : i < n) (book es inner at : List ℕ) (e : EnclosedTo t book es s rows n i inner at) where
    room : i < room_of n
    room = omega (arith, room_enough n r.few)

    -- what holds of each row before i, and of i
    up_to : {P : ℕ → Type 0} → ((j : ℕ) → j < i → P j) → P i → (j : ℕ) → j < suc i → P j
    up_to {P = P} f x j h = go (dec_lt j i)
      where
        go : Dec (j < i) → P j
        go (yes k) = f j k
        go (no k) = let z : i ≡ j = omega arith in subst P z x

    kept_before : (xs : List ℕ) (x j : ℕ) → j < i → get_or xs j 0 ≡ get_or (set xs i x) j 0
    kept_before xs x j h = sym (get_or-set_other xs i j x 0 (λ z. omega arith))

    kept_here : (xs : List ℕ) (x : ℕ) → length xs ≡ room_of n → x ≡ get_or (set xs i x) i 0
    kept_here xs x h = sym (get_or-set_same xs i x 0 (omega (arith, room)))

    pub enclosed_skip : encloses (row_in rows n i).kind ≡ false → EnclosedTo t book es s rows n (suc i) inner at
    enclosed_skip q = record {
      inners = e.inners;
      ats = e.ats;
      types = up_to e.types (λ z. absurd (true≢false (sym z ∙ q)));
      fields = up_to e.fields (λ z. absurd (no_field (row_in rows n i).kind q z));
    }

    types_kept : (c : ℕ) → type_inside (table_of t) (doc_of s rows n) i ≡ type_coded c
        → (j : ℕ) → j < suc i → encloses (row_in rows n j).kind ≡ true → type_inside (table_of t) (doc_of s rows n) j ≡ type_coded (get_or (set inner i c) j 0)
    types_kept c q =
        up_to {P = λ j. encloses (row_in rows n j).kind ≡ true → type_inside (table_of t) (doc_of s rows n) j ≡ type_coded (get_or (set inner i c) j 0)}
        (λ j h k. e.types j h k ∙ ap type_coded (kept_before inner c j h)) (λ k. q ∙ ap type_coded (kept_here inner c e.inners))

    pub enclosed_type : (c above : ℕ) → ((row_in rows n i).kind ≡ kind_field → ⊥) → enclosing (table_of t) (doc_of s rows n) i ≡ type_coded above
        → type_coded c ≡ type_inside_from (table_of t) (doc_of s rows n) i (type_coded above) → EnclosedTo t book es s rows n (suc i) (set inner i c) at
    enclosed_type c above k a q = record {
      inners = length-set inner i c ∙ e.inners;
      ats = e.ats;
      types = types_kept c (step i ∙ rw a (sym q));
      fields = up_to e.fields (λ z. absurd (k z));
    }

    pub enclosed_field : (c a above : ℕ) → (row_in rows n i).kind ≡ kind_field → enclosing (table_of t) (doc_of s rows n) i ≡ type_coded above
        → FieldKept t book es (field_named (table_of t) (type_coded above) (name_of (doc_of s rows n) i)) a → FieldTyped t book es a c
        → EnclosedTo t book es s rows n (suc i) (set inner i c) (set at i a)
    enclosed_field c a above k u f q = record {
      inners = length-set inner i c ∙ e.inners;
      ats = length-set at i a ∙ e.ats;
      types = types_kept c (field_inside i k ∙ rw u (sym (q (field_named (table_of t) (type_coded above) (name_of (doc_of s rows n) i)) f)));
      fields =
          up_to {P = λ j. (row_in rows n j).kind ≡ kind_field → FieldKept t book es (field_at (table_of t) (doc_of s rows n) j) (get_or (set at i a) j 0)}
          (λ j h z. rw (← kept_before at a j h) (e.fields j h z))
          (λ z. rw (← kept_here at a e.ats, u) f);
    }

-- what is kept of a row of another kind may be anything
module _ {t book es s rows : List ℕ} {n : ℕ} {inner at : List ℕ} (e : EnclosedTo t book es s rows n n inner at) (j x : ℕ) where
  pub enclosed_other_inside : encloses (row_in rows n j).kind ≡ false → EnclosedTo t book es s rows n n (set inner j x) at
  enclosed_other_inside q = record {
    inners = length-set inner j x ∙ e.inners;
    ats = e.ats;
    types = λ i h k. e.types i h k ∙ ap type_coded (sym (get_or-set_other inner j i x 0 (λ z. true≢false (sym k ∙ ap (λ (y : ℕ). encloses (row_in rows n y).kind) z ∙ q))));
    fields = e.fields;
  }

  pub enclosed_other_at : ((row_in rows n j).kind ≡ kind_field → ⊥) → EnclosedTo t book es s rows n n inner (set at j x)
  enclosed_other_at q = record {
    inners = e.inners;
    ats = length-set at j x ∙ e.ats;
    types = e.types;
    fields = λ i h k. rw (get_or-set_other at j i x 0 (λ z. q (ap (λ (y : ℕ). (row_in rows n y).kind) (sym z) ∙ k))) (e.fields i h k);
  }
