-- Type conditions in a document that breaks no rule: each is an object, interface or union, by rule 4, and each fragment definition has one.
use mathlib.Core.Path.{◌≡◌, refl, sym, subst}
use mathlib.Core.Logic.{◌⊎◌, inl, inr}
use mathlib.Core.Bool.{Bool, true, false, true≢false, not, ◌&&◌, ◌||◌, cond}
use mathlib.Core.Option.{Option, none, some}
use Prim.Native.Nat.{ℕ, suc}
use lib.Dec.{T, eqb, leb, eqb→eq, eqb_refl}
use Rattle.paper.specs.Numbers.{kind_fragment, kind_field, kind_inline, kind_variable_definition, kind_type_reference}
use Rattle.paper.specs.Rows.{Row}
use Rattle.paper.proofs.Bools.{and_i, or_cases, or_l, or_r, eq→t as holds}
use Rattle.paper_theory.proofs.Theory.{none≢some}
use Rattle.paper_table.specs.Types.{Table, Meaning, built_in, no_meaning, definition, meaning, meant, definition_by, is_composite}
use Rattle.paper_table.proofs.ListsLaws.{find_some, find_none}
use Rattle.paper_query.specs.Constructs.{Doc, no_row, row_of, parent_of, name_of, spelt, is, is_selection, below}
use Rattle.paper_query.specs.Enclosing.{definition_at, if_composite, composite_of, condition_of}
use Rattle.paper_query.specs.Rule4Condition.{is_fragment, condition_wrong}
use Rattle.paper_query.specs.QueryRules.{Judged, no_break, Broken, condition}
use Rattle.paper_query.specs.declared.QueryAnswer.TheVariants.{Fits}
use Rattle.paper_plan.specs.Selecting.{or_count, type_number, type_on, type_if}
use Rattle.query_conditions.proofs.Cells.{holder}
use Rattle.query_conditions.proofs.BelowRows.{Below}
use Rattle.query_conditions.proofs.RowLists.{right, any_none}

pub not_broken : (t : Table) (d : Doc) → Judged t d Fits → (i k : ℕ) → Broken t d i k → ⊥
not_broken t d (no_break f) = f

-- the number of a name that means an object, interface or union
output_number : (t : Table) (m : Meaning) → T (is_composite (definition_by t m)) → is_composite (definition_at t (or_count t (if_composite t m))) ≡ true
output_number t built_in h = absurd h
output_number t no_meaning h = absurd h
output_number t (definition k) h = go (is_composite (definition_at t k)) refl h
  where
    go : (b : Bool) → is_composite (definition_at t k) ≡ b → T b → is_composite (definition_at t (or_count t (cond b (some k) none))) ≡ true
    go true e u = e
    go false e u = absurd u

module _ (t : Table) (d : Doc) (judged : Judged t d Fits) (rows : Below d.rows) where
  -- row j is a type condition: it is right
  condition_right : (j : ℕ) → T (is kind_type_reference (row_of d j)) → T (is_fragment (row_of d (parent_of d j))) → T (is_composite (meant t (name_of d j)))
  unfolding condition_wrong
  condition_right j r f =
      right (is_composite (meant t (name_of d j)))
      (λ w. not_broken t d judged j _ (condition (and_i (is kind_type_reference (row_of d j)) (is_fragment (row_of d (parent_of d j)) && not (is_composite (meant t (name_of d j)))) r (and_i (is_fragment (row_of d (parent_of d j))) (not (is_composite (meant t (name_of d j)))) f w))))

  -- the condition of row i that was found
  abbrev is_condition : ℕ → Row → Bool
  is_condition i r = cond (is kind_type_reference r) (below i r) false

  cond_left : (a b : Bool) → cond a b false ≡ true → T a
  cond_left true b e = tt
  cond_left false b e = absurd (true≢false (sym e))

  cond_right : (a b : Bool) → cond a b false ≡ true → T b
  cond_right true b e = holds b e
  cond_right false b e = absurd (true≢false (sym e))

  found_right : (i : ℕ) (r : Row) → condition_of d i ≡ some r → ((j : ℕ) → T (is kind_type_reference (row_of d j)) → parent_of d j ≡ i → T (is_fragment (row_of d i))) → is_composite (definition_at t (type_number t (spelt d r))) ≡ true
  unfolding condition_of composite_of
  found_right i r e f =
      let s = find_some (is_condition i) d.rows r no_row e in
      let j = s.0 in
      let q : row_of d j ≡ r = s.2 in
      let k : T (is kind_type_reference (row_of d j)) = subst (λ (x : Row). T (is kind_type_reference x)) (sym q) (cond_left (is kind_type_reference r) (below i r) s.3) in
      let p : parent_of d j ≡ i = eqb→eq (parent_of d j) i (subst (λ (x : Row). T (below i x)) (sym q) (cond_right (is kind_type_reference r) (below i r) s.3)) in
      output_number t (meaning t (spelt d r)) (subst (λ (x : Row). T (is_composite (meant t (spelt d x)))) q (condition_right j k (subst (λ (x : ℕ). T (is_fragment (row_of d x))) (sym p) (f j k p))))

  some_there : (f : ℕ) → T (is kind_fragment (row_of d f)) → condition_of d f ≡ none → ⊥
  unfolding condition_of
  some_there f k n =
      let c = rows.fragments f (eqb→eq (row_of d f).kind kind_fragment k) in
      any_none (is_condition f) refl d.rows (find_none (is_condition f) d.rows n) (suc f) (two (row_of d (suc f)).kind (parent_of d (suc f)) c.0 c.1)
    where
      two : (j p : ℕ) → j ≡ kind_type_reference → p ≡ f → T (cond (eqb j kind_type_reference) (eqb p f) false)
      two j p e q = subst (λ (x : ℕ). T (cond (eqb x kind_type_reference) (eqb p f) false)) (sym e) (subst (λ (x : ℕ). T (eqb x f)) (sym q) (eqb_refl f))

  pub on_right : (f : ℕ) → is kind_fragment (row_of d f) ≡ true → is_composite (definition_at t (type_on t d (condition_of d f))) ≡ true
  on_right f e = go (condition_of d f) refl
    where
      fragment : T (is kind_fragment (row_of d f))
      fragment = holds (is kind_fragment (row_of d f)) e

      go : (o : Option Row) → condition_of d f ≡ o → is_composite (definition_at t (type_on t d o)) ≡ true
      go none n = absurd (some_there f fragment n)
      go (some r) s = found_right f r s (λ j k p. or_l (is kind_fragment (row_of d f)) (is kind_inline (row_of d f)) fragment)

  pub inline_right : (i k : ℕ) → type_if t d (condition_of d i) ≡ some k → is_selection (row_of d i) ≡ true → is_composite (definition_at t k) ≡ true
  inline_right i k e s = go (condition_of d i) refl e
    where
      -- of the rows that hold type references only inline fragments are selections
      selected : (n : ℕ) → T (holder n) → T (leb kind_field n && leb n kind_inline) → T (eqb n kind_fragment || eqb n kind_inline)
      selected n h l = pick (or_cases (eqb n kind_fragment) (eqb n kind_inline || eqb n kind_variable_definition) h)
        where
          last : T (eqb n kind_inline) ⊎ T (eqb n kind_variable_definition) → T (eqb n kind_fragment || eqb n kind_inline)
          last (inl x) = or_r (eqb n kind_fragment) (eqb n kind_inline) x
          last (inr x) = absurd (subst (λ (m : ℕ). T (leb kind_field m && leb m kind_inline)) (eqb→eq n kind_variable_definition x) l)

          pick : T (eqb n kind_fragment) ⊎ T (eqb n kind_inline || eqb n kind_variable_definition) → T (eqb n kind_fragment || eqb n kind_inline)
          pick (inl x) = or_l (eqb n kind_fragment) (eqb n kind_inline) x
          pick (inr x) = last (or_cases (eqb n kind_inline) (eqb n kind_variable_definition) x)

      held : (j : ℕ) → T (is kind_type_reference (row_of d j)) → parent_of d j ≡ i → T (is_fragment (row_of d i))
      held j k p =
          selected (row_of d i).kind
          (subst (λ (x : ℕ). T (holder (row_of d x).kind)) p (rows.references j (eqb→eq (row_of d j).kind kind_type_reference k)))
          (holds (is_selection (row_of d i)) s)

      go : (o : Option Row) → condition_of d i ≡ o → type_if t d o ≡ some k → is_composite (definition_at t k) ≡ true
      go none n e = absurd (none≢some e)
      go (some r) n e = let z : type_number t (spelt d r) ≡ k = cc in subst (λ (x : ℕ). is_composite (definition_at t x) ≡ true) z (found_right i r n held)
