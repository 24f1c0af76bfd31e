-- A variable definition's rows: the row behind it is its type reference, and of the rows behind that only the next may stand right below it,
-- and is a value.
use mathlib.Core.Path.{◌≡◌, refl, sym, ap, ◌∙◌, subst}
use mathlib.Core.Bool.{Bool, true, false, ◌&&◌}
use mathlib.Core.List.{List, [], ◌∷◌, ◌++◌, map, Memᴰ, cons≢nil, head-eq_of_cons-eq, tail-eq_of_cons-eq}
use Prim.Native.Nat.{ℕ, zero, suc, ◌+◌, ◌<◌, ◌≤◌}
use native.Mathlib.Decide.{dec_lt, ℕ_discrete}
use native.Mathlib.Omega.{arith}
use lib.Dec.{T, eqb, eqb_refl}
use lib.ListN.{length, get_or-append}
use Rattle.paper.specs.Grammar.{nt, tm, act, Ev, toks, Derives, done, take, note as marks, by}
use Rattle.paper.specs.Numbers.{most_rows, no_parent, kind_variable_definition, kind_type_reference}
use Rattle.paper.specs.Language.{Class, hits, Mark, row, kind, named, wrapper, wrap, end, Part, language}
use Rattle.paper.specs.Tokens.{Tok, Text, Tokens}
use Rattle.paper.specs.Rows.{Row, Book, empty_book, rows_of, change, top, pop, start_of, stop_of, begun, of_kind, with_name, wrapped, stopping, at_mark, taken, book}
use Rattle.paper.specs.Reading.{rows_are, TextAnswer, accepts, tokens_of}
use Rattle.paper.proofs.Bools.{and_l, and_r, and_i}
use Rattle.paper.proofs.Tables.{all_n, num_n, at_n}
use Rattle.paper_theory.proofs.Test.{all, all_at, all_mem, implies, implies_out}
use Rattle.paper_theory.proofs.RowCells.{change_length}
use Rattle.paper_theory.proofs.TokensLaws.{tokens_are}
use Rattle.paper_query.specs.Constructs.{no_row, is_value}
use Rattle.query_rows.specs.Rowed.{row_in, rows_in}
use Rattle.query_rows.proofs.ReadRows.{Taken}
use Rattle.value_texts.proofs.Changes.{at, change_here, change_else}
use Rattle.value_texts.proofs.Phases.{Syms}
use Rattle.value_texts.proofs.Spanning.{Grows, Down, Going, going_by, going_token, going_mark, going_left, going_kind}
use Rattle.value_texts.proofs.TokenSpans.{Lies}
use Rattle.value_texts.proofs.TextSpans.{is_alone, begins_going}
use Rattle.value_texts.proofs.Stages.{Stage, of_token, of_mark, run, is_gone, run_append, run_gone, run_by, opened, typing, typed, ready, given, filled, gone, wrong, deep}
use Rattle.value_texts.proofs.Sitting.{Over, down_out, Kid, Sits, Later, sits_change, step_row, step_kind, step_named, step_wrapper, step_wrap, step_end, step_token}

-- the rows of a definition, in the end
pub record Defined (v : ℕ) (rs : List Row) : Type 0 where
  pub there : v + 1 < length rs
  pub kind_is : (at rs (v + 1)).kind ≡ kind_type_reference
  pub parent_is : (at rs (v + 1)).parent ≡ v
  pub others : (j : ℕ) → v + 1 < j → j < length rs → (at rs j).parent ≡ v → (j ≡ v + 2) × T (is_value (at rs (v + 2)))

gone_is : (φ : Stage) → T (is_gone φ) → φ ≡ gone
gone_is opened t = absurd t
gone_is typing t = absurd t
gone_is typed t = absurd t
gone_is ready t = absurd t
gone_is given t = absurd t
gone_is (deep k) t = absurd t
gone_is filled t = absurd t
gone_is gone t = refl
gone_is wrong t = absurd t

-- wherever a definition gets its kind, what follows is the rest of it
abbrev formed : Syms → Bool
formed [] = true
formed (nt n ∷ ss) = formed ss
formed (tm p ∷ ss) = formed ss
formed (act row ∷ ss) = formed ss
formed (act (kind k x) ∷ ss) = implies (eqb k kind_variable_definition) (is_gone (run ss opened)) && formed ss
formed (act named ∷ ss) = formed ss
formed (act wrapper ∷ ss) = formed ss
formed (act (wrap w) ∷ ss) = formed ss
formed (act end ∷ ss) = formed ss

formed_tested : Part → Bool
formed_tested n = all (λ α. formed α) (language n)

formed_tested_is : T (all formed_tested all_n)
unfolding language formed_tested
formed_tested_is = tt

formed_part : (n : Part) {α : Syms} → Memᴰ α (language n) → T (formed α)
unfolding formed_tested
formed_part n m = all_mem (λ α. formed α) (all_at formed_tested all_n (num_n n) formed_tested_is (at_n n)) m

gone_behind : (α ss : Syms) (φ : Stage) → T (is_gone (run α φ)) → T (is_gone (run (α ++ ss) φ))
gone_behind α ss φ t = rw (run_append α ss φ, gone_is (run α φ) t, run_gone ss) tt

formed_append : (α ss : Syms) → T (formed α) → T (formed ss) → T (formed (α ++ ss))
formed_append [] ss h k = k
formed_append (nt n ∷ α) ss h k = formed_append α ss h k
formed_append (tm p ∷ α) ss h k = formed_append α ss h k
formed_append (act row ∷ α) ss h k = formed_append α ss h k
formed_append (act (kind j x) ∷ α) ss h k =
    and_i (implies (eqb j kind_variable_definition) (is_gone (run (α ++ ss) opened))) (formed (α ++ ss))
    (more (eqb j kind_variable_definition) (and_l (implies (eqb j kind_variable_definition) (is_gone (run α opened))) (formed α) h))
    (formed_append α ss (and_r (implies (eqb j kind_variable_definition) (is_gone (run α opened))) (formed α) h) k)
  where
    more : (c : Bool) → T (implies c (is_gone (run α opened))) → T (implies c (is_gone (run (α ++ ss) opened)))
    more true t = gone_behind α ss opened t
    more false t = tt
formed_append (act named ∷ α) ss h k = formed_append α ss h k
formed_append (act wrapper ∷ α) ss h k = formed_append α ss h k
formed_append (act (wrap w) ∷ α) ss h k = formed_append α ss h k
formed_append (act end ∷ α) ss h k = formed_append α ss h k

kind_change : (f : Row → Row) → ((r : Row) → (f r).kind ≡ r.kind) → (k i : ℕ) (rs : List Row) → (at (change f k rs) i).kind ≡ (at rs i).kind
kind_change f g k i [] = refl
kind_change f g zero zero (r ∷ rs) = g r
kind_change f g zero (suc i) (r ∷ rs) = refl
kind_change f g (suc k) zero (r ∷ rs) = refl
kind_change f g (suc k) (suc i) (r ∷ rs) = kind_change f g k i rs

no_kind : (a p : ℕ) (rs : List Row) (i : ℕ) → length rs ≤ i → (at (rs ++ (begun a p ∷ [])) i).kind ≡ kind_variable_definition → ⊥
no_kind a p [] zero u q = omega arith
no_kind a p [] (suc i) u q = omega arith
no_kind a p (r ∷ rs) zero u q = omega arith
no_kind a p (r ∷ rs) (suc i) u q = no_kind a p rs i (omega arith) q

module _ (l : ℕ) (Good : Tok → Type 0) where
  -- one definition, from its kind to the end of the text
  follow : {ss : Syms} {es : List (Ev Class Mark)} → Derives language hits ss es → (φ : Stage) (ts : List Tok) (b : Book) (v : ℕ) → v < no_parent → T (is_gone (run ss φ)) → toks es ≡ map (λ k. k.class) ts → Going l Good ss ts b
      → (end' : List Row) → (book es ts b).rows ≡ end' → Sits φ v end' b.rows b.open' → Defined v end'
  unfolding book toks
  follow done φ ts b v u t q g end' e h =
      let s : Sits gone v end' b.rows b.open' = subst (λ (ψ : Stage). Sits ψ v end' b.rows b.open') (gone_is φ t) h in
      record { there = s.2.0; kind_is = s.2.1; parent_is = s.2.2; others = subst (λ (rs : List Row). Kid v rs end') e s.3 }
  follow (take x d) φ [] b v u t q g end' e h = absurd (cons≢nil q)
  follow (take {p} {c} {ss} {es} x d) φ (k ∷ ts) b v u t q g end' e h =
      follow d (of_token φ) ts (taken (k ∷ ts) b) v u t (tail-eq_of_cons-eq q) (going_token l Good p ss k ts b (subst (λ (y : Class). T (hits p y)) (head-eq_of_cons-eq q) x) g) end' e
      (step_token ss v u end' b.rows b.open' φ t h)
  follow (by {n} {α} {ss} m d) φ ts b v u t q g end' e h = follow d φ ts b v u (run_by n α ss φ m t) q (going_by l Good n α ss ts b m g) end' e h
  follow (marks {a = row} {ss} d) φ ts b v u t q g end' e h =
      follow d (of_mark row φ) ts (at_mark row ts b) v u t q (going_mark l Good row ss ts b g) end' e (step_row ss v u end' b.rows b.open' (start_of ts) φ t h)
  follow (marks {a = kind j x} {ss} {es} d) φ ts b v u t q g end' e h =
      follow d (of_mark (kind j x) φ) ts (at_mark (kind j x) ts b) v u t q (going_mark l Good (kind j x) ss ts b g) end' e (step_kind ss v u end' b.rows b.open' j x φ t later h)
    where
      left : Grows (at_mark (kind j x) ts b) (book es ts (at_mark (kind j x) ts b))
      left = (going_left l Good d ts (at_mark (kind j x) ts b) q (going_mark l Good (kind j x) ss ts b g)).1

      later : Later ss v u end' b.rows b.open' j x
      later i k n = (
        subst (λ (rs : List Row). i < length rs) e (omega (arith, left.more, k)),
        ap (λ (rs : List Row). (at rs i).kind) (sym e) ∙ left.kinds i k n,
        ap (λ (rs : List Row). (at rs i).parent) (sym e) ∙ left.parents i k,
      )
  follow (marks {a = named} {ss} d) φ ts b v u t q g end' e h =
      follow d (of_mark named φ) ts (at_mark named ts b) v u t q (going_mark l Good named ss ts b g) end' e
      (sits_change (with_name (start_of ts) (stop_of ts)) (λ r. refl) (top b.open') v end' b.rows b.open' (of_mark named φ) (step_named ss v u end' b.rows b.open' φ t h))
  follow (marks {a = wrapper} {ss} d) φ ts b v u t q g end' e h =
      follow d (of_mark wrapper φ) ts b v u t q (going_mark l Good wrapper ss ts b g) end' e (step_wrapper ss v u end' b.rows b.open' φ t h)
  follow (marks {a = wrap w} {ss} d) φ ts b v u t q g end' e h =
      follow d (of_mark (wrap w) φ) ts (at_mark (wrap w) ts b) v u t q (going_mark l Good (wrap w) ss ts b g) end' e
      (sits_change (wrapped w) (λ r. refl) (top b.open') v end' b.rows b.open' (of_mark (wrap w) φ) (step_wrap ss v u end' b.rows b.open' w φ t h))
  follow (marks {a = end} {ss} d) φ ts b v u t q g end' e h =
      follow d (of_mark end φ) ts (at_mark end ts b) v u t q (going_mark l Good end ss ts b g) end' e
      (sits_change (stopping b.stop) (λ r. refl) (top b.open') v end' b.rows (pop b.open') (of_mark end φ) (step_end ss v u end' b.rows b.open' φ t h))

  -- all definitions among the rows
  abbrev AllDefined : List Row → List Row → Type 0
  AllDefined end' rows = (v : ℕ) → (at rows v).kind ≡ kind_variable_definition → Defined v end'

  kept : (f : Row → Row) → ((r : Row) → (f r).kind ≡ r.kind) → (k : ℕ) (end' rows : List Row) → AllDefined end' rows → AllDefined end' (change f k rows)
  kept f g k end' rows h v e = h v (sym (kind_change f g k v rows) ∙ e)

  put : (a p : ℕ) (end' rows : List Row) → AllDefined end' rows → AllDefined end' (rows ++ (begun a p ∷ []))
  put a p end' rows h v e = go (dec_lt v (length rows))
    where
      go : Dec (v < length rows) → Defined v end'
      go (yes w) = h v (sym (ap (λ (r : Row). r.kind) (get_or-append rows (begun a p ∷ []) no_row v w)) ∙ e)
      go (no w) = absurd (no_kind a p rows v (omega arith) e)

  defines : {ss : Syms} {es : List (Ev Class Mark)} → Derives language hits ss es → (ts : List Tok) (b : Book) → T (formed ss) → toks es ≡ map (λ k. k.class) ts → Going l Good ss ts b
      → (end' : List Row) → (book es ts b).rows ≡ end' → length end' ≤ most_rows → AllDefined end' b.rows → AllDefined end' end'
  unfolding book toks
  defines done ts b t q g end' e m h = subst (AllDefined end') e h
  defines (take x d) [] b t q g end' e m h = absurd (cons≢nil q)
  defines (take {p} {c} {ss} {es} x d) (k ∷ ts) b t q g end' e m h =
      defines d ts (taken (k ∷ ts) b) t (tail-eq_of_cons-eq q) (going_token l Good p ss k ts b (subst (λ (y : Class). T (hits p y)) (head-eq_of_cons-eq q) x) g) end' e m h
  defines (by {n} {α} {ss} x d) ts b t q g end' e m h = defines d ts b (formed_append α ss (formed_part n x) t) q (going_by l Good n α ss ts b x g) end' e m h
  defines (marks {a = row} {ss} d) ts b t q g end' e m h = defines d ts (at_mark row ts b) t q (going_mark l Good row ss ts b g) end' e m (put (start_of ts) (top b.open') end' b.rows h)
  defines (marks {a = kind j x} {ss} {es} d) ts b t q g end' e m h =
      defines d ts next (and_r (implies (eqb j kind_variable_definition) (is_gone (run ss opened))) (formed ss) t) q (going_mark l Good (kind j x) ss ts b g) end' e m (λ v z. go v z (ℕ_discrete v (top b.open')))
    where
      next : Book
      next = at_mark (kind j x) ts b

      place : (v : ℕ) × (os : List ℕ) × (b.open' ≡ v ∷ os) × (suc v ≡ length b.rows) × Down v os
      place = going_kind l Good j x ss ts b g

      left : Grows next (book es ts next)
      left = (going_left l Good d ts next q (going_mark l Good (kind j x) ss ts b g)).1

      go : (v : ℕ) → (at next.rows v).kind ≡ kind_variable_definition → Dec (v ≡ top b.open') → Defined v end'
      go v z (no n) = h v (sym (ap (λ (r : Row). r.kind) (change_else (of_kind j x) (top b.open') v b.rows n)) ∙ z)
      go v z (yes y) =
          let o = place.0 in
          let same : top b.open' ≡ o = ap top place.2 in
          let n = place.3 in
          let size = change_length (of_kind j x) (top b.open') b.rows in
          let w : v ≡ o = y ∙ same in
          let is-j : j ≡ kind_variable_definition
          = sym (ap (λ (r : Row). r.kind) (change_here (of_kind j x) (top b.open') b.rows (omega arith))) ∙ ap (λ (i : ℕ). (at next.rows i).kind) (sym y) ∙ z in
          let last : length (book es ts next).rows ≤ most_rows = subst (λ (rs : List Row). length rs ≤ most_rows) (sym e) m in
          follow d opened ts next v (omega (arith, left.more)) (implies_out (eqb j kind_variable_definition) (is_gone (run ss opened)) (and_l (implies (eqb j kind_variable_definition) (is_gone (run ss opened))) (formed ss) t) (subst (λ (i : ℕ). T (eqb j i)) is-j (eqb_refl j)))
          q (going_mark l Good (kind j x) ss ts b g) end' e
          (omega arith, subst (Over v 0) (sym place.2) (sym w, down_out v o place.1 (omega arith) place.4))
  defines (marks {a = named} {ss} d) ts b t q g end' e m h =
      defines d ts (at_mark named ts b) t q (going_mark l Good named ss ts b g) end' e m (kept (with_name (start_of ts) (stop_of ts)) (λ r. refl) (top b.open') end' b.rows h)
  defines (marks {a = wrapper} {ss} d) ts b t q g end' e m h = defines d ts b t q (going_mark l Good wrapper ss ts b g) end' e m h
  defines (marks {a = wrap w} {ss} d) ts b t q g end' e m h =
      defines d ts (at_mark (wrap w) ts b) t q (going_mark l Good (wrap w) ss ts b g) end' e m (kept (wrapped w) (λ r. refl) (top b.open') end' b.rows h)
  defines (marks {a = end} {ss} d) ts b t q g end' e m h =
      defines d ts (at_mark end ts b) t q (going_mark l Good end ss ts b g) end' e m (kept (stopping b.stop) (λ r. refl) (top b.open') end' b.rows h)

said_defined : (p : Part) → T (is_alone p) → (s : List ℕ) (t : Text) (rs : List Row) → Tokens 0 s t → TextAnswer p t (rows_are rs) → length rs ≤ most_rows → (v : ℕ) → (at rs v).kind ≡ kind_variable_definition → Defined v rs
unfolding rows_of
said_defined p a s t rs k (accepts {es = es} w r c) m v e =
    defines (length s) (Lies s) r.0 (tokens_of t) empty_book tt r.1 (begins_going p a s t k) (book es (tokens_of t) empty_book).rows refl m (λ i z. absurd (omega arith)) v e

-- of the rows that the reader leaves: behind a definition stands its type reference, and of what follows only the next row may stand right below it, a value
pub taken_defined : (p : Part) → T (is_alone p) → (s rows : List ℕ) (n : ℕ) → Taken p s rows n → (v : ℕ) → (row_in rows n v).kind ≡ kind_variable_definition → Defined v (rows_in rows n)
taken_defined p a s rows n t v e =
    subst (Defined v) (sym t.are)
    (said_defined p a s _ t.list (tokens_are s) t.said (omega (arith, t.count, t.rowed.few)) v (sym (ap (λ (rs : List Row). (at rs v).kind) t.are) ∙ e))
