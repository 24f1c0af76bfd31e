-- The wrappers of type references: in a derivation each wrapper is marked before its token and written behind it, so that a row's extra
-- is that of a type with as many wrappers as are counted; and of a text without a fault no more than seven are.
use mathlib.Core.Path.{◌≡◌, refl, sym, ap, ◌∙◌, subst}
use mathlib.Core.Bool.{Bool, true, false, ◌||◌, cond}
use mathlib.Core.List.{List, [], ◌∷◌, ◌++◌}
use Prim.Native.Nat.{ℕ, zero, suc, ◌+◌, ◌*◌, ◌<◌, ◌≤◌}
use native.Mathlib.Decide.{dec_lt, ℕ_discrete}
use native.Mathlib.Omega.{arith}
use lib.Dec.{T, eqb, leb, ltb, eqb→eq, leb→le, lt→ltb}
use lib.ListN.{length, drop, take-append-drop, get_or-eq_default}
use Rattle.paper.specs.Grammar.{nt, Ev, tok, mark, toks, Derives, done, take, note as marks, by}
use Rattle.paper.specs.Numbers.{most_fragments, most_variables, most_wrappers, kind_variable_definition, kind_type_reference, wrap_list, wrap_non_null}
use Rattle.paper.specs.Language.{Class, Terminal, hits, Mark, row, kind, named, wrapper, wrap, end, Part, language}
use Rattle.paper.specs.Tokens.{Tok, Text}
use Rattle.paper.specs.Rows.{Row, Book, empty_book, rows_of, change, top, pop, start_of, stop_of, begun, of_kind, with_name, wrapped, stopping, at_mark, taken, rest, book}
use Rattle.paper.specs.Sizes.{Counts, Sums, nothing_counted, counted, sums, through, over_counts}
use Rattle.paper.specs.Reading.{rows_are, TextAnswer, accepts, tokens_of, classes_of, place_of, too_many}
use Rattle.paper.specs.declared.Refusal.TheVariants.{TooMany}
use Rattle.paper.proofs.Bools.{or_r}
use Rattle.paper_table.specs.References.{Ref, named as ref-named, list_of, non_null}
use Rattle.paper_query.specs.Constructs.{no_row}
use Rattle.paper_query.specs.PlaceTypes.{wrappers_of}
use Rattle.paper_values.proofs.RowValuesLaws.{depth}
use Rattle.query_rows.specs.Rowed.{row_in}
use Rattle.query_rows.proofs.ReadRows.{Taken}
use Rattle.value_texts.proofs.Changes.{at, change_here, change_else, change_out}
use Rattle.value_texts.proofs.Phases.{Syms}
use Rattle.value_texts.proofs.Turns.{Turn, of_token, of_kind_mark, of_mark, run, is_done, not_wrong, run_by, outside, wrong, inside, due}

-- the extra of a type with so many wrappers at most
abbrev pub Packs : ℕ → ℕ → Type 0
Packs d e = (r : Ref) × (depth r ≤ d) × (wrappers_of r ≡ e)

packs_none : (d : ℕ) → Packs d 0
unfolding wrappers_of
packs_none d = (ref-named [], omega arith, refl)

packs_small : (x : ℕ) → x ≤ 2 → Packs most_wrappers x
unfolding wrappers_of
packs_small zero h = packs_none most_wrappers
packs_small (suc zero) h = (list_of (ref-named []), omega arith, refl)
packs_small (suc (suc zero)) h = (non_null (ref-named []), omega arith, refl)
packs_small (suc (suc (suc x))) h = absurd (omega arith)

packs_more : (d e w : ℕ) → T (eqb w wrap_list || eqb w wrap_non_null) → Packs d e → Packs (suc d) (e * 4 + w)
unfolding wrappers_of
packs_more d e w t p = go (eqb w wrap_list) (eqb w wrap_non_null) refl refl t
  where
    go : (a b : Bool) → eqb w wrap_list ≡ a → eqb w wrap_non_null ≡ b → T (a || b) → Packs (suc d) (e * 4 + w)
    go true b f g t = let q = eqb→eq w wrap_list (subst T (sym f) tt) in (list_of p.0, omega (arith, p.1), omega (arith, p.2))
    go false true f g t = let q = eqb→eq w wrap_non_null (subst T (sym g) tt) in (non_null p.0, omega (arith, p.1), omega (arith, p.2))
    go false false f g t = absurd t

packs_less : {d c e : ℕ} → d ≤ c → Packs d e → Packs c e
packs_less h p = (p.0, omega (arith, p.1), p.2)

-- what is known of the wrappers counted and of the innermost open row's extra
abbrev Turned : Turn → ℕ → ℕ → Type 0
Turned outside c e = c ≤ most_wrappers
Turned wrong c e = ⊥
Turned (inside k) c e = (c ≤ most_wrappers) × ((d : ℕ) × (d + k ≤ c) × Packs d e)
Turned (due k) c e = (d : ℕ) × (d + k ≤ c) × Packs d e

record Wraps (φ : Turn) (rows : List Row) (os : List ℕ) (c : ℕ) : Type 0 where
  each : (i : ℕ) → Packs most_wrappers (at rows i).extra
  now : Turned φ c (at rows (top os)).extra

-- no count is over at a token
abbrev Within : List (Ev Class Mark) → Sums → Type 0
Within es m = (k : ℕ) → k < length (toks es) → T (over_counts (sums (through (suc k) es) m).counts) → ⊥

few_wrappers : (q : Counts) → (T (over_counts q) → ⊥) → q.wrappers ≤ most_wrappers
few_wrappers q h = go (dec_lt most_wrappers q.wrappers)
  where
    go : Dec (most_wrappers < q.wrappers) → q.wrappers ≤ most_wrappers
    go (yes l) =
        absurd (h (or_r (ltb most_fragments q.fragments) (ltb most_variables q.variables || ltb most_wrappers q.wrappers)
        (or_r (ltb most_variables q.variables) (ltb most_wrappers q.wrappers) (lt→ltb most_wrappers q.wrappers l))))
    go (no l) = omega arith

-- rows changed in what is not their extra
extra_change : (f : Row → Row) → ((r : Row) → (f r).extra ≡ r.extra) → (k i : ℕ) (rs : List Row) → (at (change f k rs) i).extra ≡ (at rs i).extra
extra_change f g k i [] = refl
extra_change f g zero zero (r ∷ rs) = g r
extra_change f g zero (suc i) (r ∷ rs) = refl
extra_change f g (suc k) zero (r ∷ rs) = refl
extra_change f g (suc k) (suc i) (r ∷ rs) = extra_change f g k i rs

extras_kept : (f : Row → Row) → ((r : Row) → (f r).extra ≡ r.extra) → (k : ℕ) (rs : List Row) → ((i : ℕ) → Packs most_wrappers (at rs i).extra) → (i : ℕ) → Packs most_wrappers (at (change f k rs) i).extra
extras_kept f g k rs h i = subst (Packs most_wrappers) (sym (extra_change f g k i rs)) (h i)

-- the extra of the changed row, or of none
extra_set : (f : Row → Row) (k : ℕ) (rs : List Row) (P : ℕ → Type 0) → P 0 → P (f (at rs k)).extra → P (at (change f k rs) k).extra
extra_set f k rs P z h = go (dec_lt k (length rs))
  where
    go : Dec (k < length rs) → P (at (change f k rs) k).extra
    go (yes l) = subst (λ (r : Row). P r.extra) (sym (change_here f k rs l)) h
    go (no l) =
        subst (λ (qs : List Row). P (at qs k).extra) (sym (change_out f k rs (omega arith)))
        (subst (λ (r : Row). P r.extra) (sym (get_or-eq_default rs no_row (omega arith))) z)

extras_set : (f : Row → Row) (k : ℕ) (rs : List Row) → Packs most_wrappers (f (at rs k)).extra → ((i : ℕ) → Packs most_wrappers (at rs i).extra) → (i : ℕ) → Packs most_wrappers (at (change f k rs) i).extra
extras_set f k rs p h i = go (ℕ_discrete i k)
  where
    go : Dec (i ≡ k) → Packs most_wrappers (at (change f k rs) i).extra
    go (yes e) = rw e (extra_set f k rs (Packs most_wrappers) (packs_none most_wrappers) p)
    go (no n) = subst (λ (r : Row). Packs most_wrappers r.extra) (sym (change_else f k i rs n)) (h i)

extras_row : (a p : ℕ) (rs : List Row) → ((i : ℕ) → Packs most_wrappers (at rs i).extra) → (i : ℕ) → Packs most_wrappers (at (rs ++ (begun a p ∷ [])) i).extra
extras_row a p [] h zero = packs_none most_wrappers
extras_row a p [] h (suc i) = packs_none most_wrappers
extras_row a p (r ∷ rs) h zero = h 0
extras_row a p (r ∷ rs) h (suc i) = extras_row a p rs (λ j. h (suc j)) i

module _ (ss : Syms) (rows : List Row) (os : List ℕ) (c : ℕ) where
  step_row : (a p : ℕ) (φ : Turn) → T (is_done (run ss (of_mark row φ))) → Wraps φ rows os c → Wraps (of_mark row φ) (rows ++ (begun a p ∷ [])) (length rows ∷ os) c
  step_row a p outside t h = record { each = extras_row a p rows h.each; now = h.now }
  step_row a p wrong t h = absurd h.now
  step_row a p (inside zero) t h = record { each = extras_row a p rows h.each; now = h.now.0 }
  step_row a p (inside (suc k)) t h = absurd (not_wrong ss t)
  step_row a p (due k) t h = absurd (not_wrong ss t)

  kinds : (j x : ℕ) → T (is_done (run ss (of_kind_mark j x))) → ((i : ℕ) → Packs most_wrappers (at rows i).extra) → c ≤ most_wrappers → Wraps (of_kind_mark j x) (change (of_kind j x) (top os) rows) os (cond (eqb j kind_variable_definition) 0 c)
  kinds j x t h l = go (eqb j kind_type_reference) (eqb x 0) (leb x 2) refl refl t
    where
      less : (b : Bool) → cond b 0 c ≤ most_wrappers
      less true = omega arith
      less false = l

      go : (a b d : Bool) → eqb x 0 ≡ b → leb x 2 ≡ d → T (is_done (run ss (cond a (cond b (inside 0) wrong) (cond d outside wrong)))) →
          Wraps (cond a (cond b (inside 0) wrong) (cond d outside wrong)) (change (of_kind j x) (top os) rows) os (cond (eqb j kind_variable_definition) 0 c)
      go true true d e f t =
          let z = eqb→eq x 0 (subst T (sym e) tt) in
          record {
            each = extras_set (of_kind j x) (top os) rows (packs_small x (omega arith)) h;
            now = (less (eqb j kind_variable_definition), (0, omega arith, extra_set (of_kind j x) (top os) rows (Packs 0) (packs_none 0) (subst (Packs 0) (sym z) (packs_none 0))));
          }
      go true false d e f t = absurd (not_wrong ss t)
      go false b true e f t = record { each = extras_set (of_kind j x) (top os) rows (packs_small x (leb→le x 2 (subst T (sym f) tt))) h; now = less (eqb j kind_variable_definition) }
      go false b false e f t = absurd (not_wrong ss t)

  step_kind : (j x : ℕ) (φ : Turn) → T (is_done (run ss (of_mark (kind j x) φ))) → Wraps φ rows os c → Wraps (of_mark (kind j x) φ) (change (of_kind j x) (top os) rows) os (cond (eqb j kind_variable_definition) 0 c)
  step_kind j x outside t h = kinds j x t h.each h.now
  step_kind j x wrong t h = absurd h.now
  step_kind j x (inside zero) t h = kinds j x t h.each h.now.0
  step_kind j x (inside (suc k)) t h = absurd (not_wrong ss t)
  step_kind j x (due k) t h = absurd (not_wrong ss t)

  step_named : (a e : ℕ) (φ : Turn) → T (is_done (run ss (of_mark named φ))) → Wraps φ rows os c → Wraps (of_mark named φ) (change (with_name a e) (top os) rows) os c
  step_named a e outside t h = record { each = extras_kept (with_name a e) (λ r. refl) (top os) rows h.each; now = h.now }
  step_named a e wrong t h = absurd h.now
  step_named a e (inside k) t h = record {
    each = extras_kept (with_name a e) (λ r. refl) (top os) rows h.each;
    now = (h.now.0, (h.now.1.0, h.now.1.1, subst (Packs h.now.1.0) (sym (extra_change (with_name a e) (λ r. refl) (top os) (top os) rows)) h.now.1.2));
  }
  step_named a e (due k) t h = absurd (not_wrong ss t)

  step_wrapper : (φ : Turn) → T (is_done (run ss (of_mark wrapper φ))) → Wraps φ rows os c → Wraps (of_mark wrapper φ) rows os (c + 1)
  step_wrapper outside t h = absurd (not_wrong ss t)
  step_wrapper wrong t h = absurd h.now
  step_wrapper (inside k) t h = record { each = h.each; now = (h.now.1.0, omega (arith, h.now.1.1), h.now.1.2) }
  step_wrapper (due k) t h = absurd (not_wrong ss t)

  step_wrap : (w : ℕ) (φ : Turn) → T (is_done (run ss (of_mark (wrap w) φ))) → Wraps φ rows os c → Wraps (of_mark (wrap w) φ) (change (wrapped w) (top os) rows) os c
  step_wrap w outside t h = absurd (not_wrong ss t)
  step_wrap w wrong t h = absurd h.now
  step_wrap w (inside zero) t h = absurd (not_wrong ss t)
  step_wrap w (inside (suc k)) t h = go (eqb w wrap_list || eqb w wrap_non_null) refl t
    where
      d : ℕ
      d = h.now.1.0

      go : (b : Bool) → (eqb w wrap_list || eqb w wrap_non_null) ≡ b → T (is_done (run ss (cond b (inside k) wrong))) → Wraps (cond b (inside k) wrong) (change (wrapped w) (top os) rows) os c
      go true e t =
          let p : Packs (suc d) ((at rows (top os)).extra * 4 + w) = packs_more d (at rows (top os)).extra w (subst T (sym e) tt) h.now.1.2 in
          record {
            each = extras_set (wrapped w) (top os) rows (packs_less (omega (arith, h.now.0, h.now.1.1)) p) h.each;
            now = (h.now.0, (suc d, omega (arith, h.now.1.1), extra_set (wrapped w) (top os) rows (Packs (suc d)) (packs_none (suc d)) p));
          }
      go false e t = absurd (not_wrong ss t)
  step_wrap w (due k) t h = absurd (not_wrong ss t)

  step_end : (e : ℕ) (φ : Turn) → T (is_done (run ss (of_mark end φ))) → Wraps φ rows os c → Wraps (of_mark end φ) (change (stopping e) (top os) rows) (pop os) c
  step_end e outside t h = record { each = extras_kept (stopping e) (λ r. refl) (top os) rows h.each; now = h.now }
  step_end e wrong t h = absurd h.now
  step_end e (inside zero) t h = record { each = extras_kept (stopping e) (λ r. refl) (top os) rows h.each; now = h.now.0 }
  step_end e (inside (suc k)) t h = absurd (not_wrong ss t)
  step_end e (due k) t h = absurd (not_wrong ss t)

  step_token : (p : Terminal) (φ : Turn) → c ≤ most_wrappers → Wraps φ rows os c → Wraps (of_token p φ) rows os c
  step_token p outside l h = h
  step_token p wrong l h = absurd h.now
  step_token p (inside k) l h = h
  step_token p (due k) l h = record { each = h.each; now = (l, h.now) }

-- the whole text
wraps : {ss : Syms} {es : List (Ev Class Mark)} → Derives language hits ss es → (φ : Turn) (ts : List Tok) (b : Book) (m : Sums) → T (is_done (run ss φ)) → Within es m → Wraps φ b.rows b.open' m.counts.wrappers →
    (i : ℕ) → Packs most_wrappers (at (book es ts b).rows i).extra
unfolding book toks sums through
wraps done φ ts b m t u h = h.each
wraps (take {p} {c} {ss} {es} x v) φ ts b m t u h =
    wraps v (of_token p φ) (rest ts) (taken ts b) (counted (tok c) m) t (λ k l. u (suc k) (omega arith)) (takes ts)
  where
    low : m.counts.wrappers ≤ most_wrappers
    low = few_wrappers m.counts (u 0 (omega arith))

    takes : (ts : List Tok) → Wraps (of_token p φ) (taken ts b).rows (taken ts b).open' m.counts.wrappers
    takes [] = step_token ss b.rows b.open' m.counts.wrappers p φ low h
    takes (k ∷ ts) = step_token ss b.rows b.open' m.counts.wrappers p φ low h
wraps (by {n} {α} {ss} {es} x v) φ ts b m t u h = wraps v φ ts b m (run_by n α ss φ x t) u h
wraps (marks {a = row} {ss} {es} v) φ ts b m t u h =
    wraps v (of_mark row φ) ts (at_mark row ts b) (counted (mark row) m) t (λ k l. u k l) (step_row ss b.rows b.open' m.counts.wrappers (start_of ts) (top b.open') φ t h)
wraps (marks {a = kind j x} {ss} {es} v) φ ts b m t u h =
    wraps v (of_mark (kind j x) φ) ts (at_mark (kind j x) ts b) (counted (mark (kind j x)) m) t (λ k l. u k l) (step_kind ss b.rows b.open' m.counts.wrappers j x φ t h)
wraps (marks {a = named} {ss} {es} v) φ ts b m t u h =
    wraps v (of_mark named φ) ts (at_mark named ts b) m t (λ k l. u k l) (step_named ss b.rows b.open' m.counts.wrappers (start_of ts) (stop_of ts) φ t h)
wraps (marks {a = wrapper} {ss} {es} v) φ ts b m t u h =
    wraps v (of_mark wrapper φ) ts b (counted (mark wrapper) m) t (λ k l. u k l) (step_wrapper ss b.rows b.open' m.counts.wrappers φ t h)
wraps (marks {a = wrap w} {ss} {es} v) φ ts b m t u h =
    wraps v (of_mark (wrap w) φ) ts (at_mark (wrap w) ts b) m t (λ k l. u k l) (step_wrap ss b.rows b.open' m.counts.wrappers w φ t h)
wraps (marks {a = end} {ss} {es} v) φ ts b m t u h =
    wraps v (of_mark end φ) ts (at_mark end ts b) m t (λ k l. u k l) (step_end ss b.rows b.open' m.counts.wrappers b.stop φ t h)

abbrev pub is_outside : Part → Bool
is_outside p = is_done (run (nt p ∷ []) outside)

-- so for each row of a text, of a part that is none of a type reference
said_packs : (p : Part) → T (is_outside p) → (t : Text) (rs : List Row) → TextAnswer p t (rows_are rs) → (i : ℕ) → Packs most_wrappers (at rs i).extra
unfolding rows_of
said_packs p o t rs (accepts {es = es} w r c) =
    wraps r.0 outside (tokens_of t) empty_book nothing_counted o within (record { each = λ i. packs_none most_wrappers; now = omega arith })
  where
    within : Within es nothing_counted
    within k l v =
        c (TooMany (place_of k t))
        (too_many k
        (record {
          inside = omega (arith, ap length r.1);
          later = drop (suc k) (classes_of t);
          events = es;
          reads = (r.0, r.1 ∙ sym (take-append-drop (suc k) (classes_of t)));
          are = refl;
        })
        v)

-- the extra of each row is that of a type with at most seven wrappers
pub taken_packs : (p : Part) → T (is_outside p) → (s rows : List ℕ) (n : ℕ) → Taken p s rows n → (i : ℕ) → Packs most_wrappers (row_in rows n i).extra
taken_packs p o s rows n t i = subst (λ (rs : List Row). Packs most_wrappers (at rs i).extra) (sym t.are) (said_packs p o _ t.list t.said i)
