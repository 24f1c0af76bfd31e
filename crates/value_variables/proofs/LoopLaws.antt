-- The variables one after the other, in definition order.
use mathlib.Core.Path.{◌≡◌, refl, sym, ap, ◌∙◌, subst}
use mathlib.Core.Bool.{Bool, true, false, cond}
use mathlib.Core.Option.{Option, none, some}
use mathlib.Core.List.{List, [], ◌∷◌, ◌++◌, map}
use Prim.Native.Nat.{ℕ, suc, ◌+◌, ◌-◌, ◌*◌, ◌≤◌, ◌<◌}
use native.Mathlib.Omega.{arith}
use lib.ListN.{length}
use Rattle.paper.specs.Numbers.{row_size, most_variables, kind_object_field, input_document, input_variables}
use Rattle.paper_table.specs.References.{Ref, is_non_null}
use Rattle.paper_query.specs.Constructs.{Doc, count}
use Rattle.query_rows.specs.Rowed.{row_in, doc_of}
use Rattle.query_rows.proofs.RowsIn.{rows_count}
use Rattle.paper_values.specs.ValueNumbers.{reason_missing, reason_repeated}
use Rattle.paper_values.specs.Values.{At, Value, Due, Tree, Pairs, no_pairs, Out, Got, No, and_then}
use Rattle.paper_values.specs.Computed.{Given, unless, pair_first, due_field, or_default, entry_of, constant, variables_from, variables_of}
use Rattle.paper_values.specs.Coercion.{heads, repeated_entry}
use Rattle.paper_values.specs.Encoding.{encode_pairs}
use Rattle.paper_values.specs.RowValues.{placed, value_of_row, entries_from}
use Rattle.paper_values.specs.DocumentDues.{definitions_of, due_variable, variable_dues, given_in}
use Rattle.value_writing.specs.Writing.{Put, Room}
use Rattle.value_writing.proofs.PlaceLaws.{put_as, put_then, room_after}
use Rattle.value_writing.proofs.EncodedLaws.{no_pairs_put}
use Rattle.value_entries.specs.Entered.{Marks}
use Rattle.value_held.specs.Given.{kinds_in}
use Rattle.value_held.specs.Holding.{Holds}
use Rattle.value_coerce.proofs.ObjectLaws.{join_pairs, join_nothing, join_more, encode_join, and_got}
use Rattle.std.proofs.Common.{Result, Ok, Err}
use Rattle.value_variables.specs.Variables.{written, refused, is_definition, Same, Grows, givens_in, only_of, only_at, Told, definitions_from}
use Rattle.value_variables.specs.declared.WrittenPairs.{WrittenPairs}
use Rattle.value_variables.specs.declared.RefusedAt.{RefusedAt}
use Rattle.value_variables.proofs.DefinitionLaws.{from_first, from_more, from_other, from_end}
use Rattle.value_variables.proofs.KeptLaws.{holds_same, holds_join}

-- ---- the first variable, and the others

only_first : (t : List ℕ) (gs : List Given) (v : At × Due) (vs : List (At × Due)) →
    variables_from (kinds_in t) gs (v ∷ vs) ≡ and_then (only_of t gs v) (λ (ps : Pairs). and_then (variables_from (kinds_in t) gs vs) (λ (qs : Pairs). Got (join_pairs ps qs)))
only_first t gs v vs = go (entry_of v.1.name gs) v.1.default (variables_from (kinds_in t) gs vs)
  where
    lacks : (b : Bool) (rest : Out Pairs) → cond b (No v.0 reason_missing) rest ≡ and_then (cond b (No v.0 reason_missing) (Got no_pairs)) (λ (ps : Pairs). and_then rest (λ (qs : Pairs). Got (join_pairs ps qs)))
    lacks true rest = refl
    lacks false rest = sym (and_got rest)

    has : (o : Out Tree) (rest : Out Pairs) → pair_first v.1.name o rest ≡ and_then (pair_first v.1.name o (Got no_pairs)) (λ (ps : Pairs). and_then rest (λ (qs : Pairs). Got (join_pairs ps qs)))
    has (Got x) rest = refl
    has (No j w) rest = refl

    go : (o : Option (Ref → Out Tree)) (e : Option Value) (rest : Out Pairs) → due_field (or_default (kinds_in t) v.0 v.1 e rest) v.1 o rest ≡
        and_then (due_field (or_default (kinds_in t) v.0 v.1 e (Got no_pairs)) v.1 o (Got no_pairs)) (λ (ps : Pairs). and_then rest (λ (qs : Pairs). Got (join_pairs ps qs)))
    go none none rest = lacks (is_non_null v.1.type) rest
    go none (some w) rest = has (constant (kinds_in t) w v.1.type) rest
    go (some f) e rest = has (f v.1.type) rest

-- ---- what an answer says

module _ (t book s rows : List ℕ) (n : ℕ) (s1 rows1 : List ℕ) (n1 limit many from : ℕ) (p p' held' : List ℕ) (r : Result WrittenPairs RefusedAt) where
  pub told_done : (o : Out Pairs) (x : WrittenPairs) → Told t book s rows n s1 rows1 n1 limit o many from p p' held' r → r ≡ Ok x →
      (ps : Pairs) × (o ≡ Got ps) × Put limit (encode_pairs ps) from p p' x.at × Holds t book s rows n s1 rows1 n1 held' many x.many ps
  told_done (Got ps) x g u =
      let y : ◌≡◌ {A = Result WrittenPairs RefusedAt} (written g.0 g.1) (Ok x) = sym g.2 ∙ u in
      let z : record { at = g.0; many = g.1 } ≡ x = cc in
      (ps, refl, subst (λ (w : WrittenPairs). Put limit (encode_pairs ps) from p p' w.at) z g.3, subst (λ (w : WrittenPairs). Holds t book s rows n s1 rows1 n1 held' many w.many ps) z g.4)
  told_done (No i w) x g u = absurd (never g)
    where
      never : r ≡ refused i.text i.row w → ⊥
      never q = let z : ◌≡◌ {A = ℕ} 0 1 = cc in omega arith

  pub told_refused : (o : Out Pairs) (f : RefusedAt) → Told t book s rows n s1 rows1 n1 limit o many from p p' held' r → r ≡ Err f → (i : At) × (w : ℕ) × (o ≡ No i w) × (r ≡ refused i.text i.row w)
  told_refused (Got ps) f g u = absurd (never g.0 g.1 g.2)
    where
      never : (x y : ℕ) → r ≡ written x y → ⊥
      never x y q = let z : ◌≡◌ {A = ℕ} 0 1 = cc in omega arith
  told_refused (No i w) f g u = (i, w, refl, g)

-- ---- the loop

module _ (t book s rows : List ℕ) (n : ℕ) (s1 rows1 : List ℕ) (n1 limit from op : ℕ) (p₀ : List ℕ) where
  abbrev d : Doc
  d = doc_of s rows n

  abbrev d1 : Doc
  d1 = doc_of s1 rows1 n1

  abbrev due : ℕ → At × Due
  due v = (placed input_document d v, due_variable d v)

  abbrev behind : List ℕ → Out Pairs
  behind vs = variables_from (kinds_in t) (givens_in t d1) (map due vs)

  abbrev pub whole : Out Pairs
  whole = variables_from (kinds_in t) (givens_in t d1) (variable_dues d op)

  -- before row v: the pairs of the definitions before it are written, and their values kept
  pub record Going (held out : List ℕ) (at many v : ℕ) : Type 0 where
    pub done : Pairs
    pub put : Put limit (encode_pairs done) from p₀ out at
    pub holds : Holds t book s rows n s1 rows1 n1 held 0 many done
    pub rest : whole ≡ and_then (behind (definitions_from d op v)) (λ (ps : Pairs). Got (join_pairs done ps))
    pub few : many + length (definitions_from d op v) ≤ most_variables
    pub size : length held ≡ row_size * most_variables
    pub room : Room limit at out

  pub going_start : (held : List ℕ) → Room limit from p₀ → length held ≡ row_size * most_variables → length (definitions_of d op) ≤ most_variables → Going held p₀ from 0 0
  going_start held r l f = record {
    done = no_pairs;
    put = no_pairs_put limit from p₀ r.place;
    holds = refl;
    rest = sym (and_got whole) ∙ ap (λ (vs : List ℕ). and_then (behind vs) (λ (ps : Pairs). Got ps)) (sym (from_first d op));
    few = subst (λ (vs : List ℕ). 0 + length vs ≤ most_variables) (sym (from_first d op)) (omega (arith, f));
    size = l;
    room = r;
  }

  module _ (held out : List ℕ) (at many v : ℕ) (g : Going held out at many v) (h : v < n) where
    there : v < count d
    there = subst (λ (k : ℕ). v < k) (sym (rows_count rows n)) h

    pub going_on : is_definition op (row_in rows n v) ≡ false → Going held out at many (v + 1)
    going_on q = record {
      done = g.done;
      put = g.put;
      holds = g.holds;
      rest = g.rest ∙ ap (λ (vs : List ℕ). and_then (behind vs) (λ (ps : Pairs). Got (join_pairs g.done ps))) (from_other d op v there q);
      few = subst (λ (vs : List ℕ). many + length vs ≤ most_variables) (from_other d op v there q) g.few;
      size = g.size;
      room = g.room;
    }

    module _ (q : is_definition op (row_in rows n v) ≡ true) where
      counted : many + suc (length (definitions_from d op (v + 1))) ≤ most_variables
      counted = subst (λ (vs : List ℕ). many + length vs ≤ most_variables) (from_more d op v there q) g.few

      pub going_many : many < most_variables
      going_many = omega (arith, counted)

      pub going_held : row_size * (many + 1) ≤ length held
      going_held = omega (arith, counted, g.size)

      turned : (o : Out Pairs) → only_at t d d1 v ≡ o →
          whole ≡ and_then (and_then o (λ (ps : Pairs). and_then (behind (definitions_from d op (v + 1))) (λ (qs : Pairs). Got (join_pairs ps qs)))) (λ (ps : Pairs). Got (join_pairs g.done ps))
      turned o e =
          g.rest ∙ ap (λ (vs : List ℕ). and_then (behind vs) (λ (ps : Pairs). Got (join_pairs g.done ps))) (from_more d op v there q)
          ∙ ap (λ (y : Out Pairs). and_then y (λ (ps : Pairs). Got (join_pairs g.done ps)))
          (only_first t (givens_in t d1) (due v) (map due (definitions_from d op (v + 1))) ∙ ap (λ (y : Out Pairs). and_then y (λ (ps : Pairs). and_then (behind (definitions_from d op (v + 1))) (λ (qs : Pairs). Got (join_pairs ps qs)))) e)

      module _ (held' out' : List ℕ) (r : Result WrittenPairs RefusedAt) (a : Told t book s rows n s1 rows1 n1 limit (only_at t d d1 v) many at out out' held' r) (w : Same many held held') where
        pub going_step : (x : WrittenPairs) → Grows many r → r ≡ Ok x → length out' ≡ length out → Going held' out' x.at x.many (v + 1)
        going_step x k u l =
            let z = told_done t book s rows n s1 rows1 n1 limit many at out out' held' r (only_at t d d1 v) x a u in
            let more : x.many ≤ many + 1 = subst (Grows many) u k in
            record {
              done = join_pairs g.done z.0;
              put = put_as limit (encode_pairs g.done ++ encode_pairs z.0) (encode_pairs (join_pairs g.done z.0)) from p₀ out' x.at (sym (encode_join g.done z.0))
                  (put_then limit (encode_pairs g.done) (encode_pairs z.0) from at x.at p₀ out out' g.put z.2);
              holds = holds_join t book s rows n s1 rows1 n1 held' 0 many x.many g.done z.0 (holds_same t book s rows n s1 rows1 n1 held held' many w 0 g.done g.holds (omega arith)) z.3;
              rest = turned (Got z.0) z.1 ∙ join_more g.done z.0 (behind (definitions_from d op (v + 1)));
              few = omega (arith, counted, more);
              size = w.size ∙ g.size;
              room = room_after limit (encode_pairs z.0) at out out' x.at g.room l z.2;
            }

        pub going_stop : (f : RefusedAt) → r ≡ Err f → Told t book s rows n s1 rows1 n1 limit whole 0 from p₀ out' held' r
        going_stop f u =
            let z = told_refused t book s rows n s1 rows1 n1 limit many at out out' held' r (only_at t d d1 v) f a u in
            subst (λ (o : Out Pairs). Told t book s rows n s1 rows1 n1 limit o 0 from p₀ out' held' r) (sym (turned (No z.0 z.1) z.2)) z.3

  pub going_end : (held out : List ℕ) (at many v : ℕ) → Going held out at many v → n ≤ v → Told t book s rows n s1 rows1 n1 limit whole 0 from p₀ out held (written at many)
  going_end held out at many v g h =
      let o : whole ≡ Got g.done =
      g.rest ∙ ap (λ (vs : List ℕ). and_then (behind vs) (λ (ps : Pairs). Got (join_pairs g.done ps))) (from_end d op v (subst (λ (k : ℕ). k ≤ v) (sym (rows_count rows n)) h)) ∙ ap Got (join_nothing g.done) in
      subst (λ (y : Out Pairs). Told t book s rows n s1 rows1 n1 limit y 0 from p₀ out held (written at many)) (sym o) (at, many, refl, g.put, g.holds)

-- ---- a repeated name before all else

module _ (t book s rows : List ℕ) (n : ℕ) (s1 rows1 : List ℕ) (n1 limit from op : ℕ) (p p' held' : List ℕ) (again : ℕ)
    (m : (text : ℕ) (read : ℕ → Value) → Marks n1 text (repeated_entry [] (heads (entries_from text (doc_of s1 rows1 n1) read kind_object_field 0 (n1 - (0 + 1)) (0 + 1)))) again) where
  abbrev vs : List (At × Due)
  vs = variable_dues (doc_of s rows n) op

  abbrev twice : Option At
  twice = repeated_entry [] (heads (given_in (doc_of s1 rows1 n1)))

  marks : Marks n1 input_variables twice again
  marks =
      subst (λ (k : ℕ). Marks n1 input_variables (repeated_entry [] (heads (entries_from input_variables (doc_of s1 rows1 n1) (value_of_row input_variables (doc_of s1 rows1 n1)) kind_object_field 0 (k - 1) 1))) again)
      (sym (rows_count rows1 n1)) (m input_variables (value_of_row input_variables (doc_of s1 rows1 n1)))

  abbrev rest : Out Pairs
  rest = variables_from (kinds_in t) (givens_in t (doc_of s1 rows1 n1)) vs

  pub all_repeated : again < n1 → Told t book s rows n s1 rows1 n1 limit (variables_of (kinds_in t) (given_in (doc_of s1 rows1 n1)) vs) 0 from p p' held' (refused input_variables again reason_repeated)
  all_repeated h = go twice marks
    where
      go : (o : Option At) → Marks n1 input_variables o again → Told t book s rows n s1 rows1 n1 limit (unless o reason_repeated rest) 0 from p p' held' (refused input_variables again reason_repeated)
      go none z = absurd (omega (arith, h, z))
      go (some e) z = let q = z.1 in ap (λ (i : At). refused i.text i.row reason_repeated) (sym q)

  pub all_in_order : (r : Result WrittenPairs RefusedAt) → n1 ≤ again → Told t book s rows n s1 rows1 n1 limit rest 0 from p p' held' r → Told t book s rows n s1 rows1 n1 limit (variables_of (kinds_in t) (given_in (doc_of s1 rows1 n1)) vs) 0 from p p' held' r
  all_in_order r h a = go twice marks
    where
      go : (o : Option At) → Marks n1 input_variables o again → Told t book s rows n s1 rows1 n1 limit (unless o reason_repeated rest) 0 from p p' held' r
      go none z = a
      go (some e) z = let q = z.0 in absurd (omega (arith, h, q))
