-- An object's fields, one after the other, and the object.
use mathlib.Core.Path.{◌≡◌, refl, sym, ap, subst, ◌∙◌}
use mathlib.Core.Bool.{Bool, true, false, cond}
use mathlib.Core.Option.{Option, none, some}
use mathlib.Core.List.{List, [], ◌∷◌, ◌++◌, append_assoc}
use Prim.Native.Nat.{ℕ, ◌+◌, ◌-◌, ◌≤◌, ◌<◌}
use native.Mathlib.Omega.{arith}
use lib.ListN.{length, take, drop}
use borrow.Author.Tests.{leb-true}
use Rattle.paper.proofs.Bools.{and_left}
use Rattle.paper.specs.Numbers.{most_wrappers}
use Rattle.paper_table.specs.TableNumbers.{tag_name}
use Rattle.paper_table.specs.Lists.{gather, all_of}
use Rattle.paper_table.specs.References.{Ref, is_non_null}
use Rattle.paper_table.specs.Types.{Member, Definition, table_of}
use Rattle.paper_table.proofs.ReferenceSizes.{wrappers as wrapperCount}
use Rattle.paper_query.specs.Constructs.{Doc}
use Rattle.table_fields.specs.Wrappers.{pack_of, pack_limit}
use Rattle.table_fields.proofs.PackLaws.{pack_fits}
use Rattle.table_book.specs.Book.{part, count_in}
use Rattle.table_members.specs.Members.{members_in, Typed}
use Rattle.std.specs.Prelude.{Option as Answer, Some, None}
use Rattle.table_fields.specs.declared.Field.{Field}
use Rattle.table_types.specs.Sizes.{slim_argument, slim_member, Slim}
use Rattle.table_types.proofs.SlimLaws.{all_head, all_tail, entry_slim}
use Rattle.table_types.specs.Booked.{Booked, start_in, end_in, definition_on}
use Rattle.paper_values.specs.ValueNumbers.{tag_input, tag_pair, reason_missing, reason_repeated, reason_unknown}
use Rattle.paper_values.specs.Written.{house_field_bytes}
use Rattle.paper_values.specs.Values.{Name, At, Due, Tree, Fields, Pairs, no_pairs, pair, Out, Got, No, and_then}
use Rattle.paper_values.specs.Kinds.{due_of}
use Rattle.paper_values.specs.Computed.{Given, missing_due, pair_first, due_field, due_fields, entry_of, unless}
use Rattle.paper_values.specs.Coercion.{heads, repeated_entry, unknown_entry}
use Rattle.paper_values.specs.Encoding.{encode, encode_pairs}
use Rattle.value_writing.specs.Writing.{place_of, Put, Room, Closed, Behind}
use Rattle.value_writing.proofs.PlaceLaws.{place_least, put_as, put_then, put_place, room_after, behind_order}
use Rattle.value_writing.proofs.EncodedLaws.{no_pairs_put, pair_put, pairs_put, object_put}
use Rattle.std.proofs.Common.{Result, Ok, Err}
use Rattle.value_kinds.specs.declared.RefusedRow.{RefusedRow}
use Rattle.value_kinds.specs.Dues.{refused, Told, placed_at}
use Rattle.value_entries.specs.Entered.{dues_of, dues_in, dues_by, NextDue, Marks}
use Rattle.value_held.specs.Given.{Vars, coerced, entries_at, givens_at, ToldPairs}
use Rattle.value_coerce.specs.Coercing.{slim_due, objected, stepped}
use Rattle.value_held.specs.Holding.{Knows, Gives}
use Rattle.value_ones.proofs.ToldLaws.{told_up, told_no}

-- ---- one that is due

module _ (t : List ℕ) (vars : Vars) (text : ℕ) (s held : List ℕ) (many : ℕ) (d : Doc) (n k kind h : ℕ) (δ : Due) (limit from : ℕ) (p : List ℕ) (c : ℕ) (g : Gives s held many d n k kind h δ.name c) (knows : Knows s held many vars) where
  pub step_lacks : (x : Result ℕ RefusedRow) → n ≤ c → ToldPairs text limit (missing_due (placed_at text h) δ (Got no_pairs)) from p p x → ToldPairs text limit (stepped t vars text d n k kind h δ) from p p x
  step_lacks x l a = subst (λ (o : Option (Ref → Out Tree)). ToldPairs text limit (due_field (missing_due (placed_at text h) δ (Got no_pairs)) δ o (Got no_pairs)) from p p x) (sym (g.none_is l t vars text knows)) a

  module _ (l : c < n) (p₂ : List ℕ) (middle : ℕ) (p₁ : List ℕ) (x : Result ℕ RefusedRow) (a : Told text limit (coerced t vars text d k (c + 1) δ.type) middle p₁ p₂ x) where
    step_is : (o : Out Tree) → coerced t vars text d k (c + 1) δ.type ≡ o → stepped t vars text d n k kind h δ ≡ and_then o (λ (y : Tree). Got (pair δ.name y no_pairs))
    step_is o e = ap (λ (z : Option (Ref → Out Tree)). due_field (missing_due (placed_at text h) δ (Got no_pairs)) δ z (Got no_pairs)) (g.some_is l t vars text knows) ∙ ap (λ (z : Out Tree). and_then z (λ (y : Tree). Got (pair δ.name y no_pairs))) e

    pub step_stop : (f : RefusedRow) → x ≡ Err f → ToldPairs text limit (stepped t vars text d n k kind h δ) from p p₂ x
    step_stop f u =
        let z = told_no text limit middle p₁ p₂ x (coerced t vars text d k (c + 1) δ.type) f a u in
        subst (λ (o : Out Pairs). ToldPairs text limit o from p p₂ x) (sym (step_is (No z.0 z.1) z.2)) (z.3, z.4)

    module _ (at : ℕ) (u : x ≡ Ok at) (q : Put limit (house_field_bytes tag_name δ.name) (place_of limit (from + 3)) p p₁ middle) where
      pub step_put : (p₃ : List ℕ) (e : ℕ) → from ≤ limit + 1 → Closed limit from tag_pair at p₂ p₃ e → ToldPairs text limit (stepped t vars text d n k kind h δ) from p p₃ (Ok e)
      step_put p₃ e m w =
          let z = told_up text limit middle p₁ p₂ x (coerced t vars text d k (c + 1) δ.type) at a u in
          subst (λ (o : Out Pairs). ToldPairs text limit o from p p₃ (Ok e)) (sym (step_is (Got z.0) z.1))
          (e, refl, pairs_put limit no_pairs δ.name z.0 from from e p p p₃ (no_pairs_put limit from p m) (pair_put limit δ.name z.0 from (place_of limit (from + 3)) middle at e p p₁ p₂ p₃ refl q z.2 w))

      pub step_behind : Room limit (place_of limit (from + 3)) p → length p₁ ≡ length p → length p₂ ≡ length p₁ → Behind limit from at p₂
      step_behind w m₁ m₂ =
          let z = told_up text limit middle p₁ p₂ x (coerced t vars text d k (c + 1) δ.type) at a u in
          let b : Put limit (house_field_bytes tag_name δ.name ++ encode z.0) (place_of limit (from + 3)) p p₂ at = put_then limit (house_field_bytes tag_name δ.name) (encode z.0) (place_of limit (from + 3)) middle at p p₁ p₂ q z.2 in
          record { least = w.least; end = put_place limit (encode z.0) middle p₁ p₂ at z.2; order = λ h. behind_order limit (house_field_bytes tag_name δ.name ++ encode z.0) from (place_of limit (from + 3)) at p p₂ refl b h; size = m₂ ∙ m₁ ∙ w.size }

-- ---- pairs one after the other

abbrev pub join_pairs : Pairs → Pairs → Pairs
join_pairs no_pairs qs = qs
join_pairs (pair n t ps) qs = pair n t (join_pairs ps qs)

pub join_nothing : (ps : Pairs) → join_pairs ps no_pairs ≡ ps
join_nothing no_pairs = refl
join_nothing (pair n t ps) = ap (pair n t) (join_nothing ps)

join_join : (xs ys zs : Pairs) → join_pairs (join_pairs xs ys) zs ≡ join_pairs xs (join_pairs ys zs)
join_join no_pairs ys zs = refl
join_join (pair n t xs) ys zs = ap (pair n t) (join_join xs ys zs)

pub encode_join : (xs ys : Pairs) → encode_pairs (join_pairs xs ys) ≡ encode_pairs xs ++ encode_pairs ys
unfolding encode
encode_join no_pairs ys = refl
encode_join (pair n t xs) ys = ap (λ (l : List ℕ). house_field_bytes tag_pair (house_field_bytes tag_name n ++ encode t) ++ l) (encode_join xs ys) ∙ sym (append_assoc (house_field_bytes tag_pair (house_field_bytes tag_name n ++ encode t)) (encode_pairs xs) (encode_pairs ys))

pub and_got : {A : Type 0} (o : Out A) → and_then o (λ (x : A). Got x) ≡ o
and_got (Got x) = refl
and_got (No i w) = refl

-- the first that is due, and the others
fields_first : (i : At) (gs : List Given) (δ : Due) (ds : List Due) →
    due_fields (missing_due i) gs (δ ∷ ds) ≡ and_then (due_field (missing_due i δ (Got no_pairs)) δ (entry_of δ.name gs) (Got no_pairs)) (λ (ps : Pairs). and_then (due_fields (missing_due i) gs ds) (λ (qs : Pairs). Got (join_pairs ps qs)))
fields_first i gs δ ds = go (entry_of δ.name gs) (due_fields (missing_due i) gs ds)
  where
    lacks : (b : Bool) (rest : Out Pairs) → cond b (No i reason_missing) rest ≡ and_then (cond b (No i reason_missing) (Got no_pairs)) (λ (ps : Pairs). and_then rest (λ (qs : Pairs). Got (join_pairs ps qs)))
    lacks true rest = refl
    lacks false rest = sym (and_got rest)

    has : (o : Out Tree) (rest : Out Pairs) → and_then o (λ (t : Tree). and_then rest (λ (ps : Pairs). Got (pair δ.name t ps))) ≡ and_then (and_then o (λ (t : Tree). Got (pair δ.name t no_pairs))) (λ (ps : Pairs). and_then rest (λ (qs : Pairs). Got (join_pairs ps qs)))
    has (Got t) rest = refl
    has (No j w) rest = refl

    go : (o : Option (Ref → Out Tree)) (rest : Out Pairs) → due_field (missing_due i δ rest) δ o rest ≡ and_then (due_field (missing_due i δ (Got no_pairs)) δ o (Got no_pairs)) (λ (ps : Pairs). and_then rest (λ (qs : Pairs). Got (join_pairs ps qs)))
    go none rest = lacks (is_non_null δ.type) rest
    go (some f) rest = has (f δ.type) rest

pub join_more : (xs ys : Pairs) (o : Out Pairs) → and_then (and_then o (λ (qs : Pairs). Got (join_pairs ys qs))) (λ (ps : Pairs). Got (join_pairs xs ps)) ≡ and_then o (λ (ps : Pairs). Got (join_pairs (join_pairs xs ys) ps))
join_more xs ys (Got zs) = ap Got (sym (join_join xs ys zs))
join_more xs ys (No i w) = refl

module _ (text limit at : ℕ) (p p' : List ℕ) (x : Result ℕ RefusedRow) where
  pub pairs_up : (o : Out Pairs) (e : ℕ) → ToldPairs text limit o at p p' x → x ≡ Ok e → (ps : Pairs) × (o ≡ Got ps) × Put limit (encode_pairs ps) at p p' e
  pairs_up (Got t) e g u = let z : g.0 ≡ e = same g.0 g.1 in (t, refl, subst (λ (y : ℕ). Put limit (encode_pairs t) at p p' y) z g.2)
    where
      same : (a : ℕ) → x ≡ Ok a → a ≡ e
      same a q = cc
  pairs_up (No i w) e g u = absurd (never g.1)
    where
      never : x ≡ refused i.row w → ⊥
      never q = let z : ◌≡◌ {A = ℕ} 0 1 = cc in omega arith

  pub pairs_no : (o : Out Pairs) (f : RefusedRow) → ToldPairs text limit o at p p' x → x ≡ Err f → (i : At) × (w : ℕ) × (o ≡ No i w) × (i.text ≡ text) × (x ≡ refused i.row w)
  pairs_no (Got t) f g u = absurd (never g.0 g.1)
    where
      never : (e : ℕ) → x ≡ Ok e → ⊥
      never e q = let z : ◌≡◌ {A = ℕ} 0 1 = cc in omega arith
  pairs_no (No i w) f g u = (i, w, refl, g.0, g.1)

  pub pairs_room : (o : Out Pairs) (e : ℕ) → ToldPairs text limit o at p p' x → x ≡ Ok e → Room limit at p → length p' ≡ length p → Room limit e p'
  pairs_room o e g u r l = let z = pairs_up o e g u in room_after limit (encode_pairs z.0) at p p' e r l z.2

-- ---- all that are due

module _ (t : List ℕ) (vars : Vars) (text : ℕ) (d : Doc) (n k kind h : ℕ) (dues : ℕ → List Due) (start limit from : ℕ) (p₀ : List ℕ) where
  abbrev pub fields_from : ℕ → Out Pairs
  fields_from a = due_fields (missing_due (placed_at text h)) (givens_at t vars text d n k kind h) (dues a)

  -- before the members from a on: the pairs of those before stand behind the three bytes kept free, as far as there is room
  pub record Fielded (p : List ℕ) (at a : ℕ) : Type 0 where
    pub done : Pairs
    pub put : Put limit (encode_pairs done) (place_of limit (from + 3)) p₀ p at
    pub rest : fields_from start ≡ and_then (fields_from a) (λ (ps : Pairs). Got (join_pairs done ps))

  pub fields_start : (at : ℕ) → at ≡ place_of limit (from + 3) → Fielded p₀ at start
  fields_start at a = record {
    done = no_pairs;
    put = subst (λ (x : ℕ). Put limit (encode_pairs no_pairs) (place_of limit (from + 3)) p₀ p₀ x) (sym a) (no_pairs_put limit (place_of limit (from + 3)) p₀ (place_least limit (from + 3) (place_of limit (from + 3)) refl));
    rest = sym (and_got (fields_from start));
  }

  module _ (p : List ℕ) (at a : ℕ) (g : Fielded p at a) where
    module _ (δ : Due) (stop : ℕ) (e : dues a ≡ δ ∷ dues stop) where
      turned : fields_from a ≡ and_then (stepped t vars text d n k kind h δ) (λ (ps : Pairs). and_then (fields_from stop) (λ (qs : Pairs). Got (join_pairs ps qs)))
      turned = ap (due_fields (missing_due (placed_at text h)) (givens_at t vars text d n k kind h)) e ∙ fields_first (placed_at text h) (givens_at t vars text d n k kind h) δ (dues stop)

      by_step : (o : Out Pairs) → stepped t vars text d n k kind h δ ≡ o → fields_from start ≡ and_then (and_then o (λ (ps : Pairs). and_then (fields_from stop) (λ (qs : Pairs). Got (join_pairs ps qs)))) (λ (ps : Pairs). Got (join_pairs g.done ps))
      by_step o q = g.rest ∙ ap (λ (y : Out Pairs). and_then y (λ (ps : Pairs). Got (join_pairs g.done ps))) (turned ∙ ap (λ (y : Out Pairs). and_then y (λ (ps : Pairs). and_then (fields_from stop) (λ (qs : Pairs). Got (join_pairs ps qs)))) q)

      pub fields_step : (p' : List ℕ) (x : Result ℕ RefusedRow) (next : ℕ) → ToldPairs text limit (stepped t vars text d n k kind h δ) at p p' x → x ≡ Ok next → Fielded p' next stop
      fields_step p' x next w u =
          let z = pairs_up text limit at p p' x (stepped t vars text d n k kind h δ) next w u in
          record {
            done = join_pairs g.done z.0;
            put = put_as limit (encode_pairs g.done ++ encode_pairs z.0) (encode_pairs (join_pairs g.done z.0)) (place_of limit (from + 3)) p₀ p' next (sym (encode_join g.done z.0))
                (put_then limit (encode_pairs g.done) (encode_pairs z.0) (place_of limit (from + 3)) at next p₀ p p' g.put z.2);
            rest = by_step (Got z.0) z.1 ∙ join_more g.done z.0 (fields_from stop);
          }

      pub fields_stop : (p' : List ℕ) (x : Result ℕ RefusedRow) (f : RefusedRow) → ToldPairs text limit (stepped t vars text d n k kind h δ) at p p' x → x ≡ Err f →
          Told text limit (and_then (fields_from start) (λ (ps : Pairs). Got (Fields ps))) from p₀ p' x
      fields_stop p' x f w u =
          let z = pairs_no text limit at p p' x (stepped t vars text d n k kind h δ) f w u in
          subst (λ (o : Out Pairs). Told text limit (and_then o (λ (ps : Pairs). Got (Fields ps))) from p₀ p' x) (sym (by_step (No z.0 z.1) z.2)) (z.3, z.4)

    pub fields_end : (p' : List ℕ) (e : ℕ) → dues a ≡ [] → Closed limit from tag_input at p p' e → Told text limit (and_then (fields_from start) (λ (ps : Pairs). Got (Fields ps))) from p₀ p' (Ok e)
    fields_end p' e q m =
        let o : fields_from start ≡ Got g.done
        = g.rest ∙ ap (λ (y : Out Pairs). and_then y (λ (ps : Pairs). Got (join_pairs g.done ps))) (ap (due_fields (missing_due (placed_at text h)) (givens_at t vars text d n k kind h)) q) ∙ ap Got (join_nothing g.done) in
        subst (λ (y : Out Pairs). Told text limit (and_then y (λ (ps : Pairs). Got (Fields ps))) from p₀ p' (Ok e)) (sym o)
        (e, refl, object_put limit g.done from (place_of limit (from + 3)) at e p₀ p p' refl g.put m)

    pub fields_behind : Room limit at p → Behind limit from at p
    fields_behind w = record { least = w.least; end = w.place; order = λ l. behind_order limit (encode_pairs g.done) from (place_of limit (from + 3)) at p₀ p refl g.put l; size = w.size }

-- ---- the object

marked : (n text : ℕ) (o : Option At) (r : ℕ) → Marks n text o r → r < n → o ≡ some (placed_at text r)
marked n text none r m l = absurd (omega (arith, m, l))
marked n text (some e) r m l = ap some m.1

unmarked : (n text : ℕ) (o : Option At) (r : ℕ) → Marks n text o r → n ≤ r → o ≡ none
unmarked n text none r m l = refl
unmarked n text (some e) r m l = absurd (omega (arith, m.0, l))

module _ (t : List ℕ) (vars : Vars) (text : ℕ) (d : Doc) (n k kind h : ℕ) (dues : ℕ → List Due) (start limit from : ℕ) (p : List ℕ) (i : ℕ) where
  abbrev es : List (At × Name)
  es = heads (entries_at text d n k kind h)

  abbrev given : Out Tree
  given = and_then (due_fields (missing_due (placed_at text h)) (givens_at t vars text d n k kind h) (dues start)) (λ (ps : Pairs). Got (Fields ps))

  pub object_repeated : Marks n text (repeated_entry [] es) i → i < n → Told text limit (objected t vars text d n k kind h (dues start)) from p p (refused i reason_repeated)
  object_repeated m l = subst (λ (o : Option At). Told text limit (unless o reason_repeated (unless (unknown_entry (dues start) es) reason_unknown given)) from p p (refused i reason_repeated))
      (sym (marked n text (repeated_entry [] es) i m l)) (refl, refl)

  module _ (m : Marks n text (repeated_entry [] es) i) (l : n ≤ i) (j : ℕ) (w : Marks n text (unknown_entry (dues start) es) j) where
    opened : (o : Option At) → unknown_entry (dues start) es ≡ o → objected t vars text d n k kind h (dues start) ≡ unless o reason_unknown given
    opened o q =
        ap (λ (x : Option At). unless x reason_repeated (unless (unknown_entry (dues start) es) reason_unknown given)) (unmarked n text (repeated_entry [] es) i m l)
        ∙ ap (λ (x : Option At). unless x reason_unknown given) q

    pub object_unknown : j < n → Told text limit (objected t vars text d n k kind h (dues start)) from p p (refused j reason_unknown)
    object_unknown z = subst (λ (o : Out Tree). Told text limit o from p p (refused j reason_unknown)) (sym (opened (some (placed_at text j)) (marked n text (unknown_entry (dues start) es) j w z))) (refl, refl)

    pub object_fields : n ≤ j → (p' : List ℕ) (x : Result ℕ RefusedRow) → Told text limit (and_then (fields_from t vars text d n k kind h dues start limit from p start) (λ (ps : Pairs). Got (Fields ps))) from p p' x → Told text limit (objected t vars text d n k kind h (dues start)) from p p' x
    object_fields z p' x a = subst (λ (o : Out Tree). Told text limit o from p p' x) (sym (opened none (unmarked n text (unknown_entry (dues start) es) j w z))) a

-- what the members of an entry make due, where its bounds were read
pub dues_here : (t book : List ℕ) (b : Booked t book) (number start end : ℕ) → number < count_in book → start ≡ start_in book number → end ≡ end_in book number → dues_in t start end ≡ dues_of (definition_on t number).members
dues_here t book b number start end l p q = rw (p, q) (ap dues_of (sym (ap (λ (d : Definition). d.members) (b.entered number l).is)))

-- ---- members and their names

slim_dues : (ms : List Member) → all_of slim_member ms ≡ true → all_of slim_due (dues_of ms) ≡ true
unfolding all_of gather
slim_dues [] e = refl
slim_dues (m ∷ ms) e = rw (and_left (slim_due (due_of m)) (all_of slim_argument m.arguments) (all_head slim_member m ms e)) (slim_dues ms (all_tail slim_member m ms e))

pub slim_here : (t book : List ℕ) (b : Booked t book) → Slim (table_of t) → (number start end : ℕ) → number < count_in book → start ≡ start_in book number → end ≡ end_in book number → all_of slim_due (dues_in t start end) ≡ true
slim_here t book b s number start end l p q = rw (p, q) (slim_dues (members_in t (start_in book number) (end_in book number)) (entry_slim t book b s number l))

module _ (δ : Due) (here there : List Due) (s : all_of slim_due here ≡ true) (e : here ≡ δ ∷ there) where
  pub slim_first : slim_due δ ≡ true
  slim_first = all_head slim_due δ there (ap (all_of slim_due) (sym e) ∙ s)

  pub slim_rest : all_of slim_due there ≡ true
  slim_rest = all_tail slim_due δ there (ap (all_of slim_due) (sym e) ∙ s)

-- the wrappers that were read, of a due with few
pub slim_packs : (t : List ℕ) (at l w : ℕ) (δ : Due) → slim_due δ ≡ true → Typed t at l w δ.type → (pack_of δ.type ≡ w) × (w < pack_limit)
slim_packs t at l w δ s y =
    let p : pack_of δ.type < pack_limit = pack_fits δ.type (leb-true (wrapperCount δ.type) most_wrappers s) in
    let z : pack_of δ.type ≡ w = (let q = y.packs in omega (arith, p, q)) in (z, omega (arith, p, z))

pub next_found : (kind : ℕ) (t : List ℕ) (at end : ℕ) (f : Answer Field) (x : Field) → NextDue kind t at end f → f ≡ Some x → NextDue kind t at end (Some x)
next_found kind t at end f x n e = subst (NextDue kind t at end) e n

pub next_none : (kind : ℕ) (t : List ℕ) (at end : ℕ) (f : Answer Field) → NextDue kind t at end f → f ≡ None → dues_by kind t at end ≡ []
next_none kind t at end f n e = subst (NextDue kind t at end) e n

pub gives_name : (s held : List ℕ) (many : ℕ) (d : Doc) (n k kind h : ℕ) (x y : Name) (c : ℕ) → x ≡ y → Gives s held many d n k kind h x c → Gives s held many d n k kind h y c
gives_name s held many d n k kind h x y c e g = subst (λ (z : Name). Gives s held many d n k kind h z c) e g

pub name_put : (limit from pair_first middle : ℕ) (p p₁ t : List ℕ) (at l : ℕ) (name : Name) → part t at l ≡ name → pair_first ≡ place_of limit (from + 3) → Put limit (house_field_bytes tag_name (take (at + l - at) (drop at t))) pair_first p p₁ middle →
    Put limit (house_field_bytes tag_name name) (place_of limit (from + 3)) p p₁ middle
name_put limit from pair_first middle p p₁ t at l name e f q =
    let z : at + l - at ≡ l = omega arith in
    subst (λ (x : ℕ). Put limit (house_field_bytes tag_name name) x p p₁ middle) f (subst (λ (x : List ℕ). Put limit (house_field_bytes tag_name x) pair_first p p₁ middle) (ap (λ (m : ℕ). take m (drop at t)) z ∙ e) q)
