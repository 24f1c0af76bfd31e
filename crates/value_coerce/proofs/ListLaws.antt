-- The loop over a list's items, and what a value's answer says.
use mathlib.Core.Path.{◌≡◌, refl, sym, ap, subst, ◌∙◌}
use mathlib.Core.List.{List}
use Prim.Native.Nat.{ℕ, ◌+◌, ◌-◌, ◌≤◌, ◌<◌}
use native.Mathlib.Omega.{arith}
use Rattle.paper_table.specs.References.{Ref}
use Rattle.paper_query.specs.Constructs.{Doc, parent_of}
use Rattle.paper_values.specs.ValueNumbers.{tag_list}
use Rattle.paper_values.specs.Values.{Name, Value, null, Values, item, Tree, Many, Trees, no_more, also, Out, Got, No, and_then}
use Rattle.paper_values.specs.Kinds.{Kind}
use Rattle.paper_values.specs.Computed.{coerce, coerce_all}
use Rattle.paper_values.specs.Encoding.{encode, encode_all}
use Rattle.paper_values.proofs.EncodingLaws.{behind}
use Rattle.paper_values.specs.RowValues.{items_from, value_at}
use Rattle.paper_values.proofs.RowValuesLaws.{items_more}
use Rattle.value_writing.specs.Writing.{place_of, Put, Room, Closed, Behind}
use Rattle.value_writing.proofs.PlaceLaws.{place_least, behind_order}
use Rattle.value_writing.proofs.EncodedLaws.{no_items_put, item_put, list_put}
use Rattle.std.proofs.Common.{Result, Ok, Err}
use Rattle.value_kinds.specs.declared.RefusedRow.{RefusedRow}
use Rattle.value_kinds.specs.Dues.{Told}
use Rattle.value_entries.specs.Entered.{child_at}
use Rattle.value_entries.proofs.EntryLaws.{one_less, Next, child_next}
use Rattle.value_held.specs.Given.{Vars, kinds_in, coerced}
use Rattle.value_coerce.specs.Coercing.{items_at, listed}
use Rattle.value_ones.proofs.ToldLaws.{told_no}

-- ---- lists

abbrev pub join_trees : Trees → Trees → Trees
join_trees no_more ts = ts
join_trees (also t us) ts = also t (join_trees us ts)

join_behind : (us : Trees) (t : Tree) (ts : Trees) → join_trees (behind us t) ts ≡ join_trees us (also t ts)
join_behind no_more t ts = refl
join_behind (also u us) t ts = ap (also u) (join_behind us t ts)

join_end : (us : Trees) → join_trees us no_more ≡ us
join_end no_more = refl
join_end (also u us) = ap (also u) (join_end us)

and_got : {A : Type 0} (o : Out A) → and_then o (λ (x : A). Got x) ≡ o
and_got (Got x) = refl
and_got (No i w) = refl

join_more : (us : Trees) (t : Tree) (o : Out Trees) → and_then (and_then o (λ (ts : Trees). Got (also t ts))) (λ (ts : Trees). Got (join_trees us ts)) ≡ and_then o (λ (ts : Trees). Got (join_trees (behind us t) ts))
join_more us t (Got ts) = ap Got (sym (join_behind us t ts))
join_more us t (No i w) = refl

all_more : (kinds : Name → Kind) (vars : Vars) (v : Value) (vs : Values) (r : Ref) →
    coerce_all kinds vars (item v vs) r ≡ and_then (coerce kinds vars v r) (λ (x : Tree). and_then (coerce_all kinds vars vs r) (λ (ts : Trees). Got (also x ts)))
unfolding coerce
all_more kinds vars v vs r = refl

all_none : (text : ℕ) (d : Doc) (read : ℕ → Value) (kinds : Name → Kind) (vars : Vars) (h c : ℕ) (r : Ref) → coerce_all kinds vars (items_from text d read h 0 c) r ≡ Got no_more
unfolding coerce items_from
all_none text d read kinds vars h c r = refl

-- from the next item on the items are the same
module _ (text : ℕ) (d : Doc) (read : ℕ → Value) (n h b c : ℕ) (e : c ≡ child_at d h (n - b) b) where
  found : Next d h text read (n - b) b c
  found = subst (λ (x : ℕ). Next d h text read (n - b) b x) (sym e) (child_next d h text read (n - b) b)

  items_skip : items_from text d read h (n - b) b ≡ items_from text d read h (n - c) c
  items_skip =
      let l : b ≤ c = found.least in let m : c ≤ b + (n - b) = found.most in
      let z : b + (n - b) - c ≡ n - c = omega (arith, l, m) in
      found.same_items ∙ ap (λ (m : ℕ). items_from text d read h m c) z

pub item_below : (d : Doc) (n h b c : ℕ) → c ≡ child_at d h (n - b) b → c < n → parent_of d c ≡ h
item_below d n h b c e l =
    let f : Next d h 0 (λ (x : ℕ). null (record { text = 0; row = 0 })) (n - b) b c = found 0 d (λ (x : ℕ). null (record { text = 0; row = 0 })) n h b c e in f.below (let m : b ≤ c = f.least in omega (arith, l, m))

module _ (t : List ℕ) (vars : Vars) (text : ℕ) (d : Doc) (n k h : ℕ) (r : Ref) (limit from : ℕ) (p₀ : List ℕ) where
  -- before item c: the items before it stand behind the three bytes kept free, as far as there is room
  pub record Listed (p : List ℕ) (at c : ℕ) : Type 0 where
    pub done : Trees
    pub put : Put limit (encode_all done) (place_of limit (from + 3)) p₀ p at
    pub rest : items_at t vars text d n k h (h + 1) r ≡ and_then (items_at t vars text d n k h c r) (λ (ts : Trees). Got (join_trees done ts))

  skip : (b c : ℕ) → c ≡ child_at d h (n - b) b → items_at t vars text d n k h b r ≡ items_at t vars text d n k h c r
  skip b c e = ap (λ (vs : Values). coerce_all (kinds_in t) vars vs r) (items_skip text d (value_at text d k) n h b c e)

  pub list_start : (at c : ℕ) → at ≡ place_of limit (from + 3) → c ≡ child_at d h (n - (h + 1)) (h + 1) → Listed p₀ at c
  list_start at c a e = record {
    done = no_more;
    put = subst (λ (x : ℕ). Put limit (encode_all no_more) (place_of limit (from + 3)) p₀ p₀ x) (sym a) (no_items_put limit (place_of limit (from + 3)) p₀ (place_least limit (from + 3) (place_of limit (from + 3)) refl));
    rest = skip (h + 1) c e ∙ sym (and_got (items_at t vars text d n k h c r));
  }

  module _ (p : List ℕ) (at c : ℕ) (g : Listed p at c) where
    turned : c < n → parent_of d c ≡ h → items_at t vars text d n k h c r ≡ and_then (coerced t vars text d k c r) (λ (x : Tree). and_then (items_at t vars text d n k h (c + 1) r) (λ (ts : Trees). Got (also x ts)))
    turned l q =
        ap (λ (m : ℕ). coerce_all (kinds_in t) vars (items_from text d (value_at text d k) h m c) r) (one_less n c l)
        ∙ ap (λ (vs : Values). coerce_all (kinds_in t) vars vs r) (items_more text d (value_at text d k) h (n - (c + 1)) c q) ∙ all_more (kinds_in t) vars (value_at text d k c) (items_from text d (value_at text d k) h (n - (c + 1)) (c + 1)) r

    pub list_step : (p' : List ℕ) (x : Tree) (e c' : ℕ) → c < n → parent_of d c ≡ h → coerced t vars text d k c r ≡ Got x → Put limit (encode x) at p p' e → c' ≡ child_at d h (n - (c + 1)) (c + 1) → Listed p' e c'
    list_step p' x e c' l q o m z = record {
      done = behind g.done x;
      put = item_put limit g.done x (place_of limit (from + 3)) at e p₀ p p' g.put m;
      rest =
          g.rest
          ∙ ap (λ (y : Out Trees). and_then y (λ (ts : Trees). Got (join_trees g.done ts))) (turned l q ∙ ap (λ (y : Out Tree). and_then y (λ (x : Tree). and_then (items_at t vars text d n k h (c + 1) r) (λ (ts : Trees). Got (also x ts)))) o)
          ∙ join_more g.done x (items_at t vars text d n k h (c + 1) r)
          ∙ ap (λ (y : Out Trees). and_then y (λ (ts : Trees). Got (join_trees (behind g.done x) ts))) (skip (c + 1) c' z);
    }

    pub list_stop : (p' : List ℕ) (y : Result ℕ RefusedRow) (f : RefusedRow) → c < n → parent_of d c ≡ h → Told text limit (coerced t vars text d k c r) at p p' y → y ≡ Err f → Told text limit (listed t vars text d n k h r) from p₀ p' y
    list_stop p' y f l q a u =
        let z = told_no text limit at p p' y (coerced t vars text d k c r) f a u in
        let o : listed t vars text d n k h r ≡ No z.0 z.1
        = ap (λ (y : Out Trees). and_then y (λ (ts : Trees). Got (Many ts))) (g.rest
        ∙ ap (λ (y : Out Trees). and_then y (λ (ts : Trees). Got (join_trees g.done ts))) (turned l q ∙ ap (λ (y : Out Tree). and_then y (λ (x : Tree). and_then (items_at t vars text d n k h (c + 1) r) (λ (ts : Trees). Got (also x ts)))) z.2)) in
        subst (λ (o : Out Tree). Told text limit o from p₀ p' y) (sym o) (z.3, z.4)

    ended : n ≤ c → items_at t vars text d n k h c r ≡ Got no_more
    ended l = let z : n - c ≡ 0 = omega arith in ap (λ (m : ℕ). coerce_all (kinds_in t) vars (items_from text d (value_at text d k) h m c) r) z ∙ all_none text d (value_at text d k) (kinds_in t) vars h c r

    pub list_end : (p' : List ℕ) (e : ℕ) → n ≤ c → Closed limit from tag_list at p p' e → Told text limit (listed t vars text d n k h r) from p₀ p' (Ok e)
    list_end p' e l m =
        let o : listed t vars text d n k h r ≡ Got (Many g.done)
        = ap (λ (y : Out Trees). and_then y (λ (ts : Trees). Got (Many ts))) (g.rest ∙ ap (λ (y : Out Trees). and_then y (λ (ts : Trees). Got (join_trees g.done ts))) (ended l) ∙ ap Got (join_end g.done)) in
        subst (λ (o : Out Tree). Told text limit o from p₀ p' (Ok e)) (sym o) (e, refl, list_put limit g.done from (place_of limit (from + 3)) at e p₀ p p' refl g.put m)

    pub list_behind : Room limit at p → Behind limit from at p
    list_behind w = record { least = w.least; end = w.place; order = λ l. behind_order limit (encode_all g.done) from (place_of limit (from + 3)) at p₀ p refl g.put l; size = w.size }

pub child_more : (d : Doc) (n h c c' : ℕ) → c' ≡ child_at d h (n - (c + 1)) (c + 1) → c < c'
child_more d n h c c' e = let f : Next d h 0 (λ (x : ℕ). null (record { text = 0; row = 0 })) (n - (c + 1)) (c + 1) c' = found 0 d (λ (x : ℕ). null (record { text = 0; row = 0 })) n h (c + 1) c' e in let m : c + 1 ≤ c' = f.least in omega (arith, m)
