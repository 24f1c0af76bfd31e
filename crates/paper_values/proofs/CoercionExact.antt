-- The rules give every value at every type one result, and it is the one that `coerce` computes.
-- Assumes nothing.
use mathlib.Core.Path.{◌≡◌, refl, sym, ap, ◌∙◌, subst}
use mathlib.Core.Bool.{Bool, true, false, cond}
use mathlib.Core.Option.{Option, none, some}
use mathlib.Core.List.{List, [], ◌∷◌}
use Rattle.paper.specs.Tokens.{same}
use Rattle.paper_table.specs.References.{Ref, named, list_of, non_null, is_non_null}
use Rattle.paper_values.specs.ValueNumbers.{reason_kind, reason_missing, reason_null, reason_unknown, reason_repeated}
use Rattle.paper_values.specs.Values.{Name, At, Value, variable, integer, float, string, boolean, null, enum, list, object, Values, no_values, item, Entries, no_entries, entry, Due, Tree, Null, Bits, Decimal, Text, Truth, Member, Many, Fields, Token, Trees, no_more, also, Pairs, pair, Out, Got, No, and_then}
use Rattle.paper_values.specs.Kinds.{Kind, Int, Float, String, Boolean, ID, Own, Other, Enum, Input}
use Rattle.paper_values.specs.Computed.{null_at, object_at, entry_of, missing_due, due_field, due_fields, unless, in_object, single, several, held, coerce, coerce_all, givens}
use Rattle.paper_values.specs.Coercion.{integer_at, float_at, string_at, boolean_at, enum_at, heads, repeated_entry, unknown_entry, left_out}
use Rattle.paper_values.specs.CoercionRules.{plain_value, single_value, as_input, value_for, Coerces, null_kept, null_refused, absent_variable, null_variable, held_variable, at_non_null, a_list, list_of_one, no_list, an_integer, a_float, a_string, a_boolean, an_enum, no_object, entry_repeated, entry_unknown, an_object, Items, no_items, item_refused, item_got, InFields, no_fields, required_missing, by_left_out, field_refused, field_got}

abbrev Falsity : Bool → Type 0
Falsity true = ⊥
Falsity false = Unit

differ : false ≡ true → ⊥
differ q = subst Falsity q tt

abbrev is_other : Tree → Type 0
is_other Null = ⊥
is_other (Bits x) = Unit
is_other (Decimal s) = Unit
is_other (Text s) = Unit
is_other (Truth b) = Unit
is_other (Member n) = Unit
is_other (Many ts) = Unit
is_other (Fields ps) = Unit
is_other (Token s) = Unit

abbrev is_absent : Option Value → Type 0
is_absent none = Unit
is_absent (some v) = ⊥

abbrev value_or : Value → Option Value → Value
value_or w none = w
value_or w (some v) = v

module _ (kinds : Name → Kind) (vars : Name → Option Tree) where
  -- ---- what `coerce` computes, rule by rule

  null_free : (i : At) (r : Ref) → is_non_null r ≡ false → null_at i r ≡ Got Null
  null_free i (named n) q = refl
  null_free i (list_of r) q = refl
  null_free i (non_null r) q = absurd (differ (sym q))

  null_barred : (i : At) (r : Ref) → is_non_null r ≡ true → null_at i r ≡ No i reason_null
  null_barred i (named n) q = absurd (differ q)
  null_barred i (list_of r) q = absurd (differ q)
  null_barred i (non_null r) q = refl

  inside : (v : Value) (r : Ref) → plain_value v ≡ true → coerce kinds vars v (non_null r) ≡ coerce kinds vars v r
  unfolding coerce
  inside (variable i n) r q = absurd (differ q)
  inside (integer i s) r q = refl
  inside (float i s) r q = refl
  inside (string i s cs) r q = refl
  inside (boolean i b) r q = refl
  inside (null i) r q = absurd (differ q)
  inside (enum i n) r q = refl
  inside (list i vs) r q = refl
  inside (object i es) r q = refl

  wrapped : (v : Value) (r : Ref) → single_value v ≡ true → coerce kinds vars v (list_of r) ≡ and_then (coerce kinds vars v r) (λ t. Got (Many (also t no_more)))
  unfolding coerce
  wrapped (variable i n) r q = absurd (differ q)
  wrapped (integer i s) r q = refl
  wrapped (float i s) r q = refl
  wrapped (string i s cs) r q = refl
  wrapped (boolean i b) r q = refl
  wrapped (null i) r q = absurd (differ q)
  wrapped (enum i n) r q = refl
  wrapped (list i vs) r q = absurd (differ q)
  wrapped (object i es) r q = refl

  held_other : (i : At) (r : Ref) (t : Tree) → (t ≡ Null → ⊥) → held kinds vars i r (some t) ≡ Got t
  held_other i r Null q = absurd (q refl)
  held_other i r (Bits x) q = refl
  held_other i r (Decimal s) q = refl
  held_other i r (Text s) q = refl
  held_other i r (Truth b) q = refl
  held_other i r (Member n) q = refl
  held_other i r (Many ts) q = refl
  held_other i r (Fields ps) q = refl
  held_other i r (Token s) q = refl

  abbrev pub into : Option Value → Option (Ref → Out Tree)
  into none = none
  into (some v) = some (λ r. coerce kinds vars v r)

  -- the entry that is looked up is the value's
  pub found : (n : Name) (es : Entries) → entry_of n (givens kinds vars es) ≡ into (value_for kinds vars n es)
  unfolding coerce
  found n no_entries = refl
  found n (entry i m v es) = go (same n m) (left_out kinds vars v) (found n es)
    where
      go : (b c : Bool) → entry_of n (givens kinds vars es) ≡ into (value_for kinds vars n es)
          → cond b (cond c none (some (λ r. coerce kinds vars v r))) (entry_of n (givens kinds vars es)) ≡ into (cond b (cond c none (some v)) (value_for kinds vars n es))
      go true true h = refl
      go true false h = refl
      go false c h = h

  abbrev tabled : Option (List Due) → At → (List Due → Out Tree) → Out Tree
  tabled none i f = No i reason_kind
  tabled (some ds) i f = f ds

  object_tabled : (k : Kind) (i : At) (f : List Due → Out Tree) → object_at i f k ≡ tabled (as_input k) i f
  object_tabled Int i f = refl
  object_tabled Float i f = refl
  object_tabled String i f = refl
  object_tabled Boolean i f = refl
  object_tabled ID i f = refl
  object_tabled Own i f = refl
  object_tabled Other i f = refl
  object_tabled (Enum ms) i f = refl
  object_tabled (Input ds) i f = refl

  of_object : (i : At) (es : Entries) (n : Name) → coerce kinds vars (object i es) (named n) ≡ tabled (as_input (kinds n)) i (in_object (missing_due i) (heads es) (givens kinds vars es))
  unfolding coerce
  of_object i es n = object_tabled (kinds n) i (in_object (missing_due i) (heads es) (givens kinds vars es))

  of_input : (i : At) (es : Entries) (n : Name) (ds : List Due) → as_input (kinds n) ≡ some ds
      → coerce kinds vars (object i es) (named n) ≡ unless (repeated_entry [] (heads es)) reason_repeated (unless (unknown_entry ds (heads es)) reason_unknown (and_then (due_fields (missing_due i) (givens kinds vars es) ds) (λ ps. Got (Fields ps))))
  of_input i es n ds q = of_object i es n ∙ ap (λ (m : Option (List Due)). tabled m i (in_object (missing_due i) (heads es) (givens kinds vars es))) q

  of_field : (i : At) (es : Entries) (d : Due) (rest : Out Pairs) (m : Option Value) → value_for kinds vars d.name es ≡ m
      → due_field (missing_due i d rest) d (entry_of d.name (givens kinds vars es)) rest ≡ due_field (missing_due i d rest) d (into m) rest
  of_field i es d rest m q = ap (λ (x : Option (Ref → Out Tree)). due_field (missing_due i d rest) d x rest) (found d.name es ∙ ap into q)

  -- ---- a result by the rules is the computed one

  mutual
    unfolding coerce

    pub coerces_is : {v : Value} {r : Ref} {o : Out Tree} → Coerces kinds vars v r o → coerce kinds vars v r ≡ o
    coerces_is (null_kept {i} {r} q) = null_free i r q
    coerces_is (null_refused {i} {r} q) = null_barred i r q
    coerces_is (absent_variable {i} {n} {r} {o} q c) = ap (held kinds vars i r) q ∙ coerces_is c
    coerces_is (null_variable {i} {n} {r} {o} q c) = ap (held kinds vars i r) q ∙ coerces_is c
    coerces_is (held_variable {i} {n} {r} t q h) = ap (held kinds vars i r) q ∙ held_other i r t h
    coerces_is (at_non_null {v} {r} {o} q c) = inside v r q ∙ coerces_is c
    coerces_is (a_list {i} {vs} {r} {o} c e) = ap (λ (x : Out Trees). and_then x (λ ts. Got (Many ts))) (items_is c) ∙ e
    coerces_is (list_of_one {v} {r} {o} q c e) = wrapped v r q ∙ ap (λ (x : Out Tree). and_then x (λ t. Got (Many (also t no_more)))) (coerces_is c) ∙ e
    coerces_is no_list = refl
    coerces_is (an_integer e) = e
    coerces_is (a_float e) = e
    coerces_is (a_string e) = e
    coerces_is (a_boolean e) = e
    coerces_is (an_enum e) = e
    coerces_is (no_object {i} {es} {n} q) = of_object i es n ∙ ap (λ (m : Option (List Due)). tabled m i (in_object (missing_due i) (heads es) (givens kinds vars es))) q
    coerces_is (entry_repeated {i} {es} {n} {e} ds q a) = of_input i es n ds q
        ∙ ap (λ (m : Option At). unless m reason_repeated (unless (unknown_entry ds (heads es)) reason_unknown (and_then (due_fields (missing_due i) (givens kinds vars es) ds) (λ ps. Got (Fields ps))))) a
    coerces_is (entry_unknown {i} {es} {n} {e} ds q a b) = of_input i es n ds q
        ∙ ap (λ (m : Option At). unless m reason_repeated (unless (unknown_entry ds (heads es)) reason_unknown (and_then (due_fields (missing_due i) (givens kinds vars es) ds) (λ ps. Got (Fields ps))))) a
        ∙ ap (λ (m : Option At). unless m reason_unknown (and_then (due_fields (missing_due i) (givens kinds vars es) ds) (λ ps. Got (Fields ps)))) b
    coerces_is (an_object {i} {es} {n} {o} ds q a b c e) = of_input i es n ds q
        ∙ ap (λ (m : Option At). unless m reason_repeated (unless (unknown_entry ds (heads es)) reason_unknown (and_then (due_fields (missing_due i) (givens kinds vars es) ds) (λ ps. Got (Fields ps))))) a
        ∙ ap (λ (m : Option At). unless m reason_unknown (and_then (due_fields (missing_due i) (givens kinds vars es) ds) (λ ps. Got (Fields ps)))) b
        ∙ ap (λ (x : Out Pairs). and_then x (λ ps. Got (Fields ps))) (fields_is c) ∙ e

    pub items_is : {vs : Values} {r : Ref} {o : Out Trees} → Items kinds vars vs r o → coerce_all kinds vars vs r ≡ o
    items_is no_items = refl
    items_is (item_refused {v} {vs} {r} {i} {w} c) = ap (λ (x : Out Tree). and_then x (λ t. and_then (coerce_all kinds vars vs r) (λ ts. Got (also t ts)))) (coerces_is c)
    items_is (item_got {v} {vs} {r} {t} {o} c d e) = ap (λ (x : Out Tree). and_then x (λ t. and_then (coerce_all kinds vars vs r) (λ ts. Got (also t ts)))) (coerces_is c)
        ∙ ap (λ (x : Out Trees). and_then x (λ ts. Got (also t ts))) (items_is d) ∙ e

    pub fields_is : {i : At} {es : Entries} {ds : List Due} {o : Out Pairs} → InFields kinds vars i es ds o → due_fields (missing_due i) (givens kinds vars es) ds ≡ o
    fields_is no_fields = refl
    fields_is (required_missing {i} {es} {d} {ds} q h) = of_field i es d (due_fields (missing_due i) (givens kinds vars es) ds) none q ∙ ap (λ (b : Bool). cond b (No i reason_missing) (due_fields (missing_due i) (givens kinds vars es) ds)) h
    fields_is (by_left_out {i} {es} {d} {ds} {o} q h c) = of_field i es d (due_fields (missing_due i) (givens kinds vars es) ds) none q
        ∙ ap (λ (b : Bool). cond b (No i reason_missing) (due_fields (missing_due i) (givens kinds vars es) ds)) h ∙ fields_is c
    fields_is (field_refused {i} {es} {d} {ds} {j} {w} v q c) = of_field i es d (due_fields (missing_due i) (givens kinds vars es) ds) (some v) q
        ∙ ap (λ (x : Out Tree). and_then x (λ t. and_then (due_fields (missing_due i) (givens kinds vars es) ds) (λ ps. Got (pair d.name t ps)))) (coerces_is c)
    fields_is (field_got {i} {es} {d} {ds} {t} {o} v q c e f) = of_field i es d (due_fields (missing_due i) (givens kinds vars es) ds) (some v) q
        ∙ ap (λ (x : Out Tree). and_then x (λ t. and_then (due_fields (missing_due i) (givens kinds vars es) ds) (λ ps. Got (pair d.name t ps)))) (coerces_is c)
        ∙ ap (λ (x : Out Pairs). and_then x (λ ps. Got (pair d.name t ps))) (fields_is e) ∙ f

  -- at most one result
  pub coerces_one : (v : Value) (r : Ref) (o p : Out Tree) → Coerces kinds vars v r o → Coerces kinds vars v r p → o ≡ p
  coerces_one v r o p a b = sym (coerces_is a) ∙ coerces_is b

  -- ---- the computed result is one by the rules

  has_null : (i : At) (r : Ref) → Coerces kinds vars (null i) r (null_at i r)
  has_null i (named n) = null_kept refl
  has_null i (list_of r) = null_kept refl
  has_null i (non_null r) = null_refused refl

  has_held : (i : At) (n : Name) (r : Ref) (m : Option Tree) → vars n ≡ m → Coerces kinds vars (variable i n) r (held kinds vars i r m)
  has_held i n r none q = absent_variable q (has_null i r)
  has_held i n r (some Null) q = null_variable q (has_null i r)
  has_held i n r (some (Bits x)) q = held_variable (Bits x) q (λ e. subst is_other e tt)
  has_held i n r (some (Decimal s)) q = held_variable (Decimal s) q (λ e. subst is_other e tt)
  has_held i n r (some (Text s)) q = held_variable (Text s) q (λ e. subst is_other e tt)
  has_held i n r (some (Truth b)) q = held_variable (Truth b) q (λ e. subst is_other e tt)
  has_held i n r (some (Member m)) q = held_variable (Member m) q (λ e. subst is_other e tt)
  has_held i n r (some (Many ts)) q = held_variable (Many ts) q (λ e. subst is_other e tt)
  has_held i n r (some (Fields ps)) q = held_variable (Fields ps) q (λ e. subst is_other e tt)
  has_held i n r (some (Token s)) q = held_variable (Token s) q (λ e. subst is_other e tt)

  has_single : (v : Value) (f : Kind → Out Tree) → single_value v ≡ true → plain_value v ≡ true → ((n : Name) → Coerces kinds vars v (named n) (f (kinds n))) → (r : Ref) → Coerces kinds vars v r (single kinds vars f r)
  has_single v f q p h (named n) = h n
  has_single v f q p h (list_of r) = list_of_one q (has_single v f q p h r) refl
  has_single v f q p h (non_null r) = at_non_null p (has_single v f q p h r)

  has_several : (i : At) (vs : Values) → ((r : Ref) → Items kinds vars vs r (coerce_all kinds vars vs r)) → (r : Ref)
      → Coerces kinds vars (list i vs) r (several kinds vars i (λ q. coerce_all kinds vars vs q) r)
  has_several i vs h (named n) = no_list
  has_several i vs h (list_of r) = a_list (h r) refl
  has_several i vs h (non_null r) = at_non_null refl (has_several i vs h r)

  -- every value that an entry has is coerced
  abbrev Each : Entries → Type 0
  Each es = (n : Name) (v : Value) → value_for kinds vars n es ≡ some v → (r : Ref) → Coerces kinds vars v r (coerce kinds vars v r)

  has_field : (i : At) (es : Entries) (d : Due) (ds : List Due) (rest : Out Pairs) → Each es → InFields kinds vars i es ds rest → (m : Option Value) → value_for kinds vars d.name es ≡ m
      → InFields kinds vars i es (d ∷ ds) (due_field (missing_due i d rest) d (into m) rest)
  has_field i es d ds rest h c none q = go (is_non_null d.type) refl
    where
      go : (b : Bool) → is_non_null d.type ≡ b → InFields kinds vars i es (d ∷ ds) (cond b (No i reason_missing) rest)
      go true e = required_missing q e
      go false e = by_left_out q e c
  has_field i es d ds rest h c (some v) q = go (coerce kinds vars v d.type) (h d.name v q d.type)
    where
      go : (o : Out Tree) → Coerces kinds vars v d.type o → InFields kinds vars i es (d ∷ ds) (and_then o (λ t. and_then rest (λ ps. Got (pair d.name t ps))))
      go (Got t) e = field_got v q e c refl
      go (No j w) e = field_refused v q e

  has_fields : (i : At) (es : Entries) → Each es → (ds : List Due) → InFields kinds vars i es ds (due_fields (missing_due i) (givens kinds vars es) ds)
  has_fields i es h [] = no_fields
  has_fields i es h (d ∷ ds) = subst (λ (o : Out Pairs). InFields kinds vars i es (d ∷ ds) o)
      (sym (of_field i es d (due_fields (missing_due i) (givens kinds vars es) ds) (value_for kinds vars d.name es) refl))
      (has_field i es d ds (due_fields (missing_due i) (givens kinds vars es) ds) h (has_fields i es h ds) (value_for kinds vars d.name es) refl)

  has_input : (i : At) (es : Entries) (n : Name) → Each es → (m : Option (List Due)) → as_input (kinds n) ≡ m
      → Coerces kinds vars (object i es) (named n) (tabled m i (in_object (missing_due i) (heads es) (givens kinds vars es)))
  has_input i es n h none q = no_object q
  has_input i es n h (some ds) q = go (repeated_entry [] (heads es)) refl (unknown_entry ds (heads es)) refl
    where
      go : (a : Option At) → repeated_entry [] (heads es) ≡ a → (b : Option At) → unknown_entry ds (heads es) ≡ b
          → Coerces kinds vars (object i es) (named n) (unless a reason_repeated (unless b reason_unknown (and_then (due_fields (missing_due i) (givens kinds vars es) ds) (λ ps. Got (Fields ps)))))
      go none e none f = an_object ds q e f (has_fields i es h ds) refl
      go none e (some x) f = entry_unknown ds q e f
      go (some x) e b f = entry_repeated ds q e

  has_object : (i : At) (es : Entries) → Each es → (n : Name) → Coerces kinds vars (object i es) (named n) (object_at i (in_object (missing_due i) (heads es) (givens kinds vars es)) (kinds n))
  has_object i es h n = subst (λ (o : Out Tree). Coerces kinds vars (object i es) (named n) o)
      (sym (object_tabled (kinds n) i (in_object (missing_due i) (heads es) (givens kinds vars es)))) (has_input i es n h (as_input (kinds n)) refl)

  has_items : (v : Value) (vs : Values) (r : Ref) (o : Out Tree) → Coerces kinds vars v r o → Items kinds vars vs r (coerce_all kinds vars vs r)
      → Items kinds vars (item v vs) r (and_then o (λ t. and_then (coerce_all kinds vars vs r) (λ ts. Got (also t ts))))
  has_items v vs r (Got t) c d = item_got c d refl
  has_items v vs r (No i w) c d = item_refused c

  has_entry : (m : Name) (w : Value) (es : Entries) → ((r : Ref) → Coerces kinds vars w r (coerce kinds vars w r)) → Each es
      → (n : Name) (v : Value) (b c : Bool) → cond b (cond c none (some w)) (value_for kinds vars n es) ≡ some v → (r : Ref) → Coerces kinds vars v r (coerce kinds vars v r)
  has_entry m w es h t n v true true q r = absurd (subst is_absent q tt)
  has_entry m w es h t n v true false q r = subst (λ (x : Value). Coerces kinds vars x r (coerce kinds vars x r)) (ap (value_or w) q) (h r)
  has_entry m w es h t n v false c q r = t n v q r

  mutual
    unfolding coerce

    pub coerces_has : (v : Value) (r : Ref) → Coerces kinds vars v r (coerce kinds vars v r)
    coerces_has (variable i n) r = has_held i n r (vars n) refl
    coerces_has (integer i s) r = has_single (integer i s) (integer_at i s) refl refl (λ n. an_integer refl) r
    coerces_has (float i s) r = has_single (float i s) (float_at i s) refl refl (λ n. a_float refl) r
    coerces_has (string i s cs) r = has_single (string i s cs) (string_at i s cs) refl refl (λ n. a_string refl) r
    coerces_has (boolean i b) r = has_single (boolean i b) (boolean_at i b) refl refl (λ n. a_boolean refl) r
    coerces_has (null i) r = has_null i r
    coerces_has (enum i e) r = has_single (enum i e) (enum_at i e) refl refl (λ n. an_enum refl) r
    coerces_has (list i vs) r = has_several i vs (λ q. items_have vs q) r
    coerces_has (object i es) r = has_single (object i es) (object_at i (in_object (missing_due i) (heads es) (givens kinds vars es))) refl refl (has_object i es (λ n v q r. entries_have es n v q r)) r

    pub items_have : (vs : Values) (r : Ref) → Items kinds vars vs r (coerce_all kinds vars vs r)
    items_have no_values r = no_items
    items_have (item v vs) r = has_items v vs r (coerce kinds vars v r) (coerces_has v r) (items_have vs r)

    pub entries_have : (es : Entries) (n : Name) (v : Value) → value_for kinds vars n es ≡ some v → (r : Ref) → Coerces kinds vars v r (coerce kinds vars v r)
    entries_have no_entries n v q r = absurd (subst is_absent q tt)
    entries_have (entry i m w es) n v q r = has_entry m w es (λ r. coerces_has w r) (λ n v q r. entries_have es n v q r) n v (same n m) (left_out kinds vars w) q r
