-- Where a refusal may stand: a promise that every place in a value keeps is kept by the place that is refused. So a refused row is one of the text's.
-- Assumes nothing.
use mathlib.Core.Bool.{Bool, true, false, cond, ◌&&◌}
use mathlib.Core.Option.{Option, none, some}
use mathlib.Core.List.{List, [], ◌∷◌}
use Prim.Native.Nat.{ℕ, zero, suc, ◌+◌, ◌-◌, ◌≤◌, ◌<◌}
use native.Mathlib.Omega.{arith}
use lib.Dec.{eqb}
use Rattle.paper.specs.Tokens.{same}
use Rattle.paper_table.specs.Lists.{any_of}
use Rattle.paper_table.specs.References.{Ref, named, list_of, non_null, is_non_null}
use Rattle.paper_query.specs.Constructs.{Doc, count, kind_of, parent_of, name_of}
use Rattle.paper_values.specs.Values.{Name, At, Value, variable, integer, float, string, boolean, null, enum, list, object, Values, no_values, item, Entries, no_entries, entry, Due, Tree, Null, Bits, Decimal, Text, Truth, Member, Many, Fields, Token, Trees, Pairs, pair, Out, Got, No, and_then}
use Rattle.paper_values.specs.Kinds.{Kind, Int, Float, String, Boolean, ID, Own, Other, Enum, Input}
use Rattle.paper_values.specs.Computed.{null_at, object_at, Given, entry_of, pair_first, missing_due, due_field, due_fields, unless, in_object, single, several, held, coerce, coerce_all, givens, constant, or_default, variables_from, variables_of}
use Rattle.paper_values.specs.Coercion.{in_range, text_at, integer_at, float_at, string_at, boolean_at, enum_at, heads, repeated_entry, unknown_entry}
use Rattle.paper_values.specs.NumberTokens.{int_of, float_content}
use Rattle.paper_values.specs.RowValues.{placed, items_from, entries_from, value_by, value_at}
use Rattle.paper.specs.Numbers.{kind_variable, kind_integer, kind_float, kind_string, kind_boolean, kind_null, kind_enum, kind_list, kind_object_field}

module _ (P : At → Type 0) where
  -- the place of a refusal keeps it
  abbrev pub Kept : {A : Type 0} → Out A → Type 0
  Kept (Got a) = Unit
  Kept (No i w) = P i

  -- all places in a value keep it
  unfoldable mutual
    pub Placed : Value → Type 0
    Placed (variable i n) = P i
    Placed (integer i s) = P i
    Placed (float i s) = P i
    Placed (string i s cs) = P i
    Placed (boolean i b) = P i
    Placed (null i) = P i
    Placed (enum i n) = P i
    Placed (list i vs) = P i × PlacedAll vs
    Placed (object i es) = P i × PlacedEntries es

    pub PlacedAll : Values → Type 0
    PlacedAll no_values = Unit
    PlacedAll (item v vs) = Placed v × PlacedAll vs

    pub PlacedEntries : Entries → Type 0
    PlacedEntries no_entries = Unit
    PlacedEntries (entry i n v es) = P i × Placed v × PlacedEntries es

  kept_then : {A B : Type 0} (o : Out A) (f : A → Out B) → Kept o → ((a : A) → Kept (f a)) → Kept (and_then o f)
  kept_then (Got a) f k h = h a
  kept_then (No i w) f k h = k

  kept_if : {A : Type 0} (b : Bool) (o p : Out A) → Kept o → Kept p → Kept (cond b o p)
  kept_if true o p k l = k
  kept_if false o p k l = l

  -- ---- tokens and null

  kept_null : (i : At) (r : Ref) → P i → Kept (null_at i r)
  kept_null i (named n) h = tt
  kept_null i (list_of r) h = tt
  kept_null i (non_null r) h = h

  kept_range : {A : Type 0} (i : At) (f : A → Tree) (o : Option A) → P i → Kept (in_range i f o)
  kept_range i f none h = h
  kept_range i f (some x) h = tt

  kept_text : (i : At) (o : Option (List ℕ)) → P i → Kept (text_at i o)
  kept_text i none h = h
  kept_text i (some s) h = tt

  kept_integer : (i : At) (s : List ℕ) (k : Kind) → P i → Kept (integer_at i s k)
  kept_integer i s Int h = kept_range i Bits (int_of s) h
  kept_integer i s Float h = kept_range i Decimal (float_content true s) h
  kept_integer i s String h = h
  kept_integer i s Boolean h = h
  kept_integer i s ID h = tt
  kept_integer i s Own h = tt
  kept_integer i s Other h = h
  kept_integer i s (Enum ms) h = h
  kept_integer i s (Input ds) h = h

  kept_float : (i : At) (s : List ℕ) (k : Kind) → P i → Kept (float_at i s k)
  kept_float i s Int h = h
  kept_float i s Float h = kept_range i Decimal (float_content false s) h
  kept_float i s String h = h
  kept_float i s Boolean h = h
  kept_float i s ID h = h
  kept_float i s Own h = tt
  kept_float i s Other h = h
  kept_float i s (Enum ms) h = h
  kept_float i s (Input ds) h = h

  kept_string : (i : At) (s : List ℕ) (cs : Option (List ℕ)) (k : Kind) → P i → Kept (string_at i s cs k)
  kept_string i s cs Int h = h
  kept_string i s cs Float h = h
  kept_string i s cs String h = kept_text i cs h
  kept_string i s cs Boolean h = h
  kept_string i s cs ID h = kept_text i cs h
  kept_string i s cs Own h = tt
  kept_string i s cs Other h = h
  kept_string i s cs (Enum ms) h = h
  kept_string i s cs (Input ds) h = h

  kept_boolean : (i : At) (b : Bool) (k : Kind) → P i → Kept (boolean_at i b k)
  kept_boolean i b Int h = h
  kept_boolean i b Float h = h
  kept_boolean i b String h = h
  kept_boolean i b Boolean h = tt
  kept_boolean i b ID h = h
  kept_boolean i b Own h = tt
  kept_boolean i b Other h = h
  kept_boolean i b (Enum ms) h = h
  kept_boolean i b (Input ds) h = h

  kept_enum : (i : At) (n : Name) (k : Kind) → P i → Kept (enum_at i n k)
  kept_enum i n Int h = h
  kept_enum i n Float h = h
  kept_enum i n String h = h
  kept_enum i n Boolean h = h
  kept_enum i n ID h = h
  kept_enum i n Own h = h
  kept_enum i n Other h = h
  kept_enum i n (Enum ms) h = kept_if (any_of (same n) ms) (Got (Member n)) (No i 7) tt h
  kept_enum i n (Input ds) h = h

  kept_object : (i : At) (f : List Due → Out Tree) (k : Kind) → P i → ((ds : List Due) → Kept (f ds)) → Kept (object_at i f k)
  kept_object i f Int h g = h
  kept_object i f Float h g = h
  kept_object i f String h g = h
  kept_object i f Boolean h g = h
  kept_object i f ID h g = h
  kept_object i f Own h g = h
  kept_object i f Other h g = h
  kept_object i f (Enum ms) h g = h
  kept_object i f (Input ds) h g = g ds

  -- ---- objects

  abbrev Told : Option At → Type 0
  Told none = Unit
  Told (some i) = P i

  kept_unless : {A : Type 0} (m : Option At) (w : ℕ) (o : Out A) → Told m → Kept o → Kept (unless m w o)
  kept_unless none w o h k = k
  kept_unless (some i) w o h k = h

  told_if : (b : Bool) (i : At) (m : Option At) → P i → Told m → Told (cond b (some i) m)
  told_if true i m h k = h
  told_if false i m h k = k

  told_unless : (b : Bool) (i : At) (m : Option At) → P i → Told m → Told (cond b m (some i))
  told_unless true i m h k = k
  told_unless false i m h k = h

  kept_repeated : (es : Entries) (seen : List Name) → PlacedEntries es → Told (repeated_entry seen (heads es))
  unfolding Placed
  kept_repeated no_entries seen h = tt
  kept_repeated (entry i n v es) seen h = told_if (any_of (same n) seen) i (repeated_entry (n ∷ seen) (heads es)) h.0 (kept_repeated es (n ∷ seen) h.2)

  kept_unknown : (es : Entries) (ds : List Due) → PlacedEntries es → Told (unknown_entry ds (heads es))
  unfolding Placed
  kept_unknown no_entries ds h = tt
  kept_unknown (entry i n v es) ds h = told_unless (any_of (λ d. same n d.name) ds) i (unknown_entry ds (heads es)) h.0 (kept_unknown es ds h.2)

  -- what is given keeps it at every type
  abbrev Givens : List Given → Type 0
  Givens [] = Unit
  Givens (g ∷ gs) = ((r : Ref) → Kept (g.at r)) × Givens gs

  abbrev Found : Option (Ref → Out Tree) → Type 0
  Found none = Unit
  Found (some f) = (r : Ref) → Kept (f r)

  found_if : (b c : Bool) (f : Ref → Out Tree) (m : Option (Ref → Out Tree)) → ((r : Ref) → Kept (f r)) → Found m → Found (cond b (cond c none (some f)) m)
  found_if true true f m h k = tt
  found_if true false f m h k = h
  found_if false c f m h k = k

  kept_entry : (n : Name) (gs : List Given) → Givens gs → Found (entry_of n gs)
  kept_entry n [] h = tt
  kept_entry n (g ∷ gs) h = found_if (same n g.name) g.out g.at (entry_of n gs) h.0 (kept_entry n gs h.1)

  kept_first : (n : Name) (o : Out Tree) (rest : Out Pairs) → Kept o → Kept rest → Kept (pair_first n o rest)
  kept_first n o rest k h = kept_then o (λ t. and_then rest (λ ps. Got (pair n t ps))) k (λ t. kept_then rest (λ ps. Got (pair n t ps)) h (λ ps. tt))

  kept_field : (lack : Out Pairs) (d : Due) (m : Option (Ref → Out Tree)) (rest : Out Pairs) → Kept lack → Found m → Kept rest → Kept (due_field lack d m rest)
  kept_field lack d none rest k f h = k
  kept_field lack d (some g) rest k f h = kept_first d.name (g d.type) rest (f d.type) h

  kept_missing : (i : At) (d : Due) (rest : Out Pairs) → P i → Kept rest → Kept (missing_due i d rest)
  kept_missing i d rest h k = kept_if (is_non_null d.type) (No i 3) rest h k

  kept_fields : (lack : Due → Out Pairs → Out Pairs) → ((d : Due) (rest : Out Pairs) → Kept rest → Kept (lack d rest)) → (gs : List Given) → Givens gs → (ds : List Due) → Kept (due_fields lack gs ds)
  kept_fields lack l gs h [] = tt
  kept_fields lack l gs h (d ∷ ds) =
      kept_field (lack d (due_fields lack gs ds)) d (entry_of d.name gs) (due_fields lack gs ds) (l d (due_fields lack gs ds) (kept_fields lack l gs h ds)) (kept_entry d.name gs h) (kept_fields lack l gs h ds)

  kept_input : (lack : Due → Out Pairs → Out Pairs) → ((d : Due) (rest : Out Pairs) → Kept rest → Kept (lack d rest)) → (es : Entries) → PlacedEntries es → (gs : List Given) → Givens gs → (ds : List Due)
      → Kept (in_object lack (heads es) gs ds)
  kept_input lack l es p gs h ds =
      kept_unless (repeated_entry [] (heads es)) 6 _ (kept_repeated es [] p)
      (kept_unless (unknown_entry ds (heads es)) 5 _ (kept_unknown es ds p)
      (kept_then (due_fields lack gs ds) (λ ps. Got (Fields ps)) (kept_fields lack l gs h ds) (λ ps. tt)))

  -- ---- values

  module _ (kinds : Name → Kind) (vars : Name → Option Tree) where
    kept_single : (f : Kind → Out Tree) → ((k : Kind) → Kept (f k)) → (r : Ref) → Kept (single kinds vars f r)
    kept_single f h (named n) = h (kinds n)
    kept_single f h (list_of r) = kept_then (single kinds vars f r) _ (kept_single f h r) (λ t. tt)
    kept_single f h (non_null r) = kept_single f h r

    kept_several : (i : At) (items : Ref → Out Trees) → P i → ((r : Ref) → Kept (items r)) → (r : Ref) → Kept (several kinds vars i items r)
    kept_several i items p h (named n) = p
    kept_several i items p h (list_of r) = kept_then (items r) _ (h r) (λ ts. tt)
    kept_several i items p h (non_null r) = kept_several i items p h r

    kept_held : (i : At) (r : Ref) (m : Option Tree) → P i → Kept (held kinds vars i r m)
    kept_held i r none p = kept_null i r p
    kept_held i r (some Null) p = kept_null i r p
    kept_held i r (some (Bits x)) p = tt
    kept_held i r (some (Decimal s)) p = tt
    kept_held i r (some (Text s)) p = tt
    kept_held i r (some (Truth b)) p = tt
    kept_held i r (some (Member n)) p = tt
    kept_held i r (some (Many ts)) p = tt
    kept_held i r (some (Fields ps)) p = tt
    kept_held i r (some (Token s)) p = tt

    mutual
      unfolding coerce Placed

      pub value_kept : (v : Value) → Placed v → (r : Ref) → Kept (coerce kinds vars v r)
      value_kept (variable i n) p r = kept_held i r (vars n) p
      value_kept (integer i s) p r = kept_single (integer_at i s) (λ k. kept_integer i s k p) r
      value_kept (float i s) p r = kept_single (float_at i s) (λ k. kept_float i s k p) r
      value_kept (string i s cs) p r = kept_single (string_at i s cs) (λ k. kept_string i s cs k p) r
      value_kept (boolean i b) p r = kept_single (boolean_at i b) (λ k. kept_boolean i b k p) r
      value_kept (null i) p r = kept_null i r p
      value_kept (enum i n) p r = kept_single (enum_at i n) (λ k. kept_enum i n k p) r
      value_kept (list i vs) p r = kept_several i (λ q. coerce_all kinds vars vs q) p.0 (λ q. items_kept vs p.1 q) r
      value_kept (object i es) p r =
          kept_single (object_at i (in_object (missing_due i) (heads es) (givens kinds vars es)))
          (λ k. kept_object i (in_object (missing_due i) (heads es) (givens kinds vars es)) k p.0
          (λ ds. kept_input (missing_due i) (λ d rest h. kept_missing i d rest p.0 h) es p.1 (givens kinds vars es) (givens_kept es p.1) ds)) r

      pub items_kept : (vs : Values) → PlacedAll vs → (r : Ref) → Kept (coerce_all kinds vars vs r)
      items_kept no_values p r = tt
      items_kept (item v vs) p r = kept_then (coerce kinds vars v r) _ (value_kept v p.0 r) (λ t. kept_then (coerce_all kinds vars vs r) _ (items_kept vs p.1 r) (λ ts. tt))

      pub givens_kept : (es : Entries) → PlacedEntries es → Givens (givens kinds vars es)
      givens_kept no_entries p = tt
      givens_kept (entry i n v es) p = (λ r. value_kept v p.1 r, givens_kept es p.2)

  -- ---- the calls

  abbrev pub PlacedIf : Option Value → Type 0
  PlacedIf none = Unit
  PlacedIf (some v) = Placed v

  -- what is due: the places where it is told, and its defaults
  abbrev pub PlacedDues : List (At × Due) → Type 0
  PlacedDues [] = Unit
  PlacedDues (v ∷ vs) = P v.0 × PlacedIf v.1.default × PlacedDues vs

  module _ (kinds : Name → Kind) where
    kept_default : (i : At) (d : Due) (m : Option Value) (rest : Out Pairs) → P i → PlacedIf m → Kept rest → Kept (or_default kinds i d m rest)
    kept_default i d none rest p h k = kept_missing i d rest p k
    kept_default i d (some v) rest p h k = kept_first d.name (constant kinds v d.type) rest (value_kept kinds (λ n. none) v h d.type) k

    kept_variables : (gs : List Given) → Givens gs → (vs : List (At × Due)) → PlacedDues vs → Kept (variables_from kinds gs vs)
    kept_variables gs h [] p = tt
    kept_variables gs h (v ∷ vs) p =
        kept_field (or_default kinds v.0 v.1 v.1.default (variables_from kinds gs vs)) v.1 (entry_of v.1.name gs) (variables_from kinds gs vs)
        (kept_default v.0 v.1 v.1.default (variables_from kinds gs vs) p.0 p.1 (kept_variables gs h vs p.2))
        (kept_entry v.1.name gs h) (kept_variables gs h vs p.2)

    pub variables_kept : (es : Entries) → PlacedEntries es → (vs : List (At × Due)) → PlacedDues vs → Kept (variables_of kinds es vs)
    variables_kept es p vs q =
        kept_unless (repeated_entry [] (heads es)) 6 (variables_from kinds (givens kinds (λ n. none) es) vs) (kept_repeated es [] p)
        (kept_variables (givens kinds (λ n. none) es) (givens_kept kinds (λ n. none) es p) vs q)

    -- an object's entries, or a field's arguments, where these are due
    pub object_kept : (vars : Name → Option Tree) (i : At) → P i → (es : Entries) → PlacedEntries es → (ds : List Due) → Kept (in_object (missing_due i) (heads es) (givens kinds vars es) ds)
    object_kept vars i p es q ds = kept_input (missing_due i) (λ d rest h. kept_missing i d rest p h) es q (givens kinds vars es) (givens_kept kinds vars es q) ds

-- ---- rows

-- the row of a place is at most m
abbrev pub UpTo : ℕ → At → Type 0
UpTo m i = i.row ≤ m

value_if : (m : ℕ) (b : Bool) (v w : Value) → Placed (UpTo m) v → Placed (UpTo m) w → Placed (UpTo m) (cond b v w)
value_if m true v w p q = p
value_if m false v w p q = q

items_if : (m : ℕ) (b : Bool) (v w : Values) → PlacedAll (UpTo m) v → PlacedAll (UpTo m) w → PlacedAll (UpTo m) (cond b v w)
items_if m true v w p q = p
items_if m false v w p q = q

entries_if : (m : ℕ) (b : Bool) (v w : Entries) → PlacedEntries (UpTo m) v → PlacedEntries (UpTo m) w → PlacedEntries (UpTo m) (cond b v w)
entries_if m true v w p q = p
entries_if m false v w p q = q

module _ (text : ℕ) (d : Doc) (m : ℕ) (few : count d ≤ m) where
  items_placed : (read : ℕ → Value) → ((i : ℕ) → i ≤ m → Placed (UpTo m) (read i)) → (h k c : ℕ) → (0 < k → c + k ≤ m) → PlacedAll (UpTo m) (items_from text d read h k c)
  unfolding Placed items_from
  items_placed read p h zero c q = tt
  items_placed read p h (suc k) c q =
      let f : c + suc k ≤ m = q (omega arith) in
      let rest = items_placed read p h k (c + 1) (λ z. omega (arith, f)) in
      items_if m (eqb (parent_of d c) h) (item (read c) (items_from text d read h k (c + 1))) (items_from text d read h k (c + 1)) (p c (omega (arith, f)), rest) rest

  pub entries_placed : (read : ℕ → Value) → ((i : ℕ) → i ≤ m → Placed (UpTo m) (read i)) → (kind h k c : ℕ) → (0 < k → c + k ≤ m) → PlacedEntries (UpTo m) (entries_from text d read kind h k c)
  unfolding Placed entries_from
  entries_placed read p kind h zero c q = tt
  entries_placed read p kind h (suc k) c q =
      let f : c + suc k ≤ m = q (omega arith) in
      let rest = entries_placed read p kind h k (c + 1) (λ z. omega (arith, f)) in
      entries_if m (eqb (parent_of d c) h && eqb (kind_of d c) kind) (entry (placed text d c) (name_of d c) (read (c + 1)) (entries_from text d read kind h k (c + 1))) (entries_from text d read kind h k (c + 1))
      (omega (arith, f), p (c + 1) (omega (arith, f)), rest) rest

  by_placed : (read : ℕ → Value) → ((i : ℕ) → i ≤ m → Placed (UpTo m) (read i)) → (i : ℕ) → i ≤ m → Placed (UpTo m) (value_by text d read i)
  unfolding Placed value_by
  by_placed read p i q =
      value_if m (eqb (kind_of d i) kind_variable) _ _ q
      (value_if m (eqb (kind_of d i) kind_integer) _ _ q
      (value_if m (eqb (kind_of d i) kind_float) _ _ q
      (value_if m (eqb (kind_of d i) kind_string) _ _ q
      (value_if m (eqb (kind_of d i) kind_boolean) _ _ q
      (value_if m (eqb (kind_of d i) kind_null) _ _ q
      (value_if m (eqb (kind_of d i) kind_enum) _ _ q
      (value_if m (eqb (kind_of d i) kind_list) _ _ (q, items_placed read p i (count d - (i + 1)) (i + 1) (λ z. omega (arith, z, few)))
      (q, entries_placed read p kind_object_field i (count d - (i + 1)) (i + 1) (λ z. omega (arith, z, few))))))))))

  -- every place in the value of a row is a row of the text, or one past the last
  pub value_placed : (k i : ℕ) → i ≤ m → Placed (UpTo m) (value_at text d k i)
  unfolding Placed value_at
  value_placed zero i q = q
  value_placed (suc k) i q = by_placed (value_at text d k) (λ j z. value_placed k j z) i q
