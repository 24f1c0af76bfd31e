-- Rows in their text, and what a row is at the base of a type.
use mathlib.Core.Path.{◌≡◌, refl, sym, ap, subst, ◌∙◌}
use mathlib.Core.Bool.{Bool, true, false, ◌||◌, cond}
use mathlib.Core.Option.{Option, none, some}
use mathlib.Core.List.{List}
use Prim.Native.Nat.{ℕ, ◌+◌, ◌-◌, ◌≤◌, ◌<◌}
use native.Mathlib.Omega.{arith}
use native.Mathlib.Decide.{dec_lt}
use Rattle.std.proofs.Common.{Result, Err}
use lib.ListN.{length, take, drop}
use lib.Dec.{eqb, ltb}
use borrow.Author.Tests.{eq-eqb, ne_eqb, eqb-true, eqb-false, lt-ltb, le-ltb, ltb-false}
use Rattle.paper.specs.Numbers.{kind_variable, kind_integer, kind_float, kind_string, kind_boolean, kind_null, kind_enum, kind_list, kind_object_field, extra_true}
use Rattle.paper_table.specs.References.{named}
use Rattle.paper.specs.Tokens.{same}
use Rattle.paper_table.specs.Lists.{any_of}
use Rattle.paper_table.specs.Types.{table_of}
use Rattle.paper_query.specs.Constructs.{Doc, count, kind_of, extra_of, name_of}
use Rattle.table_book.specs.Book.{part}
use Rattle.query_rows.specs.Rowed.{row_in, doc_of}
use Rattle.query_rows.proofs.RowsIn.{row_at_is, row_none}
use Rattle.paper.specs.Rows.{Row}
use Rattle.paper_values.specs.ValueNumbers.{reason_kind, reason_enum}
use Rattle.paper_values.specs.Characters.{characters_of}
use Rattle.paper_values.specs.Values.{Name, At, Value, variable, integer, float, string, boolean, null, enum, list, object, Due, Tree, Bits, Decimal, Member, Out, Got, No}
use Rattle.paper_values.specs.Kinds.{Kind, Int, Float, String, Boolean, ID, Own, Other, Enum, Input, kind_of_type}
use Rattle.paper_values.specs.NumberTokens.{int_of, float_content}
use Rattle.paper_values.specs.Coercion.{in_range, text_at, enum_value_at, integer_at, float_at, string_at, boolean_at, enum_at}
use Rattle.paper_values.specs.Computed.{object_at, coerce}
use Rattle.paper_values.specs.RowValues.{placed, token_at, items_from, entries_from, value_by}
use Rattle.value_leaves.specs.Leaves.{sort_of, Leaf}
use Rattle.value_kinds.specs.Dues.{Sorted, refused, told, Told}
use Rattle.value_tokens.specs.Spans.{Spanned, is_object_kind, takes_fields, Tokened}

-- ---- rows

module _ (s rows : List ℕ) (n : ℕ) (r : Spanned s rows n) where
  -- a row lies in the bytes, also one that is not there
  pub row_span : (i : ℕ) → ((row_in rows n i).start ≤ (row_in rows n i).end) × ((row_in rows n i).end ≤ length s)
  row_span i = go (dec_lt i n)
    where
      go : Dec (i < n) → ((row_in rows n i).start ≤ (row_in rows n i).end) × ((row_in rows n i).end ≤ length s)
      go (yes h) = rw (row_at_is rows n i h) (r.order i h, r.within i h)
      go (no h) = rw (row_none rows n i (omega arith)) (omega arith, omega arith)

  pub row_quotes : (i : ℕ) → (row_in rows n i).kind ≡ kind_string → (row_in rows n i).start + 2 ≤ (row_in rows n i).end
  row_quotes i q = go (dec_lt i n)
    where
      go : Dec (i < n) → (row_in rows n i).start + 2 ≤ (row_in rows n i).end
      go (yes h) = rw (row_at_is rows n i h) (r.quotes i h (sym (ap (λ (x : Row). x.kind) (row_at_is rows n i h)) ∙ q))
      go (no h) = absurd (let z : (row_in rows n i).kind ≡ 0 = ap (λ (x : Row). x.kind) (row_none rows n i (omega arith)) in omega (arith, z, q))

-- ---- what takes fields

pub takes_not : (kind sort : ℕ) → (sort ≡ 8 → ⊥) → false ≡ takes_fields kind sort
takes_not kind sort q = rw (ne_eqb sort 8 q) refl

pub takes_low : (kind sort : ℕ) → sort ≡ 8 → kind < kind_variable → true ≡ takes_fields kind sort
takes_low kind sort q l = rw (eq-eqb sort 8 q, lt-ltb kind kind_variable l) refl

pub takes_high : (kind sort : ℕ) → sort ≡ 8 → kind_variable ≤ kind → ltb kind_list kind ≡ takes_fields kind sort
takes_high kind sort q l = rw (eq-eqb sort 8 q, le-ltb kind kind_variable l) refl

-- ---- values by their kinds

module _ (text : ℕ) (d : Doc) (read : ℕ → Value) (i : ℕ) where
  by_kind : (k : ℕ) → kind_of d i ≡ k → value_by text d read i ≡
      cond (eqb k kind_variable) (variable (placed text d i) (name_of d i))
      (cond (eqb k kind_integer) (integer (placed text d i) (token_at text d i))
      (cond (eqb k kind_float) (float (placed text d i) (token_at text d i))
      (cond (eqb k kind_string) (string (placed text d i) (token_at text d i) (characters_of (token_at text d i)))
      (cond (eqb k kind_boolean) (boolean (placed text d i) (eqb (extra_of d i) extra_true))
      (cond (eqb k kind_null) (null (placed text d i))
      (cond (eqb k kind_enum) (enum (placed text d i) (name_of d i))
      (cond (eqb k kind_list) (list (placed text d i) (items_from text d read i (count d - (i + 1)) (i + 1)))
      (object (placed text d i) (entries_from text d read kind_object_field i (count d - (i + 1)) (i + 1))))))))))
  unfolding value_by
  by_kind k e = rw e refl

  pub value_variable : kind_of d i ≡ kind_variable → value_by text d read i ≡ variable (placed text d i) (name_of d i)
  value_variable e = by_kind kind_variable e

  pub value_integer : kind_of d i ≡ kind_integer → value_by text d read i ≡ integer (placed text d i) (token_at text d i)
  value_integer e = by_kind kind_integer e

  pub value_float : kind_of d i ≡ kind_float → value_by text d read i ≡ float (placed text d i) (token_at text d i)
  value_float e = by_kind kind_float e

  pub value_string : kind_of d i ≡ kind_string → value_by text d read i ≡ string (placed text d i) (token_at text d i) (characters_of (token_at text d i))
  value_string e = by_kind kind_string e

  pub value_boolean : kind_of d i ≡ kind_boolean → value_by text d read i ≡ boolean (placed text d i) (eqb (extra_of d i) extra_true)
  value_boolean e = by_kind kind_boolean e

  pub value_null : kind_of d i ≡ kind_null → value_by text d read i ≡ null (placed text d i)
  value_null e = by_kind kind_null e

  pub value_enum : kind_of d i ≡ kind_enum → value_by text d read i ≡ enum (placed text d i) (name_of d i)
  value_enum e = by_kind kind_enum e

  pub value_list : kind_of d i ≡ kind_list → value_by text d read i ≡ list (placed text d i) (items_from text d read i (count d - (i + 1)) (i + 1))
  value_list e = by_kind kind_list e

  pub value_object : is_object_kind (kind_of d i) ≡ true → value_by text d read i ≡ object (placed text d i) (entries_from text d read kind_object_field i (count d - (i + 1)) (i + 1))
  value_object e = by_kind (kind_of d i) refl
      ∙ rw (
        ne_eqb (kind_of d i) 20 (not_in 20 refl refl),
        ne_eqb (kind_of d i) 21 (not_in 21 refl refl),
        ne_eqb (kind_of d i) 22 (not_in 22 refl refl),
        ne_eqb (kind_of d i) 23 (not_in 23 refl refl),
        ne_eqb (kind_of d i) 24 (not_in 24 refl refl),
        ne_eqb (kind_of d i) 25 (not_in 25 refl refl),
        ne_eqb (kind_of d i) 26 (not_in 26 refl refl),
        ne_eqb (kind_of d i) 27 (not_in 27 refl refl),
      ) refl
    where
      not_in : (k : ℕ) → ltb k kind_variable ≡ false → ltb kind_list k ≡ false → kind_of d i ≡ k → ⊥
      not_in k a b q = let z : is_object_kind (kind_of d i) ≡ false = ap is_object_kind q ∙ rw (a, b) refl in absurd (let y : ◌≡◌ {A = ℕ} 0 1 = cc in omega arith)

-- ---- a leaf at a base

-- ---- refusals at a row are at its place

abbrev Here : At → Out Tree → Type 0
Here i (Got t) = i ≡ i
Here i (No j why) = j ≡ i

here_range : {A : Type 0} (i : At) (f : A → Tree) (o : Option A) → Here i (in_range i f o)
here_range i f none = refl
here_range i f (some x) = refl

here_text : (i : At) (o : Option (List ℕ)) → Here i (text_at i o)
here_text i none = refl
here_text i (some x) = refl

here_member : (i : At) (n : Name) (ms : List Name) → Here i (enum_value_at i n ms)
here_member i n ms = go (any_of (same n) ms)
  where
    go : (b : Bool) → Here i (cond b (Got (Member n)) (No i reason_enum))
    go true = refl
    go false = refl

here_integer : (i : At) (s : List ℕ) (k : Kind) → Here i (integer_at i s k)
here_integer i s Other = refl
here_integer i s Int = here_range i Bits (int_of s)
here_integer i s Float = here_range i Decimal (float_content true s)
here_integer i s String = refl
here_integer i s Boolean = refl
here_integer i s ID = refl
here_integer i s Own = refl
here_integer i s (Enum ms) = refl
here_integer i s (Input ds) = refl

here_float : (i : At) (s : List ℕ) (k : Kind) → Here i (float_at i s k)
here_float i s Other = refl
here_float i s Int = refl
here_float i s Float = here_range i Decimal (float_content false s)
here_float i s String = refl
here_float i s Boolean = refl
here_float i s ID = refl
here_float i s Own = refl
here_float i s (Enum ms) = refl
here_float i s (Input ds) = refl

here_string : (i : At) (s : List ℕ) (o : Option (List ℕ)) (k : Kind) → Here i (string_at i s o k)
here_string i s o Other = refl
here_string i s o Int = refl
here_string i s o Float = refl
here_string i s o String = here_text i o
here_string i s o Boolean = refl
here_string i s o ID = here_text i o
here_string i s o Own = refl
here_string i s o (Enum ms) = refl
here_string i s o (Input ds) = refl

here_boolean : (i : At) (b : Bool) (k : Kind) → Here i (boolean_at i b k)
here_boolean i b Other = refl
here_boolean i b Int = refl
here_boolean i b Float = refl
here_boolean i b String = refl
here_boolean i b Boolean = refl
here_boolean i b ID = refl
here_boolean i b Own = refl
here_boolean i b (Enum ms) = refl
here_boolean i b (Input ds) = refl

here_enum : (i : At) (n : Name) (k : Kind) → Here i (enum_at i n k)
here_enum i n Other = refl
here_enum i n Int = refl
here_enum i n Float = refl
here_enum i n String = refl
here_enum i n Boolean = refl
here_enum i n ID = refl
here_enum i n Own = refl
here_enum i n (Enum ms) = here_member i n ms
here_enum i n (Input ds) = refl

leaf_told : (text limit from i : ℕ) (d : Doc) (p p' : List ℕ) (r : Result ℕ ℕ) (o : Out Tree) → Here (placed text d i) o → Leaf limit o from p p' r → Told text limit o from p p' (told i r)
leaf_told text limit from i d p p' r (Got t) h l = (l.0, ap (told i) l.1, l.2)
leaf_told text limit from i d p p' r (No j why) h l = (ap (λ (a : At). a.text) h, ap (told i) l ∙ ap (λ (a : At). refused a.row why) (sym h))

object_other : (i : At) (f : List Due → Out Tree) (k : Kind) → (sort_of k ≡ 8 → ⊥) → object_at i f k ≡ No i reason_kind
object_other i f Other q = refl
object_other i f Int q = refl
object_other i f Float q = refl
object_other i f String q = refl
object_other i f Boolean q = refl
object_other i f ID q = refl
object_other i f Own q = refl
object_other i f (Enum ms) q = refl
object_other i f (Input ds) q = absurd (q refl)

no_low : (x : ℕ) → kind_variable ≤ x → (x ≡ kind_variable → ⊥) → (x ≡ kind_integer → ⊥) → (x ≡ kind_float → ⊥) → (x ≡ kind_string → ⊥) → kind_boolean ≤ x
no_low x l a b c d = omega arith

no_high : (x : ℕ) → kind_boolean ≤ x → x ≤ kind_list → (x ≡ kind_boolean → ⊥) → (x ≡ kind_null → ⊥) → (x ≡ kind_enum → ⊥) → (x ≡ kind_list → ⊥) → ⊥
no_high x l h a b c d = omega arith

-- a name whose place was read
pub name_is : (s rows : List ℕ) (n i at l : ℕ) → at ≡ (row_in rows n i).name_start → l ≡ (row_in rows n i).name_length → part s at l ≡ name_of (doc_of s rows n) i
name_is s rows n i at l p q = rw (p, q) refl

-- a token whose place was read
pub token_is : (s rows : List ℕ) (n i start stop : ℕ) → start ≡ (row_in rows n i).start → stop ≡ (row_in rows n i).end → take (stop - start) (drop start s) ≡ token_at 0 (doc_of s rows n) i
token_is s rows n i start stop p q = rw (p, q) refl

module _ (d : Doc) (i sort limit from : ℕ) (p p' : List ℕ) (r : Result ℕ ℕ) (w : List ℕ) (q : w ≡ token_at 0 d i) where
  pub token_int : kind_of d i ≡ kind_integer → ((k : Kind) (a : At) → sort_of k ≡ sort → Leaf limit (integer_at a w k) from p p' r) → Tokened d i sort limit from p p' r
  token_int e l = record {
    int = λ z k a h. subst (λ (x : List ℕ). Leaf limit (integer_at a x k) from p p' r) q (l k a h);
    decimal = λ z. absurd (omega (arith, z, e));
    text = λ z. absurd (omega (arith, z, e));
    other = λ x y z. absurd (x e);
  }

  pub token_decimal : kind_of d i ≡ kind_float → ((k : Kind) (a : At) → sort_of k ≡ sort → Leaf limit (float_at a w k) from p p' r) → Tokened d i sort limit from p p' r
  token_decimal e l = record {
    int = λ z. absurd (omega (arith, z, e));
    decimal = λ z k a h. subst (λ (x : List ℕ). Leaf limit (float_at a x k) from p p' r) q (l k a h);
    text = λ z. absurd (omega (arith, z, e));
    other = λ x y z. absurd (y e);
  }

  pub token_text : kind_of d i ≡ kind_string → ((k : Kind) (a : At) → sort_of k ≡ sort → Leaf limit (string_at a w (characters_of w) k) from p p' r) → Tokened d i sort limit from p p' r
  token_text e l = record {
    int = λ z. absurd (omega (arith, z, e));
    decimal = λ z. absurd (omega (arith, z, e));
    text = λ z k a h. subst (λ (x : List ℕ). Leaf limit (string_at a x (characters_of x) k) from p p' r) q (l k a h);
    other = λ x y z. absurd (z e);
  }

pub token_other : (d : Doc) (i sort limit from : ℕ) (p p' : List ℕ) → (kind_of d i ≡ kind_integer → ⊥) → (kind_of d i ≡ kind_float → ⊥) → (kind_of d i ≡ kind_string → ⊥) → Tokened d i sort limit from p p' (Err reason_kind)
token_other d i sort limit from p p' x y z = record {
  int = λ e. absurd (x e);
  decimal = λ e. absurd (y e);
  text = λ e. absurd (z e);
  other = λ a b c. refl;
}

module _ (t book : List ℕ) (d : Doc) (i sort number limit from : ℕ) (p p' : List ℕ) (r : Result ℕ ℕ) (vars : Name → Option Tree) (text : ℕ) (read : ℕ → Value) (name : Name) (s : Sorted t book name sort number) where
  abbrev Is : Type 0
  Is = Told text limit (coerce (kind_of_type (table_of t)) vars (value_by text d read i) (named name)) from p p' (told i r)

  from_value : (v : Value) → value_by text d read i ≡ v → Here (placed text d i) (coerce (kind_of_type (table_of t)) vars v (named name)) → Leaf limit (coerce (kind_of_type (table_of t)) vars v (named name)) from p p' r → Is
  from_value v e h l = subst (λ (x : Value). Told text limit (coerce (kind_of_type (table_of t)) vars x (named name)) from p p' (told i r)) (sym e) (leaf_told text limit from i d p p' r (coerce (kind_of_type (table_of t)) vars v (named name)) h l)

  pub base_boolean : (b : Bool) → kind_of d i ≡ kind_boolean → b ≡ eqb (extra_of d i) extra_true →
      ((k : Kind) (a : At) → sort_of k ≡ sort → Leaf limit (boolean_at a b k) from p p' r) → Is
  unfolding coerce
  base_boolean b e q l = from_value (boolean (placed text d i) b) (value_boolean text d read i e ∙ ap (boolean (placed text d i)) (sym q)) (here_boolean (placed text d i) b (kind_of_type (table_of t) name)) (l (kind_of_type (table_of t) name) (placed text d i) s.sort_is)

  pub base_enum : (v : Name) → kind_of d i ≡ kind_enum → v ≡ name_of d i →
      ((a : At) (m : List ℕ) → Sorted t book m sort number → Leaf limit (enum_at a v (kind_of_type (table_of t) m)) from p p' r) → Is
  unfolding coerce
  base_enum v e q l = from_value (enum (placed text d i) v) (value_enum text d read i e ∙ ap (enum (placed text d i)) (sym q)) (here_enum (placed text d i) v (kind_of_type (table_of t) name)) (l (placed text d i) name s)

  -- a row of another kind: a number, a string, a list, or an object where no input object is due
  pub base_token : Tokened d i sort limit from p p' r → (kind_of d i ≡ kind_variable → ⊥) → (kind_of d i ≡ kind_null → ⊥) → (kind_of d i ≡ kind_boolean → ⊥) → (kind_of d i ≡ kind_enum → ⊥) → takes_fields (kind_of d i) sort ≡ false → Is
  unfolding coerce
  base_token k nv nn nb ne f = go (eqb (kind_of d i) kind_integer) refl (eqb (kind_of d i) kind_float) refl (eqb (kind_of d i) kind_string) refl (eqb (kind_of d i) kind_list) refl
    where
      objects : (kind_of d i ≡ kind_integer → ⊥) → (kind_of d i ≡ kind_float → ⊥) → (kind_of d i ≡ kind_string → ⊥) → (kind_of d i ≡ kind_list → ⊥) → is_object_kind (kind_of d i) ≡ true
      objects a b c e = by (ltb (kind_of d i) kind_variable) refl (ltb kind_list (kind_of d i)) refl
        where
          by : (x : Bool) → ltb (kind_of d i) kind_variable ≡ x → (y : Bool) → ltb kind_list (kind_of d i) ≡ y → x || y ≡ true
          by true u y v = refl
          by false u true v = refl
          by false u false v =
              let lo : kind_variable ≤ kind_of d i = ltb-false (kind_of d i) kind_variable u in
              let hi : kind_of d i ≤ kind_list = ltb-false kind_list (kind_of d i) v in
              absurd (no_high (kind_of d i) (no_low (kind_of d i) lo nv a b c) hi nb nn ne e)

      no_input : is_object_kind (kind_of d i) ≡ true → sort_of (kind_of_type (table_of t) name) ≡ 8 → ⊥
      no_input o e = let y : takes_fields (kind_of d i) sort ≡ true = rw (eq-eqb sort 8 (sym s.sort_is ∙ e), o) refl in absurd (let z : ◌≡◌ {A = ℕ} 0 1 = cc in omega arith)

      go : (a : Bool) → eqb (kind_of d i) kind_integer ≡ a → (b : Bool) → eqb (kind_of d i) kind_float ≡ b → (c : Bool) → eqb (kind_of d i) kind_string ≡ c → (e : Bool) → eqb (kind_of d i) kind_list ≡ e → Is
      go true u b v c w e x =
          let q : kind_of d i ≡ kind_integer = eqb-true (kind_of d i) kind_integer u in
          from_value (integer (placed text d i) (token_at text d i)) (value_integer text d read i q) (here_integer (placed text d i) (token_at text d i) (kind_of_type (table_of t) name)) (k.int q (kind_of_type (table_of t) name) (placed text d i) s.sort_is)
      go false u true v c w e x =
          let q : kind_of d i ≡ kind_float = eqb-true (kind_of d i) kind_float v in
          from_value (float (placed text d i) (token_at text d i)) (value_float text d read i q) (here_float (placed text d i) (token_at text d i) (kind_of_type (table_of t) name)) (k.decimal q (kind_of_type (table_of t) name) (placed text d i) s.sort_is)
      go false u false v true w e x =
          let q : kind_of d i ≡ kind_string = eqb-true (kind_of d i) kind_string w in
          from_value (string (placed text d i) (token_at text d i) (characters_of (token_at text d i))) (value_string text d read i q) (here_string (placed text d i) (token_at text d i) (characters_of (token_at text d i)) (kind_of_type (table_of t) name)) (k.text q (kind_of_type (table_of t) name) (placed text d i) s.sort_is)
      go false u false v false w true x =
          from_value (list (placed text d i) (items_from text d read i (count d - (i + 1)) (i + 1))) (value_list text d read i (eqb-true (kind_of d i) kind_list x)) refl
          (k.other (eqb-false (kind_of d i) kind_integer u) (eqb-false (kind_of d i) kind_float v) (eqb-false (kind_of d i) kind_string w))
      go false u false v false w false x =
          let o : is_object_kind (kind_of d i) ≡ true = objects (eqb-false (kind_of d i) kind_integer u) (eqb-false (kind_of d i) kind_float v) (eqb-false (kind_of d i) kind_string w) (eqb-false (kind_of d i) kind_list x) in
          from_value (object (placed text d i) (entries_from text d read kind_object_field i (count d - (i + 1)) (i + 1))) (value_object text d read i o)
          (subst (Here (placed text d i)) (sym (object_other (placed text d i) _ (kind_of_type (table_of t) name) (no_input o))) refl)
          (subst (λ (y : Out Tree). Leaf limit y from p p' r) (sym (object_other (placed text d i) _ (kind_of_type (table_of t) name) (no_input o)))
          (k.other (eqb-false (kind_of d i) kind_integer u) (eqb-false (kind_of d i) kind_float v) (eqb-false (kind_of d i) kind_string w)))
