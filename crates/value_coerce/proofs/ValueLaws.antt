-- A row's value at a type, by the ways the code takes.
use mathlib.Core.Path.{◌≡◌, refl, sym, ap, subst, ◌∙◌}
use mathlib.Core.Bool.{Bool, true, false, ◌&&◌}
use mathlib.Core.List.{List}
use Prim.Native.Nat.{ℕ, zero, suc, ◌+◌, ◌-◌, ◌/◌, ◌%◌, ◌≤◌, ◌<◌}
use native.Mathlib.Omega.{arith}
use native.Mathlib.Decide.{dec_lt}
use lib.Dec.{eqb}
use borrow.Author.Tests.{ne_eqb, eqb-true}
use Rattle.paper.specs.Numbers.{kind_variable, kind_integer, kind_float, kind_string, kind_boolean, kind_null, kind_enum, kind_list, kind_object_field}
use Rattle.paper_table.specs.References.{Ref, named, list_of, non_null, base_of}
use Rattle.paper_query.specs.Constructs.{Doc, count, kind_of, name_of}
use Rattle.table_fields.specs.Wrappers.{pack_of}
use Rattle.table_types.specs.Booked.{definition_on}
use Rattle.paper.specs.Rows.{Row}
use Rattle.query_rows.specs.Rowed.{row_in}
use Rattle.query_rows.proofs.RowsIn.{row_none}
use Rattle.paper_values.specs.ValueNumbers.{reason_kind}
use Rattle.paper_values.specs.Values.{Name, At, Value, variable, integer, float, string, boolean, null, enum, list, object, Values, Entries, Due, Tree, Many, no_more, also, Out, Got, No, and_then}
use Rattle.paper_values.specs.Kinds.{Kind, Input}
use Rattle.paper_values.specs.Computed.{null_at, object_at, in_object, missing_due, coerce, coerce_all, givens}
use Rattle.paper_values.specs.Coercion.{heads}
use Rattle.paper_values.specs.CoercionRules.{plain_value, single_value as alone}
use Rattle.paper_values.specs.RowValues.{placed, items_from, entries_from, value_by, value_at}
use Rattle.value_leaves.specs.Leaves.{sort_of}
use Rattle.std.proofs.Common.{Result}
use Rattle.value_kinds.specs.declared.RefusedRow.{RefusedRow}
use Rattle.value_writing.specs.Writing.{place_of, Room}
use Rattle.value_writing.proofs.PlaceLaws.{place_least}
use Rattle.value_kinds.specs.Dues.{refused, Sorted, Fits, DueIs, told, Told, placed_at}
use Rattle.value_kinds.proofs.KindLaws.{sort_input}
use Rattle.value_entries.specs.Entered.{dues_of}
use Rattle.value_tokens.specs.Spans.{is_object_kind, takes_fields}
use Rattle.value_tokens.proofs.TokenLaws.{value_variable, value_null, value_list, value_object}
use Rattle.value_ones.specs.Ones.{lists_of, nullable_of, ones}
use Rattle.value_held.specs.Given.{Vars, kinds_in, coerced}
use Rattle.value_coerce.specs.Coercing.{Meant, listed, stood, objected}
use Rattle.value_ones.proofs.PackLaws.{pack_list, pack_named, base_nullable}
use Rattle.value_held.proofs.LevelLaws.{pick, at_level}

alone_plain : (v : Value) → alone v ≡ true → plain_value v ≡ true
alone_plain (variable i n) e = e
alone_plain (integer i s) e = refl
alone_plain (float i s) e = refl
alone_plain (string i s cs) e = refl
alone_plain (boolean i b) e = refl
alone_plain (null i) e = e
alone_plain (enum i n) e = refl
alone_plain (list i vs) e = refl
alone_plain (object i es) e = refl

module _ (kinds : Name → Kind) (vars : Vars) where
  at_non_null : (v : Value) (r : Ref) → plain_value v ≡ true → coerce kinds vars v (non_null r) ≡ coerce kinds vars v r
  unfolding coerce
  at_non_null (variable i n) r e = absurd (let z : ◌≡◌ {A = ℕ} 0 1 = cc in omega arith)
  at_non_null (integer i s) r e = refl
  at_non_null (float i s) r e = refl
  at_non_null (string i s cs) r e = refl
  at_non_null (boolean i b) r e = refl
  at_non_null (null i) r e = absurd (let z : ◌≡◌ {A = ℕ} 0 1 = cc in omega arith)
  at_non_null (enum i n) r e = refl
  at_non_null (list i vs) r e = refl
  at_non_null (object i es) r e = refl

  at_one : (v : Value) (r : Ref) → alone v ≡ true → coerce kinds vars v (list_of r) ≡ and_then (coerce kinds vars v r) (λ x. Got (Many (also x no_more)))
  unfolding coerce
  at_one (variable i n) r e = absurd (let z : ◌≡◌ {A = ℕ} 0 1 = cc in omega arith)
  at_one (integer i s) r e = refl
  at_one (float i s) r e = refl
  at_one (string i s cs) r e = refl
  at_one (boolean i b) r e = refl
  at_one (null i) r e = absurd (let z : ◌≡◌ {A = ℕ} 0 1 = cc in omega arith)
  at_one (enum i n) r e = refl
  at_one (list i vs) r e = absurd (let z : ◌≡◌ {A = ℕ} 0 1 = cc in omega arith)
  at_one (object i es) r e = refl

module _ (kinds : Name → Kind) (vars : Vars) (v : Value) where
  -- Non-Null outside says nothing of what is not null
  plain_nullable : plain_value v ≡ true → (r : Ref) → coerce kinds vars v r ≡ coerce kinds vars v (nullable_of r)
  plain_nullable e (named n) = refl
  plain_nullable e (list_of r) = refl
  plain_nullable e (non_null r) = at_non_null kinds vars v r e ∙ plain_nullable e r

  -- what is no list, at a type: the value at its base, in as many lists of one as the type has
  single_ones : alone v ≡ true → (r : Ref) → coerce kinds vars v r ≡ ones (lists_of r) (coerce kinds vars v (named (base_of r)))
  single_ones e (named n) = refl
  single_ones e (list_of r) = at_one kinds vars v r e ∙ ap (λ (o : Out Tree). and_then o (λ x. Got (Many (also x no_more)))) (single_ones e r)
  single_ones e (non_null r) = at_non_null kinds vars v r (alone_plain v e) ∙ single_ones e r

no_list_at : (kinds : Name → Kind) (vars : Vars) (i : At) (vs : Values) (m : Name) → coerce kinds vars (list i vs) (named m) ≡ No i reason_kind
unfolding coerce
no_list_at kinds vars i vs m = refl

list_at : (kinds : Name → Kind) (vars : Vars) (i : At) (vs : Values) (s : Ref) → coerce kinds vars (list i vs) (list_of s) ≡ and_then (coerce_all kinds vars vs s) (λ ts. Got (Many ts))
unfolding coerce
list_at kinds vars i vs s = refl

object_at_is : (kinds : Name → Kind) (vars : Vars) (i : At) (es : Entries) (m : Name) (ds : List Due) → kinds m ≡ Input ds → coerce kinds vars (object i es) (named m) ≡ in_object (missing_due i) (heads es) (givens kinds vars es) ds
unfolding coerce
object_at_is kinds vars i es m ds e = ap (object_at i (in_object (missing_due i) (heads es) (givens kinds vars es))) e

module _ (text : ℕ) (d : Doc) (read : ℕ → Value) (i : ℕ) where
  pub row_plain : (kind_of d i ≡ kind_variable → ⊥) → (kind_of d i ≡ kind_null → ⊥) → plain_value (value_by text d read i) ≡ true
  unfolding value_by
  row_plain a b = rw (ne_eqb (kind_of d i) kind_variable a, ne_eqb (kind_of d i) kind_null b)
      (pick plain_value (eqb (kind_of d i) kind_integer) _ _ refl (pick plain_value (eqb (kind_of d i) kind_float) _ _ refl (pick plain_value (eqb (kind_of d i) kind_string) _ _ refl
      (pick plain_value (eqb (kind_of d i) kind_boolean) _ _ refl (pick plain_value (eqb (kind_of d i) kind_enum) _ _ refl (pick plain_value (eqb (kind_of d i) kind_list) _ _ refl refl))))))

  row_alone : (kind_of d i ≡ kind_variable → ⊥) → (kind_of d i ≡ kind_null → ⊥) → (kind_of d i ≡ kind_list → ⊥) → alone (value_by text d read i) ≡ true
  unfolding value_by
  row_alone a b c = rw (ne_eqb (kind_of d i) kind_variable a, ne_eqb (kind_of d i) kind_null b, ne_eqb (kind_of d i) kind_list c)
      (pick alone (eqb (kind_of d i) kind_integer) _ _ refl (pick alone (eqb (kind_of d i) kind_float) _ _ refl (pick alone (eqb (kind_of d i) kind_string) _ _ refl
      (pick alone (eqb (kind_of d i) kind_boolean) _ _ refl (pick alone (eqb (kind_of d i) kind_enum) _ _ refl refl)))))

-- ---- levels

at_none : (text : ℕ) (d : Doc) (k i : ℕ) → k ≡ 0 → value_at text d k i ≡ null (placed text d i)
unfolding value_at
at_none text d zero i q = refl
at_none text d (suc k) i q = absurd (omega (arith, q))

-- ---- wrappers

-- the same base in other wrappers
same_base : (t book : List ℕ) (r q : Ref) (sort number w v : ℕ) → base_of q ≡ base_of r → pack_of q ≡ v → DueIs t book r sort number w → DueIs t book q sort number v
same_base t book r q sort number w v b e δ = record { sorted = subst (λ (x : List ℕ). Sorted t book x sort number) (sym b) δ.sorted; packs = e }

-- ---- what is told, by the ways the code takes

module _ (t book : List ℕ) (vars : Vars) (text : ℕ) (d : Doc) (k i sort number w limit from : ℕ) (p p' : List ℕ) (c : Result ℕ RefusedRow) (r : Ref) (δ : DueIs t book r sort number w) where
  abbrev Goal : Type 0
  Goal = Told text limit (coerced t vars text d k i r) from p p' c

  by_out : (o : Out Tree) → coerced t vars text d k i r ≡ o → Told text limit o from p p' c → Goal
  by_out o e g = subst (λ (x : Out Tree). Told text limit x from p p' c) (sym e) g

  module _ (f : (text : ℕ) (r : Ref) → pack_of r ≡ w → Told text limit (null_at (placed_at text i) r) from p p' c) where
    pub told_none : k ≡ 0 → Goal
    unfolding coerce
    told_none q = by_out (null_at (placed_at text i) r) (ap (λ (v : Value). coerce (kinds_in t) vars v r) (at_none text d k i q)) (f text r δ.packs)

    pub told_null : (k ≡ 0 → ⊥) → kind_of d i ≡ kind_null → Goal
    unfolding coerce
    told_null q e = by_out (null_at (placed_at text i) r) (ap (λ (v : Value). coerce (kinds_in t) vars v r) (at_level text d k i q ∙ value_null text d (value_at text d (k - 1)) i e)) (f text r δ.packs)

  pub told_variable : (k ≡ 0 → ⊥) → kind_of d i ≡ kind_variable → Told text limit (stood t vars text i r (vars (name_of d i))) from p p' c → Goal
  unfolding coerce
  told_variable q e f = by_out (stood t vars text i r (vars (name_of d i))) (ap (λ (v : Value). coerce (kinds_in t) vars v r) (at_level text d k i q ∙ value_variable text d (value_at text d (k - 1)) i e)) f

  module _ (q : k ≡ 0 → ⊥) (nn : kind_of d i ≡ kind_null → ⊥) (nv : kind_of d i ≡ kind_variable → ⊥) where
    is_plain : plain_value (value_at text d k i) ≡ true
    is_plain = ap plain_value (at_level text d k i q) ∙ row_plain text d (value_at text d (k - 1)) i nv nn

    -- the list of a type that is none is refused
    pub told_kind : (u : ℕ) → pack_of (nullable_of r) ≡ u → (u % 4 ≡ 2 → ⊥) → (u % 4 ≡ 1 → ⊥) → kind_of d i ≡ kind_list → c ≡ refused i reason_kind → Goal
    told_kind u e a b l x =
        let z : nullable_of r ≡ named (base_of (nullable_of r)) = pack_named (nullable_of r) (λ (y : pack_of (nullable_of r) % 4 ≡ 2). a (ap (λ (v : ℕ). v % 4) (sym e) ∙ y)) (λ (y : pack_of (nullable_of r) % 4 ≡ 1). b (ap (λ (v : ℕ). v % 4) (sym e) ∙ y)) in
        by_out (No (placed_at text i) reason_kind) (plain_nullable (kinds_in t) vars (value_at text d k i) is_plain r ∙ ap (λ (s : Ref). coerced t vars text d k i s) z
        ∙ ap (λ (v : Value). coerce (kinds_in t) vars v (named (base_of (nullable_of r)))) (at_level text d k i q ∙ value_list text d (value_at text d (k - 1)) i l)
        ∙ no_list_at (kinds_in t) vars (placed text d i) (items_from text d (value_at text d (k - 1)) i (count d - (i + 1)) (i + 1)) (base_of (nullable_of r))) (refl, x)

    -- a value of another kind is a list of one at each depth
    pub told_single : (kind_of d i ≡ kind_list → ⊥) → (m : ℕ) → m ≡ lists_of r → Told text limit (ones m (coerced t vars text d k i (named (base_of r)))) from p p' c → Goal
    told_single nl m e f =
        by_out (ones m (coerced t vars text d k i (named (base_of r)))) (single_ones (kinds_in t) vars (value_at text d k i) (ap alone (at_level text d k i q) ∙ row_alone text d (value_at text d (k - 1)) i nv nn nl) r
        ∙ ap (λ (x : ℕ). ones x (coerced t vars text d k i (named (base_of r)))) (sym e)) f

    pub told_list : (n u : ℕ) → count d ≡ n → pack_of (nullable_of r) ≡ u → u % 4 ≡ 1 → kind_of d i ≡ kind_list → ((s : Ref) → DueIs t book s sort number (u / 4) → Told text limit (listed t vars text d n (k - 1) i s) from p p' c) → Goal
    told_list n u m e y l f =
        let z = pack_list (nullable_of r) (ap (λ (x : ℕ). x % 4) e ∙ y) in
        by_out (listed t vars text d n (k - 1) i z.0) (plain_nullable (kinds_in t) vars (value_at text d k i) is_plain r ∙ ap (λ (s : Ref). coerced t vars text d k i s) z.1
        ∙ ap (λ (v : Value). coerce (kinds_in t) vars v (list_of z.0)) (at_level text d k i q ∙ value_list text d (value_at text d (k - 1)) i l ∙ ap (λ (x : ℕ). list (placed text d i) (items_from text d (value_at text d (k - 1)) i (x - (i + 1)) (i + 1))) m)
        ∙ list_at (kinds_in t) vars (placed text d i) (items_from text d (value_at text d (k - 1)) i (n - (i + 1)) (i + 1)) z.0) (f z.0 (same_base t book r z.0 sort number w (u / 4) (z.3 ∙ base_nullable r) (z.2 ∙ ap (λ (x : ℕ). x / 4) e) δ))

    module _ (a : w % 4 ≡ 2 → ⊥) (b : w % 4 ≡ 1 → ⊥) where
      is_named : r ≡ named (base_of r)
      is_named = pack_named r (λ (e : pack_of r % 4 ≡ 2). a (ap (λ (x : ℕ). x % 4) (sym δ.packs) ∙ e)) (λ (e : pack_of r % 4 ≡ 1). b (ap (λ (x : ℕ). x % 4) (sym δ.packs) ∙ e))

      pub told_object : (n : ℕ) (ds : List Due) → count d ≡ n → takes_fields (kind_of d i) sort ≡ true → ds ≡ dues_of (definition_on t number).members → Told text limit (objected t vars text d n (k - 1) kind_object_field i ds) from p p' c → Goal
      told_object n ds m e are f =
          let o : is_object_kind (kind_of d i) ≡ true = second (eqb sort 8) (is_object_kind (kind_of d i)) e in
          let s : sort ≡ 8 = eqb-true sort 8 (first (eqb sort 8) (is_object_kind (kind_of d i)) e) in
          let h : 7 ≤ sort = omega (arith, s) in
          let g : kinds_in t (base_of r) ≡ Input ds = δ.sorted.held h ∙ sort_input (definition_on t number) (sym (ap sort_of (δ.sorted.held h)) ∙ δ.sorted.sort_is ∙ s) ∙ ap Input (sym are) in
          by_out (objected t vars text d n (k - 1) kind_object_field i ds) (ap (λ (s : Ref). coerced t vars text d k i s) is_named
          ∙ ap (λ (v : Value). coerce (kinds_in t) vars v (named (base_of r))) (at_level text d k i q ∙ value_object text d (value_at text d (k - 1)) i o ∙ ap (λ (x : ℕ). object (placed text d i) (entries_from text d (value_at text d (k - 1)) kind_object_field i (x - (i + 1)) (i + 1))) m)
          ∙ object_at_is (kinds_in t) vars (placed text d i) (entries_from text d (value_at text d (k - 1)) kind_object_field i (n - (i + 1)) (i + 1)) (base_of r) ds g) f
        where
          first : (x y : Bool) → x && y ≡ true → x ≡ true
          first true y e = refl
          first false y e = e

          second : (x y : Bool) → x && y ≡ true → y ≡ true
          second true y e = e
          second false y e = absurd (let z : ◌≡◌ {A = ℕ} 0 1 = cc in omega arith)

      pub told_leaf : (l : Result ℕ ℕ) → c ≡ told i l → ((vars : Vars) (text : ℕ) (read : ℕ → Value) (m : Name) → Sorted t book m sort number → Told text limit (coerce (kinds_in t) vars (value_by text d read i) (named m)) from p p' (told i l)) → Goal
      told_leaf l e f =
          by_out (coerce (kinds_in t) vars (value_by text d (value_at text d (k - 1)) i) (named (base_of r))) (ap (λ (s : Ref). coerced t vars text d k i s) is_named ∙ ap (λ (v : Value). coerce (kinds_in t) vars v (named (base_of r))) (at_level text d k i q))
          (subst (λ (x : Result ℕ RefusedRow). Told text limit (coerce (kinds_in t) vars (value_by text d (value_at text d (k - 1)) i) (named (base_of r))) from p p' x) (sym e) (f vars text (value_at text d (k - 1)) (base_of r) δ.sorted))

-- ---- what the calls ask

-- of the items of a list, whose type without Non-Null outside has the wrappers u
pub meant_items : (t book : List ℕ) (sort number w u : ℕ) → Meant t book sort number w → ((r : Ref) → pack_of r ≡ w → pack_of (nullable_of r) ≡ u) → u % 4 ≡ 1 → Meant t book sort number (u / 4)
meant_items t book sort number w u m f y =
    let e : pack_of (nullable_of m.ref) ≡ u = f m.ref m.is.packs in let z = pack_list (nullable_of m.ref) (ap (λ (x : ℕ). x % 4) e ∙ y) in
    record { ref = z.0; is = same_base t book m.ref z.0 sort number w (u / 4) (z.3 ∙ base_nullable m.ref) (z.2 ∙ ap (λ (x : ℕ). x / 4) e) m.is }

pub fits_items : (book : List ℕ) (sort number w u : ℕ) → Fits book sort number w → u ≤ w → Fits book sort number (u / 4)
fits_items book sort number w u f l = record { there = f.there; few = (let z = f.few in omega (arith, z, l)) }

-- of the type without its wrappers
pub due_base : (t book : List ℕ) (r : Ref) (sort number w : ℕ) → DueIs t book r sort number w → DueIs t book (named (base_of r)) sort number 0
unfolding pack_of
due_base t book r sort number w δ = same_base t book r (named (base_of r)) sort number w 0 refl refl δ

pub takes_input : (kind sort : ℕ) → takes_fields kind sort ≡ true → sort ≡ 8
takes_input kind sort e = eqb-true sort 8 (first (eqb sort 8) (is_object_kind kind) e)
  where
    first : (x y : Bool) → x && y ≡ true → x ≡ true
    first true y e = refl
    first false y e = e

pub takes_by : (kind row sort : ℕ) (b x : Bool) → kind ≡ row → b ≡ takes_fields kind sort → b ≡ x → takes_fields row sort ≡ x
takes_by kind row sort b x p q e = rw (← p) (sym q ∙ e)

pub room_first : (limit from first : ℕ) (p : List ℕ) → Room limit from p → first ≡ place_of limit (from + 3) → Room limit first p
room_first limit from first p r e = record { least = r.least; place = place_least limit (from + 3) first e; size = r.size }

pub room_at : (limit from x first : ℕ) (p : List ℕ) → Room limit from p → first ≡ place_of limit x → Room limit first p
room_at limit from x first p r e = record { least = r.least; place = place_least limit x first e; size = r.size }

-- a row that is a list is there
pub list_there : (rows : List ℕ) (n i : ℕ) → (row_in rows n i).kind ≡ kind_list → i < n
list_there rows n i e = go (dec_lt i n)
  where
    go : Dec (i < n) → i < n
    go (yes l) = l
    go (no l) = absurd (let z : (row_in rows n i).kind ≡ 0 = ap (λ (x : Row). x.kind) (row_none rows n i (omega arith)) in omega (arith, z, e))
