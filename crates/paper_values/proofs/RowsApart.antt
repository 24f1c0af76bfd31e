-- Inside the value of a row stand later rows only: so the place of an object is none inside its entries' values, as the laws of the reasons ask.
-- Assumes nothing.
use mathlib.Core.Path.{◌≡◌, ap, subst}
use mathlib.Core.Bool.{Bool, true, false, cond, ◌&&◌}
use mathlib.Core.Option.{Option, none, some}
use Prim.Native.Nat.{ℕ, zero, suc, ◌+◌, ◌-◌, ◌<◌}
use native.Mathlib.Omega.{arith}
use lib.Dec.{eqb}
use Rattle.paper.specs.Numbers.{kind_variable, kind_integer, kind_float, kind_string, kind_boolean, kind_null, kind_enum, kind_list, kind_object_field, kind_argument, input_document, input_variables, most_levels}
use Rattle.paper.specs.Tokens.{same}
use mathlib.Core.List.{List, [], ◌∷◌, map}
use Rattle.paper_table.specs.Types.{Argument}
use Rattle.paper_query.specs.Constructs.{Doc, count, kind_of, parent_of, name_of}
use Rattle.paper_query.specs.Enclosing.{FieldIs, typename, member, missing, unknown}
use Rattle.paper_values.specs.Values.{Name, At, Value, Values, item, Entries, no_entries, entry, Tree}
use Rattle.paper_values.specs.Kinds.{Kind, due_argument}
use Rattle.paper_values.specs.Coercion.{left_out}
use Rattle.paper_values.specs.CoercionRules.{value_for}
use Rattle.paper_values.specs.RowValues.{placed, items_from, entries_from, value_by, value_at, arguments_at}
use Rattle.paper_values.specs.DocumentDues.{given_in, argument_dues}
use Rattle.paper_values.proofs.PlacesLaws.{Placed, PlacedAll, PlacedEntries}
use Rattle.paper_values.proofs.CallsExact.{duly}
use Rattle.paper_values.proofs.ReasonsExact.{Apart, ApartInside}
use Rattle.paper_values.proofs.ReasonsOfDues.{ApartDefaults}

none≢some : {v : Value} → none ≡ some v → ⊥
none≢some q = let z : ◌≡◌ {A = ℕ} 0 1 = cc in omega arith

module _ (P : At → Type 0) where
  value_if : (b : Bool) (v w : Value) → Placed P v → Placed P w → Placed P (cond b v w)
  value_if true v w p q = p
  value_if false v w p q = q

  items_if : (b : Bool) (v w : Values) → PlacedAll P v → PlacedAll P w → PlacedAll P (cond b v w)
  items_if true v w p q = p
  items_if false v w p q = q

  entries_if : (b : Bool) (v w : Entries) → PlacedEntries P v → PlacedEntries P w → PlacedEntries P (cond b v w)
  entries_if true v w p q = p
  entries_if false v w p q = q

  -- an entry that is found is one of them
  module _ (kinds : Name → Kind) (vars : Name → Option Tree) where
    found_if : (b c : Bool) (v w : Value) (m : Option Value) → Placed P w → (m ≡ some v → Placed P v) → cond b (cond c none (some w)) m ≡ some v → Placed P v
    found_if true true v w m p h q = absurd (none≢some q)
    found_if true false v w m p h q = let e : w ≡ v = cc in subst (Placed P) e p
    found_if false c v w m p h q = h q

    entry_placed : (es : Entries) → PlacedEntries P es → (n : Name) (v : Value) → value_for kinds vars n es ≡ some v → Placed P v
    unfolding Placed
    entry_placed no_entries p n v q = absurd (none≢some q)
    entry_placed (entry i m w es) p n v q = found_if (same n m) (left_out kinds vars w) v w (value_for kinds vars n es) p.1 (λ z. entry_placed es p.2 n v z) q

  module _ (text : ℕ) (d : Doc) (i : ℕ) (later : (c : ℕ) → i < c → P (placed text d c)) where
    items_later : (read : ℕ → Value) → ((c : ℕ) → i < c → Placed P (read c)) → (h k c : ℕ) → i < c → PlacedAll P (items_from text d read h k c)
    unfolding Placed items_from
    items_later read p h zero c l = tt
    items_later read p h (suc k) c l =
        let rest = items_later read p h k (c + 1) (omega arith) in
        items_if (eqb (parent_of d c) h) (item (read c) (items_from text d read h k (c + 1))) (items_from text d read h k (c + 1)) (p c l, rest) rest

    entries_later : (read : ℕ → Value) → ((c : ℕ) → i < c → Placed P (read c)) → (kind h k c : ℕ) → i < c → PlacedEntries P (entries_from text d read kind h k c)
    unfolding Placed entries_from
    entries_later read p kind h zero c l = tt
    entries_later read p kind h (suc k) c l =
        let rest = entries_later read p kind h k (c + 1) (omega arith) in
        entries_if (eqb (parent_of d c) h && eqb (kind_of d c) kind) (entry (placed text d c) (name_of d c) (read (c + 1)) (entries_from text d read kind h k (c + 1))) (entries_from text d read kind h k (c + 1))
        (later c l, p (c + 1) (omega arith), rest) rest

    by_later : (read : ℕ → Value) → ((c : ℕ) → i < c → Placed P (read c)) → (c : ℕ) → i < c → Placed P (value_by text d read c)
    unfolding Placed value_by
    by_later read p c l =
        value_if (eqb (kind_of d c) kind_variable) _ _ (later c l)
        (value_if (eqb (kind_of d c) kind_integer) _ _ (later c l)
        (value_if (eqb (kind_of d c) kind_float) _ _ (later c l)
        (value_if (eqb (kind_of d c) kind_string) _ _ (later c l)
        (value_if (eqb (kind_of d c) kind_boolean) _ _ (later c l)
        (value_if (eqb (kind_of d c) kind_null) _ _ (later c l)
        (value_if (eqb (kind_of d c) kind_enum) _ _ (later c l)
        (value_if (eqb (kind_of d c) kind_list) _ _ (later c l, items_later read p c (count d - (c + 1)) (c + 1) (omega arith))
        (later c l, entries_later read p kind_object_field c (count d - (c + 1)) (c + 1) (omega arith)))))))))

    value_later : (k c : ℕ) → i < c → Placed P (value_at text d k c)
    unfolding Placed value_at
    value_later zero c l = later c l
    value_later (suc k) c l = by_later (value_at text d k) (λ j z. value_later k j z) c l

-- the value of every row
module _ (kinds : Name → Kind) (vars : Name → Option Tree) (text : ℕ) (d : Doc) where
  apart_if : (b : Bool) (v w : Value) → ApartInside kinds vars v → ApartInside kinds vars w → ApartInside kinds vars (cond b v w)
  apart_if true v w p q = p
  apart_if false v w p q = q

  other_row : (i c : ℕ) → i < c → placed text d c ≡ placed text d i → ⊥
  other_row i c l q = let e = ap (λ (j : At). j.row) q in omega (arith, e)

  entries_apart : (kind k i c n : ℕ) → i < c → Apart kinds vars (placed text d i) (entries_from text d (value_at text d k) kind i n c)
  entries_apart kind k i c n l =
      entry_placed (λ j. j ≡ placed text d i → ⊥) kinds vars _
      (entries_later (λ j. j ≡ placed text d i → ⊥) text d i (other_row i) (value_at text d k) (value_later (λ j. j ≡ placed text d i → ⊥) text d i (other_row i) k) kind i n c l)

  pub row_apart : (k i : ℕ) → ApartInside kinds vars (value_at text d k i)
  unfolding value_at value_by
  row_apart zero i = tt
  row_apart (suc k) i =
      apart_if (eqb (kind_of d i) kind_variable) _ _ tt
      (apart_if (eqb (kind_of d i) kind_integer) _ _ tt
      (apart_if (eqb (kind_of d i) kind_float) _ _ tt
      (apart_if (eqb (kind_of d i) kind_string) _ _ tt
      (apart_if (eqb (kind_of d i) kind_boolean) _ _ tt
      (apart_if (eqb (kind_of d i) kind_null) _ _ tt
      (apart_if (eqb (kind_of d i) kind_enum) _ _ tt
      (apart_if (eqb (kind_of d i) kind_list) _ _ tt (entries_apart kind_object_field k i (i + 1) (count d - (i + 1)) (omega arith)))))))))

  -- the arguments of the field at a row
  pub arguments_apart : (i : ℕ) → Apart kinds vars (placed text d i) (arguments_at text d i)
  arguments_apart i = entries_apart kind_argument (suc most_levels) i (i + 1) (count d - (i + 1)) (omega arith)

-- what the variables text gives stands in another text than the document's rows
other_text : (d : Doc) (e : At) → e.text ≡ input_document → (c : ℕ) → placed input_variables d c ≡ e → ⊥
other_text d e t c q = let z = ap (λ (j : At). j.text) q in omega (arith, z, t)

pub given_apart : (kinds : Name → Kind) (vars : Name → Option Tree) (d : Doc) (e : At) → e.text ≡ input_document → Apart kinds vars e (given_in d)
given_apart kinds vars d e t =
    entry_placed (λ j. j ≡ e → ⊥) kinds vars _
    (entries_later (λ j. j ≡ e → ⊥) input_variables d 0 (λ c l. other_text d e t c) (value_at input_variables d (suc most_levels))
    (value_later (λ j. j ≡ e → ⊥) input_variables d 0 (λ c l. other_text d e t c) (suc most_levels)) kind_object_field 0 (count d - 1) 1 (omega arith))

-- an argument has no default so far
no_defaults : (kinds : Name → Kind) (e i : At) (bs : List Argument) → ApartDefaults e (duly kinds (map due_argument bs) i)
no_defaults kinds e i [] = tt
no_defaults kinds e i (b ∷ bs) = (tt, no_defaults kinds e i bs)

pub arguments_without_defaults : (kinds : Name → Kind) (e i : At) (f : FieldIs) → ApartDefaults e (duly kinds (argument_dues f) i)
arguments_without_defaults kinds e i typename = tt
arguments_without_defaults kinds e i (member m) = no_defaults kinds e i m.arguments
arguments_without_defaults kinds e i missing = tt
arguments_without_defaults kinds e i unknown = tt
