-- A refused row is one of its text's, or one past the last, so it is a small number; and there are no more coerced variables than definitions.
use mathlib.Core.Path.{◌≡◌, refl, subst}
use mathlib.Core.Bool.{Bool, true, false, ◌&&◌, cond}
use mathlib.Core.Option.{Option, none, some}
use mathlib.Core.List.{List, [], ◌∷◌, ◌++◌, map}
use Prim.Native.Nat.{ℕ, suc, ◌+◌, ◌-◌, ◌≤◌}
use native.Mathlib.Omega.{arith}
use lib.ListN.{length}
use lib.Dec.{ltb}
use borrow.Author.Tests.{ltb-true}
use Rattle.paper.specs.Numbers.{most_rows, most_levels, kind_variable_definition, kind_argument, kind_object_field, input_document, input_variables}
use Rattle.paper.specs.Rows.{Row}
use Rattle.paper_table.specs.Lists.{each_from, only_if}
use Rattle.paper_table.specs.References.{Ref, is_non_null}
use Rattle.paper_query.specs.Constructs.{Doc, count, is, below, numbers_where}
use Rattle.paper_query.specs.Opening.{if_below}
use Rattle.paper_values.specs.ValueNumbers.{reason_missing, reason_repeated}
use Rattle.paper_values.specs.Values.{Name, At, Value, Due, Tree, Pairs, no_pairs, pair, Out, Got, No}
use Rattle.paper_values.specs.Kinds.{Kind}
use Rattle.paper_values.specs.Computed.{Given, unless, entry_of, pair_first, missing_due, due_field, in_object, givens, constant, or_default, variables_from}
use Rattle.paper_values.specs.Coercion.{heads, repeated_entry, value_in}
use Rattle.paper_values.specs.RowValues.{placed, value_of_row, arguments_at}
use Rattle.paper_values.specs.DocumentDues.{value_if, definitions_of, due_variable, variable_dues, given_in}
use Rattle.paper_values.proofs.PlacesLaws.{Kept, PlacedEntries, PlacedIf, PlacedDues, UpTo, variables_kept, object_kept, value_placed, entries_placed}
use Rattle.value_held.specs.Given.{kinds_in}
use Rattle.value_held.specs.Holding.{Holds}
use Rattle.value_results.specs.Results.{coerced_variables}

-- ---- rows

module _ (d : Doc) (m : ℕ) (few : count d ≤ m) where
  default_placed : (k : ℕ) → PlacedIf (UpTo m) (value_if d (if_below (count d) k))
  default_placed k = go (ltb k (count d)) refl
    where
      go : (b : Bool) → ltb k (count d) ≡ b → PlacedIf (UpTo m) (value_if d (cond b (some k) none))
      go true e = value_placed input_document d m few (suc most_levels) k (omega (arith, ltb-true k (count d) e))
      go false e = tt

  abbrev due : ℕ → At × Due
  due v = (placed input_document d v, due_variable d v)

  dues_from : (p : Row → Bool) (rs : List Row) (j : ℕ) → j + length rs ≤ m → PlacedDues (UpTo m) (map due (each_from j (λ i r. only_if (p r) i) rs))
  unfolding each_from
  dues_from p [] j h = tt
  dues_from p (r ∷ rs) j h = go (p r) (dues_from p rs (suc j) (omega arith))
    where
      go : (b : Bool) → PlacedDues (UpTo m) (map due (each_from (suc j) (λ i r. only_if (p r) i) rs)) → PlacedDues (UpTo m) (map due (only_if b j ++ each_from (suc j) (λ i r. only_if (p r) i) rs))
      go true w = (omega arith, default_placed _, w)
      go false w = w

  dues_placed : (op : ℕ) → PlacedDues (UpTo m) (variable_dues d op)
  unfolding numbers_where
  dues_placed op = dues_from (λ r. is kind_variable_definition r && below op r) d.rows 0 (omega arith)

  given_placed : PlacedEntries (UpTo m) (given_in d)
  given_placed =
      entries_placed input_variables d m few (value_of_row input_variables d) (λ i q. value_placed input_variables d m few (suc most_levels) i q) kind_object_field 0 (count d - 1) 1 (λ z. omega (arith, z, few))

  arguments_placed : (i : ℕ) → PlacedEntries (UpTo m) (arguments_at input_document d i)
  arguments_placed i =
      entries_placed input_document d m few (value_of_row input_document d) (λ i q. value_placed input_document d m few (suc most_levels) i q) kind_argument i (count d - (i + 1)) (i + 1) (λ z. omega (arith, z, few))

-- the row of a variable that is refused
pub variables_rows : (t : List ℕ) (d : Doc) (op : ℕ) (d1 : Doc) → count d ≤ most_rows → count d1 ≤ most_rows → Kept (UpTo most_rows) (coerced_variables t d op d1)
variables_rows t d op d1 l l1 = variables_kept (UpTo most_rows) (kinds_in t) (given_in d1) (given_placed d1 most_rows l1) (variable_dues d op) (dues_placed d most_rows l op)

-- the row of an argument that is refused
pub arguments_rows : (t : List ℕ) (d : Doc) (row : ℕ) (ps : Pairs) (ds : List Due) → count d ≤ most_rows → row ≤ count d →
    Kept (UpTo most_rows) (in_object (missing_due (placed input_document d row)) (heads (arguments_at input_document d row)) (givens (kinds_in t) (value_in ps) (arguments_at input_document d row)) ds)
arguments_rows t d row ps ds l h = object_kept (UpTo most_rows) (kinds_in t) (value_in ps) (placed input_document d row) (omega arith) (arguments_at input_document d row) (arguments_placed d most_rows l row) ds

-- ---- how many

unfoldable pair_count : Pairs → ℕ
pair_count no_pairs = 0
pair_count (pair n t ps) = suc (pair_count ps)

abbrev AtMost : ℕ → Out Pairs → Type 0
AtMost k (Got ps) = pair_count ps ≤ k
AtMost k (No i w) = Unit

most_more : (k : ℕ) (o : Out Pairs) → AtMost k o → AtMost (suc k) o
most_more k (Got ps) h = omega arith
most_more k (No i w) h = tt

most_first : (n : Name) (o : Out Tree) (rest : Out Pairs) (k : ℕ) → AtMost k rest → AtMost (suc k) (pair_first n o rest)
unfolding pair_count
most_first n (Got t) (Got ps) k h = omega arith
most_first n (Got t) (No i w) k h = tt
most_first n (No i w) rest k h = tt

most_if : (b : Bool) (i : At) (rest : Out Pairs) (k : ℕ) → AtMost k rest → AtMost (suc k) (cond b (No i reason_missing) rest)
most_if true i rest k h = tt
most_if false i rest k h = most_more k rest h

module _ (kinds : Name → Kind) where
  most_default : (i : At) (d : Due) (m : Option Value) (rest : Out Pairs) (k : ℕ) → AtMost k rest → AtMost (suc k) (or_default kinds i d m rest)
  most_default i d none rest k h = most_if (is_non_null d.type) i rest k h
  most_default i d (some v) rest k h = most_first d.name (constant kinds v d.type) rest k h

  most_field : (i : At) (d : Due) (m : Option (Ref → Out Tree)) (rest : Out Pairs) (k : ℕ) → AtMost k rest → AtMost (suc k) (due_field (or_default kinds i d d.default rest) d m rest)
  most_field i d none rest k h = most_default i d d.default rest k h
  most_field i d (some f) rest k h = most_first d.name (f d.type) rest k h

  most_variables : (gs : List Given) (vs : List (At × Due)) → AtMost (length vs) (variables_from kinds gs vs)
  unfolding pair_count
  most_variables gs [] = omega arith
  most_variables gs (v ∷ vs) = most_field v.0 v.1 (entry_of v.1.name gs) (variables_from kinds gs vs) (length vs) (most_variables gs vs)

  most_unless : (m : Option At) (w k : ℕ) (o : Out Pairs) → AtMost k o → AtMost k (unless m w o)
  most_unless none w k o h = h
  most_unless (some i) w k o h = tt

dues_count : {A : Type 0} (f : ℕ → A) (xs : List ℕ) → length (map f xs) ≡ length xs
dues_count f [] = refl
dues_count f (x ∷ xs) = let z = dues_count f xs in omega arith

variables_most : (t : List ℕ) (d : Doc) (op : ℕ) (d1 : Doc) → AtMost (length (variable_dues d op)) (coerced_variables t d op d1)
variables_most t d op d1 =
    most_unless (kinds_in t) (repeated_entry [] (heads (given_in d1))) reason_repeated (length (variable_dues d op)) _ (most_variables (kinds_in t) (givens (kinds_in t) (λ n. none) (given_in d1)) (variable_dues d op))

held_count : (t book s rows : List ℕ) (n : ℕ) (s1 rows1 : List ℕ) (n1 : ℕ) (held : List ℕ) (j many : ℕ) (ps : Pairs) → Holds t book s rows n s1 rows1 n1 held j many ps → j + pair_count ps ≡ many
unfolding pair_count
held_count t book s rows n s1 rows1 n1 held j many no_pairs h = omega arith
held_count t book s rows n s1 rows1 n1 held j many (pair x tree ps) h = let z = held_count t book s rows n s1 rows1 n1 held (j + 1) many ps h.1 in omega arith

-- so many variables have values
pub held_few : (t book s rows : List ℕ) (n : ℕ) (s1 rows1 : List ℕ) (n1 : ℕ) (held : List ℕ) (many : ℕ) (ps : Pairs) (d : Doc) (op : ℕ) (d1 : Doc) →
    Holds t book s rows n s1 rows1 n1 held 0 many ps → coerced_variables t d op d1 ≡ Got ps → many ≤ length (definitions_of d op)
held_few t book s rows n s1 rows1 n1 held many ps d op d1 h e =
    let a : pair_count ps ≤ length (variable_dues d op) = subst (AtMost (length (variable_dues d op))) e (variables_most t d op d1) in
    let b = held_count t book s rows n s1 rows1 n1 held 0 many ps h in
    omega (arith, a, b, dues_count {A = At × Due} (λ v. (placed input_document d v, due_variable d v)) (definitions_of d op))
