-- What field collection and plans see of a document and a table: by names, as the draft has it, and by numbers, as plans have it.
-- States: 01, "Plan and walk": "Literal conditions ..", "a variable, record or fragment number, from 0 in written order" (READINGS 97), "Block 0 is the
-- operation's; then one for each field with selections in it or in fragments it spreads, ..., in row order" (READINGS 100, 101).
-- Assumes nothing.
use Rattle.std.specs.Prelude.{◌≡◌, Bool, true, ◌&&◌, cond, List, [], ◌∷◌, ◌++◌, map, ℕ, suc, ◌<◌, length, get_or, eqb, ltb}
use Rattle.std.proofs.Math.Option.{Option, none, some}
use Rattle.paper.specs.Numbers.{kind_fragment, kind_field, kind_spread, kind_argument, kind_directive, kind_variable_definition, kind_boolean, extra_true}
use Rattle.paper.specs.Tokens.{same}
use Rattle.paper.specs.Rows.{Row}
use Rattle.paper_table.specs.Lists.{bytes, first_at, find, gather, only_if}
use Rattle.paper_table.specs.Types.{Table}
use Rattle.paper_query.specs.Constructs.{Doc, count, row_of, name_of, spelt, is, is_selection, is_value, called, below, fragment_named, numbers_where}
use Rattle.paper_query.specs.Enclosing.{composite_of, condition_of}
use Rattle.paper_query.specs.Reaching.{Reaches}
use Rattle.paper_plan.specs.Keys.{key_at, key_number}
use Rattle.paper_plan.specs.Applies.{applies}
use Rattle.paper_plan.specs.Collecting.{Cond, absent, literal, variable, Sort, field, spread, inline, View, Grouped, elem, Collect, Pair, with_key}
use Rattle.paper_plan.specs.Planning.{Plan, plan_of}

abbrev pub Name : Type 0
Name = List ℕ

-- the rows that pass, in order
unfoldable pub rows_where : (Row → Bool) → Doc → List Row
rows_where p d = gather (λ r. only_if (p r) r) d.rows

-- the selection set of an operation, a field, an inline fragment or a fragment definition, by its row
abbrev pub set_of : Doc → ℕ → List ℕ
set_of d p = numbers_where (λ r. below p r && is_selection r) d

-- Numbers, from 0 in written order: a fragment's among the document's, and its row; a variable's among the operation's definitions; a type's record
-- (the count of records if the name is none of an object, interface or union).
abbrev pub fragment_number : Doc → Name → ℕ
fragment_number d f = first_at (called d f) (rows_where (is kind_fragment) d)

abbrev pub fragment_row : Doc → ℕ → ℕ
fragment_row d n = get_or (numbers_where (is kind_fragment) d) n (count d)

abbrev pub variable_number : Doc → ℕ → Name → ℕ
variable_number d op x = first_at (called d x) (rows_where (λ r. is kind_variable_definition r && below op r) d)

abbrev pub or_count : Table → Option ℕ → ℕ
or_count t none = length t
or_count t (some k) = k

abbrev pub type_number : Table → Name → ℕ
type_number t n = or_count t (composite_of t n)

-- a fragment's type condition; an inline fragment's, if it has one
abbrev pub type_on : Table → Doc → Option Row → ℕ
type_on t d none = length t
type_on t d (some r) = type_number t (spelt d r)

abbrev pub type_if : Table → Doc → Option Row → Option ℕ
type_if t d none = none
type_if t d (some r) = some (type_number t (spelt d r))

-- The `if` of a directive on a selection.
abbrev pub directive_on : Doc → Name → ℕ → ℕ
directive_on d x i = first_at (λ r. is kind_directive r && (below i r && called d x r)) d.rows

abbrev pub argument_below : Doc → ℕ → ℕ
argument_below d k = first_at (λ r. is kind_argument r && below k r) d.rows

abbrev pub cond_from : Doc → ℕ → Option Row → Cond
cond_from d op none = absent
cond_from d op (some v) = cond (is kind_boolean v) (literal (eqb v.extra extra_true)) (variable (variable_number d op (spelt d v)))

unfoldable pub if_of : Doc → ℕ → Name → ℕ → Cond
if_of d op x i =
    let k = directive_on d x i in
    let given = cond_from d op (find (λ r. is_value r && below (argument_below d k) r) d.rows) in
    cond (ltb k (count d)) given absent

-- What a selection is, by names.
abbrev pub sort_of : Table → Doc → ℕ → Sort Name
sort_of t d i =
    let f = field (key_at d i) in let s = spread (name_of d i) in let l = inline (type_if t d (condition_of d i)) in
    cond (is kind_field (row_of d i)) f (cond (is kind_spread (row_of d i)) s l)

-- As the draft has it; a repeated fragment name means its first.
abbrev pub by_names : Table → Doc → ℕ → View Name
by_names t d op = record {
  sort = sort_of t d;
  skip = if_of d op (bytes "skip");
  include = if_of d op (bytes "include");
  body = set_of d;
  fragment = λ f. set_of d (fragment_named d f);
  on = λ f. type_on t d (condition_of d (fragment_named d f));
}

-- As plans have it.
abbrev pub number_sort : Doc → Sort Name → Sort ℕ
number_sort d (field k) = field (key_number d k)
number_sort d (spread f) = spread (fragment_number d f)
number_sort d (inline c) = inline c

abbrev pub by_numbers : Table → Doc → ℕ → View ℕ
by_numbers t d op = record {
  sort = λ i. number_sort d (sort_of t d i);
  skip = if_of d op (bytes "skip");
  include = if_of d op (bytes "include");
  body = set_of d;
  fragment = λ n. set_of d (fragment_row d n);
  on = λ n. type_on t d (condition_of d (fragment_row d n));
}

-- THE DRAFT'S ANSWER. The selection sets of the holders (the operation's row, fields' rows), merged in order, are collected for the object type of record o:
-- the groups, by response key, in the order of their first fields.
pub record Collects (t : Table) (d : Doc) (op : ℕ) (vars : ℕ → Bool) (o : ℕ) (holders : List ℕ) (groups : Grouped Name) : Type 0 where
  pub visited : List Name
  pub by : Collect same (by_names t d op) vars (λ k. applies t k o) (gather (set_of d) holders) [] [] groups visited

-- as pairs: a key's number and a row
abbrev pub pairs_of : Doc → Grouped Name → List Pair
pairs_of d [] = []
pairs_of d (g ∷ gs) = with_key (key_number d g.0) g.1 ++ pairs_of d gs

-- THE PLAN. Its blocks: the operation, then in row order each field with selections that the operation reaches.
pub record IsBlock (d : Doc) (op i : ℕ) : Type 0 where
  pub field_row : is kind_field (row_of d i) ≡ true
  pub selections : set_of d i ≡ [] → ⊥
  pub reached : Reaches d op i

abbrev pub Above : ℕ → List ℕ → Type 0
Above x [] = Unit {0}
Above x (y ∷ ys) = (x < y) × Above x ys

abbrev pub Rising : List ℕ → Type 0
Rising [] = Unit {0}
Rising (x ∷ xs) = Above x xs × Rising xs

pub record BlockRows (d : Doc) (op : ℕ) (rows : List ℕ) : Type 0 where
  pub fields : List ℕ
  pub are : rows ≡ op ∷ fields
  pub rising : Rising fields
  pub sound : (i : ℕ) → elem eqb i fields ≡ true → IsBlock d op i
  pub complete : (i : ℕ) → IsBlock d op i → elem eqb i fields ≡ true

-- the block of a row
abbrev pub block_in : List ℕ → ℕ → ℕ
block_in rows r = first_at (eqb r) rows

-- the plan with these blocks: no selection stands deeper in fragments than there are rows
abbrev pub plan_for : Table → Doc → ℕ → List ℕ → Plan
plan_for t d op rows = plan_of (by_numbers t d op) (suc (count d)) (map (set_of d) rows)
