-- Wrong programs that differ from `coerce` on a worked example: one tells an object's refusals as its entries are written and one tells the least row,
-- where 01 says "fields in definition order"; one leaves an absent variable's item out of a list, where 01 says "in a list it is null"; one tells a repeated
-- name at the first entry that has it, where 01 says "for 5 and 6 the entry's"; one judges a default that is not taken, where 01 says that an absent variable takes it.
-- Assumes nothing.
use mathlib.Core.Path.{◌≡◌, refl, ap}
use mathlib.Core.Bool.{true, cond}
use mathlib.Core.Option.{Option, none, some}
use mathlib.Core.List.{List, [], ◌∷◌}
use Prim.Native.Nat.{ℕ}
use native.Mathlib.Omega.{arith}
use lib.Dec.{leb}
use Rattle.paper.specs.Tokens.{same}
use Rattle.paper_table.specs.Lists.{bytes, any_of, first_at, gather}
use Rattle.paper_table.specs.References.{Ref, named}
use Rattle.paper_table.specs.Types.{built_ins, meaning}
use Rattle.paper_values.specs.NumberTokens.{value_from, int_of}
use Rattle.paper_values.specs.Values.{Name, At, Value, variable, integer, boolean, Values, no_values, item, Entries, no_entries, entry, Due, Tree, Null, Bits, Trees, no_more, also, Pairs, no_pairs, pair, Out, Got, No, and_then}
use Rattle.paper_values.specs.Kinds.{Kind, kind_of_type}
use Rattle.paper_values.specs.Computed.{Given, missing_due, entry_of, due_field, due_fields, coerce, coerce_all, givens, constant, or_default, variables_from}
use Rattle.paper_values.specs.Coercion.{Head, repeated_entry, heads, left_out}

abbrev int : Ref
int = named (bytes "Int")

-- a table without types
abbrev pub kinds : Name → Kind
kinds = kind_of_type []

abbrev pub unset : Name → Option Tree
unset n = none

abbrev here : ℕ → At
here i = record { text = 0; row = i }

-- ---- an object's fields

-- the type that is due for a name
abbrev type_for : Name → List Due → Option Ref
type_for n [] = none
type_for n (d ∷ ds) = cond (same n d.name) (some d.type) (type_for n ds)

abbrev tried : Given → Option Ref → Out Pairs → Out Pairs
tried g none rest = rest
tried g (some r) rest = and_then (g.at r) (λ t. rest)

-- the first refusal among the entries as they are written; else o
abbrev pub written_first : Out Pairs → List Given → List Due → Out Pairs
written_first o [] ds = o
written_first o (g ∷ gs) ds = tried g (type_for g.name ds) (written_first o gs ds)

-- of two refusals the one with the lesser row
abbrev lesser : Name → Out Tree → Out Pairs → Out Pairs
lesser n (Got t) (Got ps) = Got (pair n t ps)
lesser n (Got t) (No j v) = No j v
lesser n (No i w) (Got ps) = No i w
lesser n (No i w) (No j v) = cond (leb i.row j.row) (No i w) (No j v)

abbrev lesser_field : At → Due → Option (Ref → Out Tree) → Out Pairs → Out Pairs
lesser_field i d none rest = missing_due i d rest
lesser_field i d (some f) rest = lesser d.name (f d.type) rest

-- `due_fields`, but that the least row is told
abbrev pub least_row : At → List Given → List Due → Out Pairs
least_row i gs [] = Got no_pairs
least_row i gs (d ∷ ds) = lesser_field i d (entry_of d.name gs) (least_row i gs ds)

-- `{b: true, a: true}` where a: Int and b: Int are due
abbrev given : List Given
given = givens kinds unset (entry (here 1) (bytes "b") (boolean (here 2) true) (entry (here 3) (bytes "a") (boolean (here 4) true) no_entries))

abbrev due : Name → Due
due n = record { name = n; type = int; default = none }

abbrev dues : List Due
dues = due (bytes "a") ∷ due (bytes "b") ∷ []

abbrev pub right : List Given → List Due → Out Pairs
right gs ds = due_fields (missing_due (here 0)) gs ds

-- a is told, which is defined first; both wrong programs tell b
pub definition_order : right given dues ∷ written_first (right given dues) given dues ∷ least_row (here 0) given dues ∷ [] ≡ No (here 4) 1 ∷ No (here 2) 1 ∷ No (here 2) 1 ∷ []
unfolding coerce kind_of_type built_ins meaning any_of first_at gather
definition_order = refl

abbrev row_told : Out Pairs → ℕ
row_told (Got ps) = 0
row_told (No i w) = i.row

pub written_differs : ((gs : List Given) (ds : List Due) → written_first (right gs ds) gs ds ≡ right gs ds) → ⊥
unfolding coerce kind_of_type built_ins meaning any_of first_at gather
written_differs h = let z : ◌≡◌ {A = ℕ} 2 4 = ap row_told (h given dues) in omega (arith, z)

pub least_differs : ((gs : List Given) (ds : List Due) → least_row (here 0) gs ds ≡ right gs ds) → ⊥
unfolding coerce kind_of_type built_ins meaning any_of first_at gather
least_differs h = let z : ◌≡◌ {A = ℕ} 2 4 = ap row_told (h given dues) in omega (arith, z)

-- ---- a list's items

-- `coerce_all`, but that an absent variable leaves its item out
abbrev pub items_left : Values → Ref → Out Trees
items_left no_values r = Got no_more
items_left (item v vs) r = cond (left_out kinds unset v) (items_left vs r) (and_then (coerce kinds unset v r) (λ t. and_then (items_left vs r) (λ ts. Got (also t ts))))

-- `[$v]` at [Int], where $v is absent: null stands there
abbrev items : Values
items = item (variable (here 1) (bytes "v")) no_values

pub absent_item : coerce_all kinds unset items int ∷ items_left items int ∷ [] ≡ Got (also Null no_more) ∷ Got no_more ∷ []
unfolding coerce
absent_item = refl

abbrev is_empty : Out Trees → ℕ
is_empty (Got no_more) = 1
is_empty (Got (also t ts)) = 0
is_empty (No i w) = 0

pub leaving_differs : ((vs : Values) (r : Ref) → items_left vs r ≡ coerce_all kinds unset vs r) → ⊥
unfolding coerce
leaving_differs h = let z : ◌≡◌ {A = ℕ} 1 0 = ap is_empty (h items int) in omega (arith, z)

-- ---- a repeated name

-- `repeated_entry`, but that the first of two entries is told: one whose name a later one has
abbrev pub repeated_first : List Head → Option At
repeated_first [] = none
repeated_first (e ∷ es) = cond (any_of (λ f. same e.1 f.1) es) (some e.0) (repeated_first es)

-- `{a: true, a: true}`: the second is told
abbrev twice : List Head
twice = heads (entry (here 1) (bytes "a") (boolean (here 2) true) (entry (here 3) (bytes "a") (boolean (here 4) true) no_entries))

pub second_told : repeated_entry [] twice ∷ repeated_first twice ∷ [] ≡ some (here 3) ∷ some (here 1) ∷ []
unfolding any_of
second_told = refl

abbrev row_or : Option At → ℕ
row_or none = 0
row_or (some i) = i.row

pub first_differs : ((es : List Head) → repeated_first es ≡ repeated_entry [] es) → ⊥
unfolding any_of
first_differs h = let z : ◌≡◌ {A = ℕ} 1 3 = ap row_or (h twice) in omega (arith, z)

-- ---- a default that is not taken

abbrev judged : Ref → Option Value → Out Tree
judged r none = Got Null
judged r (some v) = constant kinds v r

-- `variables_from`, but that a default is judged also where an entry is given
abbrev pub defaults_judged : List Given → List (At × Due) → Out Pairs
defaults_judged gs [] = Got no_pairs
defaults_judged gs (v ∷ vs) =
    and_then (judged v.1.type v.1.default) (λ t.
    due_field (or_default kinds v.0 v.1 v.1.default (defaults_judged gs vs)) v.1 (entry_of v.1.name gs) (defaults_judged gs vs))

-- `$v: Int = true`, given `{v: 1}`: v is 1
abbrev one : Entries
one = entry (record { text = 1; row = 1 }) (bytes "v") (integer (record { text = 1; row = 2 }) (bytes "1")) no_entries

abbrev wrong_default : List (At × Due)
wrong_default = (here 1, record { name = bytes "v"; type = int; default = some (boolean (here 3) true) }) ∷ []

pub default_passed_over :
    variables_from kinds (givens kinds unset one) wrong_default ∷ defaults_judged (givens kinds unset one) wrong_default ∷ [] ≡ Got (pair (bytes "v") (Bits 1) no_pairs) ∷ No (here 3) 1 ∷ []
unfolding coerce kind_of_type built_ins meaning any_of first_at gather int_of value_from
default_passed_over = refl

pub judging_differs : ((gs : List Given) (vs : List (At × Due)) → defaults_judged gs vs ≡ variables_from kinds gs vs) → ⊥
unfolding coerce kind_of_type built_ins meaning any_of first_at gather int_of value_from
judging_differs h = let z : ◌≡◌ {A = ℕ} 3 0 = ap row_told (h (givens kinds unset one) wrong_default) in omega (arith, z)
