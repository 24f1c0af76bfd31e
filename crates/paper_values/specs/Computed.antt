-- Input coercion as functions, for proofs and code. NOT TO BE BELIEVED: `CoercionRules` and `CallRules` say what coercion is, and proofs/CoercionExact and
-- proofs/CallsExact show that each value at each type, and each call, has exactly one result by these rules, the one computed here.
-- Structural in the value, and inside one value in the type.
use Rattle.std.specs.Prelude.{Bool, cond, List, [], ◌∷◌, ℕ}
use Rattle.std.proofs.Math.Option.{Option, none, some}
use Rattle.paper.specs.Tokens.{same}
use Rattle.paper_table.specs.References.{Ref, named, list_of, non_null, is_non_null}
use Rattle.paper_values.specs.ValueNumbers.{reason_missing, reason_null, reason_unknown, reason_repeated}
use Rattle.paper_values.specs.Values.{Name, At, Value, variable, integer, float, string, boolean, null, enum, list, object, Values, no_values, item, Entries, no_entries, entry, Due, Tree, Null, Bits, Decimal, Text, Truth, Member, Many, Fields, Token, Trees, no_more, also, Pairs, no_pairs, pair, Out, Got, No, and_then}
use Rattle.paper_values.specs.Kinds.{Kind}
use Rattle.paper_values.specs.Coercion.{by_type, wrong_kind, integer_at, float_at, string_at, boolean_at, enum_at, Head, repeated_entry, unknown_entry, heads, left_out, value_in}

-- null: at a Non-Null type reason 4, at any other itself; it is never made a list of one
abbrev pub null_at : At → Ref → Out Tree
null_at i (named n) = Got Null
null_at i (list_of r) = Got Null
null_at i (non_null r) = No i reason_null

abbrev pub object_at : At → (List Due → Out Tree) → Kind → Out Tree
object_at i f = by_type (wrong_kind i) (wrong_kind i) (wrong_kind i) (wrong_kind i) (wrong_kind i) (wrong_kind i) (wrong_kind i) (λ ms. wrong_kind i) f

-- an entry that is given: its name, whether an absent variable leaves it out, and what it is at a type
pub record Given : Type 0 where
  pub name : Name
  pub out : Bool
  pub at : Ref → Out Tree

-- the entry of this name, unless it is left out
abbrev pub entry_of : Name → List Given → Option (Ref → Out Tree)
entry_of n [] = none
entry_of n (g ∷ gs) = cond (same n g.name) (cond g.out none (some g.at)) (entry_of n gs)

-- a value, and the others behind it
abbrev pub pair_first : Name → Out Tree → Out Pairs → Out Pairs
pair_first n o rest = and_then o (λ t. and_then rest (λ ps. Got (pair n t ps)))

-- what is due and has no entry: reason 3 at the place i if it is Non-Null, else nothing
abbrev pub missing_due : At → Due → Out Pairs → Out Pairs
missing_due i d rest = cond (is_non_null d.type) (No i reason_missing) rest

-- one that is due: what its entry gives; `lack` without one
abbrev pub due_field : Out Pairs → Due → Option (Ref → Out Tree) → Out Pairs → Out Pairs
due_field lack d none rest = lack
due_field lack d (some f) rest = pair_first d.name (f d.type) rest

-- all that are due, in definition order
abbrev pub due_fields : (Due → Out Pairs → Out Pairs) → List Given → List Due → Out Pairs
due_fields lack gs [] = Got no_pairs
due_fields lack gs (d ∷ ds) = due_field (lack d (due_fields lack gs ds)) d (entry_of d.name gs) (due_fields lack gs ds)

abbrev pub unless : {A : Type 0} → Option At → ℕ → Out A → Out A
unless none reason o = o
unless (some e) reason o = No e reason

-- "all entries for 6, then for 5, then fields in definition order"
abbrev pub in_object : (Due → Out Pairs → Out Pairs) → List Head → List Given → List Due → Out Tree
in_object lack es gs ds = unless (repeated_entry [] es) reason_repeated (unless (unknown_entry ds es) reason_unknown (and_then (due_fields lack gs ds) (λ ps. Got (Fields ps))))

-- ---- values

module _ (kinds : Name → Kind) (vars : Name → Option Tree) where
  -- what is no list and no null, at a type: a list of one at each depth
  abbrev pub single : (Kind → Out Tree) → Ref → Out Tree
  single f (named n) = f (kinds n)
  single f (list_of r) = and_then (single f r) (λ t. Got (Many (also t no_more)))
  single f (non_null r) = single f r

  -- a list, whose items are `items` at a type
  abbrev pub several : At → (Ref → Out Trees) → Ref → Out Tree
  several i items (named n) = wrong_kind i
  several i items (list_of r) = and_then (items r) (λ ts. Got (Many ts))
  several i items (non_null r) = several i items r

  -- a variable stands for its value; an absent one (in a list) for null
  abbrev pub held : At → Ref → Option Tree → Out Tree
  held i r none = null_at i r
  held i r (some Null) = null_at i r
  held i r (some (Bits x)) = Got (Bits x)
  held i r (some (Decimal s)) = Got (Decimal s)
  held i r (some (Text s)) = Got (Text s)
  held i r (some (Truth b)) = Got (Truth b)
  held i r (some (Member n)) = Got (Member n)
  held i r (some (Many ts)) = Got (Many ts)
  held i r (some (Fields ps)) = Got (Fields ps)
  held i r (some (Token s)) = Got (Token s)

  unfoldable mutual
    pub coerce : Value → Ref → Out Tree
    coerce (variable i n) r = held i r (vars n)
    coerce (integer i s) r = single (integer_at i s) r
    coerce (float i s) r = single (float_at i s) r
    coerce (string i s cs) r = single (string_at i s cs) r
    coerce (boolean i b) r = single (boolean_at i b) r
    coerce (null i) r = null_at i r
    coerce (enum i n) r = single (enum_at i n) r
    coerce (list i vs) r = several i (λ q. coerce_all vs q) r
    coerce (object i es) r = single (object_at i (in_object (missing_due i) (heads es) (givens es))) r

    pub coerce_all : Values → Ref → Out Trees
    coerce_all no_values r = Got no_more
    coerce_all (item v vs) r = and_then (coerce v r) (λ t. and_then (coerce_all vs r) (λ ts. Got (also t ts)))

    pub givens : Entries → List Given
    givens no_entries = []
    givens (entry i n v es) = record { name = n; out = left_out kinds vars v; at = λ r. coerce v r } ∷ givens es

-- ---- the two calls

module _ (kinds : Name → Kind) where
  -- a value in which no variable stands
  abbrev pub constant : Value → Ref → Out Tree
  constant v r = coerce kinds (λ n. none) v r

  -- without an entry: the default, or reason 3 at the place i, or nothing
  abbrev pub or_default : At → Due → Option Value → Out Pairs → Out Pairs
  or_default i d none rest = missing_due i d rest
  or_default i d (some v) rest = pair_first d.name (constant v d.type) rest

  -- a variable: the place of its definition, and what is due
  abbrev pub variables_from : List Given → List (At × Due) → Out Pairs
  variables_from gs [] = Got no_pairs
  variables_from gs (v ∷ vs) = due_field (or_default v.0 v.1 v.1.default (variables_from gs vs)) v.1 (entry_of v.1.name gs) (variables_from gs vs)

  -- an operation's variables: an entry each in definition order; other names are passed over, and a repeated name is reason 6 before all else
  abbrev pub variables_of : Entries → List (At × Due) → Out Pairs
  variables_of es vs = unless (repeated_entry [] (heads es)) reason_repeated (variables_from (givens kinds (λ n. none) es) vs)

  -- then a field's arguments, as an input object of their definitions; i is the field's place
  abbrev pub arguments_of : Entries → List (At × Due) → At → Entries → List Due → Out Tree
  arguments_of given vs i es ds =
      and_then (variables_of given vs) (λ ps.
      in_object (λ d rest. or_default i d d.default rest) (heads es) (givens kinds (value_in ps) es) ds)
