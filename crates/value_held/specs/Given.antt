-- What is ready to be coerced; the values of variables, and the entries that are given where these have them.
-- Assumes nothing.
use Rattle.std.specs.Prelude.{◌≡◌, Bool, true, false, ◌&&◌, List, ℕ, zero, suc, ◌+◌, ◌-◌, eqb, Result, Ok}
use Rattle.std.proofs.Math.Option.{Option, none, some}
use Rattle.paper.specs.Numbers.{kind_variable}
use Rattle.paper_table.specs.References.{Ref}
use Rattle.paper_table.specs.Types.{table_of}
use Rattle.paper_query.specs.Constructs.{Doc, kind_of, name_of}
use Rattle.table_types.specs.Booked.{Booked}
use Rattle.table_types.specs.Sizes.{Slim}
use Rattle.paper_values.specs.Values.{Name, Entries, Tree, Pairs, Out, Got, No}
use Rattle.paper_values.specs.Kinds.{Kind, kind_of_type}
use Rattle.paper_values.specs.Computed.{Given, coerce, givens}
use Rattle.paper_values.specs.Encoding.{encode_pairs}
use Rattle.paper_values.specs.RowValues.{entries_from, value_at}
use Rattle.value_writing.specs.Writing.{Put}
use Rattle.value_kinds.specs.Dues.{refused}
use Rattle.value_kinds.specs.declared.RefusedRow.{RefusedRow}
use Rattle.value_entries.specs.Entered.{Treed}
use Rattle.value_tokens.specs.Spans.{Spanned}

-- the table has its book and few wrappers; the rows lie in their text, each with the row past its subtree
pub record Ready (t book s rows : List ℕ) (n : ℕ) (past : List ℕ) : Type 0 where
  pub booked : Booked t book
  pub slim : Slim (table_of t)
  pub treed : Treed s rows n past
  pub spanned : Spanned s rows n

-- the values of variables
abbrev pub Vars : Type 0
Vars = Name → Option Tree

-- it has none
abbrev pub is_none : Option Tree → Bool
is_none none = true
is_none (some t) = false

-- a value that leaves its entry out: a variable without a value; with no level left no value is one
abbrev pub leaves_out : Vars → Doc → ℕ → ℕ → Bool
leaves_out vars d zero i = false
leaves_out vars d (suc k) i = eqb (kind_of d i) kind_variable && is_none (vars (name_of d i))

-- the kinds of a table's types
abbrev pub kinds_in : List ℕ → Name → Kind
kinds_in t = kind_of_type (table_of t)

-- row i's value at the type r, with k levels left
abbrev pub coerced : List ℕ → Vars → ℕ → Doc → ℕ → ℕ → Ref → Out Tree
coerced t vars text d k i r = coerce (kinds_in t) vars (value_at text d k i) r

-- the entries of this kind of row h, as they are given
abbrev pub entries_at : ℕ → Doc → ℕ → ℕ → ℕ → ℕ → Entries
entries_at text d n k kind h = entries_from text d (value_at text d k) kind h (n - (h + 1)) (h + 1)

abbrev pub givens_at : List ℕ → Vars → ℕ → Doc → ℕ → ℕ → ℕ → ℕ → List Given
givens_at t vars text d n k kind h = givens (kinds_in t) vars (entries_at text d n k kind h)

-- what a writer of pairs answers
abbrev pub ToldPairs : ℕ → ℕ → Out Pairs → ℕ → List ℕ → List ℕ → Result ℕ RefusedRow → Type 0
ToldPairs text limit (Got ps) from p p' c = (e : ℕ) × (c ≡ Ok e) × Put limit (encode_pairs ps) from p p' e
ToldPairs text limit (No i why) from p p' c = (i.text ≡ text) × (c ≡ refused i.row why)
