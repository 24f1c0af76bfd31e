-- What coercing an operation's variables asks and answers, and what is kept of those that have values.
-- Assumes nothing.
use Rattle.std.specs.Prelude.{◌≡◌, Bool, ◌&&◌, cond, List, ℕ, ◌+◌, ◌≤◌, ◌<◌, leb, Result, Ok, Err}
use lib.ListN.{length}
use Rattle.paper.specs.Numbers.{row_size, most_rows, kind_variable_definition, input_document}
use Rattle.paper.specs.Language.{Document}
use Rattle.paper.specs.Rows.{Row}
use Rattle.paper_table.specs.Lists.{each_from, only_if}
use Rattle.paper_query.specs.Constructs.{Doc, is, below}
use Rattle.query_rows.specs.Rowed.{cell}
use Rattle.query_rows.proofs.ReadRows.{Taken}
use Rattle.paper_values.specs.Values.{At, Due, Pairs, no_pairs, Out, Got, No}
use Rattle.paper_values.specs.Computed.{Given, entry_of, due_field, or_default, givens}
use Rattle.paper_values.specs.Encoding.{encode_pairs}
use Rattle.paper_values.specs.RowValues.{placed}
use Rattle.paper_values.specs.DocumentDues.{due_variable, given_in}
use Rattle.paper_values.specs.CallRules.{no_variables}
use Rattle.value_writing.specs.Writing.{Put}
use Rattle.value_kinds.specs.declared.RefusedRow.{RefusedRow}
use Rattle.value_held.specs.Given.{Ready, kinds_in}
use Rattle.value_held.specs.Holding.{Holds}
use Rattle.value_variables.specs.declared.WrittenPairs.{WrittenPairs}
use Rattle.value_variables.specs.declared.RefusedAt.{RefusedAt}

-- a definition's number, which is small
abbrev pub small : ℕ → ℕ
small k = cond (leb k most_rows) k 0

-- the answer that the pairs are written up to a place and so many variables have values, and that a row of a text is refused
abbrev pub written : ℕ → ℕ → Result WrittenPairs RefusedAt
written at many = Ok (record { at = at; many = many })

abbrev pub refused : ℕ → ℕ → ℕ → Result WrittenPairs RefusedAt
refused text row why = Err (record { text = text; row = row; why = why })

-- a writer's answer for a row of a text, after which so many variables have values
abbrev pub told : ℕ → ℕ → Result ℕ RefusedRow → Result WrittenPairs RefusedAt
told text many (Ok e) = written e many
told text many (Err f) = refused text f.row f.why

-- a variable definition of the operation of row op
abbrev pub is_definition : ℕ → Row → Bool
is_definition op r = is kind_variable_definition r && below op r

-- the texts as they are asked: the document's and the variables text's rows, which has its object at row 0
pub record Asked (t book s rows : List ℕ) (n : ℕ) (past s1 rows1 : List ℕ) (n1 : ℕ) (past1 : List ℕ) : Type 0 where
  pub ready : Ready t book s rows n past
  pub taken : Taken Document s rows n
  pub ready1 : Ready t book s1 rows1 n1 past1
  pub some1 : 0 < n1

-- what the variables text gives
abbrev pub givens_in : List ℕ → Doc → List Given
givens_in t d1 = givens (kinds_in t) no_variables (given_in d1)

-- one variable alone: its entry's value, its default, reason 3 or nothing
abbrev pub only_of : List ℕ → List Given → At × Due → Out Pairs
only_of t gs v = due_field (or_default (kinds_in t) v.0 v.1 v.1.default (Got no_pairs)) v.1 (entry_of v.1.name gs) (Got no_pairs)

abbrev pub only_at : List ℕ → Doc → Doc → ℕ → Out Pairs
only_at t d d1 v = only_of t (givens_in t d1) (placed input_document d v, due_variable d v)

-- what is kept of the first `many` stays
pub record Same (many : ℕ) (held held' : List ℕ) : Type 0 where
  pub size : length held' ≡ length held
  pub cells : (j k : ℕ) → j < many → k < row_size → cell held' j k ≡ cell held j k

-- at most one variable more has a value
abbrev pub Grows : ℕ → Result WrittenPairs RefusedAt → Type 0
Grows many (Ok w) = w.many ≤ many + 1
Grows many (Err f) = Unit

-- What came of variables, behind `many` that have values: their pairs are written and their values kept, or one is refused.
abbrev pub Told : List ℕ → List ℕ → List ℕ → List ℕ → ℕ → List ℕ → List ℕ → ℕ → ℕ → Out Pairs → ℕ → ℕ → List ℕ → List ℕ → List ℕ → Result WrittenPairs RefusedAt → Type 0
Told t book s rows n s1 rows1 n1 limit (Got ps) many from p p' held' r =
    (e : ℕ) × (m : ℕ) × (r ≡ written e m) × Put limit (encode_pairs ps) from p p' e × Holds t book s rows n s1 rows1 n1 held' many m ps
Told t book s rows n s1 rows1 n1 limit (No i w) many from p p' held' r = r ≡ refused i.text i.row w

-- the definitions of an operation from row c on
unfoldable pub definitions_from : Doc → ℕ → ℕ → List ℕ
definitions_from d op c = each_from c (λ i r. only_if (is_definition op r) i) (lib.ListN.drop c d.rows)
