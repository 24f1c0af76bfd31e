-- What operations say of the variables that they reach, and when they say the same of two.
-- Assumes nothing.
use Rattle.std.specs.Prelude.{◌≡◌, ◌⊎◌, cond, List, ℕ, ◌<◌, T}
use Rattle.paper.specs.Numbers.{kind_operation}
use Rattle.paper_table.specs.Types.{Table}
use Rattle.paper_query.specs.QueryNumbers.{rule_undefined, rule_variable_type}
use Rattle.paper_query.specs.Constructs.{Doc, is, row_of, name_of}
use Rattle.paper_query.specs.PlaceTypes.{place}
use Rattle.paper_query.specs.Reaching.{Reaches}
use Rattle.paper_query.specs.Rule10Undefined.{defines}
use Rattle.paper_query.specs.Rule11VariableType.{declared_by, differ}
use Rattle.query_rows.specs.Rowed.{doc_of, Rowed}
use Rattle.query_spreads.specs.Owners.{Owned}
use Rattle.query_places.specs.Placed.{Placed}

abbrev pub no_rule : ℕ
no_rule = 0

-- what the operation of row o says of the variable of row i: that it is undefined, that its type differs, or nothing
unfoldable pub verdict_of : Table → Doc → ℕ → ℕ → ℕ
verdict_of t d o i =
    cond (defines d o (name_of d i)) (cond (differ (declared_by d o (name_of d i)) (place t d i)) rule_variable_type no_rule) rule_undefined

-- row o is an operation that reaches row i
pub record Reaching (d : Doc) (o i : ℕ) : Type 0 where
  pub operation : T (is kind_operation (row_of d o))
  pub reaches : Reaches d o i

-- an operation that reaches row i says k of it; none before row m does
pub record Said (t : Table) (d : Doc) (i k : ℕ) : Type 0 where
  pub at : ℕ
  pub reaching : Reaching d at i
  pub says : verdict_of t d at i ≡ k

abbrev pub Unsaid : Table → Doc → ℕ → ℕ → ℕ → Type 0
Unsaid t d m i k = (o : ℕ) → o < m → Reaching d o i → verdict_of t d o i ≡ k → ⊥

-- f is the least that the operations before row m say of the variable of row i
pub record Least (t : Table) (d : Doc) (m i f : ℕ) : Type 0 where
  pub undefined : f ≡ rule_undefined → Said t d i rule_undefined
  pub differs : f ≡ rule_variable_type → Said t d i rule_variable_type
  pub no_undefined : (f ≡ rule_undefined → ⊥) → Unsaid t d m i rule_undefined
  pub no_differs : f ≡ no_rule → Unsaid t d m i rule_variable_type
  pub known : (f ≡ no_rule) ⊎ ((f ≡ rule_undefined) ⊎ (f ≡ rule_variable_type))

-- what the operations before any row say of the variable of row j, they say of that of row i
abbrev pub Alike : Table → Doc → ℕ → ℕ → Type 0
Alike t d i j = (m f : ℕ) → Least t d m j f → Least t d m i f

-- what is known of a document before its variables are compared
pub record Unlinked (t s rows : List ℕ) (n : ℕ) (at es wrappers owner : List ℕ) : Type 0 where
  pub rowed : Rowed s rows n
  pub placed : Placed t s rows n at es wrappers
  pub owned : Owned (doc_of s rows n) owner
