-- THE THREE DEMANDS: start here. Each is one theorem, stated in full, and its proof only names laws.
-- Its names come from the `specs` of the crates `paper`, `paper_table`, `paper_query`, `paper_values` and `paper_plan`: what these say is
-- to be believed. `Words` beside this file gathers them, and says what it is to fix a result (`Result`, `Fixed`); `VariablesRead`,
-- `VariablesGive` and `ArgumentsGive`, of `CoercionsWords`, abbreviate. That a call's code meets its statement, `Exported`'s names say.
-- What each call promises besides, refusal by refusal and buffer by buffer, stands in `MainParse`, `MainTable`, `MainCheck`,
-- `MainCoercions`, `MainPlans`, `MainWalks` and `MainDemand3`; 01's examples in `MainExamples`; the library's own facts in `LookUps`.
-- To read it: texts, tables and buffers are lists of numbers from 0 on (`List ℕ`), and a name with a prime, as `report'`, is what a call
-- leaves in a buffer. `[]` is the empty list, `x ∷ l` is x and then l, `take n l` the first n of l, `get_or l i 0` the one at place i
-- (from 0), `map f l` is f of each; `none` is "nothing there".
-- `A × B` is "A and B", `A ⊎ B` "A or B", `A → B` "if A, then B", `A → ⊥` "not A", `A ↔ B` "A exactly when B", `a ≡ b` "a is b".
-- `(x : T) → A` is "A for every x", `{x : T} → A` the same (a proof need not name such an x), `(x : T) × A` "there is an x with A".
-- `λ x. e` is the function that gives e for x; `r.0`, `r.1`, `r.2` are the parts of r in order, `i.row` is the part of that name.
-- `{M}` is the program logic's own: "in every model of it".
use mathlib.Core.Path.{◌≡◌}
use mathlib.Core.Option.{none}
use mathlib.Core.Bool.{true}
use mathlib.Core.List.{List, [], ◌∷◌, map}
use mathlib.Core.Logic.{◌↔◌, ◌⊎◌}
use Prim.Native.Nat.{ℕ, ◌≤◌, ◌<◌}
use lib.ListN.{length, take, get_or}
use Rattle.claims.proofs.Words.{Result, Fixed, Parsed, Checked, CheckedDocument, CoercedVariables, CoercedArguments, Planned, Walked}
use Rattle.claims.proofs.Words.{report_size, rows_size, most_text, most_table, most_coerced, Text, Tokens, Document, Row, rows_are}
use Rattle.claims.proofs.Words.{TextAnswer, Accepted, framing_offset, counts_offset, breaks, table_of, judge, Broken, read, Lent, Short}
use Rattle.claims.proofs.Words.{At, Tree, Fields, Pairs, Got, No, encode, ReachedField, ValueLent, ValueShort}
use Rattle.claims.proofs.Words.{VariablesRead, VariablesGive, ArgumentsGive, opens, Opened, BlockRows, is_object, definition_at}
use Rattle.claims.proofs.Words.{most_walked, most_pairs, pairs_size, variables_size, blocks_in, WalkLent, Grouped, Name, Collects}
use Rattle.claims.proofs.Words.{is_one, pairs_of, pair_numbers, filled}
use Rattle.claims.proofs.Exported as call
use Rattle.claims.proofs.CallsMet as met
use Rattle.claims.proofs.FixedLaws as fixed
use Rattle.claims.proofs.ExactlyLaws as exactly
use Rattle.claims.proofs.DocumentsLaws as documents
use Rattle.claims.proofs.CoercedVariables as variables
use Rattle.claims.proofs.CoercedArguments as arguments
use Rattle.claims.proofs.Demand3Laws as planned

-- DEMAND 1. Every call, on any table, document and variables text of any length and content, ends with an answer or with one numbered
-- refusal and its place. It asks nothing of the host beforehand. What a refusal leaves in every buffer is fixed.
pub demand_1 : {M : Type 1} →
    -- the seven calls of the crate gateway, which gateway_c hands on under the names that C links, with the same statements, meet these;
    -- they ask for nothing beforehand: so each call ends, whatever it is given, and touches only what is lent
    (call.gw-parse M × call.gw-check-table M × call.gw-check M × call.gw-coerce-variables M × call.gw-coerce-arguments M × call.gw-plan M
    × call.gw-walk M)
    -- whatever the inputs and buffers, a statement fixes the answer (0, or one of the sixteen refusals), every number of the output and
    -- every number of the report
    × ((document rows report : List ℕ) → Fixed (λ (r : Result). Parsed document rows report r.1 r.2 r.0))
    × ((table report : List ℕ) → Fixed (λ (r : Result). Checked table report r.2 r.0 × (r.1 ≡ [])))
    × ((table document rows report : List ℕ) → Fixed (λ (r : Result). CheckedDocument table document rows report r.1 r.2 r.0))
    × ((table document name variables value report : List ℕ) →
    Fixed (λ (r : Result). CoercedVariables table document name variables value report r.1 r.2 r.0))
    × ((table document name variables : List ℕ) (row : ℕ) (value report : List ℕ) →
    Fixed (λ (r : Result). CoercedArguments table document name variables row value report r.1 r.2 r.0))
    × ((table document name plan report : List ℕ) → Fixed (λ (r : Result). Planned table document name plan report r.1 r.2 r.0))
    × ((table plan : List ℕ) (object : ℕ) (blocks variables pairs report : List ℕ) →
    Fixed (λ (r : Result). Walked table plan object blocks variables pairs report r.1 r.2 r.0))
demand_1 = (
  met.all,
  fixed.parse_fixed,
  fixed.table_fixed,
  fixed.check_fixed,
  fixed.variables_fixed,
  fixed.arguments_fixed,
  fixed.plan_fixed,
  fixed.walk_fixed,
)

-- DEMAND 2. It follows the draft as document 01 lists it: a document is accepted exactly when grammar, query rules and sizes are met; a
-- table exactly when framing, sizes and schema rules are; each input value coerces to the one result the rules give, or is refused exactly
-- where they refuse it.
pub demand_2 :
    -- a text: it fits grammar and sizes (then it has rows)
    ((document rows report rows' report' : List ℕ) (a : ℕ) → Parsed document rows report rows' report' a →
    (a ≡ 0) ↔ ((report_size ≤ length report) × (rows_size ≤ length rows) × (length document ≤ most_text)
    × ((rs : List Row) × ((t : Text) × Tokens 0 document t × TextAnswer Document t (rows_are rs)))))
    -- a table: its framing is right, no count is over its size, no schema rule is broken
    × ((table report report' : List ℕ) (a : ℕ) → Checked table report report' a →
    (a ≡ 0) ↔ ((report_size ≤ length report) × (length table ≤ most_table)
    × (framing_offset table ≡ none) × (counts_offset table ≡ none) × (breaks (table_of table) ≡ [])))
    -- a document, by a table that is accepted: its text fits grammar and sizes, and no row breaks a query rule
    × ((table document rows report rows' report' : List ℕ) (a : ℕ) → CheckedDocument table document rows report rows' report' a →
    (a ≡ 0) ↔ (Lent rows report × Short table document × (judge table ≡ Accepted)
    × ((rs : List Row) × ((t : Text) × Tokens 0 document t × TextAnswer Document t (rows_are rs))
    × ((i k : ℕ) → Broken (table_of table) (read document rs) i k → ⊥))))
    -- an operation's variables: coerced exactly when the rules give a result that fits; refused, with text, row and reason, where they do
    × ((table document name variables value report value' report' : List ℕ) (a : ℕ) →
    CoercedVariables table document name variables value report value' report' a →
    ((a ≡ 0) ↔ (ValueLent value report × ValueShort table document variables
    × ((rs : List Row) × (op : ℕ) × (vs : List Row) × (ps : Pairs) × VariablesRead table document name variables rs op vs
    × VariablesGive table document variables rs op vs (Got ps) × (length (encode (Fields ps)) ≤ most_coerced))))
    × ((i : At) (w : ℕ) → ((a ≡ 11) × (take 4 report' ≡ 11 ∷ i.text ∷ i.row ∷ w ∷ [])) ↔ (ValueLent value report
    × ValueShort table document variables × ((rs : List Row) × (op : ℕ) × (vs : List Row)
    × VariablesRead table document name variables rs op vs × VariablesGive table document variables rs op vs (No i w)))))
    -- the arguments of a field that the operation reaches: the same
    × ((table document name variables : List ℕ) (row : ℕ) (value report value' report' : List ℕ) (a : ℕ) →
    CoercedArguments table document name variables row value report value' report' a →
    ((a ≡ 0) ↔ (ValueLent value report × ValueShort table document variables
    × ((rs : List Row) × (op : ℕ) × (vs : List Row) × (t : Tree) × ReachedField (read document rs) op row
    × VariablesRead table document name variables rs op vs × ArgumentsGive table document variables row rs op vs (Got t)
    × (length (encode t) ≤ most_coerced))))
    × ((i : At) (w : ℕ) → ((a ≡ 11) × (take 4 report' ≡ 11 ∷ i.text ∷ i.row ∷ w ∷ [])) ↔ (ValueLent value report
    × ValueShort table document variables × ((rs : List Row) × (op : ℕ) × (vs : List Row) × ReachedField (read document rs) op row
    × VariablesRead table document name variables rs op vs × ArgumentsGive table document variables row rs op vs (No i w)))))
demand_2 = (
  λ d w r x s a c. exactly.parsed_exactly c,
  λ t r s a c. exactly.checked_exactly c,
  λ t d w r x s a c. documents.accepted_exactly c,
  λ t d n v w r x s a c. (variables.variables_accepted_exactly t d n v c, variables.variables_refused_exactly t d n v c),
  λ t d n v k w r x s a c. (arguments.arguments_accepted_exactly t d n v k c, arguments.arguments_refused_exactly t d n v k c),
)

-- DEMAND 3. A query is translated once into a plan. For every accepted table and document, every operation, object type, variable values
-- and merged selection sets within the sizes, walking the plan lists the same keys and fields in the same order as the draft's
-- CollectFields on the document itself.
pub demand_3 :
    -- gw_plan made a plan: of the operation op of a document with the rows rs; its blocks are those of `rows`, the operation and the fields
    -- with selections that it reaches
    {table document name plan report plan' report' : List ℕ} → Planned table document name plan report plan' report' 0 →
    (rs : List Row) (op : ℕ) (rows : List ℕ) → Opened table document name (opens rs op) → BlockRows (read document rs) op rows →
    -- gw_walk walks it, for any object type, at most 64 of its blocks in any order, repeats too, and any variable values
    (object : ℕ) (blocks variables : List ℕ) → is_object (definition_at (table_of table) object) ≡ true → length blocks ≤ most_walked →
    ((j : ℕ) → j < length blocks → get_or blocks j 0 < blocks_in plan') → variables_size ≤ length variables →
    (pairs walked pairs' walked' : List ℕ) (a : ℕ) → WalkLent pairs walked →
    Walked table plan' object blocks variables pairs walked pairs' walked' a →
    -- then CollectFields on the document gives one result g for the merged selection sets of those fields,
    (g : Grouped Name)
    × Collects (table_of table) (read document rs) op (is_one variables) object (map (λ b. get_or rows b 0) blocks) g
    × ((h : Grouped Name) →
    Collects (table_of table) (read document rs) op (is_one variables) object (map (λ b. get_or rows b 0) blocks) h → g ≡ h)
    -- and the walk leaves its keys and fields in that order, if there are at most 512, and is refused with 15 if there are more
    × (((length (pairs_of (read document rs) g) ≤ most_pairs) × (a ≡ 0)
    × (pairs' ≡ filled pairs_size (pair_numbers (pairs_of (read document rs) g)) pairs)
    × (walked' ≡ filled report_size (0 ∷ length (pairs_of (read document rs) g) ∷ []) walked))
    ⊎ ((most_pairs < length (pairs_of (read document rs) g)) × (a ≡ 15)
    × (pairs' ≡ filled pairs_size [] pairs) × (walked' ≡ filled report_size (15 ∷ []) walked)))
demand_3 = planned.by_blocks
