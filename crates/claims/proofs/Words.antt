-- The words of the first page, `Main`: names of the paper crates, gathered, and what it is for a call's results to be fixed.
-- Assumes nothing.
use mathlib.Core.Path.{◌≡◌}
use mathlib.Core.List.{List}
use Prim.Native.Nat.{ℕ, ◌≤◌}
pub use Rattle.paper.specs.Numbers.{report_size, rows_size, most_text}
pub use Rattle.paper.specs.Language.{Document, VariablesText}
pub use Rattle.paper.specs.Tokens.{Text, Tokens}
pub use Rattle.paper.specs.Rows.{Row}
pub use Rattle.paper.specs.Reading.{rows_are, TextAnswer}
pub use Rattle.paper.specs.Calls.{Parsed, filled}
pub use Rattle.paper_table.specs.TableNumbers.{most_table}
unfoldable pub use Rattle.paper_table.specs.House.{framing_offset}
unfoldable pub use Rattle.paper_table.specs.TableSizes.{counts_offset}
unfoldable pub use Rattle.paper_table.specs.Types.{table_of}
pub use Rattle.paper_table.specs.Types.{is_object}
unfoldable pub use Rattle.paper_table.specs.Judging.{breaks, judge}
pub use Rattle.paper_table.specs.TableCalls.{Checked}
pub use Rattle.paper_table.specs.declared.TableAnswer.TheVariants.{Accepted}
pub use Rattle.paper_query.specs.QueryRules.{Broken}
pub use Rattle.paper_query.specs.DocumentCalls.{read, Lent, Short, CheckedDocument}
pub use Rattle.paper_query.specs.Enclosing.{definition_at}
pub use Rattle.paper_query.specs.Opening.{opens, Opened}
use Rattle.paper_values.specs.ValueNumbers.{refuse_too_long}
pub use Rattle.paper_values.specs.ValueNumbers.{most_coerced}
pub use Rattle.paper_values.specs.Values.{At, Tree, Fields, Pairs, Got, No}
pub use Rattle.paper_values.specs.Encoding.{encode}
pub use Rattle.paper_values.specs.DocumentDues.{ReachedField}
pub use Rattle.paper_values.specs.ValueCalls.{CoercedVariables, CoercedArguments, ValueLent, ValueShort}
pub use Rattle.paper_plan.specs.PlanCalls.{Planned}
pub use Rattle.paper_plan.specs.Collecting.{Grouped}
pub use Rattle.paper_plan.specs.Selecting.{Name, BlockRows, Collects, pairs_of}
pub use Rattle.paper_plan.specs.PlanNumbers.{blocks_in}
pub use Rattle.paper_plan.specs.LentPlan.{is_one, pair_numbers}
pub use Rattle.paper_plan.specs.WalkNumbers.{most_pairs, most_walked, pairs_size, variables_size}
pub use Rattle.paper_plan.specs.WalkCalls.{Walked, WalkLent}
pub use Rattle.claims.proofs.CoercionsWords.{VariablesRead, VariablesGive, ArgumentsGive}

-- a call's result: its answer, what its output buffer holds afterwards (nothing where it has none), and its report
abbrev pub Result : Type 0
Result = ℕ × List ℕ × List ℕ

-- A statement of results fixes them: that no result satisfies it is refuted, two that do are equal, and the answer is 0 or the number of one of the sixteen refusals.
abbrev pub Fixed : (Result → Type 0) → Type 0
Fixed R = (((r : Result) → R r → ⊥) → ⊥) × ((r s : Result) → R r → R s → r ≡ s) × ((r : Result) → R r → r.0 ≤ refuse_too_long)
