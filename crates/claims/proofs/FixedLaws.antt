-- Each call's statement fixes its results.
use mathlib.Core.Path.{◌≡◌, refl, sym, ap, ◌∙◌}
use mathlib.Core.List.{List, []}
use Prim.Native.Nat.{ℕ}
use Rattle.paper.specs.Calls.{Parsed}
use Rattle.paper_table.specs.TableCalls.{Checked}
use Rattle.paper_table.proofs.TableCallsOne.{checked_one}
use Rattle.paper_query.specs.DocumentCalls.{CheckedDocument}
use Rattle.paper_query.proofs.DocumentCallsOne.{checked_document_one}
use Rattle.paper_values.specs.ValueCalls.{CoercedVariables, CoercedArguments}
use Rattle.paper_values.proofs.ValueCallsOne.{coerced_variables_one, coerced_arguments_one}
use Rattle.paper_plan.specs.PlanCalls.{Planned}
use Rattle.paper_plan.specs.WalkCalls.{Walked}
use Rattle.paper_plan.proofs.WalkCallsOne.{walked_one}
use Rattle.paper_theory.proofs.CallsOne.{parsed_one}
use Rattle.plan_theory.proofs.PlanCallsOne.{planned_one}
use Rattle.plan_walk_answer.proofs.SomeLaws.{walked_some}
use Rattle.claims.proofs.Words.{Result, Fixed}
use Rattle.claims.proofs.SomeLaws.{parsed_some}
use Rattle.claims.proofs.CheckedLaws.{checked_some}
use Rattle.claims.proofs.ExactlyLaws.{checked_document_some}
use Rattle.claims.proofs.CoercionsSome.{coerced_variables_some, coerced_arguments_some}
use Rattle.claims.proofs.PlansSomeLaws.{planned_some}
use Rattle.claims.proofs.NumbersLaws.{parse_number, table_number_of, check_number, variables_answer, arguments_answer, plan_number, walk_number}

-- two results are one where answer, output and report are
pub same_result : (r s : Result) → (r.0 ≡ s.0) × (r.1 ≡ s.1) × (r.2 ≡ s.2) → r ≡ s
same_result r s e =
    ap {B = Result} (λ (x : ℕ). (x, r.1, r.2)) e.0 ∙ (ap {B = Result} (λ (x : List ℕ). (s.0, x, r.2)) e.1 ∙ ap {B = Result} (λ (x : List ℕ). (s.0, s.1, x)) e.2)

pub parse_fixed : (document rows report : List ℕ) → Fixed (λ (r : Result). Parsed document rows report r.1 r.2 r.0)
parse_fixed document rows report = (λ h. let s = parsed_some document rows report in h (s.2, s.0, s.1) s.3, λ r s p q. same_result r s (parsed_one p q), λ r p. parse_number p)

pub table_fixed : (table report : List ℕ) → Fixed (λ (r : Result). Checked table report r.2 r.0 × (r.1 ≡ []))
table_fixed table report =
    (λ h. let s = checked_some table report in h (s.1, [], s.0) (s.2, refl), λ r s p q. same_result r s (let e = checked_one p.0 q.0 in (e.0, p.1 ∙ sym q.1, e.1)), λ r p. table_number_of p.0)

pub check_fixed : (table document rows report : List ℕ) → Fixed (λ (r : Result). CheckedDocument table document rows report r.1 r.2 r.0)
check_fixed table document rows report = (λ h. checked_document_some table document rows report (λ x y a c. h (a, x, y) c), λ r s p q. same_result r s (checked_document_one p q), λ r p. check_number p)

pub variables_fixed : (table document name variables value report : List ℕ) → Fixed (λ (r : Result). CoercedVariables table document name variables value report r.1 r.2 r.0)
variables_fixed table document name variables value report =
    (λ h. coerced_variables_some table document name variables value report (λ x y a c. h (a, x, y) c), λ r s p q. same_result r s (coerced_variables_one p q), λ r p. variables_answer table document name variables p)

pub arguments_fixed : (table document name variables : List ℕ) (row : ℕ) (value report : List ℕ) → Fixed (λ (r : Result). CoercedArguments table document name variables row value report r.1 r.2 r.0)
arguments_fixed table document name variables row value report =
    (λ h. coerced_arguments_some table document name variables row value report (λ x y a c. h (a, x, y) c), λ r s p q. same_result r s (coerced_arguments_one p q), λ r p. arguments_answer table document name variables row p)

pub plan_fixed : (table document name plan report : List ℕ) → Fixed (λ (r : Result). Planned table document name plan report r.1 r.2 r.0)
plan_fixed table document name plan report = (λ h. planned_some table document name plan report (λ x y a c. h (a, x, y) c), λ r s p q. same_result r s (planned_one p q), λ r p. plan_number p)

pub walk_fixed : (table plan : List ℕ) (object : ℕ) (blocks variables pairs report : List ℕ) → Fixed (λ (r : Result). Walked table plan object blocks variables pairs report r.1 r.2 r.0)
walk_fixed table plan object blocks variables pairs report =
    (λ h. let s = walked_some table plan object blocks variables pairs report in h (s.2, s.0, s.1) s.3, λ r s p q. same_result r s (walked_one p q), λ r p. walk_number p)
