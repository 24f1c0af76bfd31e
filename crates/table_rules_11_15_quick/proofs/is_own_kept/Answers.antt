-- The type, then the arguments.
use mathlib.Core.Bool.{false≢true}
use Rattle.table_rules_11_15_quick.proofs.is_own_kept.Goals as goal

pub returns-then-is_type_kept : goal.returns-then-is_type_kept
returns-then-is_type_kept c = λ z. let p = c.are_arguments_kept.ensures z in
    record { type_is = c.is_type_kept.ensures c.if-is_type_kept.true; arguments = p.0; extras = p.1 }

pub returns : goal.returns
returns c = λ z. absurd (false≢true z)
