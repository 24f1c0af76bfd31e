-- One thing only may gw_check_table answer and leave in its report.
use mathlib.Core.Path.{◌≡◌, refl, sym, ◌∙◌}
use mathlib.Core.List.{List}
use Prim.Native.Nat.{ℕ}
use native.Mathlib.Omega.{arith}
use Rattle.paper_table.specs.TableCalls.{Checked, short_report, over_length, judges}

pub checked_one : {table report report' report'' : List ℕ} {a a' : ℕ} → Checked table report report' a → Checked table report report'' a' → (a ≡ a') × (report' ≡ report'')
checked_one (short_report h e) (short_report h' e') = (refl, e ∙ sym e')
checked_one (short_report h e) (over_length h' l' e') = let z : ⊥ = omega arith in absurd z
checked_one (short_report h e) (judges h' l' e') = let z : ⊥ = omega arith in absurd z
checked_one (over_length h l e) (short_report h' e') = let z : ⊥ = omega arith in absurd z
checked_one (over_length h l e) (over_length h' l' e') = (refl, e ∙ sym e')
checked_one (over_length h l e) (judges h' l' e') = let z : ⊥ = omega arith in absurd z
checked_one (judges h l e) (short_report h' e') = let z : ⊥ = omega arith in absurd z
checked_one (judges h l e) (over_length h' l' e') = let z : ⊥ = omega arith in absurd z
checked_one (judges h l e) (judges h' l' e') = (refl, e ∙ sym e')
