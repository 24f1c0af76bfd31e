-- What an accepted table gives: at most seven wrappers in each reference, and fields alone as members of objects and interfaces.
use mathlib.Core.Path.{◌≡◌}
use mathlib.Core.List.{List}
use Prim.Native.Nat.{ℕ}
use Rattle.paper_table.specs.Types.{table_of}
use Rattle.paper_table.specs.Judging.{judge}
use Rattle.paper_table.specs.declared.TableAnswer.TheVariants.{Accepted}
use Rattle.paper_table.proofs.JudgingLaws.{judge_accepted}
use Rattle.table_types.specs.Booked.{Booked}
use Rattle.table_types.specs.Sizes.{Slim}
use Rattle.table_types.proofs.Fitting.{references_slim}
use Rattle.query_fields.specs.Kept.{Fielded}
use Rattle.query_fields.proofs.Framed.{fielded}
use Rattle.value_fields.specs.Wants.{Known}

module _ (t : List ℕ) (e : judge t ≡ Accepted) where
  pub accepted_slim : Slim (table_of t)
  accepted_slim = let a = (judge_accepted t).0 e in references_slim t a.0 a.1

  pub accepted_fielded : Fielded (table_of t)
  accepted_fielded = fielded t ((judge_accepted t).0 e).0

  pub accepted_known : {book : List ℕ} → Booked t book → Known t
  accepted_known b = record { short = b.short; slim = accepted_slim; fielded = accepted_fielded }
