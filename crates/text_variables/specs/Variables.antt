-- What the readers of variable definitions read, and what they ask and tell of counts.
use Rattle.std.specs.Prelude.{◌≡◌, [], ◌∷◌, ℕ, ◌<◌}
use Rattle.paper.specs.Grammar.{nt, tm, act}
use Rattle.paper.specs.Numbers.{most_variables, kind_variable_definition}
use Rattle.paper.specs.Language.{the, dollar, colon, row, kind, named, Name}
use Rattle.paper.specs.Sizes.{Counts, kinded}
use Rattle.paper.proofs.Going.{Stack}

-- a variable definition up to its type
abbrev pub head_stack : Stack
head_stack = act row ∷ act (kind kind_variable_definition 0) ∷ tm (the dollar) ∷ act named ∷ nt Name ∷ tm (the colon) ∷ []

-- one more variable would not be too many
abbrev pub one_variable_more : Counts → Type 0
one_variable_more q = q.variables < most_variables

-- a variable definition began
abbrev pub variable_begun : Counts → Counts → Type 0
variable_begun q q' = q' ≡ kinded kind_variable_definition q

-- there are k variables now
abbrev pub variables_become : ℕ → Counts → Counts → Type 0
variables_become k q q' = (q'.fragments ≡ q.fragments) × (q'.variables ≡ k)
