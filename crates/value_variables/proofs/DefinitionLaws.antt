-- The definitions of an operation, row by row.
use mathlib.Core.Path.{◌≡◌, refl, ap, ◌∙◌}
use mathlib.Core.Bool.{Bool, true, false}
use mathlib.Core.List.{[], ◌∷◌, ◌++◌}
use Prim.Native.Nat.{ℕ, suc, ◌+◌, ◌≤◌, ◌<◌}
use native.Mathlib.Omega.{arith}
use lib.ListN.{drop_of_length-le}
use lib.Seq.{drop-cons}
use Rattle.paper_table.specs.Lists.{each_from, only_if}
use Rattle.paper_query.specs.Constructs.{Doc, count, row_of, no_row, numbers_where}
use Rattle.paper_values.specs.DocumentDues.{definitions_of}
use Rattle.value_variables.specs.Variables.{is_definition, definitions_from}

-- from the first row on they are all
pub from_first : (d : Doc) (op : ℕ) → definitions_from d op 0 ≡ definitions_of d op
unfolding definitions_from numbers_where
from_first d op = refl

module _ (d : Doc) (op c : ℕ) where
  here : c < count d → definitions_from d op c ≡ only_if (is_definition op (row_of d c)) c ++ definitions_from d op (suc c)
  unfolding definitions_from each_from
  here h = ap (each_from c (λ i r. only_if (is_definition op r) i)) (drop-cons d.rows c no_row h)

  pub from_more : c < count d → is_definition op (row_of d c) ≡ true → definitions_from d op c ≡ c ∷ definitions_from d op (c + 1)
  from_more h q = here h ∙ ap (λ (b : Bool). only_if b c ++ definitions_from d op (suc c)) q ∙ ap (λ (k : ℕ). c ∷ definitions_from d op k) (omega arith)

  pub from_other : c < count d → is_definition op (row_of d c) ≡ false → definitions_from d op c ≡ definitions_from d op (c + 1)
  from_other h q = here h ∙ ap (λ (b : Bool). only_if b c ++ definitions_from d op (suc c)) q ∙ ap (λ (k : ℕ). definitions_from d op k) (omega arith)

  pub from_end : count d ≤ c → definitions_from d op c ≡ []
  unfolding definitions_from each_from
  from_end h = ap (each_from c (λ i r. only_if (is_definition op r) i)) (drop_of_length-le d.rows {i = c} h)
