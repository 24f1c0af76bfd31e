-- What the quick judges of a field and an argument answer.
-- Assumes nothing.
use Rattle.std.specs.Prelude.{◌≡◌, true, Option, Some, None, List, [], ◌∷◌, ℕ, ◌+◌, ◌≤◌}
use Rattle.std.proofs.Math.Seq.{slice}
use Rattle.paper.specs.Numbers.{most_wrappers}
use Rattle.paper_table.specs.TableNumbers.{tag_name, tag_reference}
use Rattle.paper_table.specs.References.{is_name, is_reference}
use Rattle.paper_table.specs.House.{house_field, house_fields, wrongs}
use Rattle.paper_table.specs.TableSizes.{wrappers_over, overs}

-- A field of this tag and content, fields being so deep in it at most, has nothing wrong in it and nothing over a size.
abbrev pub Fine : ℕ → ℕ → ℕ → List ℕ → Type 0
Fine d at tag s = (wrongs d at tag s ≡ []) × (overs d at tag s ≡ [])

-- A text at the offset `at` is a type reference's, and no wrapper in it is over.
abbrev pub FewWrappers : ℕ → List ℕ → Type 0
FewWrappers at s = (is_reference s ≡ true) × (wrappers_over most_wrappers at s ≡ [])

-- The fields from `start` on begin with a name and a type reference, right and within the sizes; the rest go on from `stop`.
pub record Begins (t : List ℕ) (start end stop : ℕ) : Type 0 where
  pub name : List ℕ
  pub second : ℕ
  pub reference : List ℕ
  pub parts : house_fields start (slice start end t) ≡ house_field start tag_name name ∷ house_field second tag_reference reference ∷ house_fields stop (slice stop end t)
  pub named : is_name name ≡ true
  pub refers : FewWrappers (second + 3) reference
  pub order : start ≤ stop
  pub within : stop ≤ end

abbrev pub TypedTo : List ℕ → ℕ → ℕ → Option ℕ → Type 0
TypedTo t start end (Some stop) = Begins t start end stop
TypedTo t start end None = Unit {0}
