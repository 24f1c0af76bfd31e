-- A name twice, case by case, by the first row that is like another.
use mathlib.Core.Path.{◌≡◌, sym, ap}
use mathlib.Core.Bool.{Bool, false, ◌&&◌, ◌||◌}
use Prim.Native.Nat.{ℕ, ◌≤◌}
use lib.Dec.{ltb}
use borrow.Author.Tests.{eq-eqb, ne_eqb}
use Rattle.paper.specs.Numbers.{kind_argument, kind_variable_definition}
use Rattle.paper_table.specs.Lists.{earlier}
use Rattle.paper_table.proofs.ListsLaws.{any_take}
use Rattle.paper_query.specs.Constructs.{Doc, count, row_of, kind_of, is}
use Rattle.paper_query.specs.Rule12NameTwice.{name_twice}
use Rattle.query_siblings.specs.Alike.{is_like, first_like}

module _ (d : Doc) (i : ℕ) where
  pub twice_argument : kind_of d i ≡ kind_argument → earlier (is_like d i) i d.rows ≡ name_twice d i
  unfolding name_twice
  twice_argument e = sym (ap (λ (k : Bool). (k || is kind_variable_definition (row_of d i)) && earlier (is_like d i) i d.rows) (eq-eqb (kind_of d i) kind_argument e))

  pub twice_variable : (kind_of d i ≡ kind_argument → ⊥) → kind_of d i ≡ kind_variable_definition → earlier (is_like d i) i d.rows ≡ name_twice d i
  unfolding name_twice
  twice_variable f e = rw (ne_eqb (kind_of d i) kind_argument f, eq-eqb (kind_of d i) kind_variable_definition e)

  pub twice_other : (kind_of d i ≡ kind_argument → ⊥) → (kind_of d i ≡ kind_variable_definition → ⊥) → false ≡ name_twice d i
  unfolding name_twice
  twice_other f g = rw (ne_eqb (kind_of d i) kind_argument f, ne_eqb (kind_of d i) kind_variable_definition g)

  pub like_earlier : i ≤ count d → ltb (first_like d i) i ≡ earlier (is_like d i) i d.rows
  like_earlier h = sym (any_take (is_like d i) d.rows i h)
