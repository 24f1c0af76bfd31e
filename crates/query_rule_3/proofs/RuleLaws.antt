-- The rules on names of fragments, case by case, by the first fragment of a name.
use mathlib.Core.Path.{◌≡◌, sym}
use mathlib.Core.Bool.{false}
use Prim.Native.Nat.{ℕ, ◌≤◌}
use lib.Dec.{ltb}
use borrow.Author.Tests.{eq-eqb, ne_eqb}
use Rattle.paper.specs.Numbers.{kind_fragment}
use Rattle.paper_table.proofs.ListsLaws.{any_take}
use Rattle.paper_query.specs.Constructs.{Doc, count, kind_of, name_of, fragment_called, fragment_named}
use Rattle.paper_query.specs.Rule3FragmentRepeated.{fragment_repeated}

module _ (d : Doc) (i : ℕ) where
  -- 3
  pub fragment_other : (kind_of d i ≡ kind_fragment → ⊥) → false ≡ fragment_repeated d i
  unfolding fragment_repeated
  fragment_other f = rw (ne_eqb (kind_of d i) kind_fragment f)

  pub fragment_earlier : kind_of d i ≡ kind_fragment → i ≤ count d → ltb (fragment_named d (name_of d i)) i ≡ fragment_repeated d i
  unfolding fragment_repeated fragment_named
  fragment_earlier e h = rw (eq-eqb (kind_of d i) kind_fragment e) (sym (any_take (fragment_called d (name_of d i)) d.rows i h))
