-- What a name means, by the number of the first type so named.
use mathlib.Core.Path.{◌≡◌, refl, sym, ap, ◌∙◌}
use mathlib.Core.Bool.{Bool, true, false, cond}
use mathlib.Core.List.{List}
use Prim.Native.Nat.{ℕ}
use lib.ListN.{length, get_or, get_or-eq_default}
use lib.Dec.{ltb}
use borrow.Author.Tests.{ltb-false}
use Rattle.paper_table.specs.Lists.{first_at}
use Rattle.paper_table.specs.TableNumbers.{tag_scalar}
use Rattle.paper_table.specs.Types.{Table, type_named, is_built_in, built_in, no_meaning, definition, meaning, blank_definition, tag_nothing, definition_by, meant}
use Rattle.paper_table.proofs.ListsLaws.{any_first}

-- the number found, or nothing where it is the count
pub meaning_first : (t : Table) (n : List ℕ)
    → meaning t n ≡ cond (is_built_in n) built_in (cond (ltb (first_at (type_named n) t) (length t)) (definition (first_at (type_named n) t)) no_meaning)
unfolding meaning
meaning_first t n = ap (λ (b : Bool). cond (is_built_in n) built_in (cond b (definition (first_at (type_named n) t)) no_meaning)) (any_first (type_named n) t)

-- the definition meant: that of this number, which behind the last is the blank one
pub meant_first : (t : Table) (n : List ℕ) → meant t n ≡ cond (is_built_in n) (blank_definition tag_scalar) (get_or t (first_at (type_named n) t) (blank_definition tag_nothing))
meant_first t n = ap (definition_by t) (meaning_first t n) ∙ go (is_built_in n) (ltb (first_at (type_named n) t) (length t)) refl
  where
    go : (b c : Bool) → ltb (first_at (type_named n) t) (length t) ≡ c
        → definition_by t (cond b built_in (cond c (definition (first_at (type_named n) t)) no_meaning)) ≡ cond b (blank_definition tag_scalar) (get_or t (first_at (type_named n) t) (blank_definition tag_nothing))
    go true c q = refl
    go false true q = refl
    go false false q = sym (get_or-eq_default t (blank_definition tag_nothing) (ltb-false (first_at (type_named n) t) (length t) q))
