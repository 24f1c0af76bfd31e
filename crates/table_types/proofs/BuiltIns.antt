-- The names of the built-in scalars, one after the other.
use mathlib.Core.Path.{◌≡◌, refl, sym, ◌∙◌}
use mathlib.Core.Bool.{Bool, true, false, ◌||◌}
use mathlib.Core.List.{List}
use Prim.Native.Nat.{ℕ}
use Rattle.paper.specs.Tokens.{same}
use Rattle.paper_table.specs.Lists.{bytes, any_of}
use Rattle.paper_table.specs.Types.{is_built_in, built_ins}

or_false : (b : Bool) → b || false ≡ b
or_false true = refl
or_false false = refl

module _ (n : List ℕ) where
  all_are : is_built_in n ≡ same n (bytes "Int") || (same n (bytes "Float") || (same n (bytes "String") || (same n (bytes "Boolean") || same n (bytes "ID"))))
  unfolding any_of built_ins
  all_are = rw (or_false (same n (bytes "ID")))

  pub built_1 : same n (bytes "Int") ≡ true → true ≡ is_built_in n
  built_1 a = sym (all_are ∙ rw a)

  pub built_2 : same n (bytes "Int") ≡ false → same n (bytes "Float") ≡ true → true ≡ is_built_in n
  built_2 a b = sym (all_are ∙ rw (a, b))

  pub built_3 : same n (bytes "Int") ≡ false → same n (bytes "Float") ≡ false → same n (bytes "String") ≡ true → true ≡ is_built_in n
  built_3 a b c = sym (all_are ∙ rw (a, b, c))

  pub built_4 : same n (bytes "Int") ≡ false → same n (bytes "Float") ≡ false → same n (bytes "String") ≡ false → same n (bytes "Boolean") ≡ true → true ≡ is_built_in n
  built_4 a b c d = sym (all_are ∙ rw (a, b, c, d))

  pub built_5 : {q : Bool} → same n (bytes "Int") ≡ false → same n (bytes "Float") ≡ false → same n (bytes "String") ≡ false → same n (bytes "Boolean") ≡ false
      → q ≡ same n (bytes "ID") → q ≡ is_built_in n
  built_5 a b c d e = e ∙ sym (all_are ∙ rw (a, b, c, d))
