-- Which test each rule asks of an implemented name.
use mathlib.Core.Path.{◌≡◌, refl, sym}
use mathlib.Core.List.{List}
use Prim.Native.Nat.{ℕ}
use borrow.Author.Tests.{eq-eqb, ne_eqb}
use Rattle.paper.specs.Tokens.{same}
use Rattle.paper_table.specs.TableNumbers.{rule_implemented_twice}
use Rattle.paper_table.specs.Types.{Table}
use Rattle.paper_table.specs.Lists.{earlier}
use Rattle.paper_table.specs.Rule9NotObjectOrInterface.{no_interface}
use Rattle.table_bases.specs.Meanings.{implemented_fails}

module _ (rule : ℕ) (t : Table) (ns : List (List ℕ)) (m : ℕ) (n : List ℕ) where
  pub implemented_ten : rule ≡ rule_implemented_twice → earlier (same n) m ns ≡ implemented_fails rule t ns m n
  unfolding implemented_fails
  implemented_ten k = sym (rw (eq-eqb rule rule_implemented_twice k) refl)

  pub implemented_other : (rule ≡ rule_implemented_twice → ⊥) → no_interface t m n ≡ implemented_fails rule t ns m n
  unfolding implemented_fails
  implemented_other k = sym (rw (ne_eqb rule rule_implemented_twice k) refl)
