-- What rules 2 and 3 ask of the table's definition number i, by its book.
use mathlib.Core.Path.{◌≡◌, refl, sym, ap, ◌∙◌}
use mathlib.Core.Bool.{true, false, ◌||◌}
use mathlib.Core.List.{List, [], ◌∷◌}
use Prim.Native.Nat.{ℕ, suc, ◌≤◌, ◌<◌}
use native.Mathlib.Omega.{arith}
use lib.ListN.{length}
use lib.Dec.{ltb, eqb}
use borrow.Author.Tests.{ne_eqb}
use Rattle.paper.specs.Tokens.{same}
use Rattle.paper_table.specs.Lists.{any_of, first_at, earlier}
use Rattle.paper_table.specs.Types.{Member, Definition, table_of, type_named, directive_named, is_built_in, built_in_directives}
use Rattle.paper_table.specs.Rule2NameKnown.{type_known, directive_known}
use Rattle.paper_table.proofs.ListsLaws.{any_take}
use Rattle.table_book.specs.Book.{count_in}
use Rattle.table_types.specs.Booked.{Booked}

module _ (t book : List ℕ) (b : Booked t book) (i : ℕ) (h : i < count_in book) where
  up_to_is : i ≤ length (table_of t)
  up_to_is = omega (arith, b.count)

  -- rule 2
  module _ (n : List ℕ) (d : Definition) (e : n ≡ d.name) where
    pub type_built_in : is_built_in n ≡ true → true ≡ type_known (table_of t) i d
    type_built_in q = sym (ap (λ (x : List ℕ). is_built_in x || earlier (type_named x) i (table_of t)) (sym e) ∙ rw q refl)

    pub type_first : (k : ℕ) → is_built_in n ≡ false → k ≡ first_at (type_named n) (table_of t) → ltb k i ≡ type_known (table_of t) i d
    type_first k q f =
        ap (λ (x : ℕ). ltb x i) f ∙ sym (ap (λ (x : List ℕ). is_built_in x || earlier (type_named x) i (table_of t)) (sym e) ∙ rw q (any_take (type_named n) (table_of t) i up_to_is))

    pub directive_built_in : any_of (same n) built_in_directives ≡ true → true ≡ directive_known (table_of t) i d
    directive_built_in q = sym (ap (λ (x : List ℕ). any_of (same x) built_in_directives || earlier (directive_named x) i (table_of t)) (sym e) ∙ rw q refl)

    pub directive_first : (k : ℕ) → any_of (same n) built_in_directives ≡ false → k ≡ first_at (directive_named n) (table_of t) → ltb k i ≡ directive_known (table_of t) i d
    directive_first k q f =
        ap (λ (x : ℕ). ltb x i) f ∙ sym (ap (λ (x : List ℕ). any_of (same x) built_in_directives || earlier (directive_named x) i (table_of t)) (sym e) ∙ rw q (any_take (directive_named n) (table_of t) i up_to_is))

-- rule 3
pub empty_true : (ms : List Member) → ms ≡ [] → true ≡ eqb (length ms) 0
empty_true ms e = sym (ap (λ (xs : List Member). eqb (length xs) 0) e)

pub empty_false : (ms : List Member) (x : Member) (xs : List Member) → ms ≡ x ∷ xs → false ≡ eqb (length ms) 0
empty_false ms x xs e = sym (ap (λ (ys : List Member). eqb (length ys) 0) e ∙ ne_eqb (suc (length xs)) 0 (λ q. absurd (omega (arith, q))))
