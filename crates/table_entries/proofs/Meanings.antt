-- What the number in an entry stands for.
use mathlib.Core.Path.{◌≡◌, refl}
use mathlib.Core.Bool.{true, false}
use mathlib.Core.List.{List}
use Prim.Native.Nat.{ℕ, ◌≤◌, ◌<◌}
use native.Mathlib.Omega.{arith}
use borrow.Author.Tests.{ne_eqb, lt-ltb, le-ltb}
use Rattle.paper_table.specs.TableNumbers.{tag_scalar}
use Rattle.paper_table.specs.Lists.{first_at}
use Rattle.paper_table.specs.Types.{table_of, is_built_in, type_named}
use Rattle.table_book.specs.Book.{count_in}
use Rattle.table_types.specs.Booked.{Booked, kind_in}
use Rattle.table_types.proofs.Meanings.{tag_built_in, tag_definition, tag_nothing_is, number_built_in, number_first}
use Rattle.table_entries.specs.Entries.{built_in, no_type, kind_meant, Means}

module _ (t book : List ℕ) (b : Booked t book) (n : List ℕ) where
  pub means_built_in : is_built_in n ≡ true → Means t book n built_in
  means_built_in e =
      let h = number_built_in t book b n e refl in
      record { number = record { number = λ l. absurd (omega (arith, b.indexed.held.most)); is = λ l. absurd (omega (arith, b.indexed.held.most)); none = λ l. h.none (omega arith) }; kind = tag_built_in t book b n e }

  module _ (e : is_built_in n ≡ false) (k : ℕ) (q : k ≡ first_at (type_named n) (table_of t)) where
    pub means_definition : k < count_in book → Means t book n k
    means_definition l = record {
      number = number_first t book b n e q;
      kind = rw (ne_eqb k built_in (λ z. omega (arith, b.indexed.held.most)), lt-ltb k (count_in book) l) (tag_definition t book b n q e l);
    }

    pub means_nothing : count_in book ≤ k → Means t book n no_type
    means_nothing l = record {
      number = record { number = λ m. absurd (omega (arith, b.indexed.held.most)); is = λ m. absurd (omega (arith, b.indexed.held.most)); none = λ m. (number_first t book b n e q).none l };
      kind = rw (le-ltb no_type (count_in book) (omega (arith, b.indexed.held.most))) (tag_nothing_is t book b n q e l);
    }

pub kind_built_in : (book : List ℕ) (k : ℕ) → k ≡ built_in → tag_scalar ≡ kind_meant book k
kind_built_in book k e = rw e

pub kind_other : (book : List ℕ) (k : ℕ) → (k ≡ built_in → ⊥) → kind_in book k ≡ kind_meant book k
kind_other book k n = rw (ne_eqb k built_in n)
