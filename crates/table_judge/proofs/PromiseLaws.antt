-- The list of a definition's members, where one of the rules 11 to 15 may be broken.
use mathlib.Core.Path.{◌≡◌, sym, subst, ◌∙◌}
use mathlib.Core.Bool.{Bool, true, false, not, false≢true}
use mathlib.Core.List.{List, []}
use Prim.Native.Nat.{ℕ, ◌≤◌, ◌<◌}
use native.Mathlib.Omega.{arith}
use lib.ListN.{length}
use borrow.Author.Tests.{leb-true, not-false}
use Rattle.paper_table.specs.TableNumbers.{most_members}
use Rattle.paper_table.specs.Types.{Member, table_of, blank_definition, tag_nothing}
use Rattle.table_book.specs.Book.{room, book_size, count_in}
use Rattle.table_members.specs.Members.{implemented_in}
use Rattle.table_types.specs.Booked.{definition_on, start_in, end_in}
use Rattle.table_types.proofs.Fitting.{all_at}
use Rattle.table_listing.specs.Listed.{Listed, Listable}
use Rattle.table_rules_11_15_quick.specs.Keeping.{AllKept}
use Rattle.table_types.proofs.Entries.{bounds_entered, members_entered, implemented_entered}
use Rattle.table_types.specs.Sizes.{few_members}
use Rattle.table_judge.specs.Schema.{Checkable, Promising}
use Rattle.table_judge.proofs.NumberLaws.{nothing_promised}

module _ (t book : List ℕ) (k : Checkable t book) (i : ℕ) (h : i < count_in book) where
  few_members_is : length (definition_on t i).members ≤ most_members
  few_members_is = leb-true (length (definition_on t i).members) most_members (all_at few_members (blank_definition tag_nothing) (table_of t) k.few i (omega (arith, k.booked.count)))

  module _ (s e : ℕ) (p : s ≡ start_in book i) (q : e ≡ end_in book i) where
    pub listable : (l : List ℕ) → length l ≡ book_size → Listable t l s e
    listable l c = record {
      bounds = bounds_entered t book k.booked i h s e p q;
      cells = c;
      few = subst (λ (ms : List Member). length ms ≤ room) (sym (members_entered t book k.booked i h s e p q)) (omega (arith, few_members_is));
    }

    pub listed_at : (l : List ℕ) → Listed t l s e → Listed t l (start_in book i) (end_in book i)
    listed_at l d = subst (λ (x : ℕ). Listed t l x (end_in book i)) p (subst (λ (x : ℕ). Listed t l s x) q d)

    pub promising_none : (l : List ℕ) → length l ≡ book_size → implemented_in t s e ≡ [] → Promising t book l i false
    promising_none l c d = record {
      cells = c;
      lists = λ z. absurd (false≢true z);
      keeps = λ z. nothing_promised (table_of t) i (definition_on t i) (sym (implemented_entered t book k.booked i h s e p q) ∙ d);
    }

    pub promising_some : (l : List ℕ) (r : Bool) → Listed t l s e → (r ≡ true → AllKept (table_of t) i (definition_on t i)) → Promising t book l i (not r)
    promising_some l r d f = record {
      cells = d.indexed.held.cells;
      lists = λ z. listed_at l d;
      keeps = λ z. f (not-false r z);
    }
