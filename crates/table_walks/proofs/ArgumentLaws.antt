-- A member's arguments: a field's stand in its content, no other member has any.
use mathlib.Core.Path.{◌≡◌, refl, sym, ap, ◌∙◌}
use mathlib.Core.Bool.{Bool, true, false, cond}
use mathlib.Core.List.{List, [], head?}
use Prim.Native.Nat.{ℕ}
use lib.Seq.{slice}
use lib.Dec.{eqb}
use borrow.Author.Tests.{eq-eqb, ne_eqb}
use Rattle.paper_table.specs.TableNumbers.{tag_field, tag_argument}
use Rattle.paper_table.specs.Lists.{each, only_if}
use Rattle.paper_table.specs.Types.{Argument, Table, name_only}
use Rattle.paper_table.specs.Places.{Place, argument_at}
use Rattle.paper_table.proofs.ListsLaws.{each_from_nil}
use Rattle.table_members.specs.Members.{arguments_in, input_from, member_from}
use Rattle.table_places.specs.Placed.{placed}
use Prim.{tt}
use Rattle.std.specs.Prelude.{Ok}
use Rattle.table_faults.specs.Faults.{argument_fails}
use Rattle.table_walks.specs.Walks.{arguments_at}

-- of member m argument a, one of these
abbrev pub argument_faults : ℕ → Table → List Argument → ℕ → ℕ → Argument → List Place
argument_faults rule t xs m a x = only_if (argument_fails rule t xs a x) (argument_at m a)

module _ (rule : ℕ) (t : Table) (m : ℕ) (s : List ℕ) (tag start end : ℕ) where
  pub field_arguments : tag ≡ tag_field → arguments_at rule t m (member_from s tag start end) ≡ each (argument_faults rule t (arguments_in s start end) m) (arguments_in s start end)
  unfolding member_from
  field_arguments e = rw (eq-eqb tag tag_field e) refl

  no_arguments : (tag ≡ tag_field → ⊥) → (member_from s tag start end).arguments ≡ []
  unfolding member_from
  no_arguments f = rw (ne_eqb tag tag_field f) (go (eqb tag tag_argument))
    where
      go : (b : Bool) → (cond b (input_from s start end) (name_only tag (slice start end s))).arguments ≡ []
      go true = refl
      go false = refl

  pub other_arguments : (tag ≡ tag_field → ⊥) → Ok tt ≡ placed (head? (arguments_at rule t m (member_from s tag start end)))
  other_arguments f =
      sym (ap (λ (xs : List Argument). placed (head? (each (argument_faults rule t (member_from s tag start end).arguments m) xs))) (no_arguments f)
      ∙ ap (λ (ps : List Place). placed (head? ps)) (each_from_nil 0 (argument_faults rule t (member_from s tag start end).arguments m)))
