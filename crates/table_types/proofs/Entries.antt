-- What a book's numbers say of the table's definition number i; the walk to the first definition that passes.
use mathlib.Core.Path.{◌≡◌, refl, sym, ap, ◌∙◌}
use mathlib.Core.Bool.{Bool, true, false}
use mathlib.Core.List.{List, []}
use Prim.Native.Nat.{ℕ, suc, ◌+◌, ◌≤◌, ◌<◌}
use native.Mathlib.Omega.{arith}
use lib.ListN.{length, drop, get_or, drop_of_length-le}
use lib.Seq.{drop-cons}
use Rattle.paper_table.specs.Lists.{first_at}
use Rattle.paper_table.specs.Types.{Definition}
use Rattle.paper_table.proofs.ListsLaws.{first_at_here, first_at_later}
use Rattle.table_fields.specs.Fields.{Bounds}
use Rattle.table_book.specs.Book.{cell_name, cell_size, count_in}
use Rattle.table_members.specs.Members.{members_in, implemented_in, Named}
use Rattle.table_types.specs.Booked.{Booked, definition_on, start_in, end_in}

module _ (t book : List ℕ) (b : Booked t book) (i : ℕ) (h : i < count_in book) where
  pub tag_entered : {k : ℕ} → k ≡ get_or book i 0 → k ≡ (definition_on t i).tag
  tag_entered e = e ∙ sym (ap (λ (d : Definition). d.tag) (b.entered i h).is)

  pub name_entered : (at n : ℕ) → at ≡ get_or book (cell_name + i) 0 → n ≡ get_or book (cell_size + i) 0 → Named t at n (definition_on t i).name
  name_entered at n e f = record {
    is = rw (e, f) (b.entered i h).name;
    within = rw (e, f) (b.entered i h).name_within;
  }

  module _ (s e : ℕ) (p : s ≡ start_in book i) (q : e ≡ end_in book i) where
    pub bounds_entered : Bounds t s e
    bounds_entered = record {
      order = omega (arith, p, q, (b.entered i h).order);
      within = omega (arith, q, (b.entered i h).within);
      most = b.short;
    }

    pub members_entered : members_in t s e ≡ (definition_on t i).members
    members_entered = rw (p, q) (sym (ap (λ (d : Definition). d.members) (b.entered i h).is))

    pub implemented_entered : implemented_in t s e ≡ (definition_on t i).implements
    implemented_entered = rw (p, q) (sym (ap (λ (d : Definition). d.implements) (b.entered i h).is))

-- what a walk at i knows: the first that passes from here on is the first of all
pub record Reached {A : Type 0} (p : A → Bool) (xs : List A) (i : ℕ) : Type 0 where
  pub within : i ≤ length xs
  pub same : first_at p xs ≡ i + first_at p (drop i xs)

module _ {A : Type 0} (p : A → Bool) (xs : List A) where
  pub reached_start : Reached p xs 0
  reached_start = record { within = omega arith; same = omega arith }

  none_passes : first_at p [] ≡ 0
  unfolding first_at
  none_passes = refl

  module _ (i : ℕ) (w : Reached p xs i) where
    pub reached_end : length xs ≤ i → i ≡ first_at p xs
    reached_end h = let e : first_at p (drop i xs) ≡ 0 = ap (first_at p) (drop_of_length-le xs h) ∙ none_passes in omega (arith, w.same, e)

    module _ (d : A) (h : i < length xs) where
      pub reached_here : p (get_or xs i d) ≡ true → i ≡ first_at p xs
      reached_here q =
          let e : first_at p (drop i xs) ≡ 0 = ap (first_at p) (drop-cons xs i d h) ∙ first_at_here p (get_or xs i d) (drop (suc i) xs) q in
          omega (arith, w.same, e)

      pub reached_on : p (get_or xs i d) ≡ false → Reached p xs (i + 1)
      reached_on q =
          let e : first_at p (drop i xs) ≡ suc (first_at p (drop (suc i) xs)) = ap (first_at p) (drop-cons xs i d h) ∙ first_at_later p (get_or xs i d) (drop (suc i) xs) q in
          let f : suc i ≡ i + 1 = omega arith in
          record { within = omega arith; same = rw (← f) (omega (arith, w.same, e)) }
