-- The interface that an implemented name means, by its number in the book.
use mathlib.Core.Path.{◌≡◌, refl, sym, ap, ◌∙◌}
use mathlib.Core.Bool.{Bool, true, false}
use mathlib.Core.List.{List, head?}
use Prim.Native.Nat.{ℕ, ◌<◌}
use native.Mathlib.Omega.{arith}
use lib.ListN.{get_or}
use lib.Dec.{ltb}
use borrow.Author.Tests.{eq-eqb, ne_eqb, ltb-true, ltb-false, lt-ltb}
use Rattle.paper_table.specs.TableNumbers.{tag_interface}
use Rattle.paper_table.specs.Lists.{each}
use Rattle.paper_table.specs.Types.{Definition, table_of, meant}
use Rattle.paper_table.specs.Promises.{FieldBreaks, promised_by, promised}
use Rattle.table_places.specs.Placed.{placed}
use Prim.{tt}
use Rattle.std.specs.Prelude.{Ok}
use Rattle.table_fields.specs.Fields.{Bounds}
use Rattle.table_book.specs.Book.{count_in}
use Rattle.table_members.specs.Members.{members_in, implemented_in}
use Rattle.table_types.specs.Booked.{Booked, NumberMeant, kind_in, start_in, end_in, definition_on}
use Rattle.table_rules_11_15.specs.Asked.{asked_of}

module _ (t book : List ℕ) (b : Booked t book) where
  -- an entry's content, and what stands there
  pub entry_bounds : (i : ℕ) → i < count_in book → Bounds t (start_in book i) (end_in book i)
  entry_bounds i h = let e = b.entered i h in record { order = e.order; within = e.within; most = b.short }

  pub entry_members : (i : ℕ) → i < count_in book → (definition_on t i).members ≡ members_in t (start_in book i) (end_in book i)
  entry_members i h = ap (λ (d : Definition). d.members) (b.entered i h).is

  pub entry_implements : (i : ℕ) → i < count_in book → (definition_on t i).implements ≡ implemented_in t (start_in book i) (end_in book i)
  entry_implements i h = ap (λ (d : Definition). d.implements) (b.entered i h).is

  pub kind_below : (i : ℕ) → kind_in book i ≡ tag_interface → i < count_in book
  kind_below i e = go (ltb i (count_in book)) refl
    where
      go : (c : Bool) → ltb i (count_in book) ≡ c → i < count_in book
      go true q = ltb-true i (count_in book) q
      go false q = let z : kind_in book i ≡ 0 = rw q in absurd (omega (arith, e, z))

  kind_tag : (i : ℕ) → i < count_in book → (definition_on t i).tag ≡ get_or book i 0
  kind_tag i h = ap (λ (d : Definition). d.tag) (b.entered i h).is

  module _ (ask : FieldBreaks) (n : List ℕ) (m k : ℕ) (w : NumberMeant t book n k) where
    pub meant_other : (kind_in book k ≡ tag_interface → ⊥) → Ok tt ≡ placed (head? (promised_by ask (table_of t) m n))
    meant_other e = go (ltb k (count_in book)) refl
      where
        no : ((meant (table_of t) n).tag ≡ tag_interface → ⊥) → Ok tt ≡ placed (head? (promised_by ask (table_of t) m n))
        no f = rw (ne_eqb (meant (table_of t) n).tag tag_interface f)

        go : (c : Bool) → ltb k (count_in book) ≡ c → Ok tt ≡ placed (head? (promised_by ask (table_of t) m n))
        go true q =
            let h = ltb-true k (count_in book) q in
            let z : kind_in book k ≡ get_or book k 0 = rw q in
            let u : (meant (table_of t) n).tag ≡ get_or book k 0 = ap (λ (d : Definition). d.tag) (w.is h) ∙ kind_tag k h in
            no (λ f. e (z ∙ sym u ∙ f))
        go false q = let l = w.none (ltb-false k (count_in book) q) in no (λ f. omega (arith, l, f))

    pub meant_interface : kind_in book k ≡ tag_interface → promised_by ask (table_of t) m n ≡ each (ask m) (members_in t (start_in book k) (end_in book k))
    meant_interface e =
        let h = kind_below k e in
        let q : meant (table_of t) n ≡ definition_on t k = w.is h in
        let z : kind_in book k ≡ get_or book k 0 = rw (lt-ltb k (count_in book) h) in
        let u : (definition_on t k).tag ≡ tag_interface = kind_tag k h ∙ sym z ∙ e in
        rw (q, eq-eqb (definition_on t k).tag tag_interface u) (ap (each (ask m)) (entry_members k h))

  -- a definition of the table, by its content
  pub entry_asked : (rule i : ℕ) (h : i < count_in book)
      → promised (asked_of rule (table_of t) (definition_on t i).members) (table_of t) (definition_on t i)
      ≡ each (promised_by (asked_of rule (table_of t) (members_in t (start_in book i) (end_in book i))) (table_of t)) (implemented_in t (start_in book i) (end_in book i))
  unfolding promised
  entry_asked rule i h = rw (entry_members i h, entry_implements i h)
