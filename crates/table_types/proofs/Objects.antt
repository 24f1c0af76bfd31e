-- Which objects an interface or union can be, by the definitions that two names mean.
use mathlib.Core.Path.{◌≡◌, refl, sym, ap, ◌∙◌}
use mathlib.Core.Bool.{Bool, true, false, ◌&&◌, ◌||◌, cond}
use mathlib.Core.Option.{some}
use mathlib.Core.List.{List, [], ◌∷◌}
use Prim.Native.Nat.{ℕ, ◌≤◌, ◌<◌}
use native.Mathlib.Omega.{arith}
use lib.ListN.{get_or}
use lib.Dec.{eqb, leb}
use borrow.Author.Tests.{eq-eqb, ne_eqb, lt-ltb, le-ltb, leb-true, leb-false}
use Rattle.paper.specs.Tokens.{same}
use Rattle.paper_table.specs.TableNumbers.{tag_object, tag_interface, tag_union, tag_scalar}
use Rattle.paper_table.specs.Lists.{any_of, find}
use Rattle.paper_table.specs.References.{found}
use Rattle.paper_table.specs.Types.{Member, Definition, Table, table_of, is_object, is_interface, is_union, tag_nothing, meant, can_be, member_named}
use Rattle.paper_table.proofs.TextLaws.{same_sound, same_refl}
use Rattle.table_fields.specs.Fields.{Bounds}
use Rattle.table_book.specs.Book.{room, count_in}
use Rattle.table_members.specs.Members.{members_in, implemented_in}
use Rattle.table_types.specs.Booked.{start_in, end_in, kind_in, Booked, NumberMeant}

-- as can_be says, of the two definitions
abbrev by_these : List ℕ → List ℕ → Definition → Definition → Bool
by_these a o x y =
    is_object x &&
    (is_interface y && any_of (same a) x.implements || is_union y && any_of (λ (m : Member). same o m.name) y.members)

can_these : (t : Table) (a o : List ℕ) → can_be t a o ≡ by_these a o (meant t o) (meant t a)
unfolding can_be
can_these t a o = refl

-- the test of equal texts goes both ways
same_sym : (xs ys : List ℕ) → same xs ys ≡ same ys xs
same_sym xs ys = go (same xs ys) refl (same ys xs) refl
  where
    go : (a : Bool) → same xs ys ≡ a → (b : Bool) → same ys xs ≡ b → a ≡ b
    go true p true q = refl
    go true p false q = let e : xs ≡ ys = same_sound xs ys p in sym (same_refl ys) ∙ (rw e at q)
    go false p true q = let e : ys ≡ xs = same_sound ys xs q in sym (rw e at p) ∙ same_refl xs
    go false p false q = refl

any_alike : {A : Type 0} (p q : A → Bool) → ((x : A) → p x ≡ q x) → (xs : List A) → any_of p xs ≡ any_of q xs
unfolding any_of
any_alike p q h [] = refl
any_alike p q h (x ∷ xs) = rw (h x, any_alike p q h xs)

-- one is there if and only if one is found
pub any_found : {A : Type 0} (p : A → Bool) (xs : List A) → any_of p xs ≡ found (find p xs)
unfolding any_of find
any_found p [] = refl
any_found p (x ∷ xs) = go (p x) (any_found p xs)
  where
    go : (b : Bool) → any_of p xs ≡ found (find p xs) → b || any_of p xs ≡ found (cond b (some x) (find p xs))
    go true e = refl
    go false e = e

kind_entry : (book : List ℕ) (i : ℕ) → i < count_in book → kind_in book i ≡ get_or book i 0
kind_entry book i l = rw (lt-ltb i (count_in book) l)

kind_none : (book : List ℕ) (i : ℕ) → count_in book ≤ i → kind_in book i ≡ tag_nothing
kind_none book i l = rw (le-ltb i (count_in book) l)

-- a kind that is no scalar's and not 0 is that of an entry
pub kind_below : (book : List ℕ) (i k : ℕ) → kind_in book i ≡ k → (k ≡ tag_nothing → ⊥) → i < count_in book
kind_below book i k e f = go (leb (count_in book) i) refl
  where
    go : (b : Bool) → leb (count_in book) i ≡ b → i < count_in book
    go true q = absurd (f (sym e ∙ kind_none book i (leb-true (count_in book) i q)))
    go false q = leb-false (count_in book) i q

module _ (t book : List ℕ) (b : Booked t book) where
  pub number_room : (i : ℕ) → i < count_in book → i < room
  number_room i l = omega (arith, b.indexed.held.most)

  module _ (n : List ℕ) (i : ℕ) (m : NumberMeant t book n i) where
    entry_tag : i < count_in book → (meant (table_of t) n).tag ≡ kind_in book i
    entry_tag l = ap (λ (d : Definition). d.tag) (m.is l ∙ (b.entered i l).is) ∙ sym (kind_entry book i l)

    -- the tag of what is meant is this kind, if this is that of no scalar and not 0
    pub number_tag : (k : ℕ) → kind_in book i ≡ k → (k ≡ tag_nothing → ⊥) → (meant (table_of t) n).tag ≡ k
    number_tag k e f = entry_tag (kind_below book i k e f) ∙ e

    pub number_other : (k : ℕ) → (kind_in book i ≡ k → ⊥) → tag_scalar < k → (meant (table_of t) n).tag ≡ k → ⊥
    number_other k f h e = go (leb (count_in book) i) refl
      where
        go : (b : Bool) → leb (count_in book) i ≡ b → ⊥
        go true q = let u = m.none (leb-true (count_in book) i q) in omega (arith, u, e)
        go false q = f (sym (entry_tag (leb-false (count_in book) i q)) ∙ e)

    pub number_implements : i < count_in book → implemented_in t (start_in book i) (end_in book i) ≡ (meant (table_of t) n).implements
    number_implements l = sym (ap (λ (d : Definition). d.implements) (m.is l ∙ (b.entered i l).is))

    pub number_members : i < count_in book → members_in t (start_in book i) (end_in book i) ≡ (meant (table_of t) n).members
    number_members l = sym (ap (λ (d : Definition). d.members) (m.is l ∙ (b.entered i l).is))

module _ (t : Table) (a o : List ℕ) where
  pub no_object : ((meant t o).tag ≡ tag_object → ⊥) → false ≡ can_be t a o
  no_object f = sym (can_these t a o ∙ rw (ne_eqb (meant t o).tag tag_object f))

  pub no_abstract : ((meant t a).tag ≡ tag_interface → ⊥) → ((meant t a).tag ≡ tag_union → ⊥) → false ≡ can_be t a o
  no_abstract f g = sym (can_these t a o ∙ rw (ne_eqb (meant t a).tag tag_interface f, ne_eqb (meant t a).tag tag_union g) (go (eqb (meant t o).tag tag_object)))
    where
      go : (b : Bool) → b && false ≡ false
      go true = refl
      go false = refl

  pub an_interface : {q : Bool} (ns : List (List ℕ)) → (meant t o).tag ≡ tag_object → (meant t a).tag ≡ tag_interface → ns ≡ (meant t o).implements → q ≡ any_of (same a) ns → q ≡ can_be t a o
  an_interface {q = q} ns f g e h =
      let k : (meant t a).tag ≡ tag_union → ⊥ = λ z. omega (arith, g, z) in
      h ∙ sym (can_these t a o ∙ rw (eq-eqb (meant t o).tag tag_object f, eq-eqb (meant t a).tag tag_interface g, ne_eqb (meant t a).tag tag_union k, ← e) (or_false (any_of (same a) ns)))
    where
      or_false : (b : Bool) → b || false ≡ b
      or_false true = refl
      or_false false = refl

  pub a_union : {q : Bool} (ms : List Member) → (meant t o).tag ≡ tag_object → (meant t a).tag ≡ tag_union → ms ≡ (meant t a).members → q ≡ any_of (member_named o) ms → q ≡ can_be t a o
  a_union {q = q} ms f g e h =
      let k : (meant t a).tag ≡ tag_interface → ⊥ = λ z. omega (arith, g, z) in
      h ∙ any_alike (member_named o) (λ (m : Member). same o m.name) (λ m. same_sym m.name o) ms
      ∙ sym (can_these t a o ∙ rw (eq-eqb (meant t o).tag tag_object f, ne_eqb (meant t a).tag tag_interface k, eq-eqb (meant t a).tag tag_union g, ← e))

-- the content of an entry lies in the table
pub entry_bounds : (t book : List ℕ) (b : Booked t book) (i : ℕ) {start end : ℕ} → i < count_in book → start ≡ start_in book i → end ≡ end_in book i → Bounds t start end
entry_bounds t book b i l e f = record {
  order = omega (arith, e, f, (b.entered i l).order);
  within = omega (arith, f, (b.entered i l).within);
  most = b.short;
}
