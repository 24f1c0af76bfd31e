-- What a name means whose number is that of an interface, a union or an object; so what a bit says.
use mathlib.Core.Path.{◌≡◌, refl, sym, ap, ◌∙◌}
use mathlib.Core.Bool.{Bool, true, false, ◌||◌, cond}
use mathlib.Core.Logic.{◌⊎◌, inl, inr}
use mathlib.Core.List.{List, [], ◌∷◌}
use Prim.Native.Nat.{ℕ, suc, ◌<◌, ◌≤◌}
use native.Mathlib.Omega.{arith}
use lib.ListN.{length, get_or}
use lib.Dec.{ltb}
use borrow.Author.Tests.{ltb-true}
use Rattle.paper.proofs.Bools.{and_right}
use Rattle.paper.specs.Tokens.{same}
use Rattle.paper_table.specs.TableNumbers.{tag_object, tag_interface, tag_union, tag_scalar}
use Rattle.paper_table.specs.Lists.{any_of, first_at}
use Rattle.paper_table.specs.Types.{Definition, Table, table_of, is_type, type_named, is_built_in, built_in, no_meaning, definition, meaning, blank_definition, tag_nothing, definition_by, meant, member_named}
use Rattle.paper_table.proofs.MeaningLaws.{meaning_first}
use Rattle.paper_table.proofs.TextLaws.{same_sound}
use Rattle.table_book.specs.Book.{count_in}
use Rattle.table_members.specs.Members.{First}
use Rattle.table_types.specs.Booked.{Booked, NumberMeant, kind_in, definition_on}
use Rattle.table_types.proofs.Objects.{kind_below, number_room, number_tag, an_interface, a_union}
use Rattle.table_possible.specs.Possible.{bit_at, CanBe, Possible, Blank, Marked}
use Rattle.table_possible.proofs.BitLaws.{blank_bit}

pub passes : {A : Type 0} (p : A → Bool) (xs : List A) (d : A) → first_at p xs < length xs → p (get_or xs (first_at p xs) d) ≡ true
unfolding first_at
passes p [] d h = absurd (omega arith)
passes p (x ∷ xs) d h = go (p x) refl h (λ k. passes p xs d k)
  where
    go : (b : Bool) → p x ≡ b → cond b 0 (suc (first_at p xs)) < suc (length xs) → (first_at p xs < length xs → p (get_or xs (first_at p xs) d) ≡ true) → p (get_or (x ∷ xs) (cond b 0 (suc (first_at p xs))) d) ≡ true
    go true e h ih = e
    go false e h ih = ih (omega arith)

-- a name that means a type which is no scalar is that type's
pub meant_name : (t : Table) (n : List ℕ) → tag_scalar < (meant t n).tag → (meant t n).name ≡ n
meant_name t n h = go (is_built_in n) (ltb (first_at (type_named n) t) (length t)) refl (meaning_first t n)
  where
    go : (b c : Bool) → ltb (first_at (type_named n) t) (length t) ≡ c → meaning t n ≡ cond b built_in (cond c (definition (first_at (type_named n) t)) no_meaning) → (meant t n).name ≡ n
    go true c q f = let e = ap (λ (d : Definition). d.tag) (ap (definition_by t) f) in absurd (omega (arith, h, e))
    go false false q f = let e = ap (λ (d : Definition). d.tag) (ap (definition_by t) f) in absurd (omega (arith, h, e))
    go false true q f =
        let l = ltb-true (first_at (type_named n) t) (length t) q in
        ap (λ (d : Definition). d.name) (ap (definition_by t) f)
        ∙ same_sound (get_or t (first_at (type_named n) t) (blank_definition tag_nothing)).name n (and_right (is_type (get_or t (first_at (type_named n) t) (blank_definition tag_nothing))) (same (get_or t (first_at (type_named n) t) (blank_definition tag_nothing)).name n) (passes (type_named n) t (blank_definition tag_nothing) l))

module _ (t book : List ℕ) (b : Booked t book) where
  -- two names of one type that is no scalar are the same
  one_name : (n a : List ℕ) (i k : ℕ) → NumberMeant t book n i → NumberMeant t book a i → kind_in book i ≡ k → tag_scalar < k → n ≡ a
  one_name n a i k x y e h =
      let z : k ≡ tag_nothing → ⊥ = λ q. omega (arith, h, q) in
      let l = kind_below book i k e z in
      sym (meant_name (table_of t) n (omega (arith, h, number_tag t book b n i x k e z)))
      ∙ ap (λ (d : Definition). d.name) (x.is l ∙ sym (y.is l)) ∙ meant_name (table_of t) a (omega (arith, h, number_tag t book b a i y k e z))

  pub implements_possible : (n : List ℕ) (i j : ℕ) → NumberMeant t book n i → kind_in book i ≡ tag_interface → j < count_in book → kind_in book j ≡ tag_object
      → any_of (same n) (definition_on t j).implements ≡ true → CanBe t book i j
  implements_possible n i j w e l f h a o x y =
      sym (an_interface (table_of t) a o (definition_on t j).implements (number_tag t book b o j y tag_object f (λ q. omega arith)) (number_tag t book b a i x tag_interface e (λ q. omega arith))
      (sym (ap (λ (d : Definition). d.implements) (y.is l))) (sym (ap (λ (m : List ℕ). any_of (same m) (definition_on t j).implements) (sym (one_name n a i tag_interface w x e (omega arith))) ∙ h)))

  pub member_possible : (n : List ℕ) (i j : ℕ) → NumberMeant t book n j → kind_in book j ≡ tag_object → i < count_in book → kind_in book i ≡ tag_union
      → any_of (member_named n) (definition_on t i).members ≡ true → CanBe t book i j
  member_possible n i j w e l f h a o x y =
      sym (a_union (table_of t) a o (definition_on t i).members (number_tag t book b o j y tag_object e (λ q. omega arith)) (number_tag t book b a i x tag_union f (λ q. omega arith))
      (sym (ap (λ (d : Definition). d.members) (x.is l))) (sym (ap (λ (m : List ℕ). any_of (member_named m) (definition_on t i).members) (sym (one_name n o j tag_object w y e (omega arith))) ∙ h)))

  -- one bit more that is right
  pub possible_more : (bits new : List ℕ) (i j : ℕ) → Possible t book bits → Marked bits new i j → CanBe t book i j → Possible t book new
  possible_more bits new i j p m h = record { size = m.size ∙ p.size; right = λ x y hx hy e. go x y hx hy (m.set_are x y (number_room t book b x hx) (number_room t book b y hy) e) }
    where
      go : (x y : ℕ) → x < count_in book → y < count_in book → (bit_at bits x y ≡ 1) ⊎ ((x ≡ i) × (y ≡ j)) → CanBe t book x y
      go x y hx hy (inl e) = p.right x y hx hy e
      go x y hx hy (inr e) = rw (e.0, e.1) h

  pub possible_none : (bits : List ℕ) → Blank bits → Possible t book bits
  possible_none bits k = record { size = k.size; right = λ i j hi hj e. absurd (blank_bit bits k i j e) }

-- what a walk at i knows: what passes there passes in all
pub record Inside {A : Type 0} (at end i : ℕ) (all left : List A) : Type 0 where
  pub within : i ≤ end
  pub so : (p : A → Bool) → any_of p left ≡ true → any_of p all ≡ true

pub inside_start : {A : Type 0} (at end : ℕ) (all : List A) → at ≤ end → Inside at end at all all
inside_start at end all h = record { within = h; so = λ p e. e }

module _ {A : Type 0} (at end i : ℕ) (all left : List A) (w : Inside at end i all left) (start stop : ℕ) (one : A) (others : List A) (f : First i end start stop left one others) where
  any_one : (p : A → Bool) → p one ≡ true → any_of p (one ∷ others) ≡ true
  unfolding any_of
  any_one p e = rw e

  any_other : (p : A → Bool) → any_of p others ≡ true → any_of p (one ∷ others) ≡ true
  unfolding any_of
  any_other p e = rw e (or_true (p one))
    where
      or_true : (b : Bool) → b || true ≡ true
      or_true true = refl
      or_true false = refl

  pub inside_one : (p : A → Bool) → p one ≡ true → any_of p all ≡ true
  inside_one p e = w.so p (ap (any_of p) f.all_are ∙ any_one p e)

  pub inside_on : Inside at end stop all others
  inside_on = record { within = f.lies.within; so = λ p e. w.so p (ap (any_of p) f.all_are ∙ any_other p e) }
