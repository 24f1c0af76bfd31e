-- The fields of one tag in a content, field by field; what is taken from them.
use mathlib.Core.Path.{◌≡◌, refl, sym, ap, ◌∙◌}
use mathlib.Core.Bool.{Bool, true, false, cond}
use mathlib.Core.List.{List, [], ◌∷◌, ◌++◌}
use Prim.Native.Nat.{ℕ, zero, suc, ◌+◌, ◌-◌, ◌≤◌, ◌<◌}
use native.Mathlib.Omega.{arith}
use lib.ListN.{length, take, drop}
use lib.Seq.{slice}
use lib.Dec.{eqb}
use borrow.Author.Tests.{eq-eqb, ne_eqb}
use Rattle.paper_table.specs.TableNumbers.{tag_name, tag_implements, tag_argument}
use Rattle.paper_table.specs.Lists.{gather}
use Rattle.paper_table.specs.House.{HouseField, house_field, cut}
use Rattle.paper_table.specs.Types.{text_of, name_in, argument_of, implemented_of}
use Rattle.table_fields.specs.Fields.{field_at}
use Rattle.std.specs.Prelude.{Option, Some, None}
use Rattle.table_fields.specs.declared.Field.{Field}
use Rattle.table_fields.proofs.FieldLaws.{pieces_read, pieces_torn, pieces_none, field_lies}
use Rattle.table_book.specs.Book.{part}
use Rattle.table_members.specs.Members.{fields_in, implemented_in, from_tag, First, NextTag, NextArgument, NextImplemented, Named}
use Rattle.table_members.proofs.GatherLaws.{gather_nil, gather_cons}
use Rattle.table_members.proofs.MemberLaws.{Walked}

-- the first field of a tag
from_nil : (k : ℕ) → from_tag k [] ≡ []
unfolding from_tag
from_nil k = refl

from_cut : (k at : ℕ) → from_tag k (cut at ∷ []) ≡ []
unfolding from_tag
from_cut k at = refl

from_here : (k at : ℕ) (s : List ℕ) (ps : List HouseField) → from_tag k (house_field at k s ∷ ps) ≡ house_field at k s ∷ ps
unfolding from_tag
from_here k at s ps = rw (eq-eqb k k refl)

from_on : (k at tag : ℕ) (s : List ℕ) (ps : List HouseField) → (tag ≡ k → ⊥) → from_tag k (house_field at tag s ∷ ps) ≡ from_tag k ps
unfolding from_tag
from_on k at tag s ps e = rw (ne_eqb tag k e)

module _ (t : List ℕ) (at end k i : ℕ) (w : end ≤ length t) (h : Walked at end i (from_tag k (fields_in t at end)) (from_tag k (fields_in t i end))) where
  pub tags_none : end ≤ i → from_tag k (fields_in t at end) ≡ []
  tags_none l = h.same ∙ ap (from_tag k) (pieces_none t i end l w) ∙ from_nil k

  pub tags_torn : i < end → field_at t i end ≡ None → from_tag k (fields_in t at end) ≡ []
  tags_torn l q = h.same ∙ ap (from_tag k) (pieces_torn t i end w l q) ∙ from_cut k i

  module _ (l : i < end) (it : Field) (q : field_at t i end ≡ Some it) where
    pub tags_here : it.tag ≡ k → First at end it.start it.end (from_tag k (fields_in t at end)) (house_field (it.start - 3) k (slice it.start it.end t)) (fields_in t it.end end)
    tags_here e =
        let f = field_lies t i end it h.within q in
        let z : it.start - 3 ≡ i = omega (arith, f.begins) in
        record {
          lies = record { begins = omega (arith, h.begun, f.begins); order = f.order; within = f.within };
          all_are =
              h.same ∙ ap (from_tag k) (pieces_read t i end w l it q)
              ∙ rw (z, e) (from_here k i (slice it.start it.end t) (fields_in t it.end end));
        }

    pub tags_on : (it.tag ≡ k → ⊥) → Walked at end it.end (from_tag k (fields_in t at end)) (from_tag k (fields_in t it.end end))
    tags_on e =
        let f = field_lies t i end it h.within q in
        record {
          begun = omega (arith, h.begun, f.begins, f.order);
          within = f.within;
          same =
              h.same ∙ ap (from_tag k) (pieces_read t i end w l it q)
              ∙ from_on k i it.tag (slice it.start it.end t) (fields_in t it.end end) e;
        }

    pub tags_move : i < it.end
    tags_move = let f = field_lies t i end it h.within q in omega (arith, f.begins, f.order)

-- what is taken from fields of one tag alone
module _ {B : Type 0} (f : HouseField → List B) (k : ℕ) (g : (at : ℕ) → f (cut at) ≡ []) (o : (at tag : ℕ) (s : List ℕ) → eqb tag k ≡ false → f (house_field at tag s) ≡ []) where
  pub gather_tag : (ps : List HouseField) → gather f (from_tag k ps) ≡ gather f ps
  unfolding from_tag
  gather_tag [] = refl
  gather_tag (cut at ∷ ps) = gather_tag ps ∙ sym (gather_cons f (cut at) ps ∙ ap (λ (l : List B). l ++ gather f ps) (g at))
  gather_tag (house_field at tag s ∷ ps) = go (eqb tag k) refl (gather_tag ps)
    where
      go : (b : Bool) → eqb tag k ≡ b → gather f (from_tag k ps) ≡ gather f ps → gather f (cond b (house_field at tag s ∷ ps) (from_tag k ps)) ≡ gather f (house_field at tag s ∷ ps)
      go true q e = refl
      go false q e = e ∙ sym (gather_cons f (house_field at tag s) ps ∙ ap (λ (l : List B). l ++ gather f ps) (o at tag s q))

text_tag : (k : ℕ) (ps : List HouseField) → text_of k (from_tag k ps) ≡ text_of k ps
unfolding from_tag text_of
text_tag k [] = refl
text_tag k (cut at ∷ ps) = text_tag k ps
text_tag k (house_field at tag s ∷ ps) = go (eqb tag k) refl (text_tag k ps)
  where
    go : (b : Bool) → eqb tag k ≡ b → text_of k (from_tag k ps) ≡ text_of k ps → text_of k (cond b (house_field at tag s ∷ ps) (from_tag k ps)) ≡ cond b s (text_of k ps)
    go true q e = rw q
    go false q e = e

text_here : (k at : ℕ) (s : List ℕ) (ps : List HouseField) → text_of k (house_field at k s ∷ ps) ≡ s
unfolding text_of
text_here k at s ps = rw (eq-eqb k k refl)

text_nil : (k : ℕ) → text_of k [] ≡ []
unfolding text_of
text_nil k = refl

argument_other : (at tag : ℕ) (s : List ℕ) → eqb tag tag_argument ≡ false → argument_of (house_field at tag s) ≡ []
argument_other at tag s q = rw q

implemented_other : (at tag : ℕ) (s : List ℕ) → eqb tag tag_implements ≡ false → implemented_of (house_field at tag s) ≡ []
implemented_other at tag s q = rw q

-- a part by its size is the one by its end
drop_take : (n m : ℕ) (l : List ℕ) → drop n (take m l) ≡ take (m - n) (drop n l)
drop_take zero m l = let e : m - 0 ≡ m = omega arith in rw e
drop_take (suc n) zero l = let e : 0 - suc n ≡ 0 = omega arith in rw e
drop_take (suc n) (suc m) [] = go (suc m - suc n)
  where
    go : (j : ℕ) → ◌≡◌ {A = List ℕ} [] (take j [])
    go zero = refl
    go (suc j) = refl
drop_take (suc n) (suc m) (x ∷ l) = let e : suc m - suc n ≡ m - n = omega arith in rw e (drop_take n m l)

pub part_slice : (t : List ℕ) (start stop : ℕ) → part t start (stop - start) ≡ slice start stop t
part_slice t start stop = sym (drop_take start stop t)

module _ (t : List ℕ) (at end : ℕ) where
  pub next_argument : (r : Option Field) → NextTag t at end tag_argument r → NextArgument t at end r
  next_argument None e = sym (gather_tag argument_of tag_argument (λ i. refl) argument_other (fields_in t at end)) ∙ ap (gather argument_of) e ∙ gather_nil argument_of
  next_argument (Some it) f =
      let z : it.start - 3 + 3 ≡ it.start = omega (arith, f.lies.begins) in
      record {
        lies = f.lies;
        all_are =
            sym (gather_tag argument_of tag_argument (λ i. refl) argument_other (fields_in t at end)) ∙ ap (gather argument_of) f.all_are
            ∙ gather_cons argument_of (house_field (it.start - 3) tag_argument (slice it.start it.end t)) (fields_in t it.end end)
            ∙ rw z;
      }

  pub next_implemented : (r : Option Field) → NextTag t at end tag_implements r → NextImplemented t at end r
  next_implemented None e = sym (gather_tag implemented_of tag_implements (λ i. refl) implemented_other (fields_in t at end)) ∙ ap (gather implemented_of) e ∙ gather_nil implemented_of
  next_implemented (Some it) f =
      record {
        lies = f.lies;
        all_are =
            sym (gather_tag implemented_of tag_implements (λ i. refl) implemented_other (fields_in t at end)) ∙ ap (gather implemented_of) f.all_are
            ∙ gather_cons implemented_of (house_field (it.start - 3) tag_implements (slice it.start it.end t)) (fields_in t it.end end)
            ∙ ap (λ (n : List ℕ). n ∷ implemented_in t it.end end) (sym (part_slice t it.start it.end));
      }

  pub name_found : (w : end ≤ length t) (it : Field) → NextTag t at end tag_name (Some it) → Named t it.start (it.end - it.start) (name_in (fields_in t at end))
  name_found w it f =
      record {
        is = part_slice t it.start it.end ∙ sym (sym (text_tag tag_name (fields_in t at end)) ∙ ap (text_of tag_name) f.all_are ∙ text_here tag_name (it.start - 3) (slice it.start it.end t) (fields_in t it.end end));
        within = omega (arith, f.lies.order, f.lies.within);
      }

  pub name_none : at ≤ end → end ≤ length t → NextTag t at end tag_name None → Named t at 0 (name_in (fields_in t at end))
  name_none h w e =
      record {
        is = sym (sym (text_tag tag_name (fields_in t at end)) ∙ ap (text_of tag_name) e ∙ text_nil tag_name);
        within = omega arith;
      }
