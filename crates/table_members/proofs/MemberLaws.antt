-- A record's members, field by field.
use mathlib.Core.Path.{◌≡◌, refl, sym, ap, ◌∙◌}
use mathlib.Core.Bool.{Bool, true, false, ◌||◌, cond, false≢true}
use mathlib.Core.List.{List, [], ◌∷◌, ◌++◌}
use Prim.Native.Nat.{ℕ, ◌+◌, ◌≤◌, ◌<◌}
use native.Mathlib.Omega.{arith}
use lib.ListN.{length}
use lib.Seq.{slice}
use lib.Dec.{eqb, leb}
use borrow.Author.Tests.{eq-eqb, ne_eqb, eqb-true, eqb-false}
use Rattle.paper_table.specs.TableNumbers.{tag_field, tag_argument, tag_union_member}
use Rattle.paper_table.specs.Lists.{only_if}
use Rattle.paper_table.specs.House.{house_field, cut}
use Rattle.paper_table.specs.Types.{Member, field_in, input_in, name_only, member_of}
use Rattle.table_fields.specs.Fields.{field_at}
use Rattle.std.specs.Prelude.{Some, None}
use Rattle.table_fields.specs.declared.Field.{Field}
use Rattle.table_fields.proofs.FieldLaws.{field_lies}
use Rattle.table_members.specs.Members.{members_in, field_from, input_from, member_from, is_member, First}
use Rattle.table_members.proofs.GatherLaws.{gather_none, gather_torn, gather_field}

pub member_cut : (at : ℕ) → member_of (cut at) ≡ []
unfolding member_of
member_cut at = refl

pub member_is : (t : List ℕ) (at tag start stop : ℕ) → start ≡ at + 3 → is_member tag ≡ true → member_of (house_field at tag (slice start stop t)) ≡ member_from t tag start stop ∷ []
unfolding member_of member_from
member_is t at tag start stop e q =
    rw (← e)
    (go (eqb tag tag_field) (eqb tag tag_argument) (leb tag_union_member tag) (field_from t start stop) (input_from t start stop) (name_only tag (slice start stop t)) q)
  where
    go : (a b c : Bool) (x y z : Member) → a || (b || c) ≡ true → cond a (x ∷ []) (cond b (y ∷ []) (only_if c z)) ≡ cond a x (cond b y z) ∷ []
    go true b c x y z q = refl
    go false true c x y z q = refl
    go false false true x y z q = refl
    go false false false x y z q = absurd (false≢true q)

pub member_not : (at tag : ℕ) (s : List ℕ) → is_member tag ≡ false → member_of (house_field at tag s) ≡ []
unfolding member_of
member_not at tag s q =
    go (eqb tag tag_field) (eqb tag tag_argument) (leb tag_union_member tag) (field_in at s) (input_in at s) (name_only tag s) q
  where
    go : (a b c : Bool) (x y z : Member) → a || (b || c) ≡ false → cond a (x ∷ []) (cond b (y ∷ []) (only_if c z)) ≡ []
    go true b c x y z q = absurd (false≢true (sym q))
    go false true c x y z q = absurd (false≢true (sym q))
    go false false true x y z q = absurd (false≢true (sym q))
    go false false false x y z q = refl

-- what a loop over a record's members knows at i: these are all that come, from `at` on
pub record Walked {A : Type 0} (at end i : ℕ) (all left : List A) : Type 0 where
  pub begun : at ≤ i
  pub within : i ≤ end
  pub same : all ≡ left

module _ (t : List ℕ) (at end i : ℕ) (w : end ≤ length t) (h : Walked at end i (members_in t at end) (members_in t i end)) where
  pub members_none : end ≤ i → members_in t at end ≡ []
  members_none l = h.same ∙ gather_none member_of member_cut t i end w l

  pub members_torn : i < end → field_at t i end ≡ None → members_in t at end ≡ []
  members_torn l q = h.same ∙ gather_torn member_of member_cut t i end w l q

  module _ (l : i < end) (it : Field) (q : field_at t i end ≡ Some it) where
    pub members_here : is_member it.tag ≡ true → First at end it.start it.end (members_in t at end) (member_from t it.tag it.start it.end) (members_in t it.end end)
    members_here e =
        let f = field_lies t i end it h.within q in
        record {
          lies = record { begins = omega (arith, h.begun, f.begins); order = f.order; within = f.within };
          all_are =
              h.same ∙ gather_field member_of member_cut t i end w l it q
              ∙ ap (λ (m : List Member). m ++ members_in t it.end end) (member_is t i it.tag it.start it.end f.begins e);
        }

    pub members_on : is_member it.tag ≡ false → Walked at end it.end (members_in t at end) (members_in t it.end end)
    members_on e =
        let f = field_lies t i end it h.within q in
        record {
          begun = omega (arith, h.begun, f.begins, f.order);
          within = f.within;
          same =
              h.same ∙ gather_field member_of member_cut t i end w l it q
              ∙ ap (λ (m : List Member). m ++ members_in t it.end end) (member_not i it.tag (slice it.start it.end t) e);
        }

    pub field_moves : i < it.end
    field_moves = let f = field_lies t i end it h.within q in omega (arith, f.begins, f.order)

pub walked_start : {A : Type 0} (at end : ℕ) (all : List A) → at ≤ end → Walked at end at all all
walked_start at end all h = record { begun = omega arith; within = h; same = refl }

-- the parts of the member with a tag and a content: a field's or an argument's, and of one that is a name
module _ (t : List ℕ) (tag start stop : ℕ) where
  pub field_is : tag ≡ tag_field → member_from t tag start stop ≡ field_from t start stop
  unfolding member_from
  field_is e = rw (eq-eqb tag tag_field e)

  pub input_is : tag ≡ tag_argument → member_from t tag start stop ≡ input_from t start stop
  unfolding member_from
  input_is e = let n : tag ≡ tag_field → ⊥ = λ q. omega arith in rw (ne_eqb tag tag_field n, eq-eqb tag tag_argument e)

  pub name_is : (tag ≡ tag_field → ⊥) → (tag ≡ tag_argument → ⊥) → member_from t tag start stop ≡ name_only tag (slice start stop t)
  unfolding member_from
  name_is e f = rw (ne_eqb tag tag_field e, ne_eqb tag tag_argument f)

  pub member_tag : (member_from t tag start stop).tag ≡ tag
  member_tag = go (eqb tag tag_field) refl (eqb tag tag_argument) refl
    where
      go : (a : Bool) → eqb tag tag_field ≡ a → (b : Bool) → eqb tag tag_argument ≡ b → (member_from t tag start stop).tag ≡ tag
      go true p b q = let e = eqb-true tag tag_field p in ap (λ (m : Member). m.tag) (field_is e) ∙ sym e
      go false p true q = let e = eqb-true tag tag_argument q in ap (λ (m : Member). m.tag) (input_is e) ∙ sym e
      go false p false q = ap (λ (m : Member). m.tag) (name_is (eqb-false tag tag_field p) (eqb-false tag tag_argument q))
