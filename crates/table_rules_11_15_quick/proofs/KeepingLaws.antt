-- What is kept of each argument, field and name is kept of all; what the walks over them know.
use mathlib.Core.Path.{◌≡◌, refl, sym, ap, subst, ◌∙◌}
use mathlib.Core.Bool.{Bool, true, false, not, ◌&&◌, cond, false≢true}
use mathlib.Core.Option.{some}
use mathlib.Core.Logic.{◌⊎◌, inl, inr}
use mathlib.Core.List.{List, [], ◌∷◌, ◌++◌}
use Prim.{tt}
use Prim.Native.Nat.{ℕ, suc, ◌+◌, ◌-◌, ◌*◌, ◌%◌, ◌^◌, ◌≤◌, ◌<◌}
use native.Mathlib.Omega.{arith}
use lib.ListN.{get_or}
use lib.Seq.{slice}
use lib.Pow.{shr_le}
use lib.Bits.{bit_or}
use Rattle.paper.specs.Tokens.{same}
use Rattle.paper_table.specs.TableNumbers.{tag_field, tag_reference}
use Rattle.paper_table.specs.Lists.{any_of, first_at, find, each_from}
use Rattle.paper_table.specs.References.{Ref, is_non_null, ref_of, found}
use Rattle.paper_table.specs.Types.{Argument, Member, Definition, Table, table_of, or_none, type_in, is_interface, meant, can_be, member_named, argument_named}
use Rattle.paper_table.specs.Places.{part_argument_at}
use Rattle.paper_table.specs.Promises.{FieldBreaks, promised_by, promised, if_any}
use Rattle.paper_table.specs.Rule11FieldMissing.{missing_breaks, interface_field_missing}
use Rattle.paper_table.specs.Rule12FieldType.{no_sub_type, type_breaks, field_type}
use Rattle.paper_table.specs.Rule13ArgumentMissing.{lacks_argument, argument_breaks, interface_argument_missing}
use Rattle.paper_table.specs.Rule14ArgumentType.{types_differ, argument_type_breaks, argument_type}
use Rattle.paper_table.specs.Rule15ArgumentExtra.{is_extra, extra_breaks, argument_extra}
use Rattle.paper_table.specs.SubTypes.{SubType, equal, object_of, by_list_of, by_non_null, sub_test}
use Rattle.paper_table.proofs.SubTypesLaws.{sub_test_complete, sub_test_sound}
use Rattle.paper_table.proofs.TextLaws.{same_sound, same_refl, same_ref_refl}
use Rattle.table_fields.specs.Fields.{Finds}
use Rattle.table_book.specs.Book.{part}
use Rattle.table_subtypes.specs.SubAnswers.{SubAnswer}
use Rattle.table_members.specs.Members.{fields_in, field_from, member_from, First}
use Rattle.table_members.proofs.MemberLaws.{field_is}
use Rattle.table_members.proofs.TagLaws.{part_slice}
use Rattle.table_members.proofs.TypeLaws.{typed_packs}
use Rattle.table_types.proofs.Objects.{any_found}
use Rattle.table_types.proofs.SubTyping.{sub_alike, sub_other}
use Rattle.table_rules_11_15_quick.specs.Numbered.{FirstOf}
use Rattle.table_possible.proofs.BitLaws.{lone, bit_or_is, one_shifted}
use Rattle.table_possible.proofs.NameLaws.{passes, Inside, inside_start, inside_one, inside_on}
use Rattle.table_rules_11_15_quick.specs.Keeping.{Every, ArgumentKept, ExtraKept, OwnKept, FieldKept, NameKept, AllKept, SubKept, no_argument, bit_of, Marks, MatchedBy}

-- nothing is shown of what is kept
every_each : {A B : Type 0} (P : A → Type 0) (f : ℕ → A → List B) → ((i : ℕ) (x : A) → P x → f i x ≡ []) → (i : ℕ) (xs : List A) → Every P xs → each_from i f xs ≡ []
unfolding each_from
every_each P f h i [] e = refl
every_each {B = B} P f h i (x ∷ xs) e = ap (λ (ys : List B). ys ++ each_from (suc i) f xs) (h i x e.0) ∙ every_each P f h (suc i) xs e.1

-- what is found passes for one that is there
any_some : {A : Type 0} (p : A → Bool) (xs : List A) (x : A) → find p xs ≡ some x → any_of p xs ≡ true
any_some p xs x e = any_found p xs ∙ ap found e

module _ (t : Table) (es : List Member) where
  promised_none : (ask : FieldBreaks) → ((m p : ℕ) (f : Member) → FieldKept t es f → ask m p f ≡ []) → (i : ℕ) (ns : List (List ℕ)) → Every (NameKept t es) ns → each_from i (promised_by ask t) ns ≡ []
  promised_none ask h i ns e = every_each (NameKept t es) (promised_by ask t) name i ns e
    where
      name : (m : ℕ) (n : List ℕ) → NameKept t es n → promised_by ask t m n ≡ []
      name m n k = go (is_interface (meant t n)) k
        where
          go : (b : Bool) → (b ≡ true → Every (FieldKept t es) (meant t n).members) → cond b (each_from 0 (ask m) (meant t n).members) [] ≡ []
          go true q = every_each (FieldKept t es) (ask m) (h m) 0 (meant t n).members (q refl)
          go false q = refl

module _ (t : Table) (i : ℕ) (d : Definition) (k : Every (NameKept t d.members) d.implements) where
  by : (ask : FieldBreaks) → ((m p : ℕ) (f : Member) → FieldKept t d.members f → ask m p f ≡ []) → promised ask t d ≡ []
  unfolding promised
  by ask h = promised_none t d.members ask h 0 d.implements k

  field_kept : interface_field_missing t i d ≡ []
  unfolding interface_field_missing
  field_kept = by (missing_breaks d) (λ m p f e. rw (any_some (member_named f.name) d.members e.own e.own_is))

  type_kept : field_type t i d ≡ []
  unfolding field_type
  type_kept = by (type_breaks t d) (λ m p f e. rw (e.own_is, e.keeps.type_is))

  argument_kept : interface_argument_missing t i d ≡ []
  unfolding interface_argument_missing
  argument_kept =
      by (argument_breaks d) (λ m p f e. rw e.own_is (every_each (ArgumentKept e.own.arguments) (λ a x. cond (lacks_argument e.own x) (part_argument_at m p a ∷ []) [])
      (λ a x q. rw (any_some (argument_named x.name) e.own.arguments q.other q.other_is)) 0 f.arguments e.keeps.arguments))

  argument_type_kept : argument_type t i d ≡ []
  unfolding argument_type
  argument_type_kept =
      by (argument_type_breaks d) (λ m p f e. rw e.own_is (every_each (ArgumentKept e.own.arguments) (λ a x. if_any (find (argument_named x.name) e.own.arguments) (λ y. cond (types_differ x y) (part_argument_at m p a ∷ []) []))
      (λ a x q. rw (q.other_is, q.type_is)) 0 f.arguments e.keeps.arguments))

  extra_kept : argument_extra t i d ≡ []
  unfolding argument_extra
  extra_kept =
      by (extra_breaks d) (λ m p f e. rw e.own_is (every_each (ExtraKept f.arguments) (λ a y. cond (is_extra f y) (part_argument_at m p a ∷ []) [])
      (λ a y q. rw q) 0 e.own.arguments e.keeps.extras))

  pub all_kept : AllKept t i d
  all_kept = record {
    field_missing = field_kept;
    field_type_is = type_kept;
    argument_missing = argument_kept;
    argument_type_is = argument_type_kept;
    argument_extra_is = extra_kept;
  }

-- what a walk at i knows: if all that is left is kept, all is
pub record Holding {A : Type 0} (P : A → Type 0) (end i : ℕ) (all left : List A) : Type 0 where
  pub within : i ≤ end
  pub so : Every P left → Every P all

pub holding_start : {A : Type 0} (P : A → Type 0) (at end : ℕ) (all : List A) → at ≤ end → Holding P end at all all
holding_start P at end all h = record { within = h; so = λ e. e }

module _ {A : Type 0} (P : A → Type 0) (end i : ℕ) (all left : List A) (w : Holding P end i all left) where
  pub holding_none : left ≡ [] → Every P all
  holding_none e = w.so (subst (Every P) (sym e) tt)

  pub holding_on : (start stop : ℕ) (one : A) (others : List A) → First i end start stop left one others → P one → Holding P end stop all others
  holding_on start stop one others f p = record { within = f.lies.within; so = λ e. w.so (subst (Every P) (sym f.all_are) (p, e)) }

-- a field and the definition's own, by their places
pub field_kept_by : (t : List ℕ) (u : Table) (es : List Member) (tag start end tag' from stop : ℕ) (n : List ℕ) → tag ≡ tag_field → tag' ≡ tag_field → n ≡ (field_from t start end).name
    → find (member_named n) es ≡ some (member_from t tag' from stop) → OwnKept u (field_from t start end) (field_from t from stop) → FieldKept u es (member_from t tag start end)
field_kept_by t u es tag start end tag' from stop n e f g q k =
    rw (field_is t tag start end e) (record {
      own = field_from t from stop;
      own_is = ap (λ (m : List ℕ). find (member_named m) es) (sym g) ∙ q ∙ ap some (field_is t tag' from stop f);
      keeps = k;
    })

-- rule 12: references of one text; by the base names
pub alike_types : (t : List ℕ) (start end from stop a b c d : ℕ) → Finds t start end tag_reference a b → Finds t from stop tag_reference c d
    → same (part t a (b - a)) (part t c (d - c)) ≡ true → type_in (fields_in t start end) ≡ type_in (fields_in t from stop)
alike_types t start end from stop a b c d f g e =
    let q : slice a b t ≡ slice c d t = sym (part_slice t a b) ∙ same_sound (part t a (b - a)) (part t c (d - c)) e ∙ part_slice t c d in
    ap (λ (s : List ℕ). or_none (ref_of s)) (sym f.text ∙ q ∙ g.text)

pub same_type : (t : Table) (f e : Member) → f.type ≡ e.type → no_sub_type t f e ≡ false
same_type t f e q = rw q (ap not (sub_test_complete (can_be t) equal))

pub sub_type : (t : Table) (f e : Member) → sub_test (can_be t) e.type f.type ≡ true → no_sub_type t f e ≡ false
sub_type t f e q = ap not q

sub_false : {can : List ℕ → List ℕ → Bool} {r s : Ref} → SubType (λ a b. false) r s → SubType can r s
sub_false equal = equal
sub_false (object_of e) = absurd (false≢true e)
sub_false (by_list_of x) = by_list_of (sub_false x)
sub_false (by_non_null x) = by_non_null (sub_false x)

module _ (t : List ℕ) (at n o at' n' i : ℕ) {alike : Bool} (e : alike ≡ same (part t at n) (part t at' n')) where
  pub below_alike : {q : Bool} → alike ≡ true → SubAnswer true false o i q → SubKept t at n o at' n' i q
  below_alike h f r s x y k l z = sym (sub_alike t at n o at' n' i e h f r s x y k l) ∙ z

  pub below_other : (can q : Bool) → alike ≡ false → (can ≡ true → can_be (table_of t) (part t at' n') (part t at n) ≡ true) → SubAnswer false can o i q → SubKept t at n o at' n' i q
  below_other true q h g f r s x y k l z = sym (sub_other t at n o at' n' i e h (sym (g refl)) f r s x y k l) ∙ z
  below_other false q h g f r s x y k l z =
      sub_test_complete (can_be (table_of t)) (sub_false (sub_test_sound (λ a b. false) r s (sym (f r s (sym (typed_packs x k)) (sym (typed_packs y l)) (rw (← x.base, ← y.base) (sym e ∙ h))) ∙ z)))

-- rules 13 and 14: the first of the name, if its type is the same
pub matched : (ys : List Argument) (x : Argument) (n : List ℕ) (number : ℕ) (one : Argument) → n ≡ x.name → FirstOf (argument_named n) ys number one → x.type ≡ one.type → number < 32 → MatchedBy ys x number
matched ys x n number one e f q h = record {
  kept = record { other = one; other_is = ap (λ (m : List ℕ). find (argument_named m) ys) (sym e) ∙ f.is; type_is = rw q (same_ref_refl one.type) };
  name_is =
      ap (λ (k : ℕ). (get_or ys k no_argument).name) f.number_is
      ∙ same_sound (get_or ys (first_at (argument_named n) ys) no_argument).name n (passes (argument_named n) ys no_argument (let k = f.number_is in omega (arith, f.below, k))) ∙ e;
  small = h;
}

-- rule 15, by what is marked
module _ (xs : List Argument) (y : Argument) where
  pub extra_named : any_of (argument_named y.name) xs ≡ true → ExtraKept xs y
  extra_named e = rw e (go (is_non_null y.type))
    where
      go : (b : Bool) → b && false ≡ false
      go true = refl
      go false = refl

  pub extra_nullable : is_non_null y.type ≡ false → ExtraKept xs y
  extra_nullable e = rw e

-- what the walk over the own field's arguments knows at i, before number k
pub record Extras (marks end i k : ℕ) (all left : List Argument) : Type 0 where
  pub within : i ≤ end
  pub few : k ≤ i
  pub numbered : (j : ℕ) → get_or all (k + j) no_argument ≡ get_or left j no_argument
  pub so : (xs : List Argument) → Marks xs all marks → Every (ExtraKept xs) left → Every (ExtraKept xs) all

pub extras_start : (marks at end : ℕ) (all : List Argument) → at ≤ end → Extras marks end at 0 all all
extras_start marks at end all h = record { within = h; few = omega arith; numbered = λ j. ap (λ (x : ℕ). get_or all x no_argument) (let e : 0 + j ≡ j = omega arith in e); so = λ xs m e. e }

module _ (marks end i k : ℕ) (all left : List Argument) (w : Extras marks end i k all left) where
  pub extras_none : left ≡ [] → (xs : List Argument) → Marks xs all marks → Every (ExtraKept xs) all
  extras_none e xs m = w.so xs m (subst (Every (ExtraKept xs)) (sym e) tt)

  module _ (start stop : ℕ) (one : Argument) (others : List Argument) (f : First i end start stop left one others) where
    here : get_or all k no_argument ≡ one
    here = ap (λ (x : ℕ). get_or all x no_argument) (let e : k ≡ k + 0 = omega arith in e) ∙ w.numbered 0 ∙ ap (λ (ys : List Argument). get_or ys 0 no_argument) f.all_are

    kept_here : (xs : List Argument) → Marks xs all marks → (bit_of marks k ≡ 1) ⊎ (is_non_null one.type ≡ false) → ExtraKept xs one
    kept_here xs m (inl b) = extra_named xs one (ap (λ (y : Argument). any_of (argument_named y.name) xs) (sym here) ∙ m k b)
    kept_here xs m (inr q) = extra_nullable xs one q

    pub extras_on : (bit_of marks k ≡ 1) ⊎ (is_non_null one.type ≡ false) → Extras marks end stop (k + 1) all others
    extras_on q = record {
      within = f.lies.within;
      few = omega (arith, w.few, f.lies.begins, f.lies.order);
      numbered = λ j.
          ap (λ (x : ℕ). get_or all x no_argument) (let e : k + 1 + j ≡ k + suc j = omega arith in e)
          ∙ w.numbered (suc j) ∙ ap (λ (ys : List Argument). get_or ys (suc j) no_argument) f.all_are;
      so = λ xs m e. w.so xs m (subst (Every (ExtraKept xs)) (sym f.all_are) (kept_here xs m q, e));
    }

-- what the walk over the interface's arguments knows at i: what is kept, and what is marked
pub record Matching (ys : List Argument) (at end i marks : ℕ) (all left : List Argument) : Type 0 where
  pub holding : Holding (ArgumentKept ys) end i all left
  pub inside : Inside at end i all left
  pub marked : Marks all ys marks

pub matching_start : (ys : List Argument) (at end : ℕ) (all : List Argument) → at ≤ end → Matching ys at end at 0 all all
matching_start ys at end all h = record {
  holding = holding_start (ArgumentKept ys) at end all h;
  inside = inside_start at end all h;
  marked = λ k e. absurd (omega (arith, e, shr_le 0 k));
}

module _ (ys : List Argument) (at end i marks : ℕ) (all left : List Argument) (w : Matching ys at end i marks all left) (start stop : ℕ) (one : Argument) (others : List Argument) (f : First i end start stop left one others) where
  pub matching_on : (k : ℕ) → MatchedBy ys one k → Matching ys at end stop (bit_or marks (1 * 2 ^ k % 4294967296)) all others
  matching_on k m = record {
    holding = holding_on (ArgumentKept ys) end i all left w.holding start stop one others f m.kept;
    inside = inside_on at end i all left w.inside start stop one others f;
    marked = λ j e. go j (bit_or_is marks (1 * 2 ^ k % 4294967296) j e);
  }
    where
      named_one : any_of (argument_named (get_or ys k no_argument).name) all ≡ true
      named_one = ap (λ (n : List ℕ). any_of (argument_named n) all) m.name_is ∙ inside_one at end i all left w.inside start stop one others f (argument_named one.name) (same_refl one.name)

      go : (j : ℕ) → (bit_of marks j ≡ 1) ⊎ (bit_of (1 * 2 ^ k % 4294967296) j ≡ 1) → any_of (argument_named (get_or ys j no_argument).name) all ≡ true
      go j (inl e) = w.marked j e
      go j (inr e) =
          let q : j ≡ k = lone k j (ap (λ (x : ℕ). bit_of x j) (sym (one_shifted k m.small)) ∙ e) in
          rw q named_one
