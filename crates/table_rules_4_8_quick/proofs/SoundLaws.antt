-- Of sound members none breaks a rule; what the notes of names say; what the walks know.
use mathlib.Core.Path.{◌≡◌, refl, sym, ap, subst, ◌∙◌}
use mathlib.Core.Bool.{Bool, true, false, not, ◌||◌, cond, false≢true}
use mathlib.Core.Logic.{◌⊎◌, inl, inr}
use mathlib.Core.List.{List, [], ◌∷◌, ◌++◌}
use Prim.{tt}
use Prim.Native.Nat.{ℕ, suc, ◌+◌, ◌-◌, ◌*◌, ◌%◌, ◌≤◌, ◌<◌}
use native.Mathlib.Omega.{arith}
use lib.ListN.{length, take, drop, get_or, set, length-set}
use lib.Seq.{get_or-set_same, get_or-set_other, get_or-take, get_or-drop, drop-drop, take-add}
use lib.Dec.{eqb}
use borrow.Author.Tests.{eq-eqb, ne_eqb, lt-ltb, le-ltb, eqb-true, eqb-false, not-true}
use Rattle.paper.specs.Tokens.{same}
use Rattle.paper_table.specs.Lists.{any_of, each_from, each, only_if}
use Rattle.paper_table.specs.TableNumbers.{tag_field, tag_argument}
use Rattle.paper_table.specs.Types.{Argument, Member, Definition, Table, table_of, type_in, is_roots, is_enum, is_object, is_interface, is_reserved}
use Rattle.paper_table.specs.Places.{Place, member_at, argument_at, argument_places, member_places}
use Rattle.paper_table.specs.Rule4NameRepeated.{member_repeats, argument_repeats, name_repeated}
use Rattle.paper_table.specs.Rule5ReservedMember.{member_reserved, argument_reserved, reserved_member}
use Rattle.paper_table.specs.Rule6EnumValue.{no_enum_values, is_no_enum_value, enum_value}
use Rattle.paper_table.specs.Rule7NoType.{base_meant, member_type_unknown, argument_type_unknown, no_type}
use Rattle.paper_table.specs.Rule8Base.{member_base_wrong, argument_base_wrong, wrong_base}
use Rattle.paper_table.proofs.TextLaws.{same_sound}
use Rattle.table_book.specs.Book.{part}
use Rattle.table_book.proofs.Texts.{length_part}
use Rattle.table_members.specs.Members.{fields_in, member_from, First}
use Rattle.table_types.specs.Booked.{is_composite_tag}
use Rattle.table_bases.proofs.TestLaws.{unknown_field, unknown_input, unknown_other, wrong_field, wrong_input, wrong_other}
use Rattle.table_rules_4_8_quick.specs.Sound.{EveryFrom, member_name, argument_name, Before, ArgumentSound, BaseSound, MemberSound, Sound, InputTag, cells, long, second_last, last, tail_at, cell_of, Seen, Noted, Onward, Told}

-- nothing is shown of what is sound
every_none : {A B : Type 0} (P : ℕ → A → Type 0) (f : ℕ → A → List B) → ((i : ℕ) (x : A) → P i x → f i x ≡ []) → (i : ℕ) (xs : List A) → EveryFrom P i xs → each_from i f xs ≡ []
unfolding each_from
every_none P f h i [] e = refl
every_none {B = B} P f h i (x ∷ xs) e = ap (λ (ys : List B). ys ++ each_from (suc i) f xs) (h i x e.0) ∙ every_none P f h (suc i) xs e.1

only_none : (b : Bool) (p : Place) → b ≡ false → only_if b p ≡ []
only_none b p e = rw e

module _ (t : Table) (ms : List Member) (k : EveryFrom (MemberSound t ms) 0 ms) where
  members_none : (fails : ℕ → Member → Bool) (argument_fails : Member → ℕ → Argument → Bool) → ((m : ℕ) (e : Member) → MemberSound t ms m e → fails m e ≡ false)
      → ((e : Member) (a : ℕ) (x : Argument) → ArgumentSound t e.arguments a x → argument_fails e a x ≡ false) → each (member_places fails argument_fails) ms ≡ []
  members_none fails argument_fails h g = every_none (MemberSound t ms) (member_places fails argument_fails) at 0 ms k
    where
      at : (m : ℕ) (e : Member) → MemberSound t ms m e → member_places fails argument_fails m e ≡ []
      at m e s =
          let q : argument_places argument_fails m e ≡ [] = every_none (ArgumentSound t e.arguments) (λ a x. only_if (argument_fails e a x) (argument_at m a)) (λ a x y. only_none (argument_fails e a x) (argument_at m a) (g e a x y)) 0 e.arguments s.arguments in
          ap (λ (ps : List Place). ps ++ only_if (fails m e) (member_at m)) q ∙ only_none (fails m e) (member_at m) (h m e s)

  values_none : each (λ m e. only_if (is_no_enum_value m e) (member_at m)) ms ≡ []
  values_none = every_none (MemberSound t ms) (λ m e. only_if (is_no_enum_value m e) (member_at m)) (λ m e s. only_none (is_no_enum_value m e) (member_at m) s.value) 0 ms k

if_none : (b : Bool) (ps : List Place) → ps ≡ [] → cond b ps [] ≡ []
if_none true ps e = e
if_none false ps e = refl

unless_none : (b : Bool) (ps : List Place) → ps ≡ [] → cond b [] ps ≡ []
unless_none true ps e = refl
unless_none false ps e = e

pub all_sound : (t : Table) (i : ℕ) (d : Definition) → EveryFrom (MemberSound t d.members) 0 d.members → Sound t i d
unfolding name_repeated reserved_member enum_value no_type wrong_base
all_sound t i d k = record {
  name_repeated_is = unless_none (is_roots d) _ (members_none t d.members k (member_repeats d) argument_repeats (λ m e s. s.first) (λ e a x s. s.first));
  reserved_member_is = if_none (is_object d || is_interface d) _ (members_none t d.members k member_reserved argument_reserved (λ m e s. s.own) (λ e a x s. s.own));
  enum_value_is = if_none (is_enum d) _ (values_none t d.members k);
  no_type_is = members_none t d.members k (member_type_unknown t) (argument_type_unknown t) (λ m e s. s.base.known) (λ e a x s. s.known);
  wrong_base_is = members_none t d.members k (member_base_wrong t) (argument_base_wrong t) (λ m e s. s.base.right) (λ e a x s. s.input);
}

-- by the tag of the base type
pub input_tag : (k : ℕ) (r : Bool) → (k ≡ 0 → ⊥) → r ≡ is_composite_tag k → not r ≡ true → InputTag k
input_tag k r z e q = record { known = ne_eqb k 0 z; input = sym e ∙ not-true r q }

module _ (t : List ℕ) (tag start end b : ℕ) (e : b ≡ (base_meant (table_of t) (type_in (fields_in t start end))).tag) where
  pub base_field : tag ≡ tag_field → (b ≡ 0 → ⊥) → not (eqb b 6) ≡ true → BaseSound (table_of t) (member_from t tag start end)
  base_field k z q = record { known = sym (unknown_field t tag start end b e k) ∙ ne_eqb b 0 z; right = sym (wrong_field t tag start end b e k) ∙ not-true (eqb b 6) q }

  pub base_input : (tag ≡ tag_field → ⊥) → tag ≡ tag_argument → InputTag b → BaseSound (table_of t) (member_from t tag start end)
  base_input n k i = record { known = sym (unknown_input t tag start end b e n k) ∙ i.known; right = sym (wrong_input t tag start end b e n k) ∙ i.input }

pub base_other : (t : List ℕ) (tag start end : ℕ) → (tag ≡ tag_field → ⊥) → (tag ≡ tag_argument → ⊥) → BaseSound (table_of t) (member_from t tag start end)
base_other t tag start end f g = record { known = sym (unknown_other t tag start end f g); right = sym (wrong_other t tag start end f g) }

-- what is found of an argument and of a member, by its name
pub argument_sound : (t : Table) (xs : List Argument) (a : ℕ) (x : Argument) (n : List ℕ) (k : ℕ) → n ≡ x.name → k ≡ (base_meant t x.type).tag
    → is_reserved n ≡ false → Before argument_name xs a n ≡ false → InputTag k → ArgumentSound t xs a x
argument_sound t xs a x n k e q r f i = record {
  first = ap (Before argument_name xs a) (sym e) ∙ f;
  own = ap is_reserved (sym e) ∙ r;
  known = ap (λ (j : ℕ). eqb j 0) (sym q) ∙ i.known;
  input = ap is_composite_tag (sym q) ∙ i.input;
}

pub member_sound : (t : Table) (ms : List Member) (m : ℕ) (x : Member) (n : List ℕ) → n ≡ x.name → is_reserved n ≡ false → any_of (same n) no_enum_values ≡ false
    → Before member_name ms m n ≡ false → BaseSound t x → EveryFrom (ArgumentSound t x.arguments) 0 x.arguments → MemberSound t ms m x
member_sound t ms m x n e r v f b s = record {
  first = ap (Before member_name ms m) (sym e) ∙ f;
  own = ap is_reserved (sym e) ∙ r;
  value = ap (λ (y : List ℕ). any_of (same y) no_enum_values) (sym e) ∙ v;
  base = b;
  arguments = s;
}

-- a name's cell
part_at : (t : List ℕ) (at n j : ℕ) → j < n → get_or (part t at n) j 0 ≡ get_or t (at + j) 0
part_at t at n j h = get_or-take n (drop at t) j 0 h ∙ get_or-drop at t j 0

module _ (t : List ℕ) (at n : ℕ) (w : at + n ≤ length t) where
  pub cell_none : n ≡ 0 → 0 ≡ cell_of (part t at n)
  unfolding cell_of
  cell_none e = sym (rw (length_part t at n w, eq-eqb n 0 e) refl)

  module _ (z : n ≡ 0 → ⊥) (first : ℕ) (f : first ≡ get_or t at 0) where
    first_is : get_or (part t at n) 0 0 ≡ first
    first_is = part_at t at n 0 (omega (arith, z)) ∙ ap (λ (j : ℕ). get_or t j 0) (let e : at + 0 ≡ at = omega arith in e) ∙ sym f

    pub cell_one : n ≡ 1 → first % cells ≡ cell_of (part t at n)
    unfolding cell_of
    cell_one e = sym (rw (length_part t at n w, ne_eqb n 0 z, eq-eqb n 1 e, first_is) refl)

    module _ (o : n ≡ 1 → ⊥) (x y : ℕ) (g : x ≡ get_or t (at + n - 2) 0) (h : y ≡ get_or t (at + n - 1) 0) where
      abbrev ends : ℕ
      ends = n + first + second_last * x + last * y

      second_is : get_or (part t at n) (n - 2) 0 ≡ x
      second_is = part_at t at n (n - 2) (omega (arith, z, o)) ∙ ap (λ (j : ℕ). get_or t j 0) (let e : at + (n - 2) ≡ at + n - 2 = omega (arith, z, o) in e) ∙ sym g

      last_is : get_or (part t at n) (n - 1) 0 ≡ y
      last_is = part_at t at n (n - 1) (omega (arith, z)) ∙ ap (λ (j : ℕ). get_or t j 0) (let e : at + (n - 1) ≡ at + n - 1 = omega (arith, z) in e) ∙ sym h

      pub cell_short : n < long → ends % cells ≡ cell_of (part t at n)
      unfolding cell_of
      cell_short l = sym (rw (length_part t at n w, ne_eqb n 0 z, ne_eqb n 1 o, lt-ltb n long l, first_is, second_is, last_is) refl)

      pub cell_long : long ≤ n → (v : ℕ) → v ≡ tail_at t (at + n - long) → (ends + v) % cells ≡ cell_of (part t at n)
      unfolding cell_of
      cell_long l v e = sym (rw (length_part t at n w, ne_eqb n 0 z, ne_eqb n 1 o, le-ltb n long l, first_is, second_is, last_is, sixth_is, by 1 (omega arith), by 2 (omega arith), by 3 (omega arith)) (ap (λ (k : ℕ). (ends + k) % cells) (sym e)))
        where
          sixth_is : get_or (part t at n) (n - 6) 0 ≡ get_or t (at + n - 6) 0
          sixth_is = part_at t at n (n - 6) (omega arith) ∙ ap (λ (k : ℕ). get_or t k 0) (let r : at + (n - 6) ≡ at + n - 6 = omega arith in r)

          by : (j : ℕ) → j < 4 → get_or (part t at n) (n - 6 + j) 0 ≡ get_or t (at + n - 6 + j) 0
          by j q = part_at t at n (n - 6 + j) (omega arith) ∙ ap (λ (k : ℕ). get_or t k 0) (let r : at + (n - 6 + j) ≡ at + n - 6 + j = omega arith in r)

-- a name is noted: it was, or it is now
module _ (old : List ℕ) (mark : ℕ) (n : List ℕ) (k : ℕ) (e : k ≡ cell_of n) (s : length old ≡ cells) where
  pub noted_old : get_or old k 0 ≡ mark → Noted old old mark n true
  noted_old f = record { size = s; told = λ z. absurd (false≢true (sym z)); here = ap (λ (j : ℕ). get_or old j 0) (sym e) ∙ f; kept = λ j g. g }

  pub noted_new : k < cells → (get_or old k 0 ≡ mark → ⊥) → Noted old (set old k mark) mark n false
  noted_new h f = record {
    size = length-set old k mark ∙ s;
    told = λ z g. f (ap (λ (j : ℕ). get_or old j 0) e ∙ g);
    here = ap (λ (j : ℕ). get_or (set old k mark) j 0) (sym e) ∙ same_cell;
    kept = λ j g. by j g (eqb j k) refl;
  }
    where
      same_cell : get_or (set old k mark) k 0 ≡ mark
      same_cell = get_or-set_same old k mark 0 (omega (arith, h, s))

      by : (j : ℕ) → get_or old j 0 ≡ mark → (b : Bool) → eqb j k ≡ b → get_or (set old k mark) j 0 ≡ mark
      by j g true q = ap (λ (x : ℕ). get_or (set old k mark) x 0) (eqb-true j k q) ∙ same_cell
      by j g false q = get_or-set_other old k j mark 0 (λ z. eqb-false j k q z) ∙ g

-- what is told of a name by its note: no one before has it
module _ {A : Type 0} (name : A → List ℕ) (xs : List A) (m : ℕ) (n old new : List ℕ) (mark : ℕ) where
  onward_by : {r : Bool} → Noted old new mark n r → Seen name xs m old mark → Onward name xs m n new mark
  onward_by k s y (inl e) = k.kept (cell_of y) (s y e)
  onward_by k s y (inr e) = rw e k.here

  pub told_new : {r : Bool} → Noted old new mark n r → r ≡ false → Told name (Before name xs m n ≡ false) xs m n old new mark true
  told_new k e = record { size = k.size; so = λ s z. go s (Before name xs m n) refl; onward = λ s z. onward_by k s }
    where
      go : Seen name xs m old mark → (b : Bool) → Before name xs m n ≡ b → Before name xs m n ≡ false
      go s true q = absurd (k.told e (s n q))
      go s false q = q

  pub told_asked : {r b : Bool} → Noted old new mark n r → b ≡ Before name xs m n → Told name (Before name xs m n ≡ false) xs m n old new mark (not b)
  told_asked {b = b} k e = record { size = k.size; so = λ s z. sym e ∙ not-true b z; onward = λ s z. onward_by k s }

  pub told_refused : (P : Type 0) → length new ≡ cells → Told name P xs m n old new mark false
  told_refused P e = record { size = e; so = λ s z. absurd (false≢true z); onward = λ s z. absurd (false≢true z) }

  pub told_more : (P Q : Type 0) (o : List ℕ) {r q : Bool} → Told name P xs m n old new mark r → r ≡ true → n ≡ o → (q ≡ true → P → Q) → Told name Q xs m o old new mark q
  told_more P Q o k e f g = record {
    size = k.size;
    so = λ s z. g z (k.so s e);
    onward = λ s z. subst (λ (x : List ℕ). Onward name xs m x new mark) f (k.onward s e);
  }

-- one of the first m and the next
module _ {A : Type 0} (p : A → Bool) where
  any_join : (xs : List A) (x : A) → any_of p (xs ++ x ∷ []) ≡ true → (any_of p xs ≡ true) ⊎ (p x ≡ true)
  unfolding any_of
  any_join [] x e = inr (alone (p x) e)
    where
      alone : (b : Bool) → b || false ≡ true → b ≡ true
      alone true q = refl
      alone false q = q
  any_join (y ∷ ys) x e = go (p y) e (any_join ys x)
    where
      go : (b : Bool) → b || any_of p (ys ++ x ∷ []) ≡ true → (any_of p (ys ++ x ∷ []) ≡ true → (any_of p ys ≡ true) ⊎ (p x ≡ true)) → (b || any_of p ys ≡ true) ⊎ (p x ≡ true)
      go true q f = inl refl
      go false q f = f q

-- what a walk at i knows, behind the first m: they are noted, and if the others are sound, all are
pub record Sounding {A : Type 0} (name : A → List ℕ) (P : ℕ → A → Type 0) (seen : List ℕ) (mark at end i m : ℕ) (all left : List A) : Type 0 where
  pub begun : at + m ≤ i
  pub within : i ≤ end
  pub size : length seen ≡ cells
  pub behind : drop m all ≡ left
  pub noted : Seen name all m seen mark
  pub so : EveryFrom P m left → EveryFrom P 0 all

module _ {A : Type 0} (name : A → List ℕ) (P : ℕ → A → Type 0) where
  pub sounding_start : (seen : List ℕ) (mark at end : ℕ) (all : List A) → at ≤ end → length seen ≡ cells → Sounding name P seen mark at end at 0 all all
  unfolding any_of
  sounding_start seen mark at end all h s = record { begun = omega arith; within = h; size = s; behind = refl; noted = λ n e. absurd (false≢true e); so = λ e. e }

  module _ (seen : List ℕ) (mark at end i m : ℕ) (all left : List A) (w : Sounding name P seen mark at end i m all left) where
    pub sounding_none : left ≡ [] → EveryFrom P 0 all
    sounding_none e = w.so (subst (EveryFrom P m) (sym e) tt)

    module _ (start stop : ℕ) (one : A) (others : List A) (f : First i end start stop left one others) where
      here : drop m all ≡ one ∷ others
      here = w.behind ∙ f.all_are

      first_more : take (m + 1) all ≡ take m all ++ one ∷ []
      first_more = take-add m 1 all ∙ ap (λ (xs : List A). take m all ++ take 1 xs) here

      pub sounding_on : (new : List ℕ) {r : Bool} → Told name (P m one) all m (name one) seen new mark r → r ≡ true → Sounding name P new mark at end stop (m + 1) all others
      sounding_on new k e = record {
        begun = omega (arith, w.begun, f.lies.begins, f.lies.order);
        within = f.lies.within;
        size = k.size;
        behind = sym (drop-drop 1 m all) ∙ ap (drop 1) here;
        noted = λ n q. k.onward w.noted e n (named n (any_join (λ x. same (name x) n) (take m all) one (ap (any_of (λ x. same (name x) n)) (sym first_more) ∙ q)));
        so = λ q. w.so (subst (EveryFrom P m) (sym f.all_are) (k.so w.noted e, subst (λ (j : ℕ). EveryFrom P j others) (let z : m + 1 ≡ suc m = omega arith in z) q));
      }
        where
          named : (n : List ℕ) → (Before name all m n ≡ true) ⊎ (same (name one) n ≡ true) → (Before name all m n ≡ true) ⊎ (n ≡ name one)
          named n (inl q) = inl q
          named n (inr q) = inr (sym (same_sound (name one) n q))
