-- What the rules 11 to 15 ask, said once by the rule's number.
use mathlib.Core.Path.{◌≡◌, refl, ap, ◌∙◌}
use mathlib.Core.Bool.{Bool, true, false, ◌&&◌, ◌||◌, cond}
use mathlib.Core.Option.{Option, none, some}
use mathlib.Core.List.{List, [], ◌∷◌, ◌++◌}
use Prim.Native.Nat.{ℕ, suc}
use lib.Dec.{eqb}
use Rattle.paper_table.specs.TableNumbers.{rule_field_missing, rule_field_type, rule_argument_missing, rule_argument_type, rule_argument_extra}
use Rattle.paper_table.specs.Lists.{any_of, find, each, each_from, only_if}
use Rattle.paper_table.specs.References.{is_non_null}
use Rattle.paper_table.specs.Types.{Argument, Member, Definition, Table, is_interface, meant, member_named, argument_named}
use Rattle.paper_table.specs.Places.{Place, part_at, part_argument_at}
use Rattle.paper_table.specs.Promises.{FieldBreaks, promised_by, promised, own, if_any}
use Rattle.paper_table.specs.Rule11FieldMissing.{missing_breaks, interface_field_missing}
use Rattle.paper_table.specs.Rule12FieldType.{type_breaks, field_type, no_sub_type}
use Rattle.paper_table.specs.Rule13ArgumentMissing.{argument_breaks, interface_argument_missing, lacks_argument}
use Rattle.paper_table.specs.Rule14ArgumentType.{argument_type_breaks, argument_type, own_argument, types_differ}
use Rattle.paper_table.specs.Rule15ArgumentExtra.{extra_breaks, argument_extra, is_extra}
use Rattle.table_rules_13_15.specs.Asked.{failing}
use Rattle.table_rules_11_15_field.specs.Asked.{rule_asked}
use Rattle.table_rules_11_15.specs.Asked.{own_asked, asked_of}

-- the definition's own field, or none, by the rule's number
module _ (rule : ℕ) (t : Table) (m p : ℕ) (f : Member) where
  pub none_own : own_asked rule t m p f none ≡ only_if (eqb rule rule_field_missing) (part_at m p)
  unfolding own_asked
  none_own = refl

  pub some_own : (e : Member) → own_asked rule t m p f (some e) ≡ rule_asked rule t m p f e
  unfolding own_asked
  some_own e = refl

-- each asks the same, so all do
each_same : {A B : Type 0} (f g : ℕ → A → List B) → ((i : ℕ) (x : A) → f i x ≡ g i x) → (i : ℕ) (xs : List A) → each_from i f xs ≡ each_from i g xs
unfolding each_from
each_same f g h i [] = refl
each_same {B = B} f g h i (x ∷ xs) = ap (λ (ys : List B). ys ++ each_from (suc i) f xs) (h i x) ∙ ap (λ (ys : List B). g i x ++ ys) (each_same f g h (suc i) xs)

promised_same : (a b : FieldBreaks) → ((m p : ℕ) (f : Member) → a m p f ≡ b m p f) → (t : Table) (d : Definition) → promised a t d ≡ promised b t d
unfolding promised
promised_same a b h t d = each_same (promised_by a t) (promised_by b t) name 0 d.implements
  where
    name : (m : ℕ) (n : List ℕ) → promised_by a t m n ≡ promised_by b t m n
    name m n = ap (λ (qs : List Place). cond (is_interface (meant t n)) qs []) (each_same (a m) (b m) (h m) 0 (meant t n).members)

-- one is found exactly where one passes
any_find : {A : Type 0} (p : A → Bool) (xs : List A) (o : Option A) → find p xs ≡ o → any_of p xs ≡ elim o [ none ↦ false | some x ↦ true ]
unfolding find any_of
any_find {A = A} p [] none e = refl
any_find {A = A} p [] (some x) e = let z : ◌≡◌ {A = Option A} none (some x) = e in cc
any_find {A = A} p (y ∷ xs) o e = go (p y) o e (λ (q : Option A) (f : find p xs ≡ q). any_find p xs q f)
  where
    go : (b : Bool) (q : Option A) → cond b (some y) (find p xs) ≡ q → ((r : Option A) → find p xs ≡ r → any_of p xs ≡ elim r [ none ↦ false | some x ↦ true ]) → b || any_of p xs ≡ elim q [ none ↦ false | some x ↦ true ]
    go true none f ih = let z : ◌≡◌ {A = Option A} (some y) none = f in cc
    go true (some x) f ih = refl
    go false q f ih = ih q f

module _ (t : Table) (i : ℕ) (d : Definition) where
  pub asks_field : interface_field_missing t i d ≡ promised (asked_of rule_field_missing t d.members) t d
  unfolding interface_field_missing own_asked rule_asked
  asks_field = promised_same (missing_breaks d) (asked_of rule_field_missing t d.members) at t d
    where
      at : (m p : ℕ) (f : Member) → missing_breaks d m p f ≡ asked_of rule_field_missing t d.members m p f
      at m p f = go (own d f) refl
        where
          go : (o : Option Member) → own d f ≡ o → missing_breaks d m p f ≡ own_asked rule_field_missing t m p f o
          go none e = rw (any_find (member_named f.name) d.members none e)
          go (some x) e = rw (any_find (member_named f.name) d.members (some x) e)

  pub asks_type : field_type t i d ≡ promised (asked_of rule_field_type t d.members) t d
  unfolding field_type own_asked rule_asked
  asks_type = promised_same (type_breaks t d) (asked_of rule_field_type t d.members) at t d
    where
      at : (m p : ℕ) (f : Member) → type_breaks t d m p f ≡ asked_of rule_field_type t d.members m p f
      at m p f = go (own d f)
        where
          go : (o : Option Member) → if_any o (λ e. only_if (no_sub_type t f e) (part_at m p)) ≡ own_asked rule_field_type t m p f o
          go none = refl
          go (some e) = refl

  pub asks_argument : interface_argument_missing t i d ≡ promised (asked_of rule_argument_missing t d.members) t d
  unfolding interface_argument_missing own_asked rule_asked
  asks_argument = promised_same (argument_breaks d) (asked_of rule_argument_missing t d.members) at t d
    where
      one : (e : Member) (m p a : ℕ) (x : Argument) → only_if (lacks_argument e x) (part_argument_at m p a) ≡ only_if (failing rule_argument_missing x (find (argument_named x.name) e.arguments)) (part_argument_at m p a)
      one e m p a x = go (find (argument_named x.name) e.arguments) refl
        where
          go : (o : Option Argument) → find (argument_named x.name) e.arguments ≡ o → only_if (lacks_argument e x) (part_argument_at m p a) ≡ only_if (failing rule_argument_missing x o) (part_argument_at m p a)
          go none q = rw (any_find (argument_named x.name) e.arguments none q)
          go (some y) q = rw (any_find (argument_named x.name) e.arguments (some y) q)

      at : (m p : ℕ) (f : Member) → argument_breaks d m p f ≡ asked_of rule_argument_missing t d.members m p f
      at m p f = go (own d f)
        where
          go : (o : Option Member) → if_any o (λ e. each (λ a x. only_if (lacks_argument e x) (part_argument_at m p a)) f.arguments) ≡ own_asked rule_argument_missing t m p f o
          go none = refl
          go (some e) = each_same _ _ (one e m p) 0 f.arguments

  pub asks_argument_type : argument_type t i d ≡ promised (asked_of rule_argument_type t d.members) t d
  unfolding argument_type own_asked rule_asked
  asks_argument_type = promised_same (argument_type_breaks d) (asked_of rule_argument_type t d.members) at t d
    where
      one : (e : Member) (m p a : ℕ) (x : Argument)
          → if_any (own_argument e x) (λ y. only_if (types_differ x y) (part_argument_at m p a)) ≡ only_if (failing rule_argument_type x (find (argument_named x.name) e.arguments)) (part_argument_at m p a)
      one e m p a x = go (find (argument_named x.name) e.arguments)
        where
          go : (o : Option Argument) → if_any o (λ y. only_if (types_differ x y) (part_argument_at m p a)) ≡ only_if (failing rule_argument_type x o) (part_argument_at m p a)
          go none = refl
          go (some y) = refl

      at : (m p : ℕ) (f : Member) → argument_type_breaks d m p f ≡ asked_of rule_argument_type t d.members m p f
      at m p f = go (own d f)
        where
          go : (o : Option Member) → if_any o (λ e. each (λ a x. if_any (own_argument e x) (λ y. only_if (types_differ x y) (part_argument_at m p a))) f.arguments) ≡ own_asked rule_argument_type t m p f o
          go none = refl
          go (some e) = each_same _ _ (one e m p) 0 f.arguments

  pub asks_extra : argument_extra t i d ≡ promised (asked_of rule_argument_extra t d.members) t d
  unfolding argument_extra own_asked rule_asked
  asks_extra = promised_same (extra_breaks d) (asked_of rule_argument_extra t d.members) at t d
    where
      one : (f : Member) (m p a : ℕ) (y : Argument) → only_if (is_extra f y) (part_argument_at m p a) ≡ only_if (failing rule_argument_extra y (find (argument_named y.name) f.arguments)) (part_argument_at m p a)
      one f m p a y = go (find (argument_named y.name) f.arguments) refl
        where
          flat : (b : Bool) → b && true ≡ b
          flat true = refl
          flat false = refl

          off : (b : Bool) → b && false ≡ false
          off true = refl
          off false = refl

          go : (o : Option Argument) → find (argument_named y.name) f.arguments ≡ o → only_if (is_extra f y) (part_argument_at m p a) ≡ only_if (failing rule_argument_extra y o) (part_argument_at m p a)
          go none q = rw (any_find (argument_named y.name) f.arguments none q) (ap (λ (b : Bool). only_if b (part_argument_at m p a)) (flat (is_non_null y.type)))
          go (some x) q = rw (any_find (argument_named y.name) f.arguments (some x) q) (ap (λ (b : Bool). only_if b (part_argument_at m p a)) (off (is_non_null y.type)))

      at : (m p : ℕ) (f : Member) → extra_breaks d m p f ≡ asked_of rule_argument_extra t d.members m p f
      at m p f = go (own d f)
        where
          go : (o : Option Member) → if_any o (λ e. each (λ a y. only_if (is_extra f y) (part_argument_at m p a)) e.arguments) ≡ own_asked rule_argument_extra t m p f o
          go none = refl
          go (some e) = each_same _ _ (one f m p) 0 e.arguments
