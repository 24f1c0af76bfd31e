-- The places of a rule 11 to 15 at one field, by the rule's number.
use mathlib.Core.Path.{◌≡◌, sym, ap, ◌∙◌}
use mathlib.Core.Bool.{true, false}
use mathlib.Core.List.{List, head?}
use Prim.Native.Nat.{ℕ}
use borrow.Author.Tests.{eq-eqb, ne_eqb}
use Rattle.paper_table.specs.TableNumbers.{no_place, rule_field_missing, rule_field_type, rule_argument_extra}
use Rattle.paper_table.specs.Lists.{all_of}
use Rattle.paper_table.specs.Types.{Argument, Member, Table}
use Rattle.paper_table.specs.Places.{Place}
use Rattle.paper_table.specs.Rule12FieldType.{no_sub_type}
use Rattle.table_places.specs.Placed.{placed}
use Prim.{Unit, tt}
use Rattle.std.specs.Prelude.{Result, Ok, Err}
use Rattle.table_places.specs.declared.Place.{Place as CodePlace}
use Rattle.table_members.specs.Members.{member_from, arguments_in, ArgumentsFrom}
use Rattle.table_types.specs.Sizes.{slim_argument, slim_member}
use Rattle.table_types.proofs.SlimLaws.{slim_arguments}
use Rattle.table_rules_13_15.specs.Asked.{arguments_asked}
use Rattle.table_rules_11_15_field.specs.Asked.{rule_asked}

-- the arguments of a slim member
pub from_slim : {t : List ℕ} {tag start end r : ℕ} → ArgumentsFrom t tag start end r → slim_member (member_from t tag start end) ≡ true → all_of slim_argument (arguments_in t r end) ≡ true
from_slim {t = t} {tag = tag} {start = start} {end = end} f h = ap (all_of slim_argument) f.are ∙ slim_arguments (member_from t tag start end) h

-- by other names of the same arguments
pub asked_by : (rule m p : ℕ) (xs ys : List Argument) {xs' ys' : List Argument} {qs : List Place} {r : Result (Unit {0}) CodePlace}
    → r ≡ placed (head? (arguments_asked rule m p xs ys)) → xs ≡ xs' → ys ≡ ys' → qs ≡ arguments_asked rule m p xs' ys' → r ≡ placed (head? qs)
asked_by rule m p xs ys {qs = qs} e f g h =
    let z : arguments_asked rule m p xs ys ≡ qs = rw (f, g) (sym h) in
    e ∙ ap (λ (os : List Place). placed (head? os)) z

-- the definition's own field, by the rule's number
module _ (rule : ℕ) (t : Table) (m p : ℕ) (f e : Member) where
  pub own_missing : rule ≡ rule_field_missing → Ok tt ≡ placed (head? (rule_asked rule t m p f e))
  unfolding rule_asked
  own_missing h = rw (eq-eqb rule rule_field_missing h)

  module _ (h : rule ≡ rule_field_missing → ⊥) (k : rule ≡ rule_field_type → ⊥) where
    pub own_extra : rule ≡ rule_argument_extra → rule_asked rule t m p f e ≡ arguments_asked rule m p e.arguments f.arguments
    unfolding rule_asked
    own_extra l = rw (ne_eqb rule rule_field_missing h, ne_eqb rule rule_field_type k, eq-eqb rule rule_argument_extra l)

    pub own_other : (rule ≡ rule_argument_extra → ⊥) → rule_asked rule t m p f e ≡ arguments_asked rule m p f.arguments e.arguments
    unfolding rule_asked
    own_other l = rw (ne_eqb rule rule_field_missing h, ne_eqb rule rule_field_type k, ne_eqb rule rule_argument_extra l)

-- rule 12, by the test of sub-types
pub type_kept : (t : Table) (m p : ℕ) (f e : Member) → no_sub_type t f e ≡ false → Ok tt ≡ placed (head? (rule_asked rule_field_type t m p f e))
unfolding rule_asked
type_kept t m p f e h = rw h

pub type_broken : (t : Table) (m p : ℕ) (f e : Member) → no_sub_type t f e ≡ true → Err (record { member = m; part = p; argument = no_place }) ≡ placed (head? (rule_asked rule_field_type t m p f e))
unfolding rule_asked
type_broken t m p f e h = rw h
