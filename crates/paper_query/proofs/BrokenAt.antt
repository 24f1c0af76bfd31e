-- At a row of each kind few rules can be broken; and what is so where one is.
use mathlib.Core.Path.{◌≡◌, refl, sym, ap, ◌∙◌, subst}
use mathlib.Core.Logic.{◌⊎◌, inl, inr}
use mathlib.Core.Bool.{Bool, true, false, ◌&&◌, ◌||◌, cond, true≢false}
use mathlib.Core.List.{List, [], ◌∷◌}
use Prim.Native.Nat.{ℕ, ◌≤◌}
use lib.ListN.{get_or-eq_default}
use lib.Dec.{T, eqb, ltb, eqb→eq}
use Rattle.paper.specs.Numbers.{kind_operation, kind_fragment, kind_field, kind_spread, kind_argument, kind_directive, kind_variable_definition, kind_type_reference, kind_variable}
use Rattle.paper.specs.Rows.{Row}
use Rattle.paper_table.specs.Types.{Table}
use Rattle.paper_query.specs.QueryNumbers.{rule_operation_repeated, rule_operation_unnamed, rule_fragment_repeated, rule_condition, rule_field, rule_leaf, rule_spread, rule_circle, rule_directive, rule_undefined, rule_variable_type, rule_name_twice, rule_no_root, rule_argument}
use Rattle.paper_query.specs.Constructs.{Doc, count, no_row, kind_of}
use Rattle.paper_query.specs.Rule1OperationRepeated.{operation_repeated}
use Rattle.paper_query.specs.Rule2OperationUnnamed.{operation_unnamed}
use Rattle.paper_query.specs.Rule3FragmentRepeated.{fragment_repeated}
use Rattle.paper_query.specs.Rule4Condition.{condition_wrong}
use Rattle.paper_query.specs.Rule5Field.{field_not_of_type}
use Rattle.paper_query.specs.Rule6Leaf.{leaf_wrong}
use Rattle.paper_query.specs.Rule7Spread.{spread_of_none}
use Rattle.paper_query.specs.Rule8Circle.{ReachesItself}
use Rattle.paper_query.specs.Rule9Directive.{directive_wrong}
use Rattle.paper_query.specs.Rule10Undefined.{Undefined}
use Rattle.paper_query.specs.Rule11VariableType.{no_input_type, Differs}
use Rattle.paper_query.specs.Rule12NameTwice.{name_twice}
use Rattle.paper_query.specs.Rule13NoRoot.{no_root}
use Rattle.paper_query.specs.Rule14Argument.{argument_unknown}
use Rattle.paper_query.specs.QueryRules.{Broken, by_operation_repeated, by_operation_unnamed, by_fragment_repeated, condition, by_field_not_of_type, leaf, by_spread_of_none, circle, directive, undefined, by_no_input_type, other_type, by_name_twice, by_no_root, unknown_argument}

-- the rules that can be broken at a row of kind x, in order
unfoldable pub rules_at : ℕ → List ℕ
rules_at x =
    cond (eqb x kind_operation) (rule_operation_repeated ∷ rule_operation_unnamed ∷ rule_no_root ∷ [])
    (cond (eqb x kind_fragment) (rule_fragment_repeated ∷ rule_circle ∷ [])
    (cond (eqb x kind_field) (rule_field ∷ rule_leaf ∷ [])
    (cond (eqb x kind_spread) (rule_spread ∷ [])
    (cond (eqb x kind_argument) (rule_name_twice ∷ rule_argument ∷ [])
    (cond (eqb x kind_directive) (rule_directive ∷ [])
    (cond (eqb x kind_variable_definition) (rule_variable_type ∷ rule_name_twice ∷ [])
    (cond (eqb x kind_type_reference) (rule_condition ∷ [])
    (cond (eqb x kind_variable) (rule_undefined ∷ rule_variable_type ∷ []) []))))))))

abbrev pub among : ℕ → List ℕ → Bool
among k [] = false
among k (l ∷ ls) = eqb k l || among k ls

-- each is above m, and the next above it
abbrev pub rising : ℕ → List ℕ → Bool
rising m [] = true
rising m (k ∷ ks) = ltb m k && rising k ks

-- a row of kind x may break the rules of x alone
holds : (b : Bool) → (b ≡ false → ⊥) → T b
holds true f = tt
holds false f = f refl

at_kind : (y x k : ℕ) → (eqb y x ≡ false → ⊥) → T (among k (rules_at x)) → T (among k (rules_at y))
at_kind y x k h m = subst (λ (z : ℕ). T (among k (rules_at z))) (sym (eqb→eq y x (holds (eqb y x) h))) m

at_either : (y x z k : ℕ) (b : Bool) → eqb y x ≡ b → (b ≡ false → eqb y z ≡ false → ⊥) → T (among k (rules_at x)) → T (among k (rules_at z)) → T (among k (rules_at y))
at_either y x z k true e h m n = at_kind y x k (λ f. true≢false (sym e ∙ f)) m
at_either y x z k false e h m n = at_kind y z k (h refl) n

pub broken_among : {t : Table} {d : Doc} {i k : ℕ} → Broken t d i k → T (among k (rules_at (kind_of d i)))
unfolding rules_at operation_repeated operation_unnamed fragment_repeated condition_wrong field_not_of_type leaf_wrong spread_of_none directive_wrong no_input_type name_twice no_root argument_unknown
broken_among {d} {i} (by_operation_repeated h) = at_kind (kind_of d i) kind_operation rule_operation_repeated (λ e. rw e at h) tt
broken_among {d} {i} (by_operation_unnamed h) = at_kind (kind_of d i) kind_operation rule_operation_unnamed (λ e. rw e at h) tt
broken_among {d} {i} (by_fragment_repeated h) = at_kind (kind_of d i) kind_fragment rule_fragment_repeated (λ e. rw e at h) tt
broken_among {d} {i} (condition h) = at_kind (kind_of d i) kind_type_reference rule_condition (λ e. rw e at h) tt
broken_among {d} {i} (by_field_not_of_type h) = at_kind (kind_of d i) kind_field rule_field (λ e. rw e at h) tt
broken_among {d} {i} (leaf h) = at_kind (kind_of d i) kind_field rule_leaf (λ e. rw e at h) tt
broken_among {d} {i} (by_spread_of_none h) = at_kind (kind_of d i) kind_spread rule_spread (λ e. rw e at h) tt
broken_among {d} {i} (circle h) = at_kind (kind_of d i) kind_fragment rule_circle (λ e. rw e at h.fragment) tt
broken_among {d} {i} (directive h) = at_kind (kind_of d i) kind_directive rule_directive (λ e. rw e at h) tt
broken_among {d} {i} (undefined h) = at_kind (kind_of d i) kind_variable rule_undefined (λ e. rw e at h.variable) tt
broken_among {d} {i} (by_no_input_type h) = at_kind (kind_of d i) kind_variable_definition rule_variable_type (λ e. rw e at h) tt
broken_among {d} {i} (other_type h) = at_kind (kind_of d i) kind_variable rule_variable_type (λ e. rw e at h.variable) tt
broken_among {d} {i} (by_name_twice h) = at_either (kind_of d i) kind_argument kind_variable_definition rule_name_twice _ refl (λ e f. rw (e, f) at h) tt tt
broken_among {d} {i} (by_no_root h) = at_kind (kind_of d i) kind_operation rule_no_root (λ e. rw e at h) tt
broken_among {d} {i} (unknown_argument h) = at_kind (kind_of d i) kind_argument rule_argument (λ e. rw e at h) tt

-- at a row of no kind, none; at a number that is no row, none
pub none_broken : {t : Table} {d : Doc} {i k : ℕ} → rules_at (kind_of d i) ≡ [] → Broken t d i k → ⊥
none_broken {k} e b = subst (λ (ks : List ℕ). T (among k ks)) e (broken_among b)

pub past_broken : {t : Table} {d : Doc} {i k : ℕ} → count d ≤ i → Broken t d i k → ⊥
unfolding rules_at
past_broken {d} {i} h b = none_broken (ap rules_at (ap (λ (r : Row). r.kind) (get_or-eq_default d.rows no_row h))) b

-- What is so where a rule is broken: its own words; of rule 11 one half at a definition, the other at a variable.
module _ {t : Table} {d : Doc} {i : ℕ} where
  pub operation_repeated_so : Broken t d i rule_operation_repeated → T (operation_repeated d i)
  operation_repeated_so (by_operation_repeated h) = h

  pub operation_unnamed_so : Broken t d i rule_operation_unnamed → T (operation_unnamed d i)
  operation_unnamed_so (by_operation_unnamed h) = h

  pub fragment_repeated_so : Broken t d i rule_fragment_repeated → T (fragment_repeated d i)
  fragment_repeated_so (by_fragment_repeated h) = h

  pub condition_so : Broken t d i rule_condition → T (condition_wrong t d i)
  condition_so (condition h) = h

  pub field_so : Broken t d i rule_field → T (field_not_of_type t d i)
  field_so (by_field_not_of_type h) = h

  pub leaf_so : Broken t d i rule_leaf → T (leaf_wrong t d i)
  leaf_so (leaf h) = h

  pub spread_so : Broken t d i rule_spread → T (spread_of_none d i)
  spread_so (by_spread_of_none h) = h

  pub circle_so : Broken t d i rule_circle → ReachesItself d i
  circle_so (circle h) = h

  pub directive_so : Broken t d i rule_directive → T (directive_wrong d i)
  directive_so (directive h) = h

  pub undefined_so : Broken t d i rule_undefined → Undefined d i
  undefined_so (undefined h) = h

  pub name_twice_so : Broken t d i rule_name_twice → T (name_twice d i)
  name_twice_so (by_name_twice h) = h

  pub no_root_so : Broken t d i rule_no_root → T (no_root t d i)
  no_root_so (by_no_root h) = h

  pub argument_so : Broken t d i rule_argument → T (argument_unknown t d i)
  argument_so (unknown_argument h) = h

  pub variable_type_so : Broken t d i rule_variable_type → T (no_input_type t d i) ⊎ Differs t d i
  variable_type_so (by_no_input_type h) = inl h
  variable_type_so (other_type h) = inr h
