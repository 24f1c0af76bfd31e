-- From what the tests answer at a row of each kind to the least rule that it breaks.
use mathlib.Core.Path.{◌≡◌, refl, sym, ◌∙◌, subst}
use mathlib.Core.Logic.{◌⊎◌, inl, inr}
use mathlib.Core.Bool.{Bool, true, false, cond}
use mathlib.Core.List.{[], ◌∷◌}
use Prim.Native.Nat.{ℕ}
use native.Mathlib.Omega.{arith}
use lib.Dec.{T, eqb→eq}
use borrow.Author.Tests.{ne_eqb}
use Rattle.paper.specs.Numbers.{kind_operation, kind_fragment, kind_field, kind_spread, kind_argument, kind_directive, kind_variable_definition, kind_type_reference, kind_variable}
use Rattle.paper_table.specs.Types.{Table}
use Rattle.paper_query.specs.QueryNumbers.{rule_operation_repeated, rule_operation_unnamed, rule_fragment_repeated, rule_condition, rule_field, rule_leaf, rule_spread, rule_circle, rule_directive, rule_undefined, rule_variable_type, rule_name_twice, rule_no_root, rule_argument}
use Rattle.paper_query.specs.Constructs.{Doc, kind_of}
use Rattle.paper_query.specs.Rule1OperationRepeated.{operation_repeated}
use Rattle.paper_query.specs.Rule2OperationUnnamed.{operation_unnamed}
use Rattle.paper_query.specs.Rule3FragmentRepeated.{fragment_repeated}
use Rattle.paper_query.specs.Rule4Condition.{condition_wrong}
use Rattle.paper_query.specs.Rule5Field.{field_not_of_type}
use Rattle.paper_query.specs.Rule6Leaf.{leaf_wrong}
use Rattle.paper_query.specs.Rule7Spread.{spread_of_none}
use Rattle.paper_query.specs.Rule9Directive.{directive_wrong}
use Rattle.paper_query.specs.Rule11VariableType.{no_input_type, Differs}
use Rattle.paper_query.specs.Rule12NameTwice.{name_twice}
use Rattle.paper_query.specs.Rule13NoRoot.{no_root}
use Rattle.paper_query.specs.Rule14Argument.{argument_unknown}
use Rattle.paper_query.specs.QueryRules.{Broken, by_operation_repeated, by_operation_unnamed, by_fragment_repeated, condition, by_field_not_of_type, leaf, by_spread_of_none, circle, directive, undefined, by_no_input_type, other_type, by_name_twice, by_no_root, unknown_argument}
use Rattle.paper_query.proofs.BrokenAt.{rules_at, none_broken, operation_repeated_so, operation_unnamed_so, fragment_repeated_so, condition_so, field_so, leaf_so, spread_so, circle_so, directive_so, undefined_so, variable_type_so, name_twice_so, no_root_so, argument_so}
use Rattle.query_alike.specs.Flags.{Flag}
use Rattle.query_row_verdict.specs.Least.{LeastAt, none_at}
use Rattle.query_row_verdict.proofs.LeastLaws.{Told, no_more, found, passed, told_least}

-- the answer b to a test
so : {f b : Bool} → b ≡ f → b ≡ true → T f
so p q = subst T (sym q ∙ p) tt

not_so : {f b : Bool} → b ≡ f → b ≡ false → T f → ⊥
not_so p q h = subst T (sym p ∙ q) h

module _ {t : Table} {d : Doc} {i : ℕ} where
  -- the last rule that is tried
  last : (k : ℕ) {r : ℕ} (b : Bool) → (b ≡ true → Broken t d i k) → (b ≡ false → Broken t d i k → ⊥) → r ≡ cond b k 0 → Told t d i (k ∷ []) r
  last k true p n e = subst (Told t d i (k ∷ [])) (sym e) (found (p refl))
  last k false p n e = subst (Told t d i (k ∷ [])) (sym e) (passed (n refl) no_more)

  -- Rules 1, 2 and 13 at an operation.
  module _ (e : kind_of d i ≡ kind_operation) {a : Bool} (p : a ≡ operation_repeated d i) where
    pub operation_first : a ≡ true → LeastAt t d i rule_operation_repeated
    unfolding rules_at
    operation_first q = told_least kind_operation e tt (found (by_operation_repeated (so p q)))

    pub operation_second : a ≡ false → {b : Bool} → b ≡ operation_unnamed d i → b ≡ true → LeastAt t d i rule_operation_unnamed
    unfolding rules_at
    operation_second q p₂ q₂ = told_least kind_operation e tt (passed (λ h. not_so p q (operation_repeated_so h)) (found (by_operation_unnamed (so p₂ q₂))))

    pub operation_last : a ≡ false → {b : Bool} → b ≡ operation_unnamed d i → b ≡ false → (c : Bool) {r : ℕ} → c ≡ no_root t d i → r ≡ cond c rule_no_root 0 → LeastAt t d i r
    unfolding rules_at
    operation_last q p₂ q₂ c p₃ w =
        told_least kind_operation e tt
        (passed (λ h. not_so p q (operation_repeated_so h))
        (passed (λ h. not_so p₂ q₂ (operation_unnamed_so h))
        (last rule_no_root c (λ q₃. by_no_root (so p₃ q₃)) (λ q₃ h. not_so p₃ q₃ (no_root_so h)) w)))

  -- Rules 3 and 8 at a fragment definition.
  flag_fragment : (f : ℕ) → kind_of d i ≡ kind_fragment → Flag t d i f → Told t d i (rule_circle ∷ []) f
  flag_fragment f e g = go g.known
    where
      go : (f ≡ 0) ⊎ ((f ≡ rule_circle) ⊎ ((f ≡ rule_undefined) ⊎ (f ≡ rule_variable_type))) → Told t d i (rule_circle ∷ []) f
      go (inl q) = subst (Told t d i (rule_circle ∷ [])) (sym q) (passed (λ h. g.no_circle q (circle_so h)) no_more)
      go (inr (inl q)) = subst (Told t d i (rule_circle ∷ [])) (sym q) (found (circle (g.circles q)))
      go (inr (inr (inl q))) = absurd (omega (arith, eqb→eq (kind_of d i) kind_variable (g.undefined q).variable))
      go (inr (inr (inr q))) = absurd (omega (arith, eqb→eq (kind_of d i) kind_variable (g.differs q).variable))

  module _ (e : kind_of d i ≡ kind_fragment) {a : Bool} (p : a ≡ fragment_repeated d i) where
    pub fragment_first : a ≡ true → LeastAt t d i rule_fragment_repeated
    unfolding rules_at
    fragment_first q = told_least kind_fragment e tt (found (by_fragment_repeated (so p q)))

    pub fragment_last : a ≡ false → {f : ℕ} → Flag t d i f → LeastAt t d i f
    unfolding rules_at
    fragment_last q {f} g = told_least kind_fragment e tt (passed (λ h. not_so p q (fragment_repeated_so h)) (flag_fragment f e g))

  -- Rules 5 and 6 at a field.
  module _ (e : kind_of d i ≡ kind_field) {a : Bool} (p : a ≡ field_not_of_type t d i) where
    pub field_first : a ≡ true → LeastAt t d i rule_field
    unfolding rules_at
    field_first q = told_least kind_field e tt (found (by_field_not_of_type (so p q)))

    pub field_last : a ≡ false → (b : Bool) {r : ℕ} → b ≡ leaf_wrong t d i → r ≡ cond b rule_leaf 0 → LeastAt t d i r
    unfolding rules_at
    field_last q b p₂ w =
        told_least kind_field e tt (passed (λ h. not_so p q (field_so h)) (last rule_leaf b (λ q₂. leaf (so p₂ q₂)) (λ q₂ h. not_so p₂ q₂ (leaf_so h)) w))

  -- Rules 12 and 14 at an argument.
  module _ (e : kind_of d i ≡ kind_argument) {a : Bool} (p : a ≡ name_twice d i) where
    pub argument_first : a ≡ true → LeastAt t d i rule_name_twice
    unfolding rules_at
    argument_first q = told_least kind_argument e tt (found (by_name_twice (so p q)))

    pub argument_last : a ≡ false → (b : Bool) {r : ℕ} → b ≡ argument_unknown t d i → r ≡ cond b rule_argument 0 → LeastAt t d i r
    unfolding rules_at
    argument_last q b p₂ w =
        told_least kind_argument e tt
        (passed (λ h. not_so p q (name_twice_so h)) (last rule_argument b (λ q₂. unknown_argument (so p₂ q₂)) (λ q₂ h. not_so p₂ q₂ (argument_so h)) w))

  -- Rules 11 and 12 at a variable definition.
  definition_not : kind_of d i ≡ kind_variable_definition → {a : Bool} → a ≡ no_input_type t d i → a ≡ false → Broken t d i rule_variable_type → ⊥
  definition_not e p q h = go (variable_type_so h)
    where
      go : T (no_input_type t d i) ⊎ Differs t d i → ⊥
      go (inl g) = not_so p q g
      go (inr v) = absurd (omega (arith, eqb→eq (kind_of d i) kind_variable v.variable))

  module _ (e : kind_of d i ≡ kind_variable_definition) {a : Bool} (p : a ≡ no_input_type t d i) where
    pub definition_first : a ≡ true → LeastAt t d i rule_variable_type
    unfolding rules_at
    definition_first q = told_least kind_variable_definition e tt (found (by_no_input_type (so p q)))

    pub definition_last : a ≡ false → (b : Bool) {r : ℕ} → b ≡ name_twice d i → r ≡ cond b rule_name_twice 0 → LeastAt t d i r
    unfolding rules_at
    definition_last q b p₂ w =
        told_least kind_variable_definition e tt
        (passed (definition_not e p q) (last rule_name_twice b (λ q₂. by_name_twice (so p₂ q₂)) (λ q₂ h. not_so p₂ q₂ (name_twice_so h)) w))

  -- Kinds that can break one rule.
  pub spread_only : kind_of d i ≡ kind_spread → (b : Bool) {r : ℕ} → b ≡ spread_of_none d i → r ≡ cond b rule_spread 0 → LeastAt t d i r
  unfolding rules_at
  spread_only e b p w = told_least kind_spread e tt (last rule_spread b (λ q. by_spread_of_none (so p q)) (λ q h. not_so p q (spread_so h)) w)

  pub directive_only : kind_of d i ≡ kind_directive → (b : Bool) {r : ℕ} → b ≡ directive_wrong d i → r ≡ cond b rule_directive 0 → LeastAt t d i r
  unfolding rules_at
  directive_only e b p w = told_least kind_directive e tt (last rule_directive b (λ q. directive (so p q)) (λ q h. not_so p q (directive_so h)) w)

  pub condition_only : kind_of d i ≡ kind_type_reference → (b : Bool) {r : ℕ} → b ≡ condition_wrong t d i → r ≡ cond b rule_condition 0 → LeastAt t d i r
  unfolding rules_at
  condition_only e b p w = told_least kind_type_reference e tt (last rule_condition b (λ q. condition (so p q)) (λ q h. not_so p q (condition_so h)) w)

  -- Rule 10 and the second half of rule 11 at a variable.
  differs_not : kind_of d i ≡ kind_variable → (Differs t d i → ⊥) → Broken t d i rule_variable_type → ⊥
  unfolding no_input_type
  differs_not e n h = go (variable_type_so h)
    where
      go : T (no_input_type t d i) ⊎ Differs t d i → ⊥
      go (inl g) = rw e at g
      go (inr v) = n v

  flag_variable : (f : ℕ) → kind_of d i ≡ kind_variable → Flag t d i f → Told t d i (rule_undefined ∷ rule_variable_type ∷ []) f
  flag_variable f e g = go g.known
    where
      go : (f ≡ 0) ⊎ ((f ≡ rule_circle) ⊎ ((f ≡ rule_undefined) ⊎ (f ≡ rule_variable_type))) → Told t d i (rule_undefined ∷ rule_variable_type ∷ []) f
      go (inl q) = subst (Told t d i (rule_undefined ∷ rule_variable_type ∷ [])) (sym q) (passed (λ h. g.no_undefined q (undefined_so h)) (passed (differs_not e (g.no_differs q)) no_more))
      go (inr (inl q)) = absurd (omega (arith, eqb→eq (kind_of d i) kind_fragment (g.circles q).fragment))
      go (inr (inr (inl q))) = subst (Told t d i (rule_undefined ∷ rule_variable_type ∷ [])) (sym q) (found (undefined (g.undefined q)))
      go (inr (inr (inr q))) = subst (Told t d i (rule_undefined ∷ rule_variable_type ∷ [])) (sym q) (passed (λ h. g.defined q (undefined_so h)) (found (other_type (g.differs q))))

  pub variable_only : kind_of d i ≡ kind_variable → {f : ℕ} → Flag t d i f → LeastAt t d i f
  unfolding rules_at
  variable_only e {f} g = told_least kind_variable e tt (flag_variable f e g)

-- Other kinds can break none.
no_rules : (x : ℕ) → (x ≡ kind_operation → ⊥) → (x ≡ kind_fragment → ⊥) → (x ≡ kind_field → ⊥) → (x ≡ kind_spread → ⊥) → (x ≡ kind_argument → ⊥) → (x ≡ kind_directive → ⊥) →
    (x ≡ kind_variable_definition → ⊥) → (x ≡ kind_type_reference → ⊥) → (x ≡ kind_variable → ⊥) → rules_at x ≡ []
unfolding rules_at
no_rules x a b c d e f g h i =
    rw (ne_eqb x kind_operation a, ne_eqb x kind_fragment b, ne_eqb x kind_field c, ne_eqb x kind_spread d, ne_eqb x kind_argument e, ne_eqb x kind_directive f, ne_eqb x kind_variable_definition g, ne_eqb x kind_type_reference h, ne_eqb x kind_variable i)

pub other_kind : {t : Table} {d : Doc} {i x : ℕ} → x ≡ kind_of d i → (x ≡ kind_operation → ⊥) → (x ≡ kind_fragment → ⊥) → (x ≡ kind_field → ⊥) → (x ≡ kind_spread → ⊥) → (x ≡ kind_argument → ⊥) →
    (x ≡ kind_directive → ⊥) → (x ≡ kind_variable_definition → ⊥) → (x ≡ kind_type_reference → ⊥) → (x ≡ kind_variable → ⊥) → LeastAt t d i 0
other_kind {x} e a b c d₁ f g h j k = none_at (λ l m. none_broken (subst (λ (y : ℕ). rules_at y ≡ []) e (no_rules x a b c d₁ f g h j k)) m)
