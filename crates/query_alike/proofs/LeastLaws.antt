-- The least that operations say of a variable, operation by operation; and what it says of the rules 10 and 11.
use mathlib.Core.Path.{◌≡◌, refl, sym, ap, subst, ◌∙◌}
use mathlib.Core.Logic.{◌⊎◌, inl, inr}
use mathlib.Core.Bool.{Bool, true, false, not, cond, true≢false}
use Prim.Native.Nat.{ℕ, ◌+◌, ◌≤◌, ◌<◌}
use native.Mathlib.Decide.{dec_lt}
use native.Mathlib.Omega.{arith}
use lib.Dec.{T, eqb}
use borrow.Author.Tests.{eqb-true, eqb-false}
use Rattle.paper.proofs.Bools.{T→eq as held}
use Rattle.paper.specs.Numbers.{kind_operation, kind_variable}
use Rattle.paper_table.specs.Types.{Table}
use Rattle.paper_query.specs.QueryNumbers.{rule_undefined, rule_variable_type}
use Rattle.paper_query.specs.Constructs.{Doc, count, is, row_of, kind_of, name_of}
use Rattle.paper_query.specs.PlaceTypes.{place}
use Rattle.paper_query.specs.Reaching.{Reaches}
use Rattle.paper_query.specs.Rule10Undefined.{defines, Undefined}
use Rattle.paper_query.specs.Rule11VariableType.{declared_by, differ, Differs}
use Rattle.query_spreads.proofs.OwnerLaws.{row_within}
use Rattle.query_alike_pair.specs.Alike.{no_rule, verdict_of, Reaching, Said, Unsaid, Least}

-- what is held is true
pub holds : {b : Bool} → b ≡ true → T b
holds e = rw e tt

module _ (t : Table) (d : Doc) (o i : ℕ) where
  -- a verdict by its two tests
  verdict_by : (a b : Bool) → defines d o (name_of d i) ≡ a → differ (declared_by d o (name_of d i)) (place t d i) ≡ b → verdict_of t d o i ≡ cond a (cond b rule_variable_type no_rule) rule_undefined
  unfolding verdict_of
  verdict_by a b p q = rw (p, q)

  pub verdict_known : (verdict_of t d o i ≡ no_rule) ⊎ ((verdict_of t d o i ≡ rule_undefined) ⊎ (verdict_of t d o i ≡ rule_variable_type))
  verdict_known = go (defines d o (name_of d i)) refl (differ (declared_by d o (name_of d i)) (place t d i)) refl
    where
      go : (a : Bool) → defines d o (name_of d i) ≡ a → (b : Bool) → differ (declared_by d o (name_of d i)) (place t d i) ≡ b
          → (verdict_of t d o i ≡ no_rule) ⊎ ((verdict_of t d o i ≡ rule_undefined) ⊎ (verdict_of t d o i ≡ rule_variable_type))
      go true p true q = inr (inr (verdict_by true true p q))
      go true p false q = inl (verdict_by true false p q)
      go false p b q = inr (inl (verdict_by false b p q))

  -- rule 10
  undefined_says : T (not (defines d o (name_of d i))) → verdict_of t d o i ≡ rule_undefined
  undefined_says h = go (defines d o (name_of d i)) refl
    where
      go : (a : Bool) → defines d o (name_of d i) ≡ a → verdict_of t d o i ≡ rule_undefined
      go true p = absurd (subst (λ b. T (not b)) p h)
      go false p = verdict_by false (differ (declared_by d o (name_of d i)) (place t d i)) p refl

  says_undefined : verdict_of t d o i ≡ rule_undefined → T (not (defines d o (name_of d i)))
  says_undefined e = go (defines d o (name_of d i)) refl (differ (declared_by d o (name_of d i)) (place t d i)) refl
    where
      go : (a : Bool) → defines d o (name_of d i) ≡ a → (b : Bool) → differ (declared_by d o (name_of d i)) (place t d i) ≡ b → T (not (defines d o (name_of d i)))
      go true p true q = absurd (omega (arith, e, verdict_by true true p q))
      go true p false q = absurd (omega (arith, e, verdict_by true false p q))
      go false p b q = rw p tt

  -- rule 11
  none_declared : defines d o (name_of d i) ≡ false → differ (declared_by d o (name_of d i)) (place t d i) ≡ false
  unfolding declared_by
  none_declared p = rw p

  differs_says : T (differ (declared_by d o (name_of d i)) (place t d i)) → verdict_of t d o i ≡ rule_variable_type
  differs_says h = go (defines d o (name_of d i)) refl
    where
      q : differ (declared_by d o (name_of d i)) (place t d i) ≡ true
      q = held (differ (declared_by d o (name_of d i)) (place t d i)) h

      go : (a : Bool) → defines d o (name_of d i) ≡ a → verdict_of t d o i ≡ rule_variable_type
      go true p = verdict_by true true p q
      go false p = absurd (true≢false (sym q ∙ none_declared p))

  says_differs : verdict_of t d o i ≡ rule_variable_type → T (differ (declared_by d o (name_of d i)) (place t d i))
  says_differs e = go (defines d o (name_of d i)) refl (differ (declared_by d o (name_of d i)) (place t d i)) refl
    where
      go : (a : Bool) → defines d o (name_of d i) ≡ a → (b : Bool) → differ (declared_by d o (name_of d i)) (place t d i) ≡ b → T (differ (declared_by d o (name_of d i)) (place t d i))
      go true p true q = holds q
      go true p false q = absurd (omega (arith, e, verdict_by true false p q))
      go false p b q = absurd (omega (arith, e, verdict_by false b p q))

-- an operation is a row
operation_within : (d : Doc) (o : ℕ) → T (is kind_operation (row_of d o)) → o < count d
operation_within d o h = row_within d (is kind_operation) o refl h

-- what is said breaks the rule; what is not said by any does not
module _ (t : Table) (d : Doc) (i : ℕ) where
  pub said_undefined : kind_of d i ≡ kind_variable → Said t d i rule_undefined → Undefined d i
  said_undefined k x =
      record { variable = rw k tt; operation = x.at; is_operation = x.reaching.operation; reaches = x.reaching.reaches; undefined = says_undefined t d x.at i x.says }

  pub said_differs : kind_of d i ≡ kind_variable → Said t d i rule_variable_type → Differs t d i
  said_differs k x =
      record { variable = rw k tt; operation = x.at; is_operation = x.reaching.operation; reaches = x.reaching.reaches; differs = says_differs t d x.at i x.says }

  module _ (m : ℕ) (h : count d ≤ m) where
    pub unsaid_undefined : Unsaid t d m i rule_undefined → Undefined d i → ⊥
    unsaid_undefined n x =
        let l = operation_within d x.operation x.is_operation in
        n x.operation (omega arith) (record { operation = x.is_operation; reaches = x.reaches }) (undefined_says t d x.operation i x.undefined)

    pub unsaid_differs : Unsaid t d m i rule_variable_type → Differs t d i → ⊥
    unsaid_differs n x =
        let l = operation_within d x.operation x.is_operation in
        n x.operation (omega arith) (record { operation = x.is_operation; reaches = x.reaches }) (differs_says t d x.operation i x.differs)

-- operation by operation
module _ (t : Table) (d : Doc) (i : ℕ) where
  pub least_none : Least t d 0 i no_rule
  least_none = record {
    undefined = λ e. absurd (omega arith);
    differs = λ e. absurd (omega arith);
    no_undefined = λ e o h. absurd (omega arith);
    no_differs = λ e o h. absurd (omega arith);
    known = inl refl;
  }

  -- over rows that are no operations
  unsaid_skip : (m n k : ℕ) → ((o : ℕ) → m ≤ o → o < n → is kind_operation (row_of d o) ≡ false) → Unsaid t d m i k → Unsaid t d n i k
  unsaid_skip m n k s u o h r e = go (dec_lt o m)
    where
      go : Dec (o < m) → ⊥
      go (yes l) = u o l r e
      go (no l) = true≢false (sym (held (is kind_operation (row_of d o)) r.operation) ∙ s o (omega arith) h)

  pub least_skip : (m n f : ℕ) → ((o : ℕ) → m ≤ o → o < n → is kind_operation (row_of d o) ≡ false) → Least t d m i f → Least t d n i f
  least_skip m n f s x = record {
    undefined = x.undefined;
    differs = x.differs;
    no_undefined = λ e. unsaid_skip m n rule_undefined s (x.no_undefined e);
    no_differs = λ e. unsaid_skip m n rule_variable_type s (x.no_differs e);
    known = x.known;
  }

  module _ (o f : ℕ) (x : Least t d o i f) where
    unsaid_more : (k : ℕ) → Unsaid t d o i k → (Reaching d o i → verdict_of t d o i ≡ k → ⊥) → Unsaid t d (o + 1) i k
    unsaid_more k u n p h r e = go (eqb p o) refl
      where
        go : (b : Bool) → eqb p o ≡ b → ⊥
        go true q = let z : p ≡ o = eqb-true p o q in n (subst (λ y. Reaching d y i) z r) (sym (ap (λ y. verdict_of t d y i) z) ∙ e)
        go false q = u p (let y : p ≡ o → ⊥ = eqb-false p o q in omega arith) r e

    -- nothing is less than rule 10
    pub least_kept : f ≡ rule_undefined → Least t d (o + 1) i f
    least_kept e = record {
      undefined = x.undefined;
      differs = x.differs;
      no_undefined = λ h. absurd (h e);
      no_differs = λ h. absurd (omega arith);
      known = x.known;
    }

    least_same : (Reaching d o i → verdict_of t d o i ≡ rule_undefined → ⊥) → (Reaching d o i → verdict_of t d o i ≡ rule_variable_type → ⊥) → Least t d (o + 1) i f
    least_same a b = record {
      undefined = x.undefined;
      differs = x.differs;
      no_undefined = λ h. unsaid_more rule_undefined (x.no_undefined h) a;
      no_differs = λ h. unsaid_more rule_variable_type (x.no_differs h) b;
      known = x.known;
    }

    -- the operation of row o does not reach the variable, or says nothing
    pub least_apart : (Reaches d o i → ⊥) → Least t d (o + 1) i f
    least_apart n = least_same (λ r e. n r.reaches) (λ r e. n r.reaches)

    pub least_silent : no_rule ≡ verdict_of t d o i → Least t d (o + 1) i f
    least_silent e = least_same (λ r h. omega arith) (λ r h. omega arith)

    -- it says something
    pub least_said : (v : ℕ) → (f ≡ rule_undefined → ⊥) → kind_of d o ≡ kind_operation → Reaches d o i → v ≡ verdict_of t d o i → (v ≡ no_rule → ⊥) → Least t d (o + 1) i v
    least_said v h k r e n = record {
      undefined = λ z. record { at = o; reaching = here; says = sym e ∙ z };
      differs = λ z. record { at = o; reaching = here; says = sym e ∙ z };
      no_undefined = λ z. unsaid_more rule_undefined (x.no_undefined h) (λ _ q. z (e ∙ q));
      no_differs = λ z. absurd (n z);
      known = subst (λ w. (w ≡ no_rule) ⊎ ((w ≡ rule_undefined) ⊎ (w ≡ rule_variable_type))) (sym e) (verdict_known t d o i);
    }
      where
        here : Reaching d o i
        here = record { operation = rw k tt; reaches = r }
