-- The reasons that a call tells of what is due, each exactly when: 3 at a variable's definition and at a field, 6 in the outer object of the variables, 5 and 6 among arguments.
-- Assumes nothing. A refusal that a value or a default tells is told inside it; `Apart` and `ApartDefaults` say that a place is none inside these.
use mathlib.Core.Path.{◌≡◌, refl, sym, ap, ◌∙◌, subst}
use mathlib.Core.Bool.{true, false}
use mathlib.Core.Option.{Option, none, some}
use mathlib.Core.List.{List, [], ◌∷◌}
use mathlib.Core.Logic.{◌↔◌}
use Prim.Native.Nat.{ℕ}
use native.Mathlib.Omega.{arith}
use Rattle.paper_table.specs.References.{is_non_null}
use Rattle.paper_values.specs.ValueNumbers.{reason_missing, reason_unknown, reason_repeated}
use Rattle.paper_values.specs.Values.{Name, At, Value, Entries, Due, Tree, Pairs, pair, Out, Got, No, and_then}
use Rattle.paper_values.specs.Kinds.{Kind}
use Rattle.paper_values.specs.Coercion.{heads, repeated_entry, unknown_entry, value_in}
use Rattle.paper_values.specs.Computed.{variables_of, arguments_of}
use Rattle.paper_values.specs.CoercionRules.{value_for, Coerces}
use Rattle.paper_values.specs.CallRules.{no_variables, InDues, no_dues, given_refused, given_got, default_refused, default_got, due_missing, due_left_out, CoercesVariables, name_repeated_is, in_order, CoercesArguments, variables_refused, argument_repeated, argument_unknown, arguments}
use Rattle.paper_values.proofs.PlacesLaws.{PlacedIf}
use Rattle.paper_values.proofs.CallsExact.{duly, variables_is, variables_have, arguments_is, arguments_have}
use Rattle.paper_values.proofs.ReasonsExact.{Apart, refused_inside, no_fields_refused}

-- no place inside the defaults of what is due is e
abbrev pub ApartDefaults : At → List (At × Due) → Type 0
ApartDefaults e [] = Unit
ApartDefaults e (v ∷ vs) = PlacedIf (λ j. j ≡ e → ⊥) v.1.default × ApartDefaults e vs

abbrev why_pairs : Out Pairs → ℕ
why_pairs (Got ps) = 0
why_pairs (No i w) = w

module _ (kinds : Name → Kind) where
  -- the first of those due that fails has the place i, is Non-Null and has neither an entry nor a default: those before it are coerced, or may be left out
  pub data LacksDue (vars : Name → Option Tree) (es : Entries) (i : At) : List (At × Due) → Type 0 where
    due_lacking : {d : Due} {ds : List (At × Due)} → value_for kinds vars d.name es ≡ none → d.default ≡ none → is_non_null d.type ≡ true → LacksDue vars es i ((i, d) ∷ ds)
    after_given : {j : At} {d : Due} {ds : List (At × Due)} {t : Tree} (v : Value) → value_for kinds vars d.name es ≡ some v → Coerces kinds vars v d.type (Got t) →
        LacksDue vars es i ds → LacksDue vars es i ((j, d) ∷ ds)
    after_default : {j : At} {d : Due} {ds : List (At × Due)} {t : Tree} (v : Value) → value_for kinds vars d.name es ≡ none → d.default ≡ some v → Coerces kinds no_variables v d.type (Got t) →
        LacksDue vars es i ds → LacksDue vars es i ((j, d) ∷ ds)
    after_nothing : {j : At} {d : Due} {ds : List (At × Due)} → value_for kinds vars d.name es ≡ none → d.default ≡ none → is_non_null d.type ≡ false →
        LacksDue vars es i ds → LacksDue vars es i ((j, d) ∷ ds)

  -- a refusal at a place apart from values and defaults is one for what is missing
  abbrev OuterDue : At → (Name → Option Tree) → Entries → List (At × Due) → Out Pairs → Type 0
  OuterDue e vars es vs (Got ps) = Unit
  OuterDue e vars es vs (No j w) = j ≡ e → (w ≡ reason_missing) × LacksDue vars es e vs

  outer_then : (e : At) (vars : Name → Option Tree) (es : Entries) (vs us : List (At × Due)) (n : Name) (t : Tree) (o : Out Pairs) → (LacksDue vars es e vs → LacksDue vars es e us) →
      OuterDue e vars es vs o → OuterDue e vars es us (and_then o (λ ps. Got (pair n t ps)))
  outer_then e vars es vs us n t (Got ps) f h = tt
  outer_then e vars es vs us n t (No j w) f h = λ z. ((h z).0, f (h z).1)

  outer_later : (e : At) (vars : Name → Option Tree) (es : Entries) (vs us : List (At × Due)) (o : Out Pairs) → (LacksDue vars es e vs → LacksDue vars es e us) → OuterDue e vars es vs o → OuterDue e vars es us o
  outer_later e vars es vs us (Got ps) f h = tt
  outer_later e vars es vs us (No j w) f h = λ z. ((h z).0, f (h z).1)

  outer_dues : (e : At) {vars : Name → Option Tree} {es : Entries} {vs : List (At × Due)} {o : Out Pairs} → Apart kinds vars e es → ApartDefaults e vs → InDues kinds vars es vs o → OuterDue e vars es vs o
  outer_dues e h a no_dues = tt
  outer_dues e {vars} h a (given_refused {d = d} v q c) = λ z. absurd (refused_inside kinds vars e (h d.name v q) c z)
  outer_dues e {vars} {es} h a (given_got {i} {d} {ds} {t} {o} v q c f g) =
      subst (λ (p : Out Pairs). OuterDue e vars es ((i, d) ∷ ds) p) g (outer_then e vars es ds ((i, d) ∷ ds) d.name t o (after_given v q c) (outer_dues e h a.1 f))
  outer_dues e h a (default_refused v q x c) = λ z. absurd (refused_inside kinds no_variables e (subst (λ (m : Option Value). PlacedIf (λ j. j ≡ e → ⊥) m) x a.0) c z)
  outer_dues e {vars} {es} h a (default_got {i} {d} {ds} {t} {o} v q x c f g) =
      subst (λ (p : Out Pairs). OuterDue e vars es ((i, d) ∷ ds) p) g (outer_then e vars es ds ((i, d) ∷ ds) d.name t o (after_default v q x c) (outer_dues e h a.1 f))
  outer_dues e {vars} {es} h a (due_missing {i} {d} {ds} q x l) = λ z. (refl, subst (λ (k : At). LacksDue vars es e ((k, d) ∷ ds)) (sym z) (due_lacking q x l))
  outer_dues e {vars} {es} h a (due_left_out {i} {d} {ds} {o} q x l f) = outer_later e vars es ds ((i, d) ∷ ds) o (after_nothing q x l) (outer_dues e h a.1 f)

  lacks_refused : {vars : Name → Option Tree} {es : Entries} {i : At} {vs : List (At × Due)} → LacksDue vars es i vs → InDues kinds vars es vs (No i reason_missing)
  lacks_refused (due_lacking q x l) = due_missing q x l
  lacks_refused (after_given v q c h) = given_got v q c (lacks_refused h) refl
  lacks_refused (after_default v q x c h) = default_got v q x c (lacks_refused h) refl
  lacks_refused (after_nothing q x l h) = due_left_out q x l (lacks_refused h)

  -- ---- variables

  lacking_from : {es : Entries} {vs : List (At × Due)} {o : Out Pairs} (i : At) → Apart kinds no_variables i es → ApartDefaults i vs → CoercesVariables kinds es vs o → o ≡ No i reason_missing →
      (repeated_entry [] (heads es) ≡ none) × LacksDue no_variables es i vs
  lacking_from i h a (name_repeated_is q) z = absurd (omega (arith, ap why_pairs z))
  lacking_from {es} {vs} i h a (in_order q c) z = (q, (subst (OuterDue i no_variables es vs) z (outer_dues i h a c) refl).1)

  pub missing_of_a_variable : (es : Entries) (vs : List (At × Due)) (i : At) → Apart kinds no_variables i es → ApartDefaults i vs →
      (variables_of kinds es vs ≡ No i reason_missing) ↔ ((repeated_entry [] (heads es) ≡ none) × LacksDue no_variables es i vs)
  missing_of_a_variable es vs i h a = (
    λ q. lacking_from i h a (variables_have kinds es vs) q,
    λ m. variables_is kinds (in_order m.0 (lacks_refused m.1)),
  )

  repeated_from : {es : Entries} {vs : List (At × Due)} {o : Out Pairs} (e : At) → Apart kinds no_variables e es → ApartDefaults e vs → CoercesVariables kinds es vs o → o ≡ No e reason_repeated →
      repeated_entry [] (heads es) ≡ some e
  repeated_from e h a (name_repeated_is {e = j} q) z = let y : j ≡ e = cc in q ∙ ap some y
  repeated_from {es} {vs} e h a (in_order q c) z = absurd (omega (arith, (subst (OuterDue e no_variables es vs) z (outer_dues e h a c) refl).0))

  pub repeated_of_the_variables : (es : Entries) (vs : List (At × Due)) (e : At) → Apart kinds no_variables e es → ApartDefaults e vs →
      (variables_of kinds es vs ≡ No e reason_repeated) ↔ (repeated_entry [] (heads es) ≡ some e)
  repeated_of_the_variables es vs e h a = (λ q. repeated_from e h a (variables_have kinds es vs) q, λ m. variables_is kinds {es = es} {vs = vs} (name_repeated_is m))

  -- ---- a field's arguments, where the variables are ps

  module _ (given : Entries) (vs : List (At × Due)) (ps : Pairs) (known : variables_of kinds given vs ≡ Got ps) where
    variables_known : CoercesVariables kinds given vs (Got ps)
    variables_known = subst (CoercesVariables kinds given vs) known (variables_have kinds given vs)

    known_one : {qs : Pairs} → CoercesVariables kinds given vs (Got qs) → qs ≡ ps
    known_one {qs} c = let y : Got qs ≡ Got ps = sym (variables_is kinds c) ∙ known in cc

    never_refused : {j : At} {w : ℕ} → CoercesVariables kinds given vs (No j w) → ⊥
    never_refused {j} {w} c = let y : ◌≡◌ {A = Out Pairs} (No j w) (Got ps) = sym (variables_is kinds c) ∙ known in let z : ◌≡◌ {A = ℕ} 0 1 = cc in omega (arith, z)

    -- at a place apart from the arguments' values and defaults: by one of three rules
    pub data FieldRefused (i : At) (es : Entries) (ds : List Due) (e : At) : ℕ → Type 0 where
      for_repeated : repeated_entry [] (heads es) ≡ some e → FieldRefused i es ds e reason_repeated
      for_unknown : repeated_entry [] (heads es) ≡ none → unknown_entry ds (heads es) ≡ some e → FieldRefused i es ds e reason_unknown
      for_missing : repeated_entry [] (heads es) ≡ none → unknown_entry ds (heads es) ≡ none → LacksDue (value_in ps) es e (duly kinds ds i) → FieldRefused i es ds e reason_missing

    abbrev FieldRefusedAs : At → Entries → List Due → At → Out Tree → Type 0
    FieldRefusedAs i es ds e (Got t) = ⊥
    FieldRefusedAs i es ds e (No j w) = FieldRefused i es ds j w

    missing_from : (i : At) (es : Entries) (ds : List Due) (e : At) (w : ℕ) (o : Out Pairs) → repeated_entry [] (heads es) ≡ none → unknown_entry ds (heads es) ≡ none → o ≡ No e w →
        OuterDue e (value_in ps) es (duly kinds ds i) o → FieldRefused i es ds e w
    missing_from i es ds e w o a b z h =
        let m = subst (OuterDue e (value_in ps) es (duly kinds ds i)) z h refl in subst (FieldRefused i es ds e) (sym m.0) (for_missing a b m.1)

    field_from : {i : At} {es : Entries} {ds : List Due} {o : Out Tree} (e : At) (w : ℕ) → Apart kinds (value_in ps) e es → ApartDefaults e (duly kinds ds i) →
        CoercesArguments kinds given vs i es ds o → o ≡ No e w → FieldRefused i es ds e w
    field_from e w h a (variables_refused c) z = absurd (never_refused c)
    field_from {i} {es} {ds} e w h a (argument_repeated qs c q) z = subst (FieldRefusedAs i es ds e) z (for_repeated q)
    field_from {i} {es} {ds} e w h a (argument_unknown qs c q x) z = subst (FieldRefusedAs i es ds e) z (for_unknown q x)
    field_from {i} {es} {ds} e w h a (arguments {o = o} qs c q x g f) z =
        missing_from i es ds e w o q x (no_fields_refused kinds no_variables o (f ∙ z))
        (outer_dues e h a (subst (λ (rs : Pairs). InDues kinds (value_in rs) es (duly kinds ds i) o) (known_one c) g))

    to_field : {i : At} {es : Entries} {ds : List Due} {e : At} {w : ℕ} → FieldRefused i es ds e w → CoercesArguments kinds given vs i es ds (No e w)
    to_field (for_repeated q) = argument_repeated ps variables_known q
    to_field (for_unknown q x) = argument_unknown ps variables_known q x
    to_field (for_missing q x m) = arguments ps variables_known q x (lacks_refused m) refl

    -- the arguments of the field at i: a 3 is told at i
    missing_in : {i e : At} {es : Entries} {ds : List Due} {w : ℕ} → FieldRefused i es ds e w → w ≡ reason_missing →
        (repeated_entry [] (heads es) ≡ none) × (unknown_entry ds (heads es) ≡ none) × LacksDue (value_in ps) es e (duly kinds ds i)
    missing_in (for_repeated q) z = absurd (omega (arith, z))
    missing_in (for_unknown q x) z = absurd (omega (arith, z))
    missing_in (for_missing q x m) z = (q, x, m)

    unknown_in : {i e : At} {es : Entries} {ds : List Due} {w : ℕ} → FieldRefused i es ds e w → w ≡ reason_unknown → (repeated_entry [] (heads es) ≡ none) × (unknown_entry ds (heads es) ≡ some e)
    unknown_in (for_repeated q) z = absurd (omega (arith, z))
    unknown_in (for_unknown q x) z = (q, x)
    unknown_in (for_missing q x m) z = absurd (omega (arith, z))

    repeated_in : {i e : At} {es : Entries} {ds : List Due} {w : ℕ} → FieldRefused i es ds e w → w ≡ reason_repeated → repeated_entry [] (heads es) ≡ some e
    repeated_in (for_repeated q) z = q
    repeated_in (for_unknown q x) z = absurd (omega (arith, z))
    repeated_in (for_missing q x m) z = absurd (omega (arith, z))

    pub missing_of_a_field : (i : At) (es : Entries) (ds : List Due) → Apart kinds (value_in ps) i es → ApartDefaults i (duly kinds ds i) →
        (arguments_of kinds given vs i es ds ≡ No i reason_missing)
        ↔ ((repeated_entry [] (heads es) ≡ none) × (unknown_entry ds (heads es) ≡ none) × LacksDue (value_in ps) es i (duly kinds ds i))
    missing_of_a_field i es ds h a = (
      λ q. missing_in (field_from i reason_missing h a (arguments_have kinds given vs i es ds) q) refl,
      λ m. arguments_is kinds (to_field (for_missing m.0 m.1 m.2)),
    )

    pub unknown_of_a_field : (i : At) (es : Entries) (ds : List Due) (e : At) → Apart kinds (value_in ps) e es → ApartDefaults e (duly kinds ds i) →
        (arguments_of kinds given vs i es ds ≡ No e reason_unknown) ↔ ((repeated_entry [] (heads es) ≡ none) × (unknown_entry ds (heads es) ≡ some e))
    unknown_of_a_field i es ds e h a = (
      λ q. unknown_in (field_from e reason_unknown h a (arguments_have kinds given vs i es ds) q) refl,
      λ m. arguments_is kinds {given = given} {vs = vs} {i = i} {es = es} {ds = ds} (to_field (for_unknown m.0 m.1)),
    )

    pub repeated_of_a_field : (i : At) (es : Entries) (ds : List Due) (e : At) → Apart kinds (value_in ps) e es → ApartDefaults e (duly kinds ds i) →
        (arguments_of kinds given vs i es ds ≡ No e reason_repeated) ↔ (repeated_entry [] (heads es) ≡ some e)
    repeated_of_a_field i es ds e h a = (
      λ q. repeated_in (field_from e reason_repeated h a (arguments_have kinds given vs i es ds) q) refl,
      λ m. arguments_is kinds {given = given} {vs = vs} {i = i} {es = es} {ds = ds} (to_field (for_repeated m)),
    )
