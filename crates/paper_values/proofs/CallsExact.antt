-- What the calls coerce has exactly one result by the rules, and it is the one that `variables_of` and `arguments_of` compute.
-- Assumes nothing.
use mathlib.Core.Path.{◌≡◌, refl, sym, ap, ◌∙◌, subst}
use mathlib.Core.Bool.{Bool, true, false, cond}
use mathlib.Core.Option.{Option, none, some}
use mathlib.Core.List.{List, [], ◌∷◌, map}
use Rattle.paper_table.specs.References.{Ref, is_non_null}
use Rattle.paper_values.specs.ValueNumbers.{reason_missing, reason_unknown, reason_repeated}
use Rattle.paper_values.specs.Values.{Name, At, Value, Entries, Due, Tree, Fields, Pairs, no_pairs, pair, Out, Got, No, and_then}
use Rattle.paper_values.specs.Kinds.{Kind}
use Rattle.paper_values.specs.Coercion.{heads, repeated_entry, unknown_entry, value_in}
use Rattle.paper_values.specs.Computed.{entry_of, pair_first, due_field, due_fields, unless, in_object, coerce, givens, or_default, variables_from, variables_of, arguments_of}
use Rattle.paper_values.specs.CoercionRules.{value_for, Coerces}
use Rattle.paper_values.specs.CallRules.{no_variables, InDues, no_dues, given_refused, given_got, default_refused, default_got, due_missing, due_left_out, CoercesVariables, name_repeated_is, in_order, CoercesArguments, variables_refused, argument_repeated, argument_unknown, arguments}
use Rattle.paper_values.proofs.CoercionExact.{into, found, coerces_is, coerces_has}

module _ (kinds : Name → Kind) where
  -- all that is due, with the place to tell where it is missing
  abbrev pub duly : List Due → At → List (At × Due)
  duly ds i = map (λ d. (i, d)) ds

  abbrev pub dues_from : (Name → Option Tree) → Entries → List (At × Due) → Out Pairs
  dues_from vars es [] = Got no_pairs
  dues_from vars es (v ∷ vs) =
      due_field (or_default kinds v.0 v.1 v.1.default (dues_from vars es vs)) v.1 (entry_of v.1.name (givens kinds vars es)) (dues_from vars es vs)

  abbrev stepped : (Name → Option Tree) → At × Due → Option Value → Option Value → Out Pairs → Out Pairs
  stepped vars v d m rest = due_field (or_default kinds v.0 v.1 d rest) v.1 (into kinds vars m) rest

  turned : (vars : Name → Option Tree) (es : Entries) (v : At × Due) (vs : List (At × Due)) (m d : Option Value) → value_for kinds vars v.1.name es ≡ m → v.1.default ≡ d
      → dues_from vars es (v ∷ vs) ≡ stepped vars v d m (dues_from vars es vs)
  turned vars es v vs m d q e =
      ap (λ (x : Option (Ref → Out Tree)). due_field (or_default kinds v.0 v.1 v.1.default (dues_from vars es vs)) v.1 x (dues_from vars es vs)) (found kinds vars v.1.name es ∙ ap (into kinds vars) q)
      ∙ ap (λ (x : Option Value). stepped vars v x m (dues_from vars es vs)) e

  -- a result by the rules is the computed one
  pub dues_is : {vars : Name → Option Tree} {es : Entries} {vs : List (At × Due)} {o : Out Pairs} → InDues kinds vars es vs o → dues_from vars es vs ≡ o
  dues_is no_dues = refl
  dues_is {vars} {es} (given_refused {i} {j} {d} {ds} {w} v q c) =
      turned vars es (i, d) ds (some v) d.default q refl ∙ ap (λ (x : Out Tree). pair_first d.name x (dues_from vars es ds)) (coerces_is kinds vars c)
  dues_is {vars} {es} (given_got {i} {d} {ds} {t} {o} v q c e f) =
      turned vars es (i, d) ds (some v) d.default q refl ∙ ap (λ (x : Out Tree). pair_first d.name x (dues_from vars es ds)) (coerces_is kinds vars c)
      ∙ ap (λ (x : Out Pairs). and_then x (λ ps. Got (pair d.name t ps))) (dues_is e) ∙ f
  dues_is {vars} {es} (default_refused {i} {j} {d} {ds} {w} v q e c) =
      turned vars es (i, d) ds none (some v) q e ∙ ap (λ (x : Out Tree). pair_first d.name x (dues_from vars es ds)) (coerces_is kinds no_variables c)
  dues_is {vars} {es} (default_got {i} {d} {ds} {t} {o} v q e c g f) =
      turned vars es (i, d) ds none (some v) q e ∙ ap (λ (x : Out Tree). pair_first d.name x (dues_from vars es ds)) (coerces_is kinds no_variables c)
      ∙ ap (λ (x : Out Pairs). and_then x (λ ps. Got (pair d.name t ps))) (dues_is g) ∙ f
  dues_is {vars} {es} (due_missing {i} {d} {ds} q e h) =
      turned vars es (i, d) ds none none q e ∙ ap (λ (b : Bool). cond b (No i reason_missing) (dues_from vars es ds)) h
  dues_is {vars} {es} (due_left_out {i} {d} {ds} {o} q e h g) =
      turned vars es (i, d) ds none none q e ∙ ap (λ (b : Bool). cond b (No i reason_missing) (dues_from vars es ds)) h ∙ dues_is g

  -- the computed result is one by the rules
  has_given : (vars : Name → Option Tree) (es : Entries) (i : At) (d : Due) (ds : List (At × Due)) (v : Value) (o : Out Tree) (rest : Out Pairs) → value_for kinds vars d.name es ≡ some v
      → Coerces kinds vars v d.type o → InDues kinds vars es ds rest → InDues kinds vars es ((i, d) ∷ ds) (pair_first d.name o rest)
  has_given vars es i d ds v (Got t) rest q c g = given_got v q c g refl
  has_given vars es i d ds v (No j w) rest q c g = given_refused v q c

  has_default : (vars : Name → Option Tree) (es : Entries) (i : At) (d : Due) (ds : List (At × Due)) (v : Value) (o : Out Tree) (rest : Out Pairs) → value_for kinds vars d.name es ≡ none
      → d.default ≡ some v → Coerces kinds no_variables v d.type o → InDues kinds vars es ds rest → InDues kinds vars es ((i, d) ∷ ds) (pair_first d.name o rest)
  has_default vars es i d ds v (Got t) rest q e c g = default_got v q e c g refl
  has_default vars es i d ds v (No j w) rest q e c g = default_refused v q e c

  has_nothing : (vars : Name → Option Tree) (es : Entries) (i : At) (d : Due) (ds : List (At × Due)) (b : Bool) (rest : Out Pairs) → value_for kinds vars d.name es ≡ none
      → d.default ≡ none → is_non_null d.type ≡ b → InDues kinds vars es ds rest → InDues kinds vars es ((i, d) ∷ ds) (cond b (No i reason_missing) rest)
  has_nothing vars es i d ds true rest q e h g = due_missing q e h
  has_nothing vars es i d ds false rest q e h g = due_left_out q e h g

  has_turn : (vars : Name → Option Tree) (es : Entries) (v : At × Due) (vs : List (At × Due)) (m d : Option Value) (rest : Out Pairs) → value_for kinds vars v.1.name es ≡ m → v.1.default ≡ d
      → InDues kinds vars es vs rest → InDues kinds vars es (v ∷ vs) (stepped vars v d m rest)
  has_turn vars es (i, x) vs none none rest q e g = has_nothing vars es i x vs (is_non_null x.type) rest q e refl g
  has_turn vars es (i, x) vs none (some w) rest q e g = has_default vars es i x vs w (coerce kinds no_variables w x.type) rest q e (coerces_has kinds no_variables w x.type) g
  has_turn vars es (i, x) vs (some w) d rest q e g = has_given vars es i x vs w (coerce kinds vars w x.type) rest q (coerces_has kinds vars w x.type) g

  pub dues_have : (vars : Name → Option Tree) (es : Entries) (vs : List (At × Due)) → InDues kinds vars es vs (dues_from vars es vs)
  dues_have vars es [] = no_dues
  dues_have vars es (v ∷ vs) =
      subst (λ (o : Out Pairs). InDues kinds vars es (v ∷ vs) o) (sym (turned vars es v vs (value_for kinds vars v.1.name es) v.1.default refl refl))
      (has_turn vars es v vs (value_for kinds vars v.1.name es) v.1.default (dues_from vars es vs) refl refl (dues_have vars es vs))

  -- ---- variables

  from_is : (es : Entries) (vs : List (At × Due)) → variables_from kinds (givens kinds no_variables es) vs ≡ dues_from no_variables es vs
  from_is es [] = refl
  from_is es (v ∷ vs) = ap (λ (rest : Out Pairs). due_field (or_default kinds v.0 v.1 v.1.default rest) v.1 (entry_of v.1.name (givens kinds no_variables es)) rest) (from_is es vs)

  pub variables_is : {es : Entries} {vs : List (At × Due)} {o : Out Pairs} → CoercesVariables kinds es vs o → variables_of kinds es vs ≡ o
  variables_is {es} {vs} (name_repeated_is q) = ap (λ (m : Option At). unless m reason_repeated (variables_from kinds (givens kinds no_variables es) vs)) q
  variables_is {es} {vs} (in_order q c) = ap (λ (m : Option At). unless m reason_repeated (variables_from kinds (givens kinds no_variables es) vs)) q ∙ from_is es vs ∙ dues_is c

  has_variables : (es : Entries) (vs : List (At × Due)) (m : Option At) → repeated_entry [] (heads es) ≡ m → CoercesVariables kinds es vs (unless m reason_repeated (variables_from kinds (givens kinds no_variables es) vs))
  has_variables es vs none q = in_order q (subst (λ (o : Out Pairs). InDues kinds no_variables es vs o) (sym (from_is es vs)) (dues_have no_variables es vs))
  has_variables es vs (some e) q = name_repeated_is q

  pub variables_have : (es : Entries) (vs : List (At × Due)) → CoercesVariables kinds es vs (variables_of kinds es vs)
  variables_have es vs = has_variables es vs (repeated_entry [] (heads es)) refl

  pub variables_one : {es : Entries} {vs : List (At × Due)} {o p : Out Pairs} → CoercesVariables kinds es vs o → CoercesVariables kinds es vs p → o ≡ p
  variables_one a b = sym (variables_is a) ∙ variables_is b

  -- ---- arguments

  arguments_from : (vars : Name → Option Tree) (es : Entries) (i : At) (ds : List Due) → due_fields (λ d rest. or_default kinds i d d.default rest) (givens kinds vars es) ds ≡ dues_from vars es (duly ds i)
  arguments_from vars es i [] = refl
  arguments_from vars es i (d ∷ ds) = ap (λ (rest : Out Pairs). due_field (or_default kinds i d d.default rest) d (entry_of d.name (givens kinds vars es)) rest) (arguments_from vars es i ds)

  abbrev behind : Pairs → At → Entries → List Due → Out Tree
  behind ps i es ds = in_object (λ d rest. or_default kinds i d d.default rest) (heads es) (givens kinds (value_in ps) es) ds

  abbrev pub told : Option At → Option At → Out Tree → Out Tree
  told a b o = unless a reason_repeated (unless b reason_unknown o)

  -- the arguments, where the variables are ps
  abbrev pub inside : Pairs → At → Entries → List Due → Out Tree
  inside ps i es ds = told (repeated_entry [] (heads es)) (unknown_entry ds (heads es)) (and_then (dues_from (value_in ps) es (duly ds i)) (λ qs. Got (Fields qs)))

  inside_is : (ps : Pairs) (i : At) (es : Entries) (ds : List Due) → behind ps i es ds ≡ inside ps i es ds
  inside_is ps i es ds = ap (λ (o : Out Pairs). told (repeated_entry [] (heads es)) (unknown_entry ds (heads es)) (and_then o (λ qs. Got (Fields qs)))) (arguments_from (value_in ps) es i ds)

  pub arguments_are : (given : Entries) (vs : List (At × Due)) (i : At) (es : Entries) (ds : List Due) → arguments_of kinds given vs i es ds ≡ and_then (variables_of kinds given vs) (λ ps. inside ps i es ds)
  arguments_are given vs i es ds = go (variables_of kinds given vs)
    where
      go : (o : Out Pairs) → and_then o (λ ps. behind ps i es ds) ≡ and_then o (λ ps. inside ps i es ds)
      go (Got ps) = inside_is ps i es ds
      go (No j w) = refl

  pub arguments_is : {given : Entries} {vs : List (At × Due)} {i : At} {es : Entries} {ds : List Due} {o : Out Tree} → CoercesArguments kinds given vs i es ds o → arguments_of kinds given vs i es ds ≡ o
  arguments_is {given} {vs} {i} {es} {ds} (variables_refused c) = ap (λ (x : Out Pairs). and_then x (λ ps. behind ps i es ds)) (variables_is c)
  arguments_is {given} {vs} {i} {es} {ds} (argument_repeated ps c q) =
      arguments_are given vs i es ds ∙ ap (λ (x : Out Pairs). and_then x (λ ps. inside ps i es ds)) (variables_is c)
      ∙ ap (λ (m : Option At). told m (unknown_entry ds (heads es)) (and_then (dues_from (value_in ps) es (duly ds i)) (λ qs. Got (Fields qs)))) q
  arguments_is {given} {vs} {i} {es} {ds} (argument_unknown ps c q e) =
      arguments_are given vs i es ds ∙ ap (λ (x : Out Pairs). and_then x (λ ps. inside ps i es ds)) (variables_is c)
      ∙ ap (λ (m : Option At). told m (unknown_entry ds (heads es)) (and_then (dues_from (value_in ps) es (duly ds i)) (λ qs. Got (Fields qs)))) q
      ∙ ap (λ (m : Option At). told none m (and_then (dues_from (value_in ps) es (duly ds i)) (λ qs. Got (Fields qs)))) e
  arguments_is {given} {vs} {i} {es} {ds} (arguments {o} ps c q e g f) =
      arguments_are given vs i es ds ∙ ap (λ (x : Out Pairs). and_then x (λ ps. inside ps i es ds)) (variables_is c)
      ∙ ap (λ (m : Option At). told m (unknown_entry ds (heads es)) (and_then (dues_from (value_in ps) es (duly ds i)) (λ qs. Got (Fields qs)))) q
      ∙ ap (λ (m : Option At). told none m (and_then (dues_from (value_in ps) es (duly ds i)) (λ qs. Got (Fields qs)))) e
      ∙ ap (λ (x : Out Pairs). and_then x (λ qs. Got (Fields qs))) (dues_is g) ∙ f

  has_inside : (given : Entries) (vs : List (At × Due)) (i : At) (es : Entries) (ds : List Due) (ps : Pairs) → CoercesVariables kinds given vs (Got ps)
      → (a b : Option At) → repeated_entry [] (heads es) ≡ a → unknown_entry ds (heads es) ≡ b
      → CoercesArguments kinds given vs i es ds (told a b (and_then (dues_from (value_in ps) es (duly ds i)) (λ qs. Got (Fields qs))))
  has_inside given vs i es ds ps c none none q e = arguments ps c q e (dues_have (value_in ps) es (duly ds i)) refl
  has_inside given vs i es ds ps c none (some x) q e = argument_unknown ps c q e
  has_inside given vs i es ds ps c (some x) b q e = argument_repeated ps c q

  has_arguments : (given : Entries) (vs : List (At × Due)) (i : At) (es : Entries) (ds : List Due) (o : Out Pairs) → CoercesVariables kinds given vs o
      → CoercesArguments kinds given vs i es ds (and_then o (λ ps. inside ps i es ds))
  has_arguments given vs i es ds (Got ps) c = has_inside given vs i es ds ps c (repeated_entry [] (heads es)) (unknown_entry ds (heads es)) refl refl
  has_arguments given vs i es ds (No j w) c = variables_refused c

  pub arguments_have : (given : Entries) (vs : List (At × Due)) (i : At) (es : Entries) (ds : List Due) → CoercesArguments kinds given vs i es ds (arguments_of kinds given vs i es ds)
  arguments_have given vs i es ds = subst (λ (o : Out Tree). CoercesArguments kinds given vs i es ds o) (sym (arguments_are given vs i es ds)) (has_arguments given vs i es ds (variables_of kinds given vs) (variables_have given vs))

  pub arguments_one : {given : Entries} {vs : List (At × Due)} {i : At} {es : Entries} {ds : List Due} {o p : Out Tree} → CoercesArguments kinds given vs i es ds o → CoercesArguments kinds given vs i es ds p → o ≡ p
  arguments_one a b = sym (arguments_is a) ∙ arguments_is b
