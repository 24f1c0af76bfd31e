-- What the two calls coerce, as rules: an operation's variables, and then a field's arguments.
-- States: 01, "Coercion": "An absent variable takes its default; without one it leaves its entry out"; "other names are passed over; a repeated name is
-- reason 6 before all else"; "Another then coerces one field's arguments, as an input object of their definitions"; "for 3 the object's, field's or
-- variable definition's"; "Objects: all entries for 6, then for 5, then fields in definition order".
-- Assumes nothing. proofs/CallsExact shows that each has exactly one result, the computed one.
use Rattle.std.specs.Prelude.{◌≡◌, true, false, List, [], ◌∷◌, map, ℕ}
use Rattle.std.proofs.Math.Option.{Option, none, some}
use Rattle.paper_table.specs.References.{is_non_null}
use Rattle.paper_values.specs.ValueNumbers.{reason_missing, reason_unknown, reason_repeated}
use Rattle.paper_values.specs.Values.{Name, At, Value, Entries, Due, Tree, Fields, Pairs, no_pairs, pair, Out, Got, No, and_then}
use Rattle.paper_values.specs.Kinds.{Kind}
use Rattle.paper_values.specs.Coercion.{heads, repeated_entry, unknown_entry, value_in}
use Rattle.paper_values.specs.CoercionRules.{value_for, Coerces}

-- no variable has a value: so constants are coerced
abbrev pub no_variables : Name → Option Tree
no_variables n = none

module _ (kinds : Name → Kind) where
  -- What is due, in definition order, each with the place that is told where it is missing: its entry's value; else its default; else nothing.
  pub data InDues (vars : Name → Option Tree) (es : Entries) : List (At × Due) → Out Pairs → Type 0 where
    no_dues : InDues vars es [] (Got no_pairs)
    given_refused : {i j : At} {d : Due} {ds : List (At × Due)} {w : ℕ} (v : Value) → value_for kinds vars d.name es ≡ some v →
        Coerces kinds vars v d.type (No j w) → InDues vars es ((i, d) ∷ ds) (No j w)
    given_got : {i : At} {d : Due} {ds : List (At × Due)} {t : Tree} {o p : Out Pairs} (v : Value) → value_for kinds vars d.name es ≡ some v →
        Coerces kinds vars v d.type (Got t) → InDues vars es ds o → and_then o (λ ps. Got (pair d.name t ps)) ≡ p → InDues vars es ((i, d) ∷ ds) p
    default_refused : {i j : At} {d : Due} {ds : List (At × Due)} {w : ℕ} (v : Value) → value_for kinds vars d.name es ≡ none → d.default ≡ some v →
        Coerces kinds no_variables v d.type (No j w) → InDues vars es ((i, d) ∷ ds) (No j w)
    default_got : {i : At} {d : Due} {ds : List (At × Due)} {t : Tree} {o p : Out Pairs} (v : Value) → value_for kinds vars d.name es ≡ none → d.default ≡ some v →
        Coerces kinds no_variables v d.type (Got t) → InDues vars es ds o → and_then o (λ ps. Got (pair d.name t ps)) ≡ p → InDues vars es ((i, d) ∷ ds) p
    due_missing : {i : At} {d : Due} {ds : List (At × Due)} → value_for kinds vars d.name es ≡ none → d.default ≡ none →
        is_non_null d.type ≡ true → InDues vars es ((i, d) ∷ ds) (No i reason_missing)
    due_left_out : {i : At} {d : Due} {ds : List (At × Due)} {o : Out Pairs} → value_for kinds vars d.name es ≡ none → d.default ≡ none →
        is_non_null d.type ≡ false → InDues vars es ds o → InDues vars es ((i, d) ∷ ds) o

  -- an operation's variables vs, from the entries es of the variables text: a repeated name before all else; other names are passed over
  pub data CoercesVariables (es : Entries) (vs : List (At × Due)) : Out Pairs → Type 0 where
    name_repeated_is : {e : At} → repeated_entry [] (heads es) ≡ some e → CoercesVariables es vs (No e reason_repeated)
    in_order : {o : Out Pairs} → repeated_entry [] (heads es) ≡ none → InDues no_variables es vs o → CoercesVariables es vs o

  -- then the arguments es of the field at i, as an input object of their definitions ds
  pub data CoercesArguments (given : Entries) (vs : List (At × Due)) (i : At) (es : Entries) (ds : List Due) : Out Tree → Type 0 where
    variables_refused : {j : At} {w : ℕ} → CoercesVariables given vs (No j w) → CoercesArguments given vs i es ds (No j w)
    argument_repeated : {e : At} (ps : Pairs) → CoercesVariables given vs (Got ps) → repeated_entry [] (heads es) ≡ some e →
        CoercesArguments given vs i es ds (No e reason_repeated)
    argument_unknown : {e : At} (ps : Pairs) → CoercesVariables given vs (Got ps) → repeated_entry [] (heads es) ≡ none → unknown_entry ds (heads es) ≡ some e →
        CoercesArguments given vs i es ds (No e reason_unknown)
    arguments : {o : Out Pairs} {p : Out Tree} (ps : Pairs) → CoercesVariables given vs (Got ps) → repeated_entry [] (heads es) ≡ none → unknown_entry ds (heads es) ≡ none →
        InDues (value_in ps) es (map (λ d. (i, d)) ds) o → and_then o (λ qs. Got (Fields qs)) ≡ p → CoercesArguments given vs i es ds p
