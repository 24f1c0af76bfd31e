-- What coercion and the two calls `gw_coerce_variables` and `gw_coerce_arguments` promise, in the manner of `Main`: each theorem is stated in full, and its proof is one name.
-- What the words mean, and is to be believed, stands in `crates/paper_values/specs`, and in the specs that `Main` names; `CoercionsWords` abbreviates some of it,
-- and `crates/paper_values/proofs/ReasonTables` has the tables of the reasons.
-- Assumes nothing.
use mathlib.Core.Path.{◌≡◌}
use mathlib.Core.Bool.{true, false}
use mathlib.Core.Logic.{◌⊎◌, ◌↔◌}
use mathlib.Core.Option.{Option, none, some}
use mathlib.Core.List.{List, ◌∷◌, [], ◌++◌}
use Prim.Native.Nat.{ℕ, ◌-◌, ◌≤◌, ◌<◌}
use lib.ListN.{length, take, drop, replicate}
use Rattle.paper.specs.Numbers.{report_size, most_text, input_document, input_variables}
use Rattle.paper.specs.Rows.{Row}
use Rattle.paper.specs.Refusals.{number_of, shown_in_text}
use Rattle.paper.specs.Calls.{filled, tells}
use Rattle.paper.specs.declared.Refusal.{Refusal}
use Rattle.paper.specs.declared.Refusal.TheVariants.{OverLength}
use Rattle.paper_table.specs.Lists.{bytes}
use Rattle.paper_table.specs.TableNumbers.{most_table, input_table, tag_scalar, tag_enum, tag_input_object, tag_argument, tag_enum_value}
use Rattle.paper_table.specs.References.{Ref, named, list_of, non_null, is_non_null}
use Rattle.paper_table.specs.Types.{Table}
use Rattle.paper_query.specs.Constructs.{Doc}
use Rattle.paper_query.specs.Enclosing.{FieldIs}
use Rattle.paper_query.specs.DocumentCalls.{read}
use Rattle.paper_query.specs.Opening.{AcceptedDocument, operation_meant, stops, opens, Opened}
use Rattle.paper_values.specs.ValueNumbers.{most_coerced, reason_kind, reason_range, reason_missing, reason_null, reason_unknown, reason_repeated, reason_enum, reason_surrogate}
use Rattle.paper_values.specs.Written.{four_bytes}
use Rattle.paper_values.specs.Characters.{characters_of}
use Rattle.paper_values.specs.NumberTokens.{int_of}
use Rattle.paper_values.specs.Signed.{number_written, number_held, is_int}
use Rattle.paper_values.specs.Values.{Name, At, Value, Values, variable, integer, string, null, list, object, Entries, no_entries, entry, Due, Tree, Null, Bits, Fields, Pairs, no_pairs, pair, Out, Got, No}
use Rattle.paper_values.specs.Kinds.{Kind, Int, kind_of_type}
use Rattle.paper_values.specs.Computed.{Given, coerce, coerce_all, variables_from, variables_of, arguments_of}
use Rattle.paper_values.specs.Coercion.{Head, heads, repeated_entry, unknown_entry, value_in}
use Rattle.paper_values.specs.CoercionRules.{plain_value, single_value, as_input, Coerces}
use Rattle.paper_values.specs.CallRules.{no_variables, CoercesVariables, CoercesArguments}
use Rattle.paper_values.specs.Encoding.{encode}
use Rattle.paper_values.specs.RowValues.{placed, value_at, arguments_at}
use Rattle.paper_values.specs.DocumentDues.{given_in, argument_dues, ReachedField}
use Rattle.paper_values.specs.ValueCalls.{Ending, VariablesEnd, ArgumentsEnd, ValueLent, ValueShort, CoercedVariables, CoercedArguments}
use Rattle.paper_values.proofs.ReasonTables.{takes, outside, no_member, no_text, place_of}
use Rattle.paper_values.proofs.ReasonsExact.{as_null, Apart, ApartInside, Lacks, Refused, RefusedItem}
use Rattle.paper_values.proofs.ReasonsOfDues.{ApartDefaults, LacksDue}
use Rattle.paper_values.proofs.TagInts.{HasInt, HasToken, HasTokenEntry, DefaultToken, HeldInt, number_read}
use Rattle.paper_values.proofs.TrapInt.{narrowed_int_of}
use Rattle.paper_values.proofs.CoercionExact as exact
use Rattle.paper_values.proofs.CallsExact.{duly}
use Rattle.paper_values.proofs.CallsExact as calls-exact
use Rattle.paper_values.proofs.ValueCallsOne as calls-one
use Rattle.paper_values.proofs.TagInt as tag-int
use Rattle.paper_values.proofs.TagInts as tag-ints
use Rattle.paper_values.proofs.TrapInt as trap
use Rattle.paper_values.proofs.TrapOrder as order
use Rattle.paper_values.proofs.ReasonsExact as reasons
use Rattle.paper_values.proofs.ReasonsOfDues as dues
use Rattle.paper_values.proofs.RowsApart as rows_apart
use Rattle.paper_values.proofs.ExamplesCoercion as examples
use Rattle.claims.proofs.CoercionsWords.{VariablesRead, VariablesUnread, VariablesGive, ArgumentsGive, answer_of, value_left, report_left}
use Rattle.claims.proofs.TagLaws.{FieldIn, TokenGiven, TokenOfField}
use Rattle.claims.proofs.CoercionsSome as some-results
use Rattle.claims.proofs.CoercedVariables as variables-call
use Rattle.claims.proofs.CoercedArguments as arguments-call
use Rattle.claims.proofs.TagLaws as tags
use Rattle.gateway.proofs.coerce_variables.gw_coerce_variables.Statement as gw-coerce-variables
use Rattle.gateway.proofs.coerce_variables.gw_coerce_variables.Met as gw-coerce-variables-met
use Rattle.gateway.proofs.coerce_arguments.gw_coerce_arguments.Statement as gw-coerce-arguments
use Rattle.gateway.proofs.coerce_arguments.gw_coerce_arguments.Met as gw-coerce-arguments-met

-- `gw_coerce_variables` and `gw_coerce_arguments` meet the contracts in `crates/gateway/src/coerce_variables.rt` and `coerce_arguments.rt`, which are
-- `CoercedVariables` and `CoercedArguments`: for every table, document, operation's name, variables text, row, value buffer and report of any length and
-- content they say the answer, every byte of the value and every number of the report.
pub gw_coerce_variables_meets : {M : Type 1} → gw-coerce-variables.statement M
gw_coerce_variables_meets = gw-coerce-variables-met.met

pub gw_coerce_arguments_meets : {M : Type 1} → gw-coerce-arguments.statement M
gw_coerce_arguments_meets = gw-coerce-arguments-met.met

-- ---- AN INT

-- Each tag 33 holds, as a signed number, exactly the number that its token writes. Wherever the result of a value has an Int (`HasInt`), its field's four bytes, read high
-- byte first as two's complement (`number_read`), are the number that an integer token of the value writes; or a variable held that Int.
pub tag_33_exact : (kinds : Name → Kind) (vars : Name → Option Tree) (v : Value) (r : Ref) (t : Tree) (x : ℕ) → Coerces kinds vars v r (Got t) → HasInt x t →
    HeldInt vars x ⊎ ((s : List ℕ) × HasToken s v × ((encode (Bits x) ≡ 33 ∷ 0 ∷ 4 ∷ four_bytes x) × (number_read (four_bytes x) ≡ number_written s)))
tag_33_exact = tag-ints.tag_33_of_a_value

-- In an operation's variables the token stands in the variables text or in a default; in a field's arguments it stands among these, or is one of the variables'.
pub tag_33_of_variables : (kinds : Name → Kind) (es : Entries) (vs : List (At × Due)) (ps : Pairs) (x : ℕ) → CoercesVariables kinds es vs (Got ps) → HasInt x (Fields ps) →
    (s : List ℕ) × (HasTokenEntry s es ⊎ DefaultToken s vs) × ((encode (Bits x) ≡ 33 ∷ 0 ∷ 4 ∷ four_bytes x) × (number_read (four_bytes x) ≡ number_written s))
tag_33_of_variables = tag-ints.tag_33_of_variables

pub tag_33_of_arguments : (kinds : Name → Kind) (given : Entries) (vs : List (At × Due)) (i : At) (es : Entries) (ds : List Due) (t : Tree) (x : ℕ) →
    CoercesArguments kinds given vs i es ds (Got t) → HasInt x t →
    (s : List ℕ) × ((HasTokenEntry s es ⊎ DefaultToken s (duly kinds ds i)) ⊎ (HasTokenEntry s given ⊎ DefaultToken s vs))
    × ((encode (Bits x) ≡ 33 ∷ 0 ∷ 4 ∷ four_bytes x) × (number_read (four_bytes x) ≡ number_written s))
tag_33_of_arguments = tag-ints.tag_33_of_arguments

-- Nothing but an integer token at a type whose kind is Int gives one: of a value at a named type that is neither null nor a variable.
pub only_integers : (kinds : Name → Kind) (vars : Name → Option Tree) (v : Value) (n : Name) (x : ℕ) → plain_value v ≡ true → coerce kinds vars v (named n) ≡ Got (Bits x) →
    (i : At) × (s : List ℕ) × (v ≡ integer i s) × (kinds n ≡ Int) × ((encode (Bits x) ≡ 33 ∷ 0 ∷ 4 ∷ four_bytes x) × (number_read (four_bytes x) ≡ number_written s))
only_integers = tag-ints.only_integers

-- Of an integer token at Int: its 32 bits hold its number. (An integer token has a byte or more.)
pub tag_int_exact : (kinds : Name → Kind) (vars : Name → Option Tree) (i : At) (b : ℕ) (bs : List ℕ) (n : Name) (x : ℕ) → kinds n ≡ Int →
    coerce kinds vars (integer i (b ∷ bs)) (named n) ≡ Got (Bits x) →
    (encode (Bits x) ≡ 33 ∷ 0 ∷ 4 ∷ four_bytes x) × (number_held x ≡ number_written (b ∷ bs))
tag_int_exact = tag-int.tag_int_exact

-- An integer token at Int is refused with reason 2 exactly when that number lies outside −2147483648 to 2147483647; inside, it has its tag 33.
pub int_refused_exactly : (kinds : Name → Kind) (vars : Name → Option Tree) (i : At) (b : ℕ) (bs : List ℕ) (n : Name) → kinds n ≡ Int →
    (coerce kinds vars (integer i (b ∷ bs)) (named n) ≡ No i reason_range) ↔ (is_int (number_written (b ∷ bs)) ≡ false)
int_refused_exactly = tag-int.int_refused_exactly

pub int_held : (kinds : Name → Kind) (vars : Name → Option Tree) (i : At) (b : ℕ) (bs : List ℕ) (n : Name) → kinds n ≡ Int → is_int (number_written (b ∷ bs)) ≡ true →
    (x : ℕ) × (coerce kinds vars (integer i (b ∷ bs)) (named n) ≡ Got (Bits x)) × (encode (Bits x) ≡ 33 ∷ 0 ∷ 4 ∷ four_bytes x) × (number_held x ≡ number_written (b ∷ bs))
int_held = tag-int.int_held

-- 01's trap: a test that narrows the number to 32 bits before it compares takes 4294967297 for 1, which `int_of` refuses. So it is another test.
pub narrowing_differs : ((s : List ℕ) → narrowed_int_of s ≡ int_of s) → ⊥
narrowing_differs = trap.narrowing_differs

-- ---- WRONG PROGRAMS, each refuted on a worked example

-- An object's refusals are told in definition order: not as its entries are written, and not by the least row.
pub written_order_differs : ((gs : List Given) (ds : List Due) → order.written_first (order.right gs ds) gs ds ≡ order.right gs ds) → ⊥
written_order_differs = order.written_differs

pub least_row_differs : ((gs : List Given) (ds : List Due) → order.least_row (record { text = 0; row = 0 }) gs ds ≡ order.right gs ds) → ⊥
least_row_differs = order.least_differs

-- An absent variable in a list is null; it is not left out.
pub item_left_out_differs : ((vs : Values) (r : Ref) → order.items_left vs r ≡ coerce_all order.kinds order.unset vs r) → ⊥
item_left_out_differs = order.leaving_differs

-- Of a repeated name the later entry is told, not the first.
pub first_entry_differs : ((es : List Head) → order.repeated_first es ≡ repeated_entry [] es) → ⊥
first_entry_differs = order.first_differs

-- A default is judged only where it is taken.
pub default_judged_differs : ((gs : List Given) (vs : List (At × Due)) → order.defaults_judged gs vs ≡ variables_from order.kinds gs vs) → ⊥
default_judged_differs = order.judging_differs

-- ---- ONE RESULT OR REFUSAL

-- Each value at each type has exactly one result or refusal by the rules, whatever the names of types mean and whatever the variables hold.
pub coercion_some : (kinds : Name → Kind) (vars : Name → Option Tree) (v : Value) (r : Ref) → Coerces kinds vars v r (coerce kinds vars v r)
coercion_some = exact.coerces_has

pub coercion_one : (kinds : Name → Kind) (vars : Name → Option Tree) (v : Value) (r : Ref) (o p : Out Tree) → Coerces kinds vars v r o → Coerces kinds vars v r p → o ≡ p
coercion_one = exact.coerces_one

-- So do an operation's variables.
pub variables_coercion_some : (kinds : Name → Kind) (es : Entries) (vs : List (At × Due)) → CoercesVariables kinds es vs (variables_of kinds es vs)
variables_coercion_some = calls-exact.variables_have

pub variables_coercion_one : (kinds : Name → Kind) {es : Entries} {vs : List (At × Due)} {o p : Out Pairs} → CoercesVariables kinds es vs o → CoercesVariables kinds es vs p → o ≡ p
variables_coercion_one = calls-exact.variables_one

-- And a field's arguments.
pub arguments_coercion_some : (kinds : Name → Kind) (given : Entries) (vs : List (At × Due)) (i : At) (es : Entries) (ds : List Due) →
    CoercesArguments kinds given vs i es ds (arguments_of kinds given vs i es ds)
arguments_coercion_some = calls-exact.arguments_have

pub arguments_coercion_one : (kinds : Name → Kind) {given : Entries} {vs : List (At × Due)} {i : At} {es : Entries} {ds : List Due} {o p : Out Tree} →
    CoercesArguments kinds given vs i es ds o → CoercesArguments kinds given vs i es ds p → o ≡ p
arguments_coercion_one = calls-exact.arguments_one

-- ---- THE EIGHT REASONS, EACH EXACTLY WHEN

-- 1, a wrong kind of value: at a named type, told where the value stands, exactly when the type's kind does not take values of that kind (the table `takes`).
-- The value is neither null nor a variable, and if it is an object no value in it stands at its own place (which `row_apart` shows for the value of every row).
pub reason_1_exactly : (kinds : Name → Kind) (vars : Name → Option Tree) (v : Value) (n : Name) → plain_value v ≡ true → ApartInside kinds vars v →
    (coerce kinds vars v (named n) ≡ No (place_of v) reason_kind) ↔ (takes v (kinds n) ≡ false)
reason_1_exactly = reasons.kind_exactly

-- 2, out of range: exactly for an integer token at Int whose number is outside 32 bits, or at Float beyond 2^53 (`outside`).
pub reason_2_exactly : (kinds : Name → Kind) (vars : Name → Option Tree) (v : Value) (n : Name) → plain_value v ≡ true → ApartInside kinds vars v →
    (coerce kinds vars v (named n) ≡ No (place_of v) reason_range) ↔ (outside v (kinds n) ≡ true)
reason_2_exactly = reasons.range_exactly

-- 3, missing: told where the object stands, exactly when no name is repeated or unknown, and the first of the fields due that fails is a Non-Null without an entry (`Lacks`).
pub reason_3_exactly : (kinds : Name → Kind) (vars : Name → Option Tree) (i : At) (es : Entries) (n : Name) → Apart kinds vars i es →
    (coerce kinds vars (object i es) (named n) ≡ No i reason_missing)
    ↔ ((ds : List Due) × (as_input (kinds n) ≡ some ds) × (repeated_entry [] (heads es) ≡ none) × (unknown_entry ds (heads es) ≡ none) × Lacks kinds vars es ds)
reason_3_exactly = reasons.missing_exactly

-- Of an operation's variables, told at a definition: exactly when no name is repeated, and the first variable that fails is this one, Non-Null, with neither an entry nor a
-- default (`LacksDue`). No given value (`given_apart`) and no default stands at the definition's place.
pub reason_3_of_a_variable : (kinds : Name → Kind) (es : Entries) (vs : List (At × Due)) (i : At) → Apart kinds no_variables i es → ApartDefaults i vs →
    (variables_of kinds es vs ≡ No i reason_missing) ↔ ((repeated_entry [] (heads es) ≡ none) × LacksDue kinds no_variables es i vs)
reason_3_of_a_variable = dues.missing_of_a_variable

-- Of a field's arguments, once the variables are ps, told at the field: exactly when no name is repeated or unknown, and the first argument that fails is such a one. No argument's
-- value (`arguments_apart`) and no default (`arguments_without_defaults`) stands at the field's place.
pub reason_3_of_a_field : (kinds : Name → Kind) (given : Entries) (vs : List (At × Due)) (ps : Pairs) → variables_of kinds given vs ≡ Got ps →
    (i : At) (es : Entries) (ds : List Due) → Apart kinds (value_in ps) i es → ApartDefaults i (duly kinds ds i) →
    (arguments_of kinds given vs i es ds ≡ No i reason_missing)
    ↔ ((repeated_entry [] (heads es) ≡ none) × (unknown_entry ds (heads es) ≡ none) × LacksDue kinds (value_in ps) es i (duly kinds ds i))
reason_3_of_a_field = dues.missing_of_a_field

-- 4, null: at any type, exactly at a Non-Null one.
pub reason_4_exactly : (kinds : Name → Kind) (vars : Name → Option Tree) (i : At) (r : Ref) → (coerce kinds vars (null i) r ≡ No i reason_null) ↔ (is_non_null r ≡ true)
reason_4_exactly = reasons.null_exactly

-- Where a variable stands, exactly when it is absent (in a list) or holds null (`as_null`), at a Non-Null type.
pub reason_4_of_a_variable : (kinds : Name → Kind) (vars : Name → Option Tree) (i : At) (n : Name) (r : Ref) →
    (coerce kinds vars (variable i n) r ≡ No i reason_null) ↔ ((as_null (vars n) ≡ true) × (is_non_null r ≡ true))
reason_4_of_a_variable = reasons.null_variable_exactly

-- 5, unknown: told at an entry, exactly when no name is repeated and that entry is the first whose name no field has.
pub reason_5_exactly : (kinds : Name → Kind) (vars : Name → Option Tree) (i : At) (es : Entries) (n : Name) (e : At) → Apart kinds vars e es →
    (coerce kinds vars (object i es) (named n) ≡ No e reason_unknown)
    ↔ ((ds : List Due) × (as_input (kinds n) ≡ some ds) × (repeated_entry [] (heads es) ≡ none) × (unknown_entry ds (heads es) ≡ some e))
reason_5_exactly = reasons.unknown_exactly

pub reason_5_of_a_field : (kinds : Name → Kind) (given : Entries) (vs : List (At × Due)) (ps : Pairs) → variables_of kinds given vs ≡ Got ps →
    (i : At) (es : Entries) (ds : List Due) (e : At) → Apart kinds (value_in ps) e es → ApartDefaults e (duly kinds ds i) →
    (arguments_of kinds given vs i es ds ≡ No e reason_unknown) ↔ ((repeated_entry [] (heads es) ≡ none) × (unknown_entry ds (heads es) ≡ some e))
reason_5_of_a_field = dues.unknown_of_a_field

-- 6, repeated: told at an entry, exactly when it is the first whose name an earlier one has.
pub reason_6_exactly : (kinds : Name → Kind) (vars : Name → Option Tree) (i : At) (es : Entries) (n : Name) (e : At) → Apart kinds vars e es →
    (coerce kinds vars (object i es) (named n) ≡ No e reason_repeated) ↔ ((ds : List Due) × (as_input (kinds n) ≡ some ds) × (repeated_entry [] (heads es) ≡ some e))
reason_6_exactly = reasons.repeated_exactly

pub reason_6_of_a_field : (kinds : Name → Kind) (given : Entries) (vs : List (At × Due)) (ps : Pairs) → variables_of kinds given vs ≡ Got ps →
    (i : At) (es : Entries) (ds : List Due) (e : At) → Apart kinds (value_in ps) e es → ApartDefaults e (duly kinds ds i) →
    (arguments_of kinds given vs i es ds ≡ No e reason_repeated) ↔ (repeated_entry [] (heads es) ≡ some e)
reason_6_of_a_field = dues.repeated_of_a_field

-- In the outer object of the variables, before all else, so with no word of what is due.
pub reason_6_of_the_variables : (kinds : Name → Kind) (es : Entries) (vs : List (At × Due)) (e : At) → Apart kinds no_variables e es → ApartDefaults e vs →
    (variables_of kinds es vs ≡ No e reason_repeated) ↔ (repeated_entry [] (heads es) ≡ some e)
reason_6_of_the_variables = dues.repeated_of_the_variables

-- 7, no member: exactly for a name at an enum that has none such (`no_member`).
pub reason_7_exactly : (kinds : Name → Kind) (vars : Name → Option Tree) (v : Value) (n : Name) → plain_value v ≡ true → ApartInside kinds vars v →
    (coerce kinds vars v (named n) ≡ No (place_of v) reason_enum) ↔ (no_member v (kinds n) ≡ true)
reason_7_exactly = reasons.enum_exactly

-- 8, an escaped surrogate: exactly for a string with one at String or ID (`no_text`).
pub reason_8_exactly : (kinds : Name → Kind) (vars : Name → Option Tree) (v : Value) (n : Name) → plain_value v ≡ true → ApartInside kinds vars v →
    (coerce kinds vars v (named n) ≡ No (place_of v) reason_surrogate) ↔ (no_text v (kinds n) ≡ true)
reason_8_exactly = reasons.surrogate_exactly

-- An object is refused exactly by one of four rules (`Refused`): at what is no input object; for 6; for 5; for a field, in definition order.
pub object_refused_exactly : (kinds : Name → Kind) (vars : Name → Option Tree) (i : At) (es : Entries) (n : Name) (e : At) (w : ℕ) →
    (coerce kinds vars (object i es) (named n) ≡ No e w) ↔ Refused kinds vars i es n e w
object_refused_exactly = reasons.object_refused_exactly

-- At other types the same is told: what is neither null nor a variable is at a Non-Null type what it is inside; what is no list is refused as a list of one as it is itself.
pub non_null_same : (kinds : Name → Kind) (vars : Name → Option Tree) (v : Value) (r : Ref) → plain_value v ≡ true → coerce kinds vars v (non_null r) ≡ coerce kinds vars v r
non_null_same = reasons.non_null_same

pub list_of_one_refused : (kinds : Name → Kind) (vars : Name → Option Tree) (v : Value) (r : Ref) (e : At) (w : ℕ) → single_value v ≡ true →
    (coerce kinds vars v (list_of r) ≡ No e w) ↔ (coerce kinds vars v r ≡ No e w)
list_of_one_refused = reasons.list_of_one_refused

-- A list at a list type is refused exactly as the first of its items that is refused at the type inside (`RefusedItem`: those before it are coerced).
pub list_refused_exactly : (kinds : Name → Kind) (vars : Name → Option Tree) (i : At) (vs : Values) (r : Ref) (e : At) (w : ℕ) →
    (coerce kinds vars (list i vs) (list_of r) ≡ No e w) ↔ RefusedItem kinds vars r e w vs
list_refused_exactly = reasons.list_refused_exactly

-- In the value of a row no value inside an object stands at the object's place.
pub row_apart : (kinds : Name → Kind) (vars : Name → Option Tree) (text : ℕ) (d : Doc) (k i : ℕ) → ApartInside kinds vars (value_at text d k i)
row_apart = rows_apart.row_apart

-- Nor does one among a field's arguments stand at the field's place, nor one that the variables text gives at a place of the document; and an argument has no default so far.
pub arguments_apart : (kinds : Name → Kind) (vars : Name → Option Tree) (text : ℕ) (d : Doc) (i : ℕ) → Apart kinds vars (placed text d i) (arguments_at text d i)
arguments_apart = rows_apart.arguments_apart

pub given_apart : (kinds : Name → Kind) (vars : Name → Option Tree) (d : Doc) (e : At) → e.text ≡ input_document → Apart kinds vars e (given_in d)
given_apart = rows_apart.given_apart

pub arguments_without_defaults : (kinds : Name → Kind) (e i : At) (f : FieldIs) → ApartDefaults e (duly kinds (argument_dues f) i)
arguments_without_defaults = rows_apart.arguments_without_defaults

-- ---- 01'S EXAMPLES

-- input In {a: String, b: Int!}, scalar S, enum E {A}
abbrev pub types : Table
types =
    record {
      tag = tag_input_object;
      name = bytes "In";
      implements = [];
      members =
          record { tag = tag_argument; name = bytes "a"; type = named (bytes "String"); arguments = [] } ∷ record { tag = tag_argument; name = bytes "b"; type = non_null (named (bytes "Int")); arguments = [] } ∷ [];
    } ∷
    record { tag = tag_scalar; name = bytes "S"; implements = []; members = [] } ∷
    record { tag = tag_enum; name = bytes "E"; implements = []; members = record { tag = tag_enum_value; name = bytes "A"; type = named []; arguments = [] } ∷ [] } ∷
    []

-- row i of the document; what a value is at a type, where no variable is set
abbrev pub here : ℕ → At
here i = record { text = 0; row = i }

abbrev pub give : Ref → Value → Out Tree
give r v = coerce (kind_of_type types) (λ n. none) v r

-- (1) to (7), over one list.
pub examples_1_to_7 :
    give (named (bytes "Int")) (integer (here 1) (bytes "2147483647")) ∷
    give (named (bytes "Int")) (integer (here 1) (bytes "2147483648")) ∷
    give (named (bytes "Int")) (integer (here 1) (bytes "-2147483648")) ∷
    give (named (bytes "Int")) (integer (here 1) (bytes "-2147483649")) ∷
    give (named (bytes "In")) (object (here 0) (entry (here 1) (bytes "a") (string (here 2) (0x22 ∷ (bytes "abc" ++ (0x22 ∷ []))) (characters_of (0x22 ∷ (bytes "abc" ++ (0x22 ∷ []))))) no_entries)) ∷
    give (named (bytes "In")) (object (here 0) (entry (here 1) (bytes "a") (null (here 2)) (entry (here 3) (bytes "b") (integer (here 4) (bytes "1")) no_entries))) ∷
    give (named (bytes "In")) (object (here 0) (entry (here 1) (bytes "a") (variable (here 2) (bytes "var")) (entry (here 3) (bytes "b") (integer (here 4) (bytes "1")) no_entries))) ∷
    [] ≡
    Got (Bits 2147483647) ∷
    No (here 1) 2 ∷
    Got (Bits 2147483648) ∷
    No (here 1) 2 ∷
    No (here 0) 3 ∷
    Got (Fields (pair (bytes "a") Null (pair (bytes "b") (Bits 1) no_pairs))) ∷
    Got (Fields (pair (bytes "b") (Bits 1) no_pairs)) ∷
    []
examples_1_to_7 = examples.seven

-- ---- THE CALL `gw_coerce_variables`: an operation's variables

-- Its statement is `CoercedVariables`: for every table, document, name, variables text, value and report of any length and content it says the answer and every number of both
-- buffers. Two results that satisfy it are equal.
pub coerced_variables_one : {table document name variables value report value' report' value'' report'' : List ℕ} {n n' : ℕ} →
    CoercedVariables table document name variables value report value' report' n → CoercedVariables table document name variables value report value'' report'' n' →
    (n ≡ n') × (value' ≡ value'') × (report' ≡ report'')
coerced_variables_one = calls-one.coerced_variables_one

-- Some result satisfies it, whatever the inputs and the buffers: that none does is refuted.
pub coerced_variables_some : (table document name variables : List ℕ) (value report : List ℕ) →
    ((value' report' : List ℕ) (a : ℕ) → CoercedVariables table document name variables value report value' report' a → ⊥) → ⊥
coerced_variables_some = some-results.coerced_variables_some

-- Where the buffers are lent and the inputs short enough, the ending that is due is the one that is told, and it fills both buffers.
pub coerced_variables_told : (table document name variables : List ℕ) {value report value' report' : List ℕ} {a : ℕ} → CoercedVariables table document name variables value report value' report' a →
    ValueLent value report → ValueShort table document variables → (e : Ending) → VariablesEnd table document name variables e → (a ≡ answer_of e) × (value' ≡ value_left value e) × (report' ≡ report_left report e)
coerced_variables_told = variables-call.variables_told

-- And 0, and every answer above 2, is an ending's that is due.
pub coerced_variables_tells : (table document name variables : List ℕ) {value report value' report' : List ℕ} {a : ℕ} → CoercedVariables table document name variables value report value' report' a → (a ≡ 0) ⊎ (2 < a) →
    ValueLent value report × ValueShort table document variables × ((e : Ending) × VariablesEnd table document name variables e × (a ≡ answer_of e) × (value' ≡ value_left value e) × (report' ≡ report_left report e))
coerced_variables_tells = variables-call.variables_tells

-- 0 exactly when all is read, the rules give a result, and its bytes are at most 8,192.
pub coerced_variables_accepted_exactly : (table document name variables : List ℕ) {value report value' report' : List ℕ} {a : ℕ} → CoercedVariables table document name variables value report value' report' a →
    (a ≡ 0)
    ↔ (ValueLent value report × ValueShort table document variables
    × ((rs : List Row) × (op : ℕ) × (vs : List Row) × (ps : Pairs) × VariablesRead table document name variables rs op vs
    × VariablesGive table document variables rs op vs (Got ps) × (length (encode (Fields ps)) ≤ most_coerced)))
coerced_variables_accepted_exactly = variables-call.variables_accepted_exactly

-- Success leaves its bytes and zeros, and their count.
pub coerced_variables_success : (table document name variables : List ℕ) {value report value' report' : List ℕ} {a : ℕ} → CoercedVariables table document name variables value report value' report' a → a ≡ 0 →
    (rs : List Row) × (op : ℕ) × (vs : List Row) × (ps : Pairs) × VariablesRead table document name variables rs op vs
    × VariablesGive table document variables rs op vs (Got ps)
    × (take most_coerced value' ≡ encode (Fields ps) ++ replicate (most_coerced - length (encode (Fields ps))) 0) × (take 2 report' ≡ 0 ∷ length (encode (Fields ps)) ∷ [])
coerced_variables_success = variables-call.variables_success

-- Each tag 33 among these bytes, read as House fields however deep (`FieldIn`), holds, as a signed number, exactly the number that its token writes.
pub coerced_variables_tag_33 : (table document name variables : List ℕ) {value report value' report' : List ℕ} {a : ℕ} → CoercedVariables table document name variables value report value' report' a → a ≡ 0 →
    (rs : List Row) × (op : ℕ) × (vs : List Row) × (bs : List ℕ) × VariablesRead table document name variables rs op vs
    × (take most_coerced value' ≡ bs ++ replicate (most_coerced - length bs) 0) × (take 2 report' ≡ 0 ∷ length bs ∷ [])
    × ((c : List ℕ) → FieldIn 33 c bs → (s : List ℕ) × TokenGiven document variables rs op vs s × (number_read c ≡ number_written s))
coerced_variables_tag_33 = tags.variables_tag_33

-- 11 with a text, row and reason exactly when the rules refuse so; and 11 always shows them.
pub coerced_variables_refused_exactly : (table document name variables : List ℕ) {value report value' report' : List ℕ} {a : ℕ} → CoercedVariables table document name variables value report value' report' a → (i : At) (w : ℕ) →
    ((a ≡ 11) × (take 4 report' ≡ 11 ∷ i.text ∷ i.row ∷ w ∷ []))
    ↔ (ValueLent value report × ValueShort table document variables
    × ((rs : List Row) × (op : ℕ) × (vs : List Row) × VariablesRead table document name variables rs op vs
    × VariablesGive table document variables rs op vs (No i w)))
coerced_variables_refused_exactly = variables-call.variables_refused_exactly

pub coerced_variables_refused_some : (table document name variables : List ℕ) {value report value' report' : List ℕ} {a : ℕ} → CoercedVariables table document name variables value report value' report' a → a ≡ 11 →
    (i : At) × (w : ℕ) × (take 4 report' ≡ 11 ∷ i.text ∷ i.row ∷ w ∷ [])
    × ((rs : List Row) × (op : ℕ) × (vs : List Row) × VariablesRead table document name variables rs op vs
    × VariablesGive table document variables rs op vs (No i w))
coerced_variables_refused_some = variables-call.variables_refused_some

-- 16 exactly when all is read, nothing is refused, and the result is longer than 8,192 bytes; never where an 11 is due.
pub coerced_variables_too_long_exactly : (table document name variables : List ℕ) {value report value' report' : List ℕ} {a : ℕ} → CoercedVariables table document name variables value report value' report' a →
    (a ≡ 16)
    ↔ (ValueLent value report × ValueShort table document variables
    × ((rs : List Row) × (op : ℕ) × (vs : List Row) × (ps : Pairs) × VariablesRead table document name variables rs op vs
    × VariablesGive table document variables rs op vs (Got ps) × (most_coerced < length (encode (Fields ps)))))
coerced_variables_too_long_exactly = variables-call.variables_too_long_exactly

pub coerced_variables_refused_not_too_long : (table document name variables : List ℕ) {value report value' report' : List ℕ} {a : ℕ} → CoercedVariables table document name variables value report value' report' a → (i : At) (w : ℕ) →
    (rs : List Row) × (op : ℕ) × (vs : List Row) × VariablesRead table document name variables rs op vs
    × VariablesGive table document variables rs op vs (No i w) → a ≡ 16 → ⊥
coerced_variables_refused_not_too_long = variables-call.variables_refused_not_too_long

-- 3 to 6 with an offset and the text 1 exactly when an operation is opened and the variables text refused so.
pub coerced_variables_text_exactly : (table document name variables : List ℕ) {value report value' report' : List ℕ} {a : ℕ} → CoercedVariables table document name variables value report value' report' a → (k at : ℕ) → 2 < k → k < 7 →
    ((a ≡ k) × (take 3 report' ≡ k ∷ at ∷ 1 ∷ []))
    ↔ (ValueLent value report × ValueShort table document variables
    × ((rs : List Row) × (op : ℕ) × (r : Refusal) × VariablesUnread table document name variables rs op r × (number_of r ≡ k) × (shown_in_text input_variables r ≡ at ∷ 1 ∷ [])))
coerced_variables_text_exactly = variables-call.variables_text_exactly

-- 12 exactly when table and document are accepted and the name means no operation: whatever the variables text is.
pub coerced_variables_12_exactly : (table document name variables : List ℕ) {value report value' report' : List ℕ} {a : ℕ} → CoercedVariables table document name variables value report value' report' a →
    (a ≡ 12)
    ↔ (ValueLent value report × ValueShort table document variables
    × ((rs : List Row) × AcceptedDocument table document rs × (operation_meant (read document rs) name ≡ none)))
coerced_variables_12_exactly = variables-call.variables_unnamed_exactly

-- The order: the document's length, the variables', the table's; then what opening refuses (table 7, 8, 9, document 3 to 6 and 8, 10, 12), whatever the variables text is.
pub coerced_variables_document_length_first : (table document name variables : List ℕ) {value report value' report' : List ℕ} {a : ℕ} → CoercedVariables table document name variables value report value' report' a → ValueLent value report → most_text < length document →
    (a ≡ 2) × (report' ≡ tells (OverLength input_document) report)
coerced_variables_document_length_first = variables-call.variables_document_first

pub coerced_variables_text_length_next : (table document name variables : List ℕ) {value report value' report' : List ℕ} {a : ℕ} → CoercedVariables table document name variables value report value' report' a → ValueLent value report → length document ≤ most_text → most_text < length variables →
    (a ≡ 2) × (report' ≡ tells (OverLength input_variables) report)
coerced_variables_text_length_next = variables-call.variables_text_next

pub coerced_variables_table_length_next : (table document name variables : List ℕ) {value report value' report' : List ℕ} {a : ℕ} → CoercedVariables table document name variables value report value' report' a → ValueLent value report → length document ≤ most_text → length variables ≤ most_text →
    most_table < length table → (a ≡ 2) × (report' ≡ tells (OverLength input_table) report)
coerced_variables_table_length_next = variables-call.variables_table_next

pub coerced_variables_opening_next : (table document name variables : List ℕ) {value report value' report' : List ℕ} {a : ℕ} → CoercedVariables table document name variables value report value' report' a → ValueLent value report → ValueShort table document variables →
    (k : ℕ) (shown : List ℕ) → Opened table document name (stops k shown) → (a ≡ k) × (report' ≡ filled report_size (k ∷ shown) report)
coerced_variables_opening_next = variables-call.variables_opening_next

-- Refusals 1 and 2 keep the value, and a shorter report is untouched itself; the other refusals zero the value's 8,192 bytes.
pub coerced_variables_1_and_2_keep : (table document name variables : List ℕ) {value report value' report' : List ℕ} {a : ℕ} → CoercedVariables table document name variables value report value' report' a → (a ≡ 1) ⊎ (a ≡ 2) → value' ≡ value
coerced_variables_1_and_2_keep = variables-call.variables_kept

pub coerced_variables_short_report_is_kept : (table document name variables : List ℕ) {value report value' report' : List ℕ} {a : ℕ} → CoercedVariables table document name variables value report value' report' a → length report < report_size →
    (a ≡ 1) × (value' ≡ value) × (report' ≡ report)
coerced_variables_short_report_is_kept = variables-call.variables_short_kept

pub coerced_variables_refusals_zero : (table document name variables : List ℕ) {value report value' report' : List ℕ} {a : ℕ} → CoercedVariables table document name variables value report value' report' a → 2 < a → take most_coerced value' ≡ replicate most_coerced 0
coerced_variables_refusals_zero = variables-call.variables_zeroed

-- The report begins with the answer; beyond the fixed sizes nothing is written.
pub coerced_variables_report_tells : (table document name variables : List ℕ) {value report value' report' : List ℕ} {a : ℕ} → CoercedVariables table document name variables value report value' report' a → report_size ≤ length report → (ns : List ℕ) × (report' ≡ a ∷ ns)
coerced_variables_report_tells = variables-call.variables_report_tells

pub coerced_variables_value_tail : (table document name variables : List ℕ) {value report value' report' : List ℕ} {a : ℕ} → CoercedVariables table document name variables value report value' report' a →
    (length value' ≡ length value) × (drop most_coerced value' ≡ drop most_coerced value)
coerced_variables_value_tail = variables-call.variables_value_tail

pub coerced_variables_report_tail : (table document name variables : List ℕ) {value report value' report' : List ℕ} {a : ℕ} → CoercedVariables table document name variables value report value' report' a →
    (length report' ≡ length report) × (drop report_size report' ≡ drop report_size report)
coerced_variables_report_tail = variables-call.variables_report_tail

-- ---- THE CALL `gw_coerce_arguments`: the arguments of the field at a row

-- Its statement is `CoercedArguments`: for every table, document, name, variables text, row, value and report of any length and content it says the answer and every number of both
-- buffers. Two results that satisfy it are equal.
pub coerced_arguments_one : {table document name variables value report value' report' value'' report'' : List ℕ} {row n n' : ℕ} →
    CoercedArguments table document name variables row value report value' report' n → CoercedArguments table document name variables row value report value'' report'' n' →
    (n ≡ n') × (value' ≡ value'') × (report' ≡ report'')
coerced_arguments_one = calls-one.coerced_arguments_one

-- Some result satisfies it, whatever the inputs and the buffers: that none does is refuted.
pub coerced_arguments_some : (table document name variables : List ℕ) (row : ℕ) (value report : List ℕ) →
    ((value' report' : List ℕ) (a : ℕ) → CoercedArguments table document name variables row value report value' report' a → ⊥) → ⊥
coerced_arguments_some = some-results.coerced_arguments_some

-- Where the buffers are lent and the inputs short enough, the ending that is due is the one that is told, and it fills both buffers.
pub coerced_arguments_told : (table document name variables : List ℕ) (row : ℕ) {value report value' report' : List ℕ} {a : ℕ} → CoercedArguments table document name variables row value report value' report' a →
    ValueLent value report → ValueShort table document variables → (e : Ending) → ArgumentsEnd table document name variables row e → (a ≡ answer_of e) × (value' ≡ value_left value e) × (report' ≡ report_left report e)
coerced_arguments_told = arguments-call.arguments_told

-- And 0, and every answer above 2, is an ending's that is due.
pub coerced_arguments_tells : (table document name variables : List ℕ) (row : ℕ) {value report value' report' : List ℕ} {a : ℕ} → CoercedArguments table document name variables row value report value' report' a → (a ≡ 0) ⊎ (2 < a) →
    ValueLent value report × ValueShort table document variables × ((e : Ending) × ArgumentsEnd table document name variables row e × (a ≡ answer_of e) × (value' ≡ value_left value e) × (report' ≡ report_left report e))
coerced_arguments_tells = arguments-call.arguments_tells

-- 0 exactly when all is read, the rules give a result, and its bytes are at most 8,192.
pub coerced_arguments_accepted_exactly : (table document name variables : List ℕ) (row : ℕ) {value report value' report' : List ℕ} {a : ℕ} → CoercedArguments table document name variables row value report value' report' a →
    (a ≡ 0)
    ↔ (ValueLent value report × ValueShort table document variables
    × ((rs : List Row) × (op : ℕ) × (vs : List Row) × (t : Tree) × ReachedField (read document rs) op row × VariablesRead table document name variables rs op vs
    × ArgumentsGive table document variables row rs op vs (Got t) × (length (encode t) ≤ most_coerced)))
coerced_arguments_accepted_exactly = arguments-call.arguments_accepted_exactly

-- Success leaves its bytes and zeros, and their count.
pub coerced_arguments_success : (table document name variables : List ℕ) (row : ℕ) {value report value' report' : List ℕ} {a : ℕ} → CoercedArguments table document name variables row value report value' report' a → a ≡ 0 →
    (rs : List Row) × (op : ℕ) × (vs : List Row) × (t : Tree) × ReachedField (read document rs) op row × VariablesRead table document name variables rs op vs
    × ArgumentsGive table document variables row rs op vs (Got t)
    × (take most_coerced value' ≡ encode t ++ replicate (most_coerced - length (encode t)) 0) × (take 2 report' ≡ 0 ∷ length (encode t) ∷ [])
coerced_arguments_success = arguments-call.arguments_success

-- Each tag 33 among these bytes holds the number that its token writes: an argument's, or one of the variables'.
pub coerced_arguments_tag_33 : (table document name variables : List ℕ) (row : ℕ) {value report value' report' : List ℕ} {a : ℕ} → CoercedArguments table document name variables row value report value' report' a → a ≡ 0 →
    (rs : List Row) × (op : ℕ) × (vs : List Row) × (bs : List ℕ) × ReachedField (read document rs) op row × VariablesRead table document name variables rs op vs
    × (take most_coerced value' ≡ bs ++ replicate (most_coerced - length bs) 0) × (take 2 report' ≡ 0 ∷ length bs ∷ [])
    × ((c : List ℕ) → FieldIn 33 c bs → (s : List ℕ) × (TokenOfField table document row rs s ⊎ TokenGiven document variables rs op vs s) × (number_read c ≡ number_written s))
coerced_arguments_tag_33 = tags.arguments_tag_33

-- 11 with a text, row and reason exactly when the rules refuse so; and 11 always shows them.
pub coerced_arguments_refused_exactly : (table document name variables : List ℕ) (row : ℕ) {value report value' report' : List ℕ} {a : ℕ} → CoercedArguments table document name variables row value report value' report' a → (i : At) (w : ℕ) →
    ((a ≡ 11) × (take 4 report' ≡ 11 ∷ i.text ∷ i.row ∷ w ∷ []))
    ↔ (ValueLent value report × ValueShort table document variables
    × ((rs : List Row) × (op : ℕ) × (vs : List Row) × ReachedField (read document rs) op row × VariablesRead table document name variables rs op vs
    × ArgumentsGive table document variables row rs op vs (No i w)))
coerced_arguments_refused_exactly = arguments-call.arguments_refused_exactly

pub coerced_arguments_refused_some : (table document name variables : List ℕ) (row : ℕ) {value report value' report' : List ℕ} {a : ℕ} → CoercedArguments table document name variables row value report value' report' a → a ≡ 11 →
    (i : At) × (w : ℕ) × (take 4 report' ≡ 11 ∷ i.text ∷ i.row ∷ w ∷ [])
    × ((rs : List Row) × (op : ℕ) × (vs : List Row) × ReachedField (read document rs) op row × VariablesRead table document name variables rs op vs
    × ArgumentsGive table document variables row rs op vs (No i w))
coerced_arguments_refused_some = arguments-call.arguments_refused_some

-- 16 exactly when all is read, nothing is refused, and the result is longer than 8,192 bytes; never where an 11 is due.
pub coerced_arguments_too_long_exactly : (table document name variables : List ℕ) (row : ℕ) {value report value' report' : List ℕ} {a : ℕ} → CoercedArguments table document name variables row value report value' report' a →
    (a ≡ 16)
    ↔ (ValueLent value report × ValueShort table document variables
    × ((rs : List Row) × (op : ℕ) × (vs : List Row) × (t : Tree) × ReachedField (read document rs) op row × VariablesRead table document name variables rs op vs
    × ArgumentsGive table document variables row rs op vs (Got t) × (most_coerced < length (encode t))))
coerced_arguments_too_long_exactly = arguments-call.arguments_too_long_exactly

pub coerced_arguments_refused_not_too_long : (table document name variables : List ℕ) (row : ℕ) {value report value' report' : List ℕ} {a : ℕ} → CoercedArguments table document name variables row value report value' report' a → (i : At) (w : ℕ) →
    (rs : List Row) × (op : ℕ) × (vs : List Row) × ReachedField (read document rs) op row × VariablesRead table document name variables rs op vs
    × ArgumentsGive table document variables row rs op vs (No i w) → a ≡ 16 → ⊥
coerced_arguments_refused_not_too_long = arguments-call.arguments_refused_not_too_long

-- 3 to 6 with an offset and the text 1 exactly when an operation is opened, the row reached and the variables text refused so.
pub coerced_arguments_text_exactly : (table document name variables : List ℕ) (row : ℕ) {value report value' report' : List ℕ} {a : ℕ} → CoercedArguments table document name variables row value report value' report' a → (k at : ℕ) → 2 < k → k < 7 →
    ((a ≡ k) × (take 3 report' ≡ k ∷ at ∷ 1 ∷ []))
    ↔ (ValueLent value report × ValueShort table document variables
    × ((rs : List Row) × (op : ℕ) × (r : Refusal) × ReachedField (read document rs) op row × VariablesUnread table document name variables rs op r × (number_of r ≡ k) × (shown_in_text input_variables r ≡ at ∷ 1 ∷ [])))
coerced_arguments_text_exactly = arguments-call.arguments_text_exactly

-- 12 exactly when table and document are accepted and the name means no operation, or the row is no field that the operation reaches: whatever the variables text is.
pub coerced_arguments_12_exactly : (table document name variables : List ℕ) (row : ℕ) {value report value' report' : List ℕ} {a : ℕ} → CoercedArguments table document name variables row value report value' report' a →
    (a ≡ 12)
    ↔ (ValueLent value report × ValueShort table document variables
    × (((rs : List Row) × AcceptedDocument table document rs × (operation_meant (read document rs) name ≡ none))
    ⊎ ((rs : List Row) × (op : ℕ) × Opened table document name (opens rs op) × (ReachedField (read document rs) op row → ⊥))))
coerced_arguments_12_exactly = arguments-call.arguments_unnamed_exactly

-- The order: the document's length, the variables', the table's; then what opening refuses (table 7, 8, 9, document 3 to 6 and 8, 10, 12), whatever the variables text is.
pub coerced_arguments_document_length_first : (table document name variables : List ℕ) (row : ℕ) {value report value' report' : List ℕ} {a : ℕ} → CoercedArguments table document name variables row value report value' report' a → ValueLent value report → most_text < length document →
    (a ≡ 2) × (report' ≡ tells (OverLength input_document) report)
coerced_arguments_document_length_first = arguments-call.arguments_document_first

pub coerced_arguments_text_length_next : (table document name variables : List ℕ) (row : ℕ) {value report value' report' : List ℕ} {a : ℕ} → CoercedArguments table document name variables row value report value' report' a → ValueLent value report → length document ≤ most_text → most_text < length variables →
    (a ≡ 2) × (report' ≡ tells (OverLength input_variables) report)
coerced_arguments_text_length_next = arguments-call.arguments_text_next

pub coerced_arguments_table_length_next : (table document name variables : List ℕ) (row : ℕ) {value report value' report' : List ℕ} {a : ℕ} → CoercedArguments table document name variables row value report value' report' a → ValueLent value report → length document ≤ most_text → length variables ≤ most_text →
    most_table < length table → (a ≡ 2) × (report' ≡ tells (OverLength input_table) report)
coerced_arguments_table_length_next = arguments-call.arguments_table_next

pub coerced_arguments_opening_next : (table document name variables : List ℕ) (row : ℕ) {value report value' report' : List ℕ} {a : ℕ} → CoercedArguments table document name variables row value report value' report' a → ValueLent value report → ValueShort table document variables →
    (k : ℕ) (shown : List ℕ) → Opened table document name (stops k shown) → (a ≡ k) × (report' ≡ filled report_size (k ∷ shown) report)
coerced_arguments_opening_next = arguments-call.arguments_opening_next

-- Refusals 1 and 2 keep the value, and a shorter report is untouched itself; the other refusals zero the value's 8,192 bytes.
pub coerced_arguments_1_and_2_keep : (table document name variables : List ℕ) (row : ℕ) {value report value' report' : List ℕ} {a : ℕ} → CoercedArguments table document name variables row value report value' report' a → (a ≡ 1) ⊎ (a ≡ 2) → value' ≡ value
coerced_arguments_1_and_2_keep = arguments-call.arguments_kept

pub coerced_arguments_short_report_is_kept : (table document name variables : List ℕ) (row : ℕ) {value report value' report' : List ℕ} {a : ℕ} → CoercedArguments table document name variables row value report value' report' a → length report < report_size →
    (a ≡ 1) × (value' ≡ value) × (report' ≡ report)
coerced_arguments_short_report_is_kept = arguments-call.arguments_short_kept

pub coerced_arguments_refusals_zero : (table document name variables : List ℕ) (row : ℕ) {value report value' report' : List ℕ} {a : ℕ} → CoercedArguments table document name variables row value report value' report' a → 2 < a → take most_coerced value' ≡ replicate most_coerced 0
coerced_arguments_refusals_zero = arguments-call.arguments_zeroed

-- The report begins with the answer; beyond the fixed sizes nothing is written.
pub coerced_arguments_report_tells : (table document name variables : List ℕ) (row : ℕ) {value report value' report' : List ℕ} {a : ℕ} → CoercedArguments table document name variables row value report value' report' a → report_size ≤ length report → (ns : List ℕ) × (report' ≡ a ∷ ns)
coerced_arguments_report_tells = arguments-call.arguments_report_tells

pub coerced_arguments_value_tail : (table document name variables : List ℕ) (row : ℕ) {value report value' report' : List ℕ} {a : ℕ} → CoercedArguments table document name variables row value report value' report' a →
    (length value' ≡ length value) × (drop most_coerced value' ≡ drop most_coerced value)
coerced_arguments_value_tail = arguments-call.arguments_value_tail

pub coerced_arguments_report_tail : (table document name variables : List ℕ) (row : ℕ) {value report value' report' : List ℕ} {a : ℕ} → CoercedArguments table document name variables row value report value' report' a →
    (length report' ≡ length report) × (drop report_size report' ≡ drop report_size report)
coerced_arguments_report_tail = arguments-call.arguments_report_tail
