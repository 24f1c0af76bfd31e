-- For a call that coerces a field's arguments as an object of their definitions: an argument has no default, so one that lacks is missing or left out.
use mathlib.Core.Path.{◌≡◌, refl, ap}
use mathlib.Core.Bool.{true}
use mathlib.Core.List.{List, [], ◌∷◌, map}
use Prim.Native.Nat.{ℕ}
use Rattle.paper.specs.Numbers.{kind_argument}
use Rattle.paper_table.specs.Lists.{all_of, gather}
use Rattle.paper_table.specs.Types.{Argument}
use Rattle.table_members.specs.Members.{arguments_in}
use Rattle.table_types.specs.Sizes.{slim_argument}
use Rattle.table_types.proofs.SlimLaws.{all_head, all_tail}
use Rattle.paper_values.specs.ValueNumbers.{reason_repeated, reason_unknown}
use Rattle.paper_values.specs.Values.{Name, At, Due, Fields, Pairs, Out, Got, and_then}
use Rattle.paper_values.specs.Kinds.{Kind, due_argument}
use Rattle.paper_values.specs.Coercion.{Head, repeated_entry, unknown_entry}
use Rattle.paper_values.specs.Computed.{Given, missing_due, due_field, due_fields, entry_of, unless, in_object, or_default}
use Rattle.value_entries.specs.Entered.{dues_by}
use Rattle.value_coerce.specs.Coercing.{slim_due}

module _ (kinds : Name → Kind) (i : At) (gs : List Given) where
  lacks_same : (xs : List Argument) → due_fields (λ d rest. or_default kinds i d d.default rest) gs (map due_argument xs) ≡ due_fields (missing_due i) gs (map due_argument xs)
  lacks_same [] = refl
  lacks_same (x ∷ xs) = ap (λ (r : Out Pairs). due_field (missing_due i (due_argument x) r) (due_argument x) (entry_of x.name gs) r) (lacks_same xs)

  pub arguments_same : (hs : List Head) (xs : List Argument) → in_object (λ d rest. or_default kinds i d d.default rest) hs gs (map due_argument xs) ≡ in_object (missing_due i) hs gs (map due_argument xs)
  arguments_same hs xs = ap (λ (o : Out Pairs). unless (repeated_entry [] hs) reason_repeated (unless (unknown_entry (map due_argument xs) hs) reason_unknown (and_then o (λ (ps : Pairs). Got (Fields ps))))) (lacks_same xs)

-- what the arguments in a content make due
gathered : (xs : List Argument) → gather (λ a. due_argument a ∷ []) xs ≡ map due_argument xs
unfolding gather
gathered [] = refl
gathered (x ∷ xs) = ap (λ (ds : List Due). due_argument x ∷ ds) (gathered xs)

pub dues_arguments : (t : List ℕ) (start end : ℕ) → dues_by kind_argument t start end ≡ map due_argument (arguments_in t start end)
dues_arguments t start end = gathered (arguments_in t start end)

pub slim_arguments : (xs : List Argument) → all_of slim_argument xs ≡ true → all_of slim_due (map due_argument xs) ≡ true
unfolding all_of
slim_arguments [] e = refl
slim_arguments (x ∷ xs) e = rw (all_head slim_argument x xs e) (slim_arguments xs (all_tail slim_argument x xs e))
