-- Breaks met one after the other: definition by definition, rule by rule.
use mathlib.Core.Path.{◌≡◌, refl, sym, ap, ◌∙◌}
use mathlib.Core.Bool.{Bool, true, false, cond}
use mathlib.Core.Option.{Option, none, some}
use mathlib.Core.List.{List, [], ◌∷◌, ◌++◌, map, head?}
use Prim.Native.Nat.{ℕ, suc, ◌<◌}
use native.Mathlib.Nat.{le_refl}
use lib.ListN.{length, drop, get_or}
use Rattle.paper_table.specs.TableNumbers.{rule_root}
use Rattle.paper_table.specs.Lists.{gather, each_from, only_if}
use Rattle.paper_table.specs.Types.{Definition, Table, blank_definition, tag_nothing}
use Rattle.paper_table.specs.Places.{Place, whole_of, Rule}
use Rattle.paper_table.specs.Rule1ReservedName.{reserved_name}
use Rattle.paper_table.specs.Rule2NameKnown.{name_known}
use Rattle.paper_table.specs.Rule3NoMembers.{no_members}
use Rattle.paper_table.specs.Rule4NameRepeated.{name_repeated}
use Rattle.paper_table.specs.Rule5ReservedMember.{reserved_member}
use Rattle.paper_table.specs.Rule6EnumValue.{enum_value}
use Rattle.paper_table.specs.Rule7NoType.{no_type}
use Rattle.paper_table.specs.Rule8Base.{wrong_base}
use Rattle.paper_table.specs.Rule9NotObjectOrInterface.{not_object_or_interface}
use Rattle.paper_table.specs.Rule10ImplementedTwice.{implemented_twice}
use Rattle.paper_table.specs.Rule11FieldMissing.{interface_field_missing}
use Rattle.paper_table.specs.Rule12FieldType.{field_type}
use Rattle.paper_table.specs.Rule13ArgumentMissing.{interface_argument_missing}
use Rattle.paper_table.specs.Rule14ArgumentType.{argument_type}
use Rattle.paper_table.specs.Rule15ArgumentExtra.{argument_extra}
use Rattle.paper_table.specs.Rule16Root.{root_not_object, query_not_object}
use Rattle.paper_table.specs.Judging.{rules, Break, break, breaks_of, breaks}
use Rattle.paper_table.proofs.ListsLaws.{head_left, head_right, each_from_at, each_from_end}

-- the first, or else the second
abbrev pub or_else : {A : Type 0} → Option A → Option A → Option A
or_else none q = q
or_else (some x) q = some x

pub head_append : {A : Type 0} (xs ys : List A) → head? (xs ++ ys) ≡ or_else (head? xs) (head? ys)
head_append [] ys = refl
head_append (x ∷ xs) ys = refl

-- the break of a rule's first place
abbrev pub broken_at : ℕ → ℕ → Option Place → Option Break
broken_at i k none = none
broken_at i k (some q) = some (break i k q)

record First (bs : List Break) (o : Option Break) : Type 0 where
  is : head? bs ≡ o

by_rule : (i k : ℕ) (qs : List Place) {bs : List Break} {o : Option Break} → First bs o → First (map (break i k) qs ++ bs) (or_else (broken_at i k (head? qs)) o)
by_rule i k [] f = f
by_rule i k (q ∷ qs) f = record { is = refl }

-- what rule number k shows of a definition first
abbrev pub shows : ℕ → Rule → Table → ℕ → Definition → Option Break
shows k rule t i d = broken_at i k (head? (rule t i d))

-- A definition's first break: the rules in turn.
pub breaks_of_first : (t : Table) (i : ℕ) (d : Definition) → head? (breaks_of t i d) ≡
    or_else (shows 1 reserved_name t i d) (or_else (shows 2 name_known t i d) (or_else (shows 3 no_members t i d) (or_else (shows 4 name_repeated t i d)
    (or_else (shows 5 reserved_member t i d) (or_else (shows 6 enum_value t i d) (or_else (shows 7 no_type t i d) (or_else (shows 8 wrong_base t i d)
    (or_else (shows 9 not_object_or_interface t i d) (or_else (shows 10 implemented_twice t i d) (or_else (shows 11 interface_field_missing t i d) (or_else (shows 12 field_type t i d)
    (or_else (shows 13 interface_argument_missing t i d) (or_else (shows 14 argument_type t i d) (or_else (shows 15 argument_extra t i d) (or_else (shows 16 root_not_object t i d) none)))))))))))))))
unfolding breaks_of rules gather
breaks_of_first t i d =
    (by_rule i 1 (reserved_name t i d) (by_rule i 2 (name_known t i d) (by_rule i 3 (no_members t i d) (by_rule i 4 (name_repeated t i d)
    (by_rule i 5 (reserved_member t i d) (by_rule i 6 (enum_value t i d) (by_rule i 7 (no_type t i d) (by_rule i 8 (wrong_base t i d)
    (by_rule i 9 (not_object_or_interface t i d) (by_rule i 10 (implemented_twice t i d) (by_rule i 11 (interface_field_missing t i d) (by_rule i 12 (field_type t i d)
    (by_rule i 13 (interface_argument_missing t i d) (by_rule i 14 (argument_type t i d) (by_rule i 15 (argument_extra t i d) (by_rule i 16 (root_not_object t i d)
    (record { is = refl }))))))))))))))))).is

-- the breaks from definition number i on
abbrev pub breaks_from : Table → ℕ → List Break
breaks_from t i = each_from i (breaks_of t) (drop i t) ++ only_if (query_not_object t) (break (length t) rule_root whole_of)

abbrev pub definition_at : Table → ℕ → Definition
definition_at t i = get_or t i (blank_definition tag_nothing)

pub breaks_start : (t : Table) → breaks t ≡ breaks_from t 0
unfolding breaks
breaks_start t = refl

-- definition i breaks nothing: on with the next
pub breaks_on : (t : Table) (i : ℕ) → i < length t → head? (breaks_of t i (definition_at t i)) ≡ none → head? (breaks_from t i) ≡ head? (breaks_from t (suc i))
breaks_on t i h e =
    let last : List Break = only_if (query_not_object t) (break (length t) rule_root whole_of) in
    let rest : List Break = each_from (suc i) (breaks_of t) (drop (suc i) t) in
    ap (λ (bs : List Break). head? (bs ++ last)) (each_from_at (breaks_of t) t i (blank_definition tag_nothing) h)
    ∙ head_append (breaks_of t i (definition_at t i) ++ rest) last
    ∙ ap (λ (o : Option Break). or_else o (head? last)) (head_right (breaks_of t i (definition_at t i)) rest e)
    ∙ sym (head_append rest last)

-- it breaks something, and that is shown
pub breaks_here : (t : Table) (i : ℕ) (b : Break) → i < length t → head? (breaks_of t i (definition_at t i)) ≡ some b → head? (breaks_from t i) ≡ some b
breaks_here t i b h e =
    let last : List Break = only_if (query_not_object t) (break (length t) rule_root whole_of) in
    let rest : List Break = each_from (suc i) (breaks_of t) (drop (suc i) t) in
    ap (λ (bs : List Break). head? (bs ++ last)) (each_from_at (breaks_of t) t i (blank_definition tag_nothing) h)
    ∙ head_left (breaks_of t i (definition_at t i) ++ rest) last b (head_left (breaks_of t i (definition_at t i)) rest b e)

-- behind the last definition: without record 8 `Query` is asked for
pub breaks_end : (t : Table) → head? (breaks_from t (length t)) ≡ cond (query_not_object t) (some (break (length t) rule_root whole_of)) none
breaks_end t = rw (each_from_end (breaks_of t) t (length t) (le_refl (length t))) (go (query_not_object t))
  where
    go : (b : Bool) → head? (only_if b (break (length t) rule_root whole_of)) ≡ cond b (some (break (length t) rule_root whole_of)) none
    go true = refl
    go false = refl
