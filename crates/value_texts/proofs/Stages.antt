-- A variable definition in a derivation, from the mark of its kind to its end and beyond, stage by stage; and the test of all productions.
use mathlib.Core.Path.{◌≡◌, refl, sym, ap, ◌∙◌, subst}
use mathlib.Core.Bool.{Bool, true, false, ◌&&◌, ◌||◌, cond}
use mathlib.Core.List.{List, [], ◌∷◌, ◌++◌, Memᴰ}
use Prim.Native.Nat.{ℕ, zero, suc}
use lib.Dec.{T, eqb, leb}
use Rattle.paper.specs.Grammar.{Sym, nt, tm, act}
use Rattle.paper.specs.Numbers.{kind_type_reference, kind_variable, kind_object}
use Rattle.paper.specs.Language.{Terminal, Mark, row, kind, named, wrapper, wrap, end, Part, language}
use Rattle.paper.specs.Language.{Document, Definition+, Definition*, Definition, OperationDefinition, OperationType, OperationName?, SelectionSet, Selection+, Selection*, Selection, Field, Alias?, Alias, SelectionSet?, Arguments?, Arguments, Argument+, Argument*, Argument, FragmentSpread, FragmentDefinition, FragmentName, TypeCondition?, TypeCondition, InlineFragment, Value, ListValue, Value+, Value*, ObjectValue, ObjectField+, ObjectField*, ObjectField, ConstValue, ConstListValue, ConstValue+, ConstValue*, ConstObjectValue, ConstObjectField+, ConstObjectField*, ConstObjectField, EnumValue, VariableDefinitions?, VariableDefinitions, VariableDefinition+, VariableDefinition*, VariableDefinition, DefaultValue?, DefaultValue, TypeRef, NamedType, ListType, NonNullType, Directives?, Directives, Directive+, Directive*, Directive, Name, VariablesText, SpreadRest, AliasRest, Bang?}
use Rattle.paper.proofs.Bools.{and_l, and_r}
use Rattle.paper.proofs.Tables.{all_n, num_n, at_n}
use Rattle.paper_theory.proofs.Test.{all, all_at, all_mem}
use Rattle.value_texts.proofs.Phases.{Syms, is_among}

-- The definition has its kind; a row behind it began; that is a type reference; it ended; another row began; a value k rows deep in it;
-- it ended; the definition ended.
pub data Stage : Type 0 where
  opened typing typed ready given filled gone wrong : Stage
  deep : ℕ → Stage

abbrev in_ref : Part → Bool
in_ref n = is_among (TypeRef ∷ NamedType ∷ ListType ∷ NonNullType ∷ Bang? ∷ Name ∷ []) n

abbrev is_const : Part → Bool
is_const n = is_among (ConstValue ∷ ConstListValue ∷ ConstValue+ ∷ ConstValue* ∷ ConstObjectValue ∷ ConstObjectField+ ∷ ConstObjectField* ∷ ConstObjectField ∷ EnumValue ∷ Name ∷ []) n

abbrev of_part : Part → Stage → Stage
of_part n opened = cond (is_among (Name ∷ []) n) opened wrong
of_part n typing = wrong
of_part n typed = cond (in_ref n) typed wrong
of_part n ready = cond (is_among (ConstValue ∷ DefaultValue ∷ DefaultValue? ∷ []) n) filled wrong
of_part n given = wrong
of_part n (deep k) = cond (is_const n) (deep k) wrong
of_part n filled = wrong
of_part n gone = gone
of_part n wrong = wrong

abbrev pub of_token : Stage → Stage
of_token opened = opened
of_token typing = wrong
of_token typed = typed
of_token ready = ready
of_token given = wrong
of_token (deep k) = deep k
of_token filled = filled
of_token gone = gone
of_token wrong = wrong

abbrev pub of_mark : Mark → Stage → Stage
of_mark row opened = typing
of_mark row typing = wrong
of_mark row typed = wrong
of_mark row ready = given
of_mark row given = wrong
of_mark row (deep k) = deep (suc k)
of_mark row filled = wrong
of_mark row gone = gone
of_mark row wrong = wrong
of_mark (kind j x) opened = wrong
of_mark (kind j x) typing = cond (eqb j kind_type_reference) typed wrong
of_mark (kind j x) typed = wrong
of_mark (kind j x) ready = wrong
of_mark (kind j x) given = cond (leb kind_variable j && leb j kind_object) (deep 0) wrong
of_mark (kind j x) (deep k) = deep k
of_mark (kind j x) filled = wrong
of_mark (kind j x) gone = gone
of_mark (kind j x) wrong = wrong
of_mark named opened = opened
of_mark named typing = wrong
of_mark named typed = typed
of_mark named ready = wrong
of_mark named given = wrong
of_mark named (deep k) = deep k
of_mark named filled = wrong
of_mark named gone = gone
of_mark named wrong = wrong
of_mark wrapper opened = wrong
of_mark wrapper typing = wrong
of_mark wrapper typed = typed
of_mark wrapper ready = wrong
of_mark wrapper given = wrong
of_mark wrapper (deep k) = deep k
of_mark wrapper filled = wrong
of_mark wrapper gone = gone
of_mark wrapper wrong = wrong
of_mark (wrap w) opened = wrong
of_mark (wrap w) typing = wrong
of_mark (wrap w) typed = typed
of_mark (wrap w) ready = wrong
of_mark (wrap w) given = wrong
of_mark (wrap w) (deep k) = deep k
of_mark (wrap w) filled = wrong
of_mark (wrap w) gone = gone
of_mark (wrap w) wrong = wrong
of_mark end opened = wrong
of_mark end typing = wrong
of_mark end typed = ready
of_mark end ready = gone
of_mark end given = wrong
of_mark end (deep zero) = filled
of_mark end (deep (suc k)) = deep k
of_mark end filled = gone
of_mark end gone = gone
of_mark end wrong = wrong

abbrev step : Sym Part Terminal Mark → Stage → Stage
step (nt n) φ = of_part n φ
step (tm p) φ = of_token φ
step (act m) φ = of_mark m φ

abbrev pub run : Syms → Stage → Stage
run [] φ = φ
run (x ∷ ss) φ = run ss (step x φ)

abbrev pub is_gone : Stage → Bool
is_gone opened = false
is_gone typing = false
is_gone typed = false
is_gone ready = false
is_gone given = false
is_gone (deep k) = false
is_gone filled = false
is_gone gone = true
is_gone wrong = false

abbrev is_opened : Stage → Bool
is_opened opened = true
is_opened typing = false
is_opened typed = false
is_opened ready = false
is_opened given = false
is_opened (deep k) = false
is_opened filled = false
is_opened gone = false
is_opened wrong = false

abbrev is_typed : Stage → Bool
is_typed opened = false
is_typed typing = false
is_typed typed = true
is_typed ready = false
is_typed given = false
is_typed (deep k) = false
is_typed filled = false
is_typed gone = false
is_typed wrong = false

abbrev is_ready : Stage → Bool
is_ready opened = false
is_ready typing = false
is_ready typed = false
is_ready ready = true
is_ready given = false
is_ready (deep k) = false
is_ready filled = false
is_ready gone = false
is_ready wrong = false

abbrev is_filled : Stage → Bool
is_filled opened = false
is_filled typing = false
is_filled typed = false
is_filled ready = false
is_filled given = false
is_filled (deep k) = false
is_filled filled = true
is_filled gone = false
is_filled wrong = false

opened_is : (φ : Stage) → T (is_opened φ) → φ ≡ opened
opened_is opened t = refl
opened_is typing t = absurd t
opened_is typed t = absurd t
opened_is ready t = absurd t
opened_is given t = absurd t
opened_is (deep k) t = absurd t
opened_is filled t = absurd t
opened_is gone t = absurd t
opened_is wrong t = absurd t

typed_is : (φ : Stage) → T (is_typed φ) → φ ≡ typed
typed_is opened t = absurd t
typed_is typing t = absurd t
typed_is typed t = refl
typed_is ready t = absurd t
typed_is given t = absurd t
typed_is (deep k) t = absurd t
typed_is filled t = absurd t
typed_is gone t = absurd t
typed_is wrong t = absurd t

-- what goes on from the second goes on from the first
pub data Leq : Stage → Stage → Type 0 where
  same : {φ : Stage} → Leq φ φ
  sooner : Leq ready filled
  never : {φ : Stage} → Leq φ wrong

step_wrong : (x : Sym Part Terminal Mark) → step x wrong ≡ wrong
step_wrong (nt n) = refl
step_wrong (tm p) = refl
step_wrong (act row) = refl
step_wrong (act (kind k x)) = refl
step_wrong (act named) = refl
step_wrong (act wrapper) = refl
step_wrong (act (wrap w)) = refl
step_wrong (act end) = refl

step_gone : (x : Sym Part Terminal Mark) → step x gone ≡ gone
step_gone (nt n) = refl
step_gone (tm p) = refl
step_gone (act row) = refl
step_gone (act (kind k x)) = refl
step_gone (act named) = refl
step_gone (act wrapper) = refl
step_gone (act (wrap w)) = refl
step_gone (act end) = refl

sooner_step : (x : Sym Part Terminal Mark) → Leq (step x ready) (step x filled)
sooner_step (nt n) = never
sooner_step (tm p) = sooner
sooner_step (act row) = never
sooner_step (act (kind k x)) = same
sooner_step (act named) = same
sooner_step (act wrapper) = same
sooner_step (act (wrap w)) = same
sooner_step (act end) = same

step_mono : (x : Sym Part Terminal Mark) {φ ψ : Stage} → Leq φ ψ → Leq (step x φ) (step x ψ)
step_mono x same = same
step_mono x sooner = sooner_step x
step_mono x (never {φ}) = subst (λ (ψ : Stage). Leq (step x φ) ψ) (sym (step_wrong x)) never

run_mono : (ss : Syms) {φ ψ : Stage} → Leq φ ψ → Leq (run ss φ) (run ss ψ)
run_mono [] l = l
run_mono (x ∷ ss) l = run_mono ss (step_mono x l)

pub run_append : (α ss : Syms) (φ : Stage) → run (α ++ ss) φ ≡ run ss (run α φ)
run_append [] ss φ = refl
run_append (x ∷ α) ss φ = run_append α ss (step x φ)

leq_gone : {φ ψ : Stage} → Leq φ ψ → T (is_gone ψ) → T (is_gone φ)
leq_gone same t = t
leq_gone sooner t = absurd t
leq_gone never t = absurd t

run_wrong : (ss : Syms) → run ss wrong ≡ wrong
run_wrong [] = refl
run_wrong (x ∷ ss) = ap (run ss) (step_wrong x) ∙ run_wrong ss

pub run_gone : (ss : Syms) → run ss gone ≡ gone
run_gone [] = refl
run_gone (x ∷ ss) = ap (run ss) (step_gone x) ∙ run_gone ss

pub not_gone : (ss : Syms) → T (is_gone (run ss wrong)) → ⊥
not_gone ss t = subst (λ (φ : Stage). T (is_gone φ)) (run_wrong ss) t

-- the order as a test, below what a part leaves
abbrev leq : Stage → Stage → Bool
leq φ opened = is_opened φ
leq φ typing = false
leq φ typed = is_typed φ
leq φ ready = false
leq φ given = false
leq φ (deep k) = false
leq φ filled = is_filled φ || is_ready φ
leq φ gone = false
leq φ wrong = true

filled_is : (φ : Stage) → T (is_filled φ || is_ready φ) → Leq φ filled
filled_is opened t = absurd t
filled_is typing t = absurd t
filled_is typed t = absurd t
filled_is ready t = sooner
filled_is given t = absurd t
filled_is (deep k) t = absurd t
filled_is filled t = same
filled_is gone t = absurd t
filled_is wrong t = absurd t

leq_is : (φ ψ : Stage) → T (leq φ ψ) → Leq φ ψ
leq_is φ opened t = rw (opened_is φ t) same
leq_is φ typing t = absurd t
leq_is φ typed t = rw (typed_is φ t) same
leq_is φ ready t = absurd t
leq_is φ given t = absurd t
leq_is φ (deep k) t = absurd t
leq_is φ filled t = filled_is φ t
leq_is φ gone t = absurd t
leq_is φ wrong t = never

-- the test of all productions
abbrev passes : Part → Syms → Bool
passes n α = leq (run α opened) (of_part n opened) && (leq (run α typed) (of_part n typed) && leq (run α ready) (of_part n ready))

abbrev part_tested : Part → Bool
part_tested n = all (λ α. passes n α) (language n)

tested : T (all part_tested all_n)
unfolding language
tested = tt

part_passes : (n : Part) {α : Syms} → Memᴰ α (language n) → T (passes n α)
part_passes n m = all_mem (λ α. passes n α) (all_at part_tested all_n (num_n n) tested (at_n n)) m

-- in a value, however deep
abbrev AllDeep : ℕ → List Syms → Type 0
AllDeep k [] = Unit {0}
AllDeep k (α ∷ αs) = (run α (deep k) ≡ deep k) × AllDeep k αs

mem_deep : (k : ℕ) {α : Syms} {αs : List Syms} → AllDeep k αs → Memᴰ α αs → run α (deep k) ≡ deep k
mem_deep k h (Memᴰ.head e) = rw e h.0
mem_deep k h (Memᴰ.tail m) = mem_deep k h.1 m

deep_part : (n : Part) → T (is_const n) → (k : ℕ) {α : Syms} → Memᴰ α (language n) → run α (deep k) ≡ deep k
unfolding language
deep_part Document t k m = absurd t
deep_part Definition+ t k m = absurd t
deep_part Definition* t k m = absurd t
deep_part Definition t k m = absurd t
deep_part OperationDefinition t k m = absurd t
deep_part OperationType t k m = absurd t
deep_part OperationName? t k m = absurd t
deep_part SelectionSet t k m = absurd t
deep_part Selection+ t k m = absurd t
deep_part Selection* t k m = absurd t
deep_part Selection t k m = absurd t
deep_part Field t k m = absurd t
deep_part Alias? t k m = absurd t
deep_part Alias t k m = absurd t
deep_part SelectionSet? t k m = absurd t
deep_part Arguments? t k m = absurd t
deep_part Arguments t k m = absurd t
deep_part Argument+ t k m = absurd t
deep_part Argument* t k m = absurd t
deep_part Argument t k m = absurd t
deep_part FragmentSpread t k m = absurd t
deep_part FragmentDefinition t k m = absurd t
deep_part FragmentName t k m = absurd t
deep_part TypeCondition? t k m = absurd t
deep_part TypeCondition t k m = absurd t
deep_part InlineFragment t k m = absurd t
deep_part Value t k m = absurd t
deep_part ListValue t k m = absurd t
deep_part Value+ t k m = absurd t
deep_part Value* t k m = absurd t
deep_part ObjectValue t k m = absurd t
deep_part ObjectField+ t k m = absurd t
deep_part ObjectField* t k m = absurd t
deep_part ObjectField t k m = absurd t
deep_part ConstValue t k m = mem_deep k (refl, (refl, (refl, (refl, (refl, (refl, (refl, (refl, (refl, tt))))))))) m
deep_part ConstListValue t k m = mem_deep k (refl, (refl, tt)) m
deep_part ConstValue+ t k m = mem_deep k (refl, tt) m
deep_part ConstValue* t k m = mem_deep k (refl, (refl, tt)) m
deep_part ConstObjectValue t k m = mem_deep k (refl, (refl, tt)) m
deep_part ConstObjectField+ t k m = mem_deep k (refl, tt) m
deep_part ConstObjectField* t k m = mem_deep k (refl, (refl, tt)) m
deep_part ConstObjectField t k m = mem_deep k (refl, tt) m
deep_part EnumValue t k m = mem_deep k (refl, tt) m
deep_part VariableDefinitions? t k m = absurd t
deep_part VariableDefinitions t k m = absurd t
deep_part VariableDefinition+ t k m = absurd t
deep_part VariableDefinition* t k m = absurd t
deep_part VariableDefinition t k m = absurd t
deep_part DefaultValue? t k m = absurd t
deep_part DefaultValue t k m = absurd t
deep_part TypeRef t k m = absurd t
deep_part NamedType t k m = absurd t
deep_part ListType t k m = absurd t
deep_part NonNullType t k m = absurd t
deep_part Directives? t k m = absurd t
deep_part Directives t k m = absurd t
deep_part Directive+ t k m = absurd t
deep_part Directive* t k m = absurd t
deep_part Directive t k m = absurd t
deep_part Name t k m = mem_deep k (refl, tt) m
deep_part VariablesText t k m = absurd t
deep_part SpreadRest t k m = absurd t
deep_part AliasRest t k m = absurd t
deep_part Bang? t k m = absurd t

goes_on : (α ss : Syms) (φ ψ : Stage) → T (leq (run α φ) ψ) → T (is_gone (run ss ψ)) → T (is_gone (run (α ++ ss) φ))
goes_on α ss φ ψ l t = rw (run_append α ss φ) (leq_gone (run_mono ss (leq_is (run α φ) ψ l)) t)

-- a part's production in its place
pub run_by : (n : Part) (α ss : Syms) (φ : Stage) → Memᴰ α (language n) → T (is_gone (run (nt n ∷ ss) φ)) → T (is_gone (run (α ++ ss) φ))
run_by n α ss opened m t = goes_on α ss opened (of_part n opened) (and_l (leq (run α opened) (of_part n opened)) (leq (run α typed) (of_part n typed) && leq (run α ready) (of_part n ready)) (part_passes n m)) t
run_by n α ss typing m t = absurd (not_gone ss t)
run_by n α ss typed m t =
    goes_on α ss typed (of_part n typed)
    (and_l (leq (run α typed) (of_part n typed)) (leq (run α ready) (of_part n ready)) (and_r (leq (run α opened) (of_part n opened)) (leq (run α typed) (of_part n typed) && leq (run α ready) (of_part n ready)) (part_passes n m))) t
run_by n α ss ready m t =
    goes_on α ss ready (of_part n ready)
    (and_r (leq (run α typed) (of_part n typed)) (leq (run α ready) (of_part n ready)) (and_r (leq (run α opened) (of_part n opened)) (leq (run α typed) (of_part n typed) && leq (run α ready) (of_part n ready)) (part_passes n m))) t
run_by n α ss given m t = absurd (not_gone ss t)
run_by n α ss (deep k) m t = go (is_const n) refl t
  where
    go : (c : Bool) → is_const n ≡ c → T (is_gone (run ss (cond c (deep k) wrong))) → T (is_gone (run (α ++ ss) (deep k)))
    go true e t = rw (run_append α ss (deep k), deep_part n (subst T (sym e) tt) k m) t
    go false e t = absurd (not_gone ss t)
run_by n α ss filled m t = absurd (not_gone ss t)
run_by n α ss gone m t = rw (run_gone (α ++ ss)) tt
run_by n α ss wrong m t = absurd (not_gone ss t)
