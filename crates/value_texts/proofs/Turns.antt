-- Where a derivation stands in a type reference, and how many wrappers are still to be written; and the test of all productions.
use mathlib.Core.Path.{◌≡◌, refl, sym, ap, ◌∙◌, subst}
use mathlib.Core.Bool.{Bool, true, false, ◌||◌, not, cond}
use mathlib.Core.List.{List, [], ◌∷◌, ◌++◌, Memᴰ}
use Prim.Native.Nat.{ℕ, zero, suc}
use lib.Dec.{T, eqb, leb}
use Rattle.paper.specs.Grammar.{Sym, nt, tm, act}
use Rattle.paper.specs.Numbers.{kind_type_reference, wrap_list, wrap_non_null}
use Rattle.paper.specs.Language.{Terminal, Mark, row, kind, named, wrapper, wrap, end, Part, language}
use Rattle.paper.specs.Language.{Document, Definition+, Definition*, Definition, OperationDefinition, OperationType, OperationName?, SelectionSet, Selection+, Selection*, Selection, Field, Alias?, Alias, SelectionSet?, Arguments?, Arguments, Argument+, Argument*, Argument, FragmentSpread, FragmentDefinition, FragmentName, TypeCondition?, TypeCondition, InlineFragment, Value, ListValue, Value+, Value*, ObjectValue, ObjectField+, ObjectField*, ObjectField, ConstValue, ConstListValue, ConstValue+, ConstValue*, ConstObjectValue, ConstObjectField+, ConstObjectField*, ConstObjectField, EnumValue, VariableDefinitions?, VariableDefinitions, VariableDefinition+, VariableDefinition*, VariableDefinition, DefaultValue?, DefaultValue, TypeRef, NamedType, ListType, NonNullType, Directives?, Directives, Directive+, Directive*, Directive, Name, VariablesText, SpreadRest, AliasRest, Bang?}
use Rattle.paper.proofs.Bools.{or_l, or_r}
use Rattle.paper.proofs.Tables.{all_n, num_n, at_n}
use Rattle.paper_theory.proofs.Test.{all, all_at, all_mem, implies, implies_out}
use Rattle.value_texts.proofs.Phases.{Syms, is_among}

-- no type reference is open; one is, and so many wrappers of it are to be written; the same, and a wrapper's token comes next
pub data Turn : Type 0 where
  outside wrong : Turn
  inside due : ℕ → Turn

-- the parts of a type reference
abbrev in_ref : Part → Bool
in_ref n = is_among (TypeRef ∷ NamedType ∷ ListType ∷ NonNullType ∷ Bang? ∷ []) n

abbrev is_name : Part → Bool
is_name n = is_among (Name ∷ []) n

-- another part
abbrev of_other : ℕ → Turn
of_other zero = outside
of_other (suc k) = wrong

abbrev of_part : Part → Turn → Turn
of_part n outside = cond (in_ref n) wrong outside
of_part n wrong = wrong
of_part n (inside k) = cond (in_ref n || is_name n) (inside k) (of_other k)
of_part n (due k) = wrong

abbrev pub of_token : Terminal → Turn → Turn
of_token p outside = outside
of_token p wrong = wrong
of_token p (inside k) = inside k
of_token p (due k) = inside k

-- a type reference begins without wrappers; another extra is at most 2
abbrev pub of_kind_mark : ℕ → ℕ → Turn
of_kind_mark k x = cond (eqb k kind_type_reference) (cond (eqb x 0) (inside 0) wrong) (cond (leb x 2) outside wrong)

abbrev pub of_mark : Mark → Turn → Turn
of_mark row outside = outside
of_mark row wrong = wrong
of_mark row (inside zero) = outside
of_mark row (inside (suc k)) = wrong
of_mark row (due k) = wrong
of_mark (kind j x) outside = of_kind_mark j x
of_mark (kind j x) wrong = wrong
of_mark (kind j x) (inside zero) = of_kind_mark j x
of_mark (kind j x) (inside (suc k)) = wrong
of_mark (kind j x) (due k) = wrong
of_mark named outside = outside
of_mark named wrong = wrong
of_mark named (inside k) = inside k
of_mark named (due k) = wrong
of_mark wrapper outside = wrong
of_mark wrapper wrong = wrong
of_mark wrapper (inside k) = due (suc k)
of_mark wrapper (due k) = wrong
of_mark (wrap w) outside = wrong
of_mark (wrap w) wrong = wrong
of_mark (wrap w) (inside zero) = wrong
of_mark (wrap w) (inside (suc k)) = cond (eqb w wrap_list || eqb w wrap_non_null) (inside k) wrong
of_mark (wrap w) (due k) = wrong
of_mark end outside = outside
of_mark end wrong = wrong
of_mark end (inside zero) = outside
of_mark end (inside (suc k)) = wrong
of_mark end (due k) = wrong

abbrev step : Sym Part Terminal Mark → Turn → Turn
step (nt n) φ = of_part n φ
step (tm p) φ = of_token p φ
step (act m) φ = of_mark m φ

abbrev pub run : Syms → Turn → Turn
run [] φ = φ
run (x ∷ ss) φ = run ss (step x φ)

-- no wrapper is left to be written
abbrev pub is_done : Turn → Bool
is_done outside = true
is_done wrong = false
is_done (inside zero) = true
is_done (inside (suc k)) = false
is_done (due k) = false

-- what goes on from the second goes on from the first
data Leq : Turn → Turn → Type 0 where
  same : {φ : Turn} → Leq φ φ
  sooner : Leq (inside 0) outside
  never : {φ : Turn} → Leq φ wrong

step_wrong : (x : Sym Part Terminal Mark) → step x wrong ≡ wrong
step_wrong (nt n) = refl
step_wrong (tm p) = refl
step_wrong (act row) = refl
step_wrong (act (kind k x)) = refl
step_wrong (act named) = refl
step_wrong (act wrapper) = refl
step_wrong (act (wrap w)) = refl
step_wrong (act end) = refl

sooner_part : (a b : Bool) → Leq (cond (a || b) (inside 0) outside) (cond a wrong outside)
sooner_part true b = never
sooner_part false true = sooner
sooner_part false false = same

sooner_step : (x : Sym Part Terminal Mark) → Leq (step x (inside 0)) (step x outside)
sooner_step (nt n) = sooner_part (in_ref n) (is_name n)
sooner_step (tm p) = sooner
sooner_step (act row) = same
sooner_step (act (kind k x)) = same
sooner_step (act named) = sooner
sooner_step (act wrapper) = never
sooner_step (act (wrap w)) = same
sooner_step (act end) = same

step_mono : (x : Sym Part Terminal Mark) {φ ψ : Turn} → Leq φ ψ → Leq (step x φ) (step x ψ)
step_mono x same = same
step_mono x sooner = sooner_step x
step_mono x (never {φ}) = subst (λ (ψ : Turn). Leq (step x φ) ψ) (sym (step_wrong x)) never

run_mono : (ss : Syms) {φ ψ : Turn} → Leq φ ψ → Leq (run ss φ) (run ss ψ)
run_mono [] l = l
run_mono (x ∷ ss) l = run_mono ss (step_mono x l)

run_append : (α ss : Syms) (φ : Turn) → run (α ++ ss) φ ≡ run ss (run α φ)
run_append [] ss φ = refl
run_append (x ∷ α) ss φ = run_append α ss (step x φ)

leq_done : {φ ψ : Turn} → Leq φ ψ → T (is_done ψ) → T (is_done φ)
leq_done same t = t
leq_done sooner t = tt
leq_done never t = absurd t

leq_outside : (φ : Turn) → T (is_done φ) → Leq φ outside
leq_outside outside t = same
leq_outside wrong t = absurd t
leq_outside (inside zero) t = sooner
leq_outside (inside (suc k)) t = absurd t
leq_outside (due k) t = absurd t

run_wrong : (ss : Syms) → run ss wrong ≡ wrong
run_wrong [] = refl
run_wrong (x ∷ ss) = ap (run ss) (step_wrong x) ∙ run_wrong ss

pub not_wrong : (ss : Syms) → T (is_done (run ss wrong)) → ⊥
not_wrong ss t = subst (λ (φ : Turn). T (is_done φ)) (run_wrong ss) t

goes_on : (α ss : Syms) (φ ψ : Turn) → Leq (run α φ) ψ → T (is_done (run ss ψ)) → T (is_done (run (α ++ ss) φ))
goes_on α ss φ ψ l t = rw (run_append α ss φ) (leq_done (run_mono ss l) t)

-- the test of all productions but those of a type reference
abbrev part_tested : Part → Bool
part_tested n = implies (not (in_ref n)) (all (λ α. is_done (run α outside)) (language n))

tested : T (all part_tested all_n)
unfolding language
tested = tt

-- and of those, where k wrappers are to be written
abbrev AllInside : ℕ → List Syms → Type 0
AllInside k [] = Unit {0}
AllInside k (α ∷ αs) = (run α (inside k) ≡ inside k) × AllInside k αs

mem_inside : (k : ℕ) {α : Syms} {αs : List Syms} → AllInside k αs → Memᴰ α αs → run α (inside k) ≡ inside k
mem_inside k h (Memᴰ.head e) = rw e h.0
mem_inside k h (Memᴰ.tail m) = mem_inside k h.1 m

inside_part : (n : Part) → T (in_ref n || is_name n) → (k : ℕ) {α : Syms} → Memᴰ α (language n) → run α (inside k) ≡ inside k
unfolding language
inside_part Document t k m = absurd t
inside_part Definition+ t k m = absurd t
inside_part Definition* t k m = absurd t
inside_part Definition t k m = absurd t
inside_part OperationDefinition t k m = absurd t
inside_part OperationType t k m = absurd t
inside_part OperationName? t k m = absurd t
inside_part SelectionSet t k m = absurd t
inside_part Selection+ t k m = absurd t
inside_part Selection* t k m = absurd t
inside_part Selection t k m = absurd t
inside_part Field t k m = absurd t
inside_part Alias? t k m = absurd t
inside_part Alias t k m = absurd t
inside_part SelectionSet? t k m = absurd t
inside_part Arguments? t k m = absurd t
inside_part Arguments t k m = absurd t
inside_part Argument+ t k m = absurd t
inside_part Argument* t k m = absurd t
inside_part Argument t k m = absurd t
inside_part FragmentSpread t k m = absurd t
inside_part FragmentDefinition t k m = absurd t
inside_part FragmentName t k m = absurd t
inside_part TypeCondition? t k m = absurd t
inside_part TypeCondition t k m = absurd t
inside_part InlineFragment t k m = absurd t
inside_part Value t k m = absurd t
inside_part ListValue t k m = absurd t
inside_part Value+ t k m = absurd t
inside_part Value* t k m = absurd t
inside_part ObjectValue t k m = absurd t
inside_part ObjectField+ t k m = absurd t
inside_part ObjectField* t k m = absurd t
inside_part ObjectField t k m = absurd t
inside_part ConstValue t k m = absurd t
inside_part ConstListValue t k m = absurd t
inside_part ConstValue+ t k m = absurd t
inside_part ConstValue* t k m = absurd t
inside_part ConstObjectValue t k m = absurd t
inside_part ConstObjectField+ t k m = absurd t
inside_part ConstObjectField* t k m = absurd t
inside_part ConstObjectField t k m = absurd t
inside_part EnumValue t k m = absurd t
inside_part VariableDefinitions? t k m = absurd t
inside_part VariableDefinitions t k m = absurd t
inside_part VariableDefinition+ t k m = absurd t
inside_part VariableDefinition* t k m = absurd t
inside_part VariableDefinition t k m = absurd t
inside_part DefaultValue? t k m = absurd t
inside_part DefaultValue t k m = absurd t
inside_part TypeRef t k m = mem_inside k (refl, (refl, (refl, tt))) m
inside_part NamedType t k m = mem_inside k (refl, tt) m
inside_part ListType t k m = mem_inside k (refl, tt) m
inside_part NonNullType t k m = mem_inside k (refl, (refl, tt)) m
inside_part Directives? t k m = absurd t
inside_part Directives t k m = absurd t
inside_part Directive+ t k m = absurd t
inside_part Directive* t k m = absurd t
inside_part Directive t k m = absurd t
inside_part Name t k m = mem_inside k (refl, tt) m
inside_part VariablesText t k m = absurd t
inside_part SpreadRest t k m = absurd t
inside_part AliasRest t k m = absurd t
inside_part Bang? t k m = mem_inside k (refl, (refl, tt)) m

outside_part : (n : Part) {α : Syms} → T (not (in_ref n)) → Memᴰ α (language n) → T (is_done (run α outside))
outside_part n h m = all_mem (λ α. is_done (run α outside)) (implies_out (not (in_ref n)) (all (λ α. is_done (run α outside)) (language n)) (all_at part_tested all_n (num_n n) tested (at_n n)) h) m

-- a part's production in its place
pub run_by : (n : Part) (α ss : Syms) (φ : Turn) → Memᴰ α (language n) → T (is_done (run (nt n ∷ ss) φ)) → T (is_done (run (α ++ ss) φ))
run_by n α ss outside m t = go (in_ref n) refl t
  where
    go : (c : Bool) → in_ref n ≡ c → T (is_done (run ss (cond c wrong outside))) → T (is_done (run (α ++ ss) outside))
    go true e t = absurd (not_wrong ss t)
    go false e t = goes_on α ss outside outside (leq_outside (run α outside) (outside_part n (subst (λ (c : Bool). T (not c)) (sym e) tt) m)) t
run_by n α ss wrong m t = absurd (not_wrong ss t)
run_by n α ss (inside k) m t = go (in_ref n) (is_name n) refl refl t
  where
    here : T (in_ref n || is_name n) → T (is_done (run ss (inside k))) → T (is_done (run (α ++ ss) (inside k)))
    here h t = rw (run_append α ss (inside k), inside_part n h k m) t

    out : (k : ℕ) → T (not (in_ref n)) → T (is_done (run ss (of_other k))) → T (is_done (run (α ++ ss) (inside k)))
    out zero h t = leq_done (run_mono (α ++ ss) sooner) (goes_on α ss outside outside (leq_outside (run α outside) (outside_part n h m)) t)
    out (suc k) h t = absurd (not_wrong ss t)

    go : (a b : Bool) → in_ref n ≡ a → is_name n ≡ b → T (is_done (run ss (cond (a || b) (inside k) (of_other k)))) → T (is_done (run (α ++ ss) (inside k)))
    go true b e f t = here (or_l (in_ref n) (is_name n) (subst T (sym e) tt)) t
    go false true e f t = here (or_r (in_ref n) (is_name n) (subst T (sym f) tt)) t
    go false false e f t = out k (subst (λ (c : Bool). T (not c)) (sym e) tt) t
run_by n α ss (due k) m t = absurd (not_wrong ss t)
