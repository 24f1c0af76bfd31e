-- The language's grammar and the left-factored one: the same texts, with the same marks.
use mathlib.Core.Path.{◌≡◌, refl, sym, subst}
use mathlib.Core.Logic.{◌⊎◌, inl, inr}
use mathlib.Core.Bool.{Bool, true, false}
use mathlib.Core.List.{List, [], ◌∷◌, ◌++◌, Memᴰ}
use lib.Dec.{T, eqb→eq}
use Rattle.paper.specs.Grammar.{Sym, nt, tm, act, Ev, tok, mark, Derives, take, note, by}
use Rattle.paper.specs.Numbers.{kind_field, kind_spread, kind_inline, wrap_non_null}
use Rattle.paper.specs.Language.{Class, Terminal, the, t, hits, Mark, Part, language, colon, bang, spread, bracket_l, bracket_r, brace_l, brace_r, row, kind, named, wrapper, wrap, end}
use Rattle.paper.specs.Language.{Field, Alias?, Alias, Name, Arguments?, Directives?, SelectionSet?, SelectionSet, AliasRest, Selection, FragmentSpread, InlineFragment, SpreadRest, FragmentName, TypeCondition?}
use Rattle.paper.specs.Language.{ListValue, Value, Value+, Value*, ObjectValue, ObjectField, ObjectField+, ObjectField*, ConstListValue, ConstValue, ConstValue+, ConstValue*, ConstObjectValue, ConstObjectField, ConstObjectField+, ConstObjectField*, TypeRef, NamedType, ListType, NonNullType, Bang?}
use Rattle.paper.proofs.Tables.{factored, changed, look, or_that, same_n, num_n, at_n, Rules}
use Rattle.paper_theory.proofs.Same.{simulate, join, split, replace, by_one, by_two, first_of, second_of, third_of, bracket_none, bracket_some, bracket_out}

abbrev Syms : Type 0
Syms = List (Sym Part Terminal Mark)

abbrev Evs : Type 0
Evs = List (Ev Class Mark)

abbrev Admits : (Part → Rules) → Part → Syms → Type 0
Admits q n α = (σ : Syms) (es : Evs) → Derives q hits (α ++ σ) es → Derives q hits (nt n ∷ σ) es

-- q admits each of the productions rs of n
abbrev AdmitsAll : (Part → Rules) → Part → Rules → Type 0
AdmitsAll q n [] = Unit {0}
AdmitsAll q n (α ∷ rs) = Admits q n α × AdmitsAll q n rs

admit : (q : Part → Rules) (n : Part) {α : Syms} {rs : Rules} → AdmitsAll q n rs → Memᴰ α rs → Admits q n α
admit q n h (Memᴰ.head e) σ es d = h.0 σ es (subst (λ z. Derives q hits (z ++ σ) es) e d)
admit q n h (Memᴰ.tail m) σ es d = admit q n h.1 m σ es d

same_part : (m n : Part) → T (same_n m n) → m ≡ n
same_part m n h = let q : num_n m ≡ num_n n = eqb→eq (num_n m) (num_n n) h in let a = at_n m in let b = at_n n in cc

-- P holds of each changed part: then of any part, unless it is not changed
abbrev Each : (Part → Type 0) → List (Part × Rules) → Type 0
Each P [] = Unit {0}
Each P (e ∷ es) = P e.0 × Each P es

either : (P : Part → Type 0) (l : List (Part × Rules)) → Each P l → (n : Part) (s : Rules) → P n ⊎ (look l n s ≡ s)
either P [] h n s = inr refl
either P (e ∷ es) h n s = go (same_n e.0 n) refl (either P es h.1 n s)
  where
    go : (b : Bool) → same_n e.0 n ≡ b → P n ⊎ (look es n s ≡ s) → P n ⊎ (or_that b e.1 (look es n s) ≡ s)
    go true q k = inl (subst P (same_part e.0 n (subst T (sym q) tt)) h.0)
    go false q k = k

-- what the left-factored grammar admits
field_to : AdmitsAll factored Field (language Field)
unfolding language factored
field_to = (λ σ es d. go σ d, tt)
  where
    rest : Syms → Syms
    rest σ = nt Arguments? ∷ nt Directives? ∷ nt SelectionSet? ∷ act end ∷ σ

    plain : (σ : Syms) {es : Evs} → Derives factored hits (act named ∷ nt Name ∷ rest σ) es → Derives factored hits (act named ∷ nt Name ∷ nt AliasRest ∷ rest σ) es
    plain σ d = replace factored hits (act named ∷ nt Name ∷ []) (rest σ) (nt AliasRest ∷ rest σ) (λ vs k. by (first_of factored hits {n = AliasRest} refl) k) d

    aliased : (σ : Syms) {es : Evs} → Derives factored hits (act named ∷ nt Name ∷ t colon ∷ act named ∷ nt Name ∷ rest σ) es → Derives factored hits (act named ∷ nt Name ∷ nt AliasRest ∷ rest σ) es
    aliased σ d = replace factored hits (act named ∷ nt Name ∷ []) (t colon ∷ act named ∷ nt Name ∷ rest σ) (nt AliasRest ∷ rest σ) (λ vs k. by (second_of factored hits {n = AliasRest} refl) k) d

    either_way : (σ : Syms) {es : Evs} → Derives factored hits (act named ∷ nt Name ∷ rest σ) es ⊎ Derives factored hits (nt Alias ∷ act named ∷ nt Name ∷ rest σ) es → Derives factored hits (act named ∷ nt Name ∷ nt AliasRest ∷ rest σ) es
    either_way σ (inl d) = plain σ d
    either_way σ (inr d) = aliased σ (by_one factored hits {n = Alias} refl d)

    go : (σ : Syms) {es : Evs} → Derives factored hits (act row ∷ act (kind kind_field 0) ∷ nt Alias? ∷ act named ∷ nt Name ∷ rest σ) es → Derives factored hits (nt Field ∷ σ) es
    go σ (note (note d)) = by (first_of factored hits {n = Field} refl) (note (note (either_way σ (by_two factored hits {n = Alias?} refl d))))

selection_to : AdmitsAll factored Selection (language Selection)
unfolding language factored
selection_to = (λ σ es d. by (first_of factored hits {n = Selection} refl) d, (λ σ es d. spreads σ (by_one factored hits {n = FragmentSpread} refl d), (λ σ es d. inline σ (by_one factored hits {n = InlineFragment} refl d), tt)))
  where
    spreads : (σ : Syms) {es : Evs} → Derives factored hits (act row ∷ t spread ∷ act (kind kind_spread 0) ∷ act named ∷ nt FragmentName ∷ nt Directives? ∷ act end ∷ σ) es → Derives factored hits (nt Selection ∷ σ) es
    spreads σ (note (take t d)) = by (second_of factored hits {n = Selection} refl) (note (take t (by (first_of factored hits {n = SpreadRest} refl) d)))

    inline : (σ : Syms) {es : Evs} → Derives factored hits (act row ∷ t spread ∷ act (kind kind_inline 0) ∷ nt TypeCondition? ∷ nt Directives? ∷ nt SelectionSet ∷ act end ∷ σ) es → Derives factored hits (nt Selection ∷ σ) es
    inline σ (note (take t d)) = by (second_of factored hits {n = Selection} refl) (note (take t (by (second_of factored hits {n = SpreadRest} refl) d)))

type_to : AdmitsAll factored TypeRef (language TypeRef)
unfolding language factored
type_to = (λ σ es d. by (first_of factored hits {n = TypeRef} refl) (bare NamedType σ d), (λ σ es d. by (second_of factored hits {n = TypeRef} refl) (bare ListType σ d), (λ σ es d. go σ (by_two factored hits {n = NonNullType} refl d), tt)))
  where
    bare : (n : Part) (σ : Syms) {es : Evs} → Derives factored hits (nt n ∷ σ) es → Derives factored hits (nt n ∷ nt Bang? ∷ σ) es
    bare n σ d = replace factored hits (nt n ∷ []) σ (nt Bang? ∷ σ) (λ vs k. by (first_of factored hits {n = Bang?} refl) k) d

    banged : (n : Part) (σ : Syms) {es : Evs} → Derives factored hits (nt n ∷ act wrapper ∷ t bang ∷ act (wrap wrap_non_null) ∷ σ) es → Derives factored hits (nt n ∷ nt Bang? ∷ σ) es
    banged n σ d = replace factored hits (nt n ∷ []) (act wrapper ∷ t bang ∷ act (wrap wrap_non_null) ∷ σ) (nt Bang? ∷ σ) (λ vs k. by (second_of factored hits {n = Bang?} refl) k) d

    go : (σ : Syms) {es : Evs} → Derives factored hits (nt NamedType ∷ act wrapper ∷ t bang ∷ act (wrap wrap_non_null) ∷ σ) es ⊎ Derives factored hits (nt ListType ∷ act wrapper ∷ t bang ∷ act (wrap wrap_non_null) ∷ σ) es → Derives factored hits (nt TypeRef ∷ σ) es
    go σ (inl d) = by (first_of factored hits {n = TypeRef} refl) (banged NamedType σ d)
    go σ (inr d) = by (second_of factored hits {n = TypeRef} refl) (banged ListType σ d)

bracket_to : (o c : Terminal) (n x x+ x* : Part) → factored n ≡ (tm o ∷ nt x* ∷ tm c ∷ []) ∷ [] → factored x+ ≡ (nt x ∷ nt x* ∷ []) ∷ [] → factored x* ≡ [] ∷ (nt x ∷ nt x* ∷ []) ∷ [] →
    AdmitsAll factored n ((tm o ∷ tm c ∷ []) ∷ (tm o ∷ nt x+ ∷ tm c ∷ []) ∷ [])
bracket_to o c n x x+ x* p p+ p* = (λ σ es d. by (first_of factored hits p) (bracket_none factored hits o c x x+ x* p+ p* d), (λ σ es d. by (first_of factored hits p) (bracket_some factored hits o c x x+ x* p+ p* d), tt))

to_factored : Each (λ n. AdmitsAll factored n (language n)) changed
unfolding language factored
to_factored = (
  selection_to,
  (
    field_to,
    (
      bracket_to (the bracket_l) (the bracket_r) ListValue Value Value+ Value* refl refl refl,
      (
        bracket_to (the brace_l) (the brace_r) ObjectValue ObjectField ObjectField+ ObjectField* refl refl refl,
        (
          bracket_to (the bracket_l) (the bracket_r) ConstListValue ConstValue ConstValue+ ConstValue* refl refl refl,
          (bracket_to (the brace_l) (the brace_r) ConstObjectValue ConstObjectField ConstObjectField+ ConstObjectField* refl refl refl, (type_to, tt)),
        ),
      ),
    ),
  ),
)

-- what the language's grammar admits
field_from : AdmitsAll language Field (factored Field)
unfolding language factored
field_from = (λ σ es d. go σ d, tt)
  where
    rest : Syms → Syms
    rest σ = nt Arguments? ∷ nt Directives? ∷ nt SelectionSet? ∷ act end ∷ σ

    -- the name first read is the field's, or its alias
    whole : (σ : Syms) (us vs : Evs) → Derives language hits (act named ∷ nt Name ∷ []) us → Derives language hits (rest σ) vs ⊎ Derives language hits (t colon ∷ act named ∷ nt Name ∷ rest σ) vs → Derives language hits (nt Alias? ∷ act named ∷ nt Name ∷ rest σ) (us ++ vs)
    whole σ us vs a (inl d) = by (first_of language hits {n = Alias?} refl) (join language hits a d)
    whole σ us vs a (inr d) = by (second_of language hits {n = Alias?} refl) (by (first_of language hits {n = Alias} refl) (join language hits a d))

    inner : (σ : Syms) {es : Evs} → Derives language hits (act named ∷ nt Name ∷ nt AliasRest ∷ rest σ) es → Derives language hits (nt Alias? ∷ act named ∷ nt Name ∷ rest σ) es
    inner σ d =
        let r = split language hits (act named ∷ nt Name ∷ []) (nt AliasRest ∷ rest σ) d in
        subst (λ z. Derives language hits (nt Alias? ∷ act named ∷ nt Name ∷ rest σ) z) (sym r.2) (whole σ r.0 r.1 r.3 (by_two language hits {n = AliasRest} refl r.4))

    go : (σ : Syms) {es : Evs} → Derives language hits (act row ∷ act (kind kind_field 0) ∷ act named ∷ nt Name ∷ nt AliasRest ∷ rest σ) es → Derives language hits (nt Field ∷ σ) es
    go σ (note (note d)) = by (first_of language hits {n = Field} refl) (note (note (inner σ d)))

selection_from : AdmitsAll language Selection (factored Selection)
unfolding language factored
selection_from = (λ σ es d. by (first_of language hits {n = Selection} refl) d, (λ σ es d. go σ d, tt))
  where
    pick : (σ : Syms) {c : Class} {es : Evs} → T (hits (the spread) c) → Derives language hits (act (kind kind_spread 0) ∷ act named ∷ nt FragmentName ∷ nt Directives? ∷ act end ∷ σ) es ⊎ Derives language hits (act (kind kind_inline 0) ∷ nt TypeCondition? ∷ nt Directives? ∷ nt SelectionSet ∷ act end ∷ σ) es →
        Derives language hits (nt Selection ∷ σ) (mark row ∷ tok c ∷ es)
    pick σ t (inl d) = by (second_of language hits {n = Selection} refl) (by (first_of language hits {n = FragmentSpread} refl) (note (take t d)))
    pick σ t (inr d) = by (third_of language hits {n = Selection} refl) (by (first_of language hits {n = InlineFragment} refl) (note (take t d)))

    go : (σ : Syms) {es : Evs} → Derives language hits (act row ∷ t spread ∷ nt SpreadRest ∷ σ) es → Derives language hits (nt Selection ∷ σ) es
    go σ (note (take t d)) = pick σ t (by_two language hits {n = SpreadRest} refl d)

module _ (n : Part) (bare : (σ : Syms) (es : Evs) → Derives language hits (nt n ∷ σ) es → Derives language hits (nt TypeRef ∷ σ) es)
    (banged : (σ : Syms) (es : Evs) → Derives language hits (nt n ∷ act wrapper ∷ t bang ∷ act (wrap wrap_non_null) ∷ σ) es → Derives language hits (nt TypeRef ∷ σ) es) where
  type_pick : (σ : Syms) (us vs : Evs) → Derives language hits (nt n ∷ []) us → Derives language hits σ vs ⊎ Derives language hits (act wrapper ∷ t bang ∷ act (wrap wrap_non_null) ∷ σ) vs → Derives language hits (nt TypeRef ∷ σ) (us ++ vs)
  type_pick σ us vs a (inl d) = bare σ (us ++ vs) (join language hits a d)
  type_pick σ us vs a (inr d) = banged σ (us ++ vs) (join language hits a d)

  type_go : (σ : Syms) {es : Evs} → Derives language hits (nt n ∷ nt Bang? ∷ σ) es → Derives language hits (nt TypeRef ∷ σ) es
  unfolding language
  type_go σ d =
      let r = split language hits (nt n ∷ []) (nt Bang? ∷ σ) d in
      subst (λ z. Derives language hits (nt TypeRef ∷ σ) z) (sym r.2) (type_pick σ r.0 r.1 r.3 (by_two language hits {n = Bang?} refl r.4))

type_from : AdmitsAll language TypeRef (factored TypeRef)
unfolding language factored
type_from = (
  λ σ es d. type_go NamedType (λ σ es d. by (first_of language hits {n = TypeRef} refl) d) (λ σ es d. by (third_of language hits {n = TypeRef} refl) (by (first_of language hits {n = NonNullType} refl) d)) σ d,
  (λ σ es d. type_go ListType (λ σ es d. by (second_of language hits {n = TypeRef} refl) d) (λ σ es d. by (third_of language hits {n = TypeRef} refl) (by (second_of language hits {n = NonNullType} refl) d)) σ d, tt),
)

bracket_from : (o c : Terminal) (n x x+ x* : Part) → language n ≡ (tm o ∷ tm c ∷ []) ∷ (tm o ∷ nt x+ ∷ tm c ∷ []) ∷ [] → language x+ ≡ (nt x ∷ nt x* ∷ []) ∷ [] → language x* ≡ [] ∷ (nt x ∷ nt x* ∷ []) ∷ [] →
    AdmitsAll language n ((tm o ∷ nt x* ∷ tm c ∷ []) ∷ [])
bracket_from o c n x x+ x* p p+ p* = (λ σ es d. go σ (bracket_out language hits o c x x+ x* p+ p* d), tt)
  where
    go : (σ : Syms) {es : Evs} → Derives language hits (tm o ∷ tm c ∷ σ) es ⊎ Derives language hits (tm o ∷ nt x+ ∷ tm c ∷ σ) es → Derives language hits (nt n ∷ σ) es
    go σ (inl d) = by (first_of language hits p) d
    go σ (inr d) = by (second_of language hits p) d

to_language : Each (λ n. AdmitsAll language n (factored n)) changed
unfolding language factored
to_language = (
  selection_from,
  (
    field_from,
    (
      bracket_from (the bracket_l) (the bracket_r) ListValue Value Value+ Value* refl refl refl,
      (
        bracket_from (the brace_l) (the brace_r) ObjectValue ObjectField ObjectField+ ObjectField* refl refl refl,
        (
          bracket_from (the bracket_l) (the bracket_r) ConstListValue ConstValue ConstValue+ ConstValue* refl refl refl,
          (bracket_from (the brace_l) (the brace_r) ConstObjectValue ConstObjectField ConstObjectField+ ConstObjectField* refl refl refl, (type_from, tt)),
        ),
      ),
    ),
  ),
)

-- THE SAME: what one derives the other derives, with the same marks
pub language→factored : {ss : Syms} {es : Evs} → Derives language hits ss es → Derives factored hits ss es
unfolding factored
language→factored d = simulate hits language factored (λ n α σ es m k. go n α σ es m k (either (λ n. AdmitsAll factored n (language n)) changed to_factored n (language n))) d
  where
    go : (n : Part) (α σ : Syms) (es : Evs) → Memᴰ α (language n) → Derives factored hits (α ++ σ) es → AdmitsAll factored n (language n) ⊎ (look changed n (language n) ≡ language n) → Derives factored hits (nt n ∷ σ) es
    go n α σ es m k (inl h) = admit factored n h m σ es k
    go n α σ es m k (inr e) = by {n = n} {α = α} (rw e m) k

pub factored→language : {ss : Syms} {es : Evs} → Derives factored hits ss es → Derives language hits ss es
unfolding factored
factored→language d = simulate hits factored language (λ n α σ es m k. go n α σ es m k (either (λ n. AdmitsAll language n (factored n)) changed to_language n (language n))) d
  where
    go : (n : Part) (α σ : Syms) (es : Evs) → Memᴰ α (factored n) → Derives language hits (α ++ σ) es → AdmitsAll language n (factored n) ⊎ (look changed n (language n) ≡ language n) → Derives language hits (nt n ∷ σ) es
    go n α σ es m k (inl h) = admit language n h m σ es k
    go n α σ es m k (inr e) = by {n = n} {α = α} (rw e at m) k
