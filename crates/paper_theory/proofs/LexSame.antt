-- The draft's lexical grammar and the left-factored one: the same texts, with the same marks.
use mathlib.Core.Path.{◌≡◌, refl, sym, subst}
use mathlib.Core.Logic.{◌⊎◌, inl, inr}
use mathlib.Core.Bool.{Bool, true, false}
use mathlib.Core.List.{List, [], ◌∷◌, ◌++◌, Memᴰ}
use Prim.Native.Nat.{ℕ}
use lib.Dec.{T, eqb→eq}
use Rattle.paper.specs.Grammar.{Sym, nt, tm, act, Ev, Derives, by}
use Rattle.paper.specs.Language.{int, float}
use Rattle.paper.specs.Lexical.{Lex, Set, What, is, lexical, hits_byte, quote, zero, non_zero}
use Rattle.paper.proofs.LexTables.{lex_factored, changed_l, look, or_that, same_l, num_l, at_l, Rules}
use Rattle.paper.specs.Lexical.{Piece, IntValue, FloatValue, IntegerPart, NegativeSign?, Digit*, FractionalPart, ExponentPart, StringValue, StringCharacter, StringCharacter+, StringCharacter*, Number, NumberRest, ExponentPart?, FloatRest, UnsignedPart}
use Rattle.paper_theory.proofs.Same.{simulate, join, split, replace, by_one, by_two, by_three, first_of, second_of, third_of, bracket_none, bracket_some, bracket_out}

abbrev Syms : Type 0
Syms = List (Sym Lex Set What)

abbrev Evs : Type 0
Evs = List (Ev ℕ What)

abbrev Admits : (Lex → Rules) → Lex → Syms → Type 0
Admits q n α = (σ : Syms) (es : Evs) → Derives q hits_byte (α ++ σ) es → Derives q hits_byte (nt n ∷ σ) es

-- q admits each of the productions rs of n
abbrev AdmitsAll : (Lex → Rules) → Lex → Rules → Type 0
AdmitsAll q n [] = Unit {0}
AdmitsAll q n (α ∷ rs) = Admits q n α × AdmitsAll q n rs

admit : (q : Lex → Rules) (n : Lex) {α : Syms} {rs : Rules} → AdmitsAll q n rs → Memᴰ α rs → Admits q n α
admit q n h (Memᴰ.head e) σ es d = h.0 σ es (subst (λ z. Derives q hits_byte (z ++ σ) es) e d)
admit q n h (Memᴰ.tail m) σ es d = admit q n h.1 m σ es d

same_part : (m n : Lex) → T (same_l m n) → m ≡ n
same_part m n h = let q : num_l m ≡ num_l n = eqb→eq (num_l m) (num_l n) h in let a = at_l m in let b = at_l n in cc

-- P holds of each changed part: then of any part, unless it is not changed
abbrev Each : (Lex → Type 0) → List (Lex × Rules) → Type 0
Each P [] = Unit {0}
Each P (e ∷ es) = P e.0 × Each P es

either : (P : Lex → Type 0) (l : List (Lex × Rules)) → Each P l → (n : Lex) (s : Rules) → P n ⊎ (look l n s ≡ s)
either P [] h n s = inr refl
either P (e ∷ es) h n s = go (same_l e.0 n) refl (either P es h.1 n s)
  where
    go : (b : Bool) → same_l e.0 n ≡ b → P n ⊎ (look es n s ≡ s) → P n ⊎ (or_that b e.1 (look es n s) ≡ s)
    go true q k = inl (subst P (same_part e.0 n (subst T (sym q) tt)) h.0)
    go false q k = k

-- productions that both have
kept : (q : Lex → Rules) (n : Lex) (rs : Rules) → ((α : Syms) → Memᴰ α rs → Memᴰ α (q n)) → AdmitsAll q n rs
kept q n [] h = tt
kept q n (α ∷ rs) h = (λ σ es d. by (h α (Memᴰ.head refl)) d, kept q n rs (λ β m. h β (Memᴰ.tail m)))

module _ (q : Lex → Rules) where
  -- the symbols behind a part, replaced
  behind : (n : Lex) (ys ys' : Syms) {es : Evs} → ((vs : Evs) → Derives q hits_byte ys vs → Derives q hits_byte ys' vs) → Derives q hits_byte (nt n ∷ ys) es → Derives q hits_byte (nt n ∷ ys') es
  behind n ys ys' f d = replace q hits_byte (nt n ∷ []) ys ys' f d

  -- a part and what is behind it
  parted : (n : Lex) (ys : Syms) (P : Evs → Type 0) {es : Evs} → ((us vs : Evs) → Derives q hits_byte (nt n ∷ []) us → Derives q hits_byte ys vs → P (us ++ vs)) → Derives q hits_byte (nt n ∷ ys) es → P es
  parted n ys P f d = let r = split q hits_byte (nt n ∷ []) ys d in subst P (sym r.2) (f r.0 r.1 r.3 r.4)

piece_to : AdmitsAll lex_factored Piece (lexical Piece)
unfolding lexical lex_factored
piece_to = (λ σ es d. number σ (ints σ (by_one lex_factored hits_byte {n = IntValue} refl d)), (λ σ es d. number σ (floats σ (by_one lex_factored hits_byte {n = FloatValue} refl d)), kept lex_factored Piece _ (λ α m. Memᴰ.tail m)))
  where
    number : (σ : Syms) {es : Evs} → Derives lex_factored hits_byte (nt IntegerPart ∷ nt NumberRest ∷ σ) es → Derives lex_factored hits_byte (nt Piece ∷ σ) es
    number σ d = by (first_of lex_factored hits_byte {n = Piece} refl) (by (first_of lex_factored hits_byte {n = Number} refl) d)

    ints : (σ : Syms) {es : Evs} → Derives lex_factored hits_byte (nt IntegerPart ∷ act (is int) ∷ σ) es → Derives lex_factored hits_byte (nt IntegerPart ∷ nt NumberRest ∷ σ) es
    ints σ d = behind lex_factored IntegerPart (act (is int) ∷ σ) (nt NumberRest ∷ σ) (λ vs k. by (first_of lex_factored hits_byte {n = NumberRest} refl) k) d

    rests : (σ : Syms) {es : Evs} → Derives lex_factored hits_byte (nt FractionalPart ∷ nt ExponentPart? ∷ act (is float) ∷ σ) es ⊎ Derives lex_factored hits_byte (nt ExponentPart ∷ act (is float) ∷ σ) es → Derives lex_factored hits_byte (nt NumberRest ∷ σ) es
    rests σ (inl d) = by (second_of lex_factored hits_byte {n = NumberRest} refl) d
    rests σ (inr d) = by (third_of lex_factored hits_byte {n = NumberRest} refl) d

    floats : (σ : Syms) {es : Evs} → Derives lex_factored hits_byte (nt IntegerPart ∷ nt FloatRest ∷ act (is float) ∷ σ) es → Derives lex_factored hits_byte (nt IntegerPart ∷ nt NumberRest ∷ σ) es
    floats σ d = behind lex_factored IntegerPart (nt FloatRest ∷ act (is float) ∷ σ) (nt NumberRest ∷ σ) (λ vs k. rests σ (by_two lex_factored hits_byte {n = FloatRest} refl k)) d

float_to : AdmitsAll lex_factored FloatValue (lexical FloatValue)
unfolding lexical lex_factored
float_to = (
  λ σ es d. whole σ (behind lex_factored IntegerPart (nt FractionalPart ∷ σ) (nt FloatRest ∷ σ) (λ vs k. by (first_of lex_factored hits_byte {n = FloatRest} refl) (behind lex_factored FractionalPart σ (nt ExponentPart? ∷ σ) (λ ws j. by (first_of lex_factored hits_byte {n = ExponentPart?} refl) j) k)) d),
  (
    λ σ es d. whole σ (behind lex_factored IntegerPart (nt ExponentPart ∷ σ) (nt FloatRest ∷ σ) (λ vs k. by (second_of lex_factored hits_byte {n = FloatRest} refl) k) d),
    (λ σ es d. whole σ (behind lex_factored IntegerPart (nt FractionalPart ∷ nt ExponentPart ∷ σ) (nt FloatRest ∷ σ) (λ vs k. by (first_of lex_factored hits_byte {n = FloatRest} refl) (behind lex_factored FractionalPart (nt ExponentPart ∷ σ) (nt ExponentPart? ∷ σ) (λ ws j. by (second_of lex_factored hits_byte {n = ExponentPart?} refl) j) k)) d), tt),
  ),
)
  where
    whole : (σ : Syms) {es : Evs} → Derives lex_factored hits_byte (nt IntegerPart ∷ nt FloatRest ∷ σ) es → Derives lex_factored hits_byte (nt FloatValue ∷ σ) es
    whole σ d = by (first_of lex_factored hits_byte {n = FloatValue} refl) d

integer_to : AdmitsAll lex_factored IntegerPart (lexical IntegerPart)
unfolding lexical lex_factored
integer_to = (
  λ σ es d. by (first_of lex_factored hits_byte {n = IntegerPart} refl) (behind lex_factored NegativeSign? (tm zero ∷ σ) (nt UnsignedPart ∷ σ) (λ vs k. by (first_of lex_factored hits_byte {n = UnsignedPart} refl) k) d),
  (λ σ es d. by (first_of lex_factored hits_byte {n = IntegerPart} refl) (behind lex_factored NegativeSign? (tm non_zero ∷ nt Digit* ∷ σ) (nt UnsignedPart ∷ σ) (λ vs k. by (second_of lex_factored hits_byte {n = UnsignedPart} refl) k) d), tt),
)

string_to : AdmitsAll lex_factored StringValue (lexical StringValue)
unfolding lexical lex_factored
string_to = (
  λ σ es d. by (first_of lex_factored hits_byte {n = StringValue} refl) (bracket_none lex_factored hits_byte quote quote StringCharacter StringCharacter+ StringCharacter* refl refl d),
  (λ σ es d. by (first_of lex_factored hits_byte {n = StringValue} refl) (bracket_some lex_factored hits_byte quote quote StringCharacter StringCharacter+ StringCharacter* refl refl d), tt),
)

to_factored : Each (λ n. AdmitsAll lex_factored n (lexical n)) changed_l
unfolding lexical lex_factored
to_factored = (piece_to, (float_to, (integer_to, (string_to, tt))))

-- and back
exponent_cases : (σ : Syms) (P : Evs → Type 0) {us vs : Evs} → Derives lexical hits_byte (nt FractionalPart ∷ []) us →
    (Derives lexical hits_byte (nt FractionalPart ∷ σ) (us ++ vs) → P (us ++ vs)) → (Derives lexical hits_byte (nt FractionalPart ∷ nt ExponentPart ∷ σ) (us ++ vs) → P (us ++ vs)) →
    Derives lexical hits_byte σ vs ⊎ Derives lexical hits_byte (nt ExponentPart ∷ σ) vs → P (us ++ vs)
exponent_cases σ P a f g (inl d) = f (join lexical hits_byte a d)
exponent_cases σ P a f g (inr d) = g (join lexical hits_byte a d)

-- a fraction, and perhaps an exponent, behind an integer part
fraction_from : (σ τ : Syms) (us : Evs) {vs : Evs} → Derives lexical hits_byte (nt IntegerPart ∷ []) us →
    ((es : Evs) → Derives lexical hits_byte (nt IntegerPart ∷ nt FractionalPart ∷ σ) es ⊎ Derives lexical hits_byte (nt IntegerPart ∷ nt FractionalPart ∷ nt ExponentPart ∷ σ) es → Derives lexical hits_byte τ es) →
    Derives lexical hits_byte (nt FractionalPart ∷ nt ExponentPart? ∷ σ) vs → Derives lexical hits_byte τ (us ++ vs)
unfolding lexical
fraction_from σ τ us a k d = parted lexical FractionalPart (nt ExponentPart? ∷ σ) (λ vs. Derives lexical hits_byte τ (us ++ vs))
    (λ xs ys b e. exponent_cases σ (λ vs. Derives lexical hits_byte τ (us ++ vs)) {us = xs} {vs = ys} b (λ z. k (us ++ (xs ++ ys)) (inl (join lexical hits_byte a z))) (λ z. k (us ++ (xs ++ ys)) (inr (join lexical hits_byte a z))) (by_two lexical hits_byte {n = ExponentPart?} refl e)) d

float_from : AdmitsAll lexical FloatValue (lex_factored FloatValue)
unfolding lexical lex_factored
float_from = (λ σ es d. parted lexical IntegerPart (nt FloatRest ∷ σ) (λ z. Derives lexical hits_byte (nt FloatValue ∷ σ) z) (λ us vs a e. go σ us vs a (by_two lexical hits_byte {n = FloatRest} refl e)) d, tt)
  where
    made : (σ : Syms) (es : Evs) → Derives lexical hits_byte (nt IntegerPart ∷ nt FractionalPart ∷ σ) es ⊎ Derives lexical hits_byte (nt IntegerPart ∷ nt FractionalPart ∷ nt ExponentPart ∷ σ) es → Derives lexical hits_byte (nt FloatValue ∷ σ) es
    made σ es (inl d) = by (first_of lexical hits_byte {n = FloatValue} refl) d
    made σ es (inr d) = by (third_of lexical hits_byte {n = FloatValue} refl) d

    go : (σ : Syms) (us vs : Evs) → Derives lexical hits_byte (nt IntegerPart ∷ []) us → Derives lexical hits_byte (nt FractionalPart ∷ nt ExponentPart? ∷ σ) vs ⊎ Derives lexical hits_byte (nt ExponentPart ∷ σ) vs → Derives lexical hits_byte (nt FloatValue ∷ σ) (us ++ vs)
    go σ us vs a (inl d) = fraction_from σ (nt FloatValue ∷ σ) us a (made σ) d
    go σ us vs a (inr d) = by (second_of lexical hits_byte {n = FloatValue} refl) (join lexical hits_byte a d)

piece_from : AdmitsAll lexical Piece (lex_factored Piece)
unfolding lexical lex_factored
piece_from = (λ σ es d. parted lexical IntegerPart (nt NumberRest ∷ σ) (λ z. Derives lexical hits_byte (nt Piece ∷ σ) z) (λ us vs a e. go σ us vs a (by_three lexical hits_byte {n = NumberRest} refl e)) (by_one lexical hits_byte {n = Number} refl d), kept lexical Piece _ (λ α m. Memᴰ.tail (Memᴰ.tail m)))
  where
    float_piece : (σ : Syms) {es : Evs} → Derives lexical hits_byte (nt FloatValue ∷ act (is float) ∷ σ) es → Derives lexical hits_byte (nt Piece ∷ σ) es
    float_piece σ d = by (second_of lexical hits_byte {n = Piece} refl) d

    made : (σ : Syms) (es : Evs) → Derives lexical hits_byte (nt IntegerPart ∷ nt FractionalPart ∷ act (is float) ∷ σ) es ⊎ Derives lexical hits_byte (nt IntegerPart ∷ nt FractionalPart ∷ nt ExponentPart ∷ act (is float) ∷ σ) es → Derives lexical hits_byte (nt Piece ∷ σ) es
    made σ es (inl d) = float_piece σ (by (first_of lexical hits_byte {n = FloatValue} refl) d)
    made σ es (inr d) = float_piece σ (by (third_of lexical hits_byte {n = FloatValue} refl) d)

    go : (σ : Syms) (us vs : Evs) → Derives lexical hits_byte (nt IntegerPart ∷ []) us →
        Derives lexical hits_byte (act (is int) ∷ σ) vs ⊎ (Derives lexical hits_byte (nt FractionalPart ∷ nt ExponentPart? ∷ act (is float) ∷ σ) vs ⊎ Derives lexical hits_byte (nt ExponentPart ∷ act (is float) ∷ σ) vs) → Derives lexical hits_byte (nt Piece ∷ σ) (us ++ vs)
    go σ us vs a (inl d) = by (first_of lexical hits_byte {n = Piece} refl) (by (first_of lexical hits_byte {n = IntValue} refl) (join lexical hits_byte a d))
    go σ us vs a (inr (inl d)) = fraction_from (act (is float) ∷ σ) (nt Piece ∷ σ) us a (made σ) d
    go σ us vs a (inr (inr d)) = float_piece σ (by (second_of lexical hits_byte {n = FloatValue} refl) (join lexical hits_byte a d))

integer_from : AdmitsAll lexical IntegerPart (lex_factored IntegerPart)
unfolding lexical lex_factored
integer_from = (λ σ es d. parted lexical NegativeSign? (nt UnsignedPart ∷ σ) (λ z. Derives lexical hits_byte (nt IntegerPart ∷ σ) z) (λ us vs a e. go σ us vs a (by_two lexical hits_byte {n = UnsignedPart} refl e)) d, tt)
  where
    go : (σ : Syms) (us vs : Evs) → Derives lexical hits_byte (nt NegativeSign? ∷ []) us → Derives lexical hits_byte (tm zero ∷ σ) vs ⊎ Derives lexical hits_byte (tm non_zero ∷ nt Digit* ∷ σ) vs → Derives lexical hits_byte (nt IntegerPart ∷ σ) (us ++ vs)
    go σ us vs a (inl d) = by (first_of lexical hits_byte {n = IntegerPart} refl) (join lexical hits_byte a d)
    go σ us vs a (inr d) = by (second_of lexical hits_byte {n = IntegerPart} refl) (join lexical hits_byte a d)

string_from : AdmitsAll lexical StringValue (lex_factored StringValue)
unfolding lexical lex_factored
string_from = (λ σ es d. go σ (bracket_out lexical hits_byte quote quote StringCharacter StringCharacter+ StringCharacter* refl refl d), tt)
  where
    go : (σ : Syms) {es : Evs} → Derives lexical hits_byte (tm quote ∷ tm quote ∷ σ) es ⊎ Derives lexical hits_byte (tm quote ∷ nt StringCharacter+ ∷ tm quote ∷ σ) es → Derives lexical hits_byte (nt StringValue ∷ σ) es
    go σ (inl d) = by (first_of lexical hits_byte {n = StringValue} refl) d
    go σ (inr d) = by (second_of lexical hits_byte {n = StringValue} refl) d

to_draft : Each (λ n. AdmitsAll lexical n (lex_factored n)) changed_l
unfolding lexical lex_factored
to_draft = (piece_from, (float_from, (integer_from, (string_from, tt))))

-- THE SAME
pub lexical→factored : {ss : Syms} {es : Evs} → Derives lexical hits_byte ss es → Derives lex_factored hits_byte ss es
unfolding lex_factored
lexical→factored d = simulate hits_byte lexical lex_factored (λ n α σ es m k. go n α σ es m k (either (λ n. AdmitsAll lex_factored n (lexical n)) changed_l to_factored n (lexical n))) d
  where
    go : (n : Lex) (α σ : Syms) (es : Evs) → Memᴰ α (lexical n) → Derives lex_factored hits_byte (α ++ σ) es → AdmitsAll lex_factored n (lexical n) ⊎ (look changed_l n (lexical n) ≡ lexical n) → Derives lex_factored hits_byte (nt n ∷ σ) es
    go n α σ es m k (inl h) = admit lex_factored n h m σ es k
    go n α σ es m k (inr e) = by {n = n} {α = α} (rw e m) k

pub factored→lexical : {ss : Syms} {es : Evs} → Derives lex_factored hits_byte ss es → Derives lexical hits_byte ss es
unfolding lex_factored
factored→lexical d = simulate hits_byte lex_factored lexical (λ n α σ es m k. go n α σ es m k (either (λ n. AdmitsAll lexical n (lex_factored n)) changed_l to_draft n (lexical n))) d
  where
    go : (n : Lex) (α σ : Syms) (es : Evs) → Memᴰ α (lex_factored n) → Derives lexical hits_byte (α ++ σ) es → AdmitsAll lexical n (lex_factored n) ⊎ (look changed_l n (lexical n) ≡ lexical n) → Derives lexical hits_byte (nt n ∷ σ) es
    go n α σ es m k (inl h) = admit lexical n h m σ es k
    go n α σ es m k (inr e) = by {n = n} {α = α} (rw e at m) k
