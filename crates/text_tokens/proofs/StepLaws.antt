-- The steps of the lexical machine that names and numbers take, told by the byte.
use mathlib.Core.Path.{◌≡◌, refl, ◌∙◌, subst}
use mathlib.Core.Bool.{Bool, true, false}
use mathlib.Core.List.{[], ◌∷◌, Memᴰ}
use mathlib.Core.Option.{none, some}
use Prim.Native.Nat.{ℕ}
use lib.Dec.{T}
use Rattle.paper.specs.Grammar.{nt, tm, act, tok, mark}
use Rattle.paper.specs.Language.{n_other, int, float}
use Rattle.paper.specs.Lexical.{Lex, Set, is, Piece, Name, NameRest*, Digit*, Digit+, Sign?, ExponentPart, ExponentPart?, NumberRest, UnsignedPart, digit, letter, letter_or_digit, dot, e, sign, lexical, hits_byte}
use Rattle.paper.proofs.Machine.{took, emptied, refused, pick, fst, nul, step, enter, choose}
use Rattle.paper.proofs.Bools.{or_l, eq→t}
use Rattle.paper_theory.proofs.Theory.{pick_none, step_by, step_none, choose_first, choose_null}
use Rattle.paper.proofs.LexTables.{lexer, lex_factored}
use Rattle.paper_theory.proofs.LexChecked.{fits_l}
use Rattle.text_scan.proofs.ReadLaws.{Stack, Repeats}

not_t : (b : Bool) → b ≡ false → T b → ⊥
not_t b q t = subst T q t

-- a terminal takes a byte that it hits, and refuses any other
pub taken : (b : ℕ) (p : Set) (σ : Stack) → hits_byte p b ≡ true → step lexer (tm p ∷ σ) (some b) ≡ took (tok b ∷ []) σ
unfolding step
taken b p σ h = rw h

pub missed : (b : ℕ) (p : Set) (σ : Stack) → hits_byte p b ≡ false → step lexer (tm p ∷ σ) (some b) ≡ refused
unfolding step
missed b p σ h = rw h

pub end_tm : (p : Set) (σ : Stack) → step lexer (tm p ∷ σ) none ≡ refused
unfolding step
end_tm p σ = refl

-- a piece has a byte
pub end_piece : step lexer (nt Piece ∷ []) none ≡ refused
unfolding lexical lex_factored step enter choose
end_piece = refl

pub repeats_name : Repeats NameRest* letter_or_digit
unfolding lexical lex_factored choose enter step
repeats_name = record {
  more = λ b σ h. step_by fits_l NameRest* (some b) σ (choose_first fits_l NameRest* b (Memᴰ.tail (Memᴰ.head refl)) (eq→t (hits_byte letter_or_digit b) h)) ∙ taken b letter_or_digit (nt NameRest* ∷ σ) h;
  over = λ b σ h. step_by fits_l NameRest* (some b) σ (choose_null fits_l NameRest* b (Memᴰ.head refl) tt (not_t (hits_byte letter_or_digit b) h));
  end = λ σ. step_by fits_l NameRest* none σ refl;
}

pub repeats_digit : Repeats Digit* digit
unfolding lexical lex_factored choose enter step
repeats_digit = record {
  more = λ b σ h. step_by fits_l Digit* (some b) σ (choose_first fits_l Digit* b (Memᴰ.tail (Memᴰ.head refl)) (eq→t (hits_byte digit b) h)) ∙ taken b digit (nt Digit* ∷ σ) h;
  over = λ b σ h. step_by fits_l Digit* (some b) σ (choose_null fits_l Digit* b (Memᴰ.head refl) tt (not_t (hits_byte digit b) h));
  end = λ σ. step_by fits_l Digit* none σ refl;
}

-- a part that begins with none of its bytes
pub step_not_first : (n : Lex) (b : ℕ) (σ : Stack) → pick (λ α. nul lexer α) (lex_factored n) ≡ none → (T (lexer.first n b) → ⊥) → step lexer (nt n ∷ σ) (some b) ≡ refused
unfolding choose
step_not_first n b σ q h = step_none fits_l n (some b) σ (rw (pick_none (λ α. fst lexer α b) (lex_factored n) (λ α m t. h (fits_l.first_closed n b m t))) q)

-- a name's first letter
pub step_letter : (b : ℕ) → hits_byte letter b ≡ true → step lexer (nt Piece ∷ []) (some b) ≡ took (tok b ∷ []) (nt NameRest* ∷ act (is n_other) ∷ [])
unfolding lexical lex_factored
step_letter b h =
    step_by fits_l Piece (some b) [] (choose_first fits_l Piece b name_at (or_l (hits_byte letter b) false (eq→t (hits_byte letter b) h))) ∙
    step_by fits_l Name (some b) (act (is n_other) ∷ []) (choose_first fits_l Name b (Memᴰ.head refl) (eq→t (hits_byte letter b) h)) ∙
    taken b letter (nt NameRest* ∷ act (is n_other) ∷ []) h
  where
    name_at : Memᴰ (nt Name ∷ act (is n_other) ∷ []) (lex_factored Piece)
    name_at = Memᴰ.tail (Memᴰ.tail (Memᴰ.tail (Memᴰ.tail (Memᴰ.tail (Memᴰ.tail (Memᴰ.tail (Memᴰ.tail (Memᴰ.tail (Memᴰ.tail (Memᴰ.tail (Memᴰ.tail (Memᴰ.tail (Memᴰ.tail (Memᴰ.head refl))))))))))))))

-- digits, one at least
module _ (b : ℕ) (σ : Stack) where
  pub step_digit : hits_byte digit b ≡ true → step lexer (nt Digit+ ∷ σ) (some b) ≡ took (tok b ∷ []) (nt Digit* ∷ σ)
  unfolding lexical lex_factored
  step_digit h = step_by fits_l Digit+ (some b) σ (choose_first fits_l Digit+ b (Memᴰ.head refl) (eq→t (hits_byte digit b) h)) ∙ taken b digit (nt Digit* ∷ σ) h

  pub step_no_digit : hits_byte digit b ≡ false → step lexer (nt Digit+ ∷ σ) (some b) ≡ refused
  unfolding lexical lex_factored choose
  step_no_digit h = step_none fits_l Digit+ (some b) σ (rw h)

  pub step_sign : hits_byte sign b ≡ true → step lexer (nt Sign? ∷ σ) (some b) ≡ took (tok b ∷ []) σ
  unfolding lexical lex_factored
  step_sign h = step_by fits_l Sign? (some b) σ (choose_first fits_l Sign? b (Memᴰ.tail (Memᴰ.head refl)) (eq→t (hits_byte sign b) h)) ∙ taken b sign σ h

  pub step_no_sign : hits_byte sign b ≡ false → step lexer (nt Sign? ∷ σ) (some b) ≡ step lexer σ (some b)
  unfolding lexical lex_factored
  step_no_sign h = step_by fits_l Sign? (some b) σ (choose_null fits_l Sign? b (Memᴰ.head refl) tt (not_t (hits_byte sign b) h))

-- an integer part without its sign
pub step_no_whole : (b : ℕ) (σ : Stack) → hits_byte digit b ≡ false → step lexer (nt UnsignedPart ∷ σ) (some b) ≡ refused
unfolding lexical lex_factored
step_no_whole b σ h = step_not_first UnsignedPart b σ refl (not_t (hits_byte digit b) h)

pub end_whole : (σ : Stack) → step lexer (nt UnsignedPart ∷ σ) none ≡ refused
unfolding lexical lex_factored choose
end_whole σ = step_none fits_l UnsignedPart none σ refl

pub end_digit : (σ : Stack) → step lexer (nt Digit+ ∷ σ) none ≡ refused
unfolding lexical lex_factored choose
end_digit σ = step_none fits_l Digit+ none σ refl

pub end_sign : (σ : Stack) → step lexer (nt Sign? ∷ σ) none ≡ step lexer σ none
unfolding lexical lex_factored choose
end_sign σ = step_by fits_l Sign? none σ refl

-- what is left of a float behind its fraction, and of a number behind its integer part
abbrev pub Exponent : Stack
Exponent = nt Sign? ∷ nt Digit+ ∷ act (is float) ∷ []

abbrev pub Exponent? : Stack
Exponent? = nt ExponentPart? ∷ act (is float) ∷ []

abbrev pub Rest : Stack
Rest = nt NumberRest ∷ []

module _ (b : ℕ) where
  pub step_e : hits_byte e b ≡ true → step lexer Exponent? (some b) ≡ took (tok b ∷ []) Exponent
  unfolding lexical lex_factored
  step_e h =
      step_by fits_l ExponentPart? (some b) (act (is float) ∷ []) (choose_first fits_l ExponentPart? b (Memᴰ.tail (Memᴰ.head refl)) (or_l (hits_byte e b) false (eq→t (hits_byte e b) h))) ∙
      step_by fits_l ExponentPart (some b) (act (is float) ∷ []) (choose_first fits_l ExponentPart b (Memᴰ.head refl) (eq→t (hits_byte e b) h)) ∙
      taken b e Exponent h

  pub step_no_e : hits_byte e b ≡ false → step lexer Exponent? (some b) ≡ emptied (mark (is float) ∷ [])
  unfolding lexical lex_factored step
  step_no_e h = step_by fits_l ExponentPart? (some b) (act (is float) ∷ []) (choose_null fits_l ExponentPart? b (Memᴰ.head refl) tt (not_t (hits_byte e b) h))

  pub rest_e : hits_byte e b ≡ true → step lexer Rest (some b) ≡ took (tok b ∷ []) Exponent
  unfolding lexical lex_factored
  rest_e h =
      step_by fits_l NumberRest (some b) [] (choose_first fits_l NumberRest b (Memᴰ.tail (Memᴰ.tail (Memᴰ.head refl))) (or_l (hits_byte e b) false (eq→t (hits_byte e b) h))) ∙
      step_by fits_l ExponentPart (some b) (act (is float) ∷ []) (choose_first fits_l ExponentPart b (Memᴰ.head refl) (eq→t (hits_byte e b) h)) ∙
      taken b e Exponent h

  pub rest_none : hits_byte dot b ≡ false → hits_byte e b ≡ false → step lexer Rest (some b) ≡ emptied (mark (is int) ∷ [])
  unfolding lexical lex_factored step enter choose
  rest_none h k = rw (h, k)

pub rest_dot : step lexer Rest (some 46) ≡ took (tok 46 ∷ []) (nt Digit+ ∷ Exponent?)
unfolding lexical lex_factored step enter choose
rest_dot = refl

pub end_exponent : step lexer Exponent? none ≡ emptied (mark (is float) ∷ [])
unfolding lexical lex_factored step enter choose
end_exponent = refl

pub end_rest : step lexer Rest none ≡ emptied (mark (is int) ∷ [])
unfolding lexical lex_factored step enter choose
end_rest = refl
