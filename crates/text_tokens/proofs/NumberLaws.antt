-- Numbers: the longest match of the machine is the one that the sizes of the parts tell.
use mathlib.Core.Path.{◌≡◌, refl, sym, ap, ◌∙◌, subst}
use mathlib.Core.Bool.{Bool, true, false, cond, ◌&&◌, ◌||◌}
use mathlib.Core.List.{List, [], ◌∷◌}
use mathlib.Core.Logic.{◌⊎◌, inl, inr, ⊎_elim}
use mathlib.Core.Option.{none, some}
use Prim.Native.Nat.{ℕ, suc, ◌+◌, ◌-◌, ◌<◌, ◌≤◌}
use native.Mathlib.Nat.{zero-add, eq-or-lt_of_le}
use native.Mathlib.Omega.{arith}
use borrow.Author.Tests.{leb-true, eq-eqb, ne_eqb}
use lib.Dec.{leb, ltb, eqb}
use lib.ListN.{length, get_or, drop}
use lib.Seq.{drop-drop}
use Rattle.std.specs.Prelude.{Err}
use Rattle.paper.specs.Grammar.{nt, act, tok}
use Rattle.paper.specs.Language.{Class, int, float}
use Rattle.paper.specs.Lexical.{What, is, Piece, Digit*, Digit+, Sign?, UnsignedPart, span, letter, digit, dot, e, sign, zero, lexical, hits_byte}
use Rattle.paper.proofs.Machine.{took, refused, step, enter, choose}
use Rattle.paper.proofs.LexTables.{lexer, lex_factored}
use Rattle.text_scan.specs.Head.{kind_of, token_read}
use Rattle.text_scan.specs.Piece.{as_token, token_here}
use Rattle.text_scan.specs.Run.{run_of, starts_with, fraction_size, sign_size, exponent_size, whole_size}
use Rattle.text_tokens.specs.Skip.{is_punctuator}
use Rattle.text_characters.proofs.ByteLaws.{front}
use Rattle.text_tokens.proofs.RunLaws.{run_yes, starts_at}
use Rattle.text_scan.proofs.ReadLaws.{Stack, Read, Nothing, read_size, read_take, read_end, read_stop, read_back, read_mark, read_run, read_alike, nothing_alike, alike_byte, alike_end, nothing_take, nothing_refused, nothing_end, read_token, nothing_token}
use Rattle.text_tokens.proofs.StepLaws.{end_piece, repeats_digit, step_digit, step_no_digit, end_digit, step_sign, step_no_sign, end_sign, step_no_whole, end_whole, Exponent, Exponent?, Rest, step_e, step_no_e, rest_e, rest_none, rest_dot, end_exponent, end_rest}
use Rattle.text_tokens.proofs.WhatLaws.{bad_byte}

false≢true : {X : Type 0} → false ≡ true → X
false≢true q = let z : ◌≡◌ {A = ℕ} 0 1 = cc in let y : ⊥ = omega arith in absurd y

-- digits, one at least
plus_read : (σ : Stack) (bs : List ℕ) (m : ℕ) (w : What) → starts_with digit bs ≡ true → Read σ (drop (run_of digit bs) bs) m w → Read (nt Digit+ ∷ σ) bs (run_of digit bs + m) w
plus_read σ [] m w h r = false≢true h
plus_read σ (b ∷ bs) m w h r =
    let k : run_of digit (b ∷ bs) ≡ suc (run_of digit bs) = omega (arith, run_yes digit b bs h) in
    read_size (omega arith) (read_take (step_digit b σ h) (read_run repeats_digit σ bs m w (rw k at r)))

plus_none : (σ : Stack) (bs : List ℕ) → starts_with digit bs ≡ false → Nothing (nt Digit+ ∷ σ) bs
plus_none σ [] h = nothing_end (end_digit σ)
plus_none σ (b ∷ bs) h = nothing_refused (step_no_digit b σ h) (end_digit σ)

-- a sign or none
sign_read : (σ : Stack) (bs : List ℕ) (m : ℕ) (w : What) → Read σ (drop (sign_size bs) bs) m w → Read (nt Sign? ∷ σ) bs (sign_size bs + m) w
unfolding sign_size
sign_read σ [] m w r = read_size (sym (zero-add m)) (read_alike (alike_end (end_sign σ)) r)
sign_read σ (b ∷ bs) m w r = go (hits_byte sign b) refl r
  where
    go : (t : Bool) → hits_byte sign b ≡ t → Read σ (drop (cond t 1 0) (b ∷ bs)) m w → Read (nt Sign? ∷ σ) (b ∷ bs) (cond t 1 0 + m) w
    go true q r = read_size (omega arith) (read_take (step_sign b σ q) r)
    go false q r = read_size (sym (zero-add m)) (read_alike (alike_byte (step_no_sign b σ q) (end_sign σ)) r)

sign_nothing : (σ : Stack) (bs : List ℕ) → step lexer σ none ≡ refused → Nothing σ (drop (sign_size bs) bs) → Nothing (nt Sign? ∷ σ) bs
unfolding sign_size
sign_nothing σ [] e z = nothing_alike (alike_end (end_sign σ)) z
sign_nothing σ (b ∷ bs) e z = go (hits_byte sign b) refl z
  where
    go : (t : Bool) → hits_byte sign b ≡ t → Nothing σ (drop (cond t 1 0) (b ∷ bs)) → Nothing (nt Sign? ∷ σ) (b ∷ bs)
    go true q z = nothing_take (step_sign b σ q) (end_sign σ ∙ e) z
    go false q z = nothing_alike (alike_byte (step_no_sign b σ q) (end_sign σ)) z

-- an exponent behind its E
expo_yes : (bs : List ℕ) → starts_with digit (drop (sign_size bs) bs) ≡ true → Read Exponent bs (sign_size bs + (run_of digit (drop (sign_size bs) bs) + 0)) (is float)
expo_yes bs h =
    sign_read (nt Digit+ ∷ act (is float) ∷ []) bs (run_of digit (drop (sign_size bs) bs) + 0) (is float)
    (plus_read (act (is float) ∷ []) (drop (sign_size bs) bs) 0 (is float) h (read_mark (is float) (drop (run_of digit (drop (sign_size bs) bs)) (drop (sign_size bs) bs))))

expo_no : (bs : List ℕ) → starts_with digit (drop (sign_size bs) bs) ≡ false → Nothing Exponent bs
expo_no bs h = sign_nothing (nt Digit+ ∷ act (is float) ∷ []) bs (end_digit (act (is float) ∷ [])) (plus_none (act (is float) ∷ []) (drop (sign_size bs) bs) h)

exponent_read : (bs : List ℕ) → Read Exponent? bs (exponent_size bs) (is float)
unfolding exponent_size
exponent_read [] = read_end end_exponent
exponent_read (b ∷ bs) = go (hits_byte e b) refl (starts_with digit (drop (sign_size bs) bs)) refl
  where
    go : (t : Bool) → hits_byte e b ≡ t → (d : Bool) → starts_with digit (drop (sign_size bs) bs) ≡ d →
        Read Exponent? (b ∷ bs) (cond t (cond d (1 + sign_size bs + run_of digit (drop (sign_size bs) bs)) 0) 0) (is float)
    go true q true h = read_size (omega arith) (read_take (step_e b q) (expo_yes bs h))
    go true q false h = read_back end_exponent (step_e b q) (expo_no bs h)
    go false q d h = read_stop end_exponent (step_no_e b q)

-- what is behind the integer part: a fraction, an exponent, both or none
abbrev pub rest_size : List ℕ → ℕ
rest_size bs = fraction_size bs + exponent_size (drop (fraction_size bs) bs)

abbrev pub rest_what : ℕ → What
rest_what n = cond (eqb n 0) (is int) (is float)

rest_float : (bs : List ℕ) (n m : ℕ) → suc n ≡ m → Read Rest bs (suc n) (is float) → Read Rest bs m (rest_what m)
rest_float bs n m e r = subst (λ (k : ℕ). Read Rest bs k (rest_what k)) e (rw (ne_eqb (suc n) 0 (λ z. omega arith)) r)

rest_int : (bs : List ℕ) (m : ℕ) → 0 ≡ m → Read Rest bs 0 (is int) → Read Rest bs m (rest_what m)
rest_int bs m e r = subst (λ (k : ℕ). Read Rest bs k (rest_what k)) e r

hit_one : (v b : ℕ) → hits_byte (span v v ∷ []) b ≡ true → b ≡ v
hit_one v b q = go (ltb b 256) (leb v b) refl (leb b v) refl q
  where
    go : (n x : Bool) → leb v b ≡ x → (y : Bool) → leb b v ≡ y → n && (x && y || false) ≡ true → b ≡ v
    go true true p true r h = omega (arith, leb-true v b p, leb-true b v r)
    go true true p false r h = false≢true h
    go true false p y r h = false≢true h
    go false x p y r h = false≢true h

rest_is : (bs : List ℕ) (n : ℕ) → fraction_size bs ≡ n → rest_size bs ≡ n + exponent_size (drop n bs)
rest_is bs n q = rw q

module _ (b : ℕ) (bs : List ℕ) where
  fraction_is : (t : Bool) → hits_byte dot b ≡ t → (d : Bool) → starts_with digit bs ≡ d → fraction_size (b ∷ bs) ≡ cond t (cond d (1 + run_of digit bs) 0) 0
  unfolding fraction_size
  fraction_is t q d h = rw (q, h)

  exponent_is : (t : Bool) → hits_byte e b ≡ t → (d : Bool) → starts_with digit (drop (sign_size bs) bs) ≡ d →
      exponent_size (b ∷ bs) ≡ cond t (cond d (1 + sign_size bs + run_of digit (drop (sign_size bs) bs)) 0) 0
  unfolding exponent_size
  exponent_is t q d h = rw (q, h)

  -- a dot with digits behind it
  rest_fraction : hits_byte dot b ≡ true → starts_with digit bs ≡ true → Read Rest (b ∷ bs) (rest_size (b ∷ bs)) (rest_what (rest_size (b ∷ bs)))
  rest_fraction q h =
      let k : fraction_size (b ∷ bs) ≡ suc (run_of digit bs) = fraction_is true q true h ∙ (omega arith) in
      rest_float (b ∷ bs) (run_of digit bs + exponent_size (drop (run_of digit bs) bs)) (rest_size (b ∷ bs)) (sym (rest_is (b ∷ bs) (suc (run_of digit bs)) k ∙ omega arith))
      (read_take (rw (hit_one 46 b q) rest_dot) (plus_read Exponent? bs (exponent_size (drop (run_of digit bs) bs)) (is float) h (exponent_read (drop (run_of digit bs) bs))))

  -- a dot without
  rest_dotted : hits_byte dot b ≡ true → starts_with digit bs ≡ false → Read Rest (b ∷ bs) (rest_size (b ∷ bs)) (rest_what (rest_size (b ∷ bs)))
  rest_dotted q h =
      let d : b ≡ 46 = hit_one 46 b q in
      let n : hits_byte e b ≡ false = rw d in
      rest_int (b ∷ bs) (rest_size (b ∷ bs)) (sym (rest_is (b ∷ bs) 0 (fraction_is true q false h) ∙ omega (arith, exponent_is false n (starts_with digit (drop (sign_size bs) bs)) refl)))
      (read_back end_rest (rw d rest_dot) (plus_none Exponent? bs h))

  -- an E with digits behind it
  rest_exponent : hits_byte dot b ≡ false → hits_byte e b ≡ true → starts_with digit (drop (sign_size bs) bs) ≡ true → Read Rest (b ∷ bs) (rest_size (b ∷ bs)) (rest_what (rest_size (b ∷ bs)))
  rest_exponent q n h =
      rest_float (b ∷ bs) (sign_size bs + (run_of digit (drop (sign_size bs) bs) + 0)) (rest_size (b ∷ bs))
      (sym (rest_is (b ∷ bs) 0 (fraction_is false q (starts_with digit bs) refl) ∙ omega (arith, exponent_is true n true h)))
      (read_take (rest_e b n) (expo_yes bs h))

  -- an E without
  rest_e_bare : hits_byte dot b ≡ false → hits_byte e b ≡ true → starts_with digit (drop (sign_size bs) bs) ≡ false → Read Rest (b ∷ bs) (rest_size (b ∷ bs)) (rest_what (rest_size (b ∷ bs)))
  rest_e_bare q n h =
      rest_int (b ∷ bs) (rest_size (b ∷ bs)) (sym (rest_is (b ∷ bs) 0 (fraction_is false q (starts_with digit bs) refl) ∙ omega (arith, exponent_is true n false h)))
      (read_back end_rest (rest_e b n) (expo_no bs h))

  -- neither
  rest_over : hits_byte dot b ≡ false → hits_byte e b ≡ false → Read Rest (b ∷ bs) (rest_size (b ∷ bs)) (rest_what (rest_size (b ∷ bs)))
  rest_over q n =
      rest_int (b ∷ bs) (rest_size (b ∷ bs)) (sym (rest_is (b ∷ bs) 0 (fraction_is false q (starts_with digit bs) refl) ∙ omega (arith, exponent_is false n (starts_with digit (drop (sign_size bs) bs)) refl)))
      (read_stop end_rest (rest_none b q n))

rest_read : (bs : List ℕ) → Read Rest bs (rest_size bs) (rest_what (rest_size bs))
unfolding fraction_size exponent_size
rest_read [] = rest_int [] (rest_size []) refl (read_end end_rest)
rest_read (b ∷ bs) = go (hits_byte dot b) refl (starts_with digit bs) refl (hits_byte e b) refl (starts_with digit (drop (sign_size bs) bs)) refl
  where
    go : (t : Bool) → hits_byte dot b ≡ t → (d : Bool) → starts_with digit bs ≡ d → (x : Bool) → hits_byte e b ≡ x → (y : Bool) → starts_with digit (drop (sign_size bs) bs) ≡ y →
        Read Rest (b ∷ bs) (rest_size (b ∷ bs)) (rest_what (rest_size (b ∷ bs)))
    go true q true h x n y k = rest_fraction b bs q h
    go true q false h x n y k = rest_dotted b bs q h
    go false q d h true n true k = rest_exponent b bs q n k
    go false q d h true n false k = rest_e_bare b bs q n k
    go false q d h false n y k = rest_over b bs q n

-- an integer part: a zero alone, or another digit and those behind it
pub record Wholes (σ : Stack) : Type 0 where
  pub step_zero : step lexer σ (some 48) ≡ took (tok 48 ∷ []) Rest
  pub step_more : (b : ℕ) → 49 ≤ b → b < 58 → step lexer σ (some b) ≡ took (tok b ∷ []) (nt Digit* ∷ Rest)

abbrev Each : (ℕ → Type 0) → ℕ → ℕ → Type 0
Each P lo ℕ.zero = Unit {0}
Each P lo (suc n) = P lo × Each P (suc lo) n

each : (P : ℕ → Type 0) (lo n : ℕ) → Each P lo n → (b : ℕ) → lo ≤ b → b < lo + n → P b
each P lo ℕ.zero t b g h = absurd (let z : b < lo + 0 = h in omega arith)
each P lo (suc n) t b g h =
    ⊎_elim (λ e. subst P e t.0) (λ l. each P (suc lo) n t.1 b l (let z : b < lo + suc n = h in omega arith)) (eq-or-lt_of_le g)

abbrev Signed : Stack
Signed = nt UnsignedPart ∷ Rest

wholes_piece : Wholes (nt Piece ∷ [])
unfolding step enter choose lex_factored lexical
wholes_piece = record {
  step_zero = refl;
  step_more = each (λ b. step lexer (nt Piece ∷ []) (some b) ≡ took (tok b ∷ []) (nt Digit* ∷ Rest)) 49 9
      (refl, (refl, (refl, (refl, (refl, (refl, (refl, (refl, (refl, tt)))))))));
}

wholes_signed : Wholes Signed
unfolding step enter choose lex_factored lexical
wholes_signed = record {
  step_zero = refl;
  step_more = each (λ b. step lexer Signed (some b) ≡ took (tok b ∷ []) (nt Digit* ∷ Rest)) 49 9
      (refl, (refl, (refl, (refl, (refl, (refl, (refl, (refl, (refl, tt)))))))));
}

digit_range : (b : ℕ) → hits_byte digit b ≡ true → (48 ≤ b) × (b < 58)
digit_range b q = go (ltb b 256) (leb 48 b) refl (leb b 57) refl q
  where
    go : (n x : Bool) → leb 48 b ≡ x → (y : Bool) → leb b 57 ≡ y → n && (x && y || false) ≡ true → (48 ≤ b) × (b < 58)
    go true true p true r h = (leb-true 48 b p, omega (arith, leb-true b 57 r))
    go true true p false r h = false≢true h
    go true false p y r h = false≢true h
    go false x p y r h = false≢true h

-- the whole number, without its sign
abbrev pub number_size : List ℕ → ℕ
number_size bs = whole_size bs + rest_size (drop (whole_size bs) bs)

abbrev pub number_what : List ℕ → What
number_what bs = rest_what (rest_size (drop (whole_size bs) bs))

whole_is : (b : ℕ) (bs : List ℕ) (t : Bool) → hits_byte zero b ≡ t → whole_size (b ∷ bs) ≡ cond t 1 (1 + run_of digit bs)
unfolding whole_size
whole_is b bs t q = rw q

whole_fit : {σ : Stack} (bs : List ℕ) (n k : ℕ) → whole_size bs ≡ n → k ≡ n + rest_size (drop n bs) → Read σ bs k (rest_what (rest_size (drop n bs))) → Read σ bs (number_size bs) (number_what bs)
whole_fit bs n k q f r = rw q (read_size f r)

whole_read : {σ : Stack} → Wholes σ → (bs : List ℕ) → starts_with digit bs ≡ true → Read σ bs (number_size bs) (number_what bs)
whole_read W [] h = false≢true h
whole_read {σ} W (b ∷ bs) h = go (hits_byte zero b) refl
  where
    other : hits_byte zero b ≡ false → 49 ≤ b
    other q = ⊎_elim (λ (e : 48 ≡ b). let z : hits_byte zero b ≡ true = rw (← e) in false≢true (sym q ∙ z)) (λ l. l) (eq-or-lt_of_le (digit_range b h).0)

    go : (t : Bool) → hits_byte zero b ≡ t → Read σ (b ∷ bs) (number_size (b ∷ bs)) (number_what (b ∷ bs))
    go true q = whole_fit (b ∷ bs) 1 (suc (rest_size bs)) (whole_is b bs true q) (omega arith) (read_take (rw (hit_one 48 b q) W.step_zero) (rest_read bs))
    go false q =
        whole_fit (b ∷ bs) (suc (run_of digit bs)) (suc (run_of digit bs + rest_size (drop (run_of digit bs) bs))) (whole_is b bs false q ∙ omega arith) (omega arith)
        (read_take (W.step_more b (other q) (digit_range b h).1) (read_run repeats_digit Rest bs (rest_size (drop (run_of digit bs) bs)) (rest_what (rest_size (drop (run_of digit bs) bs))) (rest_read (drop (run_of digit bs) bs))))

signed_none : (bs : List ℕ) → starts_with digit bs ≡ false → Nothing Signed bs
signed_none [] h = nothing_end (end_whole Rest)
signed_none (b ∷ bs) h = nothing_refused (step_no_whole b Rest h) (end_whole Rest)

minus : step lexer (nt Piece ∷ []) (some 45) ≡ took (tok 45 ∷ []) Signed
unfolding step enter choose lex_factored lexical
minus = refl

-- d is the place behind the sign of the number at `at`
abbrev pub Behind : List ℕ → ℕ → ℕ → Type 0
Behind s at d = ((get_or s at 0 ≡ 45) × (d ≡ at + 1)) ⊎ ((get_or s at 0 ≡ 45 → ⊥) × (d ≡ at))

module _ (s : List ℕ) (at d : ℕ) (h : at < length s) where
  number_read : (n : ℕ) → starts_with digit (drop d s) ≡ true → at + n ≡ d + number_size (drop d s) → Behind s at d → Read (nt Piece ∷ []) (drop at s) n (number_what (drop d s))
  number_read n q m (inl z) =
      rw (front s at h, z.0) (read_size (omega (arith, z.1)) (read_take minus (subst (λ (k : ℕ). Read Signed (drop k s) (number_size (drop d s)) (number_what (drop d s))) z.1 (whole_read wholes_signed (drop d s) q))))
  number_read n q m (inr z) = read_size (omega (arith, z.1)) (subst (λ (k : ℕ). Read (nt Piece ∷ []) (drop k s) (number_size (drop d s)) (number_what (drop d s))) z.1 (whole_read wholes_piece (drop d s) q))

  behind_low : Behind s at d → at ≤ d
  behind_low (inl z) = omega (arith, z.1)
  behind_low (inr z) = omega (arith, z.1)

  -- no digit: no number, and nothing else that is a token
  pub number_bad : get_or s at 0 < 256 → hits_byte letter (get_or s at 0) ≡ false → is_punctuator (get_or s at 0) ≡ false → (get_or s at 0 ≡ 34 → ⊥) → (get_or s at 0 ≡ 46 → ⊥) →
      Behind s at d → starts_with digit (drop d s) ≡ false → Err at ≡ token_here at (drop at s)
  number_bad b l p x y (inl z) q =
      sym (rw (front s at h, z.0) (nothing_token (45 ∷ drop (at + 1) s) (nothing_take minus end_piece (signed_none (drop (at + 1) s) (rw z.1 at q))) at))
  number_bad b l p x y (inr z) q =
      let g : hits_byte digit (get_or s at 0) ≡ false = sym (starts_at digit s at h) ∙ (rw z.1 at q) in
      sym (rw (front s at h) (bad_byte (get_or s at 0) b (rw (l, g, p, ne_eqb _ _ x, ne_eqb _ _ y, ne_eqb _ _ z.0) tt) at (drop (at + 1) s)))

  -- the places that the code finds: one past the integer part, the fraction and the exponent
  module _ (w f k : ℕ) (W : w ≡ d + whole_size (drop d s)) (F : f ≡ w + fraction_size (drop w s)) (K : k ≡ f + exponent_size (drop f s)) where
    behind : drop (whole_size (drop d s)) (drop d s) ≡ drop w s
    behind = drop-drop (whole_size (drop d s)) d s ∙ ap (λ (i : ℕ). drop i s) (sym W)

    rest_at : k ≡ w + rest_size (drop w s)
    rest_at = rw (drop-drop (fraction_size (drop w s)) w s, ← F) (omega arith)

    size_at : k ≡ d + number_size (drop d s)
    size_at = rw behind (omega (arith, rest_at))

    token_at : (c : Class) → number_what (drop d s) ≡ is c → starts_with digit (drop d s) ≡ true → Behind s at d → token_read (kind_of c) at k ≡ token_here at (drop at s)
    token_at c e q z =
        let l : at + (k - at) ≡ k = omega (arith, behind_low z, size_at) in
        let r = read_token (drop at s) (number_read (k - at) q (l ∙ size_at) z) at in
        sym (r ∙ ap (λ (v : What). as_token v at (k - at)) e ∙ ap (λ (i : ℕ). token_read (kind_of c) at i) l)

    pub number_int : starts_with digit (drop d s) ≡ true → Behind s at d → k ≡ w → token_read 2 at k ≡ token_here at (drop at s)
    number_int q z e = token_at int (rw (behind, eq-eqb (rest_size (drop w s)) 0 (omega (arith, rest_at)))) q z

    pub number_float : starts_with digit (drop d s) ≡ true → Behind s at d → (k ≡ w → ⊥) → token_read 3 at k ≡ token_here at (drop at s)
    number_float q z e = token_at float (rw (behind, ne_eqb (rest_size (drop w s)) 0 (λ n. e (rest_at ∙ omega arith)))) q z
