-- Something is said of every text, and one thing only.
use mathlib.Core.Path.{◌≡◌, refl, sym, ap, ◌∙◌}
use mathlib.Core.Logic.{inl, inr}
use mathlib.Core.List.{List, [], ◌∷◌}
use mathlib.Core.Bool.{cond}
use Prim.Native.Nat.{ℕ}
use native.Mathlib.Omega.{arith}
use lib.Dec.{eqb}
use lib.ListN.{length, replicate, length-replicate}
use Rattle.paper.specs.Grammar.{nt}
use Rattle.paper.specs.Numbers.{refuse_no_token, refuse_no_going, refuse_too_deep, refuse_too_many_rows, rows_size}
use Rattle.paper.specs.Language.{Part}
use Rattle.paper.specs.Tokens.{Text}
use Rattle.paper.specs.Rows.{rows_of}
use Rattle.paper.specs.Reading.{tokens_of, classes_of, Fault, no_token, no_going, no_end, too_deep, too_many_rows, too_many, offset_of, NoLater, Answer, rows_are, refuses, TextAnswer, accepts, refused}
use Rattle.paper.specs.Refusals.{number_of}
use Rattle.paper.specs.declared.Refusal.{Refusal}
use Rattle.paper.specs.declared.Refusal.TheVariants.{NoToken, NoGoing, TooDeep, TooManyRows, TooMany}
use Rattle.paper_theory.proofs.ReadingLaws.{one_reading}
use Rattle.paper.proofs.Going.{start, Out, whole, halt, go}
use Rattle.paper_theory.proofs.GoingSaid.{Rising, going_whole, going_halt}

-- a fault is known by its number and its offset
numbered : ℕ → ℕ → Refusal
numbered n at =
    cond (eqb n refuse_no_token) (NoToken at) (cond (eqb n refuse_no_going) (NoGoing at) (cond (eqb n refuse_too_deep) (TooDeep at) (cond (eqb n refuse_too_many_rows) (TooManyRows at) (TooMany at))))

fault_numbered : {n : Part} {t : Text} {r : Refusal} → Fault n t r → r ≡ numbered (number_of r) (offset_of r)
unfolding numbered
fault_numbered (no_token b) = refl
fault_numbered (no_going k h s) = refl
fault_numbered (no_end w s) = refl
fault_numbered (too_deep k h o) = refl
fault_numbered (too_many_rows k h o) = refl
fault_numbered (too_many k h o) = refl

-- each no later than the other
both : (r r' : Refusal) → NoLater r r' → NoLater r' r → (offset_of r ≡ offset_of r') × (number_of r ≡ number_of r')
both r r' (inl h) (inl k) = let z : ⊥ = omega arith in absurd z
both r r' (inl h) (inr k) = let e = k.0 in let z : ⊥ = omega arith in absurd z
both r r' (inr h) (inl k) = let e = h.0 in let z : ⊥ = omega arith in absurd z
both r r' (inr h) (inr k) = let a = h.1 in let b = k.1 in (h.0, omega arith)

one_refusal : {n : Part} {t : Text} (r r' : Refusal) → Fault n t r → Fault n t r' → NoLater r r' → NoLater r' r → r ≡ r'
one_refusal r r' f f' l l' =
    let e = both r r' l l' in
    fault_numbered f ∙ ap (λ (z : ℕ). numbered z (offset_of r)) e.1 ∙ ap (λ (z : ℕ). numbered (number_of r') z) e.0 ∙ sym (fault_numbered f')

pub said_one : {n : Part} {t : Text} {a a' : Answer} → TextAnswer n t a → TextAnswer n t a' → a ≡ a'
said_one {n} {t} (accepts {es} w d c) (accepts {es = fs} w' d' c') = ap (λ z. rows_are (rows_of z (tokens_of t))) (one_reading n (classes_of t) es fs d d')
said_one (accepts w d c) (refused {r} f l) = absurd (c r f)
said_one (refused {r} f l) (accepts w d c) = absurd (c r f)
said_one (refused {r} f l) (refused {r = r'} f' l') = ap refuses (one_refusal r r' f f' (l r' f') (l' r f))

-- and something is said of every text: what the machine answers
pub said_some : (n : Part) (t : Text) → Rising t → (a : Answer) × TextAnswer n t a
said_some n t rise = of_cells (replicate rows_size 0) (length-replicate {A = ℕ} rows_size 0)
  where
    of_cells : (cells : List ℕ) → length cells ≡ rows_size → (a : Answer) × TextAnswer n t a
    of_cells cells e = of_answer (go (start cells) (nt n ∷ []) t) refl
      where
        of_answer : (o : Out) → go (start cells) (nt n ∷ []) t ≡ o → (a : Answer) × TextAnswer n t a
        of_answer (whole s) q = let g = going_whole n t cells s e q in (rows_are g.0, g.1)
        of_answer (halt r) q = (refuses r, going_halt n t rise cells r q)
