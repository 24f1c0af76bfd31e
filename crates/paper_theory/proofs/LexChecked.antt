-- The lexical tables pass the tests.
use mathlib.Core.Path.{◌≡◌, refl, sym, ap, ◌∙◌}
use mathlib.Core.Bool.{Bool}
use mathlib.Core.Logic.{◌⊎◌, inl, inr}
use mathlib.Core.List.{List, [], ◌∷◌}
use mathlib.Core.Option.{some}
use Prim.Native.Nat.{ℕ, zero, suc, ◌+◌, ◌<◌, ◌≤◌}
use native.Mathlib.Nat.{zero-add, suc-add, add-suc, add-zero, not-suc-le-zero, le_of_suc-le-suc}
use native.Mathlib.Decide.{dec_lt}
use native.Mathlib.Omega.{arith}
use borrow.Author.Tests.{le-ltb}
use lib.ListN.{get_elem?}
use Rattle.paper.specs.Grammar.{nt, Ev, Derives}
use Rattle.paper.proofs.Machine.{run, choose, enter, step}
use Rattle.paper_theory.proofs.Theory.{Fit}
use Rattle.paper_theory.proofs.Test.{Tested, Far, fit, words_of}
use Rattle.paper.specs.Lexical.{Lex, What, lexical, hits_byte}
use Rattle.paper.proofs.LexTables.{lex_factored, lexer, all_l, num_l, at_l, followers_l, sample_l}

abbrev pub follow_l : Lex → ℕ → Bool
follow_l n b = hits_byte (followers_l n) b

abbrev pub numbers : ℕ → ℕ → List ℕ
numbers i zero = []
numbers i (suc k) = i ∷ numbers (suc i) k

abbrev pub bytes : List ℕ
bytes = numbers 0 256

pub tested_l : Tested lexer follow_l all_l bytes sample_l
unfolding lexical lex_factored choose enter step run
tested_l = record { first_closed = tt; null_closed = tt; one_first = tt; one_null = tt; apart = tt; follows = tt; deep_end = tt; deep = tt; words = tt }

number_at : (k i j : ℕ) → j < k → get_elem? (numbers i k) j ≡ some (i + j)
number_at zero i j h = absurd (not-suc-le-zero h)
number_at (suc k) i zero h = rw (add-zero i) refl
number_at (suc k) i (suc j) h = number_at k (suc i) j (le_of_suc-le-suc h) ∙ ap some (suc-add i j ∙ sym (add-suc i j))

-- what is no byte is hit by nothing
far : (b : ℕ) → 256 ≤ b → Far lexer follow_l all_l bytes b
far b h = record { hits_not = λ p. rw (le-ltb b 256 h) refl; first_not = λ n. rw (le-ltb b 256 h) refl; follow_not = λ n. rw (le-ltb b 256 h) refl }

near : (b : ℕ) → (get_elem? bytes b ≡ some b) ⊎ Far lexer follow_l all_l bytes b
near b = go (dec_lt b 256)
  where
    go : Dec (b < 256) → (get_elem? bytes b ≡ some b) ⊎ Far lexer follow_l all_l bytes b
    go (yes h) = inl (number_at 256 0 b h ∙ ap some (zero-add b))
    go (no h) = inr (far b (omega arith))

pub fits_l : Fit lexer follow_l
fits_l = fit lexer follow_l all_l bytes num_l at_l (λ b. b) near tested_l

pub words_l : (n : Lex) → (es : List (Ev ℕ What)) × Derives lex_factored hits_byte (nt n ∷ []) es
words_l n = words_of lexer follow_l all_l bytes num_l at_l (λ b. b) near fits_l tested_l n
