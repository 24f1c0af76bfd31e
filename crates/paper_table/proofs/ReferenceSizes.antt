-- The wrappers of a type reference, and the marks `[` and `!` of its text: as many.
use mathlib.Core.Path.{◌≡◌, refl, sym, ap, ◌∙◌}
use mathlib.Core.Bool.{Bool, true, false, ◌&&◌, ◌||◌, cond, false≢true}
use mathlib.Core.Option.{Option, none, some}
use mathlib.Core.List.{List, [], ◌∷◌, ◌++◌, head?}
use Prim.Native.Nat.{ℕ, zero, suc, ◌+◌, ◌≤◌, pred}
use native.Mathlib.Omega.{arith}
use lib.Dec.{eqb}
use borrow.Author.Tests.{eqb-true, ne_eqb}
use Rattle.paper.specs.Lexical.{letter_or_digit, in_set}
use Rattle.paper_table.specs.Lists.{all_of, only_if}
use Rattle.paper_table.specs.References.{Ref, named, list_of, non_null, byte_bang, byte_bracket_l, byte_bracket_r, ref_of}
use Rattle.paper_table.specs.TableSizes.{is_wrapper, wrappers_over}
use Rattle.paper_table.proofs.ReferenceTexts.{ref_text, Written, by_a_name, a_list, a_non_null, name_all, ref_of_sound}

-- how many wrappers a reference has
abbrev pub wrappers : Ref → ℕ
wrappers (named n) = 0
wrappers (list_of r) = suc (wrappers r)
wrappers (non_null r) = suc (wrappers r)

-- how many marks a text has
unfoldable pub marks_in : List ℕ → ℕ
marks_in [] = 0
marks_in (b ∷ s) = cond (is_wrapper b) 1 0 + marks_in s

marks_append : (s t : List ℕ) → marks_in (s ++ t) ≡ marks_in s + marks_in t
unfolding marks_in
marks_append [] t = omega arith
marks_append (b ∷ s) t = let e = marks_append s t in omega arith

-- no byte of a name is a mark
plain : (b : ℕ) → in_set letter_or_digit b ≡ true → is_wrapper b ≡ false
plain b h = go (eqb b byte_bracket_l) (eqb b byte_bang) refl refl
  where
    go : (c d : Bool) → eqb b byte_bracket_l ≡ c → eqb b byte_bang ≡ d → c || d ≡ false
    go true d p q = absurd (false≢true (rw (eqb-true b byte_bracket_l p) at h))
    go false true p q = absurd (false≢true (rw (eqb-true b byte_bang q) at h))
    go false false p q = refl

marks_name : (n : List ℕ) → all_of (in_set letter_or_digit) n ≡ true → marks_in n ≡ 0
unfolding marks_in all_of
marks_name [] h = refl
marks_name (b ∷ n) h = go (in_set letter_or_digit b) refl h (λ e. marks_name n e)
  where
    go : (c : Bool) → in_set letter_or_digit b ≡ c → c && all_of (in_set letter_or_digit) n ≡ true → (all_of (in_set letter_or_digit) n ≡ true → marks_in n ≡ 0) → cond (is_wrapper b) 1 0 + marks_in n ≡ 0
    go true q h ih = rw (plain b q, ih h)
    go false q h ih = absurd (false≢true h)

marks_text : {r : Ref} → Written r → marks_in (ref_text r) ≡ wrappers r
unfolding marks_in
marks_text (by_a_name {n} h) = marks_name n (name_all n h)
marks_text (a_list {r} w) = let e = marks_text w in let f = marks_append (ref_text r) (byte_bracket_r ∷ []) in omega arith
marks_text (a_non_null {r} q w) = let e = marks_text w in let f = marks_append (ref_text r) (byte_bang ∷ []) in omega arith

pub ref_of_marks : (s : List ℕ) (r : Ref) → ref_of s ≡ some r → marks_in s ≡ wrappers r
ref_of_marks s r e = let z = ref_of_sound s r e in ap marks_in (sym z.1) ∙ marks_text z.0

-- none is over n exactly where there are no more
pub over_none : (n at : ℕ) (s : List ℕ) → head? (wrappers_over n at s) ≡ none → marks_in s ≤ n
unfolding wrappers_over marks_in
over_none n at [] h = omega arith
over_none n at (b ∷ s) h = go (is_wrapper b) n h (λ m e. over_none m (at + 1) s e)
  where
    some≢none : {w : ℕ} → ◌≡◌ {A = Option ℕ} (some w) none → ⊥
    some≢none e = false≢true cc

    go : (c : Bool) (n : ℕ) → head? (only_if (c && eqb n 0) at ++ wrappers_over (cond c (pred n) n) (at + 1) s) ≡ none
        → ((m : ℕ) → head? (wrappers_over m (at + 1) s) ≡ none → marks_in s ≤ m) → cond c 1 0 + marks_in s ≤ n
    go true zero h ih = absurd (some≢none h)
    go true (suc n) h ih = let k = ih n (rw (ne_eqb (suc n) 0 (λ e. let z : ⊥ = omega arith in z)) at h) in omega arith
    go false n h ih = let k = ih n h in omega arith
