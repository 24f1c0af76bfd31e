-- A definition: which it is by its first token, and how many fragments there are after it.
use mathlib.Core.Path.{◌≡◌, refl, sym, ◌∙◌}
use mathlib.Core.Bool.{Bool, true, false, not, ◌&&◌}
use mathlib.Core.List.{List, ◌++◌}
use Prim.Native.Nat.{ℕ, suc, ◌+◌, ◌≤◌}
use native.Mathlib.Omega.{arith}
use lib.Dec.{eqb}
use borrow.Author.Tests.{eqb-false, eq-eqb, ne_eqb}
use Rattle.std.specs.Prelude.{Result, Ok, Err}
use Rattle.paper.specs.Numbers.{most_levels, no_parent}
use Rattle.paper.specs.Language.{language, Definition, brace_l}
use Rattle.paper.specs.Sizes.{Counts}
use Rattle.paper.specs.declared.Refusal.TheVariants.{NoGoing}
use Rattle.paper.specs.declared.Refusal.{Refusal}
use Rattle.paper.proofs.Lexing.{from}
use Rattle.paper.proofs.Machine.{choose}
use Rattle.paper.proofs.Tables.{factored}
use Rattle.paper.proofs.Going.{Stack, st, halt}
use Rattle.text_scan.specs.Head.{kind_of}
use Rattle.text_cursor.specs.Reader.{Ready, at, no_going_of}
use Rattle.text_cursor.specs.declared.Cursor.{Cursor}
use Rattle.text_cursor.proofs.Steps.{is, refuse, refuses, refuses_end}
use Rattle.text_variables.specs.Counted.{CountedSaid, stays, any_counts, fragments_are, same_fragments, fragments_become}
use Rattle.text_documents.specs.Words.{word_at, fragments_after, AtType, AtFragment}
use Rattle.text_documents.proofs.WordLaws.{by_word, worded, class_refuse, word_name, no_word}
use Rattle.text_documents.proofs.OperationLaws.{one_definition}

-- the fragments after it
pub after_fragment : (s : List ℕ) (c : Cursor) (before : ℕ) → word_at s c ≡ 4 → fragments_after s c before ≡ before + 1
after_fragment s c before h = rw (eq-eqb (word_at s c) 4 h) refl

pub after_other : (s : List ℕ) (c : Cursor) (before : ℕ) → (word_at s c ≡ 4 → ⊥) → fragments_after s c before ≡ before
after_other s c before h = rw (ne_eqb (word_at s c) 4 h) refl

pub after_brace : (s : List ℕ) (c : Cursor) (before : ℕ) → c.kind ≡ kind_of brace_l → fragments_after s c before ≡ before
after_brace s c before h = after_other s c before (λ e. let z = no_word s c (λ i. let x : ⊥ = omega arith in x) in let y : ⊥ = omega arith in y)

pub after_most : (s : List ℕ) (c : Cursor) (before : ℕ) → fragments_after s c before ≤ before + 1
after_most s c before = by (eqb (word_at s c) 4) refl
  where
    by : (b : Bool) → eqb (word_at s c) 4 ≡ b → fragments_after s c before ≤ before + 1
    by true e = rw e (omega arith)
    by false e = rw e (omega arith)

-- which it is
pub at_type : (s : List ℕ) (c : Cursor) (extra : ℕ) → word_at s c ≡ suc extra → extra ≤ 2 → AtType s c extra
at_type s c extra h k = let w = word_name s c extra h in let e : suc extra ≡ extra + 1 = omega arith in (w.0, w.1 ∙ e, k)

pub at_fragment : (s : List ℕ) (c : Cursor) → word_at s c ≡ 4 → AtFragment s c
at_fragment s c h = word_name s c 3 h

module _ (s rows rows' : List ℕ) (c : Cursor) (before : ℕ) where
  pub definition_operation : fragments_after s c before ≡ before → (r : Result Cursor Refusal) → CountedSaid 1 s rows rows' c no_parent most_levels one_definition stays any_counts same_fragments r →
      CountedSaid 1 s rows rows' c no_parent most_levels one_definition stays (fragments_are before) (fragments_become (fragments_after s c before)) r
  definition_operation e (Ok d) w =
      record { size = w.size; within = w.within; few = w.few; looks = w.looks; on = w.on; goes = λ σ o q t f m. (let y = w.goes σ o q t f tt in (y.0, y.1, y.2 ∙ m ∙ sym e, y.3)) }
  definition_operation e (Err x) w = λ σ o q t f m. w σ o q t f tt

  pub definition_fragment : word_at s c ≡ 4 → (r : Result Cursor Refusal) → CountedSaid 1 s rows rows' c no_parent most_levels one_definition stays (fragments_are before) (fragments_become (before + 1)) r →
      CountedSaid 1 s rows rows' c no_parent most_levels one_definition stays (fragments_are before) (fragments_become (fragments_after s c before)) r
  definition_fragment h (Ok d) w =
      record { size = w.size; within = w.within; few = w.few; looks = w.looks; on = w.on; goes = λ σ o q t f m. (let y = w.goes σ o q t f m in (y.0, y.1, y.2 ∙ sym (after_fragment s c before h), y.3)) }
  definition_fragment h (Err x) w = w

  -- no definition begins so
  pub definition_none : Ready s rows c no_parent → (c.kind ≡ kind_of brace_l → ⊥) → (word_at s c ≡ 1 → ⊥) → (word_at s c ≡ 4 → ⊥) → (word_at s c ≡ 2 → ⊥) → (word_at s c ≡ 3 → ⊥) → (r : Result Cursor Refusal) → r ≡ no_going_of c →
      CountedSaid 1 s rows rows' c no_parent most_levels one_definition stays (fragments_are before) (fragments_become (fragments_after s c before)) r
  unfolding factored language choose refuses refuses_end
  definition_none g h i₁ i₄ i₂ i₃ r e = rw e (λ σ o q t f m. by σ o q (eqb c.kind 0) refl)
    where
      by : (σ : Stack) (o : List ℕ) (q : Counts) (b : Bool) → eqb c.kind 0 ≡ b → at s rows c o most_levels q (one_definition ++ σ) ≡ halt (NoGoing c.start)
      by σ o q true j = refuse s c g.within g.looks rows c.rows o most_levels q σ Definition (is 0) (rw j tt) tt tt
      by σ o q false j =
          let w = worded s c g.within g.looks (eqb-false c.kind 0 j) in
          rw w.text
          (class_refuse w.class c.start c.end (from s c.end) (st rows c.rows o c.stop most_levels q) σ Definition
          (by_word (refuses Definition) (λ x y. not (is (kind_of brace_l) x) && (not (is 1 y) && (not (is 4 y) && (not (is 2 y) && not (is 3 y))))) tt w.class c.kind (word_at s c) w.kind w.word
          (rw (ne_eqb c.kind (kind_of brace_l) h, ne_eqb (word_at s c) 1 i₁, ne_eqb (word_at s c) 4 i₄, ne_eqb (word_at s c) 2 i₂, ne_eqb (word_at s c) 3 i₃) tt)))
