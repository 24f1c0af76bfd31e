-- From what the readers leave to rows and zeros.
use mathlib.Core.Path.{◌≡◌, sym, ap, ap₂, ◌∙◌, subst}
use mathlib.Core.List.{List, [], ◌∷◌, ◌++◌}
use Prim.Native.Nat.{ℕ, ◌-◌, ◌*◌, ◌≤◌}
use native.Mathlib.Omega.{arith}
use lib.ListN.{length, take, drop, replicate}
use lib.Seq.{length-take-le}
use Rattle.std.specs.Prelude.{Result, Ok, Err}
use Rattle.paper.specs.Numbers.{row_size, rows_size}
use Rattle.paper.specs.Grammar.{nt}
use Rattle.paper.specs.Language.{Document}
use Rattle.paper.specs.Calls.{filled}
use Rattle.paper.specs.declared.Refusal.{Refusal}
use Rattle.paper.proofs.Lexing.{from}
use Rattle.paper.proofs.Going.{State, start, whole, go}
use Rattle.paper_theory.proofs.GoingSaid.{going_whole}
use Rattle.text_documents.specs.Documents.{Ended}
use Rattle.text_cursor.specs.declared.Cursor.{Cursor}
use Rattle.call_buffers.specs.Buffers.{cleared}
use Rattle.text_answer.specs.Parsing.{Filled}

-- a text read through has rows within the buffer
module _ (s rows : List ℕ) (m : State) (e : length rows ≡ rows_size) (q : go (start rows) (nt Document ∷ []) (from s 0) ≡ whole m) where
  pub whole_room : row_size * m.rows ≤ rows_size
  whole_room = let g = going_whole Document (from s 0) rows m e q in omega (arith, g.2, g.3)

  pub whole_size : length m.cells ≡ rows_size
  whole_size = (going_whole Document (from s 0) rows m e q).5

-- the rows, and zeros up to the fixed size
pub rows_filled : (cells rows : List ℕ) (n : ℕ) → length cells ≡ rows_size → n ≤ rows_size → cleared n cells ++ drop rows_size rows ≡ filled rows_size (take n cells) rows
rows_filled cells rows n e h =
    ap (λ (k : ℕ). (take n cells ++ replicate k 0) ++ drop rows_size rows) (ap₂ (λ (a b : ℕ). a - b) e (sym (length-take-le {A = ℕ} n cells (omega arith))))

-- `parse`: a text read through, cleared behind its rows
module _ (s rows rows₁ : List ℕ) (r : Result Cursor Refusal) (d : Cursor) (e : length rows ≡ rows_size) (h : Ended Document s rows rows₁ r) (q : r ≡ Ok d) where
  ended_done : Ended Document s rows rows₁ (Ok d)
  ended_done = subst (λ (z : Result Cursor Refusal). Ended Document s rows rows₁ z) q h

  pub done_room : row_size * d.rows ≤ rows_size
  done_room = let f = ended_done in let w = whole_room s rows f.0 e f.1 in omega (arith, f.3)

  pub done_filled : (rows' : List ℕ) → rows' ≡ cleared (row_size * d.rows) rows₁ → Filled Document s rows rows' (Ok d)
  done_filled rows' z =
      let f = ended_done in
      (f.0, f.1, z ∙ ap₂ (λ (n : ℕ) (x : List ℕ). cleared (row_size * n) x) (sym f.3) (sym f.2), f.3)

-- `parse`: a text refused, all cleared
pub refused_filled : (s rows rows₁ rows' : List ℕ) (r : Result Cursor Refusal) (z : Refusal) → length rows₁ ≡ rows_size → Ended Document s rows rows₁ r → r ≡ Err z → rows' ≡ cleared 0 rows₁ →
    Filled Document s rows rows' r
refused_filled s rows rows₁ rows' r z e h q p =
    subst (λ (x : Result Cursor Refusal). Filled Document s rows rows' x) (sym q)
    (subst (λ (x : Result Cursor Refusal). Ended Document s rows rows₁ x) q h, p ∙ ap (λ (n : ℕ). replicate (n - 0) 0) e)
