-- The rows of a text, whatever its marks: each stands after its parent, and its name lies in the text.
-- Mark by mark: the rows that are open are rows, and what is changed of a row is not its parent.
use mathlib.Core.Path.{◌≡◌, refl, sym, subst}
use mathlib.Core.Logic.{◌⊎◌, inl, inr}
use mathlib.Core.List.{List, [], ◌∷◌, ◌++◌}
use Prim.Native.Nat.{ℕ, zero, suc, ◌+◌, ◌-◌, ◌<◌, ◌≤◌}
use native.Mathlib.Nat.{add-zero, zero-add}
use native.Mathlib.Omega.{arith}
use lib.ListN.{length, drop, get_or, length-drop, length-append}
use Rattle.paper.specs.Grammar.{Ev, tok, mark}
use Rattle.paper.specs.Numbers.{no_parent}
use Rattle.paper.specs.Language.{Class, Mark, row, kind, named, wrapper, wrap, end}
use Rattle.paper.specs.Lexical.{What}
use Rattle.paper.specs.Tokens.{Tok, Text, Longest, Tokens, ends, starts_none, skips, comments, bad_comment, tokens}
use Rattle.paper.specs.Rows.{Row, Book, empty_book, change, top, pop, start_of, stop_of, begun, of_kind, with_name, wrapped, stopping, at_mark, taken, rest, book, rows_of}
use Rattle.paper.specs.Reading.{tokens_of}
use Rattle.paper_theory.proofs.RowCells.{change_length}
use Rattle.paper_query.specs.Constructs.{no_row}

-- each token lies within the first l bytes
abbrev Lie : ℕ → List Tok → Type 0
Lie l [] = Unit {0}
Lie l (k ∷ ts) = (k.start ≤ k.stop) × (k.stop ≤ l) × Lie l ts

piece_size : (bs p : List ℕ) (w : What) → Longest bs p w → length p + length (drop (length p) bs) ≡ length bs
piece_size bs p w l =
    let e : length p ≤ length bs = subst (λ (z : List ℕ). length p ≤ length z) l.starts.0.1 (omega (arith, length-append p l.starts.0.0)) in
    omega (arith, length-drop (length p) bs)

tokens_lie : {at : ℕ} {bs : List ℕ} {t : Text} (l : ℕ) → at + length bs ≤ l → Tokens at bs t → Lie l (tokens_of t)
unfolding tokens_of
tokens_lie l h ends = tt
tokens_lie l h (starts_none n) = tt
tokens_lie {bs = bs} l h (skips p g r) = tokens_lie l (omega (arith, piece_size bs p _ g)) r
tokens_lie {bs = bs} l h (comments p g e r) = tokens_lie l (omega (arith, piece_size bs p _ g)) r
tokens_lie l h (bad_comment p g e) = tt
tokens_lie {bs = bs} l h (tokens p c g r) = (omega arith, omega (arith, piece_size bs p _ g), tokens_lie l (omega (arith, piece_size bs p _ g)) r)

-- row i of a text of l bytes
abbrev pub Fine : ℕ → ℕ → Row → Type 0
Fine l i r = ((r.parent < i) ⊎ (r.parent ≡ no_parent)) × (r.name_start + r.name_length ≤ l)

-- the rows from number i on
abbrev AllFine : ℕ → ℕ → List Row → Type 0
AllFine l i [] = Unit {0}
AllFine l i (r ∷ rs) = Fine l i r × AllFine l (suc i) rs

change_fine : (l : ℕ) (f : Row → Row) → ((i : ℕ) (r : Row) → Fine l i r → Fine l i (f r)) → (k i : ℕ) (rs : List Row) → AllFine l i rs → AllFine l i (change f k rs)
change_fine l f g k i [] a = tt
change_fine l f g zero i (r ∷ rs) a = (g i r a.0, a.1)
change_fine l f g (suc k) i (r ∷ rs) a = (a.0, change_fine l f g k (suc i) rs a.1)

append_fine : (l i : ℕ) (rs : List Row) (r : Row) → AllFine l i rs → Fine l (i + length rs) r → AllFine l i (rs ++ (r ∷ []))
append_fine l i [] r a f = (subst (λ (k : ℕ). Fine l k r) (add-zero i) f, tt)
append_fine l i (x ∷ rs) r a f =
    let e : i + suc (length rs) ≡ suc i + length rs = omega arith in
    (a.0, append_fine l (suc i) rs r a.1 (subst (λ (k : ℕ). Fine l k r) e f))

fine_at : (l i : ℕ) (rs : List Row) (k : ℕ) → AllFine l i rs → k < length rs → Fine l (i + k) (get_or rs k no_row)
fine_at l i [] k a h = absurd (omega arith)
fine_at l i (r ∷ rs) zero a h = subst (λ (j : ℕ). Fine l j r) (let e : i ≡ i + zero = omega arith in e) a.0
fine_at l i (r ∷ rs) (suc k) a h =
    subst (λ (j : ℕ). Fine l j (get_or rs k no_row)) (let e : suc i + k ≡ i + suc k = omega arith in e) (fine_at l (suc i) rs k a.1 (omega arith))

-- the numbers of open rows
abbrev Under : ℕ → List ℕ → Type 0
Under n [] = Unit {0}
Under n (k ∷ ks) = (k < n) × Under n ks

under_more : (n : ℕ) (ks : List ℕ) → Under n ks → Under (suc n) ks
under_more n [] u = tt
under_more n (k ∷ ks) u = let h = u.0 in (omega arith, under_more n ks u.1)

under_pop : (n : ℕ) (ks : List ℕ) → Under n ks → Under n (pop ks)
under_pop n [] u = tt
under_pop n (k ∷ ks) u = u.1

under_top : (n : ℕ) (ks : List ℕ) → Under n ks → (top ks < n) ⊎ (top ks ≡ no_parent)
under_top n [] u = inr refl
under_top n (k ∷ ks) u = inl u.0

record Kept (l : ℕ) (b : Book) : Type 0 where
  fine : AllFine l 0 b.rows
  under : Under (length b.rows) b.open'

-- a row changed in what is not its parent
changed : (l : ℕ) (f : Row → Row) → ((i : ℕ) (r : Row) → Fine l i r → Fine l i (f r)) → (k stop : ℕ) (os : List ℕ) (b : Book) → Kept l b → Under (length b.rows) os
    → Kept l (record { rows = change f k b.rows; open' = os; stop = stop })
changed l f g k stop os b h u =
    record { fine = change_fine l f g k 0 b.rows h.fine; under = subst (λ (n : ℕ). Under n os) (let e = change_length f k b.rows in sym e) u }

name_lies : (l : ℕ) (ts : List Tok) → Lie l ts → start_of ts + (stop_of ts - start_of ts) ≤ l
name_lies l [] h = omega arith
name_lies l (k ∷ ts) h = let a = h.0 in let b = h.1 in omega arith

note_keeps : (l : ℕ) (m : Mark) (ts : List Tok) (b : Book) → Lie l ts → Kept l b → Kept l (at_mark m ts b)
note_keeps l row ts b t h = record {
  fine = append_fine l 0 b.rows (begun (start_of ts) (top b.open')) h.fine (rw (zero-add (length b.rows)) (under_top (length b.rows) b.open' h.under, omega arith));
  under =
      subst (λ (n : ℕ). Under n (length b.rows ∷ b.open')) (let e : suc (length b.rows) ≡ length (b.rows ++ (begun (start_of ts) (top b.open') ∷ [])) = omega (arith, length-append b.rows (begun (start_of ts) (top b.open') ∷ [])) in e)
      (omega arith, under_more (length b.rows) b.open' h.under);
}
note_keeps l (kind k x) ts b t h = changed l (of_kind k x) (λ i r f. f) (top b.open') b.stop b.open' b h h.under
note_keeps l named ts b t h = changed l (with_name (start_of ts) (stop_of ts)) (λ i r f. (f.0, name_lies l ts t)) (top b.open') b.stop b.open' b h h.under
note_keeps l wrapper ts b t h = h
note_keeps l (wrap w) ts b t h = changed l (wrapped w) (λ i r f. f) (top b.open') b.stop b.open' b h h.under
note_keeps l end ts b t h = changed l (stopping b.stop) (λ i r f. f) (top b.open') b.stop (pop b.open') b h (under_pop (length b.rows) b.open' h.under)

rest_lies : (l : ℕ) (ts : List Tok) → Lie l ts → Lie l (rest ts)
rest_lies l [] h = tt
rest_lies l (k ∷ ts) h = h.2

taken_keeps : (l : ℕ) (ts : List Tok) (b : Book) → Kept l b → Kept l (taken ts b)
taken_keeps l [] b h = h
taken_keeps l (k ∷ ts) b h = record { fine = h.fine; under = h.under }

book_keeps : (l : ℕ) (es : List (Ev Class Mark)) (ts : List Tok) (b : Book) → Lie l ts → Kept l b → Kept l (book es ts b)
unfolding book
book_keeps l [] ts b t h = h
book_keeps l (tok c ∷ es) ts b t h = book_keeps l es (rest ts) (taken ts b) (rest_lies l ts t) (taken_keeps l ts b h)
book_keeps l (mark m ∷ es) ts b t h = book_keeps l es ts (at_mark m ts b) t (note_keeps l m ts b t h)

-- so for each row of a text
pub text_rows : (s : List ℕ) (t : Text) (es : List (Ev Class Mark)) → Tokens 0 s t → (i : ℕ) → i < length (rows_of es (tokens_of t)) → Fine (length s) i (get_or (rows_of es (tokens_of t)) i no_row)
unfolding rows_of
text_rows s t es k i h =
    let b : Kept (length s) (book es (tokens_of t) empty_book) = book_keeps (length s) es (tokens_of t) empty_book (tokens_lie (length s) (omega arith) k) (record { fine = tt; under = tt }) in
    rw zero-add at (fine_at (length s) 0 (book es (tokens_of t) empty_book).rows i b.fine h)
