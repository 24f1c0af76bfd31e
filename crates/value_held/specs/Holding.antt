-- The coerced variables, as the code has them: not their trees, but where their values stand and the types that these are coerced at.
-- Seven numbers for each: where its name starts in the document, and its size; the text of its value, 0 the document, else the variables text;
-- the value's row there; sort, number and wrappers of its type.
-- Assumes nothing.
use Rattle.std.specs.Prelude.{◌≡◌, cond, List, ℕ, zero, suc, ◌+◌, ◌*◌, ◌≤◌, ◌<◌, length, leb}
use Rattle.std.proofs.Math.Option.{some, none}
use Rattle.paper.specs.Numbers.{row_size}
use Rattle.paper.specs.Tokens.{same}
use Rattle.paper_table.specs.References.{Ref}
use Rattle.paper_query.specs.Constructs.{Doc}
use Rattle.table_book.specs.Book.{part}
use Rattle.query_rows.specs.Rowed.{cell, doc_of}
use Rattle.paper_values.specs.Values.{Name, Tree, Pairs, no_pairs, pair, Got}
use Rattle.paper_values.specs.Computed.{entry_of, constant}
use Rattle.paper_values.specs.RowValues.{value_of_row}
use Rattle.value_kinds.specs.Dues.{DueIs, Fits}
use Rattle.value_held.specs.Given.{Ready, Vars, is_none, kinds_in, coerced, givens_at}

-- the value of row `row` of this text, at the type ref
pub record Kept (t : List ℕ) (text : ℕ) (d : Doc) (n row : ℕ) (ref : Ref) (tree : Tree) : Type 0 where
  pub there : row ≤ n
  pub is : constant (kinds_in t) (value_of_row text d row) ref ≡ Got tree

-- variable j has this name and this tree
pub record HeldAt (t book s rows : List ℕ) (n : ℕ) (s1 rows1 : List ℕ) (n1 : ℕ) (held : List ℕ) (j : ℕ) (name : Name) (tree : Tree) : Type 0 where
  pub named : part s (cell held j 0) (cell held j 1) ≡ name
  pub within : cell held j 0 + cell held j 1 ≤ length s
  pub ref : Ref
  pub is : DueIs t book ref (cell held j 4) (cell held j 5) (cell held j 6)
  pub fits : Fits book (cell held j 4) (cell held j 5) (cell held j 6)
  pub document : cell held j 2 ≡ 0 → Kept t 0 (doc_of s rows n) n (cell held j 3) ref tree
  pub variables : (cell held j 2 ≡ 0 → ⊥) → Kept t 1 (doc_of s1 rows1 n1) n1 (cell held j 3) ref tree

-- the variables from number j on are these
abbrev pub Holds : List ℕ → List ℕ → List ℕ → List ℕ → ℕ → List ℕ → List ℕ → ℕ → List ℕ → ℕ → ℕ → Pairs → Type 0
Holds t book s rows n s1 rows1 n1 held j many no_pairs = j ≡ many
Holds t book s rows n s1 rows1 n1 held j many (pair name tree ps) = HeldAt t book s rows n s1 rows1 n1 held j name tree × Holds t book s rows n s1 rows1 n1 held (j + 1) many ps

-- the lent numbers hold `many` variables, whose values stand in these two texts
pub record Holding (t book s rows : List ℕ) (n : ℕ) (s1 rows1 : List ℕ) (n1 : ℕ) (past1 held : List ℕ) (many : ℕ) : Type 0 where
  pub ready : Ready t book s1 rows1 n1 past1
  pub size : row_size * many ≤ length held
  pub pairs : Pairs
  pub holds : Holds t book s rows n s1 rows1 n1 held 0 many pairs

-- the first of the m variables from number j on that has the name x; one past them if there is none
unfoldable pub held_from : List ℕ → List ℕ → Name → ℕ → ℕ → ℕ
held_from s held x zero j = j
held_from s held x (suc m) j = cond (same x (part s (cell held j 0) (cell held j 1))) j (held_from s held x m (j + 1))

-- the names of variables lie in the bytes s
pub record Names (s held : List ℕ) (many : ℕ) : Type 0 where
  pub size : row_size * many ≤ length held
  pub within : (j : ℕ) → j < many → cell held j 0 + cell held j 1 ≤ length s

-- these and no others have values
abbrev pub Knows : List ℕ → List ℕ → ℕ → Vars → Type 0
Knows s held many vars = (x : Name) → is_none (vars x) ≡ leb many (held_from s held x many 0)

-- the entry of a name that is not left out
pub record Gives (s held : List ℕ) (many : ℕ) (d : Doc) (n k kind h : ℕ) (x : Name) (r : ℕ) : Type 0 where
  pub some_is : r < n → (t : List ℕ) (vars : Vars) (text : ℕ) → Knows s held many vars → entry_of x (givens_at t vars text d n k kind h) ≡ some (λ q. coerced t vars text d k (r + 1) q)
  pub none_is : n ≤ r → (t : List ℕ) (vars : Vars) (text : ℕ) → Knows s held many vars → entry_of x (givens_at t vars text d n k kind h) ≡ none
