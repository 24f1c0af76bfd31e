-- A walk along the rows of one kind, to the first of a name.
use mathlib.Core.Path.{◌≡◌, ◌∙◌}
use mathlib.Core.Bool.{true, false}
use mathlib.Core.List.{List}
use Prim.Native.Nat.{ℕ, ◌<◌, ◌≤◌}
use lib.ListN.{get_or}
use Rattle.paper.proofs.Bools.{and_left}
use Rattle.paper_query.specs.Constructs.{no_row, is, called}
use Rattle.query_rows.specs.Rowed.{rows_in, row_in, doc_of}
use Rattle.query_links.specs.Links.{kinds_size, Kinds}
use Rattle.query_links.proofs.Walks.{and_known, walk_first, end_first}
use Rattle.query_links.proofs.ChainWalks.{RowWalk, kinds_start, kinds_less, kinds_next}
use Rattle.query_siblings.specs.Alike.{kind_called}
use Rattle.query_rule_3.specs.Called.{first_called}

-- the walk is at row j
abbrev pub Calling : List ℕ → List ℕ → ℕ → ℕ → List ℕ → ℕ → Type 0
Calling s rows n k m j = RowWalk rows n (is k) (kind_called (doc_of s rows n) k m) 0 j

module _ (s rows : List ℕ) (n : ℕ) (firstk nextk : List ℕ) (f : Kinds (rows_in rows n) firstk nextk) (k : ℕ) (h : k < kinds_size) (m : List ℕ) where
  pub calling_start : {j : ℕ} → j ≡ get_or firstk k 0 → Calling s rows n k m j
  calling_start e = kinds_start rows n firstk nextk f k (kind_called (doc_of s rows n) k m) h (λ x. and_left (is k x) (called (doc_of s rows n) m x)) e

  module _ (j : ℕ) (w : Calling s rows n k m j) where
    pub calling_less : {i : ℕ} → j < n → i ≡ get_or nextk j 0 → j < i
    calling_less l e = kinds_less rows n firstk nextk f k j h l (w.on l) e

    pub calling_next : {i : ℕ} → j < n → called (doc_of s rows n) m (row_in rows n j) ≡ false → i ≡ get_or nextk j 0 → Calling s rows n k m i
    calling_next l q e = kinds_next rows n firstk nextk f k (kind_called (doc_of s rows n) k m) 0 j h w l (and_known (is k (row_in rows n j)) _ (w.on l) ∙ q) e

    pub calling_here : j < n → called (doc_of s rows n) m (row_in rows n j) ≡ true → j ≡ first_called (doc_of s rows n) k m
    calling_here l q = walk_first no_row (is k) (kind_called (doc_of s rows n) k m) (rows_in rows n) n j w l (and_known (is k (row_in rows n j)) _ (w.on l) ∙ q)

    pub calling_end : n ≤ j → j ≡ first_called (doc_of s rows n) k m
    calling_end l = end_first no_row (is k) (kind_called (doc_of s rows n) k m) (rows_in rows n) n j w l
