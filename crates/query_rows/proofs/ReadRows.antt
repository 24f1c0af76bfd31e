-- What the reader leaves in the lent numbers: rows that every function over them may be given, and those of what is said of the text.
use mathlib.Core.Path.{◌≡◌, sym, ap, ◌∙◌, subst}
use mathlib.Core.List.{List, [], ◌∷◌, ◌++◌}
use Prim.Native.Nat.{ℕ, ◌-◌, ◌*◌, ◌<◌, ◌≤◌}
use native.Mathlib.Omega.{arith}
use lib.ListN.{length, take, drop, replicate, length-append, length-replicate, length-drop}
use lib.Seq.{take_at, take-append-le, length-take-le}
use Rattle.paper.specs.Grammar.{nt}
use Rattle.paper.specs.Numbers.{most_text, most_rows, row_size, rows_size}
use Rattle.paper.specs.Language.{Part}
use Rattle.paper.specs.Tokens.{Text, Tokens}
use Rattle.paper.specs.Rows.{Row, flat}
use Rattle.paper.specs.Reading.{rows_are, TextAnswer, accepts}
use Rattle.paper.specs.Calls.{filled}
use Rattle.paper.proofs.Lexing.{from}
use Rattle.paper_theory.proofs.TokensLaws.{tokens_are}
use Rattle.paper_theory.proofs.RowCells.{flat_length}
use Rattle.paper.proofs.Going.{State, start, whole, go}
use Rattle.paper_theory.proofs.GoingSaid.{going_whole}
use Rattle.query_rows.specs.Rowed.{row_at, rows_in, Rowed}
use Rattle.query_rows.proofs.TextRows.{Fine, text_rows}
use Rattle.query_rows.proofs.FlatRows.{flat_at, flat_rows}

-- the rows that a text is said to have, in the lent numbers
pub rowed : (p : Part) (s : List ℕ) (t : Text) (rs : List Row) (rows : List ℕ) → Tokens 0 s t → TextAnswer p t (rows_are rs) → length s ≤ most_text → length rows ≡ rows_size → length rs ≤ most_rows
    → take (row_size * length rs) rows ≡ flat rs → Rowed s rows (length rs)
rowed p s t rs rows k (accepts {es = es} w r c) l e m q = record {
  short = l;
  size = e;
  few = m;
  parents = λ i h. (fine i h).0;
  names = λ i h. (fine i h).1;
}
  where
    fine : (i : ℕ) → i < length rs → Fine (length s) i (row_at rows i)
    fine i h = subst (Fine (length s) i) (sym (flat_at rows rs q i h)) (text_rows s t es k i h)

-- the same where they fill it
pub filled_rowed : (p : Part) (s : List ℕ) (t : Text) (rs : List Row) (rows rows' : List ℕ) → Tokens 0 s t → TextAnswer p t (rows_are rs) → length s ≤ most_text → length rows ≡ rows_size → length rs ≤ most_rows
    → rows' ≡ filled rows_size (flat rs) rows → (rows_in rows' (length rs) ≡ rs) × Rowed s rows' (length rs)
filled_rowed p s t rs rows rows' k a l e m q = (flat_rows rows' rs first, rowed p s t rs rows' k a l size m first)
  where
    zeros : List ℕ
    zeros = replicate (rows_size - length (flat rs)) 0

    first : take (row_size * length rs) rows' ≡ flat rs
    first =
        rw q
        (take-append-le (row_size * length rs) (flat rs ++ zeros) (drop rows_size rows) (omega (arith, length-append (flat rs) zeros, flat_length rs))
        ∙ take_at (flat rs) zeros (row_size * length rs) (flat_length rs))

    size : length rows' ≡ rows_size
    size =
        ap length q
        ∙ omega (arith, flat_length rs, length-append (flat rs ++ zeros) (drop rows_size rows), length-append (flat rs) zeros, length-replicate {A = ℕ} (rows_size - length (flat rs)) 0, length-drop rows_size rows)

-- n rows of a text of the part p, as the reader leaves them
pub record Taken (p : Part) (s rows : List ℕ) (n : ℕ) : Type 0 where
  pub list : List Row
  pub said : TextAnswer p (from s 0) (rows_are list)
  pub count : n ≡ length list
  pub cells : take (row_size * n) rows ≡ flat list
  pub are : rows_in rows n ≡ list
  pub rowed : Rowed s rows n

module _ (p : Part) (s rows rows' : List ℕ) (n : ℕ) (l : length s ≤ most_text) (e : length rows ≡ rows_size) where
  whole_taken : (m : State) → go (start rows) (nt p ∷ []) (from s 0) ≡ whole m → m.rows ≡ n → length rows' ≡ rows_size → take (row_size * m.rows) rows' ≡ take (row_size * m.rows) m.cells → Taken p s rows' n
  whole_taken m q c z u =
      let g = going_whole p (from s 0) rows m e q in
      let rs = g.0 in
      let same : n ≡ length rs = sym c ∙ g.2 in
      let first : take (row_size * length rs) rows' ≡ flat rs = subst (λ (k : ℕ). take (row_size * k) rows' ≡ take (row_size * k) m.cells) g.2 u ∙ g.4 in
      record {
        list = rs;
        said = g.1;
        count = same;
        cells = rw same first;
        are = rw same (flat_rows rows' rs first);
        rowed = rw same (rowed p s (from s 0) rs rows' (tokens_are s) g.1 l z g.3 first);
      }

  -- what `text_documents::document` leaves, where it is done
  pub ended_taken : ((m : State) × (go (start rows) (nt p ∷ []) (from s 0) ≡ whole m) × (m.cells ≡ rows') × (m.rows ≡ n)) → Taken p s rows' n
  ended_taken f =
      whole_taken f.0 f.1 f.3 (ap length (sym f.2) ∙ (going_whole p (from s 0) rows f.0 e f.1).5) (ap (take (row_size * f.0.rows)) (sym f.2))

  -- the same with zeros behind the rows
  pub cleared_taken : ((m : State) × (go (start rows) (nt p ∷ []) (from s 0) ≡ whole m) × (rows' ≡ take (row_size * m.rows) m.cells ++ replicate (length m.cells - row_size * m.rows) 0) × (m.rows ≡ n)) → Taken p s rows' n
  cleared_taken f =
      let m = f.0 in
      let g = going_whole p (from s 0) rows m e f.1 in
      let size : length m.cells ≡ rows_size = g.5 in
      let room : row_size * m.rows ≤ length m.cells = omega (arith, g.2, g.3) in
      let first : length (take (row_size * m.rows) m.cells) ≡ row_size * m.rows = length-take-le (row_size * m.rows) m.cells room in
      whole_taken m f.1 f.3
      (ap length f.2
      ∙ omega (arith, length-append (take (row_size * m.rows) m.cells) (replicate (length m.cells - row_size * m.rows) 0), length-replicate {A = ℕ} (length m.cells - row_size * m.rows) 0))
      (ap (take (row_size * m.rows)) f.2 ∙ take_at (take (row_size * m.rows) m.cells) (replicate (length m.cells - row_size * m.rows) 0) (row_size * m.rows) first)
