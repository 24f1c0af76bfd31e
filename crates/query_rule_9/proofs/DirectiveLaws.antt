-- A directive, case by case, by the first rows of a kind right below a row.
use mathlib.Core.Path.{◌≡◌, sym, ap, ◌∙◌}
use mathlib.Core.Bool.{Bool, true, false, not, ◌&&◌, ◌||◌}
use mathlib.Core.List.{List}
use Prim.Native.Nat.{ℕ, suc, ◌<◌, ◌≤◌}
use native.Mathlib.Omega.{arith}
use lib.ListN.{get_or}
use lib.Dec.{ltb}
use borrow.Author.Tests.{eq-eqb, ne_eqb, lt-ltb, le-ltb}
use Rattle.paper.proofs.Bools.{and_right}
use Rattle.paper.specs.Numbers.{kind_argument, kind_directive, kind_variable, kind_boolean}
use Rattle.paper.specs.Rows.{Row}
use Rattle.paper.specs.Tokens.{same}
use Rattle.paper_table.specs.Lists.{bytes, any_of, earlier}
use Rattle.paper_table.specs.Types.{built_in_directives}
use Rattle.table_book.specs.Book.{part}
use Rattle.paper_query.specs.Constructs.{Doc, count, no_row, row_of, kind_of, parent_of, name_of, is, is_selection, called, below}
use Rattle.paper_query.specs.Rule9Directive.{rows_below, is_if, only_ifs, repeated_there, directive_right, directive_wrong}
use Rattle.query_rows.specs.Rowed.{rows_in, row_in, doc_of}
use Rattle.query_rows.proofs.RowsIn.{rows_count}
use Rattle.query_links.specs.Links.{next_with, Family}
use Rattle.query_links.proofs.Nexts.{next_passes, next_most}
use Rattle.query_links.proofs.ChainWalks.{family_after}
use Rattle.query_siblings.specs.Alike.{is_like, is_below, first_below, next_beside}
use Rattle.query_siblings.proofs.BesideLaws.{beside_below}
use Rattle.query_siblings.proofs.BelowLaws.{any_next}
use Rattle.query_rule_9.proofs.NumberLaws.{numbers_none, numbers_some, any_either}

-- the one of kind k right below row i after the first
abbrev pub second_below : List Row → ℕ → ℕ → ℕ
second_below rs k i = next_with (is_below k i) rs (suc (first_below rs k i))

module _ (rows : List ℕ) (n : ℕ) (first next : List ℕ) (f : Family (rows_in rows n) first next) (k i : ℕ) where
  -- from what is beside the first of kind k on
  module _ (a j : ℕ) (l : a < n) (q : a ≡ first_below (rows_in rows n) k i) (e : j ≡ get_or next a 0) where
    leads : j ≡ next_with (below i) (rows_in rows n) (suc a)
    leads =
        family_after rows n first next f i a l
        (and_right (is k (row_in rows n a)) _ (rw (← q) at (next_passes (is_below k i) (rows_in rows n) no_row 0 (omega (arith, rows_count rows n))))) e

    pub second_within : j ≤ n
    second_within = omega (arith, leads, rows_count rows n, next_most (below i) (rows_in rows n) (suc a) (omega (arith, rows_count rows n)))

    pub second_below_is : next_beside (rows_in rows n) k j ≡ second_below (rows_in rows n) k i
    second_below_is = beside_below rows n k i (suc a) j leads ∙ ap (λ (x : ℕ). next_with (is_below k i) (rows_in rows n) (suc x)) q

-- one argument only
module _ (d : Doc) (i : ℕ) where
  pub only_none : count d ≤ first_below d.rows kind_argument i → false ≡ only_ifs d (rows_below d kind_argument i)
  unfolding rows_below
  only_none h = rw (numbers_none (is_below kind_argument i) d.rows 0 h)

  pub only_more : first_below d.rows kind_argument i < count d → second_below d.rows kind_argument i < count d → false ≡ only_ifs d (rows_below d kind_argument i)
  unfolding rows_below
  only_more h l = rw (numbers_some (is_below kind_argument i) d.rows 0 h, numbers_some (is_below kind_argument i) d.rows (suc (first_below d.rows kind_argument i)) l)

  pub only_one_is : first_below d.rows kind_argument i < count d → count d ≤ second_below d.rows kind_argument i → is_if d (first_below d.rows kind_argument i) ≡ only_ifs d (rows_below d kind_argument i)
  unfolding rows_below
  only_one_is h l = rw (numbers_some (is_below kind_argument i) d.rows 0 h, numbers_none (is_below kind_argument i) d.rows (suc (first_below d.rows kind_argument i)) l)

-- an `if`
module _ (d : Doc) (a : ℕ) where
  pub if_other : same (name_of d a) (bytes "if") ≡ false → false ≡ is_if d a
  if_other e = rw e

  -- a boolean, or a variable
  either : is_if d a ≡ (same (name_of d a) (bytes "if") && (ltb (first_below d.rows kind_boolean a) (count d) || ltb (first_below d.rows kind_variable a) (count d)))
  either =
      ap (λ (b : Bool). same (name_of d a) (bytes "if") && b)
      (any_either (is kind_boolean) (is kind_variable) (below a) d.rows
      ∙ rw (any_next (is_below kind_boolean a) d.rows 0, any_next (is_below kind_variable a) d.rows 0))

  module _ (e : same (name_of d a) (bytes "if") ≡ true) where
    pub if_boolean : first_below d.rows kind_boolean a < count d → true ≡ is_if d a
    if_boolean h = sym (either ∙ rw (e, lt-ltb (first_below d.rows kind_boolean a) (count d) h))

    pub if_variable : count d ≤ first_below d.rows kind_boolean a → (n : ℕ) → count d ≡ n → ltb (first_below d.rows kind_variable a) n ≡ is_if d a
    if_variable h n q = sym (either ∙ rw (e, le-ltb (first_below d.rows kind_boolean a) (count d) h, q))

-- a directive's name as a part of the bytes, and its parent
pub known_name : (s rows : List ℕ) (n i at l : ℕ) → at ≡ (row_in rows n i).name_start → l ≡ (row_in rows n i).name_length → any_of (same (name_of (doc_of s rows n) i)) built_in_directives ≡ any_of (same (part s at l)) built_in_directives
known_name s rows n i at l e f = rw (e, f)

pub parent_selection : (rows : List ℕ) (n i p : ℕ) → p ≡ (row_in rows n i).parent → is_selection (row_in rows n (row_in rows n i).parent) ≡ is_selection (row_in rows n p)
parent_selection rows n i p e = rw e

-- a directive
module _ (d : Doc) (i : ℕ) where
  pub right_unknown : any_of (same (name_of d i)) built_in_directives ≡ false → false ≡ directive_right d i
  right_unknown e = rw e

  pub right_elsewhere : any_of (same (name_of d i)) built_in_directives ≡ true → is_selection (row_of d (parent_of d i)) ≡ false → false ≡ directive_right d i
  right_elsewhere e f = rw (e, f)

  module _ (e : any_of (same (name_of d i)) built_in_directives ≡ true) (f : is_selection (row_of d (parent_of d i)) ≡ true) (k : kind_of d i ≡ kind_directive) where
    there : (b : Bool) → earlier (is_like d i) i d.rows ≡ b → repeated_there d i ≡ b
    there b q =
        ap (λ (x : ℕ). earlier (λ r. is x r && (below (parent_of d i) r && called d (name_of d i) r)) i d.rows) (sym k) ∙ q

    pub right_repeated : earlier (is_like d i) i d.rows ≡ true → false ≡ directive_right d i
    right_repeated q = rw (e, f, there true q)

    pub right_once : earlier (is_like d i) i d.rows ≡ false → only_ifs d (rows_below d kind_argument i) ≡ directive_right d i
    right_once q = rw (e, f, there false q)

  pub wrong_other : (kind_of d i ≡ kind_directive → ⊥) → false ≡ directive_wrong d i
  unfolding directive_wrong
  wrong_other f = rw (ne_eqb (kind_of d i) kind_directive f)

  pub wrong_right : kind_of d i ≡ kind_directive → not (directive_right d i) ≡ directive_wrong d i
  unfolding directive_wrong
  wrong_right e = rw (eq-eqb (kind_of d i) kind_directive e)
