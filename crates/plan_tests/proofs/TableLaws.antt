-- From what the functions answer to the rows of the table; and from its rows to what the second pass asks.
use mathlib.Core.Path.{◌≡◌, refl, sym, ap, ◌∙◌, subst, fun_ext}
use mathlib.Core.Bool.{Bool, true, false, cond, true≢false, not, ◌&&◌}
use mathlib.Core.Option.{Option, none, some}
use mathlib.Core.List.{List, [], ◌∷◌, ◌++◌}
use Prim.Native.Nat.{ℕ, zero, suc, ◌+◌, ◌*◌, ◌-◌, ◌≤◌, ◌<◌}
use native.Mathlib.Decide.{dec_lt}
use native.Mathlib.Omega.{arith}
use lib.ListN.{length, get_or, take, drop, length-append, length-drop}
use lib.Seq.{sets, length-take-le, take-take, take_at, drop_at, get_or-take, get_or-drop}
use lib.Dec.{eqb, ltb}
use borrow.Author.Tests.{eq-eqb, ne_eqb}
use borrow.Rule.Slice.PartMut.{put_mid, Post-is}
use Rattle.paper.specs.Numbers.{most_rows, kind_field, kind_spread, kind_fragment, kind_type_reference, kind_boolean}
use Rattle.paper.specs.Rows.{Row}
use Rattle.paper_table.specs.Lists.{first_at, find, each_from, only_if}
use Rattle.paper_table.specs.Types.{Table, table_of}
use Rattle.paper_table.proofs.ListsLaws.{first_at_most}
use Rattle.paper_query.specs.Constructs.{Doc, count, row_of, no_row, is, is_selection, is_value, below, called, spelt, name_of, numbers_where, fragment_named}
use Rattle.paper_query.specs.Enclosing.{composite_of, condition_of}
use Rattle.table_book.specs.Book.{part}
use Rattle.query_rows.specs.Rowed.{row_in, rows_in, doc_of}
use Rattle.query_rows.proofs.RowsIn.{rows_count}
use Rattle.query_links.proofs.Nexts.{find_yes, find_no}
use Rattle.query_siblings.specs.Alike.{is_below, first_below}
use Rattle.query_types.specs.Coded.{type_coded}
use Rattle.paper_plan.specs.Keys.{key_at, key_number}
use Rattle.paper_plan.specs.Collecting.{absent, literal, variable, field, spread, inline, View}
use Rattle.paper_plan.specs.Planning.{dropped, skip_tests, include_tests}
use Rattle.paper_plan.specs.Selecting.{set_of, fragment_number, fragment_row, variable_number, or_count, type_number, type_on, type_if, argument_below, directive_on, cond_from, if_of, by_numbers}
use Rattle.plan_theory.proofs.NumbersOf.{where_placed}
use Rattle.plan_keys.specs.Keyed.{Keyed}
use Rattle.plan_rows.specs.Ranks.{is_fragment, is_variable_of, rank, RanksTo}
use Rattle.plan_rows.proofs.RankLaws.{rank_most, rank_first, fragment_rank, variable_is}
use Rattle.plan_conditions.specs.declared.IfValue.{IfValue}
use Rattle.plan_conditions.specs.Conditions.{coded}
use Rattle.plan_steps.specs.Table.{up_from, keep, what, above, arg, belongs, tests_from, table_set, RowOf, Tabled}
use Rattle.plan_steps.specs.Table.{count as testCount}
use Rattle.plan_tests.specs.Right.{row_cells, Small, spread_row, inline_row, TestsAre, cells_of, RightRow, TableTo}
use Rattle.plan_tests.proofs.RowLaws.{tests_frame}
use Rattle.plan_tests.proofs.RightLaws.{kept_field, kept_spread, kept_inline}

-- a type's number, by the code's
pub type_none : (t : Table) (name : List ℕ) (c k : ℕ) → type_coded c ≡ composite_of t name → c ≡ 0 → k ≡ length t → k ≡ type_number t name
type_none t name c k e z q = q ∙ sym (ap (or_count t) (sym e ∙ ap type_coded z))

pub type_some : (t : Table) (name : List ℕ) (c : ℕ) → type_coded c ≡ composite_of t name → (c ≡ 0 → ⊥) → c - 1 ≡ type_number t name
type_some t name zero e z = absurd (z refl)
type_some t name (suc k) e z = let y : suc k - 1 ≡ k = omega arith in y ∙ sym (ap (or_count t) (sym e))

-- a row's name as a part of the bytes
pub named : (s rows : List ℕ) (n j at l : ℕ) → at ≡ (row_in rows n j).name_start → l ≡ (row_in rows n j).name_length → part s at l ≡ name_of (doc_of s rows n) j
named s rows n j at l e f = rw (e, f)

-- a fragment's number, by its rank
module _ (d : Doc) (ranks name : List ℕ) (n : ℕ) (w : RanksTo is_fragment d.rows ranks n) (h : fragment_named d name < n) {f k : ℕ} (e : f ≡ fragment_named d name) (q : k ≡ get_or ranks f 0) where
  pub fragment_rank_is : k ≡ rank is_fragment d.rows f
  fragment_rank_is = q ∙ w.right f (omega (arith, e))

  pub fragment_ranked : k ≡ fragment_number d name
  fragment_ranked = fragment_rank_is ∙ ap (rank is_fragment d.rows) e ∙ fragment_rank d name

-- a fragment's condition, by its row
both : (b c : Bool) → cond b c false ≡ (b && c)
both true c = refl
both false c = refl

module _ (s rows : List ℕ) (n i j : ℕ) (e : j ≡ first_below (rows_in rows n) kind_type_reference i) where
  found_at : condition_of (doc_of s rows n) i ≡ find (is_below kind_type_reference i) (rows_in rows n)
  unfolding condition_of
  found_at = ap (λ (p : Row → Bool). find p (rows_in rows n)) (fun_ext (λ r. both (is kind_type_reference r) (below i r)))

  pub condition_none : n ≤ j → condition_of (doc_of s rows n) i ≡ none
  condition_none h = found_at ∙ find_no (is_below kind_type_reference i) (rows_in rows n) 0 (omega (arith, e, rows_count rows n))

  pub condition_some : j < n → condition_of (doc_of s rows n) i ≡ some (row_in rows n j)
  condition_some h =
      found_at ∙ find_yes (is_below kind_type_reference i) (rows_in rows n) no_row 0 (omega (arith, e, rows_count rows n))
      ∙ ap (λ (k : ℕ). some (row_in rows n k)) (sym e)

-- variables' numbers are small
module _ (d : Doc) (o : ℕ) (few : count d ≤ most_rows) where
  variable_most : (x : List ℕ) → variable_number d o x ≤ most_rows
  variable_most x =
      let e = sym (variable_is d o x) ∙ rank_first (is_variable_of o) (called d x) d.rows in
      omega (arith, e, rank_most (is_variable_of o) d.rows (first_at (λ r. is_variable_of o r && called d x r) d.rows), first_at_most (λ r. is_variable_of o r && called d x r) d.rows, few)

  small_value : (b : Bool) (v : Row) → Small (coded (cond b (literal (eqb v.extra 1)) (variable (variable_number d o (spelt d v)))))
  small_value true v = tt
  small_value false v = variable_most (spelt d v)

  small_from : (r : Option Row) → Small (coded (cond_from d o r))
  small_from none = tt
  small_from (some v) = small_value (is kind_boolean v) v

  pub small_if : (x : List ℕ) (i : ℕ) → Small (coded (if_of d o x i))
  unfolding if_of
  small_if x i = go (ltb (directive_on d x i) (count d)) (find (λ r. is_value r && below (argument_below d (directive_on d x i)) r) d.rows)
    where
      go : (b : Bool) (r : Option Row) → Small (coded (cond b (cond_from d o r) absent))
      go true r = small_from r
      go false r = tt

pub small_coded : (d : Doc) (o : ℕ) → count d ≤ most_rows → (x : List ℕ) (i : ℕ) (c : Rattle.std.specs.Prelude.Option IfValue) → c ≡ coded (if_of d o x i) → Small c
small_coded d o few x i c e = subst Small (sym e) (small_if d o few x i)

-- what a selection is, by its kind
module _ (t : Table) (d : Doc) (o i : ℕ) where
  abbrev view : View ℕ
  view = by_numbers t d o

  pub sort_field : (row_of d i).kind ≡ kind_field → view.sort i ≡ field (key_number d (key_at d i))
  sort_field k = rw (eq-eqb (row_of d i).kind kind_field k)

  pub sort_spread : (row_of d i).kind ≡ kind_spread → view.sort i ≡ spread (fragment_number d (name_of d i))
  sort_spread k = rw (k)

  pub sort_inline : ((row_of d i).kind ≡ kind_field → ⊥) → ((row_of d i).kind ≡ kind_spread → ⊥) → view.sort i ≡ inline (type_if t d (condition_of d i))
  sort_inline a b = rw (ne_eqb (row_of d i).kind kind_field a, ne_eqb (row_of d i).kind kind_spread b)

  fragment_at : (f : List ℕ) → fragment_row d (fragment_number d f) ≡ fragment_named d f
  unfolding fragment_named
  fragment_at f = where_placed (is kind_fragment) d (called d f)

  pub spread_on : (f : List ℕ) → view.on (fragment_number d f) ≡ type_on t d (condition_of d (fragment_named d f))
  spread_on f = ap (λ (n : ℕ). type_on t d (condition_of d n)) (fragment_at f)

  pub spread_set : (f : List ℕ) → view.fragment (fragment_number d f) ≡ set_of d (fragment_named d f)
  spread_set f = ap (set_of d) (fragment_at f)

  pub key_most : key_number d (key_at d i) ≤ count d
  unfolding key_number
  key_most = first_at_most _ d.rows

-- a kept selection, by its kind
module _ (t s rows : List ℕ) (n o i : ℕ) where
  abbrev view' : View ℕ
  view' = by_numbers (table_of t) (doc_of s rows n) o

  pub is_field_is : (keys : List ℕ) → n ≤ most_rows → Keyed (doc_of s rows n) keys → i < n → (row row' : List ℕ) (m : ℕ) → is_selection (row_in rows n i) ≡ true → dropped (view'.skip i) (view'.include i) ≡ false
      → TestsAre row m (skip_tests (view'.skip i) ++ include_tests (view'.include i)) → m ≤ 2 → (above : ℕ) → above ≡ (row_in rows n i).parent → (row_in rows n i).kind ≡ kind_field
      → row' ≡ sets row 0 (1 ∷ above ∷ get_or keys i 0 ∷ m ∷ []) → RightRow t s rows n o i row'
  is_field_is keys few k h row row' m sel d w low above a kind q =
      let key : get_or keys i 0 ≡ key_number (doc_of s rows n) (key_at (doc_of s rows n) i) = k.right i (omega (arith, rows_count rows n)) (eq-eqb (row_in rows n i).kind kind_field kind) in
      kept_field view' (set_of (doc_of s rows n)) i (row_in rows n i).parent (is_selection (row_in rows n i)) sel d row row' m w low (key_number (doc_of s rows n) (key_at (doc_of s rows n) i))
      (omega (arith, key_most (table_of t) (doc_of s rows n) o i, rows_count rows n)) (sort_field (table_of t) (doc_of s rows n) o i kind)
      (q ∙ ap (λ (x : ℕ). sets row 0 (1 ∷ x ∷ get_or keys i 0 ∷ m ∷ [])) a ∙ ap (λ (x : ℕ). sets row 0 (1 ∷ (row_in rows n i).parent ∷ x ∷ m ∷ [])) key)

  pub is_spread : n ≤ most_rows → ((j : ℕ) → is kind_spread (row_in rows n j) ≡ true → fragment_named (doc_of s rows n) (name_of (doc_of s rows n) j) < n) → (row row' : List ℕ) (m : ℕ) → is_selection (row_in rows n i) ≡ true
      → dropped (view'.skip i) (view'.include i) ≡ false
      → TestsAre row m (skip_tests (view'.skip i) ++ include_tests (view'.include i)) → m ≤ 2 → (above : ℕ) → above ≡ (row_in rows n i).parent → (row_in rows n i).kind ≡ kind_spread
      → row' ≡ spread_row row m above (fragment_number (doc_of s rows n) (name_of (doc_of s rows n) i)) (type_on (table_of t) (doc_of s rows n) (condition_of (doc_of s rows n) (fragment_named (doc_of s rows n) (name_of (doc_of s rows n) i)))) (fragment_named (doc_of s rows n) (name_of (doc_of s rows n) i))
      → RightRow t s rows n o i row'
  is_spread few known row row' m sel d w low above a kind q =
      let name = name_of (doc_of s rows n) i in
      let f = fragment_named (doc_of s rows n) name in
      kept_spread view' (set_of (doc_of s rows n)) i (row_in rows n i).parent (is_selection (row_in rows n i)) sel d row row' m w low (fragment_number (doc_of s rows n) name) (type_on (table_of t) (doc_of s rows n) (condition_of (doc_of s rows n) f)) f
      (let l = known i (eq-eqb (row_in rows n i).kind kind_spread kind) in omega arith) (sort_spread (table_of t) (doc_of s rows n) o i kind) (spread_on (table_of t) (doc_of s rows n) o i name) (spread_set (table_of t) (doc_of s rows n) o i name)
      (q ∙ ap (λ (x : ℕ). spread_row row m x (fragment_number (doc_of s rows n) name) (type_on (table_of t) (doc_of s rows n) (condition_of (doc_of s rows n) f)) f) a)

  pub is_inline : n ≤ most_rows → i < n → (row row' : List ℕ) (m : ℕ) → is_selection (row_in rows n i) ≡ true → dropped (view'.skip i) (view'.include i) ≡ false
      → TestsAre row m (skip_tests (view'.skip i) ++ include_tests (view'.include i)) → m ≤ 2 → (above : ℕ) → above ≡ (row_in rows n i).parent → ((row_in rows n i).kind ≡ kind_field → ⊥) → ((row_in rows n i).kind ≡ kind_spread → ⊥)
      → row' ≡ inline_row row m above i (type_if (table_of t) (doc_of s rows n) (condition_of (doc_of s rows n) i)) → RightRow t s rows n o i row'
  is_inline few h row row' m sel d w low above a k₁ k₂ q =
      kept_inline view' (set_of (doc_of s rows n)) i (row_in rows n i).parent (is_selection (row_in rows n i)) sel d row row' m w low (type_if (table_of t) (doc_of s rows n) (condition_of (doc_of s rows n) i))
      (omega arith) (sort_inline (table_of t) (doc_of s rows n) o i k₁ k₂) refl (q ∙ ap (λ (x : ℕ). inline_row row m x i (type_if (table_of t) (doc_of s rows n) (condition_of (doc_of s rows n) i))) a)

-- rows of the table
part_front : (k m a : ℕ) (l : List ℕ) → k + m ≤ a → take m (drop k (take a l)) ≡ take m (drop k l)
part_front zero m a l h = take-take m a l (omega arith)
part_front (suc k) m zero l h = absurd (omega arith)
part_front (suc k) m (suc a) [] h = refl
part_front (suc k) m (suc a) (x ∷ l) h = part_front k m a l (omega arith)

-- row i is written
module _ (cells cells' row : List ℕ) (i a b : ℕ) (ea : a ≡ row_cells * i) (eb : b ≡ a + row_cells) (long : b ≤ length cells) (size : length row ≡ row_cells) (e : cells' ≡ take a cells ++ (row ++ drop b cells)) where
  front : length (take a cells) ≡ a
  front = length-take-le a cells (omega arith)

  pub cells_size : length cells' ≡ length cells
  cells_size = ap length e ∙ omega (arith, length-append (take a cells) (row ++ drop b cells), length-append row (drop b cells), length-drop b cells, front)

  pub cells_here : cells_of cells' i ≡ row
  cells_here =
      ap (λ (l : List ℕ). take row_cells (drop (row_cells * i) l)) e
      ∙ ap (take row_cells) (drop_at (take a cells) (row ++ drop b cells) (row_cells * i) (front ∙ ea)) ∙ take_at row (drop b cells) row_cells size

  pub cells_before : (r : ℕ) → r < i → cells_of cells' r ≡ cells_of cells r
  cells_before r h =
      sym (part_front (row_cells * r) row_cells a cells' (omega arith))
      ∙ ap (λ (l : List ℕ). take row_cells (drop (row_cells * r) l)) (ap (take a) e ∙ take_at (take a cells) (row ++ drop b cells) a front)
      ∙ part_front (row_cells * r) row_cells a cells (omega arith)

  pub table_more : (t s rows : List ℕ) (n o : ℕ) → TableTo t s rows n o cells i → RightRow t s rows n o i row → TableTo t s rows n o cells' (i + 1)
  table_more t s rows n o w q r h = go (dec_lt r i)
    where
      go : Dec (r < i) → RightRow t s rows n o r (cells_of cells' r)
      go (yes u) = subst (RightRow t s rows n o r) (sym (cells_before r u)) (w r u)
      go (no u) = let z : r ≡ i = omega arith in subst (λ (x : ℕ). RightRow t s rows n o x (cells_of cells' x)) (sym z) (subst (RightRow t s rows n o i) (sym cells_here) q)

pub table_none : (t s rows : List ℕ) (n o : ℕ) (cells : List ℕ) → TableTo t s rows n o cells 0
table_none t s rows n o cells r h = absurd (omega arith)

-- before row i
pub record Filling (t s rows : List ℕ) (n o : ℕ) (cells₀ cells : List ℕ) (i : ℕ) : Type 0 where
  pub most : i ≤ n
  pub size : length cells ≡ length cells₀
  pub right : TableTo t s rows n o cells i

pub filling_start : (t s rows : List ℕ) (n o : ℕ) (cells : List ℕ) → Filling t s rows n o cells cells 0
filling_start t s rows n o cells = record { most = omega arith; size = refl; right = table_none t s rows n o cells }

pub filling_more : (t s rows : List ℕ) (n o : ℕ) (cells₀ cells cells' row : List ℕ) (i a b : ℕ) → Filling t s rows n o cells₀ cells i → i < n → row_cells * n ≤ length cells₀ → a ≡ row_cells * i → b ≡ a + row_cells
    → cells' ≡ take a cells ++ (row ++ drop b cells) → RightRow t s rows n o i row → Filling t s rows n o cells₀ cells' (i + 1)
filling_more t s rows n o cells₀ cells cells' row i a b w h long ea eb e q =
    let l : b ≤ length cells = omega (arith, w.size) in
    record {
      most = omega arith;
      size = cells_size cells cells' row i a b ea eb l q.size e ∙ w.size;
      right = table_more cells cells' row i a b ea eb l q.size e t s rows n o w.right q;
    }

-- a row of the table, lent and written
pub row_size : (cells : List ℕ) (i : ℕ) → row_cells * i + row_cells ≤ length cells → length (take (row_cells * i + row_cells - row_cells * i) (drop (row_cells * i) cells)) ≡ row_cells
row_size cells i h =
    let z : row_cells * i + row_cells - row_cells * i ≡ row_cells = omega arith in
    ap (λ (k : ℕ). length (take k (drop (row_cells * i) cells))) z ∙ length-take-le row_cells (drop (row_cells * i) cells) (omega (arith, length-drop (row_cells * i) cells))

pub filling_put : (t s rows : List ℕ) (n o : ℕ) (cells₀ cells row : List ℕ) (i : ℕ) → Filling t s rows n o cells₀ cells i → i < n → row_cells * n ≤ length cells₀ → RightRow t s rows n o i row
    → Filling t s rows n o cells₀ (put_mid (row_cells * i) (row_cells * i + row_cells - row_cells * i) cells row) (i + 1)
filling_put t s rows n o cells₀ cells row i w h long q =
    filling_more t s rows n o cells₀ cells (put_mid (row_cells * i) (row_cells * i + row_cells - row_cells * i) cells row) row i (row_cells * i) (row_cells * i + row_cells) w h long refl refl
    (ap (λ (l : List ℕ). take (row_cells * i) cells ++ (row ++ l)) (Post-is (row_cells * i) (row_cells * i + row_cells) cells (omega arith))) q

-- What the second pass asks.
module _ (t s rows : List ℕ) (n o : ℕ) (cells : List ℕ) (w : TableTo t s rows n o cells n) where
  abbrev d : Doc
  d = doc_of s rows n

  cell : (r k : ℕ) → k < row_cells → get_or (cells_of cells r) k 0 ≡ get_or cells (row_cells * r + k) 0
  cell r k h = get_or-take row_cells (drop (row_cells * r) cells) k 0 h ∙ get_or-drop (row_cells * r) cells k 0

  first_cell : (r : ℕ) → get_or (cells_of cells r) 0 0 ≡ what cells r
  first_cell r = let z : row_cells * r + 0 ≡ row_cells * r = omega arith in cell r 0 (omega arith) ∙ ap (λ (k : ℕ). get_or cells k 0) z

  pub table_above : (r : ℕ) → r < n → above cells r ≡ (row_in rows n r).parent
  table_above r h = sym (cell r 1 (omega arith)) ∙ (w r h).its_above

  pub table_few : (r : ℕ) → r < n → testCount cells r ≤ 4
  table_few r h = omega (arith, cell r 3 (omega arith), (w r h).few)

  pub table_held : (r : ℕ) → r < n → arg cells r ≤ 2048
  table_held r h = omega (arith, cell r 2 (omega arith), (w r h).held)

  pub table_kinds : (r j : ℕ) → r < n → j < testCount cells r → (1 ≤ get_or cells (12 * r + 4 + 2 * j) 0) × (get_or cells (12 * r + 4 + 2 * j) 0 ≤ 4)
  table_kinds r j l m =
      let z : row_cells * r + (4 + 2 * j) ≡ 12 * r + 4 + 2 * j = omega arith in
      let q = ap (λ (x : ℕ). get_or cells x 0) z in
      let e = cell r (4 + 2 * j) (omega (arith, cell r 3 (omega arith), (w r l).few)) in
      let k = (w r l).kinds j (omega (arith, cell r 3 (omega arith))) in
      (omega (arith, q, e, k.0), omega (arith, q, e, k.1))

  belongs_is : (h r : ℕ) → r < n → belongs cells h r ≡ (below h (row_in rows n r) && is_selection (row_in rows n r))
  belongs_is h r l = go (is_selection (row_in rows n r)) refl
    where
      x : above cells r ≡ (row_in rows n r).parent
      x = table_above r l

      go : (b : Bool) → is_selection (row_in rows n r) ≡ b → (not (eqb (what cells r) 0) && eqb (above cells r) h) ≡ (below h (row_in rows n r) && b)
      go true e =
          let q = ne_eqb (what cells r) 0 (λ z. (w r l).selection e (first_cell r ∙ z)) in
          ap (λ (c : Bool). not c && eqb (above cells r) h) q ∙ ap (λ (k : ℕ). eqb k h) x ∙ flat (below h (row_in rows n r))
        where
          flat : (c : Bool) → c ≡ (c && true)
          flat true = refl
          flat false = refl
      go false e =
          let q = eq-eqb (what cells r) 0 (sym (first_cell r) ∙ (w r l).no_selection e) in
          ap (λ (c : Bool). not c && eqb (above cells r) h) q ∙ flat (below h (row_in rows n r))
        where
          flat : (c : Bool) → false ≡ (c && false)
          flat true = refl
          flat false = refl

  keep_rows : (p : ℕ → Bool) (q : Row → Bool) (rs : List Row) (i : ℕ) → ((k : ℕ) → k < length rs → p (i + k) ≡ q (get_or rs k no_row)) → keep p (up_from (length rs) i) ≡ each_from i (λ j r. only_if (q r) j) rs
  unfolding each_from
  keep_rows p q [] i h = refl
  keep_rows p q (r ∷ rs) i h =
      let z : i + 0 ≡ i = omega arith in
      let e : p i ≡ q r = ap p (sym z) ∙ h 0 (omega arith) in
      let more = keep_rows p q rs (suc i) (λ k l. let y : suc i + k ≡ i + suc k = omega arith in ap p y ∙ h (suc k) (omega arith)) in
      ap (λ (b : Bool). cond b (i ∷ keep p (up_from (length rs) (suc i))) (keep p (up_from (length rs) (suc i)))) e ∙ go (q r) more
    where
      go : (b : Bool) → keep p (up_from (length rs) (suc i)) ≡ each_from (suc i) (λ j x. only_if (q x) j) rs
          → cond b (i ∷ keep p (up_from (length rs) (suc i))) (keep p (up_from (length rs) (suc i))) ≡ only_if b i ++ each_from (suc i) (λ j x. only_if (q x) j) rs
      go true m = ap (λ (l : List ℕ). i ∷ l) m
      go false m = m

  -- a row's selections are those of the table
  pub table_set_is : (h : ℕ) → table_set cells n h ≡ set_of d h
  unfolding numbers_where
  table_set_is h =
      ap (λ (m : ℕ). keep (λ r. belongs cells h r) (up_from m 0)) (sym (rows_count rows n))
      ∙ keep_rows (λ r. belongs cells h r) (λ r. below h r && is_selection r) (rows_in rows n) 0
      (λ k l. let z : 0 + k ≡ k = omega arith in ap (λ (x : ℕ). belongs cells h x) z ∙ belongs_is h k (omega (arith, rows_count rows n)))

  pub table_tabled : Tabled cells n (by_numbers (table_of t) d o)
  table_tabled = record { row = one }
    where
      one : (r h : ℕ) → r < n → belongs cells h r ≡ true → RowOf cells n (by_numbers (table_of t) d o) r
      one r h l e = record {
        drops = ap (λ (x : ℕ). eqb x 3) (sym (first_cell r)) ∙ (w r l).drops sel;
        kinds = λ j m. let z : row_cells * r + (4 + 2 * j) ≡ 12 * r + 4 + 2 * j = omega arith in
            omega (arith, ap (λ (x : ℕ). get_or cells x 0) z, cell r (4 + 2 * j) (omega (arith, cell r 3 (omega arith), (w r l).few)), ((w r l).kinds j (omega (arith, cell r 3 (omega arith)))).1);
        its_tests = λ z. tests_frame cells (cells_of cells r) (12 * r + 4) 4 (testCount cells r) (λ k m. let y : 12 * r + 4 + k ≡ row_cells * r + (4 + k) = omega arith in
            ap (λ (x : ℕ). get_or cells x 0) y ∙ sym (cell r (4 + k) (omega (arith, cell r 3 (omega arith), (w r l).few)))) ∙ ap (tests_from (cells_of cells r) 4) (sym (cell r 3 (omega arith))) ∙ (w r l).its_tests sel (λ y. z (sym (first_cell r) ∙ y));
        a_field = λ z. (w r l).a_field sel (first_cell r ∙ z) ∙ ap field (cell r 2 (omega arith));
        nested = λ z y at inner. (w r l).nested sel (λ x. z (sym (first_cell r) ∙ x)) (λ x. y (sym (first_cell r) ∙ x)) at inner ∙ ap (λ (x : ℕ). inner at (set_of d x)) (cell r 2 (omega arith)) ∙ ap (inner at) (sym (table_set_is (arg cells r)));
      }
        where
          sel : is_selection (row_in rows n r) ≡ true
          sel = go (is_selection (row_in rows n r)) refl
            where
              go : (b : Bool) → is_selection (row_in rows n r) ≡ b → is_selection (row_in rows n r) ≡ true
              go true q = q
              go false q = absurd (true≢false (sym e ∙ ap (λ (c : Bool). not c && eqb (above cells r) h) (eq-eqb (what cells r) 0 (sym (first_cell r) ∙ (w r l).no_selection q))))
