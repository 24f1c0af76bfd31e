-- Selection sets on the machine: each way in which their reader goes on or ends.
use mathlib.Core.Path.{◌≡◌, refl, sym, ap, ◌∙◌}
use mathlib.Core.Bool.{false, not, ◌&&◌}
use mathlib.Core.List.Memᴰ
use mathlib.Core.List.{List, [], ◌∷◌, ◌++◌}
use mathlib.Core.Logic.{◌⊎◌, inl, inr}
use Prim.Native.Nat.{ℕ, suc, ◌+◌, ◌-◌, ◌*◌, ◌≤◌}
use native.Mathlib.Omega.{arith}
use lib.ListN.{length, set, length-set}
use Rattle.std.specs.Prelude.{Result, Ok, Err}
use Rattle.paper.specs.Grammar.{nt, tm, act}
use Rattle.paper.specs.Numbers.{most_text, most_rows}
use Rattle.paper.specs.Rows.{top}
use Rattle.paper.specs.Sizes.{Counts, over_counts}
use Rattle.paper.specs.declared.Refusal.{Refusal}
use Rattle.paper.specs.declared.Refusal.TheVariants.{NoGoing, TooDeep}
use Rattle.paper.proofs.Lexing.{from}
use Rattle.paper.proofs.Machine.{choose}
use Rattle.paper.proofs.Tables.{factored}
use Rattle.paper.proofs.Going.{Stack, st, Out, halt, go}
use Rattle.text_scan.specs.Head.{head_of, kind_of}
use Rattle.text_cursor.specs.declared.Cursor.{Cursor}
use Rattle.text_cursor.specs.Reader.{Looks, moved_to, at, Ready, Went, Halts, Said}
use Rattle.paper.specs.Language.{language, the, brace_l, brace_r, end, SelectionSet, Selection+, Selection*, Selection, n_other, spread}
use Rattle.text_cursor.proofs.Steps.{first, null, refuse, lacks, opening, closing, too_deep, is, not_is, not_two, refuses, refuses_end}
use Rattle.text_cursor.proofs.Cells.{ends_row}
use Rattle.text_leaves.proofs.MovedLaws.{moved_halts, moved_said}
use Rattle.text_arguments.specs.Passed.{Passed, opened, shut}
use Rattle.text_arguments.proofs.Onward.{lies, has_bytes, next, next_at, same, said_went, said_halts}
use Rattle.text_selections.specs.Selections.{selection_set_stack, selection_stack, body_stack}

-- what is left of a set where a selection is to be read
abbrev pub one_more : Stack
one_more = nt Selection ∷ nt Selection* ∷ tm (the brace_r) ∷ []

module _ (s : List ℕ) (c : Cursor) (h : c.stop ≤ length s) (l : Looks s c) (cells : List ℕ) (n : ℕ) (o : List ℕ) (left : ℕ) (q : Counts) where
  abbrev here : Stack → Out
  here τ = go (st cells n o c.stop left q) τ (from s c.stop)

  -- a selection begins with a name or with dots
  pub no_selection : (σ : Stack) → (c.kind ≡ kind_of n_other → ⊥) → (c.kind ≡ kind_of spread → ⊥) → here (nt Selection ∷ σ) ≡ halt (NoGoing c.start)
  unfolding factored language choose refuses refuses_end
  no_selection σ e f = refuse s c h l cells n o left q σ Selection (λ (y : ℕ). not (is (kind_of n_other) y) && not (is (kind_of spread) y)) (not_two (kind_of n_other) (kind_of spread) c.kind e f) tt tt

  -- the first selection, or none
  first_selection : (σ : Stack) → here (nt Selection+ ∷ σ) ≡ here (nt Selection ∷ nt Selection* ∷ σ)
  unfolding factored language choose refuses refuses_end
  first_selection σ = by_name (same c.kind (kind_of n_other))
    where
      by_dots : (c.kind ≡ kind_of n_other → ⊥) → (c.kind ≡ kind_of spread) ⊎ (c.kind ≡ kind_of spread → ⊥) → here (nt Selection+ ∷ σ) ≡ here (nt Selection ∷ nt Selection* ∷ σ)
      by_dots e (inl f) = first s c h l cells n o left q σ Selection+ (Memᴰ.head refl) spread f tt
      by_dots e (inr f) =
          refuse s c h l cells n o left q σ Selection+ (λ (y : ℕ). not (is (kind_of n_other) y) && not (is (kind_of spread) y)) (not_two (kind_of n_other) (kind_of spread) c.kind e f) tt tt ∙ sym (no_selection (nt Selection* ∷ σ) e f)

      by_name : (c.kind ≡ kind_of n_other) ⊎ (c.kind ≡ kind_of n_other → ⊥) → here (nt Selection+ ∷ σ) ≡ here (nt Selection ∷ nt Selection* ∷ σ)
      by_name (inl e) = first s c h l cells n o left q σ Selection+ (Memᴰ.head refl) n_other e tt
      by_name (inr e) = by_dots e (same c.kind (kind_of spread))

  -- one more, where the set does not end
  next_selection : (σ : Stack) → (c.kind ≡ kind_of brace_r → ⊥) → here (nt Selection* ∷ tm (the brace_r) ∷ σ) ≡ here (nt Selection ∷ nt Selection* ∷ tm (the brace_r) ∷ σ)
  unfolding factored language choose
  next_selection σ z = by_name (same c.kind (kind_of n_other))
    where
      by_dots : (c.kind ≡ kind_of n_other → ⊥) → (c.kind ≡ kind_of spread) ⊎ (c.kind ≡ kind_of spread → ⊥) → here (nt Selection* ∷ tm (the brace_r) ∷ σ) ≡ here (nt Selection ∷ nt Selection* ∷ tm (the brace_r) ∷ σ)
      by_dots e (inl f) = first s c h l cells n o left q (tm (the brace_r) ∷ σ) Selection* (Memᴰ.tail (Memᴰ.head refl)) spread f tt
      by_dots e (inr f) =
          null s c h l cells n o left q (tm (the brace_r) ∷ σ) Selection* (Memᴰ.head refl) tt refl (λ (y : ℕ). not (is (kind_of n_other) y) && not (is (kind_of spread) y)) (not_two (kind_of n_other) (kind_of spread) c.kind e f) tt
          ∙ lacks s c h l cells n o left q σ (the brace_r) (λ (y : ℕ). not (is (kind_of brace_r) y)) (not_is (kind_of brace_r) c.kind z) tt
          ∙ sym (no_selection (nt Selection* ∷ tm (the brace_r) ∷ σ) e f)

      by_name : (c.kind ≡ kind_of n_other) ⊎ (c.kind ≡ kind_of n_other → ⊥) → here (nt Selection* ∷ tm (the brace_r) ∷ σ) ≡ here (nt Selection ∷ nt Selection* ∷ tm (the brace_r) ∷ σ)
      by_name (inl e) = first s c h l cells n o left q (tm (the brace_r) ∷ σ) Selection* (Memᴰ.tail (Memᴰ.head refl)) n_other e tt
      by_name (inr e) = by_dots e (same c.kind (kind_of spread))

  -- the brace that opens a set, and the one that closes it
  opens : (σ : Stack) → c.kind ≡ kind_of brace_l → here (nt SelectionSet ∷ σ) ≡ here (tm (the brace_l) ∷ nt Selection+ ∷ tm (the brace_r) ∷ σ)
  unfolding factored language
  opens σ e = first s c h l cells n o left q σ SelectionSet (Memᴰ.head refl) brace_l e tt

  closes_with : (σ : Stack) → c.kind ≡ kind_of brace_r → n ≤ most_rows → over_counts q ≡ false →
      here (nt Selection* ∷ tm (the brace_r) ∷ σ) ≡ go (st cells n o c.end (suc left) q) σ (from s c.end)
  unfolding factored language choose
  closes_with σ e m f =
      null s c h l cells n o left q (tm (the brace_r) ∷ σ) Selection* (Memᴰ.head refl) tt refl (is (kind_of brace_r)) (rw e tt) tt ∙ closing s c h l cells n o left q σ (the brace_r) brace_r e tt tt m f

  pub no_set : (σ : Stack) → (c.kind ≡ kind_of brace_l → ⊥) → here (nt SelectionSet ∷ σ) ≡ halt (NoGoing c.start)
  unfolding factored language choose refuses refuses_end
  no_set σ e = refuse s c h l cells n o left q σ SelectionSet (λ (y : ℕ). not (is (kind_of brace_l) y)) (not_is (kind_of brace_l) c.kind e) tt tt

pub selection_lacks : (s rows : List ℕ) (c : Cursor) (parent left : ℕ) → Ready s rows c parent → (c.kind ≡ kind_of n_other → ⊥) → (c.kind ≡ kind_of spread → ⊥) → Halts s rows c parent left selection_stack (NoGoing c.start)
selection_lacks s rows c parent left a e g σ o q p f = no_selection s c a.within a.looks rows c.rows o left q σ e g

-- A SET, from its cursor c on
module _ (s rows : List ℕ) (c : Cursor) (parent left : ℕ) (a : Ready s rows c parent) where
  pub set_lacks : (c.kind ≡ kind_of brace_l → ⊥) → Halts s rows c parent left selection_set_stack (NoGoing c.start)
  set_lacks e σ o q p f = no_set s c a.within a.looks rows c.rows o left q σ e

  module _ (e : c.kind ≡ kind_of brace_l) where
    pub set_deep : left ≡ 0 → Halts s rows c parent left selection_set_stack (TooDeep c.start)
    set_deep z σ o q p f =
        opens s c a.within a.looks rows c.rows o left q σ e
        ∙ too_deep s c a.within a.looks rows c.rows o left q (nt Selection+ ∷ tm (the brace_r) ∷ σ) (the brace_l) brace_l e tt tt z

    opened_at : (left ≡ 0 → ⊥) → (σ : Stack) (o : List ℕ) (q : Counts) → over_counts q ≡ false →
        at s rows c o left q (nt SelectionSet ∷ σ) ≡ go (st rows c.rows o c.end (left - 1) q) (nt Selection+ ∷ tm (the brace_r) ∷ σ) (from s c.end)
    opened_at z σ o q f =
        opens s c a.within a.looks rows c.rows o left q σ e
        ∙ opening s c a.within a.looks rows c.rows o left q (nt Selection+ ∷ tm (the brace_r) ∷ σ) (the brace_l) brace_l e tt tt (left - 1) (omega arith) a.few f

    pub set_bad : (left ≡ 0 → ⊥) → (r : Result Cursor Refusal) → r ≡ moved_to c.end c.rows (head_of (from s c.end)) → (x : Refusal) → r ≡ Err x → Halts s rows c parent left selection_set_stack x
    set_bad z r m x y σ o q p f =
        opened_at z σ o q f ∙ moved_halts s c.end c.rows r x m y (st rows c.rows o c.end (left - 1) q) (nt Selection+ ∷ tm (the brace_r) ∷ σ)

    -- the loop: at each turn a selection is to be read
    pub turn_first : (left ≡ 0 → ⊥) → (d : Cursor) (r : Result Cursor Refusal) → r ≡ moved_to c.end c.rows (head_of (from s c.end)) → r ≡ Ok d →
        Passed 1 s rows rows c d parent left (left - 1) shut shut selection_set_stack one_more
    turn_first z d r m y =
        let x = next s c d c.rows a.within a.looks r m y in
        let b = lies s c a.within a.looks in
        record {
          size = a.size;
          within = x.within;
          few = omega (arith, a.few, x.rows);
          looks = x.looks;
          on = omega (arith, x.stop, has_bytes s c a.within a.looks brace_l e);
          goes =
              λ σ o q p f.
              opened_at z σ o q f
              ∙ next_at s c d c.rows x rows o (left - 1) q (nt Selection+ ∷ tm (the brace_r) ∷ σ)
              ∙ first_selection s d x.within x.looks rows d.rows o (left - 1) q (tm (the brace_r) ∷ σ);
        }

-- one turn, from its cursor d on: α was to be read where the loop began
module _ (gain : ℕ) (s rows rows₁ : List ℕ) (c d : Cursor) (parent left₀ left : ℕ) (α : Stack) (i : Passed gain s rows rows₁ c d parent left₀ (left - 1) shut shut α one_more) where
  pub turn_ready : length s ≤ most_text → parent ≤ most_rows → Ready s rows₁ d parent
  turn_ready h p = record { short = h; size = i.size; within = i.within; few = i.few; looks = i.looks; below = p }

  -- with the selection read, or refused
  module _ (rows₂ : List ℕ) (r : Result Cursor Refusal) (v : Said 1 s rows₁ rows₂ d parent (left - 1) selection_stack r) where
    pub turn_stops : (x : Refusal) → r ≡ Err x → Halts s rows c parent left₀ α x
    turn_stops x e σ o q p f = i.goes σ o q p f ∙ said_halts 1 s rows₁ rows₂ d parent (left - 1) selection_stack r x v e (nt Selection* ∷ tm (the brace_r) ∷ σ) o q p f

    module _ (b : Cursor) (e : r ≡ Ok b) where
      pub turn_read : Went 1 s rows₁ rows₂ d b parent (left - 1) selection_stack
      turn_read = said_went 1 s rows₁ rows₂ d b parent (left - 1) selection_stack r v e

      read_at : (σ : Stack) (o : List ℕ) (q : Counts) → top o ≡ parent → over_counts q ≡ false →
          at s rows c o left₀ q (α ++ σ) ≡ at s rows₂ b o (left - 1) q (nt Selection* ∷ tm (the brace_r) ∷ σ)
      read_at σ o q p f = i.goes σ o q p f ∙ turn_read.goes (nt Selection* ∷ tm (the brace_r) ∷ σ) o q p f

      pub turn_more : (b.kind ≡ kind_of brace_r → ⊥) → Passed gain s rows rows₂ c b parent left₀ (left - 1) shut shut α one_more
      turn_more z =
          record {
            size = turn_read.size;
            within = turn_read.within;
            few = turn_read.few;
            looks = turn_read.looks;
            on = omega (arith, i.on, turn_read.on);
            goes = λ σ o q p f. read_at σ o q p f ∙ next_selection s b turn_read.within turn_read.looks rows₂ b.rows o (left - 1) q σ z;
          }

-- it ends, behind b
module _ (s rows rows₁ rows₂ : List ℕ) (c d b : Cursor) (parent left : ℕ) (i : Passed 1 s rows rows₁ c d parent left (left - 1) shut shut selection_set_stack one_more) (r : Result Cursor Refusal) (v : Said 1 s rows₁ rows₂ d parent (left - 1) selection_stack r) (e : r ≡ Ok b) (z : left ≡ 0 → ⊥) (k : b.kind ≡ kind_of brace_r) where
  read : Went 1 s rows₁ rows₂ d b parent (left - 1) selection_stack
  read = said_went 1 s rows₁ rows₂ d b parent (left - 1) selection_stack r v e

  end_at : (σ : Stack) (o : List ℕ) (q : Counts) → top o ≡ parent → over_counts q ≡ false →
      at s rows c o left q (nt SelectionSet ∷ σ) ≡ go (st rows₂ b.rows o b.end left q) σ (from s b.end)
  end_at σ o q p f =
      read_at 1 s rows rows₁ c d parent left left selection_set_stack i rows₂ r v b e σ o q p f
      ∙ closes_with s b read.within read.looks rows₂ b.rows o (left - 1) q σ k read.few f
      ∙ ap (λ (m : ℕ). go (st rows₂ b.rows o b.end m q) σ (from s b.end)) (omega arith)

  pub turn_ends : (t : Result Cursor Refusal) → t ≡ moved_to b.end b.rows (head_of (from s b.end)) → Said 1 s rows rows₂ c parent left selection_set_stack t
  turn_ends t m =
      let l = lies s b read.within read.looks in
      moved_said 1 s rows rows₂ c parent left selection_set_stack b.end b.rows read.size l.2 read.few (omega (arith, i.on, read.on)) end_at t m

-- THE SET THAT ENDS ROW n
module _ (s rows rows₁ : List ℕ) (c : Cursor) (n left : ℕ) (r : Result Cursor Refusal) (v : Said 1 s rows rows₁ c n left selection_set_stack r) where
  pub body_stops : (x : Refusal) → r ≡ Err x → (σ : Stack) (o : List ℕ) (q : Counts) → top (opened n o) ≡ n → over_counts q ≡ false → at s rows c (opened n o) left q (body_stack ++ σ) ≡ halt x
  body_stops x e σ o q p f = said_halts 1 s rows rows₁ c n left selection_set_stack r x v e (act end ∷ σ) (n ∷ o) q refl f

  module _ (d : Cursor) (e : r ≡ Ok d) where
    pub body_read : Went 1 s rows rows₁ c d n left selection_set_stack
    body_read = said_went 1 s rows rows₁ c d n left selection_set_stack r v e

    pub body_ends : (rows₂ : List ℕ) → rows₂ ≡ set rows₁ (7 * n + 2) d.stop → Passed 1 s rows rows₂ c d n left left (opened n) shut body_stack []
    body_ends rows₂ j =
        record {
          size = ap length j ∙ length-set rows₁ (7 * n + 2) d.stop ∙ body_read.size;
          within = body_read.within;
          few = body_read.few;
          looks = body_read.looks;
          on = body_read.on;
          goes =
              λ σ o q p f.
              body_read.goes (act end ∷ σ) (n ∷ o) q refl f
              ∙ ends_row rows₁ d.rows o d.stop left q σ (from s d.stop) n
              ∙ ap (λ (u : List ℕ). at s u d o left q σ) (sym j);
        }
