-- Arguments on the machine: each way in which their reader goes on or ends.
use mathlib.Core.Path.{◌≡◌, refl, sym, ap, ◌∙◌}
use mathlib.Core.Bool.{false, not}
use mathlib.Core.List.Memᴰ
use mathlib.Core.List.{List, [], ◌∷◌, ◌++◌}
use mathlib.Core.Logic.{◌⊎◌, inl, inr}
use Prim.Native.Nat.{ℕ, suc, ◌+◌, ◌-◌, ◌≤◌}
use native.Mathlib.Omega.{arith}
use lib.ListN.{length}
use Rattle.std.specs.Prelude.{Result, Ok, Err}
use Rattle.paper.specs.Grammar.{nt, tm, act}
use Rattle.paper.specs.Numbers.{most_text, most_rows}
use Rattle.paper.specs.Language.{language, the, paren_l, paren_r, colon, named, end, Name, Arguments?, Arguments, Argument+, Argument*, Argument, Value, n_other}
use Rattle.paper.specs.Rows.{top}
use Rattle.paper.specs.Sizes.{Counts, over_counts}
use Rattle.paper.specs.declared.Refusal.{Refusal}
use Rattle.paper.specs.declared.Refusal.TheVariants.{NoGoing, TooDeep}
use Rattle.paper.proofs.Lexing.{from}
use Rattle.paper.proofs.Machine.{choose}
use Rattle.paper.proofs.Tables.{factored}
use Rattle.paper.proofs.Going.{Stack, st, Out, halt, go, start_in}
use Rattle.text_scan.specs.Head.{head_of, kind_of}
use Rattle.text_cursor.specs.declared.Cursor.{Cursor}
use Rattle.text_cursor.specs.Reader.{Looks, moved_to, at, Ready, Went, Halts, Said}
use Rattle.text_cursor.proofs.Steps.{first, null, refuse, lacks, opening, closing, too_deep, is, not_is, refuses, refuses_end}
use Rattle.text_cursor.proofs.Cells.{row_opens, name_told}
use Rattle.text_leaves.specs.Stacks.{entry_stack}
use Rattle.text_arguments.specs.Arguments.{arguments_stack}
use Rattle.text_leaves.proofs.MovedLaws.{moved_halts, moved_said}
use Rattle.text_arguments.specs.Passed.{Passed, shut}
use Rattle.text_arguments.proofs.Onward.{lies, next, next_at, name_lacks, same, said_went, said_halts}

-- what is left of arguments where one is to be read
abbrev pub one_more : Stack
one_more = entry_stack 6 false ++ (nt Argument* ∷ tm (the paren_r) ∷ [])

module _ (s : List ℕ) (c : Cursor) (h : c.stop ≤ length s) (l : Looks s c) (cells : List ℕ) (n : ℕ) (o : List ℕ) (left : ℕ) (q : Counts) where
  abbrev here : Stack → Out
  here τ = go (st cells n o c.stop left q) τ (from s c.stop)

  -- no argument but at a name
  entry_lacks : (σ : Stack) → (c.kind ≡ kind_of n_other → ⊥) → here (entry_stack 6 false ++ σ) ≡ halt (NoGoing c.start)
  entry_lacks σ e =
      let t = from s c.stop in
      let τ : Stack = tm (the colon) ∷ nt Value ∷ act end ∷ σ in
      row_opens cells n o c.stop left q (act named ∷ nt Name ∷ τ) t 6 0
      ∙ name_told cells (n + 1) o c.stop left q (nt Name ∷ τ) t n 6 (start_in t) 0 (top o) 0 0 0
      ∙ name_lacks s c h l _ (n + 1) (n ∷ o) left q τ e

  one_argument : (σ : Stack) → c.kind ≡ kind_of n_other → here (nt Argument ∷ σ) ≡ here (entry_stack 6 false ++ σ)
  unfolding factored language
  one_argument σ e = first s c h l cells n o left q σ Argument (Memᴰ.head refl) n_other e tt

  -- the first argument, or none
  first_argument : (σ : Stack) → here (nt Argument+ ∷ σ) ≡ here (entry_stack 6 false ++ (nt Argument* ∷ σ))
  unfolding factored language choose refuses refuses_end
  first_argument σ = by_name (same c.kind (kind_of n_other))
    where
      by_name : (c.kind ≡ kind_of n_other) ⊎ (c.kind ≡ kind_of n_other → ⊥) → here (nt Argument+ ∷ σ) ≡ here (entry_stack 6 false ++ (nt Argument* ∷ σ))
      by_name (inl e) = first s c h l cells n o left q σ Argument+ (Memᴰ.head refl) n_other e tt ∙ one_argument (nt Argument* ∷ σ) e
      by_name (inr e) = refuse s c h l cells n o left q σ Argument+ (λ (y : ℕ). not (is (kind_of n_other) y)) (not_is (kind_of n_other) c.kind e) tt tt ∙ sym (entry_lacks (nt Argument* ∷ σ) e)

  -- one more, where they do not end
  next_argument : (σ : Stack) → (c.kind ≡ kind_of paren_r → ⊥) → here (nt Argument* ∷ tm (the paren_r) ∷ σ) ≡ here (entry_stack 6 false ++ (nt Argument* ∷ tm (the paren_r) ∷ σ))
  unfolding factored language choose
  next_argument σ z = by_name (same c.kind (kind_of n_other))
    where
      by_name : (c.kind ≡ kind_of n_other) ⊎ (c.kind ≡ kind_of n_other → ⊥) → here (nt Argument* ∷ tm (the paren_r) ∷ σ) ≡ here (entry_stack 6 false ++ (nt Argument* ∷ tm (the paren_r) ∷ σ))
      by_name (inl e) =
          first s c h l cells n o left q (tm (the paren_r) ∷ σ) Argument* (Memᴰ.tail (Memᴰ.head refl)) n_other e tt ∙ one_argument (nt Argument* ∷ tm (the paren_r) ∷ σ) e
      by_name (inr e) =
          null s c h l cells n o left q (tm (the paren_r) ∷ σ) Argument* (Memᴰ.head refl) tt refl (λ (y : ℕ). not (is (kind_of n_other) y)) (not_is (kind_of n_other) c.kind e) tt
          ∙ lacks s c h l cells n o left q σ (the paren_r) (λ (y : ℕ). not (is (kind_of paren_r) y)) (not_is (kind_of paren_r) c.kind z) tt
          ∙ sym (entry_lacks (nt Argument* ∷ tm (the paren_r) ∷ σ) e)

  -- the parenthesis that opens them
  opens : (σ : Stack) → c.kind ≡ kind_of paren_l → here (nt Arguments? ∷ σ) ≡ here (tm (the paren_l) ∷ nt Argument+ ∷ tm (the paren_r) ∷ σ)
  unfolding factored language
  opens σ e =
      first s c h l cells n o left q σ Arguments? (Memᴰ.tail (Memᴰ.head refl)) paren_l e tt ∙ first s c h l cells n o left q σ Arguments (Memᴰ.head refl) paren_l e tt

  -- and the one that closes them
  closes_with : (σ : Stack) → c.kind ≡ kind_of paren_r → n ≤ most_rows → over_counts q ≡ false →
      here (nt Argument* ∷ tm (the paren_r) ∷ σ) ≡ go (st cells n o c.end (suc left) q) σ (from s c.end)
  unfolding factored language choose
  closes_with σ e m f =
      null s c h l cells n o left q (tm (the paren_r) ∷ σ) Argument* (Memᴰ.head refl) tt refl (is (kind_of paren_r)) (rw e tt) tt ∙ closing s c h l cells n o left q σ (the paren_r) paren_r e tt tt m f

  -- no arguments
  pub no_arguments : (σ : Stack) → (c.kind ≡ kind_of paren_l → ⊥) → here (nt Arguments? ∷ σ) ≡ here σ
  unfolding factored language choose
  no_arguments σ e = null s c h l cells n o left q σ Arguments? (Memᴰ.head refl) tt refl (λ (y : ℕ). not (is (kind_of paren_l) y)) (not_is (kind_of paren_l) c.kind e) tt

-- THE READER, from its cursor c on
module _ (s rows : List ℕ) (c : Cursor) (parent left : ℕ) (a : Ready s rows c parent) where
  pub none_said : (c.kind ≡ kind_of paren_l → ⊥) → Went 0 s rows rows c c parent left arguments_stack
  none_said e =
      record {
        size = a.size;
        within = a.within;
        few = a.few;
        looks = a.looks;
        on = omega arith;
        goes = λ σ o q p f. no_arguments s c a.within a.looks rows c.rows o left q σ e;
      }

  module _ (e : c.kind ≡ kind_of paren_l) where
    pub deep_said : left ≡ 0 → Halts s rows c parent left arguments_stack (TooDeep c.start)
    deep_said z σ o q p f =
        opens s c a.within a.looks rows c.rows o left q σ e
        ∙ too_deep s c a.within a.looks rows c.rows o left q (nt Argument+ ∷ tm (the paren_r) ∷ σ) (the paren_l) paren_l e tt tt z

    opened_at : (left ≡ 0 → ⊥) → (σ : Stack) (o : List ℕ) (q : Counts) → over_counts q ≡ false →
        at s rows c o left q (nt Arguments? ∷ σ) ≡ go (st rows c.rows o c.end (left - 1) q) (nt Argument+ ∷ tm (the paren_r) ∷ σ) (from s c.end)
    opened_at z σ o q f =
        opens s c a.within a.looks rows c.rows o left q σ e
        ∙ opening s c a.within a.looks rows c.rows o left q (nt Argument+ ∷ tm (the paren_r) ∷ σ) (the paren_l) paren_l e tt tt (left - 1) (omega arith) a.few f

    pub bad_said : (left ≡ 0 → ⊥) → (r : Result Cursor Refusal) → r ≡ moved_to c.end c.rows (head_of (from s c.end)) → (x : Refusal) → r ≡ Err x → Halts s rows c parent left arguments_stack x
    bad_said z r m x y σ o q p f =
        opened_at z σ o q f ∙ moved_halts s c.end c.rows r x m y (st rows c.rows o c.end (left - 1) q) (nt Argument+ ∷ tm (the paren_r) ∷ σ)

    -- the loop: at each turn an argument is to be read
    pub turn_first : (left ≡ 0 → ⊥) → (d : Cursor) (r : Result Cursor Refusal) → r ≡ moved_to c.end c.rows (head_of (from s c.end)) → r ≡ Ok d →
        Passed 0 s rows rows c d parent left (left - 1) shut shut arguments_stack one_more
    turn_first z d r m y =
        let x = next s c d c.rows a.within a.looks r m y in
        let b = lies s c a.within a.looks in
        record {
          size = a.size;
          within = x.within;
          few = omega (arith, a.few, x.rows);
          looks = x.looks;
          on = omega (arith, x.stop);
          goes =
              λ σ o q p f.
              opened_at z σ o q f
              ∙ next_at s c d c.rows x rows o (left - 1) q (nt Argument+ ∷ tm (the paren_r) ∷ σ)
              ∙ first_argument s d x.within x.looks rows d.rows o (left - 1) q (tm (the paren_r) ∷ σ);
        }

-- one turn, from its cursor d on: α was to be read where the loop began
module _ (s rows rows₁ : List ℕ) (c d : Cursor) (parent left₀ left : ℕ) (α : Stack) (i : Passed 0 s rows rows₁ c d parent left₀ (left - 1) shut shut α one_more) where
  pub turn_ready : length s ≤ most_text → parent ≤ most_rows → Ready s rows₁ d parent
  turn_ready h p = record { short = h; size = i.size; within = i.within; few = i.few; looks = i.looks; below = p }

  -- with the argument read, or refused
  module _ (rows₂ : List ℕ) (r : Result Cursor Refusal) (v : Said 1 s rows₁ rows₂ d parent (left - 1) (entry_stack 6 false) r) where
    pub turn_stops : (x : Refusal) → r ≡ Err x → Halts s rows c parent left₀ α x
    turn_stops x e σ o q p f =
        i.goes σ o q p f ∙ said_halts 1 s rows₁ rows₂ d parent (left - 1) (entry_stack 6 false) r x v e (nt Argument* ∷ tm (the paren_r) ∷ σ) o q p f

    module _ (b : Cursor) (e : r ≡ Ok b) where
      pub turn_read : Went 1 s rows₁ rows₂ d b parent (left - 1) (entry_stack 6 false)
      turn_read = said_went 1 s rows₁ rows₂ d b parent (left - 1) (entry_stack 6 false) r v e

      read_at : (σ : Stack) (o : List ℕ) (q : Counts) → top o ≡ parent → over_counts q ≡ false →
          at s rows c o left₀ q (α ++ σ) ≡ at s rows₂ b o (left - 1) q (nt Argument* ∷ tm (the paren_r) ∷ σ)
      read_at σ o q p f = i.goes σ o q p f ∙ turn_read.goes (nt Argument* ∷ tm (the paren_r) ∷ σ) o q p f

      pub turn_more : (b.kind ≡ kind_of paren_r → ⊥) → Passed 0 s rows rows₂ c b parent left₀ (left - 1) shut shut α one_more
      turn_more z =
          record {
            size = turn_read.size;
            within = turn_read.within;
            few = turn_read.few;
            looks = turn_read.looks;
            on = omega (arith, i.on, turn_read.on);
            goes = λ σ o q p f. read_at σ o q p f ∙ next_argument s b turn_read.within turn_read.looks rows₂ b.rows o (left - 1) q σ z;
          }

-- they end, behind b
module _ (s rows rows₁ rows₂ : List ℕ) (c d b : Cursor) (parent left : ℕ) (i : Passed 0 s rows rows₁ c d parent left (left - 1) shut shut arguments_stack one_more) (r : Result Cursor Refusal) (v : Said 1 s rows₁ rows₂ d parent (left - 1) (entry_stack 6 false) r) (e : r ≡ Ok b) (z : left ≡ 0 → ⊥) (k : b.kind ≡ kind_of paren_r) where
  read : Went 1 s rows₁ rows₂ d b parent (left - 1) (entry_stack 6 false)
  read = said_went 1 s rows₁ rows₂ d b parent (left - 1) (entry_stack 6 false) r v e

  end_at : (σ : Stack) (o : List ℕ) (q : Counts) → top o ≡ parent → over_counts q ≡ false →
      at s rows c o left q (nt Arguments? ∷ σ) ≡ go (st rows₂ b.rows o b.end left q) σ (from s b.end)
  end_at σ o q p f =
      read_at s rows rows₁ c d parent left left arguments_stack i rows₂ r v b e σ o q p f
      ∙ closes_with s b read.within read.looks rows₂ b.rows o (left - 1) q σ k read.few f
      ∙ ap (λ (m : ℕ). go (st rows₂ b.rows o b.end m q) σ (from s b.end)) (omega arith)

  pub turn_ends : (t : Result Cursor Refusal) → t ≡ moved_to b.end b.rows (head_of (from s b.end)) → Said 0 s rows rows₂ c parent left arguments_stack t
  turn_ends t m =
      let l = lies s b read.within read.looks in
      moved_said 0 s rows rows₂ c parent left arguments_stack b.end b.rows read.size l.2 read.few (omega (arith, i.on, read.on)) end_at t m
