-- Laws of variables: the machine reads `$` and a name as the code does.
use mathlib.Core.Path.{◌≡◌, refl, sym, ap, ◌∙◌}
use mathlib.Core.Bool.{Bool, true, false, not}
use mathlib.Core.List.{List, [], ◌∷◌, Memᴰ}
use mathlib.Core.Logic.{◌≢◌}
use Prim.Native.Nat.{ℕ, ◌+◌, ◌-◌, ◌≤◌, ◌<◌}
use native.Mathlib.Omega.{arith}
use lib.ListN.{length}
use borrow.Author.Tests.{eq-eqb}
use Rattle.std.specs.Prelude.{Result, Ok, Err}
use Rattle.paper.specs.Grammar.{nt, tm, act}
use Rattle.paper.specs.Numbers.{most_rows, kind_variable}
use Rattle.paper.specs.Language.{the, any_name, row, kind, named, end, Value, ConstValue, Name, language, dollar, n_other}
use Rattle.paper.specs.Rows.{top}
use Rattle.paper.specs.Sizes.{Counts, over_counts}
use Rattle.paper.specs.declared.Refusal.{Refusal}
use Rattle.paper.specs.declared.Refusal.TheVariants.{TooManyRows}
use Rattle.paper.proofs.Lexing.{from}
use Rattle.paper.proofs.Machine.{choose}
use Rattle.paper.proofs.Tables.{factored}
use Rattle.paper.proofs.Going.{Stack, st, go}
use Rattle.text_scan.specs.Head.{kind_of}
use Rattle.text_cursor.specs.declared.Cursor.{Cursor}
use Rattle.text_cursor.specs.Reader.{Ready, at, Said, no_going_of}
use Rattle.text_cursor.proofs.ReaderLaws.{token_lies}
use Rattle.text_cursor.proofs.Steps.{is, not_is, first, refuse, plain, too_many_rows, refuses, refuses_end, front, Front, a_token, the_end}
use Rattle.text_cursor.proofs.Cells.{put, put_length, row_opens, name_told, row_ends}
use Rattle.text_leaves.specs.Stacks.{value_stack}
use Rattle.text_leaves.specs.Marks.{past, SaidVariable}
use Rattle.text_leaves.proofs.MovedLaws.{start_in_is, stop_in_is, Moved, moved_done, moved_halts, moved_said}

variable_in : Memᴰ (act row ∷ act (kind kind_variable 0) ∷ tm (the dollar) ∷ act named ∷ nt Name ∷ act end ∷ []) (factored Value)
unfolding factored language
variable_in = Memᴰ.head refl

pub name_in_is : Memᴰ (tm any_name ∷ []) (factored Name)
unfolding factored language
name_in_is = Memᴰ.head refl

module _ (s rows rows' : List ℕ) (c : Cursor) (parent : ℕ) (ready : Ready s rows c parent) (e : c.kind ≡ kind_of dollar) where
  -- the row before its name is known
  abbrev opened : List ℕ
  opened = put rows c.rows kind_variable c.start 0 parent 0 0 0

  opens : (σ : Stack) (o : List ℕ) (left : ℕ) (q : Counts) → top o ≡ parent →
      at s rows c o left q (nt Value ∷ σ) ≡ go (st opened (c.rows + 1) (c.rows ∷ o) c.stop left q) (tm (the dollar) ∷ act named ∷ nt Name ∷ act end ∷ σ) (from s c.stop)
  opens σ o left q p =
      first s c ready.within ready.looks rows c.rows o left q σ Value variable_in dollar e tt
      ∙ row_opens rows c.rows o c.stop left q (tm (the dollar) ∷ act named ∷ nt Name ∷ act end ∷ σ) (from s c.stop) kind_variable 0
      ∙ rw (start_in_is s c ready.looks, p) refl

  pub variable_full : c.rows ≡ most_rows → SaidVariable s rows rows c parent (Err (TooManyRows c.start))
  variable_full n left = λ σ o q p f.
      opens σ o left q p
      ∙ too_many_rows s c ready.within ready.looks opened (c.rows + 1) (c.rows ∷ o) left q (act named ∷ nt Name ∷ act end ∷ σ) (the dollar) dollar e tt tt (omega arith)

  module _ (room : c.rows ≢ most_rows) where
    few : c.rows < most_rows
    few = omega (arith, ready.few)

    -- past the `$`
    dollar_goes : (σ : Stack) (o : List ℕ) (left : ℕ) (q : Counts) → top o ≡ parent → over_counts q ≡ false →
        at s rows c o left q (nt Value ∷ σ) ≡ go (st opened (c.rows + 1) (c.rows ∷ o) c.end left q) (act named ∷ nt Name ∷ act end ∷ σ) (from s c.end)
    dollar_goes σ o left q p f =
        opens σ o left q p
        ∙ plain s c ready.within ready.looks opened (c.rows + 1) (c.rows ∷ o) left q (act named ∷ nt Name ∷ act end ∷ σ) (the dollar) dollar e tt tt (omega (arith, few)) f

    pub variable_bad : (r : Result Cursor Refusal) (x : Refusal) → r ≡ past s c (c.rows + 1) → r ≡ Err x → SaidVariable s rows rows c parent r
    variable_bad r x q p left = rw p (λ σ o y h f. dollar_goes σ o left y h f ∙ moved_halts s c.end (c.rows + 1) r x q p (st opened (c.rows + 1) (c.rows ∷ o) c.end left y) (act named ∷ nt Name ∷ act end ∷ σ))

    -- at the token that must be its name
    module _ (r : Result Cursor Refusal) (d : Cursor) (q : r ≡ past s c (c.rows + 1)) (p : r ≡ Ok d) where
      m : Moved s c.end (c.rows + 1) d
      m = moved_done s c.end (c.rows + 1) r d q p

      lies : (c.stop < c.end) × (c.end ≤ length s)
      lies = cases (front s c ready.within ready.looks)
        where
          cases : Front s c → (c.stop < c.end) × (c.end ≤ length s)
          cases (a_token k u v a b w) = (omega arith, w)
          cases (the_end u v a b) = let z : ⊥ = omega arith in absurd z

      pub name_within : d.stop ≤ length s
      name_within = rw m.stop lies.1

      pub name_lies : (d.stop ≤ d.start) × (d.start ≤ d.end) × (d.end ≤ length s)
      name_lies = token_lies s d.stop d.kind d.start d.end name_within m.looks

      name_opens : (σ : Stack) (o : List ℕ) (left : ℕ) (y : Counts) → top o ≡ parent → over_counts y ≡ false →
          at s rows c o left y (nt Value ∷ σ) ≡ go (st (put rows c.rows kind_variable c.start 0 parent d.start (d.end - d.start) 0) (c.rows + 1) (c.rows ∷ o) d.stop left y) (nt Name ∷ act end ∷ σ) (from s d.stop)
      name_opens σ o left y h f =
          dollar_goes σ o left y h f
          ∙ ap (λ (i : ℕ). go (st opened (c.rows + 1) (c.rows ∷ o) i left y) (act named ∷ nt Name ∷ act end ∷ σ) (from s i)) (sym m.stop)
          ∙ name_told rows (c.rows + 1) o d.stop left y (nt Name ∷ act end ∷ σ) (from s d.stop) c.rows kind_variable c.start 0 parent 0 0 0
          ∙ rw (start_in_is s d m.looks, stop_in_is s d m.looks) refl

      pub variable_no_name : d.kind ≢ kind_of n_other → SaidVariable s rows rows c parent (no_going_of d)
      unfolding refuses refuses_end choose factored language
      variable_no_name n left = λ σ o y h f.
          name_opens σ o left y h f
          ∙ refuse s d name_within m.looks (put rows c.rows kind_variable c.start 0 parent d.start (d.end - d.start) 0) (c.rows + 1) (c.rows ∷ o) left y (act end ∷ σ) Name (λ x. not (is (kind_of n_other) x)) (not_is (kind_of n_other) d.kind n) tt tt

      -- with its name
      abbrev whole : List ℕ
      whole = put rows c.rows kind_variable c.start d.end parent d.start (d.end - d.start) 0

      pub variable_said : d.kind ≡ kind_of n_other → rows' ≡ whole → (r' : Result Cursor Refusal) → r' ≡ past s d (c.rows + 1) → SaidVariable s rows rows' c parent r'
      variable_said n u r' v left =
          moved_said 1 s rows rows' c parent left (nt Value ∷ []) d.end (c.rows + 1)
          (rw u (put_length rows c.rows kind_variable c.start d.end parent d.start (d.end - d.start) 0 ∙ ready.size)) name_lies.2 (omega (arith, few)) (omega (arith, lies.0, name_lies, m.stop))
          (λ σ o y h f.
          name_opens σ o left y h f
          ∙ first s d name_within m.looks (put rows c.rows kind_variable c.start 0 parent d.start (d.end - d.start) 0) (c.rows + 1) (c.rows ∷ o) left y (act end ∷ σ) Name name_in_is n_other n tt
          ∙ plain s d name_within m.looks (put rows c.rows kind_variable c.start 0 parent d.start (d.end - d.start) 0) (c.rows + 1) (c.rows ∷ o) left y (act end ∷ σ) any_name n_other n tt tt (omega (arith, few)) f
          ∙ row_ends rows (c.rows + 1) o d.end left y σ (from s d.end) c.rows kind_variable c.start 0 parent d.start (d.end - d.start) 0
          ∙ rw u refl)
          r' v

-- in a constant value
pub no_variable : (s rows : List ℕ) (c : Cursor) (parent left : ℕ) (b : Bool) → Ready s rows c parent → c.kind ≡ kind_of dollar → b ≡ true → Said 1 s rows rows c parent left (value_stack b) (no_going_of c)
unfolding refuses refuses_end choose factored language
no_variable s rows c parent left b ready e k = rw k (λ σ o q h f. refuse s c ready.within ready.looks rows c.rows o left q σ ConstValue (is (kind_of dollar)) (rw (eq-eqb c.kind (kind_of dollar) e) tt) tt tt)
