-- A type condition on the machine: each way in which its reader goes on or ends.
use mathlib.Core.Path.{◌≡◌, refl, sym, ap, ◌∙◌}
use mathlib.Core.Bool.{false, not}
use mathlib.Core.List.Memᴰ
use mathlib.Core.List.{List, ◌∷◌}
use Prim.Native.Nat.{ℕ, ◌+◌, ◌-◌}
use native.Mathlib.Omega.{arith}
use lib.ListN.{length}
use Rattle.std.specs.Prelude.{Result, Ok, Err}
use Rattle.paper.specs.Grammar.{nt, act}
use Rattle.paper.specs.Numbers.{most_rows}
use Rattle.paper.specs.Rows.{top}
use Rattle.paper.specs.Sizes.{Counts, over_counts}
use Rattle.paper.specs.declared.Refusal.{Refusal}
use Rattle.paper.specs.declared.Refusal.TheVariants.{NoGoing, TooManyRows}
use Rattle.paper.proofs.Lexing.{from}
use Rattle.paper.proofs.Machine.{choose}
use Rattle.paper.proofs.Tables.{factored}
use Rattle.paper.proofs.Going.{Stack, st, go}
use Rattle.text_scan.specs.Head.{head_of, kind_of}
use Rattle.text_cursor.specs.declared.Cursor.{Cursor}
use Rattle.text_cursor.specs.Reader.{moved_to, at, Ready, Halts, Said}
use Rattle.paper.specs.Language.{language, the, any_name, n_on, row, kind, end, Name, NamedType, TypeCondition, n_other}
use Rattle.text_cursor.proofs.Steps.{first, refuse, too_many_rows, is, not_is, refuses, refuses_end}
use Rattle.text_cursor.proofs.Cells.{put, put_length, row_ends}
use Rattle.text_arguments.specs.Arguments.{AtOn, condition_stack}
use Rattle.text_leaves.proofs.MovedLaws.{moved_halts, moved_said}
use Rattle.text_arguments.proofs.Onward.{Next, lies, has_bytes, next, next_at, name_taken, opened_row, named_row}
use Rattle.text_arguments.proofs.Words.{is_on, on_is, word_first, word_taken}

-- at its `on`; its row is n
module _ (s rows : List ℕ) (c : Cursor) (parent left : ℕ) (a : Ready s rows c parent) (e : AtOn s c) where
  past_on : (σ : Stack) (o : List ℕ) (q : Counts) → over_counts q ≡ false →
      at s rows c o left q (nt TypeCondition ∷ σ) ≡ go (st rows c.rows o c.end left q) (act row ∷ act (kind 9 0) ∷ nt NamedType ∷ act end ∷ σ) (from s c.end)
  unfolding factored language
  past_on σ o q f =
      word_first s c a.within a.looks e.0 rows c.rows o left q σ TypeCondition (Memᴰ.head refl) is_on (on_is s c e) tt
      ∙ word_taken s c a.within a.looks e.0 rows c.rows o left q (act row ∷ act (kind 9 0) ∷ nt NamedType ∷ act end ∷ σ) (the n_on) is_on (on_is s c e) tt a.few f

  module _ (r : Result Cursor Refusal) (m : r ≡ moved_to c.end c.rows (head_of (from s c.end))) where
    pub condition_bad : (x : Refusal) → r ≡ Err x → Halts s rows c parent left condition_stack x
    condition_bad x y σ o q p f =
        past_on σ o q f ∙ moved_halts s c.end c.rows r x m y (st rows c.rows o c.end left q) (act row ∷ act (kind 9 0) ∷ nt NamedType ∷ act end ∷ σ)

    module _ (name : Cursor) (y : r ≡ Ok name) where
      pub condition_name : Next s c name c.rows
      condition_name = next s c name c.rows a.within a.looks r m y

      abbrev begun : List ℕ
      begun = put rows name.rows 9 name.start 0 parent 0 0 0

      to_name : (σ : Stack) (o : List ℕ) (q : Counts) → top o ≡ parent → over_counts q ≡ false →
          at s rows c o left q (nt TypeCondition ∷ σ) ≡ go (st begun (name.rows + 1) (name.rows ∷ o) name.stop left q) (nt NamedType ∷ act end ∷ σ) (from s name.stop)
      to_name σ o q p f =
          past_on σ o q f
          ∙ next_at s c name c.rows condition_name rows o left q (act row ∷ act (kind 9 0) ∷ nt NamedType ∷ act end ∷ σ)
          ∙ opened_row s name condition_name.looks rows name.rows o parent left q (nt NamedType ∷ act end ∷ σ) 9 0 p

      pub condition_nameless : (name.kind ≡ kind_of n_other → ⊥) → Halts s rows c parent left condition_stack (NoGoing name.start)
      unfolding factored language choose refuses refuses_end
      condition_nameless k σ o q p f =
          to_name σ o q p f
          ∙ refuse s name condition_name.within condition_name.looks begun (name.rows + 1) (name.rows ∷ o) left q (act end ∷ σ) NamedType (λ (x : ℕ). not (is (kind_of n_other) x)) (not_is (kind_of n_other) name.kind k) tt tt

      module _ (k : name.kind ≡ kind_of n_other) where
        abbrev told : List ℕ
        told = put rows name.rows 9 name.start 0 parent name.start (name.end - name.start) 0

        told_at : (σ : Stack) (o : List ℕ) (q : Counts) → top o ≡ parent → over_counts q ≡ false →
            at s rows c o left q (nt TypeCondition ∷ σ) ≡ go (st told (name.rows + 1) (name.rows ∷ o) name.stop left q) (nt Name ∷ act end ∷ σ) (from s name.stop)
        unfolding factored language
        told_at σ o q p f =
            to_name σ o q p f
            ∙ first s name condition_name.within condition_name.looks begun (name.rows + 1) (name.rows ∷ o) left q (act end ∷ σ) NamedType (Memᴰ.head refl) n_other k tt
            ∙ named_row s name condition_name.looks rows (name.rows + 1) o left q (nt Name ∷ act end ∷ σ) name.rows 9 name.start 0 parent 0 0 0

        pub condition_full : c.rows ≡ most_rows → Halts s rows c parent left condition_stack (TooManyRows name.start)
        unfolding factored language
        condition_full z σ o q p f =
            told_at σ o q p f
            ∙ first s name condition_name.within condition_name.looks told (name.rows + 1) (name.rows ∷ o) left q (act end ∷ σ) Name (Memᴰ.head refl) n_other k tt
            ∙ too_many_rows s name condition_name.within condition_name.looks told (name.rows + 1) (name.rows ∷ o) left q (act end ∷ σ) any_name n_other k tt tt (omega (arith, condition_name.rows))

        -- with its row written
        module _ (z : c.rows ≡ most_rows → ⊥) (rows₁ : List ℕ) (w : rows₁ ≡ put rows c.rows 9 name.start name.end parent name.start (name.end - name.start) 0) where
          past_name : (σ : Stack) (o : List ℕ) (q : Counts) → top o ≡ parent → over_counts q ≡ false →
              at s rows c o left q (nt TypeCondition ∷ σ) ≡ go (st rows₁ (c.rows + 1) o name.end left q) σ (from s name.end)
          past_name σ o q p f =
              told_at σ o q p f
              ∙ name_taken s name condition_name.within condition_name.looks told (name.rows + 1) (name.rows ∷ o) left q (act end ∷ σ) k (omega (arith, condition_name.rows, z, a.few)) f
              ∙ row_ends rows (name.rows + 1) o name.end left q σ (from s name.end) name.rows 9 name.start 0 parent name.start (name.end - name.start) 0
              ∙ ap (λ (v : ℕ). go (st (put rows v 9 name.start name.end parent name.start (name.end - name.start) 0) (v + 1) o name.end left q) σ (from s name.end)) condition_name.rows
              ∙ ap (λ (v : List ℕ). go (st v (c.rows + 1) o name.end left q) σ (from s name.end)) (sym w)

          pub condition_said : (t : Result Cursor Refusal) → t ≡ moved_to name.end (c.rows + 1) (head_of (from s name.end)) → Said 1 s rows rows₁ c parent left condition_stack t
          condition_said t m' =
              let b = lies s c a.within a.looks in
              let b' = lies s name condition_name.within condition_name.looks in
              moved_said 1 s rows rows₁ c parent left condition_stack name.end (c.rows + 1)
              (ap length w ∙ put_length rows c.rows 9 name.start name.end parent name.start (name.end - name.start) 0 ∙ a.size)
              b'.2
              (omega (arith, z, a.few))
              (omega (arith, has_bytes s c a.within a.looks n_other e.0, condition_name.stop))
              past_name
              t
              m'
