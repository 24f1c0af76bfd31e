-- Directives on the machine: each way in which their readers go on or end.
use mathlib.Core.Path.{◌≡◌, refl, sym, ap, ◌∙◌}
use mathlib.Core.Bool.{false, not}
use mathlib.Core.List.Memᴰ
use mathlib.Core.List.{List, [], ◌∷◌}
use mathlib.Core.Logic.{◌⊎◌, inl, inr}
use Prim.Native.Nat.{ℕ, ◌+◌, ◌-◌, ◌*◌, ◌≤◌, ◌<◌}
use native.Mathlib.Omega.{arith}
use lib.ListN.{length, set, length-set}
use Rattle.std.specs.Prelude.{Result, Ok, Err}
use Rattle.paper.specs.Grammar.{nt, tm, act}
use Rattle.paper.specs.Numbers.{most_text, most_rows, rows_size}
use Rattle.paper.specs.Rows.{top}
use Rattle.paper.specs.Sizes.{Counts, over_counts}
use Rattle.paper.specs.declared.Refusal.{Refusal}
use Rattle.paper.specs.declared.Refusal.TheVariants.{NoGoing, TooManyRows}
use Rattle.paper.proofs.Lexing.{from}
use Rattle.paper.proofs.Machine.{choose}
use Rattle.paper.proofs.Tables.{factored}
use Rattle.paper.proofs.Going.{Stack, st, Out, go}
use Rattle.text_scan.specs.Head.{head_of, kind_of}
use Rattle.text_cursor.specs.declared.Cursor.{Cursor}
use Rattle.text_cursor.specs.Reader.{Looks, moved_to, at, Ready, Went, Halts, Said}
use Rattle.paper.specs.Language.{language, the, at_sign, named, end, Name, Arguments?, Directives?, Directives, Directive+, Directive*, Directive, n_other, paren_l}
use Rattle.text_cursor.proofs.Steps.{first, null, plain, too_many_rows, is, not_is}
use Rattle.text_cursor.proofs.Cells.{put, put_length, ends_row}
use Rattle.text_arguments.specs.Arguments.{arguments_stack, directive_stack, directives_stack}
use Rattle.text_leaves.proofs.MovedLaws.{moved_halts}
use Rattle.text_arguments.specs.Passed.{Passed, shut}
use Rattle.text_arguments.proofs.ArgumentsLaws.{none_said}
use Rattle.text_arguments.proofs.Onward.{Next, lies, has_bytes, next, next_at, name_taken, name_lacks, same, said_went, said_halts, opened_row, named_row}

-- ONE DIRECTIVE, at its @, whose row is n
module _ (s rows : List ℕ) (c : Cursor) (parent left : ℕ) (a : Ready s rows c parent) (e : c.kind ≡ kind_of at_sign) where
  abbrev rest : Stack → Stack
  rest σ = nt Arguments? ∷ act end ∷ σ

  begins : (σ : Stack) (o : List ℕ) (q : Counts) → top o ≡ parent →
      at s rows c o left q (nt Directive ∷ σ)
      ≡ go (st (put rows c.rows 7 c.start 0 parent 0 0 0) (c.rows + 1) (c.rows ∷ o) c.stop left q) (tm (the at_sign) ∷ act named ∷ nt Name ∷ rest σ) (from s c.stop)
  unfolding factored language
  begins σ o q p =
      first s c a.within a.looks rows c.rows o left q σ Directive (Memᴰ.head refl) at_sign e tt
      ∙ opened_row s c a.looks rows c.rows o parent left q (tm (the at_sign) ∷ act named ∷ nt Name ∷ rest σ) 7 0 p

  pub directive_full : c.rows ≡ most_rows → Halts s rows c parent left directive_stack (TooManyRows c.start)
  directive_full z σ o q p f =
      begins σ o q p
      ∙ too_many_rows s c a.within a.looks (put rows c.rows 7 c.start 0 parent 0 0 0) (c.rows + 1) (c.rows ∷ o) left q (act named ∷ nt Name ∷ rest σ) (the at_sign) at_sign e tt tt (omega arith)

  module _ (z : c.rows ≡ most_rows → ⊥) where
    pub directive_room : c.rows < most_rows
    directive_room = omega (arith, a.few, z)

    at_sign_is : (σ : Stack) (o : List ℕ) (q : Counts) → top o ≡ parent → over_counts q ≡ false →
        at s rows c o left q (nt Directive ∷ σ)
        ≡ go (st (put rows c.rows 7 c.start 0 parent 0 0 0) (c.rows + 1) (c.rows ∷ o) c.end left q) (act named ∷ nt Name ∷ rest σ) (from s c.end)
    at_sign_is σ o q p f =
        begins σ o q p
        ∙ plain s c a.within a.looks (put rows c.rows 7 c.start 0 parent 0 0 0) (c.rows + 1) (c.rows ∷ o) left q (act named ∷ nt Name ∷ rest σ) (the at_sign) at_sign e tt tt (omega (arith, directive_room)) f

    -- what stands behind the @
    module _ (r : Result Cursor Refusal) (m : r ≡ moved_to c.end (c.rows + 1) (head_of (from s c.end))) where
      pub directive_bad : (x : Refusal) → r ≡ Err x → Halts s rows c parent left directive_stack x
      directive_bad x y σ o q p f =
          at_sign_is σ o q p f
          ∙ moved_halts s c.end (c.rows + 1) r x m y (st (put rows c.rows 7 c.start 0 parent 0 0 0) (c.rows + 1) (c.rows ∷ o) c.end left q) (act named ∷ nt Name ∷ rest σ)

      module _ (name : Cursor) (y : r ≡ Ok name) where
        pub directive_name : Next s c name (c.rows + 1)
        directive_name = next s c name (c.rows + 1) a.within a.looks r m y

        to_name : (σ : Stack) (o : List ℕ) (q : Counts) → top o ≡ parent → over_counts q ≡ false →
            at s rows c o left q (nt Directive ∷ σ) ≡ at s (put rows c.rows 7 c.start 0 parent name.start (name.end - name.start) 0) name (c.rows ∷ o) left q (nt Name ∷ rest σ)
        to_name σ o q p f =
            at_sign_is σ o q p f
            ∙ next_at s c name (c.rows + 1) directive_name (put rows c.rows 7 c.start 0 parent 0 0 0) (c.rows ∷ o) left q (act named ∷ nt Name ∷ rest σ)
            ∙ named_row s name directive_name.looks rows name.rows o left q (nt Name ∷ rest σ) c.rows 7 c.start 0 parent 0 0 0

        pub directive_nameless : (name.kind ≡ kind_of n_other → ⊥) → Halts s rows c parent left directive_stack (NoGoing name.start)
        directive_nameless k σ o q p f = to_name σ o q p f ∙ name_lacks s name directive_name.within directive_name.looks _ name.rows (c.rows ∷ o) left q (rest σ) k

        -- with its row written
        module _ (k : name.kind ≡ kind_of n_other) (rows₁ : List ℕ) (w : rows₁ ≡ put rows c.rows 7 c.start 0 parent name.start (name.end - name.start) 0) where
          pub directive_size : length rows₁ ≡ rows_size
          directive_size = ap length w ∙ put_length rows c.rows 7 c.start 0 parent name.start (name.end - name.start) 0 ∙ a.size

          past_name : (σ : Stack) (o : List ℕ) (q : Counts) → top o ≡ parent → over_counts q ≡ false →
              at s rows c o left q (nt Directive ∷ σ) ≡ go (st rows₁ (c.rows + 1) (c.rows ∷ o) name.end left q) (rest σ) (from s name.end)
          past_name σ o q p f =
              to_name σ o q p f
              ∙ name_taken s name directive_name.within directive_name.looks (put rows c.rows 7 c.start 0 parent name.start (name.end - name.start) 0) name.rows (c.rows ∷ o) left q (rest σ) k
              (omega (arith, directive_room, directive_name.rows)) f
              ∙ ap (λ (v : List ℕ). go (st v name.rows (c.rows ∷ o) name.end left q) (rest σ) (from s name.end)) (sym w)
              ∙ ap (λ (v : ℕ). go (st rows₁ v (c.rows ∷ o) name.end left q) (rest σ) (from s name.end)) directive_name.rows

          module _ (t : Result Cursor Refusal) (m' : t ≡ moved_to name.end (c.rows + 1) (head_of (from s name.end))) where
            pub directive_bad_behind : (x : Refusal) → t ≡ Err x → Halts s rows c parent left directive_stack x
            directive_bad_behind x y' σ o q p f =
                past_name σ o q p f ∙ moved_halts s name.end (c.rows + 1) t x m' y' (st rows₁ (c.rows + 1) (c.rows ∷ o) name.end left q) (rest σ)

            module _ (b : Cursor) (y' : t ≡ Ok b) where
              behind : Next s name b (c.rows + 1)
              behind = next s name b (c.rows + 1) directive_name.within directive_name.looks t m' y'

              pub directive_ready : Ready s rows₁ b c.rows
              directive_ready =
                  record {
                    short = a.short;
                    size = directive_size;
                    within = behind.within;
                    few = omega (arith, behind.rows, directive_room);
                    looks = behind.looks;
                    below = a.few;
                  }

              to_arguments : (σ : Stack) (o : List ℕ) (q : Counts) → top o ≡ parent → over_counts q ≡ false → at s rows c o left q (nt Directive ∷ σ) ≡ at s rows₁ b (c.rows ∷ o) left q (rest σ)
              to_arguments σ o q p f = past_name σ o q p f ∙ next_at s name b (c.rows + 1) behind rows₁ (c.rows ∷ o) left q (rest σ)

              -- with its arguments read
              module _ (rows₂ : List ℕ) (u : Result Cursor Refusal) (v : Said 0 s rows₁ rows₂ b c.rows left arguments_stack u) where
                pub directive_stops : (x : Refusal) → u ≡ Err x → Halts s rows c parent left directive_stack x
                directive_stops x i σ o q p f = to_arguments σ o q p f ∙ said_halts 0 s rows₁ rows₂ b c.rows left arguments_stack u x v i (act end ∷ σ) (c.rows ∷ o) q refl f

                module _ (d : Cursor) (i : u ≡ Ok d) where
                  pub directive_read : Went 0 s rows₁ rows₂ b d c.rows left arguments_stack
                  directive_read = said_went 0 s rows₁ rows₂ b d c.rows left arguments_stack u v i

                  pub directive_ends : (rows₃ : List ℕ) → rows₃ ≡ set rows₂ (7 * c.rows + 2) d.stop → Went 1 s rows rows₃ c d parent left directive_stack
                  directive_ends rows₃ j =
                      let x = lies s c a.within a.looks in
                      let x' = lies s name directive_name.within directive_name.looks in
                      record {
                        size = ap length j ∙ length-set rows₂ (7 * c.rows + 2) d.stop ∙ directive_read.size;
                        within = directive_read.within;
                        few = directive_read.few;
                        looks = directive_read.looks;
                        on = omega (arith, has_bytes s c a.within a.looks at_sign e, directive_name.stop, behind.stop, directive_read.on);
                        goes =
                            λ σ o q p f.
                            to_arguments σ o q p f
                            ∙ directive_read.goes (act end ∷ σ) (c.rows ∷ o) q refl f
                            ∙ ends_row rows₂ d.rows o d.stop left q σ (from s d.stop) c.rows
                            ∙ ap (λ (v : List ℕ). at s v d o left q σ) (sym j);
                      }

              -- without arguments
              pub directive_bare : (b.kind ≡ kind_of paren_l → ⊥) → (rows₃ : List ℕ) → rows₃ ≡ set rows₁ (7 * c.rows + 2) b.stop → Went 1 s rows rows₃ c b parent left directive_stack
              directive_bare i = directive_ends rows₁ (Ok b) (none_said s rows₁ b c.rows left directive_ready i) b refl

-- DIRECTIVES, OR NONE
module _ (s : List ℕ) (c : Cursor) (h : c.stop ≤ length s) (l : Looks s c) (cells : List ℕ) (n : ℕ) (o : List ℕ) (left : ℕ) (q : Counts) where
  abbrev here : Stack → Out
  here τ = go (st cells n o c.stop left q) τ (from s c.stop)

  one_more : (σ : Stack) → c.kind ≡ kind_of at_sign → here (nt Directive* ∷ σ) ≡ here (nt Directive ∷ nt Directive* ∷ σ)
  unfolding factored language
  one_more σ e = first s c h l cells n o left q σ Directive* (Memᴰ.tail (Memᴰ.head refl)) at_sign e tt

  no_more : (σ : Stack) → (c.kind ≡ kind_of at_sign → ⊥) → here (nt Directive* ∷ σ) ≡ here σ
  unfolding factored language choose
  no_more σ e = null s c h l cells n o left q σ Directive* (Memᴰ.head refl) tt refl (λ (y : ℕ). not (is (kind_of at_sign) y)) (not_is (kind_of at_sign) c.kind e) tt

  some_or_none : (σ : Stack) → here (nt Directives? ∷ σ) ≡ here (nt Directive* ∷ σ)
  unfolding factored language choose
  some_or_none σ = by_sign (same c.kind (kind_of at_sign))
    where
      by_sign : (c.kind ≡ kind_of at_sign) ⊎ (c.kind ≡ kind_of at_sign → ⊥) → here (nt Directives? ∷ σ) ≡ here (nt Directive* ∷ σ)
      by_sign (inl e) =
          first s c h l cells n o left q σ Directives? (Memᴰ.tail (Memᴰ.head refl)) at_sign e tt
          ∙ first s c h l cells n o left q σ Directives (Memᴰ.head refl) at_sign e tt
          ∙ first s c h l cells n o left q σ Directive+ (Memᴰ.head refl) at_sign e tt
          ∙ sym (one_more σ e)
      by_sign (inr e) = null s c h l cells n o left q σ Directives? (Memᴰ.head refl) tt refl (λ (y : ℕ). not (is (kind_of at_sign) y)) (not_is (kind_of at_sign) c.kind e) tt ∙ sym (no_more σ e)

-- the loop: at each turn one more is to be read, or none
abbrev pub some_more : Stack
some_more = nt Directive* ∷ []

pub turn_first : (s rows : List ℕ) (c : Cursor) (parent left : ℕ) → Ready s rows c parent → Passed 0 s rows rows c c parent left left shut shut directives_stack some_more
turn_first s rows c parent left a =
    record { size = a.size; within = a.within; few = a.few; looks = a.looks; on = omega arith; goes = λ σ o q p f. some_or_none s c a.within a.looks rows c.rows o left q σ }

module _ (s rows rows₁ : List ℕ) (c d : Cursor) (parent left : ℕ) (i : Passed 0 s rows rows₁ c d parent left left shut shut directives_stack some_more) where
  pub turn_ready : length s ≤ most_text → parent ≤ most_rows → Ready s rows₁ d parent
  turn_ready h p = record { short = h; size = i.size; within = i.within; few = i.few; looks = i.looks; below = p }

  pub turn_ends : (d.kind ≡ kind_of at_sign → ⊥) → Went 0 s rows rows₁ c d parent left directives_stack
  turn_ends e =
      record {
        size = i.size;
        within = i.within;
        few = i.few;
        looks = i.looks;
        on = i.on;
        goes = λ σ o q p f. i.goes σ o q p f ∙ no_more s d i.within i.looks rows₁ d.rows o left q σ e;
      }

  module _ (e : d.kind ≡ kind_of at_sign) (rows₂ : List ℕ) (r : Result Cursor Refusal) (v : Said 1 s rows₁ rows₂ d parent left directive_stack r) where
    to_directive : (σ : Stack) (o : List ℕ) (q : Counts) → top o ≡ parent → over_counts q ≡ false → at s rows c o left q (nt Directives? ∷ σ) ≡ at s rows₁ d o left q (nt Directive ∷ nt Directive* ∷ σ)
    to_directive σ o q p f = i.goes σ o q p f ∙ one_more s d i.within i.looks rows₁ d.rows o left q σ e

    pub turn_stops : (x : Refusal) → r ≡ Err x → Halts s rows c parent left directives_stack x
    turn_stops x y σ o q p f = to_directive σ o q p f ∙ said_halts 1 s rows₁ rows₂ d parent left directive_stack r x v y (nt Directive* ∷ σ) o q p f

    module _ (next' : Cursor) (y : r ≡ Ok next') where
      pub turn_read : Went 1 s rows₁ rows₂ d next' parent left directive_stack
      turn_read = said_went 1 s rows₁ rows₂ d next' parent left directive_stack r v y

      pub turn_more : Passed 0 s rows rows₂ c next' parent left left shut shut directives_stack some_more
      turn_more =
          record {
            size = turn_read.size;
            within = turn_read.within;
            few = turn_read.few;
            looks = turn_read.looks;
            on = omega (arith, i.on, turn_read.on);
            goes = λ σ o q p f. to_directive σ o q p f ∙ turn_read.goes (nt Directive* ∷ σ) o q p f;
          }

-- no directive, where no @ stands
pub no_directives : (s rows : List ℕ) (c : Cursor) (parent left : ℕ) → Ready s rows c parent → (c.kind ≡ kind_of at_sign → ⊥) → Went 0 s rows rows c c parent left directives_stack
no_directives s rows c parent left a = turn_ends s rows rows c c parent left (turn_first s rows c parent left a)
