-- A variable definition.
use mathlib.Core.Path.{◌≡◌, refl, ap, ◌∙◌}
use mathlib.Core.Bool.{false, not}
use mathlib.Core.List.Memᴰ
use mathlib.Core.List.{List, [], ◌∷◌, ◌++◌}
use Prim.Native.Nat.{ℕ, ◌+◌, ◌*◌, ◌≤◌}
use native.Mathlib.Omega.{arith}
use lib.ListN.{length, set, length-set}
use Rattle.std.specs.Prelude.{Result, Ok, Err}
use Rattle.paper.specs.Grammar.{nt, tm, act}
use Rattle.paper.specs.Numbers.{most_text, most_rows, most_variables, kind_variable_definition}
use Rattle.paper.specs.Language.{language, the, dollar, colon, named, end, Name, VariableDefinition, DefaultValue?}
use Rattle.paper.specs.Rows.{top}
use Rattle.paper.specs.Sizes.{Counts, kinded, over_counts}
use Rattle.paper.specs.declared.Refusal.{Refusal}
use Rattle.paper.specs.declared.Refusal.TheVariants.{TooManyRows, TooMany}
use Rattle.paper.proofs.Lexing.{from}
use Rattle.paper.proofs.Machine.{choose}
use Rattle.paper.proofs.Tables.{factored}
use Rattle.paper.proofs.Going.{Stack, st, go}
use Rattle.text_scan.specs.Head.{kind_of}
use Rattle.text_cursor.specs.Reader.{Ready, at, no_going_of, Said}
use Rattle.text_cursor.specs.declared.Cursor.{Cursor}
use Rattle.text_cursor.proofs.Steps.{is, not_is, first, refuse, refuses, refuses_end, too_many_rows, too_many}
use Rattle.text_cursor.proofs.Cells.{put, row_opens, ends_row}
use Rattle.text_references.specs.Types.{wrapped_by, type_stack, TypeWent, TypeSaid}
use Rattle.text_references.proofs.CountsLaws.{fine_parts, wrapped_fine}
use Rattle.text_references.proofs.MovedLaws.{start_in_is}
use Rattle.text_variables.specs.Counted.{Counted, CountedHalts, CountedSaid, stays, opens, variables_are}
use Rattle.text_variables.specs.Variables.{one_variable_more, variable_begun, variables_become, head_stack}
use Rattle.text_variables.proofs.CountedLaws.{variable_fine, variable_over, said_went, said_halts, counted_halts}

abbrev definition_stack : Stack
definition_stack = nt VariableDefinition ∷ []

-- what follows the type in a variable definition
abbrev default_end : Stack → Stack
default_end σ = nt DefaultValue? ∷ act end ∷ σ

module _ (s rows : List ℕ) (c : Cursor) (parent left before : ℕ) (g : Ready s rows c parent) where
  pub variable_none : (rows' : List ℕ) → (c.kind ≡ kind_of dollar → ⊥) → (r : Result Cursor Refusal) → r ≡ no_going_of c → CountedSaid 1 s rows rows' c parent left definition_stack stays (variables_are before) (variables_become (before + 1)) r
  unfolding factored language choose refuses refuses_end
  variable_none rows' h r e = rw e (λ σ o q t f k. refuse s c g.within g.looks rows c.rows o left q σ VariableDefinition (λ y. not (is (kind_of dollar) y)) (not_is (kind_of dollar) c.kind h) tt tt)

  module _ (h : c.kind ≡ kind_of dollar) where
    variable_first : (σ : Stack) (o : List ℕ) (q : Counts) → at s rows c o left q (definition_stack ++ σ) ≡ at s rows c o left q (head_stack ++ (type_stack ++ default_end σ))
    unfolding factored language
    variable_first σ o q = first s c g.within g.looks rows c.rows o left q σ VariableDefinition {α = head_stack ++ (type_stack ++ default_end [])} (Memᴰ.head refl) dollar h tt

    variable_row : (σ : Stack) (o : List ℕ) (q : Counts) → top o ≡ parent →
        at s rows c o left q (definition_stack ++ σ)
        ≡ go (st (put rows c.rows kind_variable_definition c.start 0 parent 0 0 0) (c.rows + 1) (c.rows ∷ o) c.stop left (kinded kind_variable_definition q))
        (tm (the dollar) ∷ act named ∷ nt Name ∷ tm (the colon) ∷ (type_stack ++ default_end σ)) (from s c.stop)
    variable_row σ o q t =
        variable_first σ o q
        ∙ row_opens rows c.rows o c.stop left q (tm (the dollar) ∷ act named ∷ nt Name ∷ tm (the colon) ∷ (type_stack ++ default_end σ)) (from s c.stop) kind_variable_definition 0
        ∙ rw (start_in_is s c g.looks, t) refl

    pub variable_full : c.rows ≡ most_rows → CountedHalts s rows c parent left definition_stack (variables_are before) (TooManyRows c.start)
    variable_full k σ o q t f m =
        variable_row σ o q t
        ∙ too_many_rows s c g.within g.looks (put rows c.rows kind_variable_definition c.start 0 parent 0 0 0) (c.rows + 1) (c.rows ∷ o) left (kinded kind_variable_definition q)
        (act named ∷ nt Name ∷ tm (the colon) ∷ (type_stack ++ default_end σ)) (the dollar) dollar h tt tt (omega arith)

    module _ (room : c.rows ≡ most_rows → ⊥) where
      pub variable_many : before ≡ most_variables → CountedHalts s rows c parent left definition_stack (variables_are before) (TooMany c.start)
      variable_many k σ o q t f m =
          variable_row σ o q t
          ∙ too_many s c g.within g.looks (put rows c.rows kind_variable_definition c.start 0 parent 0 0 0) (c.rows + 1) (c.rows ∷ o) left (kinded kind_variable_definition q)
          (act named ∷ nt Name ∷ tm (the colon) ∷ (type_stack ++ default_end σ)) (the dollar) dollar h tt tt (omega (arith, g.few, room)) (variable_over q f (omega arith))

      module _ (k : before ≡ most_variables → ⊥) where
        one_more : (q : Counts) → over_counts q ≡ false → variables_are before q → one_variable_more q
        one_more q f m = let p = fine_parts q f in omega (arith, p.1, k)

        pub variable_stop : (rows₁ rows' : List ℕ) (r : Result Cursor Refusal) → CountedSaid 1 s rows rows₁ c parent left head_stack (opens c.rows) one_variable_more variable_begun r → (x : Refusal) → r ≡ Err x →
            CountedSaid 1 s rows rows' c parent left definition_stack stays (variables_are before) (variables_become (before + 1)) r
        variable_stop rows₁ rows' r w x e =
            rw e (λ σ o q t f m. variable_first σ o q
            ∙ counted_halts 1 s rows rows₁ c parent left head_stack r (opens c.rows) one_variable_more variable_begun w x e (type_stack ++ default_end σ) o q t f (one_more q f m))

        module _ (rows₁ : List ℕ) (a : Cursor) (w : Counted 1 s rows rows₁ c a parent left head_stack (opens c.rows) one_variable_more variable_begun) where
          -- the head is read: a variable definition is counted, and it has no wrapper
          headed : (σ : Stack) (o : List ℕ) (q : Counts) → top o ≡ parent → over_counts q ≡ false → variables_are before q →
              at s rows c o left q (definition_stack ++ σ) ≡ at s rows₁ a (c.rows ∷ o) left (wrapped_by 0 (kinded kind_variable_definition q)) (type_stack ++ default_end σ)
          headed σ o q t f m =
              let y = w.goes (type_stack ++ default_end σ) o q t f (one_more q f m) in
              variable_first σ o q ∙ y.3 ∙ ap (λ (q' : Counts). at s rows₁ a (c.rows ∷ o) left q' (type_stack ++ default_end σ)) y.2

          pub variable_stop_2 : (rows₂ rows' : List ℕ) (r : Result Cursor Refusal) → TypeSaid s rows₁ rows₂ a c.rows left r → (x : Refusal) → r ≡ Err x →
              CountedSaid 1 s rows rows' c parent left definition_stack stays (variables_are before) (variables_become (before + 1)) r
          variable_stop_2 rows₂ rows' r u x e =
              rw e (λ σ o q t f m. headed σ o q t f m
              ∙ (rw e at u) (default_end σ) (c.rows ∷ o) (kinded kind_variable_definition q) refl (variable_fine q f (one_more q f m)))

          module _ (rows₂ : List ℕ) (b : Cursor) (u : TypeWent s rows₁ rows₂ a b c.rows left) where
            typed : (σ : Stack) (o : List ℕ) (q : Counts) → top o ≡ parent → over_counts q ≡ false → variables_are before q →
                at s rows c o left q (definition_stack ++ σ) ≡ at s rows₂ b (c.rows ∷ o) left (wrapped_by u.wrappers (kinded kind_variable_definition q)) (default_end σ)
            typed σ o q t f m = headed σ o q t f m ∙ u.goes (default_end σ) (c.rows ∷ o) (kinded kind_variable_definition q) refl (variable_fine q f (one_more q f m))

            typed_fine : (q : Counts) → over_counts q ≡ false → variables_are before q → over_counts (wrapped_by u.wrappers (kinded kind_variable_definition q)) ≡ false
            typed_fine q f m = wrapped_fine (kinded kind_variable_definition q) u.wrappers (variable_fine q f (one_more q f m)) u.wrapped

            pub variable_stop_3 : (rows₃ rows' : List ℕ) (r : Result Cursor Refusal) → Said 0 s rows₂ rows₃ b c.rows left (nt DefaultValue? ∷ []) r → (x : Refusal) → r ≡ Err x →
                CountedSaid 1 s rows rows' c parent left definition_stack stays (variables_are before) (variables_become (before + 1)) r
            variable_stop_3 rows₃ rows' r v x e =
                rw e (λ σ o q t f m. typed σ o q t f m
                ∙ said_halts 0 s rows₂ rows₃ b c.rows left (nt DefaultValue? ∷ []) r v x e (act end ∷ σ) (c.rows ∷ o) (wrapped_by u.wrappers (kinded kind_variable_definition q)) refl (typed_fine q f m))

            pub variable_done : (rows₃ rows' : List ℕ) (r : Result Cursor Refusal) → Said 0 s rows₂ rows₃ b c.rows left (nt DefaultValue? ∷ []) r → (d : Cursor) → r ≡ Ok d → rows' ≡ set rows₃ (7 * c.rows + 2) d.stop →
                Counted 1 s rows rows' c d parent left definition_stack stays (variables_are before) (variables_become (before + 1))
            variable_done rows₃ rows' r v d e z =
                let y = said_went 0 s rows₂ rows₃ b c.rows left (nt DefaultValue? ∷ []) r v d e in
                record {
                  size = ap length z ∙ simp length-set y.size;
                  within = y.within;
                  few = y.few;
                  looks = y.looks;
                  on = omega (arith, y.on, u.on, w.on);
                  goes = λ σ o q t f m. (
                    wrapped_by u.wrappers (kinded kind_variable_definition q),
                    typed_fine q f m,
                    (refl, ap (λ (n : ℕ). n + 1) m),
                    typed σ o q t f m
                        ∙ y.goes (act end ∷ σ) (c.rows ∷ o) (wrapped_by u.wrappers (kinded kind_variable_definition q)) refl (typed_fine q f m)
                        ∙ ends_row rows₃ d.rows o d.stop left (wrapped_by u.wrappers (kinded kind_variable_definition q)) σ (from s d.stop) c.rows
                        ∙ rw z refl,
                  );
                }

-- what the reader of a type reference answers, and what it leaves to the next
pub type_went : (s rows rows' : List ℕ) (c : Cursor) (parent left : ℕ) (r : Result Cursor Refusal) → TypeSaid s rows rows' c parent left r → (d : Cursor) → r ≡ Ok d → TypeWent s rows rows' c d parent left
type_went s rows rows' c parent left r g d e = rw e at g

pub type_ready : (s rows rows' : List ℕ) (c d : Cursor) (parent left : ℕ) → length s ≤ most_text → TypeWent s rows rows' c d parent left → (n : ℕ) → n ≤ most_rows → Ready s rows' d n
type_ready s rows rows' c d parent left h g n b = record { short = h; size = g.size; within = g.within; few = g.few; looks = g.looks; below = b }
