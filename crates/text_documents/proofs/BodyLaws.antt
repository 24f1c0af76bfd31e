-- The last symbols of an operation or a fragment: its directives and its selection set, which end its row.
use mathlib.Core.Path.{◌≡◌, refl, ap, ◌∙◌}
use mathlib.Core.Bool.{not}
use mathlib.Core.List.Memᴰ
use mathlib.Core.List.{List, [], ◌∷◌, ◌++◌}
use Prim.Native.Nat.{ℕ, ◌+◌, ◌*◌}
use native.Mathlib.Omega.{arith}
use lib.ListN.{length, set, length-set}
use Rattle.std.specs.Prelude.{Result, Ok, Err}
use Rattle.paper.specs.Grammar.{nt, act}
use Rattle.paper.specs.Numbers.{most_levels}
use Rattle.paper.specs.Language.{language, end, VariableDefinitions?, VariableDefinitions, at_sign, paren_l}
use Rattle.paper.specs.Rows.{pop}
use Rattle.paper.specs.Sizes.{Counts}
use Rattle.paper.specs.declared.Refusal.{Refusal}
use Rattle.paper.proofs.Lexing.{from}
use Rattle.paper.proofs.Machine.{choose}
use Rattle.paper.proofs.Tables.{factored}
use Rattle.paper.proofs.Going.{Stack, st, go_act}
use Rattle.text_scan.specs.Head.{kind_of}
use Rattle.text_cursor.specs.Reader.{Ready, at, Went, Said}
use Rattle.text_cursor.specs.declared.Cursor.{Cursor}
use Rattle.text_cursor.proofs.Steps.{is, not_is, null, first}
use Rattle.text_arguments.specs.Arguments.{directives_stack}
use Rattle.text_arguments.proofs.DirectivesLaws.{no_directives}
use Rattle.text_selections.specs.Selections.{selection_set_stack}
use Rattle.text_variables.specs.Counted.{Counted, CountedSaid, stays, any_counts, variables_are, same_counts, same_fragments}
use Rattle.text_documents.specs.Words.{set_stack, body_stack}
use Rattle.text_variables.proofs.CountedLaws.{said_halts, counted_halts}

module _ (s rows : List ℕ) (c : Cursor) (n : ℕ) where
  -- the selection set
  pub set_stop : (rows₁ rows' : List ℕ) (r : Result Cursor Refusal) → Said 1 s rows rows₁ c n most_levels selection_set_stack r → (x : Refusal) → r ≡ Err x → CountedSaid 1 s rows rows' c n most_levels set_stack pop any_counts same_counts r
  set_stop rows₁ rows' r u x e = rw e (λ σ o q t f m. said_halts 1 s rows rows₁ c n most_levels selection_set_stack r u x e (act end ∷ σ) o q t f)

  pub set_done : (rows₁ rows' : List ℕ) (d : Cursor) → Went 1 s rows rows₁ c d n most_levels selection_set_stack → rows' ≡ set rows₁ (7 * n + 2) d.stop →
      Counted 1 s rows rows' c d n most_levels set_stack pop any_counts same_counts
  set_done rows₁ rows' d u z =
      record {
        size = ap length z ∙ simp length-set u.size;
        within = u.within;
        few = u.few;
        looks = u.looks;
        on = u.on;
        goes = λ σ o q t f m. (q, f, refl, u.goes (act end ∷ σ) o q t f ∙ go_act (st rows₁ d.rows o d.stop most_levels q) end σ (from s d.stop) ∙ rw (t, z) refl);
      }

  -- directives before it
  pub body_stop : (rows₁ rows' : List ℕ) (r : Result Cursor Refusal) → Said 0 s rows rows₁ c n most_levels directives_stack r → (x : Refusal) → r ≡ Err x → CountedSaid 1 s rows rows' c n most_levels body_stack pop any_counts same_counts r
  body_stop rows₁ rows' r w x e = rw e (λ σ o q t f m. said_halts 0 s rows rows₁ c n most_levels directives_stack r w x e (set_stack ++ σ) o q t f)

  pub body_says : (rows₁ : List ℕ) (a : Cursor) → Went 0 s rows rows₁ c a n most_levels directives_stack → (rows' : List ℕ) (r : Result Cursor Refusal) →
      CountedSaid 1 s rows₁ rows' a n most_levels set_stack pop any_counts same_counts r → CountedSaid 1 s rows rows' c n most_levels body_stack pop any_counts same_counts r
  body_says rows₁ a w rows' (Ok d) u =
      record {
        size = u.size;
        within = u.within;
        few = u.few;
        looks = u.looks;
        on = omega (arith, w.on, u.on);
        goes = λ σ o q t f m. (let y = u.goes σ o q t f m in (y.0, y.1, y.2, w.goes (set_stack ++ σ) o q t f ∙ y.3));
      }
  body_says rows₁ a w rows' (Err x) u = λ σ o q t f m. w.goes (set_stack ++ σ) o q t f ∙ u σ o q t f m

  pub body_bare : Ready s rows c n → (c.kind ≡ kind_of at_sign → ⊥) → (rows' : List ℕ) (r : Result Cursor Refusal) → CountedSaid 1 s rows rows' c n most_levels set_stack pop any_counts same_counts r → CountedSaid 1 s rows rows' c n most_levels body_stack pop any_counts same_counts r
  body_bare g k = body_says rows c (no_directives s rows c n most_levels g k)

-- the same behind the name of an operation, with variable definitions or none
abbrev pub rest_stack : Stack
rest_stack = nt VariableDefinitions? ∷ body_stack

module _ (s rows : List ℕ) (c : Cursor) (n : ℕ) (g : Ready s rows c n) where
  pub rest_bare : (c.kind ≡ kind_of paren_l → ⊥) → (rows' : List ℕ) (r : Result Cursor Refusal) → CountedSaid 1 s rows rows' c n most_levels body_stack pop any_counts same_counts r → CountedSaid 1 s rows rows' c n most_levels rest_stack pop (variables_are 0) same_fragments r
  unfolding factored language choose
  rest_bare h rows' (Ok d) w =
      record {
        size = w.size;
        within = w.within;
        few = w.few;
        looks = w.looks;
        on = w.on;
        goes = λ σ o q t f m.
            let y = w.goes σ o q t f tt in (
              y.0,
              y.1,
              ap (λ (p : Counts). p.fragments) y.2,
              null s c g.within g.looks rows c.rows o most_levels q (body_stack ++ σ) VariableDefinitions? {α = []} (Memᴰ.head refl) tt refl (λ y. not (is (kind_of paren_l) y)) (not_is (kind_of paren_l) c.kind h) tt ∙ y.3,
            );
      }
  rest_bare h rows' (Err x) w = λ σ o q t f m.
      null s c g.within g.looks rows c.rows o most_levels q (body_stack ++ σ) VariableDefinitions? {α = []} (Memᴰ.head refl) tt refl (λ y. not (is (kind_of paren_l) y)) (not_is (kind_of paren_l) c.kind h) tt ∙ w σ o q t f tt

  module _ (h : c.kind ≡ kind_of paren_l) where
    rest_first : (σ : Stack) (o : List ℕ) (q : Counts) → at s rows c o most_levels q (rest_stack ++ σ) ≡ at s rows c o most_levels q (nt VariableDefinitions ∷ (body_stack ++ σ))
    unfolding factored language
    rest_first σ o q = first s c g.within g.looks rows c.rows o most_levels q (body_stack ++ σ) VariableDefinitions? {α = nt VariableDefinitions ∷ []} (Memᴰ.tail (Memᴰ.head refl)) paren_l h tt

    pub rest_stop : (rows₁ rows' : List ℕ) (r : Result Cursor Refusal) → CountedSaid 1 s rows rows₁ c n most_levels (nt VariableDefinitions ∷ []) stays (variables_are 0) same_fragments r → (x : Refusal) → r ≡ Err x →
        CountedSaid 1 s rows rows' c n most_levels rest_stack pop (variables_are 0) same_fragments r
    rest_stop rows₁ rows' r w x e =
        rw e (λ σ o q t f m. rest_first σ o q ∙ counted_halts 1 s rows rows₁ c n most_levels (nt VariableDefinitions ∷ []) r stays (variables_are 0) same_fragments w x e (body_stack ++ σ) o q t f m)

    pub rest_says : (rows₁ : List ℕ) (a : Cursor) → Counted 1 s rows rows₁ c a n most_levels (nt VariableDefinitions ∷ []) stays (variables_are 0) same_fragments → (rows' : List ℕ) (r : Result Cursor Refusal) →
        CountedSaid 1 s rows₁ rows' a n most_levels body_stack pop any_counts same_counts r → CountedSaid 1 s rows rows' c n most_levels rest_stack pop (variables_are 0) same_fragments r
    rest_says rows₁ a w rows' (Ok d) u =
        record {
          size = u.size;
          within = u.within;
          few = u.few;
          looks = u.looks;
          on = omega (arith, w.on, u.on);
          goes = λ σ o q t f m.
              let y = w.goes (body_stack ++ σ) o q t f m in
              let z = u.goes σ o y.0 t y.1 tt in
              (z.0, z.1, ap (λ (p : Counts). p.fragments) z.2 ∙ y.2, rest_first σ o q ∙ y.3 ∙ z.3);
        }
    rest_says rows₁ a w rows' (Err x) u = λ σ o q t f m. (let y = w.goes (body_stack ++ σ) o q t f m in rest_first σ o q ∙ y.3 ∙ u σ o y.0 t y.1 tt)
