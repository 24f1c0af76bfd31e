-- A default value, or none.
use mathlib.Core.Path.{◌≡◌, refl, ◌∙◌}
use mathlib.Core.Bool.{true, false, not}
use mathlib.Core.List.Memᴰ
use mathlib.Core.List.{List, [], ◌∷◌, ◌++◌}
use Prim.Native.Nat.{ℕ}
use native.Mathlib.Omega.{arith}
use Rattle.std.specs.Prelude.{Result, Ok, Err}
use Rattle.paper.specs.Grammar.{nt, tm}
use Rattle.paper.specs.Language.{language, the, equals, DefaultValue?, DefaultValue, ConstValue}
use Rattle.paper.specs.Sizes.{Counts, over_counts}
use Rattle.paper.specs.declared.Refusal.{Refusal}
use Rattle.paper.proofs.Lexing.{from}
use Rattle.paper.proofs.Machine.{choose}
use Rattle.paper.proofs.Tables.{factored}
use Rattle.paper.proofs.Going.{Stack, st, go}
use Rattle.text_scan.specs.Head.{head_of, kind_of}
use Rattle.text_cursor.specs.Reader.{Ready, at, Went, Said, moved_to}
use Rattle.text_cursor.specs.declared.Cursor.{Cursor}
use Rattle.text_cursor.proofs.Steps.{is, not_is, null, first, plain}
use Rattle.text_leaves.specs.Stacks.{value_stack}
use Rattle.text_references.proofs.MovedLaws.{next_of, moved_halts, ahead}
use Rattle.text_variables.proofs.CountedLaws.{next_ready}

abbrev default_stack : Stack
default_stack = nt DefaultValue? ∷ []

module _ (s rows : List ℕ) (c : Cursor) (parent left : ℕ) (g : Ready s rows c parent) where
  pub default_none : (c.kind ≡ kind_of equals → ⊥) → Went 0 s rows rows c c parent left default_stack
  unfolding factored language choose
  default_none h =
      record {
        size = g.size;
        within = g.within;
        few = g.few;
        looks = g.looks;
        on = omega arith;
        goes = λ σ o q t f. null s c g.within g.looks rows c.rows o left q σ DefaultValue? {α = []} (Memᴰ.head refl) tt refl (λ y. not (is (kind_of equals) y)) (not_is (kind_of equals) c.kind h) tt;
      }

  module _ (h : c.kind ≡ kind_of equals) where
    default_past : (σ : Stack) (o : List ℕ) (q : Counts) → over_counts q ≡ false → at s rows c o left q (default_stack ++ σ) ≡ go (st rows c.rows o c.end left q) (nt ConstValue ∷ σ) (from s c.end)
    unfolding factored language
    default_past σ o q f =
        first s c g.within g.looks rows c.rows o left q σ DefaultValue? {α = nt DefaultValue ∷ []} (Memᴰ.tail (Memᴰ.head refl)) equals h tt
        ∙ first s c g.within g.looks rows c.rows o left q σ DefaultValue {α = tm (the equals) ∷ nt ConstValue ∷ []} (Memᴰ.head refl) equals h tt
        ∙ plain s c g.within g.looks rows c.rows o left q (nt ConstValue ∷ σ) (the equals) equals h tt tt g.few f

    module _ (r : Result Cursor Refusal) (e : r ≡ moved_to c.end c.rows (head_of (from s c.end))) where
      pub default_bad : (rows' : List ℕ) (x : Refusal) → r ≡ Err x → Said 0 s rows rows' c parent left default_stack r
      default_bad rows' x y = rw y (λ σ o q t f. default_past σ o q f ∙ moved_halts s c.end c.rows r x e y (st rows c.rows o c.end left q) (nt ConstValue ∷ σ))

      module _ (d : Cursor) (y : r ≡ Ok d) where
        pub default_ready : Ready s rows d parent
        default_ready =
            let b = ahead s c g.within g.looks (λ z. let x : ⊥ = omega arith in x) in
            next_ready s rows c.end c.rows d g.short g.size b.2 g.few (next_of s c.end c.rows r d e y) parent g.below

        default_goes : (σ : Stack) (o : List ℕ) (q : Counts) → over_counts q ≡ false → at s rows c o left q (default_stack ++ σ) ≡ at s rows d o left q (value_stack true ++ σ)
        default_goes σ o q f = let v = next_of s c.end c.rows r d e y in default_past σ o q f ∙ rw (v.stop, v.rows) refl

        pub default_says : (rows' : List ℕ) (t : Result Cursor Refusal) → Said 1 s rows rows' d parent left (value_stack true) t → Said 0 s rows rows' c parent left default_stack t
        default_says rows' (Ok b) w =
            let v = next_of s c.end c.rows r d e y in
            let a = ahead s c g.within g.looks (λ z. let x : ⊥ = omega arith in x) in
            record {
              size = w.size;
              within = w.within;
              few = w.few;
              looks = w.looks;
              on = omega (arith, w.on);
              goes = λ σ o q t f. default_goes σ o q f ∙ w.goes σ o q t f;
            }
        default_says rows' (Err x) w = λ σ o q t f. default_goes σ o q f ∙ w σ o q t f
