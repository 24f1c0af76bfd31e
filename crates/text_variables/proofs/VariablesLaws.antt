-- The variable definitions of an operation, between their parentheses.
use mathlib.Core.Path.{◌≡◌, refl, sym, ap, ◌∙◌}
use mathlib.Core.Bool.{Bool, true, false, not}
use mathlib.Core.List.Memᴰ
use mathlib.Core.List.{List, [], ◌∷◌, ◌++◌}
use Prim.Native.Nat.{ℕ, suc, ◌+◌, ◌-◌, ◌≤◌}
use native.Mathlib.Omega.{arith}
use lib.Dec.{eqb}
use lib.ListN.{length}
use borrow.Author.Tests.{eqb-true, eqb-false}
use Rattle.std.specs.Prelude.{Result, Ok, Err}
use Rattle.paper.specs.Grammar.{nt, tm}
use Rattle.paper.specs.Numbers.{most_rows, rows_size}
use Rattle.paper.specs.Language.{language, the, paren_l, paren_r, VariableDefinitions, VariableDefinition+, VariableDefinition*, VariableDefinition, dollar}
use Rattle.paper.specs.Rows.{top}
use Rattle.paper.specs.Sizes.{Counts, over_counts}
use Rattle.paper.specs.declared.Refusal.{Refusal}
use Rattle.paper.specs.declared.Refusal.TheVariants.{TooDeep}
use Rattle.paper.proofs.Lexing.{from}
use Rattle.paper.proofs.Machine.{choose}
use Rattle.paper.proofs.Tables.{factored}
use Rattle.paper.proofs.Going.{Stack, st, go}
use Rattle.text_scan.specs.Head.{head_of, kind_of}
use Rattle.text_cursor.specs.Reader.{Looks, Ready, at, moved_to}
use Rattle.text_cursor.specs.declared.Cursor.{Cursor}
use Rattle.text_cursor.proofs.Steps.{is, not_is, first, null, refuse, refuses, refuses_end, lacks, opening, closing, too_deep}
use Rattle.text_references.proofs.MovedLaws.{next_of, moved_halts, ahead}
use Rattle.text_variables.specs.Counted.{Counted, CountedHalts, CountedSaid, stays, variables_are, same_fragments}
use Rattle.text_variables.specs.Variables.{variables_become}
use Rattle.text_variables.proofs.CountedLaws.{counted_halts, next_ready}

-- one more definition, and those behind it
abbrev more_stack : Stack → Stack
more_stack σ = nt VariableDefinition ∷ nt VariableDefinition* ∷ tm (the paren_r) ∷ σ

abbrev list_stack : Stack
list_stack = nt VariableDefinitions ∷ []

-- a first definition is one more: if no dollar comes, the machine halts either way
plus_more : (s : List ℕ) (d : Cursor) → d.stop ≤ length s → Looks s d → (cells o : List ℕ) (left : ℕ) (q : Counts) (σ : Stack) →
    at s cells d o left q (nt VariableDefinition+ ∷ tm (the paren_r) ∷ σ) ≡ at s cells d o left q (more_stack σ)
unfolding factored language choose refuses refuses_end
plus_more s d i l cells o left q σ = by (eqb d.kind (kind_of dollar)) refl
  where
    by : (b : Bool) → eqb d.kind (kind_of dollar) ≡ b → at s cells d o left q (nt VariableDefinition+ ∷ tm (the paren_r) ∷ σ) ≡ at s cells d o left q (more_stack σ)
    by true e = first s d i l cells d.rows o left q (tm (the paren_r) ∷ σ) VariableDefinition+ {α = nt VariableDefinition ∷ nt VariableDefinition* ∷ []} (Memᴰ.head refl) dollar (eqb-true d.kind (kind_of dollar) e) tt
    by false e =
        refuse s d i l cells d.rows o left q (tm (the paren_r) ∷ σ) VariableDefinition+ (λ y. not (is (kind_of dollar) y)) (not_is (kind_of dollar) d.kind (eqb-false d.kind (kind_of dollar) e)) tt tt
        ∙ sym (refuse s d i l cells d.rows o left q (nt VariableDefinition* ∷ tm (the paren_r) ∷ σ) VariableDefinition (λ y. not (is (kind_of dollar) y)) (not_is (kind_of dollar) d.kind (eqb-false d.kind (kind_of dollar) e)) tt tt)

-- so are those behind a definition, where no parenthesis closes them
star_more : (s : List ℕ) (d : Cursor) → d.stop ≤ length s → Looks s d → (d.kind ≡ kind_of paren_r → ⊥) → (cells o : List ℕ) (left : ℕ) (q : Counts) (σ : Stack) →
    at s cells d o left q (nt VariableDefinition* ∷ tm (the paren_r) ∷ σ) ≡ at s cells d o left q (more_stack σ)
unfolding factored language choose refuses refuses_end
star_more s d i l h cells o left q σ = by (eqb d.kind (kind_of dollar)) refl
  where
    by : (b : Bool) → eqb d.kind (kind_of dollar) ≡ b → at s cells d o left q (nt VariableDefinition* ∷ tm (the paren_r) ∷ σ) ≡ at s cells d o left q (more_stack σ)
    by true e = first s d i l cells d.rows o left q (tm (the paren_r) ∷ σ) VariableDefinition* {α = nt VariableDefinition ∷ nt VariableDefinition* ∷ []} (Memᴰ.tail (Memᴰ.head refl)) dollar (eqb-true d.kind (kind_of dollar) e) tt
    by false e =
        null s d i l cells d.rows o left q (tm (the paren_r) ∷ σ) VariableDefinition* {α = []} (Memᴰ.head refl) tt refl (λ y. not (is (kind_of dollar) y)) (not_is (kind_of dollar) d.kind (eqb-false d.kind (kind_of dollar) e)) tt
        ∙ lacks s d i l cells d.rows o left q σ (the paren_r) (λ y. not (is (kind_of paren_r) y)) (not_is (kind_of paren_r) d.kind h) tt
        ∙ sym (refuse s d i l cells d.rows o left q (nt VariableDefinition* ∷ tm (the paren_r) ∷ σ) VariableDefinition (λ y. not (is (kind_of dollar) y)) (not_is (kind_of dollar) d.kind (eqb-false d.kind (kind_of dollar) e)) tt tt)

-- i definitions are read, from d₀ to d
pub record Turns (s rows₀ rows : List ℕ) (d₀ d : Cursor) (parent left i : ℕ) : Type 0 where
  pub size : length rows ≡ rows_size
  pub within : d.stop ≤ length s
  pub few : d.rows ≤ most_rows
  pub looks : Looks s d
  pub on : d₀.stop + i ≤ d.stop
  pub goes : (σ : Stack) (o : List ℕ) (q : Counts) → top o ≡ parent → over_counts q ≡ false → variables_are 0 q →
      (q' : Counts) × (over_counts q' ≡ false) × variables_become i q q' × (at s rows₀ d₀ o left q (more_stack σ) ≡ at s rows d o left q' (more_stack σ))

pub turns_none : (s rows : List ℕ) (d : Cursor) (parent left : ℕ) → Ready s rows d parent → Turns s rows rows d d parent left 0
turns_none s rows d parent left g =
    record { size = g.size; within = g.within; few = g.few; looks = g.looks; on = omega arith; goes = λ σ o q t f m. (q, f, (refl, m), refl) }

-- AT THE PARENTHESIS
module _ (s rows : List ℕ) (c : Cursor) (parent left : ℕ) (g : Ready s rows c parent) (h : c.kind ≡ kind_of paren_l) where
  pub list_deep : left ≡ 0 → CountedHalts s rows c parent left list_stack (variables_are 0) (TooDeep c.start)
  unfolding factored language
  list_deep k σ o q t f m =
      first s c g.within g.looks rows c.rows o left q σ VariableDefinitions {α = tm (the paren_l) ∷ nt VariableDefinition+ ∷ tm (the paren_r) ∷ []} (Memᴰ.head refl) paren_l h tt
      ∙ too_deep s c g.within g.looks rows c.rows o left q (nt VariableDefinition+ ∷ tm (the paren_r) ∷ σ) (the paren_l) paren_l h tt tt k

  module _ (k : left ≡ 0 → ⊥) where
    list_past : (σ : Stack) (o : List ℕ) (q : Counts) → over_counts q ≡ false → at s rows c o left q (list_stack ++ σ) ≡ go (st rows c.rows o c.end (left - 1) q) (nt VariableDefinition+ ∷ tm (the paren_r) ∷ σ) (from s c.end)
    unfolding factored language
    list_past σ o q f =
        first s c g.within g.looks rows c.rows o left q σ VariableDefinitions {α = tm (the paren_l) ∷ nt VariableDefinition+ ∷ tm (the paren_r) ∷ []} (Memᴰ.head refl) paren_l h tt
        ∙ opening s c g.within g.looks rows c.rows o left q (nt VariableDefinition+ ∷ tm (the paren_r) ∷ σ) (the paren_l) paren_l h tt tt (left - 1) (omega (arith, k)) g.few f

    module _ (r : Result Cursor Refusal) (e : r ≡ moved_to c.end c.rows (head_of (from s c.end))) where
      pub list_bad : (rows' : List ℕ) (x : Refusal) → r ≡ Err x → CountedSaid 1 s rows rows' c parent left list_stack stays (variables_are 0) same_fragments r
      list_bad rows' x y = rw y (λ σ o q t f m. list_past σ o q f ∙ moved_halts s c.end c.rows r x e y (st rows c.rows o c.end (left - 1) q) (nt VariableDefinition+ ∷ tm (the paren_r) ∷ σ))

      module _ (d₀ : Cursor) (y : r ≡ Ok d₀) where
        pub list_ready : Ready s rows d₀ parent
        list_ready =
            let b = ahead s c g.within g.looks (λ z. let x : ⊥ = omega arith in x) in
            next_ready s rows c.end c.rows d₀ g.short g.size b.2 g.few (next_of s c.end c.rows r d₀ e y) parent g.below

        list_begins : (σ : Stack) (o : List ℕ) (q : Counts) → over_counts q ≡ false → at s rows c o left q (list_stack ++ σ) ≡ at s rows d₀ o (left - 1) q (more_stack σ)
        list_begins σ o q f =
            let v = next_of s c.end c.rows r d₀ e y in
            list_past σ o q f ∙ rw (sym v.stop, sym v.rows) (plus_more s d₀ list_ready.within v.looks rows o (left - 1) q σ)

        module _ (rows₁ : List ℕ) (d : Cursor) (i : ℕ) (w : Turns s rows rows₁ d₀ d parent (left - 1) i) where
          pub turn_ready : Ready s rows₁ d parent
          turn_ready = record { short = g.short; size = w.size; within = w.within; few = w.few; looks = w.looks; below = g.below }

          pub turn_stop : (rows₂ rows' : List ℕ) (u : Result Cursor Refusal) → CountedSaid 1 s rows₁ rows₂ d parent (left - 1) (nt VariableDefinition ∷ []) stays (variables_are i) (variables_become (i + 1)) u → (x : Refusal) → u ≡ Err x →
              CountedSaid 1 s rows rows' c parent left list_stack stays (variables_are 0) same_fragments u
          turn_stop rows₂ rows' u z x j =
              rw j (λ σ o q t f m.
              let a = w.goes σ o q t f m in
              list_begins σ o q f ∙ a.3
              ∙ counted_halts 1 s rows₁ rows₂ d parent (left - 1) (nt VariableDefinition ∷ []) u stays (variables_are i) (variables_become (i + 1)) z x j (nt VariableDefinition* ∷ tm (the paren_r) ∷ σ) o a.0 t a.1 a.2.1)

          module _ (rows₂ : List ℕ) (b : Cursor) (z : Counted 1 s rows₁ rows₂ d b parent (left - 1) (nt VariableDefinition ∷ []) stays (variables_are i) (variables_become (i + 1))) where
            pub turn_again : (b.kind ≡ kind_of paren_r → ⊥) → Turns s rows rows₂ d₀ b parent (left - 1) (i + 1)
            turn_again j =
                record {
                  size = z.size;
                  within = z.within;
                  few = z.few;
                  looks = z.looks;
                  on = omega (arith, w.on, z.on);
                  goes = λ σ o q t f m.
                      let a = w.goes σ o q t f m in
                      let y = z.goes (nt VariableDefinition* ∷ tm (the paren_r) ∷ σ) o a.0 t a.1 a.2.1 in
                      (y.0, y.1, (y.2.0 ∙ a.2.0, y.2.1), a.3 ∙ y.3 ∙ star_more s b z.within z.looks j rows₂ o (left - 1) y.0 σ);
                }

            module _ (j : b.kind ≡ kind_of paren_r) where
              pub close_end : b.end ≤ length s
              close_end = (ahead s b z.within z.looks (λ z. let x : ⊥ = omega (arith, j) in x)).2

              closed : (σ : Stack) (o : List ℕ) (q : Counts) → top o ≡ parent → over_counts q ≡ false → variables_are 0 q →
                  (q' : Counts) × (over_counts q' ≡ false) × same_fragments q q' × (at s rows c o left q (list_stack ++ σ) ≡ go (st rows₂ b.rows o b.end left q') σ (from s b.end))
              unfolding factored language choose
              closed σ o q t f m =
                  let a = w.goes σ o q t f m in
                  let y = z.goes (nt VariableDefinition* ∷ tm (the paren_r) ∷ σ) o a.0 t a.1 a.2.1 in (
                    y.0,
                    y.1,
                    y.2.0 ∙ a.2.0,
                    list_begins σ o q f ∙ a.3 ∙ y.3
                        ∙ null s b z.within z.looks rows₂ b.rows o (left - 1) y.0 (tm (the paren_r) ∷ σ) VariableDefinition* {α = []} (Memᴰ.head refl) tt refl (is (kind_of paren_r)) (rw j tt) tt
                        ∙ closing s b z.within z.looks rows₂ b.rows o (left - 1) y.0 σ (the paren_r) paren_r j tt tt z.few y.1
                        ∙ (let p : suc (left - 1) ≡ left = omega (arith, k) in ap (λ (l : ℕ). go (st rows₂ b.rows o b.end l y.0) σ (from s b.end)) p),
                  )

              pub list_says : (a : Result Cursor Refusal) → a ≡ moved_to b.end b.rows (head_of (from s b.end)) → CountedSaid 1 s rows rows₂ c parent left list_stack stays (variables_are 0) same_fragments a
              list_says (Err x) v = λ σ o q t f m. let n = closed σ o q t f m in n.3 ∙ moved_halts s b.end b.rows (Err x) x v refl (st rows₂ b.rows o b.end left n.0) σ
              list_says (Ok a) v =
                  let n = next_of s b.end b.rows (Ok a) a v refl in
                  let n₀ = next_of s c.end c.rows r d₀ e y in
                  let l₀ = ahead s c g.within g.looks (λ z. let x : ⊥ = omega arith in x) in
                  let l = ahead s b z.within z.looks (λ z. let x : ⊥ = omega (arith, j) in x) in
                  record {
                    size = z.size;
                    within = omega (arith, n.stop, l.2);
                    few = omega (arith, n.rows, z.few);
                    looks = n.looks;
                    on = omega (arith, n.stop, n₀.stop, l₀.0, l₀.1, l.0, l.1, z.on, w.on);
                    goes = λ σ o q t f m. (let p = closed σ o q t f m in (p.0, p.1, p.2, p.3 ∙ rw (n.stop, n.rows) refl));
                  }
