-- A type reference from its name on: the name, a `!` or none, and what closes its brackets.
use mathlib.Core.Path.{◌≡◌, refl, ◌∙◌, subst}
use mathlib.Core.Bool.{false}
use mathlib.Core.List.Memᴰ
use mathlib.Core.List.{List, [], ◌∷◌, ◌++◌}
use Prim.Native.Nat.{ℕ, ◌+◌, ◌-◌, ◌≤◌}
use native.Mathlib.Nat.{zero-add}
use native.Mathlib.Omega.{arith}
use lib.ListN.{length}
use Rattle.std.specs.Prelude.{Result, Ok, Err}
use Rattle.paper.specs.Grammar.{nt, tm, act}
use Rattle.paper.specs.Numbers.{most_wrappers, kind_type_reference}
use Rattle.paper.specs.Language.{language, any_name, named, TypeRef, NamedType, Name, Bang?, n_other}
use Rattle.paper.specs.Sizes.{Counts, over_counts}
use Rattle.paper.specs.declared.Refusal.{Refusal}
use Rattle.paper.proofs.Lexing.{from}
use Rattle.paper.proofs.Tables.{factored}
use Rattle.paper.proofs.Going.{Stack, st, go}
use Rattle.text_scan.specs.Head.{head_of, kind_of}
use Rattle.text_cursor.specs.Reader.{Looks, at, moved_to}
use Rattle.text_cursor.specs.declared.Cursor.{Cursor}
use Rattle.text_cursor.proofs.Steps.{first, plain}
use Rattle.text_cursor.proofs.Cells.{put, name_told}
use Rattle.text_references.specs.declared.Wrapped.{Wrapped}
use Rattle.text_references.specs.Types.{wrapped_by, bang_stack, closers, four, most_inside, Seen, Marked, inside, Wraps, Says, unnamed, Named}
use Rattle.text_references.proofs.CountsLaws.{wrapped_fine}
use Rattle.text_references.proofs.CloseLaws.{four_mono}
use Rattle.text_references.proofs.MovedLaws.{next_of, moved_halts, ahead, start_in_is, stop_in_is}

-- the machine at a name: it is the row's, and it is looked at
pub name_first : (s : List ℕ) (c : Cursor) → c.stop ≤ length s → Looks s c → c.kind ≡ kind_of n_other → (cells : List ℕ) (n a p : ℕ) (o : List ℕ) (left marks : ℕ) (q : Counts) (σ : Stack) →
    at s (put cells n kind_type_reference a 0 p 0 0 0) c (n ∷ o) left (wrapped_by marks q) (nt TypeRef ∷ σ)
    ≡ at s (put cells n kind_type_reference a 0 p c.start (c.end - c.start) 0) c (n ∷ o) left (wrapped_by marks q) (tm any_name ∷ nt Bang? ∷ σ)
unfolding factored language
name_first s c i l h cells n a p o left marks q σ =
    first s c i l (put cells n kind_type_reference a 0 p 0 0 0) c.rows (n ∷ o) left (wrapped_by marks q) σ TypeRef {α = nt NamedType ∷ nt Bang? ∷ []} (Memᴰ.head refl) n_other h tt
    ∙ first s c i l (put cells n kind_type_reference a 0 p 0 0 0) c.rows (n ∷ o) left (wrapped_by marks q) (nt Bang? ∷ σ) NamedType {α = act named ∷ nt Name ∷ []} (Memᴰ.head refl) n_other h tt
    ∙ name_told cells c.rows o c.stop left (wrapped_by marks q) (nt Name ∷ nt Bang? ∷ σ) (from s c.stop) n kind_type_reference a 0 p 0 0 0
    ∙ rw (start_in_is s c l, stop_in_is s c l)
    (first s c i l (put cells n kind_type_reference a 0 p c.start (c.end - c.start) 0) c.rows (n ∷ o) left (wrapped_by marks q) (nt Bang? ∷ σ) Name {α = tm any_name ∷ []} (Memᴰ.head refl) n_other h tt)

module _ (s : List ℕ) (c : Cursor) (marks : ℕ) (g : Seen s c) (h : c.kind ≡ kind_of n_other) (k : marks ≤ most_wrappers) where
  named_past : (cells : List ℕ) (n a p : ℕ) (o : List ℕ) (left : ℕ) (q : Counts) (σ : Stack) → over_counts q ≡ false →
      unnamed s c marks cells n a p o left q σ
      ≡ go (st (put cells n kind_type_reference a 0 p c.start (c.end - c.start) 0) c.rows (n ∷ o) c.end left (wrapped_by marks q)) (nt Bang? ∷ (closers marks ++ σ)) (from s c.end)
  named_past cells n a p o left q σ f =
      name_first s c g.within g.looks h cells n a p o left marks q (closers marks ++ σ)
      ∙ plain s c g.within g.looks (put cells n kind_type_reference a 0 p c.start (c.end - c.start) 0) c.rows (n ∷ o) left (wrapped_by marks q) (nt Bang? ∷ (closers marks ++ σ)) any_name n_other h tt tt g.few (wrapped_fine q marks f k)

  module _ (r : Result Cursor Refusal) (e : r ≡ moved_to c.end c.rows (head_of (from s c.end))) where
    pub named_bad : (x : Refusal) → r ≡ Err x → Named s c marks (Err x)
    named_bad x y cells n a p o left q σ l f =
        named_past cells n a p o left q σ f
        ∙ moved_halts s c.end c.rows r x e y (st (put cells n kind_type_reference a 0 p c.start (c.end - c.start) 0) c.rows (n ∷ o) c.end left (wrapped_by marks q)) (nt Bang? ∷ (closers marks ++ σ))

    module _ (d : Cursor) (y : r ≡ Ok d) where
      abbrev bare : Wrapped
      bare = record { at = d; extra = 0; marks = marks }

      pub bare_marked : Marked s bare most_inside
      bare_marked =
          let v = next_of s c.end c.rows r d e y in
          let b = ahead s c g.within g.looks (λ z. let x : ⊥ = omega arith in x) in
          record { seen = record { short = g.short; within = omega arith; few = omega (arith, g.few); looks = v.looks }; marks = k; small = omega arith }

      named_goes : (cells : List ℕ) (n a p : ℕ) (o : List ℕ) (left : ℕ) (q : Counts) (σ : Stack) → over_counts q ≡ false →
          unnamed s c marks cells n a p o left q σ ≡ inside s bare cells n a p c.start (c.end - c.start) o left q (bang_stack ++ (closers marks ++ σ))
      named_goes cells n a p o left q σ f =
          let v = next_of s c.end c.rows r d e y in
          named_past cells n a p o left q σ f ∙ rw (v.stop, v.rows) refl

      pub named_stop : (t : Result Wrapped Refusal) (x : Refusal) → Says s bare bang_stack 0 t → t ≡ Err x → Named s c marks t
      named_stop t x b z = rw z (λ cells n a p o left q σ l f.
          named_goes cells n a p o left q σ f
          ∙ subst (λ (t : Result Wrapped Refusal). Says s bare bang_stack 0 t) z b cells n a p c.start (c.end - c.start) o left q (closers marks ++ σ) l f)

      module _ (t : Result Wrapped Refusal) (w : Wrapped) (b : Says s bare bang_stack 0 t) (z : t ≡ Ok w) where
        banged : Wraps s bare w bang_stack 0
        banged = subst (λ (t : Result Wrapped Refusal). Says s bare bang_stack 0 t) z b

        -- what the closing brackets ask
        pub named_ready : Marked s w (four w.marks) × (marks ≤ most_wrappers)
        unfolding four
        named_ready =
            let i : 0 + 0 + w.marks ≡ w.marks = omega arith in
            (record { seen = banged.seen; marks = banged.marks; small = rw i at (banged.small 0 (let j : four 0 ≤ four (0 + marks) = four_mono 0 (0 + marks) (omega arith) in omega arith)) }, k)

        pub named_says : (u : Result Wrapped Refusal) → Says s w (closers marks) marks u → Named s c marks u
        named_says (Ok v) x =
            let y' = next_of s c.end c.rows r d e y in
            let j = ahead s c g.within g.looks (λ z. let x : ⊥ = omega arith in x) in
            record {
              seen = x.seen;
              rows = x.rows ∙ banged.rows ∙ y'.rows;
              on = omega (arith, x.on, banged.on);
              marked = x.marks;
              goes = λ cells n a p o left q σ l f.
                  named_goes cells n a p o left q σ f
                  ∙ banged.goes cells n a p c.start (c.end - c.start) o left q (closers marks ++ σ) l f
                  ∙ x.goes cells n a p c.start (c.end - c.start) o (0 + left) q σ l f
                  ∙ rw (zero-add left) refl;
            }
        named_says (Err x) y' = λ cells n a p o left q σ l f.
            named_goes cells n a p o left q σ f
            ∙ banged.goes cells n a p c.start (c.end - c.start) o left q (closers marks ++ σ) l f
            ∙ y' cells n a p c.start (c.end - c.start) o (0 + left) q σ l f
