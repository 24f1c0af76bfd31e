-- The closing brackets of a type reference, each with a `!` or none.
use mathlib.Core.Path.{◌≡◌, refl, sym, ap, ◌∙◌, subst}
use mathlib.Core.Bool.{false, not}
use mathlib.Core.List.{List, ◌∷◌, ◌++◌, append_assoc}
use Prim.Native.Nat.{ℕ, zero, suc, ◌+◌, ◌-◌, ◌*◌, ◌≤◌, ◌<◌}
use native.Mathlib.Nat.{zero-add, suc-add}
use native.Mathlib.Omega.{arith}
use lib.ListN.{length}
use Rattle.std.specs.Prelude.{Result, Ok, Err}
use Rattle.paper.specs.Grammar.{nt, tm, act}
use Rattle.paper.specs.Numbers.{most_wrappers, kind_type_reference, wrap_list}
use Rattle.paper.specs.Language.{the, bracket_r, wrap, Bang?}
use Rattle.paper.specs.Sizes.{Counts, over_counts}
use Rattle.paper.specs.declared.Refusal.{Refusal}
use Rattle.paper.specs.declared.Refusal.TheVariants.{NoGoing}
use Rattle.paper.proofs.Lexing.{from}
use Rattle.paper.proofs.Going.{Stack, st, go}
use Rattle.text_scan.specs.Head.{head_of, kind_of}
use Rattle.text_cursor.specs.Reader.{moved_to}
use Rattle.text_cursor.specs.declared.Cursor.{Cursor}
use Rattle.text_cursor.proofs.Steps.{is, not_is, lacks, closing}
use Rattle.text_cursor.proofs.Cells.{put, wrap_told}
use Rattle.text_references.specs.declared.Wrapped.{Wrapped}
use Rattle.text_references.specs.Types.{wrapped_by, bang_stack, closers, four, most_before, most_inside, Marked, inside, Wraps, WrapHalts, Says}
use Rattle.text_references.proofs.CountsLaws.{wrapped_fine}
use Rattle.text_references.proofs.MovedLaws.{next_of, moved_halts, ahead}

-- ONE BRACKET
module _ (s : List ℕ) (w : Wrapped) (ready : Marked s w most_before) where
  pub close_none : (w.at.kind ≡ kind_of bracket_r → ⊥) → WrapHalts s w (closers 1) (NoGoing w.at.start)
  close_none h cells n a p m z o left q σ l f =
      lacks s w.at ready.seen.within ready.seen.looks (put cells n kind_type_reference a 0 p m z w.extra) w.at.rows (n ∷ o) left (wrapped_by w.marks q)
      (act (wrap wrap_list) ∷ nt Bang? ∷ σ) (the bracket_r) (λ y. not (is (kind_of bracket_r) y)) (not_is (kind_of bracket_r) w.at.kind h) tt

  module _ (h : w.at.kind ≡ kind_of bracket_r) where
    close_past : (cells : List ℕ) (n a p m z : ℕ) (o : List ℕ) (left : ℕ) (q : Counts) (σ : Stack) → over_counts q ≡ false →
        inside s w cells n a p m z o left q (closers 1 ++ σ)
        ≡ go (st (put cells n kind_type_reference a 0 p m z w.extra) w.at.rows (n ∷ o) w.at.end (suc left) (wrapped_by w.marks q)) (act (wrap wrap_list) ∷ nt Bang? ∷ σ) (from s w.at.end)
    close_past cells n a p m z o left q σ f =
        closing s w.at ready.seen.within ready.seen.looks (put cells n kind_type_reference a 0 p m z w.extra) w.at.rows (n ∷ o) left (wrapped_by w.marks q)
        (act (wrap wrap_list) ∷ nt Bang? ∷ σ) (the bracket_r) bracket_r h tt tt ready.seen.few (wrapped_fine q w.marks f ready.marks)

    module _ (r : Result Cursor Refusal) (e : r ≡ moved_to w.at.end w.at.rows (head_of (from s w.at.end))) where
      pub close_bad : (x : Refusal) → r ≡ Err x → WrapHalts s w (closers 1) x
      close_bad x y cells n a p m z o left q σ l f =
          close_past cells n a p m z o left q σ f
          ∙ moved_halts s w.at.end w.at.rows r x e y (st (put cells n kind_type_reference a 0 p m z w.extra) w.at.rows (n ∷ o) w.at.end (suc left) (wrapped_by w.marks q)) (act (wrap wrap_list) ∷ nt Bang? ∷ σ)

      module _ (d : Cursor) (y : r ≡ Ok d) where
        abbrev behind : Wrapped
        behind = record { at = d; extra = w.extra * 4 + wrap_list; marks = w.marks }

        pub close_marked : Marked s behind most_inside
        close_marked =
            let v = next_of s w.at.end w.at.rows r d e y in
            let b = ahead s w.at ready.seen.within ready.seen.looks (λ z. let x : ⊥ = omega arith in x) in
            record { seen = record { short = ready.seen.short; within = omega arith; few = omega (arith, ready.seen.few); looks = v.looks }; marks = ready.marks; small = omega (arith, ready.small) }

        close_goes : (cells : List ℕ) (n a p m z : ℕ) (o : List ℕ) (left : ℕ) (q : Counts) (σ : Stack) → 7 * n + 7 ≤ length cells → over_counts q ≡ false →
            inside s w cells n a p m z o left q (closers 1 ++ σ) ≡ inside s behind cells n a p m z o (suc left) q (bang_stack ++ σ)
        close_goes cells n a p m z o left q σ l f =
            let v = next_of s w.at.end w.at.rows r d e y in
            close_past cells n a p m z o left q σ f
            ∙ wrap_told cells w.at.rows o w.at.end (suc left) (wrapped_by w.marks q) (nt Bang? ∷ σ) (from s w.at.end) n kind_type_reference a 0 p m z w.extra wrap_list l
            ∙ rw (v.stop, v.rows) refl

        pub close_says : (t : Result Wrapped Refusal) → Says s behind bang_stack 0 t → Says s w (closers 1) 1 t
        unfolding four
        close_says (Ok u) g =
            let v = next_of s w.at.end w.at.rows r d e y in
            let b = ahead s w.at ready.seen.within ready.seen.looks (λ z. let x : ⊥ = omega arith in x) in
            record {
              seen = g.seen;
              rows = g.rows ∙ v.rows;
              on = omega (arith, g.on);
              marks = g.marks;
              small = λ j l.
                  let i : suc j + w.marks ≡ suc (j + w.marks) = omega arith in
                  let k : 0 + suc j + u.marks ≡ 1 + j + u.marks = omega arith in
                  rw k at (g.small (suc j) (rw i (omega arith)));
              goes = λ cells n a p m z o left q σ l f.
                  close_goes cells n a p m z o left q σ l f ∙ g.goes cells n a p m z o (suc left) q σ l f
                  ∙ (let i : 0 + suc left ≡ 1 + left = omega arith in ap (λ (x : ℕ). inside s u cells n a p m z o x q σ) i);
            }
        close_says (Err x) g = λ cells n a p m z o left q σ l f. close_goes cells n a p m z o left q σ l f ∙ g cells n a p m z o (suc left) q σ l f

-- MORE BRACKETS
closers_add : (i k : ℕ) → closers (i + k) ≡ closers i ++ closers k
closers_add zero k = rw (zero-add k) refl
closers_add (suc i) k = rw (suc-add i k) (ap (λ (σ : Stack). tm (the bracket_r) ∷ act (wrap wrap_list) ∷ nt Bang? ∷ σ) (closers_add i k))

-- more wrappers, a larger bound
four_up : (a k : ℕ) → four a ≤ four (k + a)
unfolding four
four_up a zero = rw (zero-add a) (omega arith)
four_up a (suc k) = rw (suc-add k a) (omega (arith, four_up a k))

pub four_mono : (a b : ℕ) → a ≤ b → four a ≤ four b
four_mono a b h = let e : b ≡ (b - a) + a = omega arith in rw e (four_up a (b - a))

pub four_14 : (a : ℕ) → a ≤ 14 → four a ≤ most_before
unfolding four
four_14 a h = four_mono a 14 h

module _ (s : List ℕ) (w : Wrapped) where
  pub none_closed : (most : ℕ) → Marked s w most → Wraps s w w (closers 0) 0
  none_closed most g =
      record {
        seen = g.seen;
        rows = refl;
        on = omega arith;
        marks = g.marks;
        small = λ j l. rw (zero-add j) l;
        goes = λ cells n a p m z o left q σ l f. ap (λ (x : ℕ). inside s w cells n a p m z o x q σ) (sym (zero-add left));
      }

  module _ (v : Wrapped) (i : ℕ) (g : Wraps s w v (closers i) i) where
    -- what the next bracket asks
    pub close_ready : w.extra < four w.marks → i < most_wrappers → Marked s v most_before
    close_ready l h =
        let j : 0 + w.marks ≡ w.marks = zero-add w.marks in
        let k : v.extra < four (i + 0 + v.marks) = g.small 0 (rw j l) in
        record { seen = g.seen; marks = g.marks; small = omega (arith, k, four_14 (i + 0 + v.marks) (omega (arith, g.marks))) }

    pub closed_more : (u : Wrapped) → Wraps s v u (closers 1) 1 → Wraps s w u (closers (i + 1)) (i + 1)
    closed_more u b =
        record {
          seen = b.seen;
          rows = b.rows ∙ g.rows;
          on = omega (arith, g.on, b.on);
          marks = b.marks;
          small = λ j l. let e : 1 + (i + j) + u.marks ≡ i + 1 + j + u.marks = omega arith in rw e at (b.small (i + j) (g.small j l));
          goes = λ cells n a p m z o left q σ l f.
              ap (λ (τ : Stack). inside s w cells n a p m z o left q (τ ++ σ)) (closers_add i 1)
              ∙ ap (λ (τ : Stack). inside s w cells n a p m z o left q τ) (append_assoc (closers i) (closers 1) σ)
              ∙ g.goes cells n a p m z o left q (closers 1 ++ σ) l f
              ∙ b.goes cells n a p m z o (i + left) q σ l f
              ∙ (let e : 1 + (i + left) ≡ i + 1 + left = omega arith in ap (λ (x : ℕ). inside s u cells n a p m z o x q σ) e);
        }

    pub closed_stop : (opened : ℕ) → i < opened → (x : Refusal) → WrapHalts s v (closers 1) x → WrapHalts s w (closers opened) x
    closed_stop opened h x b cells n a p m z o left q σ l f =
        let e : opened ≡ i + (1 + (opened - (i + 1))) = omega arith in
        ap (λ (j : ℕ). inside s w cells n a p m z o left q (closers j ++ σ)) e
        ∙ ap (λ (τ : Stack). inside s w cells n a p m z o left q (τ ++ σ)) (closers_add i (1 + (opened - (i + 1))))
        ∙ ap (λ (τ : Stack). inside s w cells n a p m z o left q τ) (append_assoc (closers i) (closers (1 + (opened - (i + 1)))) σ)
        ∙ g.goes cells n a p m z o left q (closers (1 + (opened - (i + 1))) ++ σ) l f
        ∙ ap (λ (τ : Stack). inside s v cells n a p m z o (i + left) q (τ ++ σ)) (closers_add 1 (opened - (i + 1)))
        ∙ ap (λ (τ : Stack). inside s v cells n a p m z o (i + left) q τ) (append_assoc (closers 1) (closers (opened - (i + 1))) σ)
        ∙ b cells n a p m z o (i + left) q (closers (opened - (i + 1)) ++ σ) l f

    pub closed_all : (opened : ℕ) → opened ≡ i → Wraps s w v (closers opened) opened
    closed_all opened e = rw e g

-- the answer by its case
pub says_typed : (s : List ℕ) (w : Wrapped) (α : Stack) (k : ℕ) (t : Result Wrapped Refusal) (v : Wrapped) → Says s w α k t → t ≡ Ok v → Wraps s w v α k
says_typed s w α k t v g e = subst (λ (t : Result Wrapped Refusal). Says s w α k t) e g

pub says_untyped : (s : List ℕ) (w : Wrapped) (α : Stack) (k : ℕ) (t : Result Wrapped Refusal) (x : Refusal) → Says s w α k t → t ≡ Err x → WrapHalts s w α x
says_untyped s w α k t x g e = subst (λ (t : Result Wrapped Refusal). Says s w α k t) e g
