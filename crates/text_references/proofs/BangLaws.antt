-- A `!`, or none, in a type reference.
use mathlib.Core.Path.{◌≡◌, refl, sym, ap, ◌∙◌}
use mathlib.Core.Bool.{false, not}
use mathlib.Core.List.Memᴰ
use mathlib.Core.List.{List, [], ◌∷◌}
use Prim.Native.Nat.{ℕ, suc, ◌+◌, ◌*◌, ◌≤◌, ◌<◌}
use native.Mathlib.Nat.{zero-add}
use native.Mathlib.Omega.{arith}
use Rattle.std.specs.Prelude.{Result, Ok, Err}
use Rattle.paper.specs.Grammar.{nt, tm, act}
use Rattle.paper.specs.Numbers.{most_wrappers, kind_type_reference, wrap_non_null}
use Rattle.paper.specs.Language.{language, the, bang, wrapper, wrap, Bang?}
use Rattle.paper.specs.Sizes.{Counts, over_counts}
use Rattle.paper.specs.declared.Refusal.{Refusal}
use Rattle.paper.specs.declared.Refusal.TheVariants.{TooMany}
use Rattle.paper.proofs.Lexing.{from}
use Rattle.paper.proofs.Machine.{choose}
use Rattle.paper.proofs.Tables.{factored}
use Rattle.paper.proofs.Going.{Stack, st, go}
use Rattle.text_scan.specs.Head.{head_of, kind_of}
use Rattle.text_cursor.specs.Reader.{moved_to}
use Rattle.text_cursor.specs.declared.Cursor.{Cursor}
use Rattle.text_cursor.proofs.Steps.{is, not_is, null, first, plain, too_many}
use Rattle.text_cursor.proofs.Cells.{put, wrapper_counted, wrap_told}
use Rattle.text_references.specs.declared.Wrapped.{Wrapped}
use Rattle.text_references.specs.Types.{wrapped_by, bang_stack, four, Marked, inside, Wraps, WrapHalts}
use Rattle.text_references.proofs.CountsLaws.{wrapped_fine, wrapped_over}
use Rattle.text_references.proofs.MovedLaws.{next_of, moved_halts, ahead}

module _ (s : List ℕ) (w : Wrapped) {most : ℕ} (ready : Marked s w most) where
  pub bang_none : (w.at.kind ≡ kind_of bang → ⊥) → Wraps s w w bang_stack 0
  unfolding factored language choose
  bang_none h =
      record {
        seen = ready.seen;
        rows = refl;
        on = omega arith;
        marks = ready.marks;
        small = λ j l. rw (zero-add j) l;
        goes = λ cells n a p m z o left q σ l k.
            null s w.at ready.seen.within ready.seen.looks (put cells n kind_type_reference a 0 p m z w.extra) w.at.rows (n ∷ o) left (wrapped_by w.marks q)
            σ Bang? {α = []} (Memᴰ.head refl) tt refl (λ y. not (is (kind_of bang) y)) (not_is (kind_of bang) w.at.kind h) tt
            ∙ ap (λ (x : ℕ). inside s w cells n a p m z o x q σ) (sym (zero-add left));
      }

  -- the machine at a `!`: its mark is counted, and it is looked at
  bang_first : w.at.kind ≡ kind_of bang → (cells : List ℕ) (n a p m z : ℕ) (o : List ℕ) (left : ℕ) (q : Counts) (σ : Stack) →
      inside s w cells n a p m z o left q (nt Bang? ∷ σ)
      ≡ go (st (put cells n kind_type_reference a 0 p m z w.extra) w.at.rows (n ∷ o) w.at.stop left (wrapped_by (w.marks + 1) q)) (tm (the bang) ∷ act (wrap wrap_non_null) ∷ σ) (from s w.at.stop)
  unfolding factored language
  bang_first h cells n a p m z o left q σ =
      first s w.at ready.seen.within ready.seen.looks (put cells n kind_type_reference a 0 p m z w.extra) w.at.rows (n ∷ o) left (wrapped_by w.marks q)
      σ Bang? {α = act wrapper ∷ tm (the bang) ∷ act (wrap wrap_non_null) ∷ []} (Memᴰ.tail (Memᴰ.head refl)) bang h tt
      ∙ wrapper_counted (put cells n kind_type_reference a 0 p m z w.extra) w.at.rows (n ∷ o) w.at.stop left (wrapped_by w.marks q) (tm (the bang) ∷ act (wrap wrap_non_null) ∷ σ) (from s w.at.stop)

  pub bang_many : w.at.kind ≡ kind_of bang → most_wrappers ≤ w.marks → WrapHalts s w bang_stack (TooMany w.at.start)
  bang_many h k cells n a p m z o left q σ l f =
      bang_first h cells n a p m z o left q σ
      ∙ too_many s w.at ready.seen.within ready.seen.looks (put cells n kind_type_reference a 0 p m z w.extra) w.at.rows (n ∷ o) left (wrapped_by (w.marks + 1) q)
      (act (wrap wrap_non_null) ∷ σ) (the bang) bang h tt tt ready.seen.few (wrapped_over q (w.marks + 1) f (omega arith))

  bang_past : w.at.kind ≡ kind_of bang → w.marks < most_wrappers → (cells : List ℕ) (n a p m z : ℕ) (o : List ℕ) (left : ℕ) (q : Counts) (σ : Stack) → over_counts q ≡ false →
      inside s w cells n a p m z o left q (nt Bang? ∷ σ)
      ≡ go (st (put cells n kind_type_reference a 0 p m z w.extra) w.at.rows (n ∷ o) w.at.end left (wrapped_by (w.marks + 1) q)) (act (wrap wrap_non_null) ∷ σ) (from s w.at.end)
  bang_past h k cells n a p m z o left q σ f =
      bang_first h cells n a p m z o left q σ
      ∙ plain s w.at ready.seen.within ready.seen.looks (put cells n kind_type_reference a 0 p m z w.extra) w.at.rows (n ∷ o) left (wrapped_by (w.marks + 1) q)
      (act (wrap wrap_non_null) ∷ σ) (the bang) bang h tt tt ready.seen.few (wrapped_fine q (w.marks + 1) f (omega arith))

  module _ (h : w.at.kind ≡ kind_of bang) (k : w.marks < most_wrappers) (r : Result Cursor Refusal) (e : r ≡ moved_to w.at.end w.at.rows (head_of (from s w.at.end))) where
    pub bang_bad : (x : Refusal) → r ≡ Err x → WrapHalts s w bang_stack x
    bang_bad x y cells n a p m z o left q σ l f =
        bang_past h k cells n a p m z o left q σ f
        ∙ moved_halts s w.at.end w.at.rows r x e y (st (put cells n kind_type_reference a 0 p m z w.extra) w.at.rows (n ∷ o) w.at.end left (wrapped_by (w.marks + 1) q)) (act (wrap wrap_non_null) ∷ σ)

    pub bang_done : (d : Cursor) → r ≡ Ok d → Wraps s w (record { at = d; extra = w.extra * 4 + wrap_non_null; marks = w.marks + 1 }) bang_stack 0
    unfolding four
    bang_done d y =
        let v = next_of s w.at.end w.at.rows r d e y in
        let b = ahead s w.at ready.seen.within ready.seen.looks (λ z. let x : ⊥ = omega arith in x) in
        record {
          seen = record { short = ready.seen.short; within = omega arith; few = omega (arith, ready.seen.few); looks = v.looks };
          rows = v.rows;
          on = omega arith;
          marks = omega arith;
          small = λ j l. let g : 0 + j + (w.marks + 1) ≡ suc (j + w.marks) = omega arith in rw g (omega arith);
          goes = λ cells n a p m z o left q σ l f.
              bang_past h k cells n a p m z o left q σ f
              ∙ wrap_told cells w.at.rows o w.at.end left (wrapped_by (w.marks + 1) q) σ (from s w.at.end) n kind_type_reference a 0 p m z w.extra wrap_non_null l
              ∙ rw (v.stop, v.rows, zero-add left) refl;
        }
