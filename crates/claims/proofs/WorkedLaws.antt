-- How the text of a worked example is shown to be read into its rows, and how a test is shown to pass no row of it: by computing.
use mathlib.Core.Path.{◌≡◌, refl, sym, ap, ◌∙◌, subst}
use mathlib.Core.Bool.{Bool, true, false, true≢false, not}
use mathlib.Core.List.{List, [], ◌∷◌}
use Prim.Native.Nat.{ℕ, ◌<◌}
use native.Mathlib.Omega.{arith}
use lib.ListN.{replicate, length-replicate}
use lib.Dec.{T}
use Rattle.paper.proofs.Bools.{T→eq}
use Rattle.paper.specs.Grammar.{nt}
use Rattle.paper.specs.Numbers.{rows_size}
use Rattle.paper.specs.Language.{Class, Mark, Part}
use Rattle.paper.specs.Rows.{Row, rows_of}
use Rattle.paper.specs.Reading.{tokens_of, classes_of, rows_are, TextAnswer, accepts}
use Rattle.paper.proofs.Machine.{run, Answer, stopped}
use Rattle.paper.proofs.Machine.{accepted as derived}
use Rattle.paper.proofs.Tables.{graphql}
use Rattle.paper.proofs.Lexing.{from}
use Rattle.paper.proofs.Going.{Out, start, whole, halt, go}
use Rattle.paper.proofs.Worked.{rows_by}
use Rattle.paper_theory.proofs.ReadingLaws as reading
use Rattle.paper_theory.proofs.GoingSaid.{going_whole}
use Rattle.paper_query.specs.Constructs.{Doc, count}
use Rattle.paper_plan.proofs.ExamplesBlocks.{up_to, up_to_is}

-- the machine that reads the bytes s as a text of the part p
abbrev pub goes : Part → List ℕ → Out
goes p s = go (start (replicate rows_size 0)) (nt p ∷ []) (from s 0)

abbrev pub is_whole : Out → Bool
is_whole (whole s) = true
is_whole (halt r) = false

module _ (p : Part) (s : List ℕ) (rs : List Row) (read : is_whole (goes p s) ≡ true) where
  with_events : {qs : List Row} → TextAnswer p (from s 0) (rows_are qs) → {es : List _} → run graphql (nt p ∷ []) (classes_of (from s 0)) ≡ derived es →
      rows_of es (tokens_of (from s 0)) ≡ rs → TextAnswer p (from s 0) (rows_are rs)
  with_events (accepts w r c) {es} e q = subst (λ (qs : List Row). TextAnswer p (from s 0) (rows_are qs)) q (accepts {es = es} w (reading.accepts p (classes_of (from s 0)) e) c)

  of_out : {es : List _} → run graphql (nt p ∷ []) (classes_of (from s 0)) ≡ derived es → rows_of es (tokens_of (from s 0)) ≡ rs → (o : Out) → goes p s ≡ o → TextAnswer p (from s 0) (rows_are rs)
  of_out e q (whole m) w = with_events (going_whole p (from s 0) (replicate rows_size 0) m (length-replicate {A = ℕ} rows_size 0) w).1 e q
  of_out e q (halt r) w = absurd (true≢false (sym read ∙ ap is_whole w))

  -- its rows are those that `rows_by` computes, if there are some
  pub said_by : (n : Row) (ns : List Row) → rs ≡ n ∷ ns → rows_by p s ≡ rs → TextAnswer p (from s 0) (rows_are rs)
  said_by n ns some are = of_run (run graphql (nt p ∷ []) (classes_of (from s 0))) refl
    where
      of_run : (a : Answer Class Mark) → run graphql (nt p ∷ []) (classes_of (from s 0)) ≡ a → TextAnswer p (from s 0) (rows_are rs)
      of_run (derived es) e = of_out e (rw e at are) (goes p s) refl
      of_run (stopped k) e = let q : [] ≡ rs = rw e at are in let z : ◌≡◌ {A = ℕ} 0 1 = cc in absurd (omega arith)

-- what no row passes
pub silent : (d : Doc) (p : ℕ → Bool) → up_to (λ i. not (p i)) (count d) ≡ true → (i : ℕ) → i < count d → T (p i) → ⊥
silent d p h i l t = true≢false (sym (up_to_is (λ j. not (p j)) (count d) h i l) ∙ ap not (T→eq (p i) t))
