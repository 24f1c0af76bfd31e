-- What the machine does at a token whose class is known, and where one of a run of parts may follow.
use mathlib.Core.Path.{◌≡◌, refl, sym, ap, ◌∙◌}
use mathlib.Core.Bool.{Bool, true, false, not, ◌&&◌, ◌||◌}
use mathlib.Core.List.{List, [], ◌∷◌, ◌++◌, Memᴰ}
use mathlib.Core.Option.{Option, none, some}
use Prim.Native.Nat.{ℕ, ◌≤◌, ◌<◌}
use lib.Dec.{T}
use lib.ListN.{length}
use borrow.Author.Tests.{le-ltb, lt-ltb}
use Rattle.paper.specs.Grammar.{nt, tm}
use Rattle.paper.specs.Numbers.{most_rows}
use Rattle.paper.specs.Language.{Class, Terminal, hits, Part}
use Rattle.paper.specs.Tokens.{Text, token}
use Rattle.paper.specs.Sizes.{Counts, opens_level, closes_level, over_counts}
use Rattle.paper.specs.declared.Refusal.TheVariants.{TooManyRows}
use Rattle.paper.proofs.Lexing.{from}
use Rattle.paper.proofs.Machine.{fst, choose, step}
use Rattle.paper.proofs.Bools.{T→eq, and_l, and_r, not_eq}
use Rattle.paper_theory.proofs.Theory.{choose_first, choose_null, step_by, step_none}
use Rattle.paper_theory.proofs.Test.{all, implies}
use Rattle.paper.proofs.Tables.{graphql, factored, all_c}
use Rattle.paper_theory.proofs.Checked.{fits}
use Rattle.paper.proofs.Going.{Stack, State, st, halt, go, goes, ended}
use Rattle.text_cursor.specs.declared.Cursor.{Cursor}
use Rattle.text_cursor.specs.Reader.{Looks}
use Rattle.text_cursor.proofs.Steps.{token_of, refuses, refuses_end, is_none, Front, a_token, the_end, front, by_kind}
use Rattle.text_scan.specs.Head.{kind_of}

none_is : {X : Type 0} (o : Option X) → T (is_none o) → o ≡ none
none_is none h = refl
none_is (some x) h = absurd h

-- a token that a terminal hits, and that neither opens nor closes a level
abbrev pub plain_hit : Terminal → Class → Bool
plain_hit w k = hits w k && (not (opens_level k) && not (closes_level k))

-- AT A TOKEN OF CLASS k
module _ (cells : List ℕ) (n : ℕ) (o : List ℕ) (stop left : ℕ) (q : Counts) (σ : Stack) (k : Class) (a e : ℕ) (t : Text) where
  -- it begins the production α of the part
  pub class_first : (p : Part) {α : Stack} → Memᴰ α (factored p) → T (fst graphql α k) →
      go (st cells n o stop left q) (nt p ∷ σ) (token (token_of k a e) t) ≡ go (st cells n o stop left q) (α ++ σ) (token (token_of k a e) t)
  unfolding go
  class_first p m h = ap (goes (st cells n o stop left q) (token_of k a e) t (λ s' τ. go s' τ t)) (step_by fits p (some k) σ (choose_first fits p k m h))

  module _ (w : Terminal) (h : T (plain_hit w k)) where
    hit : hits w k ≡ true
    hit = T→eq (hits w k) (and_l (hits w k) (not (opens_level k) && not (closes_level k)) h)

    shut : opens_level k ≡ false
    shut = not_eq (opens_level k) (and_l (not (opens_level k)) (not (closes_level k)) (and_r (hits w k) (not (opens_level k) && not (closes_level k)) h))

    apart : closes_level k ≡ false
    apart = not_eq (closes_level k) (and_r (not (opens_level k)) (not (closes_level k)) (and_r (hits w k) (not (opens_level k) && not (closes_level k)) h))

    -- it is taken
    pub class_plain : n ≤ most_rows → over_counts q ≡ false → go (st cells n o stop left q) (tm w ∷ σ) (token (token_of k a e) t) ≡ go (st cells n o e left q) σ t
    unfolding go step
    class_plain r f = rw (hit, shut, apart, le-ltb most_rows n r, f) refl

    -- it comes with a row too many
    pub class_rows : most_rows < n → go (st cells n o stop left q) (tm w ∷ σ) (token (token_of k a e) t) ≡ halt (TooManyRows a)
    unfolding go step
    class_rows r = rw (hit, shut, apart, lt-ltb most_rows n r) refl

-- A RUN OF PARTS. Where `star` is `part star` or nothing, and the terminal w stands behind it, and is not there, another part may as well be expected at once:
-- a token that begins none is refused there too
module _ (part star : Part) (w : Terminal) (more : Memᴰ (nt part ∷ nt star ∷ []) (factored star)) (nothing : Memᴰ [] (factored star)) where
  -- w is not there, and the token begins a part, or no part and no run of them
  abbrev pub in_run : Class → Bool
  in_run k = not (hits w k) && (fst graphql (nt part ∷ nt star ∷ []) k || (not (graphql.first star k) && refuses part k))

  nope : (b : Bool) → T (not b) → T b → ⊥
  nope true x y = x
  nope false x y = y

  run_step : (σ : Stack) (k : Class) → T (in_run k) → step graphql (nt star ∷ tm w ∷ σ) (some k) ≡ step graphql (nt part ∷ nt star ∷ tm w ∷ σ) (some k)
  unfolding step refuses
  run_step σ k r = cases (fst graphql (nt part ∷ nt star ∷ []) k) refl (and_r (not (hits w k)) (fst graphql (nt part ∷ nt star ∷ []) k || (not (graphql.first star k) && refuses part k)) r)
    where
      h : T (not (hits w k))
      h = and_l (not (hits w k)) (fst graphql (nt part ∷ nt star ∷ []) k || (not (graphql.first star k) && refuses part k)) r

      cases : (b : Bool) → fst graphql (nt part ∷ nt star ∷ []) k ≡ b → T (b || (not (graphql.first star k) && refuses part k)) → step graphql (nt star ∷ tm w ∷ σ) (some k) ≡ step graphql (nt part ∷ nt star ∷ tm w ∷ σ) (some k)
      cases true e x = step_by fits star (some k) (tm w ∷ σ) (choose_first fits star k more (rw e tt))
      cases false e x =
          step_by fits star (some k) (tm w ∷ σ) (choose_null fits star k nothing tt (nope (graphql.first star k) (and_l (not (graphql.first star k)) (refuses part k) x)))
          ∙ rw (not_eq (hits w k) h) refl
          ∙ sym (step_none fits part (some k) (nt star ∷ tm w ∷ σ) (none_is (choose graphql part (some k)) (and_r (not (graphql.first star k)) (refuses part k) x)))

  run_end : (σ : Stack) → choose graphql star none ≡ some [] → T (refuses_end part) → step graphql (nt star ∷ tm w ∷ σ) none ≡ step graphql (nt part ∷ nt star ∷ tm w ∷ σ) none
  unfolding step refuses_end
  run_end σ e r = step_by fits star none (tm w ∷ σ) e ∙ sym (step_none fits part none (nt star ∷ tm w ∷ σ) (none_is (choose graphql part none) r))

  pub run_more : (s : List ℕ) (c : Cursor) → c.stop ≤ length s → Looks s c → (g : ℕ → Bool) → T (g c.kind) → T (all (λ k. implies (g (kind_of k)) (in_run k)) all_c) → choose graphql star none ≡ some [] → T (refuses_end part) →
      (S : State) (σ : Stack) → go S (nt star ∷ tm w ∷ σ) (from s c.stop) ≡ go S (nt part ∷ nt star ∷ tm w ∷ σ) (from s c.stop)
  unfolding go
  run_more s c h l g t a e r S σ = cases (front s c h l)
    where
      cases : Front s c → go S (nt star ∷ tm w ∷ σ) (from s c.stop) ≡ go S (nt part ∷ nt star ∷ tm w ∷ σ) (from s c.stop)
      cases (a_token k d f i j m) = rw f (ap (goes S (token_of k c.start c.end) (from s c.end) (λ s' τ. go s' τ (from s c.end))) (run_step σ k (by_kind in_run g a k c.kind d t)))
      cases (the_end d f i j) = rw f (ap (ended S c.start) (run_end σ e r))
