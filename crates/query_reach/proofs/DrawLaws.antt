-- What a definition reaches, as a graph of definitions: a set that holds what it spreads, and what each member spreads, holds all that it reaches.
use mathlib.Core.Path.{◌≡◌, refl, sym, subst}
use mathlib.Core.Logic.{◌⊎◌, inl, inr, ⊎_elim}
use mathlib.Core.Bool.{Bool, true, false}
use mathlib.Core.List.{List}
use Prim.Native.Nat.{ℕ, ◌<◌, ◌≤◌}
use native.Mathlib.Omega.{arith}
use lib.ListN.{get_or}
use lib.Dec.{eqb}
use borrow.Author.Tests.{eqb-true, eqb-false}
use Rattle.paper_query.specs.Constructs.{Doc, count}
use Rattle.paper_query.specs.Reaching.{Within, Spreads, Reaches, Circles}
use Rattle.paper_query.specs.Reaching.Reaches.{here, through}
use Rattle.query_rows.specs.Rowed.{Decides}
use Rattle.query_spreads.specs.Owners.{Defines, Owned}
use Rattle.query_spreads.proofs.OwnerLaws.{definition_within}
use Rattle.query_reach_pass.specs.Marks.{Draws, stamp, Reached}
use Rattle.query_reach_pass.proofs.DrawLaws.{draws_here, draws_on, draws_defines}

-- nothing else is reached than what its spreads, and those of fragments that it reaches, lead to
module _ (d : Doc) (a : ℕ) (M : ℕ → Type 0) (start : (s f : ℕ) → Within d a s → Spreads d s f → M f)
    (step : (g s f : ℕ) → M g → Within d g s → Spreads d s f → M f) where
  reaches_closed : {i : ℕ} → Reaches d a i → Within d a i ⊎ ((g : ℕ) × M g × Within d g i)
  reaches_closed (here w) = inl w
  reaches_closed (through {s = s} {f = f} r p w) =
      inr (f, ⊎_elim (λ v. start s f v p) (λ v. step v.0 s f v.1 v.2 p) (reaches_closed r), w)

  pub draws_closed : (f : ℕ) → Draws d a f → M f
  draws_closed f r = ⊎_elim (λ v. start r.at f v r.spreads) (λ v. step v.0 r.at f v.1 v.2 r.spreads) (reaches_closed r.reaches)

-- what a row stands in tells what reaches it
pub reaches_either : (d : Doc) (a i : ℕ) → Reaches d a i → Within d a i ⊎ ((f : ℕ) × Draws d a f × Within d f i)
reaches_either d a i r = reaches_closed d a (Draws d a) (draws_here d a) (draws_on d a) r

-- a circle is a fragment that reaches a spread of itself
pub circles_draws : (d : Doc) (f : ℕ) → Circles d f → Draws d f f
circles_draws d f c = record { at = c.at; reaches = c.reaches; spreads = c.spreads }

pub draws_circles : (d : Doc) (f : ℕ) → Draws d f f → Circles d f
draws_circles d f r = record { at = r.at; reaches = r.reaches; spreads = r.spreads }

-- a test on numbers that decides
pub decides_eq : (x y : ℕ) (P : Type 0) → (x ≡ y → P) → (P → x ≡ y) → Decides (eqb x y) P
decides_eq x y P f g = go (eqb x y) refl
  where
    go : (b : Bool) → eqb x y ≡ b → Decides b P
    go true e = f (eqb-true x y e)
    go false e = λ p. eqb-false x y e (g p)

-- a definition reaches the rows that it owns, and those of the fragments that it reaches
module _ (d : Doc) (owner mark : List ℕ) (o : ℕ) (w : Owned d owner) (r : Reached d o mark) (h : Defines d o) where
  abbrev pub Hit : ℕ → Type 0
  Hit i = (get_or owner i 0 ≡ o) ⊎ ((get_or owner i 0 < count d) × (get_or mark (get_or owner i 0) 0 ≡ stamp o))

  pub reaches_hit : (i : ℕ) → i < count d → Reaches d o i → Hit i
  reaches_hit i l x = ⊎_elim (λ v. inl ((w.owns i l).sole o h v)) (λ v. inr (within v.0 v.1 v.2)) (reaches_either d o i x)
    where
      within : (f : ℕ) → Draws d o f → Within d f i → (get_or owner i 0 < count d) × (get_or mark (get_or owner i 0) 0 ≡ stamp o)
      within f x v =
          let e : get_or owner i 0 ≡ f = (w.owns i l).sole f (draws_defines d o f x) v in
          rw e (x.spreads.known, r.complete f x)

  pub hit_reaches : (i : ℕ) → i < count d → Hit i → Reaches d o i
  hit_reaches i l x = ⊎_elim
      (λ v. here (subst (λ (k : ℕ). Within d k i) v ((w.owns i l).stands (subst (λ (k : ℕ). k < count d) (sym v) (definition_within d o h)))))
      (λ v. let y = r.sound (get_or owner i 0) v.1 in through y.reaches y.spreads ((w.owns i l).stands v.0))
      x

  -- by three tests
  pub reaches_own : (i : ℕ) → i < count d → get_or owner i 0 ≡ o → Reaches d o i
  reaches_own i l e = hit_reaches i l (inl e)

  pub reaches_none : (i : ℕ) → i < count d → (get_or owner i 0 ≡ o → ⊥) → count d ≤ get_or owner i 0 → Reaches d o i → ⊥
  reaches_none i l u m x = ⊎_elim u (λ v. omega (arith, v.0)) (reaches_hit i l x)

  pub reaches_mark : (i : ℕ) → i < count d → (get_or owner i 0 ≡ o → ⊥) → get_or owner i 0 < count d → Decides (eqb (get_or mark (get_or owner i 0) 0) (stamp o)) (Reaches d o i)
  reaches_mark i l u m = decides_eq (get_or mark (get_or owner i 0) 0) (stamp o) (Reaches d o i) (λ e. hit_reaches i l (inr (m, e))) (λ x. ⊎_elim (λ e. absurd (u e)) (λ v. v.1) (reaches_hit i l x))
