-- Marks: what those of a search from a fragment say of it; how large they are.
use mathlib.Core.Path.{◌≡◌}
use mathlib.Core.List.{List}
use Prim.Native.Nat.{ℕ, zero, suc, ◌≤◌}
use native.Mathlib.Omega.{arith}
use lib.ListN.{get_or, replicate, length-replicate}
use lib.Dec.{eqb, eqb→eq}
use Rattle.paper.specs.Numbers.{kind_fragment}
use Rattle.paper_query.specs.Constructs.{Doc, count, kind_of}
use Rattle.paper_query.specs.Rule8Circle.{ReachesItself}
use Rattle.query_rows.specs.Rowed.{Decides, room_of}
use Rattle.query_reach_pass.specs.Marks.{Stamped, stamp, Reached}
use Rattle.query_reach.proofs.DrawLaws.{circles_draws, draws_circles, decides_eq}

pub circle_not : (d : Doc) (i : ℕ) → (kind_of d i ≡ kind_fragment → ⊥) → ReachesItself d i → ⊥
circle_not d i n x = n (eqb→eq (kind_of d i) kind_fragment x.fragment)

pub circle_decides : (d : Doc) (i : ℕ) (mark : List ℕ) → kind_of d i ≡ kind_fragment → Reached d i mark → Decides (eqb (get_or mark i 0) (stamp i)) (ReachesItself d i)
circle_decides d i mark e r =
    decides_eq (get_or mark i 0) (stamp i) (ReachesItself d i) (λ q. record { fragment = rw e tt; circles = draws_circles d i (r.sound i q) }) (λ x. r.complete i (circles_draws d i x.circles))

-- marks that are none above m are none above a larger number; cleared, none is above 0
pub stamped_up : {d : Doc} {m k : ℕ} {mark : List ℕ} → Stamped d m mark → m ≤ k → Stamped d k mark
stamped_up x l = record { size = x.size; most = λ i. omega (arith, x.most i) }

pub stamped_none : (d : Doc) {mark : List ℕ} → mark ≡ replicate (room_of (count d)) 0 → Stamped d 0 mark
stamped_none d e = rw e (record { size = length-replicate {A = ℕ} (room_of (count d)) 0; most = λ i. none (room_of (count d)) i })
  where
    none : (n i : ℕ) → get_or (replicate n 0) i 0 ≤ 0
    none zero i = omega arith
    none (suc n) zero = omega arith
    none (suc n) (suc i) = none n i
