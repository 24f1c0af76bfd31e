-- What the search begins with, and when there is none.
use mathlib.Core.Path.{◌≡◌, sym, ap, subst, ◌∙◌}
use mathlib.Core.List.{List}
use Prim.Native.Nat.{ℕ, ◌<◌}
use native.Mathlib.Omega.{arith}
use lib.ListN.{get_or, replicate}
use Rattle.paper_query.specs.Constructs.{count}
use Rattle.paper_query.specs.Reaching.{Within, Reaches}
use Rattle.paper_query.specs.Reaching.Reaches.{here}
use Rattle.query_rows.specs.Rowed.{doc_of, room_of}
use Rattle.query_rows.proofs.RowsIn.{rows_count}
use Rattle.query_rows.proofs.Rooms.{room_rows}
use Rattle.query_spreads.specs.Owners.{Defines, Owned}
use Rattle.query_spreads.proofs.OwnerLaws.{definition_within}
use Rattle.query_reach_pass.specs.Marks.{Stamped}
use Rattle.query_reach.proofs.MarkLaws.{stamped_none}

module _ (s rows : List ℕ) (n op : ℕ) where
  -- zeros are marks of no search
  pub zeros_stamped : {mark : List ℕ} → mark ≡ replicate (room_of n) 0 → Stamped (doc_of s rows n) op mark
  zeros_stamped e =
      let z = stamped_none (doc_of s rows n) (e ∙ ap (λ (k : ℕ). replicate k 0) (sym (room_rows rows n))) in
      record { size = z.size; most = λ i. omega (arith, z.most i) }

  -- a definition reaches what stands in it
  pub owner_reaches : {owner : List ℕ} → Owned (doc_of s rows n) owner → Defines (doc_of s rows n) op → (i : ℕ) → i < n → get_or owner i 0 ≡ op → Reaches (doc_of s rows n) op i
  owner_reaches {owner = owner} w h i l e =
      let c = rows_count rows n in
      let x = w.owns i (omega arith) in
      here (subst (λ (k : ℕ). Within (doc_of s rows n) k i) e (x.stands (subst (λ (k : ℕ). k < count (doc_of s rows n)) (sym e) (definition_within (doc_of s rows n) op h))))
