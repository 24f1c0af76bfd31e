-- In a table with right framing and sizes, members and their arguments have at most seven wrappers.
use mathlib.Core.Path.{◌≡◌, ap}
use mathlib.Core.Bool.{Bool, true, false, cond, true≢false}
use mathlib.Core.Option.{Option, none, some}
use mathlib.Core.List.{List, []}
use Prim.Native.Nat.{ℕ, ◌<◌}
use native.Mathlib.Decide.{dec_lt}
use native.Mathlib.Omega.{arith}
use lib.ListN.{length, get_or-eq_default}
use Rattle.paper.proofs.Bools.{and_right}
use Rattle.paper_table.specs.Lists.{all_of, find}
use Rattle.paper_table.specs.Types.{Member, table_of, is_union, blank_definition, tag_nothing, name_only, member_named}
use Rattle.paper_query.specs.Enclosing.{FieldIs, typename, member, unknown, definition_at, is_typename, field_of, or_missing, field_named}
use Rattle.table_types.specs.Sizes.{slim_member, slim_definition}
use Rattle.table_types.proofs.Fitting.{references_slim, all_at}
use Rattle.query_place_types.specs.Shapes.{slim, slim_argument}
use Rattle.query_due_types.specs.Dues.{Fitted}
use Rattle.query_place_types.proofs.FoundLaws.{find_passes}

-- a field that is known is a member
member_found : (o : Option Member) (m : Member) → or_missing o ≡ member m → o ≡ some m
member_found none m e = absurd (true≢false cc)
member_found (some x) m e = ap some (let z : ◌≡◌ {A = FieldIs} (member x) (member m) = e in cc)

module _ (t : List ℕ) (f : Fitted t) where
  -- the members of a definition
  pub slim_at : (k : ℕ) → slim_definition (definition_at (table_of t) k) ≡ true
  unfolding all_of
  slim_at k = go (dec_lt k (length (table_of t)))
    where
      go : Dec (k < length (table_of t)) → slim_definition (definition_at (table_of t) k) ≡ true
      go (yes h) = all_at slim_definition (blank_definition tag_nothing) (table_of t) (references_slim t f.framed f.counted) k h
      go (no h) = ap slim_definition (get_or-eq_default (table_of t) (blank_definition tag_nothing) (omega arith))

  found_slim : (k : ℕ) (n : List ℕ) (m : Member) → field_of (table_of t) k n ≡ some m → slim_member m ≡ true
  unfolding field_of
  found_slim k n m e = go (is_union (definition_at (table_of t) k)) e
    where
      go : (b : Bool) → cond b none (find (member_named n) (definition_at (table_of t) k).members) ≡ some m → slim_member m ≡ true
      go true q = let z : ◌≡◌ {A = Option Member} none (some m) = q in absurd (true≢false cc)
      go false q = find_passes (member_named n) slim_member (name_only tag_nothing []) (definition_at (table_of t) k).members m (slim_at k) q

  -- the arguments of a field that is known
  pub arguments_slim : (above : Option ℕ) (n : List ℕ) (m : Member) → field_named (table_of t) above n ≡ member m → all_of slim_argument m.arguments ≡ true
  arguments_slim none n m e = let z : ◌≡◌ {A = FieldIs} unknown (member m) = e in absurd (true≢false cc)
  arguments_slim (some k) n m e = go (is_typename n) e
    where
      go : (b : Bool) → cond b typename (or_missing (field_of (table_of t) k n)) ≡ member m → all_of slim_argument m.arguments ≡ true
      go true q = let z : ◌≡◌ {A = FieldIs} typename (member m) = q in absurd (true≢false cc)
      go false q = and_right (slim m.type) (all_of slim_argument m.arguments) (found_slim k n m (member_found (field_of (table_of t) k n) m q))
