-- A row stands in one definition at most: where it is told from its parent's.
use mathlib.Core.Path.{◌≡◌, refl, ap, subst, ◌∙◌}
use mathlib.Core.Logic.{⊎_elim}
use mathlib.Core.Bool.{Bool, false, not}
use mathlib.Core.List.{List}
use Prim.Native.Nat.{ℕ, ◌+◌, ◌<◌, ◌≤◌}
use native.Mathlib.Decide.{dec_lt, ℕ_discrete}
use native.Mathlib.Omega.{arith}
use lib.ListN.{length, get_or, set, length-set, get_or-eq_default}
use lib.Seq.{get_or-set_same, get_or-set_other}
use lib.Dec.{T, T_not}
use borrow.Author.Tests.{ne_eqb}
use Rattle.paper.specs.Numbers.{most_rows, no_parent, kind_operation, kind_fragment}
use Rattle.paper.specs.Rows.{Row}
use Rattle.paper_query.specs.Constructs.{Doc, count, no_row, row_of, kind_of, parent_of}
use Rattle.paper_query.specs.Reaching.{is_definition, Within}
use Rattle.paper_query.specs.Reaching.Within.{itself, deeper}
use Rattle.query_rows.specs.Rowed.{doc_of, Rowed, room_of}
use Rattle.query_rows.proofs.RowsIn.{rows_count, parent_before}
use Rattle.query_spreads.specs.Owners.{Defines, Owner, Owned, OwnedTo}

-- a row that passes what no row does not is one of the document's
pub row_within : (d : Doc) (p : Row → Bool) (i : ℕ) → p no_row ≡ false → T (p (row_of d i)) → i < count d
row_within d p i e h = go (dec_lt i (count d))
  where
    go : Dec (i < count d) → i < count d
    go (yes l) = l
    go (no l) =
        let q : row_of d i ≡ no_row = get_or-eq_default d.rows no_row (omega arith) in
        absurd (subst T (ap p q ∙ e) h)

pub definition_within : (d : Doc) (a : ℕ) → Defines d a → a < count d
definition_within d a h = row_within d is_definition a refl h

-- what is no row stands in no definition
within_none : (d : Doc) (a : ℕ) {i : ℕ} → count d ≤ no_parent → Defines d a → Within d a i → count d ≤ i → ⊥
within_none d a m h itself l = let k = definition_within d a h in omega arith
within_none d a m h (deeper {i = i} n w) l =
    let q : parent_of d i ≡ no_parent = ap (λ (r : Row). r.parent) (get_or-eq_default d.rows no_row l) in
    within_none d a m h w (omega arith)

-- a definition's owner is itself
pub owner_itself : (d : Doc) (i : ℕ) → count d ≤ most_rows → Defines d i → Owner d i i
owner_itself d i m h = record {
  most = let k = definition_within d i h in omega arith;
  defines = λ _. h;
  stands = λ _. itself;
  sole = λ a _ w. go a w h;
}
  where
    go : (a : ℕ) {i : ℕ} → Within d a i → Defines d i → i ≡ a
    go a itself h = refl
    go a (deeper {i = i} n w) h = absurd (T_not (is_definition (row_of d i)) n h)

-- a row that is none has its parent's
pub owner_below : (d : Doc) (i o : ℕ) → T (not (is_definition (row_of d i))) → Owner d (parent_of d i) o → Owner d i o
owner_below d i o n p = record {
  most = p.most;
  defines = p.defines;
  stands = λ l. deeper n (p.stands l);
  sole = λ a h w. go a h w n (p.sole a h);
}
  where
    go : (a : ℕ) {i : ℕ} → Defines d a → Within d a i → T (not (is_definition (row_of d i))) → (Within d a (parent_of d i) → o ≡ a) → o ≡ a
    go a h itself n f = absurd (T_not (is_definition (row_of d a)) n h)
    go a h (deeper _ w) n f = f w

-- what is no row has none
pub owner_none : (d : Doc) (i : ℕ) → count d ≤ most_rows → count d ≤ i → Owner d i no_parent
owner_none d i m l = record {
  most = omega arith;
  defines = λ k. absurd (omega arith);
  stands = λ k. absurd (omega arith);
  sole = λ a h w. absurd (within_none d a m h w l);
}

-- which kinds define
pub operation_defines : (d : Doc) (i : ℕ) → kind_of d i ≡ kind_operation → Defines d i
operation_defines d i e = rw e tt

pub fragment_defines : (d : Doc) (i : ℕ) → kind_of d i ≡ kind_fragment → Defines d i
fragment_defines d i e = rw e tt

pub other_defines_not : (d : Doc) (i : ℕ) → (kind_of d i ≡ kind_operation → ⊥) → (kind_of d i ≡ kind_fragment → ⊥) → T (not (is_definition (row_of d i)))
other_defines_not d i o f = rw (ne_eqb (kind_of d i) kind_operation o, ne_eqb (kind_of d i) kind_fragment f) tt

-- row by row
pub owned_none : (d : Doc) (owner : List ℕ) → length owner ≡ room_of (count d) → OwnedTo d 0 owner
owned_none d owner l = record { size = l; owns = λ j h. absurd (omega arith) }

pub owned_more : (d : Doc) (owner : List ℕ) (i o : ℕ) → i < room_of (count d) → OwnedTo d i owner → Owner d i o → OwnedTo d (i + 1) (set owner i o)
owned_more d owner i o m w x = record { size = length-set owner i o ∙ w.size; owns = λ j h. go j h (ℕ_discrete j i) }
  where
    go : (j : ℕ) → j < i + 1 → Dec (j ≡ i) → Owner d j (get_or (set owner i o) j 0)
    go j h (yes e) = rw (e, get_or-set_same owner i o 0 (omega (arith, w.size))) x
    go j h (no e) = rw (get_or-set_other owner i j o 0 e) (w.owns j (omega arith))

pub owned_all : (d : Doc) (owner : List ℕ) (i : ℕ) → count d ≤ i → OwnedTo d i owner → Owned d owner
owned_all d owner i l w = record { size = w.size; owns = λ j h. w.owns j (omega arith) }

-- row i of the lent numbers, of kind k and with the parent p
module _ (s rows : List ℕ) (n i : ℕ) where
  abbrev d : Doc
  d = doc_of s rows n

  below_not : {k : ℕ} → k ≡ kind_of d i → (k ≡ kind_operation → ⊥) → (k ≡ kind_fragment → ⊥) → T (not (is_definition (row_of d i)))
  below_not e o f = other_defines_not d i (λ q. o (e ∙ q)) (λ q. f (e ∙ q))

  pub owner_at_parent : (owner : List ℕ) {k p : ℕ} → k ≡ kind_of d i → (k ≡ kind_operation → ⊥) → (k ≡ kind_fragment → ⊥) → p ≡ parent_of d i → OwnedTo d i owner → p < i
      → Owner d i (get_or owner p 0)
  owner_at_parent owner {p = p} e o f q w l =
      owner_below d i (get_or owner p 0) (below_not e o f) (subst (λ (x : ℕ). Owner d x (get_or owner p 0)) q (w.owns p l))

  pub owner_of_none : {k p : ℕ} → Rowed s rows n → i < n → k ≡ kind_of d i → (k ≡ kind_operation → ⊥) → (k ≡ kind_fragment → ⊥) → p ≡ parent_of d i → i ≤ p → Owner d i no_parent
  owner_of_none r l e o f q h =
      let c = rows_count rows n in
      let b = r.few in
      owner_below d i no_parent (below_not e o f)
      (owner_none d (parent_of d i) (omega arith) (⊎_elim (λ y. absurd (omega arith)) (λ y. omega arith) (parent_before s rows n r i l)))
