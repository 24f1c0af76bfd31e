-- The flags of a document's rows: fragment by fragment, variable by variable, operation by operation, each along the rows of its kind.
use mathlib.Core.Path.{◌≡◌, refl, sym, ap, ◌∙◌}
use mathlib.Core.Logic.{inl, inr}
use mathlib.Core.Bool.{Bool, true, false, true≢false}
use mathlib.Core.List.{List}
use Prim.Native.Nat.{ℕ, suc, ◌+◌, ◌≤◌, ◌<◌}
use native.Mathlib.Decide.{dec_lt, ℕ_discrete}
use native.Mathlib.Omega.{arith}
use lib.ListN.{length, get_or, set, length-set}
use lib.Seq.{get_or-set_same, get_or-set_other}
use borrow.Author.Tests.{eqb-true, eq-eqb, ne_eqb}
use Rattle.paper.specs.Numbers.{most_rows, kind_operation, kind_fragment, kind_variable}
use Rattle.paper_table.specs.Types.{Table}
use Rattle.paper_query.specs.QueryNumbers.{rule_circle}
use Rattle.paper_query.specs.Constructs.{Doc, count, no_row, is, kind_of}
use Rattle.paper_query.specs.Rule8Circle.{ReachesItself}
use Rattle.query_rows.specs.Rowed.{Decides, room_of}
use Rattle.query_rows.proofs.Rooms.{room_enough}
use Rattle.query_links.specs.Links.{next_with}
use Rattle.query_links.proofs.Nexts.{next_least, next_most, next_passes, next_skips}
use Rattle.query_spreads.specs.Spreads.{FirstOf}
use Rattle.query_reach_pass.specs.Marks.{Stamped}
use Rattle.query_reach.proofs.MarkLaws.{stamped_up}
use Rattle.query_alike_pair.specs.Alike.{no_rule}
use Rattle.query_alike_pair.proofs.LikeLaws.{variable_within}
use Rattle.query_alike.specs.Flags.{Circled, FlagsBy, FlagsTo, LikenedTo, FragmentsTo}
use Rattle.query_alike.proofs.LeastLaws.{least_none, least_skip}

-- the first row of kind k from row i on
abbrev pub FirstKind : Doc → ℕ → ℕ → ℕ → Type 0
FirstKind d k i j = FirstOf (λ r. kind_of d r ≡ k) (count d) i j

pub kind_next : (d : Doc) (k i : ℕ) {j : ℕ} → i ≤ count d → j ≡ next_with (is k) d.rows i → FirstKind d k i j
kind_next d k i l e = rw e (record {
  from = next_least (is k) d.rows i;
  most = next_most (is k) d.rows i l;
  holds = λ h. eqb-true (kind_of d (next_with (is k) d.rows i)) k (next_passes (is k) d.rows no_row i h);
  skips = λ r h m x. true≢false (sym (eq-eqb (kind_of d r) k x) ∙ next_skips (is k) d.rows no_row i r h m);
})

-- nothing is judged
pub flags_none : (t : Table) (d : Doc) (flag : List ℕ) → Stamped d 0 flag → FlagsTo t d 0 0 flag
flags_none t d flag x = record {
  size = x.size;
  variables = λ i k. rw (zero i) (least_none t d i);
  fragments = λ i h k. absurd (omega arith);
  others = λ i a b. zero i;
}
  where
    zero : (i : ℕ) → get_or flag i 0 ≡ no_rule
    zero i = omega (arith, x.most i)

-- Fragments.
pub circled_by : (d : Doc) (i : ℕ) (b : Bool) (f : ℕ) → Decides b (ReachesItself d i) → (b ≡ true → f ≡ rule_circle) → (b ≡ false → f ≡ no_rule) → Circled d i f
circled_by d i true f x y z =
    let e : f ≡ rule_circle = y refl in
    record { circles = λ h. x; no_circle = λ h. absurd (omega arith); known = inr e }
circled_by d i false f x y z =
    let e : f ≡ no_rule = z refl in
    record { circles = λ h. absurd (omega arith); no_circle = λ h. x; known = inl e }

-- the fragments before row f are judged, and row f is the next
pub record FragmentLoop (d : Doc) (old flag mark stack : List ℕ) (f : ℕ) : Type 0 where
  pub most : f ≤ count d
  pub at : f < count d → kind_of d f ≡ kind_fragment
  pub size : length flag ≡ room_of (count d)
  pub stamped : Stamped d f mark
  pub stacked : length stack ≡ room_of (count d)
  pub judged : FragmentsTo d old f flag

module _ (d : Doc) where
  -- over rows that are no fragments
  fragments_skip : (t : Table) (flag : List ℕ) (g k : ℕ) → ((r : ℕ) → g ≤ r → r < k → kind_of d r ≡ kind_fragment → ⊥) → FlagsTo t d g 0 flag → FlagsTo t d k 0 flag
  fragments_skip t flag g k s x = record { size = x.size; variables = x.variables; fragments = λ i h e. go i h e (dec_lt i g); others = x.others }
    where
      go : (i : ℕ) → i < k → kind_of d i ≡ kind_fragment → Dec (i < g) → Circled d i (get_or flag i 0)
      go i h e (yes l) = x.fragments i l e
      go i h e (no l) = absurd (s i (omega arith) h e)

  fragments_set : (t : Table) (flag : List ℕ) (f x : ℕ) → f < room_of (count d) → kind_of d f ≡ kind_fragment → Circled d f x → FlagsTo t d f 0 flag → FlagsTo t d (suc f) 0 (set flag f x)
  fragments_set t flag f x l k c p = record {
    size = length-set flag f x ∙ p.size;
    variables = λ i e. rw (other i (λ z. omega (arith, e, k, ap (kind_of d) z))) (p.variables i e);
    fragments = λ i h e. go i h e (ℕ_discrete i f);
    others = λ i a b. other i (λ z. b (ap (kind_of d) z ∙ k)) ∙ p.others i a b;
  }
    where
      other : (i : ℕ) → (i ≡ f → ⊥) → get_or (set flag f x) i 0 ≡ get_or flag i 0
      other i z = get_or-set_other flag f i x 0 z

      go : (i : ℕ) → i < suc f → kind_of d i ≡ kind_fragment → Dec (i ≡ f) → Circled d i (get_or (set flag f x) i 0)
      go i h e (yes z) = rw (z, get_or-set_same flag f x 0 (omega (arith, p.size))) c
      go i h e (no z) = rw (other i z) (p.fragments i (omega arith) e)

  pub fragments_start : (flag mark stack : List ℕ) (f : ℕ) → FirstKind d kind_fragment 0 f → length flag ≡ room_of (count d) → Stamped d 0 mark → length stack ≡ room_of (count d) → FragmentLoop d flag flag mark stack f
  fragments_start flag mark stack f n l m s = record {
    most = n.most;
    at = n.holds;
    size = l;
    stamped = stamped_up m (omega arith);
    stacked = s;
    judged = λ t x. fragments_skip t flag 0 f n.skips x;
  }

  pub fragments_more : (old flag mark stack mark' stack' : List ℕ) (f x k : ℕ) → FragmentLoop d old flag mark stack f → f < count d → count d ≤ most_rows → FirstKind d kind_fragment (suc f) k → Circled d f x
      → Stamped d (f + 1) mark' → length stack' ≡ room_of (count d) → FragmentLoop d old (set flag f x) mark' stack' k
  fragments_more old flag mark stack mark' stack' f x k p h l n c m s = record {
    most = n.most;
    at = n.holds;
    size = length-set flag f x ∙ p.size;
    stamped = stamped_up m (omega (arith, n.from));
    stacked = s;
    judged = λ t y. fragments_skip t (set flag f x) (suc f) k n.skips (fragments_set t flag f x (omega (arith, room_enough (count d) l)) (p.at h) c (p.judged t y));
  }

  pub fragments_end : (old flag mark stack : List ℕ) (f n : ℕ) → FragmentLoop d old flag mark stack f → count d ≤ f → n ≡ count d → FragmentsTo d old n flag
  fragments_end old flag mark stack f n p h e = let z : f ≡ n = omega (arith, p.most) in rw (sym z) p.judged

-- Variables: of those before row j holds D, of the others L
pub record Halves (D L : ℕ → Type 0) (j i : ℕ) : Type 0 where
  pub done : i < j → D i
  pub left : j ≤ i → L i

-- and row j is the next
pub record VariableLoop (D L : ℕ → Type 0) (d : Doc) (g : ℕ) (flag : List ℕ) (j : ℕ) : Type 0 where
  pub most : j ≤ count d
  pub at : j < count d → kind_of d j ≡ kind_variable
  pub flags : FlagsBy (Halves D L j) d g flag

module _ (D L : ℕ → Type 0) (d : Doc) (g : ℕ) (flag : List ℕ) where
  pub variables_start : (j : ℕ) → FirstKind d kind_variable 0 j → FlagsBy L d g flag → VariableLoop D L d g flag j
  variables_start j n x = record {
    most = n.most;
    at = n.holds;
    flags = record {
      size = x.size;
      variables = λ i e. record { done = λ h. absurd (n.skips i (omega arith) h e); left = λ h. x.variables i e };
      fragments = x.fragments;
      others = x.others;
    };
  }

  module _ (j : ℕ) (p : VariableLoop D L d g flag j) where
    -- the flag of row j is as it should be
    pub variables_skip : (k : ℕ) → FirstKind d kind_variable (suc j) k → D j → VariableLoop D L d g flag k
    variables_skip k n c = record {
      most = n.most;
      at = n.holds;
      flags = record {
        size = p.flags.size;
        variables = λ i e. record { done = λ m. go i m e (ℕ_discrete i j) (dec_lt i j); left = λ m. (p.flags.variables i e).left (omega (arith, n.from)) };
        fragments = p.flags.fragments;
        others = p.flags.others;
      };
    }
      where
        go : (i : ℕ) → i < k → kind_of d i ≡ kind_variable → Dec (i ≡ j) → Dec (i < j) → D i
        go i m e (yes z) b = rw z c
        go i m e (no z) (yes b) = (p.flags.variables i e).done b
        go i m e (no z) (no b) = absurd (n.skips i (omega arith) m e)

    -- it is written; what holds of the others still does
    pub variables_set : (D' L' : ℕ → Type 0) (x k : ℕ) → j < count d → FirstKind d kind_variable (suc j) k → D' j → ((i : ℕ) → i < j → D i → D' i) → ((i : ℕ) → j < i → L i → L' i)
        → VariableLoop D' L' d g (set flag j x) k
    variables_set D' L' x k h n c v w = record {
      most = n.most;
      at = n.holds;
      flags = record {
        size = length-set flag j x ∙ p.flags.size;
        variables = λ i e. record {
          done = λ m. go i m e (ℕ_discrete i j) (dec_lt i j);
          left = λ m. w i (omega (arith, n.from)) ((p.flags.variables i e).left (omega (arith, n.from)));
        };
        fragments = λ i m e. rw (other i (λ z. omega (arith, e, p.at h, ap (kind_of d) z))) (p.flags.fragments i m e);
        others = λ i a b. other i (λ z. a (ap (kind_of d) z ∙ p.at h)) ∙ p.flags.others i a b;
      };
    }
      where
        other : (i : ℕ) → (i ≡ j → ⊥) → get_or (set flag j x) i 0 ≡ get_or flag i 0
        other i z = get_or-set_other flag j i x 0 z

        go : (i : ℕ) → i < k → kind_of d i ≡ kind_variable → Dec (i ≡ j) → Dec (i < j) → D' i
        go i m e (yes z) b = rw z c
        go i m e (no z) (yes b) = v i b ((p.flags.variables i e).done b)
        go i m e (no z) (no b) = absurd (n.skips i (omega arith) m e)

    pub variables_end : count d ≤ j → FlagsBy D d g flag
    variables_end h = record {
      size = p.flags.size;
      variables = λ i e. (p.flags.variables i e).done (omega (arith, variable_within d i e));
      fragments = p.flags.fragments;
      others = p.flags.others;
    }

-- Operations: those before row o have judged, and row o is the next
pub record OperationLoop (t : Table) (d : Doc) (g : ℕ) (flag mark stack : List ℕ) (o : ℕ) : Type 0 where
  pub most : o ≤ count d
  pub at : o < count d → kind_of d o ≡ kind_operation
  pub stamped : Stamped d o mark
  pub stacked : length stack ≡ room_of (count d)
  pub flags : LikenedTo t d g o flag

module _ (t : Table) (d : Doc) (g : ℕ) where
  pub operations_next : (flag mark stack : List ℕ) (m o : ℕ) → FirstKind d kind_operation m o → LikenedTo t d g m flag → Stamped d m mark → length stack ≡ room_of (count d) → OperationLoop t d g flag mark stack o
  operations_next flag mark stack m o n x s l = record {
    most = n.most;
    at = n.holds;
    stamped = stamped_up s n.from;
    stacked = l;
    flags = record {
      size = x.size;
      variables = λ i e. record {
        own = λ h. least_skip t d i m o (get_or flag i 0) (λ p h k. ne_eqb (kind_of d p) kind_operation (n.skips p h k)) ((x.variables i e).own h);
        like = (x.variables i e).like;
      };
      fragments = x.fragments;
      others = x.others;
    };
  }

  pub operations_end : (flag mark stack : List ℕ) (o m : ℕ) → OperationLoop t d g flag mark stack o → count d ≤ o → m ≡ count d → LikenedTo t d g m flag
  operations_end flag mark stack o m p h e = let z : o ≡ m = omega (arith, p.most) in rw (sym z) p.flags
