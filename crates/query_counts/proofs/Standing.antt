-- What holds of the rows while a document is derived: no more of them are fragments than are counted, and no more define variables of the
-- operation that is open than are counted for it. At an operation's kind its row was just begun and is the only open one: nothing is below it yet.
use mathlib.Core.Path.{◌≡◌, refl, sym, ap, ◌∙◌, subst}
use mathlib.Core.Bool.{Bool, true, false, ◌&&◌, cond}
use mathlib.Core.List.{List, [], ◌∷◌, ◌++◌}
use Prim.Native.Nat.{ℕ, suc, ◌+◌, ◌<◌, ◌≤◌}
use native.Mathlib.Decide.{ℕ_discrete}
use native.Mathlib.Omega.{arith}
use borrow.Author.Tests.{eq-eqb, ne_eqb}
use lib.Dec.{T, eqb}
use lib.ListN.{length, length-append, get_or-append}
use lib.Seq.{get_or-append_seam}
use Rattle.paper.specs.Numbers.{most_variables, kind_operation, kind_fragment, kind_variable_definition}
use Rattle.paper.specs.Rows.{Row, change, top, pop, begun, of_kind}
use Rattle.paper.specs.Sizes.{Counts, kinded}
use Rattle.paper_query.specs.Constructs.{no_row, is, below}
use Rattle.paper_theory.proofs.RowCells.{change_length}
use Rattle.query_counts.proofs.Depths.{Suits}
use Rattle.query_counts.proofs.Tallies.{at, one, tally, tally_change, tally_same, tally_append, parent_same}
use Rattle.query_counts.proofs.FewSums.{Few}

-- a variable definition of the operation of row p
abbrev pub defining : ℕ → Row → Bool
defining p r = is kind_variable_definition r && below p r

-- how many rows are fragments; how many define variables of p
abbrev pub fragments_in : List Row → ℕ
fragments_in rs = tally (is kind_fragment) rs

abbrev pub variables_of : List Row → ℕ → ℕ
variables_of rs p = tally (defining p) rs

-- open rows: each is there, and its parent is the next
abbrev pub Chain : List Row → List ℕ → Type 0
Chain rs [] = Unit {0}
Chain rs (o ∷ os) = (o < length rs) × ((at rs o).parent ≡ top os) × Chain rs os

-- P holds of the outermost open row
abbrev pub Lowest : (ℕ → Type 0) → List ℕ → Type 0
Lowest P [] = Unit {0}
Lowest P (o ∷ []) = P o
Lowest P (o ∷ (p ∷ os)) = Lowest P (p ∷ os)

lowest_map : (P Q : ℕ → Type 0) → ((o : ℕ) → P o → Q o) → (os : List ℕ) → Lowest P os → Lowest Q os
lowest_map P Q g [] h = tt
lowest_map P Q g (o ∷ []) h = g o h
lowest_map P Q g (o ∷ (p ∷ os)) h = lowest_map P Q g (p ∷ os) h

lowest_push : (P : ℕ → Type 0) (n : ℕ) (os : List ℕ) → P n → Lowest P os → Lowest P (n ∷ os)
lowest_push P n [] h l = h
lowest_push P n (o ∷ os) h l = l

lowest_pop : (P : ℕ → Type 0) (os : List ℕ) → Lowest P os → Lowest P (pop os)
lowest_pop P [] l = tt
lowest_pop P (o ∷ []) l = tt
lowest_pop P (o ∷ (p ∷ os)) l = l

chain_change : (f : Row → Row) → ((r : Row) → (f r).parent ≡ r.parent) → (k : ℕ) (rs : List Row) (os : List ℕ) → Chain rs os → Chain (change f k rs) os
chain_change f g k rs [] c = tt
chain_change f g k rs (o ∷ os) c = (omega (arith, change_length f k rs, c.0), parent_same f g k o rs ∙ c.1, chain_change f g k rs os c.2)

chain_append : (rs : List Row) (r : Row) (os : List ℕ) → Chain rs os → Chain (rs ++ (r ∷ [])) os
chain_append rs r [] c = tt
chain_append rs r (o ∷ os) c = (omega (arith, length-append rs (r ∷ []), c.0), ap (λ (x : Row). x.parent) (get_or-append rs (r ∷ []) no_row o c.0) ∙ c.1, chain_append rs r os c.2)

chain_pop : (rs : List Row) (os : List ℕ) → Chain rs os → Chain rs (pop os)
chain_pop rs [] c = tt
chain_pop rs (o ∷ os) c = c.2

-- d rows are open, f: the innermost was just begun; q is counted. Rows that are not there yet have no variables
pub record Stands (f : Bool) (d : ℕ) (q : Counts) (rs : List Row) (os : List ℕ) : Type 0 where
  pub level : length os ≡ d
  pub chain : Chain rs os
  pub fragments : fragments_in rs ≤ q.fragments
  pub few : (p : ℕ) → variables_of rs p ≤ most_variables
  pub now : Lowest (λ p. variables_of rs p ≤ q.variables) os
  pub later : (p : ℕ) → length rs ≤ p → variables_of rs p ≡ 0
  pub fresh : T f → variables_of rs (top os) ≡ 0

-- nothing changes but the wrappers that are counted
pub stands_plain : (f : Bool) (d w : ℕ) (q : Counts) (rs : List Row) (os : List ℕ) → Stands f d q rs os → Stands false d (record { fragments = q.fragments; variables = q.variables; wrappers = w }) rs os
stands_plain f d w q rs os h = record { level = h.level; chain = h.chain; fragments = h.fragments; few = h.few; now = h.now; later = h.later; fresh = λ t. absurd t }

-- a row that keeps its kind and its parent
pub stands_same : (f : Bool) (d : ℕ) (q : Counts) (rs : List Row) (os : List ℕ) (g : Row → Row) → ((r : Row) → (g r).kind ≡ r.kind) → ((r : Row) → (g r).parent ≡ r.parent) → (k : ℕ) → Stands f d q rs os → Stands false d q (change g k rs) os
stands_same f d q rs os g gk gp k h = record {
  level = h.level;
  chain = chain_change g gp k rs os h.chain;
  fragments = rw (tally_same (is kind_fragment) g (λ r. ap (λ (x : ℕ). eqb x kind_fragment) (gk r)) k rs) h.fragments;
  few = λ p. rw (same p) (h.few p);
  now = lowest_map (λ p. variables_of rs p ≤ q.variables) (λ p. variables_of (change g k rs) p ≤ q.variables) (λ p l. rw (same p) l) os h.now;
  later = λ p l. same p ∙ h.later p (omega (arith, change_length g k rs));
  fresh = λ t. absurd t;
}
  where
    same : (p : ℕ) → variables_of (change g k rs) p ≡ variables_of rs p
    same p = tally_same (defining p) g (λ r. ap (λ (x : ℕ). eqb x kind_variable_definition && eqb (g r).parent p) (gk r) ∙ ap (λ (x : ℕ). eqb r.kind kind_variable_definition && eqb x p) (gp r)) k rs

pub stands_pop : (d : ℕ) (q : Counts) (rs : List Row) (os : List ℕ) → Stands false (suc d) q rs os → Stands false d q rs (pop os)
stands_pop d q rs os h = record {
  level = less os h.level;
  chain = chain_pop rs os h.chain;
  fragments = h.fragments;
  few = h.few;
  now = lowest_pop (λ p. variables_of rs p ≤ q.variables) os h.now;
  later = h.later;
  fresh = λ t. absurd t;
}
  where
    less : (os : List ℕ) → length os ≡ suc d → length (pop os) ≡ d
    less [] e = absurd (omega arith)
    less (o ∷ os) e = omega arith

-- a row begins
pub stands_row : (f : Bool) (d a : ℕ) (q : Counts) (rs : List Row) (os : List ℕ) → Stands f d q rs os → Stands true (suc d) q (rs ++ (begun a (top os) ∷ [])) (length rs ∷ os)
stands_row f d a q rs os h = record {
  level = ap suc h.level;
  chain = (omega (arith, size), ap (λ (x : Row). x.parent) (get_or-append_seam rs new [] no_row), chain_append rs new os h.chain);
  fragments = rw (tally_append (is kind_fragment) rs new refl) h.fragments;
  few = λ p. rw (same p) (h.few p);
  now =
      lowest_push (λ p. variables_of more p ≤ q.variables) (length rs) os (omega (arith, same (length rs), h.later (length rs) (omega arith)))
      (lowest_map (λ p. variables_of rs p ≤ q.variables) (λ p. variables_of more p ≤ q.variables) (λ p l. rw (same p) l) os h.now);
  later = λ p l. same p ∙ h.later p (omega (arith, size));
  fresh = λ t. same (length rs) ∙ h.later (length rs) (omega arith);
}
  where
    new : Row
    new = begun a (top os)

    more : List Row
    more = rs ++ (new ∷ [])

    size : length more ≡ suc (length rs)
    size = omega (arith, length-append rs (new ∷ []))

    same : (p : ℕ) → variables_of more p ≡ variables_of rs p
    same p = tally_append (defining p) rs new refl

-- A ROW GETS ITS KIND.
module _ (k x : ℕ) (f t : Bool) (d : ℕ) (q : Counts) (rs : List Row) (u : Suits f d t k) (v : Few (kinded k q)) where
  abbrev then' : List ℕ → List Row
  then' os = change (of_kind k x) (top os) rs

  fragments_then : (os : List ℕ) → fragments_in rs ≤ q.fragments → fragments_in (then' os) ≤ (kinded k q).fragments
  fragments_then os h = go (eqb k kind_fragment) (tally_change (is kind_fragment) (of_kind k x) (top os) rs)
    where
      go : (b : Bool) → fragments_in (then' os) ≤ fragments_in rs + one b → fragments_in (then' os) ≤ cond b (q.fragments + 1) q.fragments
      go true l = omega arith
      go false l = omega arith

  -- another than a variable definition: none more
  no_more : (k ≡ kind_variable_definition → ⊥) → (os : List ℕ) (p : ℕ) → variables_of (then' os) p ≤ variables_of rs p
  no_more e os p = let l = tally_change (defining p) (of_kind k x) (top os) rs in let z = rw (ne_eqb k kind_variable_definition e) at l in omega (arith, z)

  -- an operation: it has none yet
  other_now : (k ≡ kind_variable_definition → ⊥) → (os : List ℕ) → Stands f d q rs os → Lowest (λ p. variables_of (then' os) p ≤ (kinded k q).variables) os
  other_now e os h = go (ℕ_discrete k kind_operation)
    where
      begins : (os : List ℕ) → length os ≡ 1 → variables_of rs (top os) ≡ 0 → ((p : ℕ) → variables_of (then' os) p ≤ variables_of rs p) → Lowest (λ p. variables_of (then' os) p ≤ (kinded k q).variables) os
      begins [] l z g = tt
      begins (o ∷ []) l z g = omega (arith, g o)
      begins (o ∷ (p ∷ os)) l z g = absurd (omega arith)

      go : Dec (k ≡ kind_operation) → Lowest (λ p. variables_of (then' os) p ≤ (kinded k q).variables) os
      go (yes a) = begins os (h.level ∙ (u.operation a).1) (h.fresh (u.operation a).0) (no_more e os)
      go (no a) =
          lowest_map (λ p. variables_of rs p ≤ q.variables) (λ p. variables_of (then' os) p ≤ (kinded k q).variables)
          (λ p l. rw (ne_eqb k kind_operation a, ne_eqb k kind_variable_definition e) (let m = no_more e os p in omega arith)) os h.now

  stands_other : (k ≡ kind_variable_definition → ⊥) → (os : List ℕ) → Stands f d q rs os → Stands false d (kinded k q) (then' os) os
  stands_other e os h = record {
    level = h.level;
    chain = chain_change (of_kind k x) (λ r. refl) (top os) rs os h.chain;
    fragments = fragments_then os h.fragments;
    few = λ p. let m = no_more e os p in let l = h.few p in omega arith;
    now = other_now e os h;
    later = λ p l. let m = no_more e os p in let z = h.later p (omega (arith, change_length (of_kind k x) (top os) rs)) in omega arith;
    fresh = λ t. absurd t;
  }

  -- a variable definition: one more of the operation that is open, and none of another
  module _ (e : k ≡ kind_variable_definition) (j o : ℕ) (h : Stands f d q rs (j ∷ (o ∷ []))) where
    abbrev after : List Row
    after = change (of_kind k x) j rs

    one_more : (p : ℕ) → variables_of after p ≤ variables_of rs p + one (eqb (at rs j).parent p)
    one_more p = let l = tally_change (defining p) (of_kind k x) j rs in rw (eq-eqb k kind_variable_definition e) at l

    of_it : variables_of after o ≤ variables_of rs o + 1
    of_it = let l = one_more o in rw (eq-eqb (at rs j).parent o h.chain.1) at l

    of_else : (p : ℕ) → (o ≡ p → ⊥) → variables_of after p ≤ variables_of rs p
    of_else p n = let l = one_more p in let z = rw (ne_eqb (at rs j).parent p (λ i. n (sym h.chain.1 ∙ i))) at l in omega (arith, z)

    are : (kinded k q).variables ≡ q.variables + 1
    are = rw e refl

    few_then : (p : ℕ) → Dec (o ≡ p) → variables_of after p ≤ most_variables
    few_then p (yes i) = subst (λ (y : ℕ). variables_of after y ≤ most_variables) i (omega (arith, of_it, h.now, are, v.1))
    few_then p (no i) = omega (arith, of_else p i, h.few p)

    stands_definition : Stands false d (kinded k q) after (j ∷ (o ∷ []))
    stands_definition = record {
      level = h.level;
      chain = chain_change (of_kind k x) (λ r. refl) j rs (j ∷ (o ∷ [])) h.chain;
      fragments = fragments_then (j ∷ (o ∷ [])) h.fragments;
      few = λ p. few_then p (ℕ_discrete o p);
      now = omega (arith, of_it, h.now, are);
      later = λ p l. let s = change_length (of_kind k x) j rs in let c = h.chain.2.0 in let z = h.later p (omega arith) in let m = of_else p (λ i. absurd (omega arith)) in omega arith;
      fresh = λ t. absurd t;
    }

  pub stands_kind : (os : List ℕ) → Stands f d q rs os → Stands false d (kinded k q) (then' os) os
  stands_kind os h = go (ℕ_discrete k kind_variable_definition)
    where
      two : k ≡ kind_variable_definition → (os : List ℕ) → length os ≡ 2 → Stands f d q rs os → Stands false d (kinded k q) (then' os) os
      two e [] l h = absurd (omega arith)
      two e (j ∷ []) l h = absurd (omega arith)
      two e (j ∷ (o ∷ [])) l h = stands_definition e j o h
      two e (j ∷ (o ∷ (i ∷ os))) l h = absurd (omega arith)

      go : Dec (k ≡ kind_variable_definition) → Stands false d (kinded k q) (then' os) os
      go (yes e) = two e os (h.level ∙ (u.definition e).1) h
      go (no e) = stands_other e os h
