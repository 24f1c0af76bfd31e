-- How rows begin and end in a document and in a variables text: behind the beginning of a row comes a token before any row ends, and each row ends.
-- By a test of all productions, symbol by symbol.
use mathlib.Core.Path.{◌≡◌, subst}
use mathlib.Core.Bool.{Bool, true, false, ◌&&◌, not, cond}
use mathlib.Core.List.{List, [], ◌∷◌, ◌++◌, Memᴰ}
use mathlib.Core.Logic.{◌⊎◌, inl, inr}
use Prim.Native.Nat.{ℕ, zero, suc, ◌+◌, ◌<◌}
use native.Mathlib.Omega.{arith}
use lib.Dec.{T, eqb, eqb→eq}
use lib.ListN.{length}
use Rattle.paper.specs.Grammar.{Sym, nt, tm, act, Ev, tok, mark, toks, Derives, done, take, note as marks, by}
use Rattle.paper.specs.Language.{Class, Terminal, hits, Mark, row, kind, named, wrapper, wrap, end, Part, language, Document, VariablesText, OperationType, SpreadRest}
use Rattle.paper.proofs.Bools.{and_l, and_r, and_i}
use Rattle.paper.proofs.Tables.{all_n, num_n, at_n, can_be_none}
use Rattle.paper_theory.proofs.Test.{all, all_at, all_mem, implies, implies_out}

abbrev Syms : Type 0
Syms = List (Sym Part Terminal Mark)

abbrev pub Evs : Type 0
Evs = List (Ev Class Mark)

-- the parts but one, which ends a row that it did not begin and stands in no production of the draft
abbrev is_usual : Part → Bool
is_usual n = not (eqb (num_n n) (num_n SpreadRest))

-- how many rows a part leaves open
abbrev gain : Part → ℕ
gain n = cond (eqb (num_n n) (num_n OperationType)) 1 0

-- symbols where a rows are open, f: with no token since the last began. Behind them e are, and g where there is no token still
abbrev fits : Bool → ℕ → Syms → Bool → ℕ → Bool
fits g e [] f a = eqb a e && implies f g
fits g e (nt n ∷ ss) f a = is_usual n && fits g e ss (f && can_be_none n) (a + gain n)
fits g e (tm p ∷ ss) f a = fits g e ss false a
fits g e (act row ∷ ss) f a = fits g e ss true (suc a)
fits g e (act (kind k x) ∷ ss) f a = fits g e ss f a
fits g e (act named ∷ ss) f a = fits g e ss f a
fits g e (act wrapper ∷ ss) f a = fits g e ss f a
fits g e (act (wrap w) ∷ ss) f a = fits g e ss f a
fits g e (act end ∷ ss) f zero = false
fits g e (act end ∷ ss) f (suc a) = not f && fits g e ss false a

-- the test of all productions
abbrev part_tested : Bool → Part → Bool
part_tested f n = implies (is_usual n) (all (λ α. fits (f && can_be_none n) (gain n) α f 0) (language n))

tested : (f : Bool) → T (all (part_tested f) all_n)
unfolding language
tested true = tt
tested false = tt

-- what fits where no token came, fits where one did
fits_less : (g : Bool) (e : ℕ) (ss : Syms) (a : ℕ) → T (fits g e ss true a) → T (fits g e ss false a)
fits_less g e [] a h = and_i (eqb a e) true (and_l (eqb a e) g h) tt
fits_less g e (nt n ∷ ss) a h =
    and_i (is_usual n) (fits g e ss false (a + gain n)) (and_l (is_usual n) (fits g e ss (can_be_none n) (a + gain n)) h)
    (go (can_be_none n) (and_r (is_usual n) (fits g e ss (can_be_none n) (a + gain n)) h) (λ k. fits_less g e ss (a + gain n) k))
  where
    go : (c : Bool) → T (fits g e ss c (a + gain n)) → (T (fits g e ss true (a + gain n)) → T (fits g e ss false (a + gain n))) → T (fits g e ss false (a + gain n))
    go true k less = less k
    go false k less = k
fits_less g e (tm p ∷ ss) a h = h
fits_less g e (act row ∷ ss) a h = h
fits_less g e (act (kind k x) ∷ ss) a h = fits_less g e ss a h
fits_less g e (act named ∷ ss) a h = fits_less g e ss a h
fits_less g e (act wrapper ∷ ss) a h = fits_less g e ss a h
fits_less g e (act (wrap w) ∷ ss) a h = fits_less g e ss a h
fits_less g e (act end ∷ ss) zero h = h
fits_less g e (act end ∷ ss) (suc a) h = absurd h

fits_same : (g : Bool) (e : ℕ) (ss : Syms) (f : Bool) {a c : ℕ} → a ≡ c → T (fits g e ss f a) → T (fits g e ss f c)
fits_same g e ss f q h = subst (λ (x : ℕ). T (fits g e ss f x)) q h

module _ (g : Bool) (e : ℕ) (z : Bool) (y c : ℕ) where
  -- symbols where c rows more are open, and others behind them
  fits_append : (α ss : Syms) (f : Bool) (a : ℕ) → T (fits g e α f a) → T (fits z y ss g (c + e)) → T (fits z y (α ++ ss) f (c + a))
  fits_append [] ss f a h k = let q = eqb→eq a e (and_l (eqb a e) (implies f g) h) in fits_same z y ss f (omega arith) (go f g (and_r (eqb a e) (implies f g) h) k)
    where
      go : (f g : Bool) → T (implies f g) → T (fits z y ss g (c + e)) → T (fits z y ss f (c + e))
      go true true i k = k
      go true false i k = absurd i
      go false true i k = fits_less z y ss (c + e) k
      go false false i k = k
  fits_append (nt n ∷ α) ss f a h k =
      and_i (is_usual n) (fits z y (α ++ ss) (f && can_be_none n) (c + a + gain n)) (and_l (is_usual n) (fits g e α (f && can_be_none n) (a + gain n)) h)
      (fits_same z y (α ++ ss) (f && can_be_none n) (let q : c + (a + gain n) ≡ c + a + gain n = omega arith in q)
      (fits_append α ss (f && can_be_none n) (a + gain n) (and_r (is_usual n) (fits g e α (f && can_be_none n) (a + gain n)) h) k))
  fits_append (tm p ∷ α) ss f a h k = fits_append α ss false a h k
  fits_append (act row ∷ α) ss f a h k = fits_same z y (α ++ ss) true (let q : c + suc a ≡ suc (c + a) = omega arith in q) (fits_append α ss true (suc a) h k)
  fits_append (act (kind i x) ∷ α) ss f a h k = fits_append α ss f a h k
  fits_append (act named ∷ α) ss f a h k = fits_append α ss f a h k
  fits_append (act wrapper ∷ α) ss f a h k = fits_append α ss f a h k
  fits_append (act (wrap w) ∷ α) ss f a h k = fits_append α ss f a h k
  fits_append (act end ∷ α) ss f zero h k = absurd h
  fits_append (act end ∷ α) ss f (suc a) h k =
      fits_same z y (act end ∷ (α ++ ss)) f (let q : suc (c + a) ≡ c + suc a = omega arith in q)
      (and_i (not f) (fits z y (α ++ ss) false (c + a)) (and_l (not f) (fits g e α false a) h) (fits_append α ss false a (and_r (not f) (fits g e α false a) h) k))

-- a part's production in its place
fits_by : (n : Part) (α ss : Syms) (f : Bool) (d : ℕ) → Memᴰ α (language n) → T (fits false 0 (nt n ∷ ss) f d) → T (fits false 0 (α ++ ss) f d)
fits_by n α ss f d m h =
    fits_same false 0 (α ++ ss) f (let q : d + 0 ≡ d = omega arith in q)
    (fits_append (f && can_be_none n) (gain n) false 0 d α ss f 0
    (all_mem (λ β. fits (f && can_be_none n) (gain n) β f 0) (implies_out (is_usual n) _ (all_at (part_tested f) all_n (num_n n) (tested f) (at_n n)) (and_l (is_usual n) later h)) m)
    (and_r (is_usual n) later h))
  where
    later : Bool
    later = fits false 0 ss (f && can_be_none n) (d + gain n)

-- OF EVENTS. Where d rows are open, f: with no token since the last began: no row ends without one, and each ends
unfoldable pub Nested : Evs → Bool → ℕ → Type 0
Nested [] f d = T (not f) × (d ≡ 0)
Nested (tok c ∷ es) f d = Nested es false d
Nested (mark row ∷ es) f d = Nested es true (suc d)
Nested (mark (kind k x) ∷ es) f d = Nested es f d
Nested (mark named ∷ es) f d = Nested es f d
Nested (mark wrapper ∷ es) f d = Nested es f d
Nested (mark (wrap w) ∷ es) f d = Nested es f d
Nested (mark end ∷ es) f zero = ⊥
Nested (mark end ∷ es) f (suc d) = T (not f) × Nested es false d

derives_nested : {ss : Syms} {es : Evs} → Derives language hits ss es → (f : Bool) (d : ℕ) → T (fits false 0 ss f d) → Nested es f d
unfolding Nested
derives_nested done f d h = (go f (and_r (eqb d 0) (implies f false) h), eqb→eq d 0 (and_l (eqb d 0) (implies f false) h))
  where
    go : (f : Bool) → T (implies f false) → T (not f)
    go true i = i
    go false i = tt
derives_nested (take u v) f d h = derives_nested v false d h
derives_nested (by {n} {α} {ss} m v) f d h = derives_nested v f d (fits_by n α ss f d m h)
derives_nested (marks {a = row} v) f d h = derives_nested v true (suc d) h
derives_nested (marks {a = kind k x} v) f d h = derives_nested v f d h
derives_nested (marks {a = named} v) f d h = derives_nested v f d h
derives_nested (marks {a = wrapper} v) f d h = derives_nested v f d h
derives_nested (marks {a = wrap w} v) f d h = derives_nested v f d h
derives_nested (marks {a = end} v) f zero h = absurd h
derives_nested (marks {a = end} {ss} v) f (suc d) h = (and_l (not f) (fits false 0 ss false d) h, derives_nested v false d (and_r (not f) (fits false 0 ss false d) h))

-- the parts that calls read
pub part_nested : (n : Part) → (n ≡ Document) ⊎ (n ≡ VariablesText) → {es : Evs} → Derives language hits (nt n ∷ []) es → Nested es false 0
part_nested n c v = derives_nested v false 0 (go c)
  where
    fits_part : Part → Type 0
    fits_part m = T (fits false 0 (nt m ∷ []) false 0)

    go : (n ≡ Document) ⊎ (n ≡ VariablesText) → fits_part n
    go (inl e) = subst fits_part (let q : Document ≡ n = cc in q) tt
    go (inr e) = subst fits_part (let q : VariablesText ≡ n = cc in q) tt

-- a row that has begun takes a token
pub nested_token : (es : Evs) (d : ℕ) → Nested es true d → 0 < length (toks es)
unfolding Nested toks
nested_token [] d h = absurd h.0
nested_token (tok c ∷ es) d h = omega arith
nested_token (mark row ∷ es) d h = nested_token es (suc d) h
nested_token (mark (kind k x) ∷ es) d h = nested_token es d h
nested_token (mark named ∷ es) d h = nested_token es d h
nested_token (mark wrapper ∷ es) d h = nested_token es d h
nested_token (mark (wrap w) ∷ es) d h = nested_token es d h
nested_token (mark end ∷ es) zero h = absurd h
nested_token (mark end ∷ es) (suc d) h = absurd h.0
