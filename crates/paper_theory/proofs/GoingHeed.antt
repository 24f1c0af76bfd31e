-- What the reader's machine counts are the sums, and at each token it heeds them: levels, then rows, then the other counts.
use mathlib.Core.Path.{◌≡◌, refl, sym, ap, ◌∙◌, subst}
use mathlib.Core.Bool.{Bool, true, false}
use mathlib.Core.List.{List, [], ◌∷◌, cons≢nil}
use Prim.Native.Nat.{ℕ, zero, suc, ◌+◌, ◌≤◌}
use native.Mathlib.Omega.{arith}
use lib.Dec.{T, ltb, ltb→lt, lt→ltb}
use Rattle.paper.specs.Grammar.{Ev, tok, mark, toks}
use Rattle.paper.specs.Numbers.{most_levels, most_rows}
use Rattle.paper.specs.Language.{Class, Mark, row, kind, named, wrapper, wrap, end}
use Rattle.paper.specs.Tokens.{Tok, Text}
use Rattle.paper.specs.Sizes.{Sums, opens_level, closes_level, kinded, wrapper_more, leveled, counted, sums, over_levels, over_rows, over_counts}
use Rattle.paper.specs.declared.Refusal.TheVariants.{TooDeep, TooManyRows, TooMany}
use Rattle.paper.proofs.Going.{State, st, Out, halt, noted, marked, deep, many, heed}

pub record Tracks (s : State) (m : Sums) : Type 0 where
  pub rows_are : s.rows ≡ m.rows
  pub counts_are : s.counts ≡ m.counts
  pub levels_are : s.left + m.levels ≡ most_levels

tracks_noted : (a : Mark) (t : Text) (s : State) (m : Sums) → Tracks s m → Tracks (noted a t s) (counted (mark a) m)
tracks_noted row t s m h = record { rows_are = ap (λ (z : ℕ). z + 1) h.rows_are; counts_are = h.counts_are; levels_are = h.levels_are }
tracks_noted (kind k x) t s m h = record { rows_are = h.rows_are; counts_are = ap (kinded k) h.counts_are; levels_are = h.levels_are }
tracks_noted named t s m h = record { rows_are = h.rows_are; counts_are = h.counts_are; levels_are = h.levels_are }
tracks_noted wrapper t s m h = record { rows_are = h.rows_are; counts_are = ap wrapper_more h.counts_are; levels_are = h.levels_are }
tracks_noted (wrap w) t s m h = record { rows_are = h.rows_are; counts_are = h.counts_are; levels_are = h.levels_are }
tracks_noted end t s m h = record { rows_are = h.rows_are; counts_are = h.counts_are; levels_are = h.levels_are }

pub tracks_marked : (ms : List (Ev Class Mark)) (t : Text) (s : State) (m : Sums) → toks ms ≡ [] → Tracks s m → Tracks (marked ms t s) (sums ms m)
unfolding toks sums
tracks_marked [] t s m e h = h
tracks_marked (tok c ∷ ms) t s m e h = absurd (cons≢nil e)
tracks_marked (mark a ∷ ms) t s m e h = tracks_marked ms t (noted a t s) (counted (mark a) m) e (tracks_noted a t s m h)

-- the levels change at tokens alone
pub sums_levels : (ms : List (Ev Class Mark)) (m : Sums) → toks ms ≡ [] → (sums ms m).levels ≡ m.levels
unfolding toks sums
sums_levels [] m e = refl
sums_levels (tok c ∷ ms) m e = absurd (cons≢nil e)
sums_levels (mark a ∷ ms) m e = sums_levels ms (counted (mark a) m) e ∙ one a
  where
    one : (a : Mark) → (counted (mark a) m).levels ≡ m.levels
    one row = refl
    one (kind k x) = refl
    one named = refl
    one wrapper = refl
    one (wrap w) = refl
    one end = refl

-- what comes of a token, where the sums are m with it
pub data Heeded (k : Tok) (s : State) (m : Sums) (f : State → Out) : Out → Type 0 where
  over_deep : T (over_levels m) → Heeded k s m f (halt (TooDeep k.start))
  by_over_rows : (T (over_levels m) → ⊥) → T (over_rows m) → Heeded k s m f (halt (TooManyRows k.start))
  by_over_counts : (T (over_levels m) → ⊥) → (T (over_rows m) → ⊥) → T (over_counts m.counts) → Heeded k s m f (halt (TooMany k.start))
  well : (l : ℕ) → (T (over_levels m) → ⊥) → (T (over_rows m) → ⊥) → (T (over_counts m.counts) → ⊥) →
      Tracks (st s.cells s.rows s.open' k.stop l s.counts) m → Heeded k s m f (f (st s.cells s.rows s.open' k.stop l s.counts))

pub heeds : (k : Tok) (s : State) (m : Sums) (f : State → Out) → Tracks s m → (T (closes_level k.class) → 1 ≤ m.levels) → Heeded k s (counted (tok k.class) m) f (heed k s f)
heeds k s m f h up = by_class (opens_level k.class) (closes_level k.class) s.left refl refl refl
  where
    next : ℕ → State
    next l = st s.cells s.rows s.open' k.stop l s.counts

    m' : Sums
    m' = counted (tok k.class) m

    not_deep : (l : ℕ) → l + leveled k.class m.levels ≡ most_levels → T (over_levels m') → ⊥
    not_deep l e t = let u = ltb→lt most_levels (leveled k.class m.levels) t in omega arith

    shut : (b : Bool) → b ≡ false → T b → ⊥
    shut true e t = let z : ◌≡◌ {A = Bool} true false = e in subst T z tt
    shut false e t = t

    by_counts : (l : ℕ) → l + leveled k.class m.levels ≡ most_levels → (T (over_rows m') → ⊥) → (c : Bool) → over_counts s.counts ≡ c →
        Heeded k s m' f (many c (TooMany k.start) (f (next l)))
    by_counts l e r true q = by_over_counts (not_deep l e) r (subst T (sym q ∙ ap over_counts h.counts_are) tt)
    by_counts l e r false q =
        well l (not_deep l e) r (shut (over_counts m.counts) (ap over_counts (sym h.counts_are) ∙ q))
        (record { rows_are = h.rows_are; counts_are = h.counts_are; levels_are = e })

    by_rows : (l : ℕ) → l + leveled k.class m.levels ≡ most_levels → (r : Bool) → ltb most_rows s.rows ≡ r →
        Heeded k s m' f (many r (TooManyRows k.start) (many (over_counts s.counts) (TooMany k.start) (f (next l))))
    by_rows l e true q = by_over_rows (not_deep l e) (subst T (sym q ∙ ap (λ (z : ℕ). ltb most_rows z) h.rows_are) tt)
    by_rows l e false q = by_counts l e (shut (ltb most_rows m.rows) (ap (λ (z : ℕ). ltb most_rows z) (sym h.rows_are) ∙ q)) (over_counts s.counts) refl

    rest : (l : ℕ) → Out
    rest l = many (ltb most_rows s.rows) (TooManyRows k.start) (many (over_counts s.counts) (TooMany k.start) (f (next l)))

    by_class : (o c : Bool) (l : ℕ) → opens_level k.class ≡ o → closes_level k.class ≡ c → s.left ≡ l → Heeded k s m' f (deep o c l k.start (λ l. rest l))
    by_class true c zero p q e = over_deep (lt→ltb most_levels (leveled k.class m.levels) (rw p (let z = h.levels_are in omega arith)))
    by_class true c (suc l) p q e = by_rows l (rw p (let z = h.levels_are in omega arith)) (ltb most_rows s.rows) refl
    by_class false true l p q e = by_rows (suc l) (rw (p, q) (let z = h.levels_are in let u = up (subst T (sym q) tt) in omega arith)) (ltb most_rows s.rows) refl
    by_class false false l p q e = by_rows l (rw (p, q) (let z = h.levels_are in omega arith)) (ltb most_rows s.rows) refl
