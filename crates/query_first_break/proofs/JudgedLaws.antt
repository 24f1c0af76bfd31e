-- Rows judged in order: the first row with a least rule has the least break; if none has, there is no break.
use mathlib.Core.Path.{◌≡◌, refl, sym, subst}
use mathlib.Core.Logic.{inl, inr}
use Prim.Native.Nat.{ℕ, ◌+◌, ◌≤◌, ◌<◌}
use native.Mathlib.Omega.{arith}
use native.Mathlib.Decide.{dec_lt}
use Rattle.paper_table.specs.Types.{Table}
use Rattle.paper_query.specs.Constructs.{Doc, count}
use Rattle.paper_query.specs.QueryRules.{Broken, NotAfter, Judged, no_break, least_break}
use Rattle.paper_query.specs.declared.QueryAnswer.TheVariants.{Fits, Breaks}
use Rattle.paper_query.proofs.BrokenAt.{past_broken}
use Rattle.query_row_verdict.specs.Least.{LeastAt, none_at, least_at}

-- no row before number i breaks a rule
abbrev pub NoneBefore : Table → Doc → ℕ → Type 0
NoneBefore t d i = (j k : ℕ) → j < i → Broken t d j k → ⊥

pub none_first : (t : Table) (d : Doc) → NoneBefore t d 0
none_first t d j k h b = absurd (omega arith)

module _ {t : Table} {d : Doc} where
  pub least_none : {i : ℕ} → LeastAt t d i 0 → (k : ℕ) → Broken t d i k → ⊥
  least_none (none_at h) k b = h k b
  least_none (least_at p c m) k b = absurd (omega arith)

  pub none_more : (i : ℕ) {r : ℕ} → NoneBefore t d i → LeastAt t d i r → r ≡ 0 → NoneBefore t d (i + 1)
  none_more i h l e j k g b = go (dec_lt j i)
    where
      go : Dec (j < i) → ⊥
      go (yes w) = h j k w b
      go (no w) =
          let q : j ≡ i = omega arith in
          least_none {i = i} (subst (LeastAt t d i) e l) k (subst (λ (x : ℕ). Broken t d x k) q b)

  -- at the end of the rows
  pub judged_fits : (i : ℕ) → count d ≤ i → NoneBefore t d i → Judged t d Fits
  judged_fits i w h = no_break (λ j k b. go j k b (dec_lt j i))
    where
      go : (j k : ℕ) → Broken t d j k → Dec (j < i) → ⊥
      go j k b (yes g) = h j k g b
      go j k b (no g) = past_broken (omega arith) b

  -- at the first row that breaks a rule
  pub judged_breaks : (i : ℕ) {r : ℕ} → NoneBefore t d i → LeastAt t d i r → (r ≡ 0 → ⊥) → Judged t d (Breaks i r)
  judged_breaks i h (none_at n) w = absurd (w refl)
  judged_breaks i {r} h (least_at p b m) w = least_break b (λ j l c. go j l c (dec_lt i j) (dec_lt j i))
    where
      go : (j l : ℕ) → Broken t d j l → Dec (i < j) → Dec (j < i) → NotAfter i r j l
      go j l c (yes g) e = inl g
      go j l c (no g) (yes e) = absurd (h j l e c)
      go j l c (no g) (no e) =
          let q : j ≡ i = omega arith in
          inr (sym q, m l (subst (λ (x : ℕ). Broken t d x l) q c))
