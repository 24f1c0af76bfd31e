-- No selection stands behind itself: along inline fragments rows rise, and through a spread its fragment would reach itself.
use mathlib.Core.Path.{◌≡◌, refl, sym, subst}
use mathlib.Core.Bool.{Bool, true, false, cond, not, ◌&&◌}
use mathlib.Core.List.{List}
use mathlib.Core.Logic.{◌⊎◌, inl, inr}
use Prim.Native.Nat.{ℕ, suc, ◌≤◌, ◌<◌}
use native.Mathlib.Omega.{arith}
use lib.Dec.{T, eqb, leb}
use borrow.Author.Tests.{eqb-true, leb-true, ne_eqb}
use Rattle.paper.proofs.Bools.{and_left as and_l, and_right as and_r, eq→t as holds}
use Rattle.paper.specs.Numbers.{no_parent, kind_operation, kind_fragment, kind_field, kind_spread, kind_inline}
use Rattle.paper.specs.Rows.{Row}
use Rattle.paper_table.specs.Types.{Table}
use Rattle.paper_query.specs.Constructs.{Doc, count, row_of, parent_of, name_of, is, is_selection, below, fragment_named}
use Rattle.paper_query.specs.Enclosing.{condition_of}
use Rattle.paper_query.specs.Reaching.{is_definition, Within, itself, deeper, Reaches, here, through as reached}
use Rattle.paper_plan.specs.Keys.{key_at}
use Rattle.paper_plan.specs.Collecting.{Sort, field, spread, inline, elem}
use Rattle.paper_query.specs.Constructs.{numbers_where}
use Rattle.paper_plan.specs.Selecting.{Name, set_of, type_if, sort_of, by_names}
use Rattle.plan_theory.proofs.Depth.{behind, From, among, through, Acyclic, deep}
use Rattle.plan_theory.proofs.Same.{clash}
use Rattle.plan_theory.proofs.Enough.{ends}
use Rattle.plan_theory.proofs.NumbersOf.{where_kept, where_keeps, where_all}
use Rattle.plan_theory.proofs.Plannable.{Plannable, spread_of, no_circle}

-- a selection is no definition
no_definition : (r : Row) → is_selection r ≡ true → T (not (is_definition r))
no_definition r e =
    let three : 3 ≤ r.kind = leb-true 3 r.kind (and_l (leb kind_field r.kind) (leb r.kind kind_inline) e) in
    holds (not (is_definition r)) (rw (ne_eqb r.kind kind_operation (λ z. absurd (omega arith)), ne_eqb r.kind kind_fragment (λ z. absurd (omega arith))))

-- of a selection set: its rows are selections below their holder
pub record OfSet (d : Doc) (p y : ℕ) : Type 0 where
  pub low : y < count d
  pub parent : parent_of d y ≡ p
  pub selection : is_selection (row_of d y) ≡ true

pub of_set : (d : Doc) (p y : ℕ) → elem eqb y (set_of d p) ≡ true → OfSet d p y
of_set d p y h =
    let k = where_kept (λ r. below p r && is_selection r) d y h in
    record { low = k.0; parent = eqb-true (parent_of d y) p (and_l (below p (row_of d y)) (is_selection (row_of d y)) k.1); selection = and_r (below p (row_of d y)) (is_selection (row_of d y)) k.1 }

-- what reaches a row reaches its selections
within_set : (d : Doc) (a p y : ℕ) → OfSet d p y → Within d a p → Within d a y
within_set d a p y o w = deeper (no_definition (row_of d y) o.selection) (rw o.parent w)

reaches_set : (d : Doc) (a p y : ℕ) → OfSet d p y → Reaches d a p → Reaches d a y
reaches_set d a p y o (here w) = here (within_set d a p y o w)
reaches_set d a p y o (reached {f = f} r s w) = reached r s (within_set d f p y o w)

module _ (t : Table) (d : Doc) (op : ℕ) (ok : Plannable d) where
  set_above : (p y : ℕ) → p < count d → OfSet d p y → p < y
  set_above p y h o = go (ok.parents y o.low)
    where
      go : (parent_of d y < y) ⊎ (parent_of d y ≡ no_parent) → p < y
      go (inl u) = omega (arith, o.parent)
      go (inr u) = absurd (omega (arith, o.parent, ok.few))

  -- a row's sort, read back
  sort_cases : (i : ℕ) (b c : Bool) → is kind_field (row_of d i) ≡ b → is kind_spread (row_of d i) ≡ c → (so : Sort Name)
      → cond b (field (key_at d i)) (cond c (spread (name_of d i)) (inline (type_if t d (condition_of d i)))) ≡ so
      → ((k : Name) → so ≡ field k → (is kind_field (row_of d i) ≡ true) × (key_at d i ≡ k)) × ((f : Name) → so ≡ spread f → (is kind_spread (row_of d i) ≡ true) × (name_of d i ≡ f))
  sort_cases i true c p q so e =
      ((λ k h. (p, cc)), (λ f h. let z : ◌≡◌ {A = ℕ} 0 1 = cc in absurd (omega arith)))
  sort_cases i false true p q so e =
      ((λ k h. let z : ◌≡◌ {A = ℕ} 0 1 = cc in absurd (omega arith)), (λ f h. (q, cc)))
  sort_cases i false false p q so e =
      ((λ k h. let z : ◌≡◌ {A = ℕ} 0 1 = cc in absurd (omega arith)), (λ f h. let z : ◌≡◌ {A = ℕ} 0 1 = cc in absurd (omega arith)))

  pub is_field_is : (i : ℕ) (k : Name) → sort_of t d i ≡ field k → (is kind_field (row_of d i) ≡ true) × (key_at d i ≡ k)
  is_field_is i k h = (sort_cases i (is kind_field (row_of d i)) (is kind_spread (row_of d i)) refl refl (sort_of t d i) refl).0 k h

  pub is_spread : (i : ℕ) (f : Name) → sort_of t d i ≡ spread f → (is kind_spread (row_of d i) ≡ true) × (name_of d i ≡ f)
  is_spread i f h = (sort_cases i (is kind_field (row_of d i)) (is kind_spread (row_of d i)) refl refl (sort_of t d i) refl).1 f h

  abbrev Behind : ℕ → List ℕ → Type 0
  Behind a rs = (y : ℕ) → elem eqb y rs ≡ true → Reaches d a y

  -- what reaches a selection reaches what stands behind it
  reaches_behind : (a r : ℕ) (so : Sort Name) → sort_of t d r ≡ so → Reaches d a r → Behind a (behind (by_names t d op) r so)
  reaches_behind a r (field k) e h y q = clash (sym q)
  reaches_behind a r (spread f) e h y q =
      let s = is_spread r f e in
      let o = of_set d (fragment_named d f) y q in
      reached h (rw s.1 at (spread_of d ok r s.0)) (within_set d (fragment_named d f) (fragment_named d f) y o itself)
  reaches_behind a r (inline c) e h y q = reaches_set d a r y (of_set d r y q) h

  reaches_from : {rs : List ℕ} {x : ℕ} → From (by_names t d op) rs x → (a : ℕ) → Behind a rs → Reaches d a x
  reaches_from (among {x = x} h) a f = f x h
  reaches_from (through r h g) a f = reaches_from g a (reaches_behind a r (sort_of t d r) refl (f r h))

  fragment_behind : (f : Name) → Behind (fragment_named d f) (set_of d (fragment_named d f))
  fragment_behind f y q = here (within_set d (fragment_named d f) (fragment_named d f) y (of_set d (fragment_named d f) y q) itself)

  -- on the way to x a row is passed that spreads f, and from there on it goes
  record Jump (rs : List ℕ) (x : ℕ) : Type 0 where
    at : ℕ
    name : Name
    spreads : sort_of t d at ≡ spread name
    to : From (by_names t d op) rs at
    on : From (by_names t d op) (set_of d (fragment_named d name)) x

  further : {rs : List ℕ} {x : ℕ} (r : ℕ) → elem eqb r rs ≡ true → Jump (behind (by_names t d op) r (sort_of t d r)) x → Jump rs x
  further r h j = record { at = j.at; name = j.name; spreads = j.spreads; to = through r h j.to; on = j.on }

  rises : {rs : List ℕ} {x : ℕ} → From (by_names t d op) rs x → (m : ℕ) → ((y : ℕ) → elem eqb y rs ≡ true → (m < y) × (y < count d)) → (m < x) ⊎ Jump rs x
  rises (among {x = x} h) m f = inl (f x h).0
  rises (through {rs = rs} {x = x} r h g) m f = go (sort_of t d r) refl g (λ u. rises g m u)
    where
      keep : (m < x) ⊎ Jump (behind (by_names t d op) r (sort_of t d r)) x → (m < x) ⊎ Jump rs x
      keep (inl u) = inl u
      keep (inr j) = inr (further r h j)

      go : (so : Sort Name) → sort_of t d r ≡ so → From (by_names t d op) (behind (by_names t d op) r so) x
          → (((y : ℕ) → elem eqb y (behind (by_names t d op) r (sort_of t d r)) ≡ true → (m < y) × (y < count d)) → (m < x) ⊎ Jump (behind (by_names t d op) r (sort_of t d r)) x) → (m < x) ⊎ Jump rs x
      go (field k) e w ih = keep (ih (λ y q. clash (sym (subst (λ (so : Sort Name). elem eqb y (behind (by_names t d op) r so) ≡ true) e q))))
      go (spread n) e w ih = inr (record { at = r; name = n; spreads = e; to = among h; on = w })
      go (inline c) e w ih =
          keep (ih (λ y q.
          let o = of_set d r y (subst (λ (so : Sort Name). elem eqb y (behind (by_names t d op) r so) ≡ true) e q) in
          (omega (arith, (f r h).0, set_above r y (f r h).1 o), o.low)))

  -- every selection is a row
  abbrev all_rows : List ℕ
  all_rows = numbers_where (λ r. true) d

  set_rows : (p x : ℕ) → elem eqb x (set_of d p) ≡ true → elem eqb x all_rows ≡ true
  set_rows p x h = where_keeps (λ r. true) d x (of_set d p x h).low refl

  behind_rows : (r x : ℕ) (so : Sort Name) → elem eqb x (behind (by_names t d op) r so) ≡ true → elem eqb x all_rows ≡ true
  behind_rows r x (field k) h = clash (sym h)
  behind_rows r x (spread f) h = set_rows (fragment_named d f) x h
  behind_rows r x (inline c) h = set_rows r x h

  from_rows : {rs : List ℕ} {x : ℕ} → From (by_names t d op) rs x → ((y : ℕ) → elem eqb y rs ≡ true → elem eqb y all_rows ≡ true) → elem eqb x all_rows ≡ true
  from_rows (among {x = x} h) f = f x h
  from_rows (through r h g) f = from_rows g (λ y k. behind_rows r y (sort_of t d r) k)

  some_first : {rs : List ℕ} {x : ℕ} → From (by_names t d op) rs x → (y : ℕ) × (elem eqb y rs ≡ true)
  some_first (among {x = x} h) = (x, h)
  some_first (through r h g) = (r, h)

  pub acyclic : Acyclic (by_names t d op)
  acyclic r g = go (sort_of t d r) refl g
    where
      spot : (s : ℕ) (f : Name) → sort_of t d s ≡ spread f → Reaches d (fragment_named d f) s → ⊥
      spot s f e w = let u = is_spread s f e in no_circle d ok s u.0 (subst (λ (n : Name). Reaches d (fragment_named d n) s) (sym u.1) w)

      low : From (by_names t d op) (set_of d r) r → r < count d
      low w = (where_kept (λ r. true) d r (from_rows w (λ y h. set_rows r y h))).0

      round : From (by_names t d op) (set_of d r) r → (r < r) ⊎ Jump (set_of d r) r → ⊥
      round w (inl u) = omega arith
      round w (inr j) =
          let back : Reaches d (fragment_named d j.name) r = reaches_from j.on (fragment_named d j.name) (fragment_behind j.name) in
          spot j.at j.name j.spreads (reaches_from j.to (fragment_named d j.name) (λ y q. reaches_set d (fragment_named d j.name) r y (of_set d r y q) back))

      go : (so : Sort Name) → sort_of t d r ≡ so → From (by_names t d op) (behind (by_names t d op) r so) r → ⊥
      go (field k) e w = clash (sym (some_first w).1)
      go (spread f) e w = spot r f e (reaches_from w (fragment_named d f) (fragment_behind f))
      go (inline c) e w = round w (rises w r (λ y q. let o = of_set d r y q in (set_above r y (low w) o, o.low)))

  -- so the count of rows bounds how deep they stand in one another
  pub set_deep : (p : ℕ) → deep (by_names t d op) (suc (count d)) (set_of d p) ≡ true
  set_deep p = ends (by_names t d op) acyclic (suc (count d)) all_rows (set_of d p) (omega (arith, where_all d)) (λ x f. from_rows f (λ y h. set_rows p y h))
