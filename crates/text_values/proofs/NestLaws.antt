-- Laws of lists and objects: an opening mark, a run of items, a closing mark. Both are read alike, so the laws are over any part of this form.
use mathlib.Core.Path.{◌≡◌, refl, sym, ap, ◌∙◌, subst}
use mathlib.Core.Bool.{true, false, not, ◌&&◌}
use mathlib.Core.List.{List, [], ◌∷◌, ◌++◌, Memᴰ}
use mathlib.Core.Logic.{◌≢◌}
use mathlib.Core.Option.{none, some}
use Prim.Native.Nat.{ℕ, suc, ◌+◌, ◌-◌, ◌*◌, ◌≤◌, ◌<◌}
use native.Mathlib.Omega.{arith}
use lib.Dec.{T}
use lib.ListN.{length, set, length-set}
use borrow.Author.Tests.{eq-eqb}
use Rattle.std.specs.Prelude.{Result, Ok, Err}
use Rattle.paper.specs.Grammar.{nt, tm, act}
use Rattle.paper.specs.Numbers.{most_rows, rows_size}
use Rattle.paper.specs.Language.{Class, Part, the, hits, row, kind, end}
use Rattle.paper.specs.Rows.{top}
use Rattle.paper.specs.Sizes.{Counts, kinded, opens_level, closes_level, over_counts}
use Rattle.paper.specs.declared.Refusal.{Refusal}
use Rattle.paper.specs.declared.Refusal.TheVariants.{TooDeep, TooManyRows}
use Rattle.paper.proofs.Lexing.{from}
use Rattle.paper.proofs.Machine.{fst, choose}
use Rattle.paper_theory.proofs.Test.{all, implies}
use Rattle.paper.proofs.Tables.{graphql, factored, all_c}
use Rattle.paper.proofs.Going.{Stack, st, go}
use Rattle.text_scan.specs.Head.{kind_of}
use Rattle.text_tokens.proofs.KindLaws.{kind_some}
use Rattle.text_cursor.specs.declared.Cursor.{Cursor}
use Rattle.text_cursor.specs.Reader.{Looks, Ready, at, Went, Halts, Said}
use Rattle.text_cursor.proofs.ReaderLaws.{token_lies}
use Rattle.text_cursor.proofs.Steps.{is, not_is, same_bool, first, null, opening, closing, too_deep, too_many_rows_open, refuses_end}
use Rattle.text_cursor.proofs.Cells.{put, put_length, row_opens, ends_row}
use Rattle.text_leaves.specs.Marks.{Open, deep, crowded, entered, Close}
use Rattle.text_leaves.proofs.MovedLaws.{start_in_is, ready_lies, ready_moves, Moved, moved_done, moved_halts, moved_said}
use Rattle.text_values.proofs.StackSteps.{in_run, run_more}

-- the production of p that is a row of kind K, and in it a run `star` of items between the marks A and B
pub record Nest (p : Part) (K : ℕ) (A B : Class) (inner item star : Part) : Type 0 where
  pub outer_in : Memᴰ (act row ∷ act (kind K 0) ∷ nt inner ∷ act end ∷ []) (factored p)
  pub inner_in : Memᴰ (tm (the A) ∷ nt star ∷ tm (the B) ∷ []) (factored inner)
  pub more_in : Memᴰ (nt item ∷ nt star ∷ []) (factored star)
  pub none_in : Memᴰ [] (factored star)
  pub uncounted : (q : Counts) → kinded K q ≡ q
  pub outer_first : T (all (λ k. implies (is (kind_of A) (kind_of k)) (fst graphql (act row ∷ act (kind K 0) ∷ nt inner ∷ act end ∷ []) k)) all_c)
  pub opening_hit : T (all (λ k. implies (is (kind_of A) (kind_of k)) (hits (the A) k)) all_c)
  pub opening_opens : T (all (λ k. implies (is (kind_of A) (kind_of k)) (same_bool (opens_level k) true && same_bool (closes_level k) false)) all_c)
  pub closing_hit : T (all (λ k. implies (is (kind_of B) (kind_of k)) (hits (the B) k)) all_c)
  pub closing_closes : T (all (λ k. implies (is (kind_of B) (kind_of k)) (same_bool (opens_level k) false && same_bool (closes_level k) true)) all_c)
  pub closing_none : T (all (λ k. implies (is (kind_of B) (kind_of k)) (not (graphql.first star k))) all_c)
  pub none_end : choose graphql star none ≡ some []
  pub no_item_end : T (refuses_end item)
  pub item_first : T (all (λ k. implies (not (is (kind_of B) (kind_of k))) (in_run item star (the B) more_in none_in k)) all_c)

-- where the loop is: items of row n were read up to the cursor d, and the machine expects more of them, or B
pub record InNest (s rows₀ rows : List ℕ) (d₀ d : Cursor) (n left : ℕ) (star : Part) (B : Class) : Type 0 where
  pub size : length rows ≡ rows_size
  pub within : d.stop ≤ length s
  pub few : d.rows ≤ most_rows
  pub looks : Looks s d
  pub since : d₀.stop ≤ d.stop
  pub so_far : (σ : Stack) (o : List ℕ) (q : Counts) → top o ≡ n → over_counts q ≡ false → at s rows₀ d₀ o left q (nt star ∷ tm (the B) ∷ σ) ≡ at s rows d o left q (nt star ∷ tm (the B) ∷ σ)

pub in_ready : (s rows₀ rows : List ℕ) (d₀ d : Cursor) (n left : ℕ) (star : Part) (B : Class) → InNest s rows₀ rows d₀ d n left star B → length s ≤ Rattle.paper.specs.Numbers.most_text → n ≤ most_rows → Ready s rows d n
in_ready s rows₀ rows d₀ d n left star B i h b = record { short = h; size = i.size; within = i.within; few = i.few; looks = i.looks; below = b }

module _ {p : Part} {K : ℕ} {A B : Class} {inner item star : Part} (N : Nest p K A B inner item star) (s rows : List ℕ) (c : Cursor) (parent : ℕ) (ready : Ready s rows c parent) (e : c.kind ≡ kind_of A) (left : ℕ) where
  -- the row while it is open
  abbrev opened : List ℕ
  opened = put rows c.rows K c.start 0 parent 0 0 0

  begins : (σ : Stack) (o : List ℕ) (q : Counts) → top o ≡ parent →
      at s rows c o left q (nt p ∷ σ) ≡ go (st opened (c.rows + 1) (c.rows ∷ o) c.stop left q) (tm (the A) ∷ nt star ∷ tm (the B) ∷ act end ∷ σ) (from s c.stop)
  begins σ o q h =
      first s c ready.within ready.looks rows c.rows o left q σ p N.outer_in A e N.outer_first
      ∙ row_opens rows c.rows o c.stop left q (nt inner ∷ act end ∷ σ) (from s c.stop) K 0
      ∙ rw (start_in_is s c ready.looks, h, N.uncounted q) refl
      ∙ first s c ready.within ready.looks opened (c.rows + 1) (c.rows ∷ o) left q (act end ∷ σ) inner N.inner_in A e N.opening_hit

  -- past the opening mark
  module _ (z : left ≢ 0) (few : c.rows < most_rows) where
    opens_goes : (σ : Stack) (o : List ℕ) (q : Counts) → top o ≡ parent → over_counts q ≡ false →
        at s rows c o left q (nt p ∷ σ) ≡ go (st opened (c.rows + 1) (c.rows ∷ o) c.end (left - 1) q) (nt star ∷ tm (the B) ∷ act end ∷ σ) (from s c.end)
    opens_goes σ o q h f =
        begins σ o q h
        ∙ opening s c ready.within ready.looks opened (c.rows + 1) (c.rows ∷ o) left q (nt star ∷ tm (the B) ∷ act end ∷ σ) (the A) A e N.opening_hit N.opening_opens (left - 1) (omega arith) (omega (arith, few)) f

  -- at the opening mark the code stops where the machine halts
  pub nest_refused : (rows₀ rows' : List ℕ) (r : Result Cursor Refusal) (v : Refusal) → Open s rows rows₀ c parent left K r → r ≡ Err v → Said 1 s rows rows' c parent left (nt p ∷ []) r
  nest_refused rows₀ rows' r v (deep z q) w = rw q (λ σ o y h f.
      begins σ o y h
      ∙ too_deep s c ready.within ready.looks opened (c.rows + 1) (c.rows ∷ o) left y (nt star ∷ tm (the B) ∷ act end ∷ σ) (the A) A e N.opening_hit N.opening_opens z)
  nest_refused rows₀ rows' r v (crowded z n q) w = rw q (λ σ o y h f.
      begins σ o y h
      ∙ too_many_rows_open s c ready.within ready.looks opened (c.rows + 1) (c.rows ∷ o) left y (nt star ∷ tm (the B) ∷ act end ∷ σ) (the A) A e N.opening_hit N.opening_opens (left - 1) (omega arith) (omega arith))
  nest_refused rows₀ rows' r v (entered z n u q) w = rw w (λ σ o y h f.
      opens_goes z n σ o y h f ∙ moved_halts s c.end (c.rows + 1) r v q w (st opened (c.rows + 1) (c.rows ∷ o) c.end (left - 1) y) (nt star ∷ tm (the B) ∷ act end ∷ σ))

  -- or it goes on behind the mark
  module _ (rows₀ : List ℕ) (r : Result Cursor Refusal) (d₀ : Cursor) (h₀ : Open s rows rows₀ c parent left K r) (w : r ≡ Ok d₀) where
    pub nest_entered : (left ≢ 0) × (c.rows < most_rows) × (rows₀ ≡ opened) × Moved s c.end (c.rows + 1) d₀
    nest_entered = cases h₀
      where
        apart : (v : Refusal) → r ≡ Err v → ⊥
        apart v q = let y : Ok d₀ ≡ Err v = sym w ∙ q in let k : ◌≡◌ {A = ℕ} 0 1 = cc in omega arith

        cases : Open s rows rows₀ c parent left K r → (left ≢ 0) × (c.rows < most_rows) × (rows₀ ≡ opened) × Moved s c.end (c.rows + 1) d₀
        cases (deep z q) = absurd (apart (TooDeep c.start) q)
        cases (crowded z n q) = absurd (apart (TooManyRows c.start) q)
        cases (entered z n u q) = (z, n, u, moved_done s c.end (c.rows + 1) r d₀ q w)

    z : left ≢ 0
    z = nest_entered.0

    few : c.rows < most_rows
    few = nest_entered.1

    u : rows₀ ≡ opened
    u = nest_entered.2

    m : Moved s c.end (c.rows + 1) d₀
    m = nest_entered.3

    pub nest_begins : InNest s rows₀ rows₀ d₀ d₀ c.rows (left - 1) star B
    nest_begins =
        record {
          size = rw u (put_length rows c.rows K c.start 0 parent 0 0 0 ∙ ready.size);
          within = rw m.stop (ready_lies s rows c parent ready).2;
          few = rw m.rows (omega (arith, few));
          looks = m.looks;
          since = omega arith;
          so_far = λ σ o y h f. refl;
        }

    module _ (rows₁ : List ℕ) (d : Cursor) (i : InNest s rows₀ rows₁ d₀ d c.rows (left - 1) star B) where
      reached : (σ : Stack) (o : List ℕ) (y : Counts) → top o ≡ parent → over_counts y ≡ false → at s rows c o left y (nt p ∷ σ) ≡ at s rows₁ d (c.rows ∷ o) (left - 1) y (nt star ∷ tm (the B) ∷ act end ∷ σ)
      reached σ o y h f = opens_goes z few σ o y h f ∙ rw (sym m.stop, sym m.rows, sym u) refl ∙ i.so_far (act end ∷ σ) (c.rows ∷ o) y refl f

      -- at the closing mark
      module _ (k : d.kind ≡ kind_of B) where
        closes_goes : (rows' : List ℕ) → rows' ≡ set rows₁ (7 * c.rows + 2) d.end → (σ : Stack) (o : List ℕ) (q : Counts) → top o ≡ parent → over_counts q ≡ false →
            at s rows c o left q (nt p ∷ σ) ≡ go (st rows' d.rows o d.end left q) σ (from s d.end)
        closes_goes rows' v σ o q h f =
            reached σ o q h f
            ∙ null s d i.within i.looks rows₁ d.rows (c.rows ∷ o) (left - 1) q (tm (the B) ∷ act end ∷ σ) star N.none_in tt N.none_end (is (kind_of B)) (rw (eq-eqb d.kind (kind_of B) k) tt) N.closing_none
            ∙ closing s d i.within i.looks rows₁ d.rows (c.rows ∷ o) (left - 1) q (act end ∷ σ) (the B) B k N.closing_hit N.closing_closes i.few f
            ∙ ends_row rows₁ d.rows o d.end (suc (left - 1)) q σ (from s d.end) c.rows
            ∙ ap (λ (l : ℕ). go (st (set rows₁ (7 * c.rows + 2) d.end) d.rows o d.end l q) σ (from s d.end)) back
            ∙ rw v refl
          where
            back : suc (left - 1) ≡ left
            back = omega (arith, z)

        pub nest_closes : (rows' : List ℕ) (r' : Result Cursor Refusal) → Close s rows₁ rows' d c.rows r' → Said 1 s rows rows' c parent left (nt p ∷ []) r'
        nest_closes rows' r' v =
            moved_said 1 s rows rows' c parent left (nt p ∷ []) d.end d.rows
            (rw v.ended (length-set rows₁ (7 * c.rows + 2) d.end ∙ i.size)) lies.2 i.few (omega (arith, lies, i.since, m.stop, onward))
            (λ σ o q h f. closes_goes rows' v.ended σ o q h f) r' v.moved
          where
            lies : (d.stop ≤ d.start) × (d.start ≤ d.end) × (d.end ≤ length s)
            lies = token_lies s d.stop d.kind d.start d.end i.within i.looks

            onward : c.stop < c.end
            onward = ready_moves s rows c parent ready (λ z. omega (arith, kind_some A))

      -- at another token: an item is read, as α
      module _ (k : d.kind ≢ kind_of B) (α : Stack) (same : (σ : Stack) (o : List ℕ) (q : Counts) → top o ≡ c.rows → over_counts q ≡ false → at s rows₁ d o (left - 1) q (nt item ∷ σ) ≡ at s rows₁ d o (left - 1) q (α ++ σ)) where
        item_goes : (σ : Stack) (o : List ℕ) (q : Counts) → top o ≡ c.rows → over_counts q ≡ false → at s rows₁ d o (left - 1) q (nt star ∷ tm (the B) ∷ σ) ≡ at s rows₁ d o (left - 1) q (α ++ (nt star ∷ tm (the B) ∷ σ))
        item_goes σ o q h f =
            run_more item star (the B) N.more_in N.none_in s d i.within i.looks (λ x. not (is (kind_of B) x)) (not_is (kind_of B) d.kind k) N.item_first N.none_end N.no_item_end (st rows₁ d.rows o d.stop (left - 1) q) σ
            ∙ same (nt star ∷ tm (the B) ∷ σ) o q h f

        pub nest_more : (rows₂ : List ℕ) (t : Result Cursor Refusal) (f : Cursor) → Said 1 s rows₁ rows₂ d c.rows (left - 1) α t → t ≡ Ok f → InNest s rows₀ rows₂ d₀ f c.rows (left - 1) star B
        nest_more rows₂ t f v g = step (subst (Said 1 s rows₁ rows₂ d c.rows (left - 1) α) g v)
          where
            step : Went 1 s rows₁ rows₂ d f c.rows (left - 1) α → InNest s rows₀ rows₂ d₀ f c.rows (left - 1) star B
            step a =
                record {
                  size = a.size;
                  within = a.within;
                  few = a.few;
                  looks = a.looks;
                  since = omega (arith, a.on, i.since);
                  so_far = λ σ o q h l. i.so_far σ o q h l ∙ item_goes σ o q h l ∙ a.goes (nt star ∷ tm (the B) ∷ σ) o q h l;
                }

        pub nest_less : (rows₂ : List ℕ) (t : Result Cursor Refusal) (f : Cursor) → Said 1 s rows₁ rows₂ d c.rows (left - 1) α t → t ≡ Ok f → length s - f.stop < length s - d.stop
        nest_less rows₂ t f v g = step (subst (Said 1 s rows₁ rows₂ d c.rows (left - 1) α) g v)
          where
            step : Went 1 s rows₁ rows₂ d f c.rows (left - 1) α → length s - f.stop < length s - d.stop
            step a = omega (arith, a.on, a.within)

        pub nest_stops : (rows₂ rows' : List ℕ) (t : Result Cursor Refusal) (x : Refusal) → Said 1 s rows₁ rows₂ d c.rows (left - 1) α t → t ≡ Err x → Said 1 s rows rows' c parent left (nt p ∷ []) t
        nest_stops rows₂ rows' t x v g = rw g (step (subst (Said 1 s rows₁ rows₂ d c.rows (left - 1) α) g v))
          where
            step : Halts s rows₁ d c.rows (left - 1) α x → Halts s rows c parent left (nt p ∷ []) x
            step a σ o q h f = reached σ o q h f ∙ item_goes (act end ∷ σ) (c.rows ∷ o) q refl f ∙ a (nt star ∷ tm (the B) ∷ act end ∷ σ) (c.rows ∷ o) q refl f
