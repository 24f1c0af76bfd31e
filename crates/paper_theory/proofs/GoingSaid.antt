-- What the reader's machine answers is what `Reading` says of the text: its rows where it has no fault, or else the least of its faults.
use mathlib.Core.Path.{◌≡◌, refl, sym, ap, ◌∙◌, subst, subst₂}
use mathlib.Core.List.{List, [], ◌∷◌, ◌++◌}
use mathlib.Core.Logic.{inl, inr}
use mathlib.Core.Option.{none, some}
use Prim.Native.Nat.{ℕ, suc, ◌*◌, ◌≤◌, ◌<◌}
use native.Mathlib.Nat.{le_refl}
use native.Mathlib.Omega.{arith}
use lib.Dec.{T, ltb, nltb→le, not_T}
use lib.ListN.{length, take}
use Rattle.paper.specs.Grammar.{nt, Ev, tok, toks, Derives}
use Rattle.paper.specs.Numbers.{most_rows, row_size, rows_size}
use Rattle.paper.specs.Language.{Class, Terminal, hits, Mark, Part}
use Rattle.paper.specs.Tokens.{Tok, Text, at_end, bad, token}
use Rattle.paper.specs.Rows.{Row, Book, empty_book, book, taken, rows_of, flat}
use Rattle.paper.specs.Sizes.{Sums, nothing_counted, closes_level, leveled, counted, sums, over_levels, over_rows, over_counts}
use Rattle.paper.specs.Reading.{tokens_of, classes_of, place_of, EndsWell, ends_well_here, ends_well_later, bad_here, bad_later, offset_of, NoLater, rows_are, refuses, TextAnswer, accepts, refused}
use Rattle.paper.specs.declared.Refusal.{Refusal}
use Rattle.paper.specs.declared.Refusal.TheVariants.{NoToken, NoGoing, TooDeep, TooManyRows, TooMany}
use Rattle.paper.proofs.Machine.{Step, took, emptied, refused as refuses-it, spent, step}
use Rattle.paper_theory.proofs.Theory.{step_sound, Sound, emptied_derives, took≢emptied, took≢refused, took≢spent, refused≢emptied, spent≢emptied}
use Rattle.paper.proofs.Tables.{graphql, factored}
use Rattle.paper_theory.proofs.Checked.{fits}
use Rattle.paper_theory.proofs.SameLanguage.{factored→language}
use Rattle.paper.proofs.Going.{Stack, State, st, start, Out, whole, halt, marked, heed, ended, goes, go}
use Rattle.paper_theory.proofs.GoingRows.{Holds, holds_marked, holds_ended, holds_taken, holds_blank, book_step, marked_last}
use Rattle.paper_theory.proofs.Marks.{Sober, derives_sober, sober_later, sober_quiet, Level, derives_level, level_step}
use Rattle.paper_theory.proofs.GoingSums.{step_last, sums_append, took_before, took_reads, some_word}
use Rattle.paper_theory.proofs.GoingHeed.{Tracks, tracks_marked, sums_levels, Heeded, over_deep, by_over_rows, by_over_counts, well, heeds}
use Rattle.paper_theory.proofs.Flaws.{Flaw, stray, short, unfit, deeper, rowed, many, onward, flaw_place, flaw_fault, fault_flaw, NotTook, NotEmptied}

abbrev Evs : Type 0
Evs = List (Ev Class Mark)

abbrev Steps : Type 0
Steps = Step Part Terminal Class Mark

-- each token begins after the one before, and the end, or the bad bytes, after all
abbrev pub Rising : Text → Type 0
Rising t = (j k : ℕ) → j < k → k ≤ length (tokens_of t) → place_of j t < place_of k t

rising_later : (k : Tok) (t : Text) → Rising (token k t) → Rising t
unfolding tokens_of place_of
rising_later k t f = λ i j h b. f (suc i) (suc j) (omega arith) (omega arith)

-- what a stack derives closes only what is open, and its last marks look at no token
pub record Steady (l : ℕ) (σ : Stack) : Type 0 where
  pub levels : (es : Evs) → Derives factored hits σ es → Level l es
  pub sober : (es : Evs) → Derives factored hits σ es → Sober es

-- the text is read from σ on: its rows are in the cells, and it has no fault
record Right (m : Sums) (σ : Stack) (b : Book) (t : Text) (s : State) : Type 0 where
  events : Evs
  derives : Derives factored hits σ events
  reads : toks events ≡ classes_of t
  wholly : EndsWell t
  holds : Holds s (book events (tokens_of t) b)
  clean : (r : Refusal) → Flaw m σ t r → ⊥

abbrev Least : Sums → Stack → Text → Refusal → Type 0
Least m σ t r = Flaw m σ t r × ((r' : Refusal) → Flaw m σ t r' → NoLater r r')

abbrev Judged : Sums → Stack → Text → State → Out → Type 0
Judged m σ t s (whole s') = (b : Book) → Holds s b → Right m σ b t s'
Judged m σ t s (halt r) = Rising t → Least m σ t r

-- what comes after a token stands after it
later_flaw : (k : Tok) (t : Text) → Rising (token k t) → (m : Sums) (σ : Stack) (r : Refusal) → Flaw m σ t r → k.start < offset_of r
unfolding tokens_of place_of
later_flaw k t f m σ r h = let p = flaw_place h in rw p.2 (f 0 (suc p.0) (omega arith) (let b = p.1 in omega arith))

took_events : {fs gs : Evs} {σ σ' : Stack} → ◌≡◌ {A = Steps} (took fs σ) (took gs σ') → fs ≡ gs
took_events q = cc

took_stack : {fs gs : Evs} {σ σ' : Stack} → ◌≡◌ {A = Steps} (took fs σ) (took gs σ') → σ ≡ σ'
took_stack q = cc

-- a token that does not fit
unfit_least : (m : Sums) (σ : Stack) (k : Tok) (t : Text) → NotTook (step graphql σ (some k.class)) → Rising (token k t) → Least m σ (token k t) (NoGoing k.start)
unfit_least m σ k t f rise = (unfit f, least)
  where
    least : (r : Refusal) → Flaw m σ (token k t) r → NoLater (NoGoing k.start) r
    least r (stray (bad_later {n = at} b)) = inl (later_flaw k t rise m σ (NoToken at) (stray b))
    least r (unfit g) = inr (refl, le_refl 4)
    least r (deeper fs σ' q h) = absurd (f fs σ' q)
    least r (rowed fs σ' q h) = absurd (f fs σ' q)
    least r (many fs σ' q h) = absurd (f fs σ' q)
    least r (onward fs σ' q h) = absurd (f fs σ' q)

-- a token that is taken
module _ (m : Sums) (σ σ' : Stack) (k : Tok) (t : Text) (fs : Evs) (q : step graphql σ (some k.class) ≡ took fs σ') where
  one_sums : (gs : Evs) (τ : Stack) → step graphql σ (some k.class) ≡ took gs τ → sums gs m ≡ sums fs m
  one_sums gs τ p = ap (λ (z : Evs). sums z m) (took_events (sym p ∙ q))

  deep_least : T (over_levels (sums fs m)) → Rising (token k t) → Least m σ (token k t) (TooDeep k.start)
  deep_least o rise = (deeper fs σ' q o, least)
    where
      least : (r : Refusal) → Flaw m σ (token k t) r → NoLater (TooDeep k.start) r
      least r (stray (bad_later {n = at} b)) = inl (later_flaw k t rise m σ (NoToken at) (stray b))
      least r (unfit g) = absurd (g fs σ' q)
      least r (deeper gs τ p h) = inr (refl, le_refl 5)
      least r (rowed gs τ p h) = inr (refl, omega arith)
      least r (many gs τ p h) = inr (refl, omega arith)
      least r (onward gs τ p h) = inl (later_flaw k t rise (sums gs m) τ r h)

  rows_least : (T (over_levels (sums fs m)) → ⊥) → T (over_rows (sums fs m)) → Rising (token k t) → Least m σ (token k t) (TooManyRows k.start)
  rows_least d o rise = (rowed fs σ' q o, least)
    where
      least : (r : Refusal) → Flaw m σ (token k t) r → NoLater (TooManyRows k.start) r
      least r (stray (bad_later {n = at} b)) = inl (later_flaw k t rise m σ (NoToken at) (stray b))
      least r (unfit g) = absurd (g fs σ' q)
      least r (deeper gs τ p h) = absurd (d (subst (λ (z : Sums). T (over_levels z)) (one_sums gs τ p) h))
      least r (rowed gs τ p h) = inr (refl, le_refl 6)
      least r (many gs τ p h) = inr (refl, omega arith)
      least r (onward gs τ p h) = inl (later_flaw k t rise (sums gs m) τ r h)

  many_least : (T (over_levels (sums fs m)) → ⊥) → (T (over_rows (sums fs m)) → ⊥) → T (over_counts (sums fs m).counts) → Rising (token k t) → Least m σ (token k t) (TooMany k.start)
  many_least d w o rise = (many fs σ' q o, least)
    where
      least : (r : Refusal) → Flaw m σ (token k t) r → NoLater (TooMany k.start) r
      least r (stray (bad_later {n = at} b)) = inl (later_flaw k t rise m σ (NoToken at) (stray b))
      least r (unfit g) = absurd (g fs σ' q)
      least r (deeper gs τ p h) = absurd (d (subst (λ (z : Sums). T (over_levels z)) (one_sums gs τ p) h))
      least r (rowed gs τ p h) = absurd (w (subst (λ (z : Sums). T (over_rows z)) (one_sums gs τ p) h))
      least r (many gs τ p h) = inr (refl, le_refl 8)
      least r (onward gs τ p h) = inl (later_flaw k t rise (sums gs m) τ r h)

  -- where the token keeps to the sizes, the flaws are those of what comes after
  on_flaw : (T (over_levels (sums fs m)) → ⊥) → (T (over_rows (sums fs m)) → ⊥) → (T (over_counts (sums fs m).counts) → ⊥) → (r : Refusal) → Flaw m σ (token k t) r → Flaw (sums fs m) σ' t r
  on_flaw d w c r (stray (bad_later b)) = stray b
  on_flaw d w c r (unfit g) = absurd (g fs σ' q)
  on_flaw d w c r (deeper gs τ p h) = absurd (d (subst (λ (z : Sums). T (over_levels z)) (one_sums gs τ p) h))
  on_flaw d w c r (rowed gs τ p h) = absurd (w (subst (λ (z : Sums). T (over_rows z)) (one_sums gs τ p) h))
  on_flaw d w c r (many gs τ p h) = absurd (c (subst (λ (z : Sums). T (over_counts z.counts)) (one_sums gs τ p) h))
  on_flaw d w c r (onward gs τ p h) = subst₂ (λ (z : Sums) (y : Stack). Flaw z y t r) (one_sums gs τ p) (took_stack (sym p ∙ q)) h

  -- the marks before the token
  ms : Evs
  ms = (step_last graphql k.class σ q).0

  fs_are : fs ≡ ms ++ (tok k.class ∷ [])
  unfolding ms
  fs_are = (step_last graphql k.class σ q).1

  ms_marks : toks ms ≡ []
  unfolding ms
  ms_marks = (step_last graphql k.class σ q).2

  sums_are : counted (tok k.class) (sums ms m) ≡ sums fs m
  unfolding sums
  sums_are = sym (ap (λ (z : Evs). sums z m) fs_are ∙ sums_append ms (tok k.class ∷ []) m)

  marked_are : (s : State) → marked fs (token k t) s ≡ marked ms (token k t) s
  marked_are s = ap (λ (z : Evs). marked z (token k t) s) fs_are ∙ marked_last ms k.class (token k t) s

  levels_are : (sums fs m).levels ≡ leveled k.class m.levels
  levels_are = ap (λ (z : Sums). z.levels) (sym sums_are) ∙ ap (leveled k.class) (sums_levels ms m ms_marks)

  sound_level : Steady m.levels σ → (gs : Evs) → Derives factored hits σ' gs → (T (closes_level k.class) → 1 ≤ m.levels) × Level (leveled k.class m.levels) gs
  sound_level h gs d =
      level_step ms gs k.class m.levels ms_marks (subst (λ (z : Evs). Level m.levels (z ++ gs)) fs_are (h.levels (fs ++ gs) (took_before k.class σ σ' fs gs q d)))

  sound_on : Steady m.levels σ → Steady (sums fs m).levels σ'
  sound_on h =
      record {
        levels = λ gs d. subst (λ (z : ℕ). Level z gs) (sym levels_are) (sound_level h gs d).1;
        sober = λ gs d. sober_later fs gs (h.sober (fs ++ gs) (took_before k.class σ σ' fs gs q d));
      }

  closed_open : Steady m.levels σ → T (closes_level k.class) → 1 ≤ (sums ms m).levels
  closed_open h c = let w = some_word σ' in rw (sums_levels ms m ms_marks) ((sound_level h w.0 w.1).0 c)

  -- the rows of what comes after are those of the whole
  right_on : (s s' : State) (l : ℕ) (b : Book) → Holds s b → (T (over_levels (sums fs m)) → ⊥) → (T (over_rows (sums fs m)) → ⊥) → (T (over_counts (sums fs m).counts) → ⊥) →
      (marked ms (token k t) s).rows ≤ most_rows →
      Judged (sums fs m) σ' t (st (marked ms (token k t) s).cells (marked ms (token k t) s).rows (marked ms (token k t) s).open' k.stop l (marked ms (token k t) s).counts) (whole s') →
      Right m σ b (token k t) s'
  unfolding tokens_of
  right_on s s' l b h d w c le f =
      let a = f (taken (k ∷ tokens_of t) (book ms (k ∷ tokens_of t) b)) (holds_taken k (tokens_of t) l (marked ms (token k t) s) (book ms (k ∷ tokens_of t) b) (holds_marked ms k t (tokens_of t) s b ms_marks h le)) in
      record {
        events = fs ++ a.events;
        derives = took_before k.class σ σ' fs a.events q a.derives;
        reads = took_reads k.class σ σ' fs a.events q ∙ ap (λ (z : List Class). k.class ∷ z) a.reads;
        wholly = ends_well_later a.wholly;
        holds =
            subst (Holds s') (sym (ap (λ (z : Evs). book (z ++ a.events) (k ∷ tokens_of t) b) fs_are ∙ book_step ms a.events k.class k (tokens_of t) b ms_marks)) a.holds;
        clean = λ r z. a.clean r (on_flaw d w c r z);
      }

  taken_judged : (s : State) → Tracks s m → Steady m.levels σ → ((s' : State) → Tracks s' (sums fs m) → Judged (sums fs m) σ' t s' (go s' σ' t)) →
      Judged m σ (token k t) s (heed k (marked fs (token k t) s) (λ s'. go s' σ' t))
  taken_judged s tr snd ih =
      subst (λ (z : State). Judged m σ (token k t) s (heed k z (λ s'. go s' σ' t))) (sym (marked_are s))
      (cases (heed k s₁ (λ s'. go s' σ' t))
      (subst (λ (z : Sums). Heeded k s₁ z (λ s'. go s' σ' t) (heed k s₁ (λ s'. go s' σ' t))) sums_are
      (heeds k s₁ (sums ms m) (λ s'. go s' σ' t) (tracks_marked ms (token k t) s m ms_marks tr) (closed_open snd))))
    where
      s₁ : State
      s₁ = marked ms (token k t) s

      lift : (l : ℕ) → (T (over_levels (sums fs m)) → ⊥) → (T (over_rows (sums fs m)) → ⊥) → (T (over_counts (sums fs m).counts) → ⊥) → s₁.rows ≤ most_rows →
          (o : Out) → Judged (sums fs m) σ' t (st s₁.cells s₁.rows s₁.open' k.stop l s₁.counts) o → Judged m σ (token k t) s o
      lift l d w c le (whole s') f = λ b h. right_on s s' l b h d w c le f
      lift l d w c le (halt r) f = λ rise. let a = f (rising_later k t rise) in (onward fs σ' q a.0, λ r' z. a.1 r' (on_flaw d w c r' z))

      cases : (o : Out) → Heeded k s₁ (sums fs m) (λ s'. go s' σ' t) o → Judged m σ (token k t) s o
      cases o (over_deep h) = deep_least h
      cases o (by_over_rows d h) = rows_least d h
      cases o (by_over_counts d w h) = many_least d w h
      cases o (well l d w c tr') =
          lift l d w c (let e = tr'.rows_are in let le = nltb→le most_rows (sums fs m).rows (not_T (ltb most_rows (sums fs m).rows) w) in omega arith)
          (go (st s₁.cells s₁.rows s₁.open' k.stop l s₁.counts) σ' t) (ih (st s₁.cells s₁.rows s₁.open' k.stop l s₁.counts) tr')

-- the end of the text
end_least : (m : Sums) (σ : Stack) (n : ℕ) → NotEmptied (step graphql σ none) → Least m σ (at_end n) (NoGoing n)
end_least m σ n f = (short f, least)
  where
    least : (r : Refusal) → Flaw m σ (at_end n) r → NoLater (NoGoing n) r
    least r (short g) = inr (refl, le_refl 4)
    least _ (stray {at = at} x5) = elim x5 [ ]

end_judged : (m : Sums) (σ : Stack) (n : ℕ) (s : State) → Steady m.levels σ → Judged m σ (at_end n) s (ended s n (step graphql σ none))
unfolding tokens_of
end_judged m σ n s snd = by_step (step graphql σ none) refl (step_sound fits σ none)
  where
    by_step : (r : Steps) → step graphql σ none ≡ r → Sound fits none σ r → Judged m σ (at_end n) s (ended s n r)
    by_step (took fs σ') q h = λ rise. end_least m σ n (λ gs p. took≢emptied (sym q ∙ p))
    by_step (emptied fs) q h = λ b k.
        record {
          events = fs;
          derives = emptied_derives fits none σ fs h;
          reads = h.0;
          wholly = ends_well_here;
          holds = holds_ended fs n s b (sober_quiet fs (snd.sober fs (emptied_derives fits none σ fs h)) h.0) k;
          clean = clean;
        }
      where
        clean : (r : Refusal) → Flaw m σ (at_end n) r → ⊥
        clean r (short g) = g fs q
        clean _ (stray {at = at} x7) = elim x7 [ ]
    by_step refuses-it q h = λ rise. end_least m σ n (λ gs p. refused≢emptied (sym q ∙ p))
    by_step spent q h = λ rise. end_least m σ n (λ gs p. spent≢emptied (sym q ∙ p))

bad_least : (m : Sums) (σ : Stack) (n : ℕ) → Least m σ (bad n) (NoToken n)
bad_least m σ n = (stray bad_here, least)
  where
    least : (r : Refusal) → Flaw m σ (bad n) r → NoLater (NoToken n) r
    least r (stray bad_here) = inr (refl, le_refl 3)

-- WHAT `go` ANSWERS
judged : (t : Text) (m : Sums) (σ : Stack) (s : State) → Tracks s m → Steady m.levels σ → Judged m σ t s (go s σ t)
unfolding go
judged (at_end n) m σ s tr snd = end_judged m σ n s snd
judged (bad n) m σ s tr snd = λ rise. bad_least m σ n
judged (token k t) m σ s tr snd =
    by_step (step graphql σ (some k.class)) refl (λ (m' : Sums) (σ' : Stack) (s' : State) (tr' : Tracks s' m') (snd' : Steady m'.levels σ'). judged t m' σ' s' tr' snd')
  where
    by_step : (r : Steps) → step graphql σ (some k.class) ≡ r →
        ((m' : Sums) (σ' : Stack) (s' : State) → Tracks s' m' → Steady m'.levels σ' → Judged m' σ' t s' (go s' σ' t)) → Judged m σ (token k t) s (goes s k t (λ s' σ'. go s' σ' t) r)
    by_step (took fs σ') q ih = taken_judged m σ σ' k t fs q s tr snd (λ s' tr'. ih (sums fs m) σ' s' tr' (sound_on m σ σ' k t fs q snd))
    by_step (emptied fs) q ih = unfit_least m σ k t (λ gs σ' p. took≢emptied (sym p ∙ q))
    by_step refuses-it q ih = unfit_least m σ k t (λ gs σ' p. took≢refused (sym p ∙ q))
    by_step spent q ih = unfit_least m σ k t (λ gs σ' p. took≢spent (sym p ∙ q))

start_tracks : (cells : List ℕ) → Tracks (start cells) nothing_counted
start_tracks cells = record { rows_are = refl; counts_are = refl; levels_are = refl }

part_sound : (n : Part) → Steady 0 (nt n ∷ [])
part_sound n = record { levels = λ es d. derives_level d; sober = λ es d. derives_sober d }

-- the rows of a text that is read through
pub going_whole : (n : Part) (t : Text) (cells : List ℕ) (s : State) → length cells ≡ rows_size → go (start cells) (nt n ∷ []) t ≡ whole s →
    (rs : List Row) × TextAnswer n t (rows_are rs) × (s.rows ≡ length rs) × (length rs ≤ most_rows) × (take (row_size * length rs) s.cells ≡ flat rs) × (length s.cells ≡ rows_size)
unfolding rows_of
going_whole n t cells s e q =
    let j : Judged nothing_counted (nt n ∷ []) t (start cells) (whole s) = subst (λ (o : Out). Judged nothing_counted (nt n ∷ []) t (start cells) o) q (judged t nothing_counted (nt n ∷ []) (start cells) (start_tracks cells) (part_sound n)) in
    let r = j empty_book (holds_blank (start cells) e refl refl refl) in
    let h = r.holds in
    let count = h.stand.count in (
      rows_of r.events (tokens_of t),
      accepts r.wholly (factored→language r.derives, r.reads) (λ z f. r.clean z (fault_flaw n t f)),
      count,
      (let w = h.within in omega arith),
      ap (λ (z : ℕ). take (row_size * z) s.cells) (sym count) ∙ h.stand.are,
      h.size,
    )

-- the refusal of a text that is not
pub going_halt : (n : Part) (t : Text) → Rising t → (cells : List ℕ) (r : Refusal) → go (start cells) (nt n ∷ []) t ≡ halt r → TextAnswer n t (refuses r)
going_halt n t rise cells r q =
    let j : Judged nothing_counted (nt n ∷ []) t (start cells) (halt r) = subst (λ (o : Out). Judged nothing_counted (nt n ∷ []) t (start cells) o) q (judged t nothing_counted (nt n ∷ []) (start cells) (start_tracks cells) (part_sound n)) in
    let l = j rise in
    refused (flaw_fault n t r l.0) (λ r' f. l.1 r' (fault_flaw n t f))
