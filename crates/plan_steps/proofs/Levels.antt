-- The levels of the planner's second pass: of each level but the last, its row stands open, and the step where the row's tests will stand.
-- What is behind a row is a level of its own, that ends as a whole pass over the rows below it does.
use mathlib.Core.Path.{◌≡◌, refl, sym, ap, ◌∙◌, subst}
use mathlib.Core.List.{List}
use mathlib.Core.Logic.{inr}
use Prim.Native.Nat.{ℕ, zero, suc, ◌+◌, ◌*◌, ◌-◌, ◌≤◌, ◌<◌}
use native.Mathlib.Omega.{arith}
use lib.ListN.{length, get_or, set}
use lib.Seq.{sets, get_or-set_same, get_or-set_other}
use Rattle.plan_steps.specs.Table.{Raw, flat_raw, what, above, arg, count, raw_tests, expand_of, Chained, Fitted, TooMany, Expanded}
use Rattle.plan_steps.proofs.Writes.{Doing, do_start, do_next, do_nested, do_done, over_nested, none_fits}

pub told_many : {p p' : List ℕ} {from r : ℕ} {s : List Raw} → r ≡ 4097 → TooMany from 4097 s → Expanded p p' from r s
told_many e m = inr (record { told = e; many = m.many })

-- row c of the level below stands open, its tests from step a on; behind it, from step `start` on, are the rows below h
pub record Level (t : List ℕ) (n : ℕ) (below : ℕ → ℕ → List ℕ → Type 0) (j c a h start : ℕ) (before : List ℕ) : Type 0 where
  pub its_start : ℕ
  pub its_before : List ℕ
  pub under : below (above t c) its_start its_before
  pub doing : Doing t n (above t c) (suc j) its_start its_before before a c
  pub low : c < n
  pub no_none : what t c ≡ 0 → ⊥
  pub no_dropped : what t c ≡ 3 → ⊥
  pub no_field : what t c ≡ 1 → ⊥
  pub behind : h ≡ arg t c
  pub begins : start ≡ a + count t c
  pub room : start ≤ 4096

module _ (t : List ℕ) (n holder k from : ℕ) (p₀ : List ℕ) where
  -- d levels are open below the one of the rows below h, which may have j levels more; it began at step `start`, with the steps of `before`
  abbrev pub Opened : ℕ → List ℕ → List ℕ → ℕ → ℕ → ℕ → List ℕ → Type 0
  Opened zero rows steps j h start before = (suc j ≡ k) × (h ≡ holder) × (start ≡ from) × (before ≡ p₀)
  Opened (suc d) rows steps j h start before = Level t n (λ h' start' before'. Opened d rows steps (suc j) h' start' before') j (get_or rows d 0) (get_or steps d 0) h start before

  -- only the first d rows and steps matter
  opened_frame : (d : ℕ) (rows steps rows' steps' : List ℕ) (j h start : ℕ) (before : List ℕ) → ((i : ℕ) → i < d → get_or rows' i 0 ≡ get_or rows i 0) → ((i : ℕ) → i < d → get_or steps' i 0 ≡ get_or steps i 0)
      → Opened d rows steps j h start before → Opened d rows' steps' j h start before
  opened_frame zero rows steps rows' steps' j h start before f g o = o
  opened_frame (suc d) rows steps rows' steps' j h start before f g o =
      let below : ℕ → ℕ → List ℕ → Type 0 = λ h' start' before'. Opened d rows' steps' (suc j) h' start' before' in
      let more = opened_frame d rows steps rows' steps' (suc j) (above t (get_or rows d 0)) o.its_start o.its_before (λ i l. f i (omega arith)) (λ i l. g i (omega arith)) o.under in
      subst (λ (x : ℕ). Level t n below j x (get_or steps' d 0) h start before) (sym (f d (omega arith)))
      (subst (λ (x : ℕ). Level t n below j (get_or rows d 0) x h start before) (sym (g d (omega arith)))
      (record {
        its_start = o.its_start;
        its_before = o.its_before;
        under = more;
        doing = o.doing;
        low = o.low;
        no_none = o.no_none;
        no_dropped = o.no_dropped;
        no_field = o.no_field;
        behind = o.behind;
        begins = o.begins;
        room = o.room;
      }))

  -- too many steps of a level are too many
  over_levels : (d : ℕ) (rows steps : List ℕ) (j h start : ℕ) (before : List ℕ) → Opened d rows steps j h start before → TooMany start 4097 (expand_of t n (suc j) start h) → TooMany from 4097 (expand_of t n k from holder)
  over_levels zero rows steps j h start before o m =
      subst (λ (x : ℕ). TooMany from 4097 (expand_of t n x from holder)) o.0 (subst (λ (x : ℕ). TooMany from 4097 (expand_of t n (suc j) from x)) o.1 (subst (λ (x : ℕ). TooMany x 4097 (expand_of t n (suc j) x h)) o.2 m))
  over_levels (suc d) rows steps j h start before o m =
      let c = get_or rows d 0 in let a = get_or steps d 0 in
      over_levels d rows steps (suc j) (above t c) o.its_start o.its_before o.under
      (over_nested t n (above t c) (suc j) o.its_start o.its_before before a c o.doing o.low 4097 refl o.no_none o.no_dropped o.no_field
      (subst (λ (x : ℕ). TooMany (a + count t c) 4097 (expand_of t n (suc j) (a + count t c) x)) o.behind (subst (λ (x : ℕ). TooMany x 4097 (expand_of t n (suc j) x h)) o.begins m)))

  -- before row c of the rows below h, behind d open rows
  pub record Going (rows steps p : List ℕ) (d h at c : ℕ) : Type 0 where
    pub own : ℕ
    pub start : ℕ
    pub before : List ℕ
    pub opened : Opened d rows steps own h start before
    pub levels : d + suc own ≡ k
    pub doing : Doing t n h own start before p at c
    pub size : length p ≡ length p₀

  module _ (rows steps p : List ℕ) (d h at c : ℕ) (w : Going rows steps p d h at c) where
    -- along the level
    pub go_on : (p' : List ℕ) (at' c' : ℕ) → Doing t n h w.own w.start w.before p' at' c' → Going rows steps p' d h at' c'
    go_on p' at' c' q = record { own = w.own; start = w.start; before = w.before; opened = w.opened; levels = w.levels; doing = q; size = q.size ∙ sym w.doing.size ∙ w.size }

    pub go_over : TooMany w.start 4097 (expand_of t n (suc w.own) w.start h) → TooMany from 4097 (expand_of t n k from holder)
    go_over m = over_levels d rows steps w.own h w.start w.before w.opened m

    -- a level more than k is left out
    go_deepest : (p' : List ℕ) → c < n → above t c ≡ h → (what t c ≡ 0 → ⊥) → (what t c ≡ 3 → ⊥) → (what t c ≡ 1 → ⊥) → at + count t c ≤ 4096 → d + 1 ≡ k
        → p' ≡ sets p (2050 + 3 * at) (flat_raw (raw_tests t (12 * c + 4) (count t c) (at + count t c))) → Doing t n h w.own w.start w.before p' (at + count t c) (c + 1)
    go_deepest p' low f n0 n3 n1 room last q =
        do_nested t n h w.own w.start w.before p at c w.doing low p p' (at + count t c) f n0 n3 n1 (none_fits t n (arg t c) (at + count t c) w.own p (omega (arith, w.levels)) room) q

    pub go_last : (p' : List ℕ) {m : ℕ} → c < n → above t c ≡ h → (what t c ≡ 0 → ⊥) → (what t c ≡ 3 → ⊥) → (what t c ≡ 1 → ⊥) → m ≡ count t c → at + m ≤ 4096 → d + 1 ≡ k
        → p' ≡ sets p (2050 + 3 * at) (flat_raw (raw_tests t (12 * c + 4) (count t c) (at + m))) → Doing t n h w.own w.start w.before p' (at + m) (c + 1)
    go_last p' {m} low f n0 n3 n1 e room last q =
        subst (λ (x : ℕ). Doing t n h w.own w.start w.before p' (at + x) (c + 1)) (sym e)
        (go_deepest p' low f n0 n3 n1 (omega (arith, e)) last (q ∙ ap (λ (x : ℕ). sets p (2050 + 3 * at) (flat_raw (raw_tests t (12 * c + 4) (count t c) (at + x)))) e))

  module _ (first next : List ℕ) (ch : Chained t n first next) where
    pub go_start : (rows steps : List ℕ) {c : ℕ} → (k ≡ 0 → ⊥) → from ≤ 4096 → holder ≤ 2048 → c ≡ get_or first holder 0 → Going rows steps p₀ 0 holder from c
    go_start rows steps {c} nz low few e = record {
      own = k - 1;
      start = from;
      before = p₀;
      opened = (omega (arith, nz), refl, refl, refl);
      levels = omega (arith, nz);
      doing = do_start t n holder (k - 1) from p₀ first next ch low few e;
      size = refl;
    }

    -- past row c of the level
    pub go_next : (rows steps p : List ℕ) (d h at c : ℕ) (w : Going rows steps p d h at c) (p' : List ℕ) (at' : ℕ) {c' : ℕ} → Doing t n h w.own w.start w.before p' at' (c + 1) → c < n → above t c ≡ h → c' ≡ get_or next c 0
        → Going rows steps p' d h at' c'
    go_next rows steps p d h at c w p' at' {c'} q low f e = go_on rows steps p d h at c w p' at' c' (do_next t n h w.own w.start w.before first next ch p' at' c q low f e)

    -- into the rows behind row c
    go_in : (rows steps p : List ℕ) (d h at c : ℕ) (w : Going rows steps p d h at c) {c' : ℕ} → c < n → above t c ≡ h → (what t c ≡ 0 → ⊥) → (what t c ≡ 3 → ⊥) → (what t c ≡ 1 → ⊥) → at + count t c ≤ 4096 → (d + 1 ≡ k → ⊥)
        → d < length rows → d < length steps → arg t c ≤ 2048 → c' ≡ get_or first (arg t c) 0 → Going (set rows d c) (set steps d at) p (d + 1) (arg t c) (at + count t c) c'
    go_in rows steps p d h at c w {c'} low f n0 n3 n1 room more lr ls few e = subst (λ (x : ℕ). Going (set rows d c) (set steps d at) p x (arg t c) (at + count t c) c') one (record {
      own = w.own - 1;
      start = at + count t c;
      before = p;
      opened = subst (λ (x : ℕ). Level t n below (w.own - 1) x (get_or (set steps d at) d 0) (arg t c) (at + count t c) p) (sym here_row)
          (subst (λ (x : ℕ). Level t n below (w.own - 1) c x (arg t c) (at + count t c) p) (sym here_step) (record {
            its_start = w.start;
            its_before = w.before;
            under = subst (λ (x : ℕ). Opened d (set rows d c) (set steps d at) x (above t c) w.start w.before) less
                (subst (λ (x : ℕ). Opened d (set rows d c) (set steps d at) w.own x w.start w.before) (sym f)
                (opened_frame d rows steps (set rows d c) (set steps d at) w.own h w.start w.before (λ i l. get_or-set_other rows d i c 0 (λ z. absurd (omega arith))) (λ i l. get_or-set_other steps d i at 0 (λ z. absurd (omega arith))) w.opened));
            doing = subst (λ (x : ℕ). Doing t n (above t c) x w.start w.before p at c) less (subst (λ (x : ℕ). Doing t n x w.own w.start w.before p at c) (sym f) w.doing);
            low = low;
            no_none = n0;
            no_dropped = n3;
            no_field = n1;
            behind = refl;
            begins = refl;
            room = room;
          }));
      levels = omega (arith, w.levels, more);
      doing = do_start t n (arg t c) (w.own - 1) (at + count t c) p first next ch room few e;
      size = w.size;
    })
      where
        one : suc d ≡ d + 1
        one = omega arith

        less : w.own ≡ suc (w.own - 1)
        less = omega (arith, w.levels, more)

        here_row : get_or (set rows d c) d 0 ≡ c
        here_row = get_or-set_same rows d c 0 lr

        here_step : get_or (set steps d at) d 0 ≡ at
        here_step = get_or-set_same steps d at 0 ls

        below : ℕ → ℕ → List ℕ → Type 0
        below h' start' before' = Opened d (set rows d c) (set steps d at) (suc (w.own - 1)) h' start' before'

    pub go_deeper : (rows steps p : List ℕ) (d h at c : ℕ) (w : Going rows steps p d h at c) {m h' c' : ℕ} → c < n → above t c ≡ h → (what t c ≡ 0 → ⊥) → (what t c ≡ 3 → ⊥) → (what t c ≡ 1 → ⊥) → m ≡ count t c → at + m ≤ 4096
        → (d + 1 ≡ k → ⊥) → d < length rows → d < length steps → arg t c ≤ 2048 → h' ≡ arg t c → c' ≡ get_or first h' 0 → Going (set rows d c) (set steps d at) p (d + 1) h' (at + m) c'
    go_deeper rows steps p d h at c w {m} {h'} {c'} low f n0 n3 n1 e room more lr ls few eh ec =
        subst (λ (x : ℕ). Going (set rows d c) (set steps d at) p (d + 1) x (at + m) c') (sym eh) (subst (λ (x : ℕ). Going (set rows d c) (set steps d at) p (d + 1) (arg t c) (at + x) c') (sym e)
        (go_in rows steps p d h at c w low f n0 n3 n1 (omega (arith, e)) more lr ls few (ec ∙ ap (λ (x : ℕ). get_or first x 0) eh)))

    -- and out of them, when no row is left: the tests of the open row are written
    module _ (rows steps p : List ℕ) (d h at c : ℕ) (w : Going rows steps p (suc d) h at c) where
      abbrev its : ℕ
      its = get_or rows d 0

      abbrev its_step : ℕ
      its_step = get_or steps d 0

      pub go_out : (p' : List ℕ) {c' : ℕ} → n ≤ c → p' ≡ sets p (2050 + 3 * its_step) (flat_raw (raw_tests t (12 * its + 4) (count t its) at)) → c' ≡ get_or next its 0 → Going rows steps p' d (above t its) at c'
      go_out p' {c'} none_left q e =
          let o = w.opened in
          let fit = subst (λ (x : ℕ). Fitted w.before p (its_step + count t its) at (expand_of t n (suc w.own) (its_step + count t its) x)) o.behind
          (subst (λ (x : ℕ). Fitted w.before p x at (expand_of t n (suc w.own) x h)) o.begins (do_done t n h w.own w.start w.before p at c w.doing none_left)) in
          let done = do_nested t n (above t its) (suc w.own) o.its_start o.its_before w.before its_step its o.doing o.low p p' at refl o.no_none o.no_dropped o.no_field fit q in
          record {
            own = suc w.own;
            start = o.its_start;
            before = o.its_before;
            opened = o.under;
            levels = omega (arith, w.levels);
            doing = do_next t n (above t its) (suc w.own) o.its_start o.its_before first next ch p' at its done o.low refl e;
            size = done.size ∙ sym o.doing.size ∙ sym w.doing.size ∙ w.size;
          }

    -- the same of any count of levels but none, by the row and the step that were read
    module _ (rows steps p : List ℕ) (d h at c : ℕ) (w : Going rows steps p d h at c) (some-open : d ≡ 0 → ⊥) {r a : ℕ} (er : r ≡ get_or rows (d - 1) 0) (ea : a ≡ get_or steps (d - 1) 0) where
      deeper : Going rows steps p (suc (d - 1)) h at c
      deeper = let z : d ≡ suc (d - 1) = omega (arith, some-open) in subst (λ (x : ℕ). Going rows steps p x h at c) z w

      pub open_low : r < n
      open_low = let o = deeper.opened.low in omega (arith, o, er)

      pub open_room : a + count t r ≤ 4096
      open_room = let o = deeper.opened in omega (arith, o.begins, o.room, ea, ap (count t) er)

      pub go_back : (p' : List ℕ) {h' c' : ℕ} → n ≤ c → p' ≡ sets p (2050 + 3 * a) (flat_raw (raw_tests t (12 * r + 4) (count t r) at)) → h' ≡ above t r → c' ≡ get_or next r 0 → Going rows steps p' (d - 1) h' at c'
      go_back p' {h'} {c'} none_left q eh ec =
          subst (λ (x : ℕ). Going rows steps p' (d - 1) x at c') (sym (eh ∙ ap (above t) er))
          (go_out rows steps p (d - 1) h at c deeper p' none_left
          (q ∙ ap (λ (x : ℕ). sets p (2050 + 3 * x) (flat_raw (raw_tests t (12 * r + 4) (count t r) at))) ea ∙ ap (λ (x : ℕ). sets p (2050 + 3 * get_or steps (d - 1) 0) (flat_raw (raw_tests t (12 * x + 4) (count t x) at))) er)
          (ec ∙ ap (λ (x : ℕ). get_or next x 0) er))

  -- no row is left, and no row is open
  pub go_end : (rows steps p : List ℕ) (d h at c : ℕ) → Going rows steps p d h at c → d ≡ 0 → n ≤ c → Fitted p₀ p from at (expand_of t n k from holder)
  go_end rows steps p d h at c v e none_left =
      let w = subst (λ (x : ℕ). Going rows steps p x h at c) e v in let o = w.opened in
      subst (λ (x : List ℕ). Fitted x p from at (expand_of t n k from holder)) o.3
      (subst (λ (x : ℕ). Fitted w.before p x at (expand_of t n k x holder)) o.2
      (subst (λ (x : ℕ). Fitted w.before p w.start at (expand_of t n k w.start x)) o.1
      (subst (λ (x : ℕ). Fitted w.before p w.start at (expand_of t n x w.start h)) o.0
      (do_done t n h w.own w.start w.before p at c w.doing none_left))))
