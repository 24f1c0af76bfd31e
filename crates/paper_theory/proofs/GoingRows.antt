-- The cells that the reader's machine writes hold the rows of the book, mark by mark and token by token.
use mathlib.Core.Path.{◌≡◌, refl, sym, ap, ◌∙◌, subst, subst₂}
use mathlib.Core.Bool.{Bool, true, false}
use mathlib.Core.List.{List, [], ◌∷◌, ◌++◌, cons≢nil}
use Prim.Native.Nat.{ℕ, ◌+◌, ◌-◌, ◌*◌, ◌≤◌}
use native.Mathlib.Nat.{le_trans, le_refl}
use native.Mathlib.Omega.{arith}
use lib.Dec.{T}
use lib.ListN.{length, set, get_or, length-set}
use lib.Seq.{sets, length-sets}
use Rattle.paper.specs.Grammar.{Ev, tok, mark, toks}
use Rattle.paper.specs.Numbers.{most_rows, rows_size}
use Rattle.paper.specs.Language.{Class, Mark, row, kind, named, wrapper, wrap, end}
use Rattle.paper.specs.Tokens.{Tok, Text, at_end, token}
use Rattle.paper.specs.Rows.{Row, Book, empty_book, change, top, pop, begun, start_of, stop_of, of_kind, with_name, stopping, at_mark, taken, book, flat}
use Rattle.paper.proofs.Going.{State, st, start_in, stop_in, noted, marked}
use Rattle.paper_theory.proofs.RowCells.{Stand, stand_set, stand_wrap, stand_row, change_change}

pub record Holds (s : State) (b : Book) : Type 0 where
  pub size : length s.cells ≡ rows_size
  pub within : s.rows ≤ most_rows
  pub stand : Stand s.rows s.cells b.rows
  pub opened : s.open' ≡ b.open'
  pub last : s.stop ≡ b.stop

-- the marks that look at the next token
abbrev pub loud : Mark → Bool
loud row = true
loud (kind k x) = false
loud named = true
loud wrapper = false
loud (wrap w) = false
loud end = false

-- one field of a row
one_kind : ℕ → Row → Row
one_kind k r = record { kind = k; start = r.start; end = r.end; parent = r.parent; name_start = r.name_start; name_length = r.name_length; extra = r.extra }

one_extra : ℕ → Row → Row
one_extra x r = record { kind = r.kind; start = r.start; end = r.end; parent = r.parent; name_start = r.name_start; name_length = r.name_length; extra = x }

one_name : ℕ → Row → Row
one_name a r = record { kind = r.kind; start = r.start; end = r.end; parent = r.parent; name_start = a; name_length = r.name_length; extra = r.extra }

one_size : ℕ → Row → Row
one_size n r = record { kind = r.kind; start = r.start; end = r.end; parent = r.parent; name_start = r.name_start; name_length = n; extra = r.extra }

-- two writes into one row
stand_kind : (k x i n : ℕ) (cells : List ℕ) (rs : List Row) → Stand n cells rs → Stand n (set (set cells (7 * i) k) (7 * i + 6) x) (change (of_kind k x) i rs)
unfolding one_kind one_extra
stand_kind k x i n cells rs s =
    let e : 7 * i + 0 ≡ 7 * i = omega arith in
    let a : Stand n (set cells (7 * i) k) (change (one_kind k) i rs) = rw e at (stand_set (one_kind k) 0 k (omega arith) (λ r q. refl) i n cells rs s) in
    subst (Stand n (set (set cells (7 * i) k) (7 * i + 6) x)) (change_change (one_kind k) (one_extra x) i rs) (stand_set (one_extra x) 6 x (omega arith) (λ r q. refl) i n (set cells (7 * i) k) (change (one_kind k) i rs) a)

stand_name : (a z i n : ℕ) (cells : List ℕ) (rs : List Row) → Stand n cells rs → Stand n (set (set cells (7 * i + 4) a) (7 * i + 5) (z - a)) (change (with_name a z) i rs)
unfolding one_name one_size
stand_name a z i n cells rs s =
    let b = stand_set (one_name a) 4 a (omega arith) (λ r q. refl) i n cells rs s in
    subst (Stand n (set (set cells (7 * i + 4) a) (7 * i + 5) (z - a))) (change_change (one_name a) (one_size (z - a)) i rs) (stand_set (one_size (z - a)) 5 (z - a) (omega arith) (λ r q. refl) i n (set cells (7 * i + 4) a) (change (one_name a) i rs) b)

-- a mark
pub holds_noted : (m : Mark) (t : Text) (ts : List Tok) (s : State) (b : Book) → (T (loud m) → (start_in t ≡ start_of ts) × (stop_in t ≡ stop_of ts)) → Holds s b → (noted m t s).rows ≤ most_rows →
    Holds (noted m t s) (at_mark m ts b)
holds_noted row t ts s b f h w =
    record {
      size = length-sets s.cells (7 * s.rows) (0 ∷ start_in t ∷ 0 ∷ top s.open' ∷ 0 ∷ 0 ∷ 0 ∷ []) ∙ h.size;
      within = w;
      stand =
          subst₂ (λ (at parent : ℕ). Stand (s.rows + 1) (sets s.cells (7 * s.rows) (0 ∷ start_in t ∷ 0 ∷ top s.open' ∷ 0 ∷ 0 ∷ 0 ∷ [])) (b.rows ++ (begun at parent ∷ []))) (f tt).0 (ap top h.opened)
          (stand_row (start_in t) (top s.open') s.rows s.cells b.rows h.stand (let e = h.size in omega arith));
      opened = ap (λ (z : ℕ). z ∷ s.open') h.stand.count ∙ ap (λ (z : List ℕ). length b.rows ∷ z) h.opened;
      last = h.last;
    }
holds_noted (kind k x) t ts s b f h w =
    record {
      size = length-set (set s.cells (7 * top s.open') k) (7 * top s.open' + 6) x ∙ length-set s.cells (7 * top s.open') k ∙ h.size;
      within = w;
      stand = subst (λ (o : List ℕ). Stand s.rows (set (set s.cells (7 * top s.open') k) (7 * top s.open' + 6) x) (change (of_kind k x) (top o) b.rows)) h.opened
          (stand_kind k x (top s.open') s.rows s.cells b.rows h.stand);
      opened = h.opened;
      last = h.last;
    }
holds_noted named t ts s b f h w =
    record {
      size = length-set (set s.cells (7 * top s.open' + 4) (start_in t)) (7 * top s.open' + 5) (stop_in t - start_in t) ∙ length-set s.cells (7 * top s.open' + 4) (start_in t) ∙ h.size;
      within = w;
      stand =
          rw (← h.opened, ← (f tt).0, ← (f tt).1) (stand_name (start_in t) (stop_in t) (top s.open') s.rows s.cells b.rows h.stand);
      opened = h.opened;
      last = h.last;
    }
holds_noted wrapper t ts s b f h w = record { size = h.size; within = w; stand = h.stand; opened = h.opened; last = h.last }
holds_noted (wrap v) t ts s b f h w =
    record {
      size = length-set s.cells (7 * top s.open' + 6) (get_or s.cells (7 * top s.open' + 6) 0 * 4 + v) ∙ h.size;
      within = w;
      stand = rw (← h.opened) (stand_wrap v (top s.open') s.rows s.cells b.rows h.stand);
      opened = h.opened;
      last = h.last;
    }
holds_noted end t ts s b f h w =
    record {
      size = length-set s.cells (7 * top s.open' + 2) s.stop ∙ h.size;
      within = w;
      stand = rw (← h.opened, ← h.last) (stand_set (stopping s.stop) 2 s.stop (omega arith) (λ r q. refl) (top s.open') s.rows s.cells b.rows h.stand);
      opened = ap pop h.opened;
      last = h.last;
    }

-- marks only add rows
pub rows_grow : (es : List (Ev Class Mark)) (t : Text) (s : State) → s.rows ≤ (marked es t s).rows
rows_grow [] t s = le_refl s.rows
rows_grow (tok c ∷ es) t s = rows_grow es t s
rows_grow (mark m ∷ es) t s = le_trans (one m) (rows_grow es t (noted m t s))
  where
    one : (m : Mark) → s.rows ≤ (noted m t s).rows
    one row = omega arith
    one (kind k x) = le_refl s.rows
    one named = le_refl s.rows
    one wrapper = le_refl s.rows
    one (wrap w) = le_refl s.rows
    one end = le_refl s.rows

-- the marks before a token
pub holds_marked : (ms : List (Ev Class Mark)) (k : Tok) (t : Text) (ts : List Tok) (s : State) (b : Book) → toks ms ≡ [] → Holds s b → (marked ms (token k t) s).rows ≤ most_rows →
    Holds (marked ms (token k t) s) (book ms (k ∷ ts) b)
unfolding toks book
holds_marked [] k t ts s b e h w = h
holds_marked (tok c ∷ ms) k t ts s b e h w = absurd (cons≢nil e)
holds_marked (mark m ∷ ms) k t ts s b e h w =
    holds_marked ms k t ts (noted m (token k t) s) (at_mark m (k ∷ ts) b) e
    (holds_noted m (token k t) (k ∷ ts) s b (λ l. (refl, refl)) h (le_trans (rows_grow ms (token k t) (noted m (token k t) s)) w)) w

-- the marks at the end look at no token
unfoldable pub Quiet : List (Ev Class Mark) → Type 0
Quiet [] = Unit {0}
Quiet (tok c ∷ es) = ⊥
Quiet (mark m ∷ es) = (T (loud m) → ⊥) × Quiet es

quiet_rows : (m : Mark) (t : Text) (s : State) → (T (loud m) → ⊥) → (noted m t s).rows ≡ s.rows
quiet_rows row t s q = absurd (q tt)
quiet_rows (kind k x) t s q = refl
quiet_rows named t s q = absurd (q tt)
quiet_rows wrapper t s q = refl
quiet_rows (wrap w) t s q = refl
quiet_rows end t s q = refl

pub holds_ended : (ms : List (Ev Class Mark)) (n : ℕ) (s : State) (b : Book) → Quiet ms → Holds s b → Holds (marked ms (at_end n) s) (book ms [] b)
unfolding Quiet book
holds_ended [] n s b q h = h
holds_ended (tok c ∷ ms) n s b q h = absurd q
holds_ended (mark m ∷ ms) n s b q h =
    holds_ended ms n (noted m (at_end n) s) (at_mark m [] b) q.1
    (holds_noted m (at_end n) [] s b (λ l. absurd (q.0 l)) h (subst (λ (z : ℕ). z ≤ most_rows) (sym (quiet_rows m (at_end n) s q.0)) h.within))

-- the token itself
pub holds_taken : (k : Tok) (ts : List Tok) (l : ℕ) (s : State) (b : Book) → Holds s b → Holds (st s.cells s.rows s.open' k.stop l s.counts) (taken (k ∷ ts) b)
holds_taken k ts l s b h = record { size = h.size; within = h.within; stand = h.stand; opened = h.opened; last = refl }

pub book_step : (ms gs : List (Ev Class Mark)) (c : Class) (k : Tok) (ts : List Tok) (b : Book) → toks ms ≡ [] →
    book ((ms ++ (tok c ∷ [])) ++ gs) (k ∷ ts) b ≡ book gs ts (taken (k ∷ ts) (book ms (k ∷ ts) b))
unfolding toks book
book_step [] gs c k ts b e = refl
book_step (tok d ∷ ms) gs c k ts b e = absurd (cons≢nil e)
book_step (mark m ∷ ms) gs c k ts b e = book_step ms gs c k ts (at_mark m (k ∷ ts) b) e

pub marked_last : (ms : List (Ev Class Mark)) (c : Class) (t : Text) (s : State) → marked (ms ++ (tok c ∷ [])) t s ≡ marked ms t s
marked_last [] c t s = refl
marked_last (tok d ∷ ms) c t s = marked_last ms c t s
marked_last (mark m ∷ ms) c t s = marked_last ms c t (noted m t s)

-- before anything is read
pub holds_blank : (s : State) → length s.cells ≡ rows_size → s.rows ≡ 0 → s.open' ≡ [] → s.stop ≡ 0 → Holds s empty_book
unfolding flat
holds_blank s e r o z =
    record { size = e; within = rw r (omega arith); stand = record { count = r; room = rw r (omega arith); are = rw r refl }; opened = o; last = z }
