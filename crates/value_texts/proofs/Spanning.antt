-- The rows that a derivation leaves: each begins and ends with a token, and a number's or string's row is one token of its class.
-- Mark by mark: open rows wait for their last token, the others are whole. A row keeps its parent, and its kind once it has one.
use mathlib.Core.Path.{◌≡◌, refl, sym, ap, ◌∙◌, subst}
use mathlib.Core.Logic.{◌⊎◌, inl, inr}
use mathlib.Core.Bool.{Bool, true, false, cond}
use mathlib.Core.List.{List, [], ◌∷◌, ◌++◌, map, Memᴰ, nil≢cons, cons≢nil, head-eq_of_cons-eq, tail-eq_of_cons-eq}
use mathlib.Core.Option.{some}
use Prim.Native.Nat.{ℕ, zero, suc, ◌<◌, ◌≤◌}
use native.Mathlib.Decide.{dec_lt, ℕ_discrete}
use native.Mathlib.Omega.{arith}
use lib.Dec.{T, eqb→eq}
use lib.ListN.{length, get_elem?, length-append, get_or-append}
use lib.Seq.{get_or-append_seam}
use Rattle.paper.specs.Numbers.{no_parent}
use Rattle.paper.specs.Grammar.{nt, tm, act, Ev, toks, Derives, done, take, note as marks, by}
use Rattle.paper.specs.Language.{Class, num_c, same_c, Terminal, hits, the, any_name, name_but_on, name_but_literal, Mark, row, kind, named, wrapper, wrap, end, Part, language}
use Rattle.paper.specs.Tokens.{Tok}
use Rattle.paper.specs.Rows.{Row, Book, empty_book, change, top, pop, start_of, stop_of, begun, of_kind, with_name, wrapped, stopping, at_mark, taken, book}
use Rattle.paper.proofs.Tables.{all_c, at_c}
use Rattle.paper_theory.proofs.RowCells.{change_length}
use Rattle.paper_query.specs.Constructs.{no_row}
use Rattle.value_texts.proofs.Changes.{at, change_here, change_else}
use Rattle.value_texts.proofs.Phases.{Syms, is_literal, literal_class, is_the, Phase, settled, fresh, bare, waiting, wrong, literal, spelt, of_token, of_mark, run, is_settled, is_new, settled_is, run_by, ends, ends_by, not_wrong}

-- what is asked of a row: its kind and its ends
abbrev core : Row → Row
core r = record { kind = r.kind; start = r.start; end = r.end; parent = 0; name_start = 0; name_length = 0; extra = 0 }

core_change : (f : Row → Row) → ((r : Row) → core (f r) ≡ core r) → (k i : ℕ) (rs : List Row) → core (at (change f k rs) i) ≡ core (at rs i)
core_change f g k i [] = refl
core_change f g zero zero (r ∷ rs) = g r
core_change f g zero (suc i) (r ∷ rs) = refl
core_change f g (suc k) zero (r ∷ rs) = refl
core_change f g (suc k) (suc i) (r ∷ rs) = core_change f g k i rs

-- rows that come after others: parents stay, and kinds once they are set
pub record Grows (b c : Book) : Type 0 where
  pub more : length b.rows ≤ length c.rows
  pub parents : (i : ℕ) → i < length b.rows → (at c.rows i).parent ≡ (at b.rows i).parent
  pub kinds : (i : ℕ) → i < length b.rows → ((at b.rows i).kind ≡ 0 → ⊥) → (at c.rows i).kind ≡ (at b.rows i).kind

grows_same : (b c : Book) → b.rows ≡ c.rows → Grows b c
grows_same b c q = record {
  more = let e = ap length q in omega arith;
  parents = λ i h. ap (λ (rs : List Row). (at rs i).parent) (sym q);
  kinds = λ i h z. ap (λ (rs : List Row). (at rs i).kind) (sym q);
}

grows_then : {a b c : Book} → Grows a b → Grows b c → Grows a c
grows_then {a} {b} {c} g h = record {
  more = let x = g.more in let y = h.more in omega arith;
  parents = λ i l. h.parents i (let x = g.more in omega arith) ∙ g.parents i l;
  kinds = λ i l z. h.kinds i (let x = g.more in omega arith) (λ q. z (sym (g.kinds i l z) ∙ q)) ∙ g.kinds i l z;
}

-- a row changed that has no kind, or keeps it
grows_change : (f : Row → Row) (k stop : ℕ) (os : List ℕ) (b : Book) → ((r : Row) → (f r).parent ≡ r.parent) → (((at b.rows k).kind ≡ 0 → ⊥) → (f (at b.rows k)).kind ≡ (at b.rows k).kind)
    → Grows b (record { rows = change f k b.rows; open' = os; stop = stop })
grows_change f k stop os b p q = record {
  more = let e = change_length f k b.rows in omega arith;
  parents = λ i h. go_parent i h (ℕ_discrete i k);
  kinds = λ i h z. go_kind i h z (ℕ_discrete i k);
}
  where
    go_parent : (i : ℕ) → i < length b.rows → Dec (i ≡ k) → (at (change f k b.rows) i).parent ≡ (at b.rows i).parent
    go_parent i h (yes e) = rw e (ap (λ (r : Row). r.parent) (change_here f k b.rows (omega (arith, e, h))) ∙ p (at b.rows k))
    go_parent i h (no n) = ap (λ (r : Row). r.parent) (change_else f k i b.rows n)

    go_kind : (i : ℕ) → i < length b.rows → ((at b.rows i).kind ≡ 0 → ⊥) → Dec (i ≡ k) → (at (change f k b.rows) i).kind ≡ (at b.rows i).kind
    go_kind i h z (yes e) =
        rw e (ap (λ (r : Row). r.kind) (change_here f k b.rows (omega (arith, e, h))) ∙ q (subst (λ (j : ℕ). (at b.rows j).kind ≡ 0 → ⊥) e z))
    go_kind i h z (no n) = ap (λ (r : Row). r.kind) (change_else f k i b.rows n)

grows_row : (r : Row) (os : List ℕ) (stop : ℕ) (b : Book) → Grows b (record { rows = b.rows ++ (r ∷ []); open' = os; stop = stop })
grows_row r os stop b = record {
  more = let e = length-append b.rows (r ∷ []) in omega arith;
  parents = λ i h. ap (λ (x : Row). x.parent) (get_or-append b.rows (r ∷ []) no_row i h);
  kinds = λ i h z. ap (λ (x : Row). x.kind) (get_or-append b.rows (r ∷ []) no_row i h);
}

same_class : (c d : Class) → T (same_c c d) → c ≡ d
same_class c d h =
    let e : some c ≡ some d = sym (at_c c) ∙ ap (λ (z : ℕ). get_elem? all_c z) (eqb→eq (num_c c) (num_c d) h) ∙ at_c d in
    cc

-- numbers of open rows, each below the one inside it
abbrev pub Down : ℕ → List ℕ → Type 0
Down n [] = Unit {0}
Down n (k ∷ ks) = (k < n) × Down k ks

abbrev Among : ℕ → List ℕ → Type 0
Among i [] = ⊥
Among i (k ∷ ks) = (i ≡ k) ⊎ Among i ks

-- tokens that a test passes, in a text of l bytes
module _ (l : ℕ) (Good : Tok → Type 0) where
  -- tokens from an offset on
  abbrev pub Rise : ℕ → List Tok → Type 0
  Rise a [] = a ≤ l
  Rise a (k ∷ ts) = (a ≤ k.start) × (k.start ≤ k.stop) × Good k × Rise k.stop ts

  rise_within : (a : ℕ) (ts : List Tok) → Rise a ts → a ≤ l
  rise_within a [] h = h
  rise_within a (k ∷ ts) h = omega (arith, h.0, h.1, rise_within k.stop ts h.3)

  -- the token that a number's or string's row is
  abbrev pub Spelt : Row → Type 0
  Spelt r = (k : Tok) × Good k × (k.class ≡ literal_class r.kind) × (k.start ≡ r.start) × (k.stop ≡ r.end)

  -- a whole row
  abbrev pub Whole : Row → Type 0
  Whole r = (r.start ≤ r.end) × (r.end ≤ l) × (T (is_literal r.kind) → Spelt r)

  -- an open row that holds a token
  abbrev Held : ℕ → Row → Type 0
  Held stop r = (r.start ≤ stop) × (T (is_literal r.kind) → ⊥)

  abbrev AllHeld : List Row → ℕ → List ℕ → Type 0
  AllHeld rows stop [] = Unit {0}
  AllHeld rows stop (k ∷ ks) = Held stop (at rows k) × AllHeld rows stop ks

  -- the innermost open row
  abbrev Inner : Phase → Row → List Tok → ℕ → Type 0
  Inner settled r ts stop = Held stop r
  Inner fresh r ts stop = (r.kind ≡ 0) × (r.start ≡ start_of ts)
  Inner bare r ts stop = (r.kind ≡ 0) × (r.start ≤ stop)
  Inner waiting r ts stop = (T (is_literal r.kind) → ⊥) × (r.start ≡ start_of ts)
  Inner wrong r ts stop = ⊥
  Inner (literal k) r ts stop = (r.kind ≡ k) × (r.start ≡ start_of ts)
  Inner (spelt k) r ts stop = (r.kind ≡ k) × ((t : Tok) × Good t × (t.class ≡ literal_class k) × (t.start ≡ r.start) × (t.stop ≡ stop)) × (r.start ≤ stop)

  abbrev Opens : Phase → List Row → List Tok → ℕ → List ℕ → Type 0
  Opens φ rows ts stop [] = T (is_settled φ)
  Opens φ rows ts stop (k ∷ ks) = Inner φ (at rows k) ts stop × AllHeld rows stop ks

  pub record Stands (φ : Phase) (d : ℕ) (ts : List Tok) (b : Book) : Type 0 where
    pub rise : Rise b.stop ts
    pub down : Down (length b.rows) b.open'
    pub whole : (i : ℕ) → i < length b.rows → Among i b.open' ⊎ Whole (at b.rows i)
    pub opens : Opens φ b.rows ts b.stop b.open'
    pub level : length b.open' ≡ d
    pub last : T (is_new φ) → suc (top b.open') ≡ length b.rows

  -- rows changed in what is not asked
  held_core : (rows rows' : List Row) → ((i : ℕ) → core (at rows' i) ≡ core (at rows i)) → (stop : ℕ) (ks : List ℕ) → AllHeld rows stop ks → AllHeld rows' stop ks
  held_core rows rows' e stop [] h = tt
  held_core rows rows' e stop (k ∷ ks) h = (subst (Held stop) (sym (e k)) h.0, held_core rows rows' e stop ks h.1)

  inner_core : (φ : Phase) (r r' : Row) → core r' ≡ core r → (ts : List Tok) (stop : ℕ) → Inner φ r ts stop → Inner φ r' ts stop
  inner_core settled r r' e ts stop h = subst (Held stop) (sym e) h
  inner_core fresh r r' e ts stop h = subst (λ (x : Row). (x.kind ≡ 0) × (x.start ≡ start_of ts)) (sym e) h
  inner_core bare r r' e ts stop h = subst (λ (x : Row). (x.kind ≡ 0) × (x.start ≤ stop)) (sym e) h
  inner_core waiting r r' e ts stop h = subst (λ (x : Row). (T (is_literal x.kind) → ⊥) × (x.start ≡ start_of ts)) (sym e) h
  inner_core wrong r r' e ts stop h = h
  inner_core (literal k) r r' e ts stop h = subst (λ (x : Row). (x.kind ≡ k) × (x.start ≡ start_of ts)) (sym e) h
  inner_core (spelt k) r r' e ts stop h =
      subst (λ (x : Row). (x.kind ≡ k) × ((t : Tok) × Good t × (t.class ≡ literal_class k) × (t.start ≡ x.start) × (t.stop ≡ stop)) × (x.start ≤ stop)) (sym e) h

  opens_core : (φ : Phase) (rows rows' : List Row) → ((i : ℕ) → core (at rows' i) ≡ core (at rows i)) → (ts : List Tok) (stop : ℕ) (os : List ℕ) → Opens φ rows ts stop os → Opens φ rows' ts stop os
  opens_core φ rows rows' e ts stop [] h = h
  opens_core φ rows rows' e ts stop (k ∷ ks) h = (inner_core φ (at rows k) (at rows' k) (e k) ts stop h.0, held_core rows rows' e stop ks h.1)

  stands_core : (φ : Phase) (d : ℕ) (ts : List Tok) (b : Book) (f : Row → Row) → ((r : Row) → core (f r) ≡ core r) → (k : ℕ) → Stands φ d ts b
      → Stands φ d ts (record { rows = change f k b.rows; open' = b.open'; stop = b.stop })
  stands_core φ d ts b f g k h = record {
    rise = h.rise;
    down = subst (λ (n : ℕ). Down n b.open') (sym size) h.down;
    whole = λ i u. same i (h.whole i (omega (arith, size)));
    opens = opens_core φ b.rows (change f k b.rows) (λ i. core_change f g k i b.rows) ts b.stop b.open' h.opens;
    level = h.level;
    last = λ t. h.last t ∙ sym size;
  }
    where
      size : length (change f k b.rows) ≡ length b.rows
      size = change_length f k b.rows

      same : (i : ℕ) → Among i b.open' ⊎ Whole (at b.rows i) → Among i b.open' ⊎ Whole (at (change f k b.rows) i)
      same i (inl a) = inl a
      same i (inr w) = inr (subst Whole (sym (core_change f g k i b.rows)) w)

  -- open rows but the innermost, where that is changed, where a row is put behind them, and where a token is taken
  held_change : (f : Row → Row) (k : ℕ) (rows : List Row) (stop j : ℕ) (ks : List ℕ) → j ≤ k → Down j ks → AllHeld rows stop ks → AllHeld (change f k rows) stop ks
  held_change f k rows stop j [] u d h = tt
  held_change f k rows stop j (i ∷ ks) u d h =
      let low = d.0 in
      (subst (Held stop) (sym (change_else f k i rows (λ e. absurd (omega arith)))) h.0, held_change f k rows stop i ks (omega arith) d.1 h.1)

  held_row : (r : Row) (rows : List Row) (stop j : ℕ) (ks : List ℕ) → j ≤ length rows → Down j ks → AllHeld rows stop ks → AllHeld (rows ++ (r ∷ [])) stop ks
  held_row r rows stop j [] u d h = tt
  held_row r rows stop j (i ∷ ks) u d h =
      let low = d.0 in
      (subst (Held stop) (sym (get_or-append rows (r ∷ []) no_row i (omega arith))) h.0, held_row r rows stop i ks (omega arith) d.1 h.1)

  held_later : (rows : List Row) (stop later : ℕ) (ks : List ℕ) → stop ≤ later → AllHeld rows stop ks → AllHeld rows later ks
  held_later rows stop later [] u h = tt
  held_later rows stop later (k ∷ ks) u h = let a = h.0.0 in ((omega arith, h.0.1), held_later rows stop later ks u h.1)

  -- where the innermost row is changed
  whole_change : (f : Row → Row) (k : ℕ) (ks : List ℕ) (rows : List Row) (i : ℕ) → Among i (k ∷ ks) ⊎ Whole (at rows i) → Among i (k ∷ ks) ⊎ Whole (at (change f k rows) i)
  whole_change f k ks rows i (inl a) = inl a
  whole_change f k ks rows i (inr w) = go (ℕ_discrete i k)
    where
      go : Dec (i ≡ k) → Among i (k ∷ ks) ⊎ Whole (at (change f k rows) i)
      go (yes e) = inl (inl e)
      go (no n) = inr (subst Whole (sym (change_else f k i rows n)) w)

  -- and is closed
  whole_close : (f : Row → Row) (k : ℕ) (ks : List ℕ) (rows : List Row) (i : ℕ) → Whole (at (change f k rows) k) → Among i (k ∷ ks) ⊎ Whole (at rows i) → Among i ks ⊎ Whole (at (change f k rows) i)
  whole_close f k ks rows i v o = go (ℕ_discrete i k) o
    where
      go : Dec (i ≡ k) → Among i (k ∷ ks) ⊎ Whole (at rows i) → Among i ks ⊎ Whole (at (change f k rows) i)
      go (yes e) o = inr (subst (λ (j : ℕ). Whole (at (change f k rows) j)) (sym e) v)
      go (no n) (inl (inl e)) = absurd (n e)
      go (no n) (inl (inr a)) = inl a
      go (no n) (inr w) = inr (subst Whole (sym (change_else f k i rows n)) w)

  -- the innermost row, changed to another phase
  inner_changed : (φ ψ : Phase) (f : Row → Row) (k d : ℕ) (ks : List ℕ) (ts : List Tok) (rows : List Row) (stop : ℕ) → (T (is_new ψ) → ⊥) → ((r : Row) → Inner φ r ts stop → Inner ψ (f r) ts stop)
      → Stands φ d ts (record { rows = rows; open' = k ∷ ks; stop = stop }) → Stands ψ d ts (record { rows = change f k rows; open' = k ∷ ks; stop = stop })
  inner_changed φ ψ f k d ks ts rows stop u g h = record {
    rise = h.rise;
    down = (omega (arith, size, h.down.0), h.down.1);
    whole = λ i v. whole_change f k ks rows i (h.whole i (omega (arith, size)));
    opens = (subst (λ (r : Row). Inner ψ r ts stop) (sym (change_here f k rows h.down.0)) (g (at rows k) h.opens.0), held_change f k rows stop k ks (omega arith) h.down.1 h.opens.1);
    level = h.level;
    last = λ t. absurd (u t);
  }
    where
      size : length (change f k rows) ≡ length rows
      size = change_length f k rows

  -- and closed
  inner_closed : (φ : Phase) (k d : ℕ) (ks : List ℕ) (ts : List Tok) (rows : List Row) (stop : ℕ) → ((r : Row) → Inner φ r ts stop → stop ≤ l → Whole (stopping stop r))
      → Stands φ (suc d) ts (record { rows = rows; open' = k ∷ ks; stop = stop }) → Stands settled d ts (record { rows = change (stopping stop) k rows; open' = ks; stop = stop })
  inner_closed φ k d ks ts rows stop g h = record {
    rise = h.rise;
    down = under ks h.down.1 (omega (arith, size, h.down.0));
    whole = λ i u. whole_close (stopping stop) k ks rows i whole_now (h.whole i (omega (arith, size)));
    opens = outer ks h.down.1 h.opens.1;
    level = let e = h.level in omega arith;
    last = λ t. absurd t;
  }
    where
      size : length (change (stopping stop) k rows) ≡ length rows
      size = change_length (stopping stop) k rows

      whole_now : Whole (at (change (stopping stop) k rows) k)
      whole_now = subst Whole (sym (change_here (stopping stop) k rows h.down.0)) (g (at rows k) h.opens.0 (rise_within stop ts h.rise))

      under : (ks : List ℕ) → Down k ks → k ≤ length (change (stopping stop) k rows) → Down (length (change (stopping stop) k rows)) ks
      under [] d u = tt
      under (j ∷ ks) d u = let low = d.0 in (omega arith, d.1)

      outer : (ks : List ℕ) → Down k ks → AllHeld rows stop ks → Opens settled (change (stopping stop) k rows) ts stop ks
      outer [] d a = tt
      outer (j ∷ ks) d a = held_change (stopping stop) k rows stop k (j ∷ ks) (omega arith) d a

  settled_held : (rows : List Row) (ts : List Tok) (stop : ℕ) (os : List ℕ) → Opens settled rows ts stop os → AllHeld rows stop os
  settled_held rows ts stop [] h = tt
  settled_held rows ts stop (k ∷ ks) h = h

  abbrev On : Phase → ℕ → List Tok → List Row → List ℕ → ℕ → Type 0
  On φ d ts rows os stop = Stands φ d ts (record { rows = rows; open' = os; stop = stop })

  -- a row begins
  row_begins : (d : ℕ) (ts : List Tok) (rows : List Row) (os : List ℕ) (stop : ℕ) → On settled d ts rows os stop → On fresh (suc d) ts (rows ++ (begun (start_of ts) (top os) ∷ [])) (length rows ∷ os) stop
  row_begins d ts rows os stop h = record {
    rise = h.rise;
    down = (omega (arith, size), h.down);
    whole = λ i u. go i u (dec_lt i (length rows));
    opens = (
      subst (λ (r : Row). Inner fresh r ts stop) (sym (get_or-append_seam rows new [] no_row)) (refl, refl),
      held_row new rows stop (length rows) os (omega arith) h.down (settled_held rows ts stop os h.opens),
    );
    level = let e = h.level in omega arith;
    last = λ t. sym size;
  }
    where
      new : Row
      new = begun (start_of ts) (top os)

      size : length (rows ++ (new ∷ [])) ≡ suc (length rows)
      size = omega (arith, length-append rows (new ∷ []))

      go : (i : ℕ) → i < length (rows ++ (new ∷ [])) → Dec (i < length rows) → Among i (length rows ∷ os) ⊎ Whole (at (rows ++ (new ∷ [])) i)
      go i u (yes v) = old (h.whole i v)
        where
          old : Among i os ⊎ Whole (at rows i) → Among i (length rows ∷ os) ⊎ Whole (at (rows ++ (new ∷ [])) i)
          old (inl a) = inl (inr a)
          old (inr w) = inr (subst Whole (sym (get_or-append rows (new ∷ []) no_row i v)) w)
      go i u (no v) = inl (inl (omega (arith, size)))

  module _ (ss : Syms) (d : ℕ) (ts : List Tok) (rows : List Row) (os : List ℕ) (stop : ℕ) where
    step_row : (φ : Phase) → T (is_settled (run ss (of_mark row φ))) → On φ d ts rows os stop → On (of_mark row φ) (suc d) ts (rows ++ (begun (start_of ts) (top os) ∷ [])) (length rows ∷ os) stop
    step_row settled t h = row_begins d ts rows os stop h
    step_row fresh t h = absurd (not_wrong ss t)
    step_row bare t h = absurd (not_wrong ss t)
    step_row waiting t h = absurd (not_wrong ss t)
    step_row wrong t h = absurd (not_wrong ss t)
    step_row (literal k) t h = absurd (not_wrong ss t)
    step_row (spelt k) t h = absurd (not_wrong ss t)

    -- a row gets its kind, and had none
    abbrev Kinded : ℕ → ℕ → Phase → Type 0
    Kinded k x ψ = On ψ d ts (change (of_kind k x) (top os) rows) os stop × ((at rows (top os)).kind ≡ 0)

    fresh_kind : (k x : ℕ) (c : Bool) → is_literal k ≡ c → On fresh d ts rows os stop → Kinded k x (cond c (literal k) waiting)
    fresh_kind k x c e h = go os h
      where
        old : (c : Bool) → T (is_new (cond c (literal k) waiting)) → ⊥
        old true t = t
        old false t = t

        new : (c : Bool) → is_literal k ≡ c → (r : Row) → Inner fresh r ts stop → Inner (cond c (literal k) waiting) (of_kind k x r) ts stop
        new true e r i = (refl, i.1)
        new false e r i = ((λ t. subst T e t), i.1)

        go : (os : List ℕ) → On fresh d ts rows os stop → On (cond c (literal k) waiting) d ts (change (of_kind k x) (top os) rows) os stop × ((at rows (top os)).kind ≡ 0)
        go [] h = absurd h.opens
        go (j ∷ ks) h = (inner_changed fresh (cond c (literal k) waiting) (of_kind k x) j d ks ts rows stop (old c) (new c e) h, h.opens.0.0)

    bare_kind : (k x : ℕ) (c : Bool) → is_literal k ≡ c → T (is_settled (run ss (cond c wrong settled))) → On bare d ts rows os stop → Kinded k x (cond c wrong settled)
    bare_kind k x true e t h = absurd (not_wrong ss t)
    bare_kind k x false e t h = go os h
      where
        go : (os : List ℕ) → On bare d ts rows os stop → On settled d ts (change (of_kind k x) (top os) rows) os stop × ((at rows (top os)).kind ≡ 0)
        go [] h = absurd h.opens
        go (j ∷ ks) h = (inner_changed bare settled (of_kind k x) j d ks ts rows stop (λ t. t) (λ r i. (i.1, λ t. subst T e t)) h, h.opens.0.0)

    step_kind : (k x : ℕ) (φ : Phase) → T (is_settled (run ss (of_mark (kind k x) φ))) → On φ d ts rows os stop → Kinded k x (of_mark (kind k x) φ)
    step_kind k x settled t h = absurd (not_wrong ss t)
    step_kind k x fresh t h = fresh_kind k x (is_literal k) refl h
    step_kind k x bare t h = bare_kind k x (is_literal k) refl t h
    step_kind k x waiting t h = absurd (not_wrong ss t)
    step_kind k x wrong t h = absurd (not_wrong ss t)
    step_kind k x (literal j) t h = absurd (not_wrong ss t)
    step_kind k x (spelt j) t h = absurd (not_wrong ss t)

    step_named : (φ : Phase) → T (is_settled (run ss (of_mark named φ))) → On φ d ts rows os stop → On (of_mark named φ) d ts (change (with_name (start_of ts) (stop_of ts)) (top os) rows) os stop
    step_named settled t h = stands_core settled d ts (record { rows = rows; open' = os; stop = stop }) (with_name (start_of ts) (stop_of ts)) (λ r. refl) (top os) h
    step_named fresh t h = absurd (not_wrong ss t)
    step_named bare t h = absurd (not_wrong ss t)
    step_named waiting t h = stands_core waiting d ts (record { rows = rows; open' = os; stop = stop }) (with_name (start_of ts) (stop_of ts)) (λ r. refl) (top os) h
    step_named wrong t h = absurd (not_wrong ss t)
    step_named (literal k) t h = absurd (not_wrong ss t)
    step_named (spelt k) t h = absurd (not_wrong ss t)

    step_wrapper : (φ : Phase) → T (is_settled (run ss (of_mark wrapper φ))) → On φ d ts rows os stop → On (of_mark wrapper φ) d ts rows os stop
    step_wrapper settled t h = h
    step_wrapper fresh t h = absurd (not_wrong ss t)
    step_wrapper bare t h = absurd (not_wrong ss t)
    step_wrapper waiting t h = h
    step_wrapper wrong t h = absurd (not_wrong ss t)
    step_wrapper (literal k) t h = absurd (not_wrong ss t)
    step_wrapper (spelt k) t h = absurd (not_wrong ss t)

    step_wrap : (w : ℕ) (φ : Phase) → T (is_settled (run ss (of_mark (wrap w) φ))) → On φ d ts rows os stop → On (of_mark (wrap w) φ) d ts (change (wrapped w) (top os) rows) os stop
    step_wrap w settled t h = stands_core settled d ts (record { rows = rows; open' = os; stop = stop }) (wrapped w) (λ r. refl) (top os) h
    step_wrap w fresh t h = absurd (not_wrong ss t)
    step_wrap w bare t h = absurd (not_wrong ss t)
    step_wrap w waiting t h = absurd (not_wrong ss t)
    step_wrap w wrong t h = absurd (not_wrong ss t)
    step_wrap w (literal k) t h = absurd (not_wrong ss t)
    step_wrap w (spelt k) t h = absurd (not_wrong ss t)

    -- a row ends
    closes_row : (φ : Phase) → ((r : Row) → Inner φ r ts stop → stop ≤ l → Whole (stopping stop r)) → On φ (suc d) ts rows os stop → On settled d ts (change (stopping stop) (top os) rows) (pop os) stop
    closes_row φ g h = go os h
      where
        go : (os : List ℕ) → On φ (suc d) ts rows os stop → On settled d ts (change (stopping stop) (top os) rows) (pop os) stop
        go [] h = let e = h.level in absurd (omega arith)
        go (j ∷ ks) h = inner_closed φ j d ks ts rows stop g h

    step_end : (φ : Phase) → T (is_settled (run ss (of_mark end φ))) → On φ (suc d) ts rows os stop → On (of_mark end φ) d ts (change (stopping stop) (top os) rows) (pop os) stop
    step_end settled t h = closes_row settled (λ r i u. (i.0, u, λ t. absurd (i.1 t))) h
    step_end fresh t h = absurd (not_wrong ss t)
    step_end bare t h = absurd (not_wrong ss t)
    step_end waiting t h = absurd (not_wrong ss t)
    step_end wrong t h = absurd (not_wrong ss t)
    step_end (literal k) t h = absurd (not_wrong ss t)
    step_end (spelt k) t h =
        closes_row (spelt k) (λ r i u. (i.2, u, λ t. (i.1.0, i.1.1, i.1.2 ∙ ap literal_class (sym i.0), i.1.3, i.1.4))) h

  -- a token that a terminal hits is of the class that it asks for
  the_class : (c d : Class) (p : Terminal) → T (is_the c p) → T (hits p d) → c ≡ d
  the_class c d (the e) t h = same_class c e t ∙ same_class e d h
  the_class c d any_name t h = absurd t
  the_class c d name_but_on t h = absurd t
  the_class c d name_but_literal t h = absurd t

  inner_token : (ss : Syms) (p : Terminal) (φ : Phase) (r : Row) (k : Tok) (ts : List Tok) (stop : ℕ) → stop ≤ k.start → k.start ≤ k.stop → Good k → T (hits p k.class) → T (is_settled (run ss (of_token p φ)))
      → Inner φ r (k ∷ ts) stop → Inner (of_token p φ) r ts k.stop
  inner_token ss p settled r k ts stop a b g h t i = let q = i.0 in (omega arith, i.1)
  inner_token ss p fresh r k ts stop a b g h t i = let q = i.1 in (i.0, omega arith)
  inner_token ss p bare r k ts stop a b g h t i = absurd (not_wrong ss t)
  inner_token ss p waiting r k ts stop a b g h t i = let q = i.1 in (omega arith, i.0)
  inner_token ss p wrong r k ts stop a b g h t i = absurd i
  inner_token ss p (literal j) r k ts stop a b g h t i = go (is_the (literal_class j) p) refl t
    where
      go : (c : Bool) → is_the (literal_class j) p ≡ c → T (is_settled (run ss (cond c (spelt j) wrong))) → Inner (cond c (spelt j) wrong) r ts k.stop
      go true e t = let q = i.1 in (i.0, (k, g, sym (the_class (literal_class j) k.class p (subst T (sym e) tt) h), sym q, refl), omega arith)
      go false e t = absurd (not_wrong ss t)
  inner_token ss p (spelt j) r k ts stop a b g h t i = absurd (not_wrong ss t)

  settled_token : (p : Terminal) (φ : Phase) → T (is_settled φ) → T (is_settled (of_token p φ))
  settled_token p settled t = tt
  settled_token p fresh t = absurd t
  settled_token p bare t = absurd t
  settled_token p waiting t = absurd t
  settled_token p wrong t = absurd t
  settled_token p (literal k) t = absurd t
  settled_token p (spelt k) t = absurd t

  -- what is new behind a token was new before it
  new_token : (p : Terminal) (φ : Phase) → T (is_new (of_token p φ)) → T (is_new φ)
  new_token p settled t = t
  new_token p fresh t = tt
  new_token p bare t = absurd t
  new_token p waiting t = absurd t
  new_token p wrong t = absurd t
  new_token p (literal k) t = go (is_the (literal_class k) p) t
    where
      go : (c : Bool) → T (is_new (cond c (spelt k) wrong)) → ⊥
      go true t = t
      go false t = t
  new_token p (spelt k) t = absurd t

  step_token : (ss : Syms) (p : Terminal) (φ : Phase) (d : ℕ) (k : Tok) (ts : List Tok) (rows : List Row) (os : List ℕ) (stop : ℕ) → T (hits p k.class) → T (is_settled (run ss (of_token p φ)))
      → On φ d (k ∷ ts) rows os stop → On (of_token p φ) d ts rows os k.stop
  step_token ss p φ d k ts rows os stop h t s = record { rise = s.rise.3; down = s.down; whole = s.whole; opens = go os s.opens; level = s.level; last = λ u. s.last (new_token p φ u) }
    where
      go : (os : List ℕ) → Opens φ rows (k ∷ ts) stop os → Opens (of_token p φ) rows ts k.stop os
      go [] o = settled_token p φ o
      go (j ∷ ks) o = (
        inner_token ss p φ (at rows j) k ts stop s.rise.0 s.rise.1 s.rise.2 h t o.0,
        held_later rows stop k.stop ks (omega (arith, s.rise.0, s.rise.1)) o.1,
      )

  -- the whole text
  abbrev pub Left : Book → Book → Type 0
  Left b c = Stands settled 0 [] c × Grows b c

  pub flows : {ss : Syms} {es : List (Ev Class Mark)} → Derives language hits ss es → (φ : Phase) (d : ℕ) (ts : List Tok) (b : Book) → T (is_settled (run ss φ)) → T (ends 0 ss d) →
      toks es ≡ map (λ k. k.class) ts → Stands φ d ts b → Left b (book es ts b)
  unfolding book toks
  flows done φ d [] b t e q h =
      let z = eqb→eq d 0 e in
      (subst (λ (n : ℕ). Stands settled n [] b) z (subst (λ (ψ : Phase). Stands ψ d [] b) (settled_is φ t) h), grows_same b b refl)
  flows done φ d (k ∷ ts) b t e q h = absurd (nil≢cons q)
  flows (take {p} {c} {ss} {es} u v) φ d [] b t e q h = absurd (cons≢nil q)
  flows (take {p} {c} {ss} {es} u v) φ d (k ∷ ts) b t e q h =
      let hit : T (hits p k.class) = subst (λ (x : Class). T (hits p x)) (head-eq_of_cons-eq q) u in
      let r = flows v (of_token p φ) d ts (taken (k ∷ ts) b) t e (tail-eq_of_cons-eq q) (step_token ss p φ d k ts b.rows b.open' b.stop hit t h) in
      (r.0, grows_then (grows_same b (taken (k ∷ ts) b) refl) r.1)
  flows (by {n} {α} {ss} {es} m v) φ d ts b t e q h = flows v φ d ts b (run_by n α ss φ m t) (ends_by n α ss 0 d m e) q h
  flows (marks {a = row} {ss} {es} v) φ d ts b t e q h =
      let r = flows v (of_mark row φ) (suc d) ts (at_mark row ts b) t e q (step_row ss d ts b.rows b.open' b.stop φ t h) in
      (r.0, grows_then (grows_row (begun (start_of ts) (top b.open')) (length b.rows ∷ b.open') b.stop b) r.1)
  flows (marks {a = kind k x} {ss} {es} v) φ d ts b t e q h =
      let s = step_kind ss d ts b.rows b.open' b.stop k x φ t h in
      let r = flows v (of_mark (kind k x) φ) d ts (at_mark (kind k x) ts b) t e q s.0 in
      (r.0, grows_then (grows_change (of_kind k x) (top b.open') b.stop b.open' b (λ r. refl) (λ z. absurd (z s.1))) r.1)
  flows (marks {a = named} {ss} {es} v) φ d ts b t e q h =
      let r = flows v (of_mark named φ) d ts (at_mark named ts b) t e q (step_named ss d ts b.rows b.open' b.stop φ t h) in
      (r.0, grows_then (grows_change (with_name (start_of ts) (stop_of ts)) (top b.open') b.stop b.open' b (λ r. refl) (λ z. refl)) r.1)
  flows (marks {a = wrapper} {ss} {es} v) φ d ts b t e q h = flows v (of_mark wrapper φ) d ts b t e q (step_wrapper ss d ts b.rows b.open' b.stop φ t h)
  flows (marks {a = wrap w} {ss} {es} v) φ d ts b t e q h =
      let r = flows v (of_mark (wrap w) φ) d ts (at_mark (wrap w) ts b) t e q (step_wrap ss d ts b.rows b.open' b.stop w φ t h) in
      (r.0, grows_then (grows_change (wrapped w) (top b.open') b.stop b.open' b (λ r. refl) (λ z. refl)) r.1)
  flows (marks {a = end} {ss} {es} v) φ zero ts b t e q h = absurd e
  flows (marks {a = end} {ss} {es} v) φ (suc d) ts b t e q h =
      let r = flows v (of_mark end φ) d ts (at_mark end ts b) t e q (step_end ss d ts b.rows b.open' b.stop φ t h) in
      (r.0, grows_then (grows_change (stopping b.stop) (top b.open') b.stop (pop b.open') b (λ r. refl) (λ z. refl)) r.1)

  -- in the end no row is open
  pub left_whole : (c : Book) → Stands settled 0 [] c → (i : ℕ) → i < length c.rows → Whole (at c.rows i)
  left_whole c h i u = go c.open' h.level (h.whole i u)
    where
      go : (os : List ℕ) → length os ≡ 0 → Among i os ⊎ Whole (at c.rows i) → Whole (at c.rows i)
      go [] e (inl a) = absurd a
      go (j ∷ ks) e (inl a) = absurd (omega arith)
      go os e (inr w) = w

  -- the first row, where it begins a text
  pub first_row : (k x : ℕ) {ss : Syms} {es : List (Ev Class Mark)} → Derives language hits (act row ∷ act (kind k x) ∷ ss) es → (ts : List Tok) →
      T (is_settled (run ss (of_mark (kind k x) fresh))) → T (ends 0 ss 1) → toks es ≡ map (λ t. t.class) ts → Rise 0 ts → (k ≡ 0 → ⊥) →
      (0 < length (book es ts empty_book).rows) × ((at (book es ts empty_book).rows 0).kind ≡ k) × ((at (book es ts empty_book).rows 0).parent ≡ no_parent)
  unfolding book toks
  first_row k x {ss} (marks (marks v)) ts t e q h z =
      let start : Stands settled 0 ts empty_book = record { rise = h; down = tt; whole = λ i u. absurd (omega arith); opens = tt; level = refl; last = λ t. absurd t } in
      let begins = row_begins 0 ts [] [] 0 start in
      let b = at_mark (kind k x) ts (at_mark row ts empty_book) in
      let s = step_kind ss 1 ts (begun (start_of ts) no_parent ∷ []) (0 ∷ []) 0 k x fresh t begins in
      let g = (flows v (of_mark (kind k x) fresh) 1 ts b t e q s.0).1 in
      (omega (arith, g.more), g.kinds 0 (omega arith) z, g.parents 0 (omega arith))

  -- where a derivation stands that goes on
  pub record Going (ss : Syms) (ts : List Tok) (b : Book) : Type 0 where
    pub phase : Phase
    pub depth : ℕ
    pub settles : T (is_settled (run ss phase))
    pub closes : T (ends 0 ss depth)
    pub stands : Stands phase depth ts b

  pub going_by : (n : Part) (α ss : Syms) (ts : List Tok) (b : Book) → Memᴰ α (language n) → Going (nt n ∷ ss) ts b → Going (α ++ ss) ts b
  going_by n α ss ts b m g = record { phase = g.phase; depth = g.depth; settles = run_by n α ss g.phase m g.settles; closes = ends_by n α ss 0 g.depth m g.closes; stands = g.stands }

  pub going_token : (p : Terminal) (ss : Syms) (k : Tok) (ts : List Tok) (b : Book) → T (hits p k.class) → Going (tm p ∷ ss) (k ∷ ts) b → Going ss ts (taken (k ∷ ts) b)
  going_token p ss k ts b h g = record {
    phase = of_token p g.phase;
    depth = g.depth;
    settles = g.settles;
    closes = g.closes;
    stands = step_token ss p g.phase g.depth k ts b.rows b.open' b.stop h g.settles g.stands;
  }

  going_end : (ss : Syms) (ts : List Tok) (b : Book) (φ : Phase) (d : ℕ) → T (is_settled (run ss (of_mark end φ))) → T (ends 0 (act end ∷ ss) d) → Stands φ d ts b → Going ss ts (at_mark end ts b)
  going_end ss ts b φ zero t e h = absurd e
  going_end ss ts b φ (suc d) t e h = record { phase = of_mark end φ; depth = d; settles = t; closes = e; stands = step_end ss d ts b.rows b.open' b.stop φ t h }

  pub going_mark : (a : Mark) (ss : Syms) (ts : List Tok) (b : Book) → Going (act a ∷ ss) ts b → Going ss ts (at_mark a ts b)
  going_mark row ss ts b g = record {
    phase = of_mark row g.phase;
    depth = suc g.depth;
    settles = g.settles;
    closes = g.closes;
    stands = step_row ss g.depth ts b.rows b.open' b.stop g.phase g.settles g.stands;
  }
  going_mark (kind k x) ss ts b g = record {
    phase = of_mark (kind k x) g.phase;
    depth = g.depth;
    settles = g.settles;
    closes = g.closes;
    stands = (step_kind ss g.depth ts b.rows b.open' b.stop k x g.phase g.settles g.stands).0;
  }
  going_mark named ss ts b g = record {
    phase = of_mark named g.phase;
    depth = g.depth;
    settles = g.settles;
    closes = g.closes;
    stands = step_named ss g.depth ts b.rows b.open' b.stop g.phase g.settles g.stands;
  }
  going_mark wrapper ss ts b g = record {
    phase = of_mark wrapper g.phase;
    depth = g.depth;
    settles = g.settles;
    closes = g.closes;
    stands = step_wrapper ss g.depth ts b.rows b.open' b.stop g.phase g.settles g.stands;
  }
  going_mark (wrap w) ss ts b g = record {
    phase = of_mark (wrap w) g.phase;
    depth = g.depth;
    settles = g.settles;
    closes = g.closes;
    stands = step_wrap ss g.depth ts b.rows b.open' b.stop w g.phase g.settles g.stands;
  }
  going_mark end ss ts b g = going_end ss ts b g.phase g.depth g.settles g.closes g.stands

  pub going_left : {ss : Syms} {es : List (Ev Class Mark)} → Derives language hits ss es → (ts : List Tok) (b : Book) → toks es ≡ map (λ k. k.class) ts → Going ss ts b → Left b (book es ts b)
  going_left v ts b q g = flows v g.phase g.depth ts b g.settles g.closes q g.stands

  -- where a row gets its kind, it is the last row, and the open rows around it stand before it
  pub going_kind : (k x : ℕ) (ss : Syms) (ts : List Tok) (b : Book) → Going (act (kind k x) ∷ ss) ts b → (v : ℕ) × (os : List ℕ) × (b.open' ≡ v ∷ os) × (suc v ≡ length b.rows) × Down v os
  going_kind k x ss ts b g = go g.phase g.settles g.stands
    where
      new : (φ : Phase) → T (is_new φ) → (os : List ℕ) → Stands φ g.depth ts (record { rows = b.rows; open' = os; stop = b.stop }) → (v : ℕ) × (us : List ℕ) × (os ≡ v ∷ us) × (suc v ≡ length b.rows) × Down v us
      new settled n [] h = absurd n
      new fresh n [] h = absurd h.opens
      new bare n [] h = absurd h.opens
      new waiting n [] h = absurd n
      new wrong n [] h = absurd n
      new (literal j) n [] h = absurd n
      new (spelt j) n [] h = absurd n
      new φ n (o ∷ os) h = (o, os, refl, h.last n, h.down.1)

      go : (φ : Phase) → T (is_settled (run ss (of_mark (kind k x) φ))) → Stands φ g.depth ts b → (v : ℕ) × (os : List ℕ) × (b.open' ≡ v ∷ os) × (suc v ≡ length b.rows) × Down v os
      go settled t h = absurd (not_wrong ss t)
      go fresh t h = new fresh tt b.open' h
      go bare t h = new bare tt b.open' h
      go waiting t h = absurd (not_wrong ss t)
      go wrong t h = absurd (not_wrong ss t)
      go (literal j) t h = absurd (not_wrong ss t)
      go (spelt j) t h = absurd (not_wrong ss t)
