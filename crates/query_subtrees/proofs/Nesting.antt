-- The rows of a text stand in preorder, whatever its marks: a row is put behind the innermost open row, and open rows are those around it.
use mathlib.Core.Path.{◌≡◌, refl, sym, ap, ◌∙◌, subst}
use mathlib.Core.List.{List, [], ◌∷◌, ◌++◌, map}
use Prim.Native.Nat.{ℕ, zero, suc, ◌<◌, ◌≤◌}
use native.Mathlib.Decide.{dec_lt}
use native.Mathlib.Omega.{arith}
use lib.ListN.{length, get_or, length-append, get_or-append}
use lib.Seq.{get_or-append_seam}
use Rattle.paper.specs.Grammar.{Ev, tok, mark}
use Rattle.paper.specs.Numbers.{most_rows, no_parent}
use Rattle.paper.specs.Language.{Class, Mark, Part, row, kind, named, wrapper, wrap, end}
use Rattle.paper.specs.Tokens.{Tok, Text}
use Rattle.paper.specs.Rows.{Row, Book, empty_book, change, top, pop, start_of, stop_of, begun, of_kind, with_name, wrapped, stopping, at_mark, taken, rest, book, rows_of}
use Rattle.paper.specs.Reading.{rows_are, TextAnswer, accepts, tokens_of}
use Rattle.query_rows.specs.Rowed.{rows_in}
use Rattle.query_rows.proofs.ReadRows.{Taken}
use Rattle.query_subtrees.specs.Past.{parent_in, Nested}

-- the parents of rows
abbrev parents : List Row → List ℕ
parents rs = map (λ r. r.parent) rs

parents_length : (rs : List Row) → length (parents rs) ≡ length rs
parents_length [] = refl
parents_length (r ∷ rs) = ap suc (parents_length rs)

parents_at : (rs : List Row) (i : ℕ) → get_or (parents rs) i no_parent ≡ parent_in rs i
parents_at [] i = refl
parents_at (r ∷ rs) zero = refl
parents_at (r ∷ rs) (suc i) = parents_at rs i

parents_append : (rs : List Row) (r : Row) → parents (rs ++ (r ∷ [])) ≡ parents rs ++ (r.parent ∷ [])
parents_append [] r = refl
parents_append (x ∷ rs) r = ap (λ (l : List ℕ). x.parent ∷ l) (parents_append rs r)

parents_change : (f : Row → Row) → ((r : Row) → (f r).parent ≡ r.parent) → (k : ℕ) (rs : List Row) → parents (change f k rs) ≡ parents rs
parents_change f g k [] = refl
parents_change f g zero (r ∷ rs) = ap (λ (x : ℕ). x ∷ parents rs) (g r)
parents_change f g (suc k) (r ∷ rs) = ap (λ (l : List ℕ). r.parent ∷ l) (parents_change f g k rs)

abbrev at : List ℕ → ℕ → ℕ
at ps i = get_or ps i no_parent

-- row k has its parent from o on, and before it
abbrev Over : List ℕ → ℕ → ℕ → Type 0
Over ps o k = (o ≤ at ps k) × (at ps k < k)

abbrev Inner : List ℕ → Type 0
Inner ps = (j k : ℕ) → j < length ps → j ≤ most_rows → at ps j < k → k < j → Over ps (at ps j) k

abbrev Beneath : ℕ → List ℕ → Type 0
Beneath o [] = Unit {0}
Beneath o (p ∷ os) = (p ≤ o) × Beneath o os

-- open rows: what follows one has its parent from it on
abbrev Opens : List ℕ → List ℕ → Type 0
Opens ps [] = Unit {0}
Opens ps (o ∷ os) = (o < length ps) × ((k : ℕ) → o < k → k < length ps → Over ps o k) × Beneath o os × Opens ps os

record Kept (ps os : List ℕ) : Type 0 where
  inner : Inner ps
  opens : Opens ps os

at_left : (ps : List ℕ) (p k : ℕ) → k < length ps → at (ps ++ (p ∷ [])) k ≡ at ps k
at_left ps p k h = get_or-append ps (p ∷ []) no_parent k h

at_new : (ps : List ℕ) (p : ℕ) → at (ps ++ (p ∷ [])) (length ps) ≡ p
at_new ps p = get_or-append_seam ps p [] no_parent

over_left : (ps : List ℕ) (p o k : ℕ) → k < length ps → Over ps o k → Over (ps ++ (p ∷ [])) o k
over_left ps p o k h v = (omega (arith, at_left ps p k h, v.0), omega (arith, at_left ps p k h, v.1))

one_more : (ps : List ℕ) (p : ℕ) → length (ps ++ (p ∷ [])) ≡ suc (length ps)
one_more ps p = omega (arith, length-append ps (p ∷ []))

beneath_all : (ps os : List ℕ) → Opens ps os → Beneath (length ps) os
beneath_all ps [] u = tt
beneath_all ps (o ∷ os) u = let h = u.0 in (omega arith, beneath_all ps os u.3)

-- the open rows os, of which t is the innermost or above all of them, get one more row behind, whose parent is t
opens_more : (ps : List ℕ) (t : ℕ) (os : List ℕ) → t < length ps → Beneath t os → Opens ps os → Opens (ps ++ (t ∷ [])) os
opens_more ps t [] h b u = tt
opens_more ps t (o ∷ os) h b u = (omega (arith, one_more ps t, u.0), grown, u.2, opens_more ps t os h b.1 u.3)
  where
    grown : (k : ℕ) → o < k → k < length (ps ++ (t ∷ [])) → Over (ps ++ (t ∷ [])) o k
    grown k l m = go (dec_lt k (length ps))
      where
        go : Dec (k < length ps) → Over (ps ++ (t ∷ [])) o k
        go (yes v) = over_left ps t o k v (u.1 k l v)
        go (no v) =
            let z : k ≡ length ps = omega (arith, one_more ps t) in
            rw z (let q = at_new ps t in let low = b.0 in (omega arith, omega arith))

inner_more : (ps os : List ℕ) → Kept ps os → Inner (ps ++ (top os ∷ []))
inner_more ps os h j k l m u v = go (dec_lt j (length ps))
  where
    go : Dec (j < length ps) → Over (ps ++ (top os ∷ [])) (at (ps ++ (top os ∷ [])) j) k
    go (yes w) =
        let e = at_left ps (top os) j w in
        subst (λ (x : ℕ). Over (ps ++ (top os ∷ [])) x k) (sym e) (over_left ps (top os) (at ps j) k (omega arith) (h.inner j k w m (omega arith) v))
    go (no w) =
        let z : j ≡ length ps = omega (arith, one_more ps (top os)) in
        let e : at (ps ++ (top os ∷ [])) j ≡ top os = ap (at (ps ++ (top os ∷ []))) z ∙ at_new ps (top os) in
        subst (λ (x : ℕ). Over (ps ++ (top os ∷ [])) x k) (sym e) (over_left ps (top os) (top os) k (omega arith) (tops os h.opens (omega arith)))
      where
        tops : (os : List ℕ) → Opens ps os → top os < k → Over ps (top os) k
        tops [] o r = absurd (omega arith)
        tops (a ∷ as') o r = o.1 k r (omega (arith, one_more ps (top os)))

beneath_self : (o : ℕ) (os : List ℕ) → Beneath o os → Beneath o (o ∷ os)
beneath_self o os b = (omega arith, b)

kept_more : (ps os : List ℕ) → Kept ps os → Kept (ps ++ (top os ∷ [])) (length ps ∷ os)
kept_more ps os h = record { inner = inner_more ps os h; opens = (omega (arith, one_more ps (top os)), (λ k l m. absurd (omega (arith, one_more ps (top os)))), beneath_all ps os h.opens, still os h.opens) }
  where
    still : (xs : List ℕ) → Opens ps xs → Opens (ps ++ (top xs ∷ [])) xs
    still [] u = tt
    still (a ∷ as') u = opens_more ps a (a ∷ as') u.0 (beneath_self a as' u.2) u

pop_opens : (ps os : List ℕ) → Opens ps os → Opens ps (pop os)
pop_opens ps [] u = tt
pop_opens ps (o ∷ os) u = u.3

abbrev KeptBook : Book → Type 0
KeptBook b = Kept (parents b.rows) b.open'

kept_same : (ps qs os : List ℕ) → ps ≡ qs → Kept qs os → Kept ps os
kept_same ps qs os e h = rw e h

note_keeps : (m : Mark) (ts : List Tok) (b : Book) → KeptBook b → KeptBook (at_mark m ts b)
note_keeps row ts b h =
    rw (parents_append b.rows (begun (start_of ts) (top b.open')), ← (parents_length b.rows)) (kept_more (parents b.rows) b.open' h)
note_keeps (kind k x) ts b h = kept_same _ _ _ (parents_change (of_kind k x) (λ r. refl) (top b.open') b.rows) h
note_keeps named ts b h = kept_same _ _ _ (parents_change (with_name (start_of ts) (stop_of ts)) (λ r. refl) (top b.open') b.rows) h
note_keeps wrapper ts b h = h
note_keeps (wrap w) ts b h = kept_same _ _ _ (parents_change (wrapped w) (λ r. refl) (top b.open') b.rows) h
note_keeps end ts b h =
    kept_same _ _ _ (parents_change (stopping b.stop) (λ r. refl) (top b.open') b.rows) (record { inner = h.inner; opens = pop_opens (parents b.rows) b.open' h.opens })

taken_keeps : (ts : List Tok) (b : Book) → KeptBook b → KeptBook (taken ts b)
taken_keeps [] b h = h
taken_keeps (k ∷ ts) b h = h

book_keeps : (es : List (Ev Class Mark)) (ts : List Tok) (b : Book) → KeptBook b → KeptBook (book es ts b)
unfolding book
book_keeps [] ts b h = h
book_keeps (tok c ∷ es) ts b h = book_keeps es (rest ts) (taken ts b) (taken_keeps ts b h)
book_keeps (mark m ∷ es) ts b h = book_keeps es ts (at_mark m ts b) (note_keeps m ts b h)

inner_nested : (rs : List Row) → Inner (parents rs) → Nested rs
inner_nested rs h j k l m u v =
    let q = h j k (omega (arith, parents_length rs)) m (omega (arith, parents_at rs j)) v in
    (omega (arith, q.0, parents_at rs j, parents_at rs k), omega (arith, q.1, parents_at rs k))

pub text_nested : (es : List (Ev Class Mark)) (ts : List Tok) → Nested (rows_of es ts)
unfolding rows_of
text_nested es ts = inner_nested (book es ts empty_book).rows (book_keeps es ts empty_book (record { inner = λ j k l. absurd (omega arith); opens = tt })).inner

-- the rows that a text is said to have
pub said_nested : (p : Part) (t : Text) (rs : List Row) → TextAnswer p t (rows_are rs) → Nested rs
said_nested p t rs (accepts {es = es} w r c) = text_nested es (tokens_of t)

-- those that the reader leaves
pub taken_nested : (p : Part) (s rows : List ℕ) (n : ℕ) → Taken p s rows n → Nested (rows_in rows n)
taken_nested p s rows n t = rw t.are (said_nested p _ t.list t.said)
