-- The rows of a text that was read, a document or a variables text: they stand in order of start, each has a token at least and ends within the text, and lies within its parent,
-- which stands before it.
use mathlib.Core.Path.{◌≡◌, refl, sym, ap, ◌∙◌, subst}
use mathlib.Core.Bool.{Bool, true, false}
use mathlib.Core.List.{List, [], ◌∷◌}
use mathlib.Core.Logic.{◌⊎◌, inl, inr}
use Prim.Native.Nat.{ℕ, zero, suc, ◌<◌, ◌≤◌}
use native.Mathlib.Omega.{arith}
use lib.ListN.{length, get_or, length-map}
use Rattle.paper.specs.Grammar.{tok, mark, toks}
use Rattle.paper.specs.Numbers.{no_parent}
use Rattle.paper.specs.Language.{Part, Document, VariablesText, row, kind, named, wrapper, wrap, end}
use Rattle.paper.specs.Tokens.{Tok, Text, at_end, bad, token, Tokens}
use Rattle.paper.specs.Rows.{Row, Book, empty_book, top, start_of, stop_of, of_kind, with_name, wrapped, at_mark, taken, book, rows_of}
use Rattle.paper.specs.Reading.{tokens_of, rows_are, TextAnswer, accepts}
use Rattle.paper.proofs.Lexing.{from}
use Rattle.paper_query.specs.Constructs.{no_row}
use Rattle.paper_theory.proofs.TokensLaws.{tokens_from}
use Rattle.paper_theory.proofs.FromLaws.{from_token}
use Rattle.text_rows.proofs.Nested.{Evs, Nested, part_nested, nested_token}
use Rattle.text_rows.proofs.Held.{at, Held, held_blank, held_token, held_same, held_row, held_end}

-- tokens one behind another, from p on and within l bytes
abbrev Lined : ℕ → ℕ → List Tok → Type 0
Lined l p [] = Unit {0}
Lined l p (k ∷ ts) = (p ≤ k.start) × (k.start < k.stop) × (k.stop ≤ l) × Lined l k.stop ts

from_lined : (s : List ℕ) (t : Text) (p : ℕ) → p ≤ length s → from s p ≡ t → Lined (length s) p (tokens_of t)
unfolding tokens_of
from_lined s (at_end n) p h e = tt
from_lined s (bad n) p h e = tt
from_lined s (token k t) p h e = let r = from_token s p k t h e in (r.0, r.1, r.2, from_lined s t k.stop r.2 (sym r.3))

next_behind : (l p : ℕ) (ts : List Tok) → Lined l p ts → 0 < length ts → p ≤ start_of ts
next_behind l p [] h n = absurd (omega arith)
next_behind l p (k ∷ ts) h n = h.0

-- what is so at the end
pub record Lie (l : ℕ) (rs : List Row) : Type 0 where
  pub ordered : (i j : ℕ) → i < j → j < length rs → (at rs i).start ≤ (at rs j).start
  pub ends : (i : ℕ) → i < length rs → ((at rs i).start < (at rs i).end) × ((at rs i).end ≤ l)
  pub within : (i : ℕ) → i < length rs → ((at rs i).parent ≡ no_parent → ⊥) → ((at rs i).parent < i) × ((at rs i).end ≤ (at rs (at rs i).parent).end)

held_lie : (l next stop : ℕ) (rs : List Row) (os : List ℕ) → stop ≤ l → Held false next 0 stop rs os → Lie l rs
held_lie l next stop rs (o ∷ os) u h = let e = h.level in let z : ⊥ = omega arith in absurd z
held_lie l next stop rs [] u h = record {
  ordered = h.ordered;
  ends = λ i b. (shut i (h.shut i b), let q = h.low i b in omega arith);
  within = λ i b n. inner (at rs i).parent i (at rs i).end n (h.within i b);
}
  where
    shut : (i : ℕ) → ⊥ ⊎ ((at rs i).start < (at rs i).end) → (at rs i).start < (at rs i).end
    shut i (inl x) = absurd x
    shut i (inr x) = x

    inner : (p i e : ℕ) → (p ≡ no_parent → ⊥) → (p ≡ no_parent) ⊎ ((p < i) × (⊥ ⊎ (e ≤ (at rs p).end))) → (p < i) × (e ≤ (at rs p).end)
    inner p i e n (inl x) = absurd (n x)
    inner p i e n (inr (x, inl y)) = absurd y
    inner p i e n (inr (x, inr y)) = (x, y)

abbrev BookHeld : Bool → List Tok → ℕ → Book → Type 0
BookHeld f ts d b = Held f (start_of ts) d b.stop b.rows b.open'

-- event by event
book_lie : (l : ℕ) (es : Evs) (ts : List Tok) (b : Book) (f : Bool) (d : ℕ) → Nested es f d → length (toks es) ≡ length ts → Lined l b.stop ts → b.stop ≤ l → BookHeld f ts d b → Lie l (book es ts b).rows
unfolding book Nested toks
book_lie l [] ts b true d p q k u h = absurd p.0
book_lie l [] ts b false d p q k u h = held_lie l (start_of ts) b.stop b.rows b.open' u (subst (λ (x : ℕ). BookHeld false ts x b) p.1 h)
book_lie l (tok c ∷ es) [] b f d p q k u h = absurd (omega arith)
book_lie l (tok c ∷ es) (t ∷ ts) b f d p q k u h =
    book_lie l es ts (taken (t ∷ ts) b) false d p (omega arith) k.3 k.2 (held_token f t.start t.stop (start_of ts) d b.stop b.rows b.open' k.0 k.1 h)
book_lie l (mark row ∷ es) ts b f d p q k u h =
    book_lie l es ts (at_mark row ts b) true (suc d) p q k u
    (held_row f (start_of ts) d b.stop b.rows b.open' (next_behind l b.stop ts k (omega (arith, nested_token es (suc d) p))) h)
book_lie l (mark (kind x y) ∷ es) ts b f d p q k u h =
    book_lie l es ts (at_mark (kind x y) ts b) f d p q k u (held_same f (start_of ts) d b.stop b.rows b.open' (of_kind x y) (λ r. refl) (λ r. refl) (λ r. refl) (top b.open') h)
book_lie l (mark named ∷ es) ts b f d p q k u h =
    book_lie l es ts (at_mark named ts b) f d p q k u (held_same f (start_of ts) d b.stop b.rows b.open' (with_name (start_of ts) (stop_of ts)) (λ r. refl) (λ r. refl) (λ r. refl) (top b.open') h)
book_lie l (mark wrapper ∷ es) ts b f d p q k u h = book_lie l es ts b f d p q k u h
book_lie l (mark (wrap w) ∷ es) ts b f d p q k u h =
    book_lie l es ts (at_mark (wrap w) ts b) f d p q k u (held_same f (start_of ts) d b.stop b.rows b.open' (wrapped w) (λ r. refl) (λ r. refl) (λ r. refl) (top b.open') h)
book_lie l (mark end ∷ es) ts b f zero p q k u h = absurd p
book_lie l (mark end ∷ es) ts b f (suc d) p q k u h =
    book_lie l es ts (at_mark end ts b) false d p.1 q k u (held_end f (start_of ts) d b.stop b.rows b.open' p.0 h)

said_lie : (n : Part) {s : List ℕ} {t : Text} {rs : List Row} → (n ≡ Document) ⊎ (n ≡ VariablesText) → Tokens 0 s t → TextAnswer n t (rows_are rs) → Lie (length s) rs
unfolding rows_of
said_lie n {s} {t} c k (accepts {es = es} w r g) =
    book_lie (length s) es (tokens_of t) empty_book false 0 (part_nested n c r.0) (ap (λ (z : List _). length z) r.1 ∙ length-map (tokens_of t) (λ x. x.class))
    (from_lined s t 0 (omega arith) (sym (tokens_from k))) (omega arith) (held_blank (start_of (tokens_of t)))

-- in full
pub rows_ordered : (n : Part) {s : List ℕ} {t : Text} {rs : List Row} → (n ≡ Document) ⊎ (n ≡ VariablesText) → Tokens 0 s t → TextAnswer n t (rows_are rs) →
    (i j : ℕ) → i < j → j < length rs → (get_or rs i no_row).start ≤ (get_or rs j no_row).start
rows_ordered n c k a = (said_lie n c k a).ordered

pub rows_end : (n : Part) {s : List ℕ} {t : Text} {rs : List Row} → (n ≡ Document) ⊎ (n ≡ VariablesText) → Tokens 0 s t → TextAnswer n t (rows_are rs) →
    (i : ℕ) → i < length rs → ((get_or rs i no_row).start < (get_or rs i no_row).end) × ((get_or rs i no_row).end ≤ length s)
rows_end n c k a = (said_lie n c k a).ends

pub parents_enclose : (n : Part) {s : List ℕ} {t : Text} {rs : List Row} → (n ≡ Document) ⊎ (n ≡ VariablesText) → Tokens 0 s t → TextAnswer n t (rows_are rs) →
    (i p : ℕ) → i < length rs → (get_or rs i no_row).parent ≡ p → (p ≡ no_parent → ⊥) →
    (p < i) × ((get_or rs p no_row).start ≤ (get_or rs i no_row).start) × ((get_or rs i no_row).end ≤ (get_or rs p no_row).end)
parents_enclose n {rs = rs} c k a i p b e q =
    let h = said_lie n c k a in
    subst (λ (x : ℕ). (x < i) × ((at rs x).start ≤ (at rs i).start) × ((at rs i).end ≤ (at rs x).end)) e
    (let w = h.within i b (λ z. q (sym e ∙ z)) in (w.0, h.ordered (at rs i).parent i w.0 b, w.1))
