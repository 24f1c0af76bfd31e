-- Where a refusal stands: 3 at bytes with which no token begins, 4 where no text goes on, 5, 6 and 8 at the first token past a size; the least is told.
use mathlib.Core.Path.{◌≡◌, refl, sym, ◌∙◌, subst}
use mathlib.Core.Bool.{Bool, false, not}
use mathlib.Core.List.{List, [], ◌∷◌}
use mathlib.Core.Logic.{◌⊎◌, inl, inr, ◌↔◌}
use Prim.Native.Nat.{ℕ, suc, ◌+◌, ◌≤◌, ◌<◌}
use native.Mathlib.Omega.{arith}
use lib.Dec.{T}
use lib.ListN.{length, drop, length-drop, length-map}
use lib.Seq.{drop-nil, drop-drop}
use Rattle.paper.specs.Grammar.{nt}
use Rattle.paper.specs.Language.{Class, Mark, Part}
use Rattle.paper.specs.Lexical.{comment}
use Rattle.paper.specs.Tokens.{Text, NoPiece, Longest, line_end, Tokens, ends, starts_none, skips, comments, bad_comment, tokens}
use Rattle.paper.specs.Numbers.{most_levels}
use Rattle.paper.specs.Sizes.{Sums, opens_level, over_levels, over_rows, over_counts}
use Rattle.paper.specs.Reading.{tokens_of, classes_of, place_of, EndsWell, BadAt, bad_here, bad_later, Is, StopsAt, Summed, Fault, no_token, no_going, no_end, too_deep, too_many_rows, too_many, offset_of, NoLater, Answer, refuses, TextAnswer, refused}
use Rattle.paper.specs.declared.Refusal.{Refusal}
use Rattle.paper.specs.declared.Refusal.TheVariants.{NoToken, NoGoing, TooDeep, TooManyRows, TooMany}
use Rattle.paper.proofs.Machine as machine
use Rattle.paper.proofs.Tables.{graphql}
use Rattle.paper.proofs.Lexing.{from}
use Rattle.paper_theory.proofs.TokensLaws.{tokens_are, tokens_from}
use Rattle.paper_theory.proofs.ReadingLaws.{accepts, stops, bound, stops_only}
use Rattle.paper_theory.proofs.GoingSaid.{Rising}
use Rattle.paper_theory.proofs.CallsGoing.{from_rising}
use Rattle.paper_theory.proofs.SaidOne.{said_some}
use Rattle.claims.proofs.FitsLaws.{not_over}
use Rattle.claims.proofs.LevelsLaws.{opens_33}

-- every text of bytes has its tokens, whose places rise, and something is said of it
pub tokens_some : (s : List ℕ) → (t : Text) × Tokens 0 s t
tokens_some s = (from s 0, tokens_are s)

rising : {s : List ℕ} {t : Text} → Tokens 0 s t → Rising t
rising {s} k = subst Rising (sym (tokens_from k)) (from_rising s)

pub said_of : (n : Part) {s : List ℕ} {t : Text} → Tokens 0 s t → (a : Answer) × TextAnswer n t a
said_of n {s} {t} k = said_some n t (rising k)

-- THE LEAST IS TOLD
told_least : (n : Part) (t : Text) (r : Refusal) → TextAnswer n t (refuses r) → Fault n t r × ((r' : Refusal) → Fault n t r' → NoLater r r')
told_least n t r (refused f l) = (f, l)

least_told : (n : Part) (t : Text) (r : Refusal) → Fault n t r × ((r' : Refusal) → Fault n t r' → NoLater r r') → TextAnswer n t (refuses r)
least_told n t r (f, l) = refused f l

pub least : (n : Part) (t : Text) (r : Refusal) → TextAnswer n t (refuses r) ↔ (Fault n t r × ((r' : Refusal) → Fault n t r' → NoLater r r'))
least n t r = (told_least n t r, least_told n t r)

-- REFUSAL 4
pub stop_one : (n : Part) (ts : List Class) (j k : ℕ) → j ≤ length ts → k ≤ length ts → StopsAt n ts j → StopsAt n ts k → j ≡ k
stop_one n ts j k h h' s s' = let e = stops_only n ts j h s in let e' = stops_only n ts k h' s' in let q : machine.stopped j ≡ machine.stopped k = sym e ∙ e' in cc

pub stop_some : (n : Part) (ts : List Class) → Is n ts ⊎ ((k : ℕ) × (k ≤ length ts) × StopsAt n ts k)
stop_some n ts = go (machine.run graphql (nt n ∷ []) ts) refl
  where
    go : (a : machine.Answer Class Mark) → machine.run graphql (nt n ∷ []) ts ≡ a → Is n ts ⊎ ((k : ℕ) × (k ≤ length ts) × StopsAt n ts k)
    go (machine.accepted es) e = inl (es, accepts n ts e)
    go (machine.stopped k) e = inr (k, bound ts (nt n ∷ []) k e, stops n ts k e)

going_fault : (n : Part) (t : Text) (at : ℕ) → Fault n t (NoGoing at) →
    (k : ℕ) × (at ≡ place_of k t) × StopsAt n (classes_of t) k × ((k < length (tokens_of t)) ⊎ ((k ≡ length (tokens_of t)) × EndsWell t))
going_fault n t at (no_going k h s) = (k, refl, s, inl h)
going_fault n t at (no_end w s) = (length (tokens_of t), refl, s, inr (refl, w))

pub going_stands : (n : Part) (t : Text) (at : ℕ) → TextAnswer n t (refuses (NoGoing at)) →
    (k : ℕ) × (at ≡ place_of k t) × StopsAt n (classes_of t) k × ((k < length (tokens_of t)) ⊎ ((k ≡ length (tokens_of t)) × EndsWell t))
going_stands n t at (refused f l) = going_fault n t at f

-- REFUSAL 3
abbrev BadHere : List ℕ → Type 0
BadHere bs = NoPiece bs ⊎ ((p : List ℕ) × Longest bs p comment × T (not (line_end (drop (length p) bs))))

not_empty : (bs : List ℕ) (k : ℕ) → T (not (line_end (drop k bs))) → 0 < length bs
not_empty [] k h = absurd (subst (λ (z : List ℕ). T (not (line_end z))) (drop-nil k) h)
not_empty (b ∷ bs) k h = omega arith

abbrev BadAhead : ℕ → ℕ → List ℕ → Type 0
BadAhead n at bs = (i : ℕ) × (n ≡ at + i) × (i < length bs) × BadHere (drop i bs)

behind : (n at : ℕ) (bs p : List ℕ) → BadAhead n (at + length p) (drop (length p) bs) → BadAhead n at bs
behind n at bs p (i, e, h, b) = (length p + i, omega arith, (let l = length-drop (length p) bs in omega arith), subst BadHere (drop-drop i (length p) bs) b)

bad_ahead : {at n : ℕ} {bs : List ℕ} {t : Text} → Tokens at bs t → BadAt n t → BadAhead n at bs
bad_ahead {n = n} (ends {at = at}) b = elim b [ ]
bad_ahead (starts_none h) bad_here = (0, omega arith, omega arith, inl h)
bad_ahead {bs} (bad_comment p l e) bad_here = (0, omega arith, not_empty bs (length p) e, inr (p, l, e))
bad_ahead {at} {n} {bs} (skips p l k) b = behind n at bs p (bad_ahead k b)
bad_ahead {at} {n} {bs} (comments p l e k) b = behind n at bs p (bad_ahead k b)
bad_ahead {at} {n} {bs} (tokens p c l k) (bad_later b) = behind n at bs p (bad_ahead k b)

token_fault : (n : Part) (t : Text) (at : ℕ) → Fault n t (NoToken at) → BadAt at t
token_fault n t at (no_token b) = b

pub token_stands : (n : Part) {s : List ℕ} {t : Text} (at : ℕ) → Tokens 0 s t → TextAnswer n t (refuses (NoToken at)) → (at < length s) × BadHere (drop at s)
token_stands n {s} {t} at k (refused f l) =
    let b = bad_ahead k (token_fault n t at f) in
    let e : b.0 ≡ at = (let q = b.1 in omega arith) in
    ((let h = b.2 in omega arith), subst (λ (z : ℕ). BadHere (drop z s)) e b.3)

-- REFUSALS 5, 6 AND 8
-- what stands before the refused token is within the sizes
module _ (n : Part) (t : Text) (r : Refusal) (k : ℕ) (up : Rising t) (inside : k ≤ length (tokens_of t)) (here : offset_of r ≡ place_of k t) (l : (r' : Refusal) → Fault n t r' → NoLater r r') where
  not_later : (r' : Refusal) → NoLater r r' → offset_of r ≤ offset_of r'
  not_later r' (inl h) = omega arith
  not_later r' (inr h) = let e = h.0 in omega arith

  no_earlier : (j : ℕ) (r' : Refusal) → j < k → offset_of r' ≡ place_of j t → Fault n t r' → ⊥
  no_earlier j r' h e f = let a = not_later r' (l r' f) in let b = up j k h inside in omega arith

  within_before : (j : ℕ) (m : Sums) → j < k → Summed n (classes_of t) j m → (over_levels m ≡ false) × (over_rows m ≡ false) × (over_counts m.counts ≡ false)
  within_before j m h s = (
    not_over (over_levels m) (λ o. no_earlier j (TooDeep (place_of j t)) h refl (too_deep j s o)),
    not_over (over_rows m) (λ o. no_earlier j (TooManyRows (place_of j t)) h refl (too_many_rows j s o)),
    not_over (over_counts m.counts) (λ o. no_earlier j (TooMany (place_of j t)) h refl (too_many j s o)),
  )

inside : (n : Part) (t : Text) (k : ℕ) (m : Sums) → Summed n (classes_of t) k m → k ≤ length (tokens_of t)
inside n t k m s = let e = length-map (tokens_of t) (λ x. x.class) in let i = s.inside in omega arith

-- the first token with which a test of the sums fails
abbrev First : Part → Text → ℕ → (Sums → Bool) → Type 0
First n t at test =
    (k : ℕ) × (m : Sums) × (at ≡ place_of k t) × Summed n (classes_of t) k m × T (test m)
    × ((j : ℕ) (m' : Sums) → j < k → Summed n (classes_of t) j m' → (over_levels m' ≡ false) × (over_rows m' ≡ false) × (over_counts m'.counts ≡ false))

-- of refusal 5: it opens level 33
abbrev Deep : Part → Text → ℕ → Type 0
Deep n t at =
    (k : ℕ) × (m : Sums) × (at ≡ place_of k t) × Summed n (classes_of t) k m × (m.levels ≡ suc most_levels) × ((c : Class) × (r : List Class) × (drop k (classes_of t) ≡ c ∷ r) × T (opens_level c))
    × ((j : ℕ) (m' : Sums) → j < k → Summed n (classes_of t) j m' → (over_levels m' ≡ false) × (over_rows m' ≡ false) × (over_counts m'.counts ≡ false))

deep_first : (n : Part) (t : Text) (at : ℕ) → Rising t → Fault n t (TooDeep at) → ((r' : Refusal) → Fault n t r' → NoLater (TooDeep at) r') → Deep n t at
deep_first n t at up (too_deep k {s = m} s o) l =
    let f = within_before n t (TooDeep (place_of k t)) k up (inside n t k m s) refl l in
    let d = opens_33 n (classes_of t) k m s o (λ (j : ℕ) (m' : Sums) (h : j < k) (s' : Summed n (classes_of t) j m'). (f j m' h s').0) in
    (k, m, refl, s, d.0, d.1, f)

rows_first : (n : Part) (t : Text) (at : ℕ) → Rising t → Fault n t (TooManyRows at) → ((r' : Refusal) → Fault n t r' → NoLater (TooManyRows at) r') → First n t at over_rows
rows_first n t at up (too_many_rows k {s = m} s o) l = (k, m, refl, s, o, within_before n t (TooManyRows (place_of k t)) k up (inside n t k m s) refl l)

many_first : (n : Part) (t : Text) (at : ℕ) → Rising t → Fault n t (TooMany at) → ((r' : Refusal) → Fault n t r' → NoLater (TooMany at) r') → First n t at (λ m. over_counts m.counts)
many_first n t at up (too_many k {s = m} s o) l = (k, m, refl, s, o, within_before n t (TooMany (place_of k t)) k up (inside n t k m s) refl l)

pub deep_stands : (n : Part) {s : List ℕ} {t : Text} (at : ℕ) → Tokens 0 s t → TextAnswer n t (refuses (TooDeep at)) → Deep n t at
deep_stands n {s} {t} at k (refused f l) = deep_first n t at (rising k) f l

pub rows_stands : (n : Part) {s : List ℕ} {t : Text} (at : ℕ) → Tokens 0 s t → TextAnswer n t (refuses (TooManyRows at)) → First n t at over_rows
rows_stands n {s} {t} at k (refused f l) = rows_first n t at (rising k) f l

pub many_stands : (n : Part) {s : List ℕ} {t : Text} (at : ℕ) → Tokens 0 s t → TextAnswer n t (refuses (TooMany at)) → First n t at (λ m. over_counts m.counts)
many_stands n {s} {t} at k (refused f l) = many_first n t at (rising k) f l
