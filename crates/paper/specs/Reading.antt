-- What it is to read a text: the rows that it has, or where and why it is refused.
-- States: 01, "Sizes and refusals": rows 3 to 6 and 8, and their order (least offset, then least number); "Reading a document".
-- Assumes nothing.
use Rattle.std.specs.Prelude.{◌≡◌, ◌⊎◌, List, [], ◌∷◌, ◌++◌, map, ℕ, zero, suc, ◌≤◌, ◌<◌, T, length, take, drop}
use Rattle.paper.specs.Grammar.{nt, Ev, toks, Derives}
use Rattle.paper.specs.Language.{Class, Mark, Part, language, hits}
use Rattle.paper.specs.Tokens.{Tok, Text, at_end, bad, token}
use Rattle.paper.specs.Rows.{Row, rows_of}
use Rattle.paper.specs.Sizes.{Sums, nothing_counted, sums, through, over_levels, over_rows, over_counts}
use Rattle.paper.specs.Refusals.{number_of}
use Rattle.paper.specs.declared.Refusal.{Refusal}
use Rattle.paper.specs.declared.Refusal.TheVariants.{NoToken, NoGoing, TooDeep, TooManyRows, TooMany}

-- the tokens of a text, and their classes
unfoldable pub tokens_of : Text → List Tok
tokens_of (at_end n) = []
tokens_of (bad n) = []
tokens_of (token k t) = k ∷ tokens_of t

abbrev pub classes_of : Text → List Class
classes_of t = map (λ k. k.class) (tokens_of t)

-- where the n-th token begins, or the end, or the bad bytes, where there are n tokens
unfoldable pub place_of : ℕ → Text → ℕ
place_of n (at_end at) = at
place_of n (bad at) = at
place_of zero (token k t) = k.start
place_of (suc n) (token k t) = place_of n t

-- the text ends well; it ends at bad bytes
pub data EndsWell : Text → Type 0 where
  ends_well_here : {n : ℕ} → EndsWell (at_end n)
  ends_well_later : {k : Tok} {t : Text} → EndsWell t → EndsWell (token k t)

pub data BadAt : ℕ → Text → Type 0 where
  bad_here : {n : ℕ} → BadAt n (bad n)
  bad_later : {n : ℕ} {k : Tok} {t : Text} → BadAt n t → BadAt n (token k t)

-- es is the text ts of a part, with its marks
abbrev pub Reads : Part → List Class → List (Ev Class Mark) → Type 0
Reads n ts es = Derives language hits (nt n ∷ []) es × (toks es ≡ ts)

abbrev pub Is : Part → List Class → Type 0
Is n ts = (es : List (Ev Class Mark)) × Reads n ts es

-- after the tokens p none of the part's texts goes on with r's first token, or ends where r has none
abbrev pub NoGoingOn : Part → List Class → List Class → Type 0
NoGoingOn n p [] = Is n p → ⊥
NoGoingOn n p (t ∷ r) = (q : List Class) → Is n (p ++ (t ∷ q)) → ⊥

-- the first k tokens begin some text of the part, and with the next (or the end) none goes on
abbrev pub StopsAt : Part → List Class → ℕ → Type 0
StopsAt n ts k = ((q : List Class) × Is n (take k ts ++ q)) × NoGoingOn n (take k ts) (drop k ts)

-- the sums just after the token k, in a text of the part that begins with the tokens up to it
pub record Summed (n : Part) (ts : List Class) (k : ℕ) (s : Sums) : Type 0 where
  pub inside : k < length ts
  pub later : List Class
  pub events : List (Ev Class Mark)
  pub reads : Reads n (take (suc k) ts ++ later) events
  pub are : sums (through (suc k) events) nothing_counted ≡ s

-- what is wrong with a text of the part n
pub data Fault (n : Part) (t : Text) : Refusal → Type 0 where
  -- 3: bytes that start no token, or bad text in a string or comment
  no_token : {at : ℕ} → BadAt at t → Fault n t (NoToken at)
  -- 4: a token with which no text of the part can go on
  no_going : (k : ℕ) → k < length (tokens_of t) → StopsAt n (classes_of t) k → Fault n t (NoGoing (place_of k t))
  -- 4: the end, where no text of the part can end
  no_end : EndsWell t → StopsAt n (classes_of t) (length (tokens_of t)) → Fault n t (NoGoing (place_of (length (tokens_of t)) t))
  -- 5, 6 and 8: the token with which a count is over
  too_deep : (k : ℕ) {s : Sums} → Summed n (classes_of t) k s → T (over_levels s) → Fault n t (TooDeep (place_of k t))
  too_many_rows : (k : ℕ) {s : Sums} → Summed n (classes_of t) k s → T (over_rows s) → Fault n t (TooManyRows (place_of k t))
  too_many : (k : ℕ) {s : Sums} → Summed n (classes_of t) k s → T (over_counts s.counts) → Fault n t (TooMany (place_of k t))

-- the offset that a refusal of a text shows
abbrev pub offset_of : Refusal → ℕ
offset_of Refusal.Buffer = 0
offset_of (Refusal.OverLength input) = 0
offset_of (NoToken at) = at
offset_of (NoGoing at) = at
offset_of (TooDeep at) = at
offset_of (TooManyRows at) = at
offset_of (TooMany at) = at

-- the least offset, then the least number
abbrev pub NoLater : Refusal → Refusal → Type 0
NoLater r r' = (offset_of r < offset_of r') ⊎ ((offset_of r ≡ offset_of r') × (number_of r ≤ number_of r'))

-- what is said of a text
pub data Answer : Type 0 where
  rows_are : List Row → Answer
  refuses : Refusal → Answer

-- `TextAnswer n t a`: a is what is said of the text t, read as a text of the part n. The rows are those of its derivation, where it has one and no
-- fault; or the refusal is the least of its faults
pub data TextAnswer (n : Part) (t : Text) : Answer → Type 0 where
  accepts : {es : List (Ev Class Mark)} → EndsWell t → Reads n (classes_of t) es → ((r : Refusal) → Fault n t r → ⊥) → TextAnswer n t (rows_are (rows_of es (tokens_of t)))
  refused : {r : Refusal} → Fault n t r → ((r' : Refusal) → Fault n t r' → NoLater r r') → TextAnswer n t (refuses r)
