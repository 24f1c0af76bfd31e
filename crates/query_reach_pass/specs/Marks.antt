-- What a search from a definition marks: the fragments that it reaches. Marks are not cleared between searches: each has a number of its own.
-- Assumes nothing.
use Rattle.std.specs.Prelude.{◌≡◌, ◌⊎◌, cond, List, [], ◌∷◌, ℕ, suc, ◌+◌, ◌<◌, ◌≤◌, length, get_or, set, eqb}
use Rattle.paper.specs.Numbers.{most_rows}
use Rattle.paper_query.specs.Constructs.{Doc, count}
use Rattle.paper_query.specs.Reaching.{Spreads, Reaches}
use Rattle.query_rows.specs.Rowed.{room_of}
use Rattle.query_spreads.specs.Owners.{Defines}
use Rattle.query_spreads.specs.Spreads.{SpreadIn}

-- the definition of row a reaches a spread of the fragment of row f
pub record Draws (d : Doc) (a f : ℕ) : Type 0 where
  pub at : ℕ
  pub reaches : Reaches d a at
  pub spreads : Spreads d at f

-- a mark for each row, none above m
pub record Stamped (d : Doc) (m : ℕ) (mark : List ℕ) : Type 0 where
  pub size : length mark ≡ room_of (count d)
  pub most : (i : ℕ) → get_or mark i 0 ≤ m

-- the mark of a search from row a
abbrev pub stamp : ℕ → ℕ
stamp a = a + 1

-- the fragments that the definition of row a reaches have the mark of its search, no other row has it, and none has a larger one
pub record Reached (d : Doc) (a : ℕ) (mark : List ℕ) : Type 0 where
  pub stamped : Stamped d (stamp a) mark
  pub sound : (f : ℕ) → get_or mark f 0 ≡ stamp a → Draws d a f
  pub complete : (f : ℕ) → Draws d a f → get_or mark f 0 ≡ stamp a

-- The search: how many rows have not the mark m
unfoldable pub others : ℕ → List ℕ → ℕ
others m [] = 0
others m (x ∷ xs) = cond (eqb x m) (others m xs) (suc (others m xs))

-- the row f is marked and put on the stack, where it is one of n rows and not marked yet
pub data Noted (n m f : ℕ) (mark stack : List ℕ) (top : ℕ) : List ℕ → List ℕ → ℕ → Type 0 where
  none : n ≤ f → Noted n m f mark stack top mark stack top
  old : get_or mark f 0 ≡ m → Noted n m f mark stack top mark stack top
  new : f < n → (get_or mark f 0 ≡ m → ⊥) → Noted n m f mark stack top (set mark f m) (set stack top f) (top + 1)

-- what noting a row asks: the stack has room for all that are not marked
pub record Room (n m : ℕ) (mark stack : List ℕ) (top : ℕ) : Type 0 where
  pub few : n ≤ length mark
  pub most : length mark ≤ most_rows
  pub stacked : length stack ≡ length mark
  pub room : top + others m mark ≤ length mark

-- g is one of the first `top` of the stack
pub record Waits (stack : List ℕ) (top g : ℕ) : Type 0 where
  pub at : ℕ
  pub below : at < top
  pub is : get_or stack at 0 ≡ g

-- each spread in the definition of row g, up to row j, leads to a marked fragment
abbrev pub PassedTo : Doc → List ℕ → ℕ → ℕ → ℕ → Type 0
PassedTo d mark m g j = (s f : ℕ) → s < j → SpreadIn d g s → Spreads d s f → get_or mark f 0 ≡ m

-- g was met in the search from row a
abbrev pub Met : ℕ → List ℕ → ℕ → Type 0
Met a mark g = (g ≡ a) ⊎ (get_or mark g 0 ≡ stamp a)

-- amid the search from row a: of the definition of row g the spreads up to row j are passed, of all others met all, but of those on the stack
pub record Search (d : Doc) (a : ℕ) (mark stack : List ℕ) (top g j : ℕ) : Type 0 where
  pub defines : Defines d a
  pub stamped : Stamped d (stamp a) mark
  pub stacked : length stack ≡ room_of (count d)
  pub room : top + others (stamp a) mark ≤ room_of (count d)
  pub sound : (f : ℕ) → get_or mark f 0 ≡ stamp a → Draws d a f
  pub waiting : (k : ℕ) → k < top → get_or mark (get_or stack k 0) 0 ≡ stamp a
  pub met : Met a mark g
  pub passed : PassedTo d mark (stamp a) g j
  pub closed : (f : ℕ) → Met a mark f → Waits stack top f ⊎ ((f ≡ g) ⊎ PassedTo d mark (stamp a) f (count d))

-- all spreads of the definition of row g are passed; what waits and what is not marked is as much as before
pub record Passed (d : Doc) (a : ℕ) (mark stack : List ℕ) (top g : ℕ) (mark' stack' : List ℕ) (top' : ℕ) : Type 0 where
  pub search : Search d a mark' stack' top' g (count d)
  pub counted : top' + others (stamp a) mark' ≡ top + others (stamp a) mark
