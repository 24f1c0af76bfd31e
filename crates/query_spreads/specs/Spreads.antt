-- Where each spread leads, and the spreads of each definition, linked.
-- Assumes nothing.
use Rattle.std.specs.Prelude.{◌≡◌, List, ℕ, suc, ◌<◌, ◌≤◌, length, get_or, T}
use Rattle.paper.specs.Numbers.{most_rows, kind_spread}
use Rattle.paper_query.specs.Constructs.{Doc, count, is, row_of, name_of, fragment_named}
use Rattle.paper_query.specs.Reaching.{Within}
use Rattle.query_rows.specs.Rowed.{room_of}
use Rattle.query_spreads.specs.Owners.{Defines}

-- row s is a spread
abbrev pub IsSpread : Doc → ℕ → Type 0
IsSpread d s = T (is kind_spread (row_of d s))

-- of each spread the first fragment of its name; the count of rows if there is none
pub record Targeted (d : Doc) (target : List ℕ) : Type 0 where
  pub size : length target ≡ room_of (count d)
  pub leads : (s : ℕ) → IsSpread d s → get_or target s 0 ≡ fragment_named d (name_of d s)

-- row s is a spread in the definition of row a
pub record SpreadIn (d : Doc) (a s : ℕ) : Type 0 where
  pub spread : IsSpread d s
  pub within : Within d a s

-- row s is a spread in the definition of row o and in no other; in none if o defines nothing
pub record Spreader (d : Doc) (s o : ℕ) : Type 0 where
  pub most : o ≤ most_rows
  pub stands : Defines d o → SpreadIn d o s
  pub sole : (a : ℕ) → Defines d a → SpreadIn d a s → o ≡ a

-- j is the first number from i on, below n, with the property P; n if there is none
pub record FirstOf (P : ℕ → Type 0) (n i j : ℕ) : Type 0 where
  pub from : i ≤ j
  pub most : j ≤ n
  pub holds : j < n → P j
  pub skips : (k : ℕ) → i ≤ k → k < j → P k → ⊥

-- of each definition its first spread, and after each spread the next of its definition
pub record Linked (d : Doc) (first next : List ℕ) : Type 0 where
  pub firsts : count d ≤ length first
  pub nexts : length next ≡ room_of (count d)
  pub eldest : (a : ℕ) → Defines d a → FirstOf (SpreadIn d a) (count d) 0 (get_or first a 0)
  pub younger : (a s : ℕ) → Defines d a → SpreadIn d a s → FirstOf (SpreadIn d a) (count d) (suc s) (get_or next s 0)

-- the spreads of a document as a graph of its definitions
pub record Graph (d : Doc) (target first next : List ℕ) : Type 0 where
  pub few : count d ≤ most_rows
  pub targeted : Targeted d target
  pub linked : Linked d first next
