-- What is said of variables and fragments: one number for each row, the least rule broken there or 0.
-- Assumes nothing.
use Rattle.std.specs.Prelude.{◌≡◌, ◌⊎◌, cond, List, ℕ, ◌+◌, ◌-◌, ◌≤◌, ◌<◌, length, get_or, set, ltb}
use Rattle.paper.specs.Numbers.{kind_fragment, kind_variable}
use Rattle.paper_table.specs.Types.{Table}
use Rattle.paper_query.specs.QueryNumbers.{rule_circle, rule_undefined, rule_variable_type}
use Rattle.paper_query.specs.Constructs.{Doc, count, kind_of}
use Rattle.paper_query.specs.Rule8Circle.{ReachesItself}
use Rattle.paper_query.specs.Rule10Undefined.{Undefined}
use Rattle.paper_query.specs.Rule11VariableType.{Differs}
use Rattle.query_rows.specs.Rowed.{rows_in, doc_of, Rowed, room_of}
use Rattle.query_links.specs.Links.{Family}
use Rattle.query_spreads.specs.Owners.{Owned}
use Rattle.query_reach_pass.specs.Marks.{Waits}
use Rattle.query_places.specs.Placed.{Placed}
use Rattle.query_alike_pair.specs.Alike.{no_rule, Least, Alike}

-- f says whether the fragment of row i reaches itself
pub record Circled (d : Doc) (i f : ℕ) : Type 0 where
  pub circles : f ≡ rule_circle → ReachesItself d i
  pub no_circle : f ≡ no_rule → ReachesItself d i → ⊥
  pub known : (f ≡ no_rule) ⊎ (f ≡ rule_circle)

-- from here on a flag says which row a variable is like
abbrev pub like_first : ℕ
like_first = 4096

-- the variable of row i is like that of row j, which stands before it and has a flag of its own
pub record Like (t : Table) (d : Doc) (flag : List ℕ) (i j : ℕ) : Type 0 where
  pub before : j < i
  pub variable : kind_of d j ≡ kind_variable
  pub own : get_or flag j 0 < like_first
  pub alike : Alike t d i j

-- the variable of row i is judged by the operations before row m, or said to be like another
pub record Judged (t : Table) (d : Doc) (m : ℕ) (flag : List ℕ) (i : ℕ) : Type 0 where
  pub own : get_or flag i 0 < like_first → Least t d m i (get_or flag i 0)
  pub like : like_first ≤ get_or flag i 0 → Like t d flag i (get_or flag i 0 - like_first)

-- the fragments before row g are judged, and of the variables holds P
pub record FlagsBy (P : ℕ → Type 0) (d : Doc) (g : ℕ) (flag : List ℕ) : Type 0 where
  pub size : length flag ≡ room_of (count d)
  pub variables : (i : ℕ) → kind_of d i ≡ kind_variable → P i
  pub fragments : (i : ℕ) → i < g → kind_of d i ≡ kind_fragment → Circled d i (get_or flag i 0)
  pub others : (i : ℕ) → (kind_of d i ≡ kind_variable → ⊥) → (kind_of d i ≡ kind_fragment → ⊥) → get_or flag i 0 ≡ no_rule

-- the variables are judged by the operations before row m; the same but for those that are like others
abbrev pub FlagsTo : Table → Doc → ℕ → ℕ → List ℕ → Type 0
FlagsTo t d g m flag = FlagsBy (λ i. Least t d m i (get_or flag i 0)) d g flag

abbrev pub LikenedTo : Table → Doc → ℕ → ℕ → List ℕ → Type 0
LikenedTo t d g m flag = FlagsBy (Judged t d m flag) d g flag

-- the same for any table, from flags where nothing is judged
abbrev pub FragmentsTo : Doc → List ℕ → ℕ → List ℕ → Type 0
FragmentsTo d old g new = (t : Table) → FlagsTo t d 0 0 old → FlagsTo t d g 0 new

-- what is known of a document before variables are judged
pub record Known (t s rows : List ℕ) (n : ℕ) (first next at es wrappers owner : List ℕ) : Type 0 where
  pub rowed : Rowed s rows n
  pub family : Family (rows_in rows n) first next
  pub placed : Placed t s rows n at es wrappers
  pub owned : Owned (doc_of s rows n) owner

-- the first m of the stack are variables before row i
pub record Models (d : Doc) (stack : List ℕ) (m i : ℕ) : Type 0 where
  pub size : length stack ≡ room_of (count d)
  pub few : m ≤ i
  pub variables : (k : ℕ) → k < m → kind_of d (get_or stack k 0) ≡ kind_variable
  pub before : (k : ℕ) → k < m → get_or stack k 0 < i

-- one of them is that of row j, and the variable of row i is like it
pub record ModelOf (t : Table) (d : Doc) (stack : List ℕ) (m i j : ℕ) : Type 0 where
  pub waits : Waits stack m j
  pub alike : Alike t d i j

-- row i is likened to one of them, or is one more
pub data Likened (t : Table) (d : Doc) (i : ℕ) (stack flag : List ℕ) (m : ℕ) : List ℕ → List ℕ → ℕ → Type 0 where
  copy : (j : ℕ) → ModelOf t d stack m i j → Likened t d i stack flag m stack (set flag i (like_first + j)) m
  model : Likened t d i stack flag m (set stack m i) flag (m + 1)

-- the flag of row i, or of the row that it is said to be like
unfoldable pub own_flag : List ℕ → ℕ → ℕ
own_flag flag i = cond (ltb (get_or flag i 0) like_first) (get_or flag i 0) (get_or flag (get_or flag i 0 - like_first) 0)

-- f is what is said of row i by the rules 8, 10 and 11, but for variable definitions
pub record Flag (t : Table) (d : Doc) (i f : ℕ) : Type 0 where
  pub circles : f ≡ rule_circle → ReachesItself d i
  pub undefined : f ≡ rule_undefined → Undefined d i
  pub differs : f ≡ rule_variable_type → Differs t d i
  pub defined : f ≡ rule_variable_type → Undefined d i → ⊥
  pub no_circle : f ≡ no_rule → ReachesItself d i → ⊥
  pub no_undefined : f ≡ no_rule → Undefined d i → ⊥
  pub no_differs : f ≡ no_rule → Differs t d i → ⊥
  pub known : (f ≡ no_rule) ⊎ ((f ≡ rule_circle) ⊎ ((f ≡ rule_undefined) ⊎ (f ≡ rule_variable_type)))

-- each row's
pub record Flagged (t : Table) (d : Doc) (flag : List ℕ) : Type 0 where
  pub size : length flag ≡ room_of (count d)
  pub flags : (i : ℕ) → Flag t d i (get_or flag i 0)
