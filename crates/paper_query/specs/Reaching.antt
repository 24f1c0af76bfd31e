-- What a definition reaches: what stands in it, and in the fragments that are spread there, dropped or not, and so on.
-- States: 01, "Query rules": "fragment that reaches itself", "an operation that reaches it"; "a repeated name means its first".
-- Assumes nothing.
use Rattle.std.specs.Prelude.{◌≡◌, Bool, not, ◌||◌, ℕ, ◌<◌, T}
use Rattle.paper.specs.Numbers.{kind_operation, kind_fragment, kind_spread}
use Rattle.paper.specs.Rows.{Row}
use Rattle.paper_query.specs.Constructs.{Doc, count, is, row_of, parent_of, name_of, fragment_named}

-- an operation or a fragment definition
abbrev pub is_definition : Row → Bool
is_definition r = is kind_operation r || is kind_fragment r

-- row i stands in row a: it is that row, or its parent stands in it; a definition stands in no other row
pub data Within (d : Doc) (a : ℕ) : ℕ → Type 0 where
  itself : Within d a a
  deeper : {i : ℕ} → T (not (is_definition (row_of d i))) → Within d a (parent_of d i) → Within d a i

-- row s spreads the fragment of row f, the first of its name
pub record Spreads (d : Doc) (s f : ℕ) : Type 0 where
  pub spread : T (is kind_spread (row_of d s))
  pub named : fragment_named d (name_of d s) ≡ f
  pub known : f < count d

-- `Reaches d a i`: the definition of row a reaches row i
pub data Reaches (d : Doc) (a : ℕ) : ℕ → Type 0 where
  here : {i : ℕ} → Within d a i → Reaches d a i
  through : {s f i : ℕ} → Reaches d a s → Spreads d s f → Within d f i → Reaches d a i

-- the fragment of row f reaches itself: it reaches a spread of itself
pub record Circles (d : Doc) (f : ℕ) : Type 0 where
  pub at : ℕ
  pub reaches : Reaches d f at
  pub spreads : Spreads d at f
