-- What the readers of whole texts answer.
use Rattle.std.specs.Prelude.{◌≡◌, List, [], ◌∷◌, ℕ, Result, Ok, Err}
use Rattle.paper.specs.Grammar.{nt}
use Rattle.paper.specs.Language.{Part}
use Rattle.paper.specs.declared.Refusal.{Refusal}
use Rattle.paper.proofs.Lexing.{from}
use Rattle.paper.proofs.Going.{State, start, whole, halt, go}
use Rattle.text_cursor.specs.declared.Cursor.{Cursor}

-- the machine reads the whole text s as a text of the part, and leaves the rows; or it halts
abbrev pub Ended : Part → List ℕ → List ℕ → List ℕ → Result Cursor Refusal → Type 0
Ended p s rows rows' (Ok d) = (m : State) × (go (start rows) (nt p ∷ []) (from s 0) ≡ whole m) × (m.cells ≡ rows') × (m.rows ≡ d.rows)
Ended p s rows rows' (Err r) = go (start rows) (nt p ∷ []) (from s 0) ≡ halt r
