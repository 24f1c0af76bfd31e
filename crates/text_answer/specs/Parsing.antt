-- What the calls' own functions do to the buffers.
use Rattle.std.specs.Prelude.{◌≡◌, List, [], ◌∷◌, ℕ, ◌*◌, replicate, Result, Ok, Err}
use Rattle.paper.specs.Grammar.{nt}
use Rattle.paper.specs.Language.{Part}
use Rattle.paper.specs.Numbers.{row_size, rows_size}
use Rattle.paper.specs.declared.Refusal.{Refusal}
use Rattle.paper.proofs.Lexing.{from}
use Rattle.paper.proofs.Going.{State, start, whole, halt, go}
use Rattle.call_buffers.specs.Buffers.{cleared}
use Rattle.text_cursor.specs.declared.Cursor.{Cursor}

-- the machine reads the whole text s as a text of the part: what it wrote beyond the rows is cleared; or it halts, and all is cleared
abbrev pub Filled : Part → List ℕ → List ℕ → List ℕ → Result Cursor Refusal → Type 0
Filled p s rows rows' (Ok d) = (m : State) × (go (start rows) (nt p ∷ []) (from s 0) ≡ whole m) × (rows' ≡ cleared (row_size * m.rows) m.cells) × (m.rows ≡ d.rows)
Filled p s rows rows' (Err r) = (go (start rows) (nt p ∷ []) (from s 0) ≡ halt r) × (rows' ≡ replicate rows_size 0)
