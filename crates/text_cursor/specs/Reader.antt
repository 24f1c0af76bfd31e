-- What a reader asks and answers: an equation of the machine `go`, for every stack behind what it reads.
use Rattle.std.specs.Prelude.{◌≡◌, false, List, ◌++◌, ℕ, ◌+◌, ◌≤◌, length, Result, Ok, Err}
use Rattle.paper.specs.Numbers.{most_text, most_rows, rows_size}
use Rattle.paper.specs.Rows.{top}
use Rattle.paper.specs.Sizes.{Counts, over_counts}
use Rattle.paper.specs.declared.Refusal.{Refusal}
use Rattle.paper.specs.declared.Refusal.TheVariants.{NoToken, NoGoing}
use Rattle.paper.proofs.Lexing.{from}
use Rattle.paper.proofs.Going.{Stack, st, Out, halt, go}
use Rattle.text_scan.specs.Head.{head_of, token_read}
use Rattle.text_scan.specs.declared.Token.{Token}
use Rattle.text_cursor.specs.declared.Cursor.{Cursor}

-- the cursor looks at the first token from its `stop` on
abbrev pub Looks : List ℕ → Cursor → Type 0
Looks s c = head_of (from s c.stop) ≡ token_read c.kind c.start c.end

-- what a reader asks: a text and rows of their sizes, a cursor that looks at its token, and a parent's number
pub record Ready (s rows : List ℕ) (c : Cursor) (parent : ℕ) : Type 0 where
  pub short : length s ≤ most_text
  pub size : length rows ≡ rows_size
  pub within : c.stop ≤ length s
  pub few : c.rows ≤ most_rows
  pub looks : Looks s c
  pub below : parent ≤ most_rows

-- a token's places are those of a text
abbrev pub Within : Result Token ℕ → Type 0
Within (Ok t) = t.start ≤ most_text
Within (Err o) = o ≤ most_text

abbrev pub located_of : Result Token ℕ → Result Cursor Refusal
located_of (Ok t) = Err (NoGoing t.start)
located_of (Err o) = Err (NoToken o)

abbrev pub no_going_of : Cursor → Result Cursor Refusal
no_going_of c = Err (NoGoing c.start)

-- the cursor that looks at the first token from `stop` on
abbrev pub moved_to : ℕ → ℕ → Result Token ℕ → Result Cursor Refusal
moved_to stop rows (Ok t) = Ok (record { kind = t.kind; start = t.start; end = t.end; stop = stop; rows = rows })
moved_to stop rows (Err o) = Err (NoToken o)

-- where the machine is: at the cursor, with these rows, open rows, levels and counts, and this stack
abbrev pub at : List ℕ → List ℕ → Cursor → List ℕ → ℕ → Counts → Stack → Out
at s rows c o left q σ = go (st rows c.rows o c.stop left q) σ (from s c.stop)

-- a reader of the symbols α, which takes `gain` bytes at least, below the row `parent`: it was at c with `rows`; it is at d with `rows'`
pub record Went (gain : ℕ) (s rows rows' : List ℕ) (c d : Cursor) (parent left : ℕ) (α : Stack) : Type 0 where
  pub size : length rows' ≡ rows_size
  pub within : d.stop ≤ length s
  pub few : d.rows ≤ most_rows
  pub looks : Looks s d
  pub on : gain + c.stop ≤ d.stop
  pub goes : (σ : Stack) (o : List ℕ) (q : Counts) → top o ≡ parent → over_counts q ≡ false → at s rows c o left q (α ++ σ) ≡ at s rows' d o left q σ

-- the machine halts, whatever stands behind
abbrev pub Halts : List ℕ → List ℕ → Cursor → ℕ → ℕ → Stack → Refusal → Type 0
Halts s rows c parent left α r = (σ : Stack) (o : List ℕ) (q : Counts) → top o ≡ parent → over_counts q ≡ false → at s rows c o left q (α ++ σ) ≡ halt r

abbrev pub Said : ℕ → List ℕ → List ℕ → List ℕ → Cursor → ℕ → ℕ → Stack → Result Cursor Refusal → Type 0
Said gain s rows rows' c parent left α (Ok d) = Went gain s rows rows' c d parent left α
Said gain s rows rows' c parent left α (Err r) = Halts s rows c parent left α r
