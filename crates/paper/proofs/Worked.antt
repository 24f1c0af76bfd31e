-- How a worked example is computed: the bytes of a text, and what the machine tells of it.
use mathlib.Core.Bool.{Bool, true, ◌&&◌}
use mathlib.Core.List.{List, [], ◌∷◌, ◌++◌}
use Prim.Native.Nat.{ℕ, zero, suc, ◌*◌}
use Prim.Native.Char.{code}
use Prim.Native.String.{String, [] as empty, ◌∷◌ as ◌then◌}
use lib.ListN.{replicate}
use Rattle.paper.specs.Grammar.{nt}
use Rattle.paper.specs.Numbers.{accepted, most_levels}
use Rattle.paper.specs.Language.{Class, Mark, Part, Document}
use Rattle.paper.specs.Tokens.{Text, same}
use Rattle.paper.specs.Rows.{Row, rows_of}
use Rattle.paper.specs.Refusals.{number_of, shown_of}
use Rattle.paper.specs.Reading.{tokens_of, classes_of}
use Rattle.paper.proofs.Machine.{Answer, accepted as derived, stopped, run}
use Rattle.paper.proofs.Tables.{graphql}
use Rattle.paper.proofs.Lexing.{from}
use Rattle.paper.proofs.Going.{State, st, Out, whole, halt, go}

-- a quoted text, in ASCII
abbrev pub bytes : String → List ℕ
bytes empty = []
bytes (c then s) = code c ∷ bytes s

-- what stands between quotation marks, as the value of an argument
abbrev pub in_string : List ℕ → List ℕ
in_string s = bytes "{a(x:\"" ++ s ++ bytes "\")}"

-- the two agree on each of a list
abbrev pub agree : {A : Type 0} → (A → List ℕ) → (A → List ℕ) → List A → Bool
agree f g [] = true
agree f g (x ∷ xs) = same (f x) (g x) && agree f g xs

-- the same n times
abbrev pub times : ℕ → List ℕ → List ℕ
times zero s = []
times (suc n) s = s ++ times n s

-- the machine before the first token, where k rows stand already and n may be lent
abbrev pub begin : ℕ → ℕ → State
begin k n = st (replicate (7 * n) 0) k [] 0 most_levels (record { fragments = 0; variables = 0; wrappers = 0 })

-- a refusal's number and what it shows; or 0, the count of rows, and the lent numbers
abbrev pub told : Out → List ℕ
told (whole s) = accepted ∷ s.rows ∷ s.cells
told (halt r) = number_of r ∷ shown_of r

-- what is told of the bytes s, as a text of a part, with n rows lent
abbrev pub reads : Part → ℕ → List ℕ → List ℕ
reads p n s = told (go (begin 0 n) (nt p ∷ []) (from s 0))

-- of a document with none lent: its count of rows, or its refusal
abbrev pub tells : List ℕ → List ℕ
tells s = reads Document 0 s

-- the rows that `Rows` reads off the derivation
abbrev rows_in : Text → Answer Class Mark → List Row
rows_in t (derived es) = rows_of es (tokens_of t)
rows_in t (stopped k) = []

abbrev pub rows_by : Part → List ℕ → List Row
rows_by p s = rows_in (from s 0) (run graphql (nt p ∷ []) (classes_of (from s 0)))

-- kind, start, end, parent, name, its length, extra
abbrev pub r : ℕ → ℕ → ℕ → ℕ → ℕ → ℕ → ℕ → Row
r k a e p n z x = record { kind = k; start = a; end = e; parent = p; name_start = n; name_length = z; extra = x }
