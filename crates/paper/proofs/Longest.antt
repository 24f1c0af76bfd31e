-- Longest match, by the machine: the longest beginning of a text that fits a stack.
use mathlib.Core.List.{List, [], ◌∷◌, ◌++◌}
use mathlib.Core.Option.{Option, none, some}
use Prim.Native.Nat.{ℕ, suc}
use Rattle.paper.specs.Grammar.{Sym, Ev}
use Rattle.paper.proofs.Machine.{Tables, Step, took, emptied, refused, spent, step}

abbrev pub Match : Type 0 → Type 0 → Type 0
Match C A = record { size : ℕ; events : List (Ev C A) }

module _ {N P C A : Type 0} (G : Tables N P C A) where
  -- what is read if the text ends here
  abbrev pub here : Step N P C A → Option (Match C A)
  here (took es σ) = none
  here (emptied es) = some (record { size = 0; events = es })
  here refused = none
  here spent = none

  abbrev pub longer : List (Ev C A) → Option (Match C A) → Option (Match C A) → Option (Match C A)
  longer es none o = o
  longer es (some m) o = some (record { size = suc m.size; events = es ++ m.events })

  abbrev pub further : (List (Sym N P A) → Option (Match C A)) → Step N P C A → Option (Match C A) → Option (Match C A)
  further k (took es σ) o = longer es (k σ) o
  further k (emptied es) o = o
  further k refused o = o
  further k spent o = o

  unfoldable pub scan : List (Sym N P A) → List C → Option (Match C A)
  scan σ [] = here (step G σ none)
  scan σ (b ∷ bs) = further (λ σ'. scan σ' bs) (step G σ (some b)) (here (step G σ none))
