-- `text_tokens::name_end` meets its contract: the run from `from` and the run from i end at one place.
use mathlib.Core.Path.{◌≡◌}
use Prim.Native.Nat.{◌+◌}
use lib.ListN.{drop}
use Rattle.paper.specs.Lexical.{letter_or_digit}
use Rattle.text_scan.specs.Run.{run_of}
use Rattle.text_tokens.proofs.name_end.Given as goal

abbrev pub invariant-loop-i : goal.invariant-loop-i
invariant-loop-i l = l.i + run_of letter_or_digit (drop l.i l.s) ≡ l.from + run_of letter_or_digit (drop l.from l.s)
