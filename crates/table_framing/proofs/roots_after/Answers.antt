-- An 8 comes once.
use mathlib.Core.Path.{◌≡◌, refl}
use mathlib.Core.Bool.{Bool, true, false, ◌&&◌}
use borrow.Author.Tests.{eq-eqb, ne_eqb}
use Rattle.table_framing.proofs.roots_after.Goals as goal

and_no : (b : Bool) → false ≡ b && false
and_no true = refl
and_no false = refl

and_yes : (b : Bool) → b ≡ b && true
and_yes true = refl
and_yes false = refl

pub returns-then-k-eq-TAG_ROOTS : goal.returns-then-k-eq-TAG_ROOTS
returns-then-k-eq-TAG_ROOTS c = rw (eq-eqb c.args.k 8 c.if-k-eq-TAG_ROOTS.true) (and_no c.args.roots)

pub returns : goal.returns
returns c = rw (ne_eqb c.args.k 8 c.if-k-eq-TAG_ROOTS.false) (and_yes c.args.roots)
