-- Byte by byte: what is left of the name, hashed from here, gives the whole.
use mathlib.Core.Path.{ap, ◌∙◌}
use Prim.Native.Nat.{ℕ}
use borrow.Author.Rules.{rules}
use Rattle.table_book.specs.Book.{part, hash_from}
use Rattle.table_book.proofs.Texts.{hash_more, hash_end}
use Rattle.table_book.proofs.mixed.Goals as goal

pub loop-b-preserved : goal.loop-b-preserved
loop-b-preserved c = (hash_more _ c.loop-b.b-index c.multiplier-m.result c.loop-b.h c.loop-b-test.true ∙ c.loop-b.invariant.0, search rules)

pub returns : goal.returns
returns c = (hash_end _ c.loop-b.b-index c.multiplier-m.result c.loop-b.h c.loop-b-test.false ∙ c.loop-b.invariant.0 ∙ ap (λ (x : ℕ). hash_from x 0 (part c.args.s.now c.args.at c.args.n)) c.multiplier-m.ensures.0, c.loop-b.invariant.1)
