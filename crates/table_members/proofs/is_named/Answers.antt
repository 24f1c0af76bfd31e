-- By the name in the content.
use mathlib.Core.Path.{ap, ◌∙◌}
use mathlib.Core.List.{List}
use Prim.Native.Nat.{ℕ}
use Rattle.paper.specs.Tokens.{same}
use Rattle.table_book.specs.Book.{part}
use Rattle.table_members.proofs.is_named.Goals as goal

pub returns : goal.returns
returns c = c.is_text.ensures ∙ ap (λ (x : List ℕ). same x (part c.args.s.now c.args.at c.args.n)) c.name_in-m.ensures.is
