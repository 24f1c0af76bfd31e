-- The two texts, compared.
use mathlib.Core.Path.{ap, ◌∙◌}
use mathlib.Core.List.{List}
use Prim.Native.Nat.{ℕ}
use Rattle.paper.specs.Tokens.{same}
use Rattle.table_book.specs.Book.{part}
use Rattle.plan_keys.proofs.has_key.Goals as goal

pub returns : goal.returns
returns c = let a = c.args in
    c.is_text.ensures ∙ ap (λ (x : List ℕ). same x (part a.s.now a.at a.l)) c.key_of-k.ensures.1
