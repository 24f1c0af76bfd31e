-- The tag of a built-in scalar, of the number found, or none.
use mathlib.Core.Path.{sym, ◌∙◌}
use native.Mathlib.Omega.{arith}
use Rattle.table_book.specs.Book.{part}
use Rattle.table_types.proofs.Meanings.{tag_built_in, tag_definition, tag_nothing_is}
use Rattle.table_types.proofs.tag_meant.Goals as goal

pub returns-then-is_built_in : goal.returns-then-is_built_in
returns-then-is_built_in c = tag_built_in c.args.t.now c.args.book.now c.requires.0 (part c.args.s.now c.args.at c.args.n) (sym c.is_built_in.ensures ∙ c.if-is_built_in.true)

pub returns-then-k-count_of : goal.returns-then-k-count_of
returns-then-k-count_of c = c.kind_of.ensures ∙ tag_definition c.args.t.now c.args.book.now c.requires.0 (part c.args.s.now c.args.at c.args.n) c.first_type-k.ensures (sym c.is_built_in.ensures ∙ c.if-is_built_in.false) (omega (arith, c.if-k-count_of.true, c.count_of.ensures))

pub returns : goal.returns
returns c = tag_nothing_is c.args.t.now c.args.book.now c.requires.0 (part c.args.s.now c.args.at c.args.n) c.first_type-k.ensures (sym c.is_built_in.ensures ∙ c.if-is_built_in.false) (omega (arith, c.if-k-count_of.false, c.count_of.ensures))
