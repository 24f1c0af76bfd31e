-- A built-in scalar, or the first type of the name.
use mathlib.Core.Path.{sym, ◌∙◌}
use Rattle.table_book.specs.Book.{part}
use Rattle.table_types.specs.Booked.{definition_on}
use Rattle.table_rules_1_10_16.proofs.EntryLaws.{type_built_in, type_first}
use Rattle.table_rules_1_10_16.proofs.is_type_before.Goals as goal

pub returns-then-is_built_in : goal.returns-then-is_built_in
returns-then-is_built_in c = type_built_in c.args.t.now c.args.book.now c.requires.0 c.args.i c.requires.1 (part c.args.t.now c.name_of-n.result.at c.name_of-n.result.size) (definition_on c.args.t.now c.args.i) c.name_of-n.ensures.is (sym c.is_built_in.ensures ∙ c.if-is_built_in.true)

pub returns : goal.returns
returns c = type_first c.args.t.now c.args.book.now c.requires.0 c.args.i c.requires.1 (part c.args.t.now c.name_of-n.result.at c.name_of-n.result.size) (definition_on c.args.t.now c.args.i) c.name_of-n.ensures.is _ (sym c.is_built_in.ensures ∙ c.if-is_built_in.false) c.first_type.ensures
