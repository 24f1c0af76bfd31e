-- A built-in directive, or the first directive of the name.
use mathlib.Core.Path.{sym, ◌∙◌}
use Rattle.table_book.specs.Book.{part}
use Rattle.table_types.specs.Booked.{definition_on}
use Rattle.table_rules_1_10_16.proofs.EntryLaws.{directive_built_in, directive_first}
use Rattle.table_rules_1_10_16.proofs.is_directive_before.Goals as goal

pub returns-then-is_known_directive : goal.returns-then-is_known_directive
returns-then-is_known_directive c = directive_built_in c.args.t.now c.args.book.now c.requires.0 c.args.i c.requires.1 (part c.args.t.now c.name_of-n.result.at c.name_of-n.result.size) (definition_on c.args.t.now c.args.i) c.name_of-n.ensures.is (sym c.is_known_directive.ensures ∙ c.if-is_known_directive.true)

pub returns : goal.returns
returns c = directive_first c.args.t.now c.args.book.now c.requires.0 c.args.i c.requires.1 (part c.args.t.now c.name_of-n.result.at c.name_of-n.result.size) (definition_on c.args.t.now c.args.i) c.name_of-n.ensures.is _ (sym c.is_known_directive.ensures ∙ c.if-is_known_directive.false) c.first_directive.ensures
