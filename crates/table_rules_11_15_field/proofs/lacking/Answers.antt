-- By the rule's number.
use borrow.Author.Tests.{eq-eqb, ne_eqb}
use Rattle.paper_table.specs.TableNumbers.{rule_field_missing}
use Rattle.table_rules_11_15_field.proofs.lacking.Goals as goal

pub returns-then-rule-ne-RULE_FIELD_MISSING : goal.returns-then-rule-ne-RULE_FIELD_MISSING
returns-then-rule-ne-RULE_FIELD_MISSING c = rw (ne_eqb c.args.rule rule_field_missing c.if-rule-ne-RULE_FIELD_MISSING.true)

pub returns : goal.returns
returns c = rw (eq-eqb c.args.rule rule_field_missing c.if-rule-ne-RULE_FIELD_MISSING.false)
