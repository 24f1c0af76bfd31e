-- `value_endings::sizes_met` meets its contract: each way to its end is one case.
use Rattle.value_endings.specs.Endings.{short_value, long_document, long_variables, long_table}
use Rattle.value_endings.proofs.sizes_met.Goals as goal

pub returns-then-value-lt-MOST_COERCED : goal.returns-then-value-lt-MOST_COERCED
returns-then-value-lt-MOST_COERCED c = short_value c.if-value-lt-MOST_COERCED.true

pub returns-then-document-gt-MOST_TEXT : goal.returns-then-document-gt-MOST_TEXT
returns-then-document-gt-MOST_TEXT c = long_document c.if-value-lt-MOST_COERCED.false c.if-document-gt-MOST_TEXT.true

pub returns-then-variables-gt-MOST_TEXT : goal.returns-then-variables-gt-MOST_TEXT
returns-then-variables-gt-MOST_TEXT c = long_variables c.if-value-lt-MOST_COERCED.false c.if-document-gt-MOST_TEXT.false c.if-variables-gt-MOST_TEXT.true

pub returns-then-table-gt-MOST_TABLE : goal.returns-then-table-gt-MOST_TABLE
returns-then-table-gt-MOST_TABLE c = long_table c.if-value-lt-MOST_COERCED.false c.if-document-gt-MOST_TEXT.false c.if-variables-gt-MOST_TEXT.false c.if-table-gt-MOST_TABLE.true
