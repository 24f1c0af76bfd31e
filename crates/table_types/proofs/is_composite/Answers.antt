-- Between the two tags.
use borrow.Author.Tests.{le-leb, lt-leb}
use Rattle.paper_table.specs.TableNumbers.{tag_object}
use Rattle.table_types.proofs.is_composite.Goals as goal

pub returns-then-tag-lt-RECORD_OBJECT : goal.returns-then-tag-lt-RECORD_OBJECT
returns-then-tag-lt-RECORD_OBJECT c = rw (lt-leb tag_object c.args.tag c.if-tag-lt-RECORD_OBJECT.true)

pub returns : goal.returns
returns c = rw (le-leb tag_object c.args.tag c.if-tag-lt-RECORD_OBJECT.false)
