-- Members in a record, arguments in a field.
use native.Mathlib.Omega.{arith}
use borrow.Author.Tests.{le-leb, lt-leb}
use Rattle.table_rooms.proofs.rest_room.Goals as goal

pub returns-then-holder-le-TAG_ROOTS : goal.returns-then-holder-le-TAG_ROOTS
returns-then-holder-le-TAG_ROOTS c = rw (le-leb c.args.holder 8 (omega arith))

pub returns : goal.returns
returns c = rw (lt-leb c.args.holder 8 (omega arith))
