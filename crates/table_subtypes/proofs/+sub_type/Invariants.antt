-- Each way out is a law of the test; the wrappers of the first reference fall.
use Rattle.table_subtypes.proofs.+sub_type.Given as goal

abbrev pub decreases-sub_type : goal.decreases-sub_type
decreases-sub_type l = l.o
