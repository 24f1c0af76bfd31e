-- The proof of the cycle of calls {value, variable, put_kept, single, bare, input, list, object, field}: the levels left fall, with 34 levels for each variable;
-- eight times that, since a value goes through several functions at one level. Assumes nothing.
use mathlib.Core.Path.{◌≡◌}
use mathlib.Core.Bool.{true}
use Prim.Native.Nat.{◌+◌, ◌-◌, ◌*◌, ◌≤◌}
use Rattle.paper_table.specs.Lists.{all_of}
use Rattle.paper_table.specs.References.{Ref}
use Rattle.paper_query.specs.Constructs.{parent_of}
use Rattle.query_rows.specs.Rowed.{doc_of}
use Rattle.paper_values.specs.Values.{Pairs}
use Rattle.paper_values.specs.Coercion.{value_in}
use Rattle.value_writing.specs.Writing.{Room}
use Rattle.value_kinds.specs.Dues.{DueIs}
use Rattle.value_entries.specs.Entered.{dues_by}
use Rattle.value_coerce.specs.Coercing.{slim_due}
use Rattle.value_held.specs.Holding.{Holds}
use Rattle.value_coerce.proofs.ListLaws.{Listed}
use Rattle.value_coerce.proofs.ObjectLaws.{Fielded}
use Prim.Native.Nat.{ℕ, ◌<◌}
use Rattle.value_coerce.proofs.+bare_field_input_list_object_put_kept_single_value_variable.Given as goal

abbrev pub decreases-bare : goal.decreases-bare
decreases-bare l = 8 * (l.k + 34 * l.many) + 2

abbrev pub decreases-field : goal.decreases-field
decreases-field l = 8 * (l.k + 34 * l.many) + 5

abbrev pub decreases-input : goal.decreases-input
decreases-input l = 8 * (l.k + 34 * l.many) + 1

abbrev pub decreases-list : goal.decreases-list
decreases-list l = 8 * (l.k + 34 * l.many) + 5

abbrev pub decreases-object : goal.decreases-object
decreases-object l = 8 * (l.k + 34 * l.many) + 6

abbrev pub decreases-put_kept : goal.decreases-put_kept
decreases-put_kept l = 8 * 33 + 5

abbrev pub decreases-single : goal.decreases-single
decreases-single l = 8 * (l.k + 34 * l.many) + 3

abbrev pub decreases-value : goal.decreases-value
decreases-value l = 8 * (l.k + 34 * l.many) + 4

abbrev pub decreases-variable : goal.decreases-variable
decreases-variable l = 8 * (34 * l.many)

abbrev pub invariant-list-loop-c : goal.invariant-list-loop-c
invariant-list-loop-c l = Room l.limit l.at l.out × (l.c < l.n → parent_of (doc_of l.s l.rows l.n) l.c ≡ l.h) × ((text : ℕ) (r : Ref) (ps : Pairs) → DueIs l.t l.book r l.due.sort l.due.number l.due.wrappers → Holds l.t l.book l.s l.rows l.n l.s1 l.rows1 l.n1 l.held 0 l.many ps → Listed l.t (value_in ps) text (doc_of l.s l.rows l.n) l.n l.k l.h r l.limit l.from l.initial.out l.out l.at l.c)

abbrev pub decreases-list-loop-c : goal.decreases-list-loop-c
decreases-list-loop-c l = l.n - l.c

abbrev pub invariant-object-loop-f : goal.invariant-object-loop-f
invariant-object-loop-f l = Room l.limit l.at l.out × (l.p ≤ l.end) × (all_of slim_due (dues_by l.kind l.t l.p l.end) ≡ true) × ((text : ℕ) (ps : Pairs) → Holds l.t l.book l.s l.rows l.n l.s1 l.rows1 l.n1 l.held 0 l.many ps → Fielded l.t (value_in ps) text (doc_of l.s l.rows l.n) l.n l.k l.kind l.h (λ x. dues_by l.kind l.t x l.end) l.start l.limit l.from l.initial.out l.out l.at l.p)

abbrev pub decreases-object-loop-f : goal.decreases-object-loop-f
decreases-object-loop-f l = l.end - l.p
