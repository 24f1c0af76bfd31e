-- In a table with right framing the members of objects and interfaces are fields.
use mathlib.Core.Path.{◌≡◌, refl}
use mathlib.Core.Bool.{Bool, true}
use mathlib.Core.Option.{none}
use mathlib.Core.List.{List}
use Prim.Native.Nat.{ℕ}
use borrow.Author.Tests.{eq-eqb}
use Rattle.paper_table.specs.TableNumbers.{tag_field}
use Rattle.paper_table.specs.Lists.{all_of}
use Rattle.paper_table.specs.House.{framing_offset}
use Rattle.paper_table.specs.Types.{Definition, table_of}
use Rattle.paper_table.specs.Rule7NoType.{is_field}
use Rattle.paper_table.proofs.Every.{Every, no_more, one_more}
use Rattle.paper_table.proofs.FramedLaws.{RightDefinition, a_scalar, an_object, an_interface, a_union, an_enum, an_input_object, a_directive, the_roots}
use Rattle.paper_table.proofs.FramedTable.{framing_right}
use Rattle.query_fields.specs.Kept.{fields_only, Fielded}

all_pass : {A : Type 0} {Q : A → Type 0} (p : A → Bool) → ((x : A) → Q x → p x ≡ true) → {xs : List A} → Every Q xs → all_of p xs ≡ true
unfolding all_of
all_pass p f no_more = refl
all_pass p f (one_more {x = x} q qs) = rw (f x q, all_pass p f qs)

fields_alone : (d : Definition) → RightDefinition d → fields_only d ≡ true
fields_alone d (a_scalar e a b c) = rw e
fields_alone d (an_object e a b c) = rw e (all_pass is_field (λ m q. eq-eqb m.tag tag_field q.0) c)
fields_alone d (an_interface e a b c) = rw e (all_pass is_field (λ m q. eq-eqb m.tag tag_field q.0) c)
fields_alone d (a_union e a b c) = rw e
fields_alone d (an_enum e a b c) = rw e
fields_alone d (an_input_object e a b c) = rw e
fields_alone d (a_directive e a b c) = rw e
fields_alone d (the_roots e a b c) = rw e

pub fielded : (t : List ℕ) → framing_offset t ≡ none → Fielded (table_of t)
fielded t e = all_pass fields_only fields_alone (framing_right t e)
