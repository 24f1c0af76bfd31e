-- The first member, if any.
use mathlib.Core.Path.{◌≡◌, sym, ap, ◌∙◌}
use mathlib.Core.Bool.{Bool, true, false, not, false≢true}
use Prim.Native.Nat.{ℕ}
use Rattle.std.specs.Prelude.{Option, Some, None}
use Rattle.std.specs.Option.{is_some}
use Rattle.table_fields.specs.declared.Field.{Field}
use mathlib.Core.List.{List}
use native.Mathlib.Omega.{arith}
use lib.ListN.{length}
use lib.Dec.{eqb}
use Rattle.paper_table.specs.Types.{Member}
use Rattle.table_members.specs.Members.{members_in, NextMember}
use Rattle.table_types.proofs.Entries.{bounds_entered, members_entered}
use Rattle.table_rules_1_10_16.proofs.EntryLaws.{empty_true, empty_false}
use Rattle.table_rules_1_10_16.proofs.is_empty.Goals as goal

pub start_of-start-requires : goal.start_of-start-requires
start_of-start-requires c = (c.requires.0.indexed.held.cells, omega (arith, c.requires.0.indexed.held.most, c.requires.1))

pub end_of-end-requires : goal.end_of-end-requires
end_of-end-requires c = (c.requires.0.indexed.held.cells, omega (arith, c.requires.0.indexed.held.most, c.requires.1))

pub next_member-requires : goal.next_member-requires
next_member-requires c = bounds_entered c.args.t.now c.args.book.now c.requires.0 c.args.i c.requires.1 _ _ c.start_of-start.ensures c.end_of-end.ensures

by_what : (t : List ℕ) (at end : ℕ) (r : Option Field) (b : Bool) → not b ≡ is_some r → NextMember t at end r → b ≡ eqb (length (members_in t at end)) 0
by_what t at end None true q e = empty_true (members_in t at end) e
by_what t at end None false q e = absurd (false≢true (sym q))
by_what t at end (Some f) true q e = absurd (false≢true q)
by_what t at end (Some f) false q e = empty_false (members_in t at end) _ _ e.all_are

pub returns : goal.returns
returns c = by_what c.args.t.now c.start_of-start.result c.end_of-end.result c.next_member.result c.is_none.result (sym c.is_none.ensures) c.next_member.ensures ∙ ap (λ (ms : List Member). eqb (length ms) 0) (members_entered c.args.t.now c.args.book.now c.requires.0 c.args.i c.requires.1 _ _ c.start_of-start.ensures c.end_of-end.ensures)
