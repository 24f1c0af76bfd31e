-- One is there if and only if one is found.
use mathlib.Core.Path.{◌≡◌, sym, ap, ◌∙◌}
use mathlib.Core.List.{List}
use Prim.Native.Nat.{ℕ}
use Rattle.std.specs.Prelude.{Option, Some, None}
use Rattle.std.specs.Option.{is_some}
use Rattle.paper_table.specs.Lists.{any_of}
use Rattle.table_fields.specs.declared.Field.{Field}
use Rattle.paper_table.specs.Types.{member_named}
use Rattle.paper_table.specs.References.{found}
use Rattle.table_book.specs.Book.{part}
use Rattle.table_members.specs.Members.{members_in, FindMember}
use Rattle.table_types.proofs.Objects.{any_found}
use Rattle.table_types.proofs.has_member.Goals as goal

by_what : (t : List ℕ) (start end : ℕ) (n : List ℕ) (r : Option Field) → FindMember t start end n r → is_some r ≡ any_of (member_named n) (members_in t start end)
by_what t start end n None e = sym (any_found (member_named n) (members_in t start end) ∙ ap found e)
by_what t start end n (Some f) e = sym (any_found (member_named n) (members_in t start end) ∙ ap found e.is)

pub returns : goal.returns
returns c = let a = c.args in c.is_some.ensures ∙ by_what a.t.now a.start a.end (part a.s.now a.at a.n) c.find_member.result c.find_member.ensures
