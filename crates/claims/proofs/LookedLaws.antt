-- What stands in a content of a table, as the members of a definition and the arguments of a field.
use mathlib.Core.Path.{◌≡◌, refl, sym, ap}
use mathlib.Core.List.{List}
use Prim.Native.Nat.{ℕ, ◌<◌}
use Rattle.paper_table.specs.TableNumbers.{tag_field}
use Rattle.paper_table.specs.Types.{Member, Definition}
use Rattle.table_book.specs.Book.{count_in}
use Rattle.table_members.specs.Members.{members_in, arguments_in, member_from}
use Rattle.table_members.proofs.MemberLaws.{field_is}
use Rattle.table_types.specs.Booked.{Booked, start_in, end_in, definition_on}

pub definition_members : (t book : List ℕ) → Booked t book → (i : ℕ) → i < count_in book → members_in t (start_in book i) (end_in book i) ≡ (definition_on t i).members
definition_members t book b i h = sym (ap (λ (d : Definition). d.members) (b.entered i h).is)

pub field_arguments : (t : List ℕ) (start stop : ℕ) → arguments_in t start stop ≡ (member_from t tag_field start stop).arguments
field_arguments t start stop = sym (ap (λ (m : Member). m.arguments) (field_is t tag_field start stop refl))
