-- 4. Member or argument repeats an earlier name beside it. (Not of record 8: one type may be two roots.)
use Rattle.std.specs.Prelude.{Bool, cond, [], ℕ}
use Rattle.paper_table.specs.Lists.{earlier}
use Rattle.paper_table.specs.Types.{Argument, Member, Definition, is_roots, member_named, argument_named}
use Rattle.paper_table.specs.Places.{Rule, members_or_arguments_that}

abbrev pub member_repeats : Definition → ℕ → Member → Bool
member_repeats d m e = earlier (member_named e.name) m d.members

abbrev pub argument_repeats : Member → ℕ → Argument → Bool
argument_repeats e a x = earlier (argument_named x.name) a e.arguments

unfoldable pub name_repeated : Rule
name_repeated t i d = cond (is_roots d) [] (members_or_arguments_that (member_repeats d) argument_repeats d)
