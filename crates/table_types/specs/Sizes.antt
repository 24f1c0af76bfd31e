-- Tables whose references and members are within their sizes.
-- States: 01, "Sizes and refusals": "64 members ..., 7 wrappers (`[` or `!`) per type reference".
-- Assumes nothing.
use Rattle.std.specs.Prelude.{◌≡◌, Bool, true, ◌&&◌, length, leb}
use Rattle.paper.specs.Numbers.{most_wrappers}
use Rattle.paper_table.specs.TableNumbers.{most_members}
use Rattle.paper_table.specs.Lists.{all_of}
use Rattle.paper_table.specs.Types.{Argument, Member, Definition, Table}
use Rattle.paper_table.proofs.ReferenceSizes.{wrappers as wrapperCount}

-- at most seven wrappers
abbrev pub slim_argument : Argument → Bool
slim_argument x = leb (wrapperCount x.type) most_wrappers

abbrev pub slim_member : Member → Bool
slim_member e = leb (wrapperCount e.type) most_wrappers && all_of slim_argument e.arguments

abbrev pub slim_definition : Definition → Bool
slim_definition d = all_of slim_member d.members

abbrev pub Slim : Table → Type 0
Slim t = all_of slim_definition t ≡ true

-- at most 64 members
abbrev pub few_members : Definition → Bool
few_members d = leb (length d.members) most_members
