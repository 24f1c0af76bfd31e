-- How a worked example is computed: tables written as house fields, and what is told of them.
use mathlib.Core.Bool.{Bool, true, ◌&&◌}
use mathlib.Core.List.{List, [], ◌∷◌, ◌++◌}
use Prim.Native.Nat.{ℕ, zero, suc, ◌/◌, ◌%◌}
use Prim.Native.String.{String}
use lib.ListN.{length}
use Rattle.paper.specs.Tokens.{same}
use Rattle.paper_table.specs.TableNumbers.{no_place, tag_scalar, tag_object, tag_interface, tag_union, tag_enum, tag_input_object, tag_directive, tag_roots, tag_name, tag_implements, tag_field, tag_argument, tag_reference, tag_union_member, tag_enum_value, tag_query_root, tag_mutation_root, tag_subscription_root}
use Rattle.paper_table.specs.Lists.{bytes}
use Rattle.paper_table.specs.Judging.{judge, table_number, table_shown}
use Rattle.paper_table.specs.declared.TableAnswer.{TableAnswer}

-- the house field of a tag and a content
abbrev pub h : ℕ → List ℕ → List ℕ
h tag s = tag ∷ length s / 256 ∷ length s % 256 ∷ s

-- the same n times
abbrev pub times : ℕ → List ℕ → List ℕ
times zero s = []
times (suc n) s = s ++ times n s

abbrev named : ℕ → String → List ℕ → List ℕ
named tag n s = h tag (h tag_name (bytes n) ++ s)

-- records
abbrev pub scalar : String → List ℕ
scalar n = named tag_scalar n []

abbrev pub object : String → List ℕ → List ℕ
object n s = named tag_object n s

abbrev pub interface : String → List ℕ → List ℕ
interface n s = named tag_interface n s

abbrev pub union : String → List ℕ → List ℕ
union n s = named tag_union n s

abbrev pub enum : String → List ℕ → List ℕ
enum n s = named tag_enum n s

abbrev pub input : String → List ℕ → List ℕ
input n s = named tag_input_object n s

abbrev pub directive : String → List ℕ → List ℕ
directive n s = named tag_directive n s

abbrev pub roots : List ℕ → List ℕ
roots s = h tag_roots s

-- what stands inside
abbrev pub implements : String → List ℕ
implements n = h tag_implements (bytes n)

abbrev pub field : String → String → List ℕ → List ℕ
field n t s = named tag_field n (h tag_reference (bytes t) ++ s)

abbrev pub argument : String → String → List ℕ
argument n t = named tag_argument n (h tag_reference (bytes t))

abbrev pub member : String → List ℕ
member n = h tag_union_member (bytes n)

abbrev pub value : String → List ℕ
value n = h tag_enum_value (bytes n)

abbrev pub query : String → List ℕ
query n = h tag_query_root (bytes n)

abbrev pub mutation : String → List ℕ
mutation n = h tag_mutation_root (bytes n)

abbrev pub subscription : String → List ℕ
subscription n = h tag_subscription_root (bytes n)

-- none
abbrev pub N : ℕ
N = no_place

-- the number of an answer, then what it shows
abbrev pub told : TableAnswer → List ℕ
told a = table_number a ∷ table_shown a

-- a table and what is to be told of it
abbrev pub Case : Type 0
Case = List ℕ × List ℕ

-- each is told so
abbrev pub agreed : List Case → Bool
agreed [] = true
agreed (c ∷ cs) = same (told (judge c.0)) c.1 && agreed cs
