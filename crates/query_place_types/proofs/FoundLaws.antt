-- The type of an argument or input field that a search of the entries finds.
use mathlib.Core.Path.{◌≡◌, subst}
use mathlib.Core.Bool.{Bool, true}
use mathlib.Core.Option.{some}
use mathlib.Core.List.{List, []}
use Prim.Native.Nat.{ℕ, ◌≤◌, ◌<◌}
use Rattle.paper.proofs.Bools.{and_left}
use Rattle.paper_table.specs.Lists.{all_of, find}
use Rattle.paper_table.specs.References.{named}
use Rattle.paper_table.specs.Types.{Argument, Member, name_only, tag_nothing, member_named, argument_named}
use Rattle.paper_table.proofs.ListsLaws.{find_some}
use Rattle.table_types.specs.Sizes.{slim_member}
use Rattle.table_types.proofs.Fitting.{all_at}
use Rattle.table_entries.proofs.Runs.{roomy_less}
use Rattle.table_entries.specs.Entries.{room_entries, Hit, HitArgument}
use Rattle.query_place_types.specs.Shapes.{place_unknown, SomeEntry, Keeps, EntryPlace, slim, slim_argument, argument_shape, member_shape}
use Rattle.query_place_types.specs.declared.Place.{Place}
use Rattle.query_place_types.proofs.ShapeLaws.{keeps_unknown}

-- what all pass, the one found passes
pub find_passes : {A : Type 0} (p q : A → Bool) (d : A) (xs : List A) (x : A) → all_of q xs ≡ true → find p xs ≡ some x → q x ≡ true
find_passes p q d xs x e f =
    let z = find_some p xs x d f in
    subst (λ y. q y ≡ true) z.2 (all_at q d xs e z.0 z.1)

-- an argument of no name, for a number that is not there
abbrev no_argument : Argument
no_argument = record { name = []; type = named [] }

module _ (t book es n : List ℕ) where
  -- an argument
  module _ (xs : List Argument) (e : ℕ) (h : HitArgument t book es room_entries n xs e) where
    pub argument_stands : e < room_entries → SomeEntry es e
    argument_stands l =
        let g = h.found l in
        (t, record { book = book; stands = record { most = g.3; name = g.0.name; type = g.0.type; is = g.2 } })

    module _ (r : Place) where
      pub argument_none : room_entries ≤ e → r.at ≡ place_unknown → Keeps t book es (argument_shape (find (argument_named n) xs)) r
      argument_none l z = rw (h.none_is l) (keeps_unknown t book es r z)

      pub argument_kept : all_of slim_argument xs ≡ true → e < room_entries → EntryPlace es e r → Keeps t book es (argument_shape (find (argument_named n) xs)) r
      argument_kept a l k =
          let g = h.found l in
          rw g.1 (k t book g.0.name g.0.type g.2 (find_passes (argument_named n) slim_argument no_argument xs g.0 a g.1))

  -- an input field
  module _ (xs : List Member) (e : ℕ) (h : Hit t book es room_entries n xs e) where
    pub input_stands : e < room_entries → SomeEntry es e
    input_stands l =
        let g = h.found l in
        (t, record { book = book; stands = record { most = roomy_less g.5 g.3; name = g.0.name; type = g.0.type; is = g.2.entry } })

    module _ (r : Place) where
      pub input_none : room_entries ≤ e → r.at ≡ place_unknown → Keeps t book es (member_shape (find (member_named n) xs)) r
      input_none l z = rw (h.none_is l) (keeps_unknown t book es r z)

      pub input_kept : all_of slim_member xs ≡ true → e < room_entries → EntryPlace es e r → Keeps t book es (member_shape (find (member_named n) xs)) r
      input_kept a l k =
          let g = h.found l in
          rw g.1 (k t book g.0.name g.0.type g.2.entry (and_left (slim g.0.type) (all_of slim_argument g.0.arguments) (find_passes (member_named n) slim_member (name_only tag_nothing []) xs g.0 a g.1)))
