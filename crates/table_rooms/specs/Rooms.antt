-- The code's answers on rooms.
-- Assumes nothing.
use Rattle.std.specs.Prelude.{Bool, ◌&&◌, Result, Ok, Err, cond, List, [], ◌∷◌, ℕ, leb, eqb}
use Prim.{Unit, tt}
use Rattle.std.proofs.Math.Option.{Option, none, some}
use Rattle.paper_table.specs.TableNumbers.{most_members, most_arguments, tag_roots, tag_implements, tag_field, tag_argument, tag_subscription_root}
use Rattle.paper_table.specs.TableSizes.{Room, room, is_wrapper}

-- the first offset over a size, if there is one
abbrev pub told_over : Option ℕ → Result (Unit {0}) ℕ
told_over none = Ok tt
told_over (some at) = Err at

-- the wrappers that a byte is
abbrev pub wraps_by : ℕ → ℕ
wraps_by b = cond (is_wrapper b) 1 0

-- a tag from one to another
abbrev pub between : ℕ → ℕ → ℕ → Bool
between from to k = leb from k && leb k to

-- which of a holder's counts a field of the tag k is of: 1 implemented names, 2 members or arguments, 0 none
abbrev pub room_for : ℕ → ℕ → ℕ
room_for holder k =
    cond (leb holder tag_roots)
    (cond (between tag_implements tag_implements k) 1 (cond (between tag_field tag_subscription_root k) 2 0))
    (cond (eqb holder tag_field) (cond (between tag_argument tag_argument k) 2 0) 0)

-- the room for these at first
abbrev pub rest_room : ℕ → ℕ
rest_room holder = cond (leb holder tag_roots) most_members most_arguments

-- a holder's rooms, so many left
abbrev pub rooms_of : ℕ → ℕ → ℕ → List Room
rooms_of holder names rest =
    cond (leb holder tag_roots) (room tag_implements tag_implements names ∷ room tag_field tag_subscription_root rest ∷ [])
    (cond (eqb holder tag_field) (room tag_argument tag_argument rest ∷ []) [])
