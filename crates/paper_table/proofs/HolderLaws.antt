-- One field more of a holder, a record or a table: what its loop adds to the first wrong offset, and to the first over a size.
use mathlib.Core.Path.{◌≡◌, refl}
use mathlib.Core.Bool.{Bool, true, false, not, ◌&&◌, ◌||◌, cond}
use mathlib.Core.Option.{Option, none, some}
use mathlib.Core.List.{List, [], ◌∷◌, map, head?}
use Prim.Native.Nat.{ℕ}
use lib.Dec.{eqb}
use Rattle.paper_table.specs.TableNumbers.{tag_roots}
use Rattle.paper_table.specs.Lists.{any_of}
use Rattle.paper_table.specs.House.{HouseField, house_field, cut, Slot, in_place, open_after, tag_is, Offsets, in_order, or_lacking, wrongs, most_deep, record_in_place, table_wrongs}
use Rattle.paper_table.specs.TableSizes.{Room, is_over, less_room, overs_in}
use Rattle.paper_table.proofs.ListsLaws.{head_left}

-- Of a holder: in place and right, on with the slots that stay open
pub order_on : (inner : Offsets) (ss : List Slot) (i k : ℕ) (s : List ℕ) (ps : List HouseField) → in_place k ss ≡ true → inner i k s ≡ []
    → in_order inner ss (house_field i k s ∷ ps) ≡ in_order inner (open_after k ss) ps
unfolding in_order
order_on inner ss i k s ps q e = rw (q, e)

-- in place and wrong inside: that offset
pub order_inside : (inner : Offsets) (ss : List Slot) (i k : ℕ) (s : List ℕ) (ps : List HouseField) (w : ℕ) → in_place k ss ≡ true → head? (inner i k s) ≡ some w
    → head? (in_order inner ss (house_field i k s ∷ ps)) ≡ some w
unfolding in_order
order_inside inner ss i k s ps w q e = rw q (head_left (inner i k s) _ w e)

-- out of place, or no whole field: its own offset
pub order_out : (inner : Offsets) (ss : List Slot) (i k : ℕ) (s : List ℕ) (ps : List HouseField) → in_place k ss ≡ false
    → head? (in_order inner ss (house_field i k s ∷ ps)) ≡ some i
unfolding in_order
order_out inner ss i k s ps q = rw q

pub order_cut : (inner : Offsets) (ss : List Slot) (i : ℕ) (ps : List HouseField) → head? (in_order inner ss (cut i ∷ ps)) ≡ some i
unfolding in_order
order_cut inner ss i ps = refl

pub order_end : (inner : Offsets) (ss : List Slot) → in_order inner ss [] ≡ []
unfolding in_order
order_end inner ss = refl

-- what a holder lacks is told where nothing else is
pub lacking_first : (at : ℕ) (b : Bool) (ws : List ℕ) (w : ℕ) → head? ws ≡ some w → head? (or_lacking at b ws) ≡ some w
lacking_first at b [] w q = let z : ◌≡◌ {A = Option ℕ} none (some w) = q in cc
lacking_first at b (v ∷ ws) w q = q

pub lacking_end : (at : ℕ) (b : Bool) → head? (or_lacking at b []) ≡ cond b (some at) none
lacking_end at true = refl
lacking_end at false = refl

-- a tag is seen here or further on
pub seen_on : (n i k : ℕ) (s : List ℕ) (ps : List HouseField) → any_of (tag_is n) (house_field i k s ∷ ps) ≡ (eqb k n || any_of (tag_is n) ps)
unfolding any_of
seen_on n i k s ps = refl

pub seen_end : (n : ℕ) → any_of (tag_is n) [] ≡ false
unfolding any_of
seen_end n = refl

-- Of a table: the same of a record
pub table_on : (roots : Bool) (i k : ℕ) (s : List ℕ) (ps : List HouseField) → record_in_place roots k ≡ true → wrongs most_deep i k s ≡ []
    → table_wrongs roots (house_field i k s ∷ ps) ≡ table_wrongs (roots && not (eqb k tag_roots)) ps
unfolding table_wrongs
table_on roots i k s ps q e = rw (q, e)

pub table_inside : (roots : Bool) (i k : ℕ) (s : List ℕ) (ps : List HouseField) (w : ℕ) → record_in_place roots k ≡ true → head? (wrongs most_deep i k s) ≡ some w
    → head? (table_wrongs roots (house_field i k s ∷ ps)) ≡ some w
unfolding table_wrongs
table_inside roots i k s ps w q e = rw q (head_left (wrongs most_deep i k s) _ w e)

pub table_out : (roots : Bool) (i k : ℕ) (s : List ℕ) (ps : List HouseField) → record_in_place roots k ≡ false → head? (table_wrongs roots (house_field i k s ∷ ps)) ≡ some i
unfolding table_wrongs
table_out roots i k s ps q = rw q

pub table_cut : (roots : Bool) (i : ℕ) (ps : List HouseField) → head? (table_wrongs roots (cut i ∷ ps)) ≡ some i
unfolding table_wrongs
table_cut roots i ps = refl

pub table_end : (roots : Bool) → table_wrongs roots [] ≡ []
unfolding table_wrongs
table_end roots = refl

-- Of the counts: a field with room left, and nothing over in it; the field itself; what is over in it
pub over_on : (inner : Offsets) (rooms : List Room) (i k : ℕ) (s : List ℕ) (ps : List HouseField) → any_of (is_over k) rooms ≡ false → inner i k s ≡ []
    → overs_in inner rooms (house_field i k s ∷ ps) ≡ overs_in inner (map (less_room k) rooms) ps
unfolding overs_in
over_on inner rooms i k s ps q e = rw (q, e)

pub over_here : (inner : Offsets) (rooms : List Room) (i k : ℕ) (s : List ℕ) (ps : List HouseField) → any_of (is_over k) rooms ≡ true → head? (overs_in inner rooms (house_field i k s ∷ ps)) ≡ some i
unfolding overs_in
over_here inner rooms i k s ps q = rw q

pub over_inside : (inner : Offsets) (rooms : List Room) (i k : ℕ) (s : List ℕ) (ps : List HouseField) (w : ℕ) → any_of (is_over k) rooms ≡ false → head? (inner i k s) ≡ some w
    → head? (overs_in inner rooms (house_field i k s ∷ ps)) ≡ some w
unfolding overs_in
over_inside inner rooms i k s ps w q e = rw q (head_left (inner i k s) _ w e)

pub over_end : (inner : Offsets) (rooms : List Room) → overs_in inner rooms [] ≡ []
unfolding overs_in
over_end inner rooms = refl
