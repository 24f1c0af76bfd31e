-- The smallest wrong offset of a table, and the smallest over a size, are the first that a reader from front to back meets.
use mathlib.Core.Path.{◌≡◌, refl, ap, ◌∙◌}
use mathlib.Core.Bool.{Bool, true, false, not, ◌&&◌, cond}
use mathlib.Core.Option.{some}
use mathlib.Core.List.{List, [], ◌∷◌, ◌++◌, map, head?}
use Prim.Native.Nat.{ℕ, zero, suc, ◌+◌, ◌≤◌, pred}
use native.Mathlib.Omega.{arith}
use native.Mathlib.Nat.{le_refl, le_trans}
use lib.ListN.{length}
use lib.Dec.{eqb}
use borrow.Author.Tests.{le-leb}
use Rattle.paper.specs.Numbers.{most_wrappers}
use Rattle.paper_table.specs.TableNumbers.{tag_roots}
use Rattle.paper_table.specs.Lists.{any_of, only_if}
use Rattle.paper_table.specs.References.{is_name, is_reference}
use Rattle.paper_table.specs.House.{HouseField, house_fields, house_fields_in, Slot, Content, a_name, a_reference, no_tag, holds, content_of, in_place, open_behind, lacks_house_field, Offsets, in_order, or_lacking, by_content, wrongs, most_deep, record_in_place, table_wrongs, smaller, smallest, framing_offset}
use Rattle.paper_table.specs.TableSizes.{Room, is_over, less_room, room_in_table, room_in, overs_in, is_wrapper, wrappers_over, overs_by, overs, counts_offset}
use Rattle.paper_table.proofs.PiecesLaws.{Laid, nil, torn, next, pieces_laid}

up : (a n : ℕ) → a ≤ a + 3 + n
up a n = omega arith

grow : (a n : ℕ) → a ≤ a + n
grow a n = omega arith

-- offsets that do not fall, all of them from lo on and not past hi
data Rises : ℕ → List ℕ → ℕ → Type 0 where
  done : {lo hi : ℕ} → lo ≤ hi → Rises lo [] hi
  then : {lo w hi : ℕ} {ws : List ℕ} → lo ≤ w → Rises w ws hi → Rises lo (w ∷ ws) hi

rises_order : {lo hi : ℕ} {ws : List ℕ} → Rises lo ws hi → lo ≤ hi
rises_order (done h) = h
rises_order (then h r) = let k = rises_order r in omega arith

rises_lower : {lo hi : ℕ} {ws : List ℕ} (low : ℕ) → low ≤ lo → Rises lo ws hi → Rises low ws hi
rises_lower low h (done k) = done (le_trans h k)
rises_lower low h (then k r) = then (le_trans h k) r

rises_append : {lo mid hi : ℕ} {ws vs : List ℕ} → Rises lo ws mid → Rises mid vs hi → Rises lo (ws ++ vs) hi
rises_append (done h) r = rises_lower _ h r
rises_append (then h q) r = then h (rises_append q r)

rises_one : (b : Bool) (at hi : ℕ) → at ≤ hi → Rises at (only_if b at) hi
rises_one true at hi h = then (le_refl at) (done h)
rises_one false at hi h = done h

-- of offsets that do not fall the smallest is the first
rises_least : {lo hi : ℕ} {ws : List ℕ} → Rises lo ws hi → smallest ws ≡ head? ws
unfolding smallest
rises_least (done h) = refl
rises_least (then {w = w} h (done k)) = refl
rises_least (then {w = w} h (then {w = v} {ws = vs} k r)) =
    ap (smaller w) (rises_least (then k r)) ∙ ap (λ (b : Bool). some (cond b w v)) (le-leb w v k)

abbrev Rising : Offsets → Type 0
Rising inner = (at t : ℕ) (s : List ℕ) → Rises at (inner at t s) (at + 3 + length s)

order_rises : (inner : Offsets) → Rising inner → {lo hi : ℕ} {ps : List HouseField} → Laid lo ps hi → (ss : List Slot) → Rises lo (in_order inner ss ps) hi
unfolding in_order
order_rises inner f (nil h) ss = done h
order_rises inner f (torn {lo = lo} h) ss = then (le_refl lo) (done h)
order_rises inner f (next {lo = lo} {hi = hi} {t = t} {s = s} {ps = ps} r) ss = rises_append (go (in_place t ss)) (order_rises inner f r (open_behind t ss))
  where
    go : (b : Bool) → Rises lo (cond b (inner lo t s) (lo ∷ [])) (lo + 3 + length s)
    go true = f lo t s
    go false = then (le_refl lo) (done (up lo (length s)))

lacking_rises : (at from hi : ℕ) (b : Bool) (ws : List ℕ) → at ≤ from → Rises from ws hi → Rises at (or_lacking at b ws) hi
lacking_rises at from hi b [] h r = rises_one b at hi (let k = rises_order r in omega arith)
lacking_rises at from hi b (w ∷ ws) h r = rises_lower at h r

content_rises : (inner : Offsets) → Rising inner → (at : ℕ) (s : List ℕ) (c : Content) → Rises at (by_content inner at s c) (at + 3 + length s)
unfolding by_content
content_rises inner f at s a_name = rises_one (not (is_name s)) at _ (up at (length s))
content_rises inner f at s a_reference = rises_one (not (is_reference s)) at _ (up at (length s))
content_rises inner f at s no_tag = then (le_refl at) (done (up at (length s)))
content_rises inner f at s (holds ss) = lacking_rises at (at + 3) _ (lacks_house_field ss (house_fields_in at s)) _ (grow at 3) (order_rises inner f (pieces_laid (at + 3) s) ss)

wrongs_rise : (d : ℕ) → Rising (wrongs d)
unfolding wrongs
wrongs_rise zero at t s = then (le_refl at) (done (up at (length s)))
wrongs_rise (suc d) at t s = content_rises (wrongs d) (wrongs_rise d) at s (content_of t)

table_rises : {lo hi : ℕ} {ps : List HouseField} → Laid lo ps hi → (roots : Bool) → Rises lo (table_wrongs roots ps) hi
unfolding table_wrongs
table_rises (nil h) roots = done h
table_rises (torn {lo = lo} h) roots = then (le_refl lo) (done h)
table_rises (next {lo = lo} {t = t} {s = s} r) roots = rises_append (go (record_in_place roots t)) (table_rises r (roots && not (eqb t tag_roots)))
  where
    go : (b : Bool) → Rises lo (cond b (wrongs most_deep lo t s) (lo ∷ [])) (lo + 3 + length s)
    go true = wrongs_rise most_deep lo t s
    go false = then (le_refl lo) (done (up lo (length s)))

-- Refusal 7's offset is the first wrong one in reading order.
pub framing_first : (s : List ℕ) → framing_offset s ≡ head? (table_wrongs true (house_fields 0 s))
unfolding framing_offset
framing_first s = rises_least (table_rises (pieces_laid 0 s) true)

over_rises : (inner : Offsets) → Rising inner → {lo hi : ℕ} {ps : List HouseField} → Laid lo ps hi → (rooms : List Room) → Rises lo (overs_in inner rooms ps) hi
unfolding overs_in
over_rises inner f (nil h) rooms = done h
over_rises inner f (torn h) rooms = done h
over_rises inner f (next {lo = lo} {t = t} {s = s} r) rooms =
    rises_append (rises_one (any_of (is_over t) rooms) lo lo (le_refl lo)) (rises_append (f lo t s) (over_rises inner f r (map (less_room t) rooms)))

wrappers_rise : (n at : ℕ) (s : List ℕ) → Rises at (wrappers_over n at s) (at + length s)
unfolding wrappers_over
wrappers_rise n at [] = done (grow at 0)
wrappers_rise n at (b ∷ s) =
    let e : at + 1 + length s ≡ at + suc (length s) = omega arith in
    let w : Rises (at + 1) (wrappers_over (cond (is_wrapper b) (pred n) n) (at + 1) s) (at + suc (length s)) = rw (← e) (wrappers_rise (cond (is_wrapper b) (pred n) n) (at + 1) s) in
    rises_append (rises_one (is_wrapper b && eqb n 0) at (at + 1) (grow at 1)) w

overs_by_rise : (inner : Offsets) → Rising inner → (at t : ℕ) (s : List ℕ) (c : Content) → Rises at (overs_by inner at t s c) (at + 3 + length s)
unfolding overs_by
overs_by_rise inner f at t s a_name = done (up at (length s))
overs_by_rise inner f at t s a_reference = rises_lower at (grow at 3) (wrappers_rise most_wrappers (at + 3) s)
overs_by_rise inner f at t s no_tag = done (up at (length s))
overs_by_rise inner f at t s (holds ss) = rises_lower at (grow at 3) (over_rises inner f (pieces_laid (at + 3) s) (room_in t))

overs_rise : (d : ℕ) → Rising (overs d)
unfolding overs
overs_rise zero at t s = done (up at (length s))
overs_rise (suc d) at t s = overs_by_rise (overs d) (overs_rise d) at t s (content_of t)

-- Refusal 8's offset is the first over a size in reading order.
pub counts_first : (s : List ℕ) → counts_offset s ≡ head? (overs_in (overs most_deep) room_in_table (house_fields 0 s))
unfolding counts_offset
counts_first s = rises_least (over_rises (overs most_deep) (overs_rise most_deep) (pieces_laid 0 s) room_in_table)
