-- No fragment, or marked by the search from it.
use mathlib.Core.Path.{◌≡◌, sym, ◌∙◌}
use Prim.Native.Nat.{◌<◌}
use native.Mathlib.Omega.{arith}
use Rattle.paper.specs.Numbers.{most_rows, kind_fragment}
use Rattle.paper_query.specs.Constructs.{count, kind_of}
use Rattle.query_rows.specs.Rowed.{doc_of}
use Rattle.query_rows.proofs.Rooms.{room_enough}
use Rattle.query_spreads.proofs.OwnerLaws.{definition_within, fragment_defines}
use Rattle.query_reach.proofs.MarkLaws.{circle_not, circle_decides, stamped_up}
use Rattle.query_reach.proofs.circles.Goals as goal

pub returns-then-kind_of-ne-KIND_FRAGMENT : goal.returns-then-kind_of-ne-KIND_FRAGMENT
returns-then-kind_of-ne-KIND_FRAGMENT c = (circle_not _ _ (λ e. c.if-kind_of-ne-KIND_FRAGMENT.true (c.kind_of.ensures ∙ e)), stamped_up c.requires.2 (omega arith))

pub reach-requires : goal.reach-requires
reach-requires c =
    let kind : kind_of (doc_of c.args.s.now c.args.rows.now c.args.n) c.args.i ≡ kind_fragment = sym c.kind_of.ensures ∙ c.if-kind_of-ne-KIND_FRAGMENT.false in
    (c.requires.1, fragment_defines (doc_of c.args.s.now c.args.rows.now c.args.n) c.args.i kind, c.requires.2, c.requires.3)

pub offset_bounds-mark-i : goal.offset_bounds-mark-i
offset_bounds-mark-i c =
    let kind : kind_of (doc_of c.args.s.now c.args.rows.now c.args.n) c.args.i ≡ kind_fragment = sym c.kind_of.ensures ∙ c.if-kind_of-ne-KIND_FRAGMENT.false in
    let there : c.args.i < count (doc_of c.args.s.now c.args.rows.now c.args.n) = let a = c.args in
    let d = doc_of a.s.now a.rows.now a.n in
    definition_within d a.i (fragment_defines d a.i kind) in
    let below : c.args.i < most_rows = omega (arith, there, c.requires.1.few) in
    omega (arith, below)

pub bounds-mark-i : goal.bounds-mark-i
bounds-mark-i c =
    let kind : kind_of (doc_of c.args.s.now c.args.rows.now c.args.n) c.args.i ≡ kind_fragment = sym c.kind_of.ensures ∙ c.if-kind_of-ne-KIND_FRAGMENT.false in
    let there : c.args.i < count (doc_of c.args.s.now c.args.rows.now c.args.n) = let a = c.args in
    let d = doc_of a.s.now a.rows.now a.n in
    definition_within d a.i (fragment_defines d a.i kind) in
    omega (arith, there, c.reach.ensures.stamped.size, room_enough _ c.requires.1.few)

pub overflow_cast-result : goal.overflow_cast-result
overflow_cast-result c =
    let kind : kind_of (doc_of c.args.s.now c.args.rows.now c.args.n) c.args.i ≡ kind_fragment = sym c.kind_of.ensures ∙ c.if-kind_of-ne-KIND_FRAGMENT.false in
    let there : c.args.i < count (doc_of c.args.s.now c.args.rows.now c.args.n) = let a = c.args in
    let d = doc_of a.s.now a.rows.now a.n in
    definition_within d a.i (fragment_defines d a.i kind) in
    let below : c.args.i < most_rows = omega (arith, there, c.requires.1.few) in
    omega (arith, below)

pub overflow_add-result : goal.overflow_add-result
overflow_add-result c =
    let kind : kind_of (doc_of c.args.s.now c.args.rows.now c.args.n) c.args.i ≡ kind_fragment = sym c.kind_of.ensures ∙ c.if-kind_of-ne-KIND_FRAGMENT.false in
    let there : c.args.i < count (doc_of c.args.s.now c.args.rows.now c.args.n) = let a = c.args in
    let d = doc_of a.s.now a.rows.now a.n in
    definition_within d a.i (fragment_defines d a.i kind) in
    let below : c.args.i < most_rows = omega (arith, there, c.requires.1.few) in
    omega (arith, below)

pub returns : goal.returns
returns c =
    let kind : kind_of (doc_of c.args.s.now c.args.rows.now c.args.n) c.args.i ≡ kind_fragment = sym c.kind_of.ensures ∙ c.if-kind_of-ne-KIND_FRAGMENT.false in
    (circle_decides _ _ _ kind c.reach.ensures, c.reach.ensures.stamped)
