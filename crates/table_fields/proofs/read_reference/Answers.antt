-- Brackets, a name, then wrapper by wrapper: a reference has been read, and the rest of the text decides.
use Rattle.table_fields.proofs.BoundsLaws.{later}
use mathlib.Core.Path.{sym, ◌∙◌}
use Prim.Native.Nat.{◌≤◌, ◌<◌}
use native.Mathlib.Omega.{arith}
use lib.ListN.{get_or}
use Rattle.text_characters.proofs.ByteLaws.{letter_byte}
use Rattle.table_fields.proofs.RefLaws.{ref_none, ref_no, brackets_within, wrapped_start, wrapped_small, wrapped_whole, wrapped_short, wrapped_bad, wrapped_most, wrapped_on}
use Rattle.table_fields.proofs.read_reference.Goals as goal

pub brackets_end-from-requires : goal.brackets_end-from-requires
brackets_end-from-requires c = c.requires

pub returns-then-from-end : goal.returns-then-from-end
returns-then-from-end c = ref_none c.args.t.now c.args.start c.args.end c.brackets_end-from.result c.requires.order c.requires.within c.brackets_end-from.ensures (omega (arith, c.if-from-end.true))

pub bounds-t-from : goal.bounds-t-from
bounds-t-from c =
    let inside : (c.args.start ≤ c.brackets_end-from.result) × (c.brackets_end-from.result ≤ c.args.end) = brackets_within c.args.t.now c.args.start c.args.end c.brackets_end-from.result c.requires.order c.requires.within c.brackets_end-from.ensures in
    let room : c.brackets_end-from.result < c.args.end = let h = inside in omega (arith, h.1, c.if-from-end.false) in
    let h = room in omega (arith, h, c.requires.within)

pub returns-then-not-starts_name : goal.returns-then-not-starts_name
returns-then-not-starts_name c =
    let inside : (c.args.start ≤ c.brackets_end-from.result) × (c.brackets_end-from.result ≤ c.args.end) = brackets_within c.args.t.now c.args.start c.args.end c.brackets_end-from.result c.requires.order c.requires.within c.brackets_end-from.ensures in
    let room : c.brackets_end-from.result < c.args.end = let h = inside in omega (arith, h.1, c.if-from-end.false) in
    ref_no c.args.t.now c.args.start c.args.end c.brackets_end-from.result c.requires.order c.requires.within c.brackets_end-from.ensures room (sym (c.starts_name.ensures ∙ letter_byte (get_or c.args.t.now c.brackets_end-from.result 0)) ∙ c.if-not-starts_name.true)

pub name_end-to-requires : goal.name_end-to-requires
name_end-to-requires c =
    let inside : (c.args.start ≤ c.brackets_end-from.result) × (c.brackets_end-from.result ≤ c.args.end) = brackets_within c.args.t.now c.args.start c.args.end c.brackets_end-from.result c.requires.order c.requires.within c.brackets_end-from.ensures in
    let room : c.brackets_end-from.result < c.args.end = let h = inside in omega (arith, h.1, c.if-from-end.false) in
    let h = room in later c.requires (omega (arith, h))

pub overflow_sub-lists : goal.overflow_sub-lists
overflow_sub-lists c =
    let inside : (c.args.start ≤ c.brackets_end-from.result) × (c.brackets_end-from.result ≤ c.args.end) = brackets_within c.args.t.now c.args.start c.args.end c.brackets_end-from.result c.requires.order c.requires.within c.brackets_end-from.ensures in
    let h = inside in omega (arith, h.0)

pub loop-i-init : goal.loop-i-init
loop-i-init c =
    let inside : (c.args.start ≤ c.brackets_end-from.result) × (c.brackets_end-from.result ≤ c.args.end) = brackets_within c.args.t.now c.args.start c.args.end c.brackets_end-from.result c.requires.order c.requires.within c.brackets_end-from.ensures in
    let room : c.brackets_end-from.result < c.args.end = let h = inside in omega (arith, h.1, c.if-from-end.false) in
    wrapped_start c.args.t.now c.args.start c.args.end c.brackets_end-from.result c.name_end-to.result c.requires.order c.requires.within c.brackets_end-from.ensures room (sym (c.starts_name.ensures ∙ letter_byte (get_or c.args.t.now c.brackets_end-from.result 0)) ∙ c.if-not-starts_name.false) c.name_end-to.ensures

pub bounds-t-i : goal.bounds-t-i
bounds-t-i c = omega (arith, c.loop-i-test.true, c.requires.within)

pub returns-then-w-eq0 : goal.returns-then-w-eq0
returns-then-w-eq0 c = wrapped_bad c.args.t.now c.args.start c.args.end _ _ _ _ c.loop-i.i c.requires.within c.loop-i.invariant c.loop-i-test.true _ c.wrapper-w.ensures c.if-w-eq0.true

pub overflow_mul-wrappers : goal.overflow_mul-wrappers
overflow_mul-wrappers c = let h = wrapped_small c.args.t.now c.args.start c.args.end _ _ _ _ c.loop-i.i c.requires.within c.loop-i.invariant in omega (arith, h)

pub overflow_add-wrappers : goal.overflow_add-wrappers
overflow_add-wrappers c = let h = wrapped_small c.args.t.now c.args.start c.args.end _ _ _ _ c.loop-i.i c.requires.within c.loop-i.invariant in let m = (wrapped_most c.args.t.now c.args.start c.args.end _ _ _ _ c.loop-i.i c.requires.within c.loop-i.invariant c.loop-i-test.true _ c.wrapper-w.ensures).0 in omega (arith, h, m)

pub overflow_cast-lists : goal.overflow_cast-lists
overflow_cast-lists c = omega arith

pub loop-i-preserved : goal.loop-i-preserved
loop-i-preserved c = wrapped_on c.args.t.now c.args.start c.args.end _ _ _ _ c.loop-i.i c.requires.within c.loop-i.invariant c.loop-i-test.true _ c.wrapper-w.ensures c.if-w-eq0.false

pub returns-then-lists-eq0 : goal.returns-then-lists-eq0
returns-then-lists-eq0 c = wrapped_whole c.args.t.now c.args.start c.args.end _ _ _ _ c.loop-i.i c.requires.within c.loop-i.invariant c.loop-i-test.false c.if-lists-eq0.true

pub returns : goal.returns
returns c = wrapped_short c.args.t.now c.args.start c.args.end _ _ _ _ c.loop-i.i c.requires.within c.loop-i.invariant c.loop-i-test.false c.if-lists-eq0.false
