-- An enum's value that its type has.
use mathlib.Core.Path.{◌≡◌, sym, ap, ◌∙◌}
use Prim.Native.Nat.{ℕ, ◌-◌, ◌+◌}
use native.Mathlib.Omega.{arith}
use lib.ListN.{take, drop}
use Rattle.table_book.specs.Book.{part}
use Rattle.table_types.proofs.Objects.{number_room, entry_bounds}
use Rattle.value_kinds.proofs.KindLaws.{enum_bad, enum_unknown, enum_put, any_here}
use Rattle.value_kinds.proofs.put_enum.Goals as goal

pub returns-then-sort-ne-SORT_ENUM : goal.returns-then-sort-ne-SORT_ENUM
returns-then-sort-ne-SORT_ENUM c = let a = c.args in λ i name s. enum_bad a.t.now a.book.now a.limit a.from a.out.now a.out.now i (part a.s.now a.at a.n) name a.sort a.number s c.if-sort-ne-SORT_ENUM.true

pub start_of-start-requires : goal.start_of-start-requires
start_of-start-requires c = (c.requires.0.indexed.held.cells, number_room c.args.t.now c.args.book.now c.requires.0 c.args.number (c.requires.2 (omega (arith, c.if-sort-ne-SORT_ENUM.false))))

pub end_of-end-requires : goal.end_of-end-requires
end_of-end-requires c = (c.requires.0.indexed.held.cells, number_room c.args.t.now c.args.book.now c.requires.0 c.args.number (c.requires.2 (omega (arith, c.if-sort-ne-SORT_ENUM.false))))

pub has_member-requires : goal.has_member-requires
has_member-requires c = (entry_bounds c.args.t.now c.args.book.now c.requires.0 c.args.number (c.requires.2 (omega (arith, c.if-sort-ne-SORT_ENUM.false))) c.start_of-start.ensures c.end_of-end.ensures, c.requires.1)

pub returns-then-not-has_member : goal.returns-then-not-has_member
returns-then-not-has_member c = let a = c.args in λ i name s. enum_unknown a.t.now a.book.now a.limit a.from a.out.now a.out.now i (part a.s.now a.at a.n) name a.sort a.number s c.requires.0 c.if-sort-ne-SORT_ENUM.false
    (any_here a.t.now a.book.now (part a.s.now a.at a.n) a.number _ _ _ c.start_of-start.ensures c.end_of-end.ensures (sym c.if-not-has_member.true ∙ c.has_member.ensures))

pub returns : goal.returns
returns c = let a = c.args in λ i name s. enum_put a.t.now a.book.now a.limit a.from a.out.now _ i (part a.s.now a.at a.n) name a.sort a.number s c.requires.0 c.if-sort-ne-SORT_ENUM.false _ _
    (any_here a.t.now a.book.now (part a.s.now a.at a.n) a.number _ _ _ c.start_of-start.ensures c.end_of-end.ensures (sym c.if-not-has_member.false ∙ c.has_member.ensures))
    (let z : a.at + a.n - a.at ≡ a.n = omega arith in ap (λ (x : ℕ). take x (drop a.at a.s.now)) z) c.put_field.ensures
