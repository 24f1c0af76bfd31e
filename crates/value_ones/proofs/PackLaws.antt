-- Wrappers as one number: what each says of the type, and the type with one less.
use mathlib.Core.Path.{◌≡◌, refl}
use Prim.Native.Nat.{◌+◌, ◌*◌, ◌/◌, ◌%◌, ◌<◌}
use native.Mathlib.Omega.{arith}
use Rattle.paper_table.specs.References.{Ref, named, list_of, non_null, base_of}
use Rattle.table_fields.specs.Wrappers.{pack_of}
use Rattle.value_ones.specs.Ones.{lists_of, nullable_of}

pub pack_list : (r : Ref) → pack_of r % 4 ≡ 1 → (q : Ref) × (r ≡ list_of q) × (pack_of q ≡ pack_of r / 4) × (base_of q ≡ base_of r)
unfolding pack_of
pack_list (named n) e = absurd (omega (arith, e))
pack_list (list_of r) e = (r, refl, omega arith, refl)
pack_list (non_null r) e = absurd (omega (arith, e))

pub pack_named : (r : Ref) → (pack_of r % 4 ≡ 2 → ⊥) → (pack_of r % 4 ≡ 1 → ⊥) → r ≡ named (base_of r)
unfolding pack_of
pack_named (named n) a b = refl
pack_named (list_of r) a b = absurd (b (omega arith))
pack_named (non_null r) a b = absurd (a (omega arith))

-- one wrapper less
pub pack_less : (r : Ref) → 0 < pack_of r → (q : Ref) × (pack_of q ≡ pack_of r / 4) × (pack_of r % 2 + lists_of q ≡ lists_of r)
unfolding pack_of
pack_less (named n) l = absurd (omega (arith, l))
pack_less (list_of r) l = (r, omega arith, (let z : (4 * pack_of r + 1) % 2 ≡ 1 = omega arith in omega (arith, z)))
pack_less (non_null r) l = (r, omega arith, (let z : (4 * pack_of r + 2) % 2 ≡ 0 = omega arith in omega (arith, z)))

pub pack_none : (r : Ref) → pack_of r ≡ 0 → lists_of r ≡ 0
unfolding pack_of
pack_none (named n) e = refl
pack_none (list_of r) e = absurd (omega (arith, e))
pack_none (non_null r) e = absurd (omega (arith, e))

pub pack_marked : (r : Ref) → pack_of r % 4 ≡ 2 → (q : Ref) × (pack_of q ≡ pack_of r / 4) × (nullable_of q ≡ nullable_of r)
unfolding pack_of
pack_marked (named n) e = absurd (omega (arith, e))
pack_marked (list_of r) e = absurd (omega (arith, e))
pack_marked (non_null r) e = (r, omega arith, refl)

pub pack_bare : (r : Ref) → (pack_of r % 4 ≡ 2 → ⊥) → nullable_of r ≡ r
unfolding pack_of
pack_bare (named n) a = refl
pack_bare (list_of r) a = refl
pack_bare (non_null r) a = absurd (a (omega arith))

pub base_nullable : (r : Ref) → base_of (nullable_of r) ≡ base_of r
base_nullable (named n) = refl
base_nullable (list_of r) = refl
base_nullable (non_null r) = base_nullable r
