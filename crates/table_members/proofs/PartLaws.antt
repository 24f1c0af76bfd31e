-- A member's type and arguments, by its tag.
use mathlib.Core.Path.{◌≡◌, refl, ◌∙◌}
use mathlib.Core.Bool.{Bool, true, false, cond}
use mathlib.Core.List.{List, []}
use Prim.Native.Nat.{ℕ, ◌≤◌}
use native.Mathlib.Nat.{le_refl}
use native.Mathlib.Omega.{arith}
use lib.ListN.{length}
use lib.Seq.{slice}
use lib.Dec.{eqb}
use Rattle.table_fields.proofs.BoundsLaws.{later}
use borrow.Author.Tests.{ne_eqb}
use Rattle.paper_table.specs.TableNumbers.{tag_field, tag_argument}
use Rattle.paper_table.specs.Types.{argument_of, name_only}
use Rattle.table_fields.specs.Fields.{Bounds}
use Rattle.table_fields.specs.Wrappers.{pack_of}
use Rattle.table_members.specs.Members.{member_from, input_from, Typed, ArgumentsFrom}
use Rattle.table_members.proofs.GatherLaws.{gather_none}
use Rattle.table_members.proofs.MemberLaws.{field_is, name_is}

module _ (t : List ℕ) (tag start end : ℕ) (w : start ≤ end) (l : end ≤ length t) where
  pub arguments_field : tag ≡ tag_field → ArgumentsFrom t tag start end start
  arguments_field e = record { are = rw (field_is t tag start end e); order = w }

  pub arguments_none : (tag ≡ tag_field → ⊥) → ArgumentsFrom t tag start end end
  unfolding member_from
  arguments_none e = record { are = gather_none argument_of (λ at. refl) t end end l (le_refl end) ∙ rw (ne_eqb tag tag_field e) (go (eqb tag tag_argument)); order = le_refl end }
    where
      go : (b : Bool) → [] ≡ (cond b (input_from t start end) (name_only tag (slice start end t))).arguments
      go true = refl
      go false = refl

  pub type_of_name : (tag ≡ tag_field → ⊥) → (tag ≡ tag_argument → ⊥) → Typed t start 0 0 (member_from t tag start end).type
  unfolding pack_of
  type_of_name e f = rw (name_is t tag start end e f) (record { base = refl; packs = refl; within = omega arith })

pub from_bounds : {t : List ℕ} {tag start end r : ℕ} → ArgumentsFrom t tag start end r → Bounds t start end → Bounds t r end
from_bounds f b = later b f.order
