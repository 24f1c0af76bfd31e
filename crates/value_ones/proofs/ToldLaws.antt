-- What an answer says of the value, and of the room behind it.
use mathlib.Core.Path.{◌≡◌, refl, subst}
use mathlib.Core.List.{List}
use Prim.Native.Nat.{ℕ}
use native.Mathlib.Omega.{arith}
use lib.ListN.{length}
use Rattle.std.proofs.Common.{Result, Ok, Err}
use Rattle.paper_values.specs.Values.{At, Tree, Out, Got, No}
use Rattle.paper_values.specs.Encoding.{encode}
use Rattle.value_writing.specs.Writing.{Put, Room}
use Rattle.value_writing.proofs.PlaceLaws.{room_after}
use Rattle.value_kinds.specs.declared.RefusedRow.{RefusedRow}
use Rattle.value_kinds.specs.Dues.{refused, Told}

module _ (text limit at : ℕ) (p p' : List ℕ) (x : Result ℕ RefusedRow) where
  pub told_up : (o : Out Tree) (e : ℕ) → Told text limit o at p p' x → x ≡ Ok e → (t : Tree) × (o ≡ Got t) × Put limit (encode t) at p p' e
  told_up (Got t) e g u = let z : g.0 ≡ e = same g.0 g.1 in (t, refl, subst (λ (y : ℕ). Put limit (encode t) at p p' y) z g.2)
    where
      same : (a : ℕ) → x ≡ Ok a → a ≡ e
      same a q = cc
  told_up (No i w) e g u = absurd (never g.1)
    where
      never : x ≡ refused i.row w → ⊥
      never q = let z : ◌≡◌ {A = ℕ} 0 1 = cc in omega arith

  pub told_no : (o : Out Tree) (f : RefusedRow) → Told text limit o at p p' x → x ≡ Err f → (i : At) × (w : ℕ) × (o ≡ No i w) × (i.text ≡ text) × (x ≡ refused i.row w)
  told_no (Got t) f g u = absurd (never g.0 g.1)
    where
      never : (e : ℕ) → x ≡ Ok e → ⊥
      never e q = let z : ◌≡◌ {A = ℕ} 0 1 = cc in omega arith
  told_no (No i w) f g u = (i, w, refl, g.0, g.1)

  -- there is room for the next writer
  pub told_room : (o : Out Tree) (e : ℕ) → Told text limit o at p p' x → x ≡ Ok e → Room limit at p → length p' ≡ length p → Room limit e p'
  told_room o e g u r l = let z = told_up o e g u in room_after limit (encode z.0) at p p' e r l z.2
