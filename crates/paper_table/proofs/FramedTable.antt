-- Every definition of a table whose framing is right is a right one.
use mathlib.Core.Path.{◌≡◌, refl}
use mathlib.Core.Bool.{Bool, true, false, not, ◌&&◌, ◌||◌, cond, false≢true}
use mathlib.Core.Option.{Option, none, some}
use mathlib.Core.List.{List, [], ◌∷◌, ◌++◌, cons≢nil}
use Prim.Native.Nat.{ℕ, zero, suc, ◌≤◌}
use native.Mathlib.Omega.{arith}
use lib.Dec.{eqb, leb}
use borrow.Author.Tests.{leb-true}
use Rattle.paper_table.specs.TableNumbers.{tag_scalar, tag_roots}
use Rattle.paper_table.specs.Lists.{gather}
use Rattle.paper_table.specs.House.{HouseField, house_field, cut, house_fields, wrongs, most_deep, record_in_place, table_wrongs, smallest, smaller, framing_offset}
use Rattle.paper_table.specs.Types.{definition_in, definition_of, table_of}
use Rattle.paper_table.proofs.Every.{Every, no_more, one_more}
use Rattle.paper_table.proofs.Filled.{append_inv, and_inv}
use Rattle.paper_table.proofs.FramedLaws.{RightDefinition, scalar_right, object_right, interface_right, union_right, enum_right, input_object_right, directive_right_is, roots_right}

-- a number from 1 to 8
pub one_of_eight : (P : ℕ → Type 0) → P 1 → P 2 → P 3 → P 4 → P 5 → P 6 → P 7 → P 8 → (n : ℕ) → 1 ≤ n → n ≤ 8 → P n
one_of_eight P a b c d e f g h zero lo hi = absurd (omega arith)
one_of_eight P a b c d e f g h (suc zero) lo hi = a
one_of_eight P a b c d e f g h (suc (suc zero)) lo hi = b
one_of_eight P a b c d e f g h (suc (suc (suc zero))) lo hi = c
one_of_eight P a b c d e f g h (suc (suc (suc (suc zero)))) lo hi = d
one_of_eight P a b c d e f g h (suc (suc (suc (suc (suc zero))))) lo hi = e
one_of_eight P a b c d e f g h (suc (suc (suc (suc (suc (suc zero)))))) lo hi = f
one_of_eight P a b c d e f g h (suc (suc (suc (suc (suc (suc (suc zero))))))) lo hi = g
one_of_eight P a b c d e f g h (suc (suc (suc (suc (suc (suc (suc (suc zero)))))))) lo hi = h
one_of_eight P a b c d e f g h (suc (suc (suc (suc (suc (suc (suc (suc (suc n))))))))) lo hi = absurd (omega arith)

record_right : (roots : Bool) (at tag : ℕ) (s : List ℕ) → record_in_place roots tag ≡ true → wrongs most_deep at tag s ≡ [] → RightDefinition (definition_in at tag s)
record_right roots at tag s b =
    let z = and_inv (leb tag_scalar tag && leb tag tag_roots) (not (eqb tag tag_roots) || roots) b in
    let y = and_inv (leb tag_scalar tag) (leb tag tag_roots) z.0 in
    one_of_eight (λ k. wrongs most_deep at k s ≡ [] → RightDefinition (definition_in at k s))
    (scalar_right at s) (object_right at s) (interface_right at s) (union_right at s) (enum_right at s) (input_object_right at s) (directive_right_is at s) (roots_right at s)
    tag (leb-true tag_scalar tag y.0) (leb-true tag tag_roots y.1)

table_right : (ps : List HouseField) (roots : Bool) → table_wrongs roots ps ≡ [] → Every RightDefinition (gather definition_of ps)
unfolding table_wrongs gather definition_of
table_right [] roots e = no_more
table_right (cut at ∷ ps) roots e = absurd (cons≢nil e)
table_right (house_field at tag s ∷ ps) roots e = go (record_in_place roots tag) refl e (table_right ps (roots && not (eqb tag tag_roots)))
  where
    go : (b : Bool) → record_in_place roots tag ≡ b → cond b (wrongs most_deep at tag s) (at ∷ []) ++ table_wrongs (roots && not (eqb tag tag_roots)) ps ≡ []
        → (table_wrongs (roots && not (eqb tag tag_roots)) ps ≡ [] → Every RightDefinition (gather definition_of ps)) → Every RightDefinition (definition_in at tag s ∷ gather definition_of ps)
    go true q e ih = let z = append_inv (wrongs most_deep at tag s) _ e in one_more (record_right roots at tag s q z.0) (ih z.1)
    go false q e ih = absurd (cons≢nil e)

pub smallest_none : (ws : List ℕ) → smallest ws ≡ none → ws ≡ []
unfolding smallest
smallest_none [] e = refl
smallest_none (w ∷ ws) e = absurd (go (smallest ws) e)
  where
    go : (o : Option ℕ) → smaller w o ≡ none → ⊥
    go none e = let z : ◌≡◌ {A = Option ℕ} (some w) none = e in false≢true cc
    go (some v) e = let z : ◌≡◌ {A = Option ℕ} (some (cond (leb w v) w v)) none = e in false≢true cc

pub framing_wrongs : (s : List ℕ) → framing_offset s ≡ none → table_wrongs true (house_fields 0 s) ≡ []
unfolding framing_offset
framing_wrongs s e = smallest_none (table_wrongs true (house_fields 0 s)) e

pub framing_right : (s : List ℕ) → framing_offset s ≡ none → Every RightDefinition (table_of s)
unfolding table_of
framing_right s e = table_right (house_fields 0 s) true (framing_wrongs s e)
