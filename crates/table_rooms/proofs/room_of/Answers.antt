-- By the holder, then by the tag.
use mathlib.Core.Path.{◌≡◌, refl}
use mathlib.Core.Bool.{Bool, true, false, ◌&&◌}
use Prim.Native.Nat.{ℕ}
use native.Mathlib.Omega.{arith}
use lib.Dec.{leb}
use borrow.Author.Tests.{le-leb, lt-leb, leb-true, eq-eqb, ne_eqb}
use Rattle.table_rooms.proofs.room_of.Goals as goal

other : (a k : ℕ) → (k ≡ a → ⊥) → (leb a k && leb k a) ≡ false
other a k n = go (leb a k) refl
  where
    go : (x : Bool) → leb a k ≡ x → x && leb k a ≡ false
    go true e = lt-leb k a (let h = leb-true a k e in omega arith)
    go false e = refl

pub returns-then-k-eq-TAG_IMPLEMENTS : goal.returns-then-k-eq-TAG_IMPLEMENTS
returns-then-k-eq-TAG_IMPLEMENTS c = let k = c.args.k in rw (le-leb c.args.holder 8 (omega arith), le-leb 17 k (omega arith), le-leb k 17 (omega arith))

pub returns-then-k-lt-TAG_FIELD : goal.returns-then-k-lt-TAG_FIELD
returns-then-k-lt-TAG_FIELD c = let k = c.args.k in rw (le-leb c.args.holder 8 (omega arith), other 17 k c.if-k-eq-TAG_IMPLEMENTS.false, lt-leb 18 k (omega arith))

pub returns-then-k-le-TAG_SUBSCRIPTION_ROOT : goal.returns-then-k-le-TAG_SUBSCRIPTION_ROOT
returns-then-k-le-TAG_SUBSCRIPTION_ROOT c = let k = c.args.k in rw (le-leb c.args.holder 8 (omega arith), other 17 k c.if-k-eq-TAG_IMPLEMENTS.false, le-leb 18 k (omega arith), le-leb k 25 (omega arith))

pub returns-then-holder-le-TAG_ROOTS : goal.returns-then-holder-le-TAG_ROOTS
returns-then-holder-le-TAG_ROOTS c = let k = c.args.k in rw (le-leb c.args.holder 8 (omega arith), other 17 k c.if-k-eq-TAG_IMPLEMENTS.false, le-leb 18 k (omega arith), lt-leb k 25 (omega arith))

pub returns-then-holder-ne-TAG_FIELD : goal.returns-then-holder-ne-TAG_FIELD
returns-then-holder-ne-TAG_FIELD c = rw (lt-leb c.args.holder 8 (omega arith), ne_eqb c.args.holder 18 c.if-holder-ne-TAG_FIELD.true)

pub returns-then-k-eq-TAG_ARGUMENT : goal.returns-then-k-eq-TAG_ARGUMENT
returns-then-k-eq-TAG_ARGUMENT c = let k = c.args.k in rw (lt-leb c.args.holder 8 (omega arith), eq-eqb c.args.holder 18 c.if-holder-ne-TAG_FIELD.false, le-leb 19 k (omega arith), le-leb k 19 (omega arith))

pub returns : goal.returns
returns c = let k = c.args.k in rw (lt-leb c.args.holder 8 (omega arith), eq-eqb c.args.holder 18 c.if-holder-ne-TAG_FIELD.false, other 19 k c.if-k-eq-TAG_ARGUMENT.false)
