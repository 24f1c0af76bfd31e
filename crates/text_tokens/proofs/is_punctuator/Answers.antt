-- `text_tokens::is_punctuator` meets its contract, range by range.
use mathlib.Core.Path.{◌≡◌}
use mathlib.Core.Bool.{true, ◌||◌}
use Prim.Native.Nat.{ℕ, ◌≤◌, ◌<◌}
use native.Mathlib.Omega.{arith}
use borrow.Author.Tests.{ne_eqb}
use lib.Dec.{leb, eqb}
use Rattle.text_characters.proofs.ByteLaws.{bytes_agree}
use Rattle.text_tokens.specs.Skip.{is_punctuator}
use Rattle.text_tokens.proofs.is_punctuator.Goals as goal

low : (b : ℕ) → b < 40 → (eqb b 36 || eqb b 33) ≡ is_punctuator b
unfolding is_punctuator
low b h = bytes_agree (λ k. eqb k 36 || eqb k 33) is_punctuator 0 40 tt b (omega arith) (omega arith)

high : (b : ℕ) → 42 ≤ b → b < 123 → (eqb b 58 || (eqb b 64 || (eqb b 91 || (eqb b 93 || eqb b 61)))) ≡ is_punctuator b
unfolding is_punctuator
high b g h = bytes_agree (λ k. eqb k 58 || (eqb k 64 || (eqb k 91 || (eqb k 93 || eqb k 61)))) is_punctuator 42 81 tt b (omega arith) (omega arith)

pub returns-then-b-ge123 : goal.returns-then-b-ge123
unfolding is_punctuator
returns-then-b-ge123 c = bytes_agree (λ b. leb b 125) is_punctuator 123 133 tt c.args.b (omega arith) (omega arith)

pub returns-then-b-ge40 : goal.returns-then-b-ge40
unfolding is_punctuator
returns-then-b-ge40 c = bytes_agree (λ b. true) is_punctuator 40 2 tt c.args.b (omega arith) (omega arith)

pub returns-then-b-eq36 : goal.returns-then-b-eq36
unfolding is_punctuator
returns-then-b-eq36 c = rw c.if-b-eq36.true

pub returns-then-b-le41 : goal.returns-then-b-le41
returns-then-b-le41 c = rw (ne_eqb _ _ c.if-b-eq36.false) at (low c.args.b (omega arith))

pub returns-then-b-eq58 : goal.returns-then-b-eq58
unfolding is_punctuator
returns-then-b-eq58 c = rw c.if-b-eq58.true

pub returns-then-b-eq64 : goal.returns-then-b-eq64
unfolding is_punctuator
returns-then-b-eq64 c = rw c.if-b-eq64.true

pub returns-then-b-eq91 : goal.returns-then-b-eq91
unfolding is_punctuator
returns-then-b-eq91 c = rw c.if-b-eq91.true

pub returns-then-b-eq93 : goal.returns-then-b-eq93
unfolding is_punctuator
returns-then-b-eq93 c = rw c.if-b-eq93.true

pub returns : goal.returns
returns c = rw (ne_eqb _ _ c.if-b-eq58.false, ne_eqb _ _ c.if-b-eq64.false, ne_eqb _ _ c.if-b-eq91.false, ne_eqb _ _ c.if-b-eq93.false) at (high c.args.b (omega arith) (omega arith))
