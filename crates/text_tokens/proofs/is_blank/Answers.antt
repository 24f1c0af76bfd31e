-- `text_tokens::is_blank` meets its contract, byte by byte.
use native.Mathlib.Omega.{arith}
use borrow.Author.Tests.{ne_eqb}
use Rattle.text_tokens.specs.Skip.{is_blank}
use Rattle.text_tokens.proofs.is_blank.Goals as goal

pub returns-then-b-eq32 : goal.returns-then-b-eq32
unfolding is_blank
returns-then-b-eq32 c = rw c.if-b-eq32.true

pub returns-then-b-ge45 : goal.returns-then-b-ge45
unfolding is_blank
returns-then-b-ge45 c = let b = c.args.b in
    rw (ne_eqb b 32 (λ e. omega arith), ne_eqb b 10 (λ e. omega arith), ne_eqb b 44 (λ e. omega arith), ne_eqb b 13 (λ e. omega arith), ne_eqb b 9 (λ e. omega arith))

pub returns-then-b-eq10 : goal.returns-then-b-eq10
unfolding is_blank
returns-then-b-eq10 c = rw c.if-b-eq10.true

pub returns-then-b-eq44 : goal.returns-then-b-eq44
unfolding is_blank
returns-then-b-eq44 c = rw c.if-b-eq44.true

pub returns-then-b-eq13 : goal.returns-then-b-eq13
unfolding is_blank
returns-then-b-eq13 c = rw c.if-b-eq13.true

pub returns-then-b-eq9 : goal.returns-then-b-eq9
unfolding is_blank
returns-then-b-eq9 c = rw c.if-b-eq9.true

pub returns : goal.returns
unfolding is_blank
returns c = rw (ne_eqb _ _ c.if-b-eq32.false, ne_eqb _ _ c.if-b-eq10.false, ne_eqb _ _ c.if-b-eq44.false, ne_eqb _ _ c.if-b-eq13.false, ne_eqb _ _ c.if-b-eq9.false)
