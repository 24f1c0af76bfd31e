-- `text_tokens::unpacked` meets its contract.
use borrow.Author.Tests.{ne_eqb}
use Rattle.text_tokens.specs.Packed.{unpacked_of}
use Rattle.text_tokens.proofs.unpacked.Goals as goal

pub returns-then-kind-eq-NO_KIND : goal.returns-then-kind-eq-NO_KIND
unfolding unpacked_of
returns-then-kind-eq-NO_KIND c = rw c.if-kind-eq-NO_KIND.true

pub returns : goal.returns
unfolding unpacked_of
returns c = rw (ne_eqb _ _ c.if-kind-eq-NO_KIND.false)
