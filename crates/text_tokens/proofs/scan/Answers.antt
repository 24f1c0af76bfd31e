-- `text_tokens::scan` meets its contract: the first token of a text fits into one number.
use mathlib.Core.Path.{ap, ◌∙◌}
use Rattle.text_tokens.specs.Packed.{packed_of}
use Rattle.text_tokens.proofs.PackedLaws.{head_fits}
use Rattle.text_tokens.proofs.scan.Goals as goal

pub packed-requires : goal.packed-requires
packed-requires c = rw c.first.ensures (head_fits _ _ c.requires.0 c.requires.1)

pub returns : goal.returns
returns c = c.packed.ensures ∙ ap packed_of c.first.ensures
