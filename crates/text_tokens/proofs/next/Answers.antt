-- `text_tokens::next` meets its contract: what was packed is unpacked.
use Rattle.text_tokens.proofs.PackedLaws.{scanned}
use Rattle.text_tokens.proofs.next.Goals as goal

pub returns : goal.returns
returns c = scanned _ _ _ _ c.requires.0 c.requires.1 c.scan.ensures c.unpacked.ensures
