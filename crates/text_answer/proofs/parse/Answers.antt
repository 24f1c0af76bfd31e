-- `text_answer::parse` meets its contract: what lies behind the rows, or all after a refusal, is cleared.
use mathlib.Core.Path.{◌∙◌}
use native.Mathlib.Omega.{arith}
use Rattle.text_answer.proofs.FilledLaws.{done_room, done_filled, refused_filled}
use Rattle.text_answer.proofs.parse.Goals as goal

pub clear-requires : goal.clear-requires
clear-requires c = omega (arith, c.document-r.auto.rows, c.requires.1, done_room _ _ _ _ _ c.requires.1 c.document-r.ensures c.in-Ok.is)

pub returns-in-Ok : goal.returns-in-Ok
returns-in-Ok c = done_filled _ _ _ _ _ c.requires.1 c.document-r.ensures c.in-Ok.is _ c.clear.ensures

pub returns-in-Err : goal.returns-in-Err
returns-in-Err c = refused_filled _ _ _ _ _ _ (c.document-r.auto.rows ∙ c.requires.1) c.document-r.ensures c.in-Err.is c.clear-in-Err.ensures
