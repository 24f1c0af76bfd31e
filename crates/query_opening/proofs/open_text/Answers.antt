use mathlib.Core.List.{[]}
use Rattle.query_opening.proofs.OpeningLaws.{ended_rows, is_bad_text}
use Rattle.query_opening.proofs.open_text.Goals as goal

pub open_read-requires : goal.open_read-requires
open_read-requires c = let p = c.requires in
    (p.0, p.1, p.2, ended_rows _ _ _ _ _ p.0.0 p.3 c.document-r.ensures c.in-Ok.is)

pub returns-in-Err : goal.returns-in-Err
returns-in-Err c = let p = c.requires in
    is_bad_text _ _ _ _ _ [] _ _ p.1 c.document-r.ensures c.in-Err.is
