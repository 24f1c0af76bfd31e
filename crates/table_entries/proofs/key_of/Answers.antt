-- The part's last four bytes and its first, and its size.
use native.Mathlib.Omega.{arith}
use Rattle.table_entries.proofs.Keys.{key_none, key_some}
use Rattle.table_entries.proofs.key_of.Goals as goal

pub returns-then-n-eq0 : goal.returns-then-n-eq0
returns-then-n-eq0 c = let a = c.args in key_none a.s.now a.at a.n c.requires (omega arith)

pub returns : goal.returns
returns c = let a = c.args in
    key_some a.s.now a.at a.n c.requires (omega arith) _ _ _ _ _ c.last_but.ensures.0 c.last_but-2.ensures.0 c.last_but-3.ensures.0 c.last_but-4.ensures.0 c.last_but-5.ensures.0
