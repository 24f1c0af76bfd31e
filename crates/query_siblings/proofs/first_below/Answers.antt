-- From the first right below row p on.
use mathlib.Core.Path.{◌∙◌}
use native.Mathlib.Omega.{arith}
use Rattle.query_siblings.proofs.BesideLaws.{first_within, first_below_is}
use Rattle.query_siblings.proofs.first_below.Goals as goal

pub link_of-requires : goal.link_of-requires
link_of-requires c = omega (arith, c.requires.1.firsts, c.requires.2, c.requires.0.few)

pub next_beside-requires : goal.next_beside-requires
next_beside-requires c = let a = c.args in
    let p = c.requires in
    (p.0, record { first = a.first.now; family = p.1 }, first_within a.rows.now a.n a.first.now a.next.now p.1 a.k a.p c.link_of.result (omega (arith, p.0.few, p.2)) c.link_of.ensures)

pub returns : goal.returns
returns c = let a = c.args in
    let p = c.requires in
    c.next_beside.ensures ∙ first_below_is a.rows.now a.n a.first.now a.next.now p.1 a.k a.p c.link_of.result (omega (arith, p.0.few, p.2)) c.link_of.ensures
