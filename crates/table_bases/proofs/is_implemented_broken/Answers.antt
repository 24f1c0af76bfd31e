-- The test that the rule asks of an implemented name.
use mathlib.Core.Path.{ap, ◌∙◌}
use mathlib.Core.Bool.{not}
use Prim.Native.Nat.{ℕ, ◌-◌}
use lib.Dec.{eqb}
use Rattle.paper_table.specs.Types.{table_of}
use Rattle.table_book.specs.Book.{part}
use Rattle.table_members.specs.Members.{implemented_in}
use Rattle.table_bases.proofs.ImplementedLaws.{implemented_ten, implemented_other}
use Rattle.table_bases.proofs.is_implemented_broken.Goals as goal

pub returns-then-rule-eq-RULE_IMPLEMENTED_TWICE : goal.returns-then-rule-eq-RULE_IMPLEMENTED_TWICE
returns-then-rule-eq-RULE_IMPLEMENTED_TWICE c = let a = c.args in
    c.is_implemented_before.ensures ∙ implemented_ten a.rule (table_of a.t.now) (implemented_in a.t.now a.from a.end) a.m (part a.t.now a.start (a.stop - a.start)) c.if-rule-eq-RULE_IMPLEMENTED_TWICE.true

pub returns : goal.returns
returns c = let a = c.args in
    ap (λ (k : ℕ). not (eqb k 3)) c.tag_meant.ensures ∙ implemented_other a.rule (table_of a.t.now) (implemented_in a.t.now a.from a.end) a.m (part a.t.now a.start (a.stop - a.start)) c.if-rule-eq-RULE_IMPLEMENTED_TWICE.false
