-- `value_leaves::put_text` meets its contract, by the kind of type.
use mathlib.Core.Path.{◌∙◌}
use Prim.Native.Nat.{◌-◌}
use lib.ListN.{take, drop}
use Rattle.value_leaves.proofs.LeafLaws.{text_told, text_string, text_id, text_own, text_other}
use Rattle.value_leaves.proofs.put_text.Goals as goal

pub returns-then-sort-eq-SORT_STRING : goal.returns-then-sort-eq-SORT_STRING
returns-then-sort-eq-SORT_STRING c = let a = c.args in λ k i z. text_string a.limit a.from a.out.now _ (take (a.end - a.start) (drop a.start a.text.now)) a.sort k i z c.put_string.result c.ok_or.result c.if-sort-eq-SORT_STRING.true (c.ok_or.ensures.value ∙ text_told c.put_string.result) c.put_string.ensures

pub returns-then-sort-eq-SORT_ID : goal.returns-then-sort-eq-SORT_ID
returns-then-sort-eq-SORT_ID c = let a = c.args in λ k i z. text_id a.limit a.from a.out.now _ (take (a.end - a.start) (drop a.start a.text.now)) a.sort k i z c.put_string-then-sort-eq-SORT_ID.result c.ok_or-then-sort-eq-SORT_ID.result c.if-sort-eq-SORT_ID.true (c.ok_or-then-sort-eq-SORT_ID.ensures.value ∙ text_told c.put_string-then-sort-eq-SORT_ID.result) c.put_string-then-sort-eq-SORT_ID.ensures

pub returns-then-sort-eq-SORT_OWN : goal.returns-then-sort-eq-SORT_OWN
returns-then-sort-eq-SORT_OWN c = let a = c.args in λ k i z. text_own a.limit a.from a.out.now _ (take (a.end - a.start) (drop a.start a.text.now)) a.sort k i z _ c.if-sort-eq-SORT_OWN.true c.put_field.ensures

pub returns : goal.returns
returns c = let a = c.args in λ k i z. text_other a.limit a.from a.out.now a.out.now (take (a.end - a.start) (drop a.start a.text.now)) a.sort k i z c.if-sort-eq-SORT_STRING.false c.if-sort-eq-SORT_ID.false c.if-sort-eq-SORT_OWN.false
