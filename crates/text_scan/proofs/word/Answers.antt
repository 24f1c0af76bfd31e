-- `word`: by the name's length, and then by comparing it with the words of that length.
use mathlib.Core.Path.{refl, sym, ◌∙◌}
use mathlib.Core.Bool.{true, false}
use Rattle.text_scan.proofs.WordLaws.{word_2, word_4, word_5, word_8, word_12, word_none}
use Rattle.text_scan.proofs.word.Goals as goal

pub returns-then-begins : goal.returns-then-begins
returns-then-begins c = word_2 c.args.s.now c.args.start c.args.end c.requires c.if-n-eq2.true true (sym c.begins.ensures ∙ c.if-begins.true)

pub returns-then-n-eq2 : goal.returns-then-n-eq2
returns-then-n-eq2 c = word_2 c.args.s.now c.args.start c.args.end c.requires c.if-n-eq2.true false (sym c.begins.ensures ∙ c.if-begins.false)

pub returns-then-begins-2 : goal.returns-then-begins-2
returns-then-begins-2 c = word_4 c.args.s.now c.args.start c.args.end c.requires c.if-n-eq4.true true _ (sym c.begins-then-n-eq4.ensures ∙ c.if-begins-2.true) refl

pub returns-then-begins-3 : goal.returns-then-begins-3
returns-then-begins-3 c = word_4 c.args.s.now c.args.start c.args.end c.requires c.if-n-eq4.true false true (sym c.begins-then-n-eq4.ensures ∙ c.if-begins-2.false) (sym c.begins-then-n-eq4-2.ensures ∙ c.if-begins-3.true)

pub returns-then-n-eq4 : goal.returns-then-n-eq4
returns-then-n-eq4 c = word_4 c.args.s.now c.args.start c.args.end c.requires c.if-n-eq4.true false false (sym c.begins-then-n-eq4.ensures ∙ c.if-begins-2.false) (sym c.begins-then-n-eq4-2.ensures ∙ c.if-begins-3.false)

pub returns-then-begins-4 : goal.returns-then-begins-4
returns-then-begins-4 c = word_5 c.args.s.now c.args.start c.args.end c.requires c.if-n-eq5.true true _ (sym c.begins-then-n-eq5.ensures ∙ c.if-begins-4.true) refl

pub returns-then-begins-5 : goal.returns-then-begins-5
returns-then-begins-5 c = word_5 c.args.s.now c.args.start c.args.end c.requires c.if-n-eq5.true false true (sym c.begins-then-n-eq5.ensures ∙ c.if-begins-4.false) (sym c.begins-then-n-eq5-2.ensures ∙ c.if-begins-5.true)

pub returns-then-n-eq5 : goal.returns-then-n-eq5
returns-then-n-eq5 c = word_5 c.args.s.now c.args.start c.args.end c.requires c.if-n-eq5.true false false (sym c.begins-then-n-eq5.ensures ∙ c.if-begins-4.false) (sym c.begins-then-n-eq5-2.ensures ∙ c.if-begins-5.false)

pub returns-then-begins-6 : goal.returns-then-begins-6
returns-then-begins-6 c = word_8 c.args.s.now c.args.start c.args.end c.requires c.if-n-eq8.true true _ (sym c.begins-then-n-eq8.ensures ∙ c.if-begins-6.true) refl

pub returns-then-begins-7 : goal.returns-then-begins-7
returns-then-begins-7 c = word_8 c.args.s.now c.args.start c.args.end c.requires c.if-n-eq8.true false true (sym c.begins-then-n-eq8.ensures ∙ c.if-begins-6.false) (sym c.begins-then-n-eq8-2.ensures ∙ c.if-begins-7.true)

pub returns-then-n-eq8 : goal.returns-then-n-eq8
returns-then-n-eq8 c = word_8 c.args.s.now c.args.start c.args.end c.requires c.if-n-eq8.true false false (sym c.begins-then-n-eq8.ensures ∙ c.if-begins-6.false) (sym c.begins-then-n-eq8-2.ensures ∙ c.if-begins-7.false)

pub returns-then-begins-8 : goal.returns-then-begins-8
returns-then-begins-8 c = word_12 c.args.s.now c.args.start c.args.end c.requires c.if-n-eq12.true true (sym c.begins-then-n-eq12.ensures ∙ c.if-begins-8.true)

pub returns-else-begins-8 : goal.returns-else-begins-8
returns-else-begins-8 c = word_12 c.args.s.now c.args.start c.args.end c.requires c.if-n-eq12.true false (sym c.begins-then-n-eq12.ensures ∙ c.if-begins-8.false)

pub returns-else-n-eq12 : goal.returns-else-n-eq12
returns-else-n-eq12 c = word_none c.args.s.now c.args.start c.args.end c.requires c.if-n-eq2.false c.if-n-eq4.false c.if-n-eq5.false c.if-n-eq8.false c.if-n-eq12.false
