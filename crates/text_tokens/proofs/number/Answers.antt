-- `text_tokens::number` meets its contract: the places that it finds are those of the number's parts.
use mathlib.Core.Path.{sym, ◌∙◌}
use mathlib.Core.Logic.{inl, inr}
use native.Mathlib.Omega.{arith}
use Rattle.paper.specs.Lexical.{digit}
use Rattle.text_tokens.proofs.NumberParts.{starts_in, whole_in, fraction_in}
use Rattle.text_tokens.proofs.NumberLaws.{Behind, number_int, number_float, number_bad}
use Rattle.text_tokens.proofs.number.Goals as goal
use Rattle.text_tokens.proofs.number.Goals.{then-s-at-eq45, else-s-at-eq45}

pub whole_end-w-requires : goal.whole_end-w-requires
whole_end-w-requires c = starts_in c.args.s.now digit c.if-s-at-eq45.d (sym c.digit_at.ensures ∙ c.if-digit_at.true)

pub fraction_end-f-requires : goal.fraction_end-f-requires
fraction_end-f-requires c = omega (arith, c.whole_end-w.ensures, whole_in c.args.s.now c.if-s-at-eq45.d (omega (arith, starts_in c.args.s.now digit c.if-s-at-eq45.d (sym c.digit_at.ensures ∙ c.if-digit_at.true))))

pub exponent_end-e-requires : goal.exponent_end-e-requires
exponent_end-e-requires c = let w = c.whole_end-w in
    let l = whole_in c.args.s.now c.if-s-at-eq45.d (omega (arith, starts_in c.args.s.now digit c.if-s-at-eq45.d (sym c.digit_at.ensures ∙ c.if-digit_at.true))) in
    omega (arith, c.fraction_end-f.ensures, fraction_in c.args.s.now w.result (omega (arith, w.ensures, l)))

pub returns-then-e-w : goal.returns-then-e-w
returns-then-e-w c =
    let signed : Behind c.args.s.now c.args.at c.if-s-at-eq45.d = elim c.if-s-at-eq45.branch [ then-s-at-eq45 w ↦ inl (w.if-s-at-eq45.true, w.d-is) | else-s-at-eq45 w ↦ inr (w.if-s-at-eq45.false, w.d-is) ] in
    number_int _ c.args.at _ c.requires.within _ _ _ c.whole_end-w.ensures c.fraction_end-f.ensures c.exponent_end-e.ensures (sym c.digit_at.ensures ∙ c.if-digit_at.true) signed c.if-e-w.true

pub returns-then-digit_at : goal.returns-then-digit_at
returns-then-digit_at c =
    let signed : Behind c.args.s.now c.args.at c.if-s-at-eq45.d = elim c.if-s-at-eq45.branch [ then-s-at-eq45 w ↦ inl (w.if-s-at-eq45.true, w.d-is) | else-s-at-eq45 w ↦ inr (w.if-s-at-eq45.false, w.d-is) ] in
    number_float _ c.args.at _ c.requires.within _ _ _ c.whole_end-w.ensures c.fraction_end-f.ensures c.exponent_end-e.ensures (sym c.digit_at.ensures ∙ c.if-digit_at.true) signed c.if-e-w.false

pub returns : goal.returns
returns c =
    let signed : Behind c.args.s.now c.args.at c.if-s-at-eq45.d = elim c.if-s-at-eq45.branch [ then-s-at-eq45 w ↦ inl (w.if-s-at-eq45.true, w.d-is) | else-s-at-eq45 w ↦ inr (w.if-s-at-eq45.false, w.d-is) ] in
    let p = c.requires in
    number_bad _ c.args.at _ p.within (omega (arith, c.type_inv.s c.args.at)) p.no_letter p.no_mark p.no_quote p.no_dot signed (sym c.digit_at.ensures ∙ c.if-digit_at.false)
