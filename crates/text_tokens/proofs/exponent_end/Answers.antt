-- `text_tokens::exponent_end` meets its contract: an E, a sign or none, and a digit behind it.
use mathlib.Core.Path.{◌≡◌, sym, ◌∙◌}
use mathlib.Core.Logic.{◌⊎◌, inl, inr}
use native.Mathlib.Omega.{arith}
use lib.ListN.{get_or}
use Rattle.paper.specs.Lexical.{digit}
use Rattle.text_tokens.proofs.NumberParts.{starts_in, exponent_none, exponent_over, exponent_yes, exponent_bare}
use Rattle.text_tokens.proofs.exponent_end.Goals as goal
use Rattle.text_tokens.proofs.exponent_end.Goals.{then-b-ne69+else-b-ne101, else-b-ne69}

pub returns-then-s-i : goal.returns-then-s-i
returns-then-s-i c = exponent_over _ c.args.i c.if-s-i.true

pub returns-then-b-ne101 : goal.returns-then-b-ne101
returns-then-b-ne101 c = exponent_none _ c.args.i c.if-s-i.false c.if-b-ne69.true c.if-b-ne101.true

pub overflow_add-d : goal.overflow_add-d
overflow_add-d c = omega (arith, starts_in c.args.s.now digit c.sign_end-d.result (sym c.digit_at.ensures ∙ c.if-digit_at.true))

pub digits_end-requires : goal.digits_end-requires
digits_end-requires c = omega (arith, starts_in c.args.s.now digit c.sign_end-d.result (sym c.digit_at.ensures ∙ c.if-digit_at.true))

pub returns-then-digit_at : goal.returns-then-digit_at
returns-then-digit_at c =
    let is-e : (get_or c.args.s.now c.args.i 0 ≡ 69) ⊎ (get_or c.args.s.now c.args.i 0 ≡ 101) = elim c.if-b-ne69.branch [ then-b-ne69+else-b-ne101 w ↦ inr w.if-b-ne101.false | else-b-ne69 w ↦ inl w.if-b-ne69.false ] in
    c.digits_end.ensures ∙ exponent_yes _ c.args.i _ c.if-s-i.false is-e c.sign_end-d.ensures (sym c.digit_at.ensures ∙ c.if-digit_at.true)

pub returns : goal.returns
returns c =
    let is-e : (get_or c.args.s.now c.args.i 0 ≡ 69) ⊎ (get_or c.args.s.now c.args.i 0 ≡ 101) = elim c.if-b-ne69.branch [ then-b-ne69+else-b-ne101 w ↦ inr w.if-b-ne101.false | else-b-ne69 w ↦ inl w.if-b-ne69.false ] in
    exponent_bare _ c.args.i _ c.if-s-i.false is-e c.sign_end-d.ensures (sym c.digit_at.ensures ∙ c.if-digit_at.false)
