-- `text_tokens::first` meets its contract: what the loop has passed over changes nothing, and what stands behind it is told by its first byte.
use mathlib.Core.Path.{refl, sym, ap, ◌∙◌}
use native.Mathlib.Omega.{arith}
use Rattle.paper.specs.Tokens.{Text}
use Rattle.text_scan.specs.Head.{head_of}
use Rattle.text_tokens.proofs.PieceLaws.{blank_at, name_at, mark_at}
use Rattle.text_tokens.proofs.HereLaws.{ignored_in, here_end, here_token, here_found}
use Rattle.text_tokens.proofs.Unroll.{from_skip}
use Rattle.text_tokens.proofs.first.Goals as goal

pub loop-i-init : goal.loop-i-init
loop-i-init c = (c.requires, refl)

pub loop-i-smaller-then-is_blank : goal.loop-i-smaller-then-is_blank
loop-i-smaller-then-is_blank c = omega (arith, c.loop-i-test.true)

pub loop-i-preserved-then-is_blank : goal.loop-i-preserved-then-is_blank
loop-i-preserved-then-is_blank c = (omega (arith, c.loop-i-test.true), c.loop-i.invariant.1 ∙ from_skip _ c.loop-i.i 1 c.loop-i-test.true (blank_at _ c.loop-i.i c.loop-i-test.true (sym c.is_blank.ensures ∙ c.if-is_blank.true)) (λ e. omega arith))

pub returns-then-starts_name : goal.returns-then-starts_name
returns-then-starts_name c = here_found _ _ _ _ _ c.loop-i-test.true (name_at _ _ c.loop-i-test.true _ (sym c.starts_name.ensures ∙ c.if-starts_name.true) c.name_end-e.ensures) ∙ ap (λ (t : Text). head_of t) (sym c.loop-i.invariant.1)

pub overflow_cast-result : goal.overflow_cast-result
overflow_cast-result c = omega (arith, c.type_inv.s c.loop-i.i)

pub returns-then-is_punctuator : goal.returns-then-is_punctuator
returns-then-is_punctuator c = here_found _ _ _ _ _ c.loop-i-test.true (mark_at _ _ c.loop-i-test.true (sym c.is_punctuator.ensures ∙ c.if-is_punctuator.true)) ∙ ap (λ (t : Text). head_of t) (sym c.loop-i.invariant.1)

pub ignored-n-requires : goal.ignored-n-requires
ignored-n-requires c = (c.loop-i-test.true, sym c.is_blank.ensures ∙ c.if-is_blank.false)

pub other-requires : goal.other-requires
other-requires c = record { within = c.loop-i-test.true; no_letter = sym c.starts_name.ensures ∙ c.if-starts_name.false; no_mark = sym c.is_punctuator.ensures ∙ c.if-is_punctuator.false }

pub returns-then-n-eq0 : goal.returns-then-n-eq0
returns-then-n-eq0 c = c.other.ensures ∙ here_token _ _ c.loop-i-test.true (sym c.ignored-n.ensures ∙ c.if-n-eq0.true) ∙ ap (λ (t : Text). head_of t) (sym c.loop-i.invariant.1)

pub overflow_add-i-in-loop-i : goal.overflow_add-i-in-loop-i
overflow_add-i-in-loop-i c = omega (arith, c.ignored-n.ensures, ignored_in c.args.s.now c.loop-i.i c.loop-i.invariant.0)

pub loop-i-smaller : goal.loop-i-smaller
loop-i-smaller c = omega (arith, c.loop-i-test.true, c.if-n-eq0.false)

pub loop-i-preserved : goal.loop-i-preserved
loop-i-preserved c = (omega (arith, c.ignored-n.ensures, ignored_in c.args.s.now c.loop-i.i c.loop-i.invariant.0), c.loop-i.invariant.1 ∙ from_skip _ c.loop-i.i _ c.loop-i-test.true (sym c.ignored-n.ensures) c.if-n-eq0.false)

pub returns : goal.returns
returns c = here_end _ _ c.loop-i-test.false ∙ ap (λ (t : Text). head_of t) (sym c.loop-i.invariant.1)
