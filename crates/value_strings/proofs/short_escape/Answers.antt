-- `value_strings::short_escape` meets its contract, byte by byte.
use mathlib.Core.Path.{sym, ap}
use mathlib.Core.Option.{some}
use mathlib.Core.List.{[], ◌∷◌}
use Rattle.paper_values.specs.Characters.{short_escape}
use Rattle.value_strings.proofs.ReadLaws.{reads_as, escapes_none}
use Rattle.value_strings.proofs.short_escape.Goals as goal

pub returns-then-b-eq34 : goal.returns-then-b-eq34
returns-then-b-eq34 c = let b = c.args.b in reads_as (some (34 ∷ [])) (short_escape b) 1 c.one.result (ap short_escape (sym c.if-b-eq34.true)) c.one.ensures

pub returns-then-b-eq92 : goal.returns-then-b-eq92
returns-then-b-eq92 c = let b = c.args.b in reads_as (some (92 ∷ [])) (short_escape b) 1 c.one-then-b-eq92.result (ap short_escape (sym c.if-b-eq92.true)) c.one-then-b-eq92.ensures

pub returns-then-b-eq47 : goal.returns-then-b-eq47
returns-then-b-eq47 c = let b = c.args.b in reads_as (some (47 ∷ [])) (short_escape b) 1 c.one-then-b-eq47.result (ap short_escape (sym c.if-b-eq47.true)) c.one-then-b-eq47.ensures

pub returns-then-b-eq98 : goal.returns-then-b-eq98
returns-then-b-eq98 c = let b = c.args.b in reads_as (some (8 ∷ [])) (short_escape b) 1 c.one-then-b-eq98.result (ap short_escape (sym c.if-b-eq98.true)) c.one-then-b-eq98.ensures

pub returns-then-b-eq102 : goal.returns-then-b-eq102
returns-then-b-eq102 c = let b = c.args.b in reads_as (some (12 ∷ [])) (short_escape b) 1 c.one-then-b-eq102.result (ap short_escape (sym c.if-b-eq102.true)) c.one-then-b-eq102.ensures

pub returns-then-b-eq110 : goal.returns-then-b-eq110
returns-then-b-eq110 c = let b = c.args.b in reads_as (some (10 ∷ [])) (short_escape b) 1 c.one-then-b-eq110.result (ap short_escape (sym c.if-b-eq110.true)) c.one-then-b-eq110.ensures

pub returns-then-b-eq114 : goal.returns-then-b-eq114
returns-then-b-eq114 c = let b = c.args.b in reads_as (some (13 ∷ [])) (short_escape b) 1 c.one-then-b-eq114.result (ap short_escape (sym c.if-b-eq114.true)) c.one-then-b-eq114.ensures

pub returns-then-b-eq116 : goal.returns-then-b-eq116
returns-then-b-eq116 c = let b = c.args.b in reads_as (some (9 ∷ [])) (short_escape b) 1 c.one-then-b-eq116.result (ap short_escape (sym c.if-b-eq116.true)) c.one-then-b-eq116.ensures

pub returns : goal.returns
returns c = escapes_none c.args.b c.if-b-eq34.false c.if-b-eq92.false c.if-b-eq47.false c.if-b-eq98.false c.if-b-eq102.false c.if-b-eq110.false c.if-b-eq114.false c.if-b-eq116.false
