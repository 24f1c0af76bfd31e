-- `text_references::base_type` meets its contract: each way out is a law of `BaseLaws`.
use mathlib.Core.Path.{refl}
use Rattle.std.specs.Prelude.{Err}
use Rattle.text_cursor.proofs.Exits.{handed_on}
use Rattle.text_references.proofs.MovedLaws.{end_within}
use Rattle.text_references.proofs.BaseLaws.{named_bad, bare_marked, named_stop, named_ready, named_says}
use Rattle.text_references.proofs.base_type.Goals as goal

pub past-requires : goal.past-requires
past-requires c = (c.requires.0.short, (end_within _ c.args.c c.requires.0.within c.requires.0.looks).1)

pub bang_if-requires : goal.bang_if-requires
bang_if-requires c = bare_marked _ _ _ c.requires.0 c.requires.1 c.requires.2 _ c.past.ensures _ c.in_ok-next.was

pub returns-in_err-w : goal.returns-in_err-w
returns-in_err-w c = rw (handed_on _ _ c.from_residual-in_err-w.ensures) (named_stop _ _ _ c.requires.0 c.requires.1 c.requires.2 _ c.past.ensures _ c.in_ok-next.was (Err _) _ c.in_err-w.ensures refl)

pub close_brackets-requires : goal.close_brackets-requires
close_brackets-requires c = named_ready _ _ _ c.requires.0 c.requires.1 c.requires.2 _ c.past.ensures _ c.in_ok-next.was c.bang_if.result _ c.bang_if.ensures c.in_ok-w.was

pub returns : goal.returns
returns c = named_says _ _ _ c.requires.0 c.requires.1 c.requires.2 _ c.past.ensures _ c.in_ok-next.was c.bang_if.result _ c.bang_if.ensures c.in_ok-w.was c.close_brackets.result c.close_brackets.ensures

pub returns-in_err-next : goal.returns-in_err-next
returns-in_err-next c = rw (handed_on _ _ c.from_residual.ensures) (named_bad _ _ _ c.requires.0 c.requires.1 c.requires.2 _ c.past.ensures _ c.in_err-next.was)
