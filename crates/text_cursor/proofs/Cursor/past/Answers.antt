-- `text_cursor::past` meets its contract.
use mathlib.Core.Path.{sym, ap, ◌∙◌}
use native.Mathlib.Omega.{arith}
use Rattle.text_cursor.specs.Reader.{moved_to}
use Rattle.text_cursor.proofs.ReaderLaws.{head_within, token_lies, moved_bad}
use Rattle.text_cursor.proofs.Cursor.past.Goals as goal

pub located-requires : goal.located-requires
located-requires c = rw c.next-t.ensures (head_within _ _ c.requires.0 c.requires.1)

pub returns-in_default : goal.returns-in_default
returns-in_default c = moved_bad _ _ _ _ _ _ c.located.ensures c.in_default.is c.next-t.ensures

pub overflow_cast-result : goal.overflow_cast-result
overflow_cast-result c = let l = token_lies _ _ _ _ _ c.requires.1 (sym c.next-t.ensures ∙ c.in-Ok.is) in omega arith

pub overflow_cast-result-2 : goal.overflow_cast-result-2
overflow_cast-result-2 c = let l = token_lies _ _ _ _ _ c.requires.1 (sym c.next-t.ensures ∙ c.in-Ok.is) in omega arith

pub returns : goal.returns
returns c = ap (moved_to _ _) (sym c.in-Ok.is ∙ c.next-t.ensures)
